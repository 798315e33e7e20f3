-- `system`: its answer is one, but for what shows it.
use Rattle.std.proofs.Common.{◌≡◌, ◌∙◌, ℕ, ◌+◌, ◌-◌, Bool, true, false, List, length, Option, Some, refl, sym, ap, subst, arith}
use Rattle.ltl_syntax.specs.declared.node.Kind.TheVariants as kinds
use Rattle.ltl_syntax.specs.Formula.{Formula}
use Rattle.ltl_parser.specs.Text.{ReadsText}
use Rattle.ltl_closure.specs.Run.{Sat, Unsat, Undecided}
use Rattle.ltl_run.specs.Laws.{VerdictIsOne}
use Rattle.enc_layout.specs.Limit.{IsInForce}
use Rattle.system_check.specs.System.{whole_of}
use Rattle.report.specs.declared.fault.Fault.{Fault}
use Rattle.report.specs.declared.fault.Fault.TheVariants as faults
use Rattle.report.specs.Texts.{Proof}
use Rattle.black_top.specs.Answer.{Answer, refused, no_path, undecided, shown_formula, AreAlike}
use Rattle.black_top.specs.Solve.{number_of}
use Rattle.black_top.specs.System.{AreParts, part_bytes, IsFaulty, lexical, grammar, HasFault, in_start, in_step, in_goal, ProvesWhole, IsDecided, pathless}
use Rattle.black_top.specs.System.{kept, broken, undecided_yet, IsSettled, too_large, no_start, no_step, too_deep, decided, IsSystemAnswer, unparted, too_long}
use Rattle.black_top.specs.System.{faulty, settled}
use Rattle.program_input.proofs.OneText.{TextLaws}
use Rattle.black_top.proofs.Solved.{one_limit, not_too_deep, sat_depth, unsat_depth, undecided_depth}
use Rattle.black_top.proofs.ThreeParts.{AreSame, same_parts, parts_or_few}

-- the formula that is printed with a certificate is one
one_formula : (cert : Bool) (whole : Formula) (j k : ℕ) (a b : Option Proof) → ProvesWhole cert whole j a → ProvesWhole cert whole k b
    → shown_formula a ≡ shown_formula b
one_formula false whole j k a b none none' = ap shown_formula none ∙ sym (ap shown_formula none')
one_formula true whole j k a b (text, is, lawful, how) (text', is', lawful', how') = ap shown_formula is ∙ sym (ap shown_formula is')

-- ---- at a limit

module _ (start step goal : Formula) (limit : ℕ) (cert : Bool) (one : VerdictIsOne) where
  pub one_decided : (a b : Answer) → IsDecided start step goal limit cert a → IsDecided start step goal limit cert b → AreAlike a b
  one_decided a b (pathless i h) (pathless i' h') = ap no_path (unsat_depth i i' (one _ kinds.Infinite limit (Unsat i) (Unsat i') h h'))
  one_decided a b (pathless i h) (kept i' p' u' h' l') = absurd (u' i h)
  one_decided a b (kept i p u h l) (pathless i' h') = absurd (u i' h')
  one_decided a b (pathless i h) (broken i' p' u' h' l' r') = absurd (u' i h)
  one_decided a b (broken i p u h l r) (pathless i' h') = absurd (u i' h')
  one_decided a b (pathless i h) (undecided_yet i' u' h') = absurd (u' i h)
  one_decided a b (undecided_yet i u h) (pathless i' h') = absurd (u i' h')
  one_decided a b (kept i p u h l) (kept i' p' u' h' l') =
      (unsat_depth i i' (one _ kinds.Infinite limit (Unsat i) (Unsat i') h h'), one_formula cert (whole_of start step goal) i i' p p' l l')
  one_decided a b (kept i p u h l) (broken i' p' u' h' l' r') = let e = one _ kinds.Infinite limit (Unsat i) (Sat i') h h' in absurd (cc)
  one_decided a b (kept i p u h l) (undecided_yet i' u' h') = let e = one _ kinds.Infinite limit (Unsat i) (Undecided i') h h' in absurd (cc)
  one_decided a b (broken i p u h l r) (kept i' p' u' h' l') = let e = one _ kinds.Infinite limit (Sat i) (Unsat i') h h' in absurd (cc)
  one_decided a b (broken i p u h l r) (broken i' p' u' h' l' r') = sat_depth i i' (one _ kinds.Infinite limit (Sat i) (Sat i') h h')
  one_decided a b (broken i p u h l r) (undecided_yet i' u' h') = let e = one _ kinds.Infinite limit (Sat i) (Undecided i') h h' in absurd (cc)
  one_decided a b (undecided_yet i u h) (kept i' p' u' h' l') = let e = one _ kinds.Infinite limit (Undecided i) (Unsat i') h h' in absurd (cc)
  one_decided a b (undecided_yet i u h) (broken i' p' u' h' l' r') = let e = one _ kinds.Infinite limit (Undecided i) (Sat i') h h' in absurd (cc)
  one_decided a b (undecided_yet i u h) (undecided_yet i' u' h') =
      ap undecided (undecided_depth i i' (one _ kinds.Infinite limit (Undecided i) (Undecided i') h h'))

-- ---- three formulas

module _ (wanted : Option ℕ) (cert : Bool) (start step goal : Formula) (one : VerdictIsOne) where
  pub one_settled : (a b : Answer) → IsSettled wanted cert start step goal a → IsSettled wanted cert start step goal b → AreAlike a b
  one_settled a b (too_large m) (too_large m') = refl
  one_settled a b (too_large m) (no_start m' n') = absurd (omega (arith, m, m'))
  one_settled a b (too_large m) (no_step m' p' n') = absurd (omega (arith, m, m'))
  one_settled a b (too_large m) (too_deep number' limit' m' is' e' force' less') = absurd (omega (arith, m, m'))
  one_settled a b (too_large m) (decided limit' answer' m' is' force' reach' h') = absurd (omega (arith, m, m'))
  one_settled a b (no_start m n) (too_large m') = absurd (omega (arith, m, m'))
  one_settled a b (no_start m n) (no_start m' n') = refl
  one_settled a b (no_start m n) (no_step m' p' n') = absurd (n p')
  one_settled a b (no_start m n) (too_deep number' limit' m' is' e' force' less') = absurd (n is'.start_form)
  one_settled a b (no_start m n) (decided limit' answer' m' is' force' reach' h') = absurd (n is'.start_form)
  one_settled a b (no_step m p n) (too_large m') = absurd (omega (arith, m, m'))
  one_settled a b (no_step m p n) (no_start m' n') = absurd (n' p)
  one_settled a b (no_step m p n) (no_step m' p' n') = refl
  one_settled a b (no_step m p n) (too_deep number' limit' m' is' e' force' less') = absurd (n is'.step_form)
  one_settled a b (no_step m p n) (decided limit' answer' m' is' force' reach' h') = absurd (n is'.step_form)
  one_settled a b (too_deep number limit m is e force less) (too_large m') = absurd (omega (arith, m, m'))
  one_settled a b (too_deep number limit m is e force less) (no_start m' n') = absurd (n' is.start_form)
  one_settled a b (too_deep number limit m is e force less) (no_step m' p' n') = absurd (n' is.step_form)
  one_settled a b (too_deep number limit m is e force less) (too_deep number' limit' m' is' e' force' less') =
      let same : Some number ≡ Some number' = sym e ∙ e' in
      let there : number' ≡ number = cc in
      ap (λ d. refused (faults.Letters d)) (one_limit (whole_of start step goal) kinds.Infinite number limit limit' force
      (subst (λ n. IsInForce (whole_of start step goal) kinds.Infinite n limit') there force'))
  one_settled a b (too_deep number limit m is e force less) (decided limit' answer' m' is' force' reach' h') =
      absurd (not_too_deep kinds.Infinite wanted (whole_of start step goal) number limit limit' e force less force' reach')
  one_settled a b (decided limit answer m is force reach h) (too_large m') = absurd (omega (arith, m, m'))
  one_settled a b (decided limit answer m is force reach h) (no_start m' n') = absurd (n' is.start_form)
  one_settled a b (decided limit answer m is force reach h) (no_step m' p' n') = absurd (n' is.step_form)
  one_settled a b (decided limit answer m is force reach h) (too_deep number' limit' m' is' e' force' less') =
      absurd (not_too_deep kinds.Infinite wanted (whole_of start step goal) number' limit' limit e' force' less' force reach)
  one_settled a b (decided limit answer m is force reach h) (decided limit' answer' m' is' force' reach' h') =
      let same = one_limit (whole_of start step goal) kinds.Infinite (number_of wanted) limit limit' force force' in
      one_decided start step goal limit cert one a b h (subst (λ d. IsDecided start step goal d cert b) (sym same) h')

-- ---- faults

module _ (laws : TextLaws) where
  one_faulty : (part : List ℕ) (place : ℕ) (a b : Fault) → IsFaulty part place a → IsFaulty part place b → a ≡ b
  one_faulty part place a b (lexical i h) (lexical j k) = ap (λ n. faults.Lexical (place + n)) (laws.one_lexical part i j h k)
  one_faulty part place a b (lexical i h) (grammar j k) = absurd (laws.lexical_not_grammar part i j h k)
  one_faulty part place a b (grammar i h) (lexical j k) = absurd (laws.lexical_not_grammar part j i k h)
  one_faulty part place a b (grammar i h) (grammar j k) = ap (λ n. faults.Grammar (place + n)) (laws.one_grammar part i j h k)

  pub faulty_unread : (part : List ℕ) (place : ℕ) (a : Fault) (f : Formula) → IsFaulty part place a → ReadsText part f → ⊥
  faulty_unread part place a f (lexical i h) r = laws.lexical_not_read part i f h r
  faulty_unread part place a f (grammar i h) r = laws.grammar_not_read part i f h r

  module _ (bytes behind start step goal : List ℕ) where
    pub one_fault : (a b : Fault) → HasFault bytes behind start step goal a → HasFault bytes behind start step goal b → a ≡ b
    one_fault a b (in_start h) (in_start k) = one_faulty start 0 a b h k
    one_fault a b (in_start h) (in_step f r k) = absurd (faulty_unread start 0 a f h r)
    one_fault a b (in_start h) (in_goal f g r s k) = absurd (faulty_unread start 0 a f h r)
    one_fault a b (in_step f r h) (in_start k) = absurd (faulty_unread start 0 b f k r)
    one_fault a b (in_step f r h) (in_step f' r' k) = one_faulty step (length bytes - length behind) a b h k
    one_fault a b (in_step f r h) (in_goal f' g' r' s' k) = absurd (faulty_unread step (length bytes - length behind) a g' h s')
    one_fault a b (in_goal f g r s h) (in_start k) = absurd (faulty_unread start 0 b f k r)
    one_fault a b (in_goal f g r s h) (in_step f' r' k) = absurd (faulty_unread step (length bytes - length behind) b g k s)
    one_fault a b (in_goal f g r s h) (in_goal f' g' r' s' k) = one_faulty goal (length bytes - length goal) a b h k

    pub fault_unread : (a : Fault) (f g h : Formula) → HasFault bytes behind start step goal a → ReadsText start f → ReadsText step g → ReadsText goal h → ⊥
    fault_unread a f g h (in_start k) r s t = faulty_unread start 0 a f k r
    fault_unread a f g h (in_step f' r' k) r s t = faulty_unread step (length bytes - length behind) a g k s
    fault_unread a f g h (in_goal f' g' r' s' k) r s t = faulty_unread goal (length bytes - length goal) a h k t

  -- ---- the bytes

  module _ (bytes start step goal start' step' goal' : List ℕ) (p : AreParts bytes start step goal) (q : AreParts bytes start' step' goal') where
    same : AreSame bytes start step goal start' step' goal' p q
    same = same_parts bytes start step goal start' step' goal' p q

    pub same_bytes : part_bytes start' step' goal' ≡ part_bytes start step goal
    same_bytes = let s = same in omega (arith, ap length s.start_same, ap length s.step_same, ap length s.goal_same)

    pub same_fault : (a : Fault) → HasFault bytes q.behind start' step' goal' a → HasFault bytes p.behind start step goal a
    same_fault a h =
        let s = same in
        subst (λ b. HasFault bytes b start step goal a) (sym s.behind)
        (subst (λ x. HasFault bytes q.behind x step goal a) (sym s.start_same)
        (subst (λ x. HasFault bytes q.behind start' x goal a) (sym s.step_same)
        (subst (λ x. HasFault bytes q.behind start' step' x a) (sym s.goal_same) h)))

    pub same_start : (f : Formula) → ReadsText start' f → ReadsText start f
    same_start f r = subst (λ x. ReadsText x f) (sym same.start_same) r

    pub same_step : (f : Formula) → ReadsText step' f → ReadsText step f
    same_step f r = subst (λ x. ReadsText x f) (sym same.step_same) r

    pub same_goal : (f : Formula) → ReadsText goal' f → ReadsText goal f
    same_goal f r = subst (λ x. ReadsText x f) (sym same.goal_same) r

  pub one_system_answer : (wanted : Option ℕ) (cert : Bool) (bytes : List ℕ) → VerdictIsOne → (a b : Answer) → IsSystemAnswer wanted cert bytes a
      → IsSystemAnswer wanted cert bytes b → AreAlike a b
  one_system_answer wanted cert bytes one a b (unparted n) (unparted m) = refl
  one_system_answer wanted cert bytes one a b (unparted n) (too_long s t g q long) = absurd (parts_or_few bytes s t g q n)
  one_system_answer wanted cert bytes one a b (unparted n) (faulty s t g fault q short h) = absurd (parts_or_few bytes s t g q n)
  one_system_answer wanted cert bytes one a b (unparted n) (settled s t g f f' f'' answer q short r r' r'' h) = absurd (parts_or_few bytes s t g q n)
  one_system_answer wanted cert bytes one a b (too_long s t g p long) (unparted n) = absurd (parts_or_few bytes s t g p n)
  one_system_answer wanted cert bytes one a b (faulty s t g fault p short h) (unparted n) = absurd (parts_or_few bytes s t g p n)
  one_system_answer wanted cert bytes one a b (settled s t g f f' f'' answer p short r r' r'' h) (unparted n) = absurd (parts_or_few bytes s t g p n)
  one_system_answer wanted cert bytes one a b (too_long s t g p long) (too_long s' t' g' q long') = refl
  one_system_answer wanted cert bytes one a b (too_long s t g p long) (faulty s' t' g' fault q short h) = let e = same_bytes bytes s t g s' t' g' p q in
      absurd (omega (arith, e, long, short))
  one_system_answer wanted cert bytes one a b (too_long s t g p long) (settled s' t' g' f f' f'' answer q short r r' r'' h) = let e =
      same_bytes bytes s t g s' t' g' p q in absurd (omega (arith, e, long, short))
  one_system_answer wanted cert bytes one a b (faulty s t g fault p short h) (too_long s' t' g' q long) = let e = same_bytes bytes s t g s' t' g' p q in
      absurd (omega (arith, e, long, short))
  one_system_answer wanted cert bytes one a b (settled s t g f f' f'' answer p short r r' r'' h) (too_long s' t' g' q long) = let e =
      same_bytes bytes s t g s' t' g' p q in absurd (omega (arith, e, long, short))
  one_system_answer wanted cert bytes one a b (faulty s t g fault p short h) (faulty s' t' g' fault' q short' k) =
      ap refused (one_fault bytes p.behind s t g fault fault' h (same_fault bytes s t g s' t' g' p q fault' k))
  one_system_answer wanted cert bytes one a b (faulty s t g fault p short h) (settled s' t' g' f f' f'' answer q short' r r' r'' k) =
      absurd (fault_unread bytes p.behind s t g fault f f' f'' h (same_start bytes s t g s' t' g' p q f r) (same_step bytes s t g s' t' g' p q f' r')
      (same_goal bytes s t g s' t' g' p q f'' r''))
  one_system_answer wanted cert bytes one a b (settled s t g f f' f'' answer p short r r' r'' h) (faulty s' t' g' fault q short' k) =
      absurd (fault_unread bytes p.behind s t g fault f f' f'' (same_fault bytes s t g s' t' g' p q fault k) r r' r'')
  one_system_answer wanted cert bytes one a b (settled s t g f f' f'' answer p short r r' r'' h) (settled s' t' g' i i' i'' answer' q short' x x' x'' k) =
      let start_same = laws.one_formula s f i r (same_start bytes s t g s' t' g' p q i x) in
      let step_same = laws.one_formula t f' i' r' (same_step bytes s t g s' t' g' p q i' x') in
      let goal_same = laws.one_formula g f'' i'' r'' (same_goal bytes s t g s' t' g' p q i'' x'') in
      one_settled wanted cert f f' f'' one a b h
      (subst (λ z. IsSettled wanted cert z f' f'' b) (sym start_same)
      (subst (λ z. IsSettled wanted cert i z f'' b) (sym step_same) (subst (λ z. IsSettled wanted cert i i' z b) (sym goal_same) k)))
