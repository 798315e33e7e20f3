-- What the verdict says where it is as wished.
use Rattle.std.proofs.Common.{◌≡◌, ◌∙◌, inl, inr, ℕ, zero, suc, ◌<◌, Bool, true, false, ◌||◌, List, [], ◌∷◌, ◌++◌, map, length, get_or, refl, sym, ap, subst}
use Rattle.std.proofs.Common.{arith, Contains, if◌then◌else◌}
use Rattle.std.specs.List.{All, filter, flat_map, list_any, range_with_len}
use Rattle.std.proofs.lemmas.List.Elements.{All-append, All-cons, All-nil, All-head, All-tail, All-contains, Contains-append_left, Contains-append_right}
use Rattle.std.proofs.lemmas.List.FromFn.{length-range_with_len, get_or-range_with_len}
use Rattle.ltl_syntax.specs.declared.node.UnaryOp.TheVariants.{Not}
use Rattle.ltl_syntax.specs.Formula.{Formula, Unary}
use Rattle.ltl_word.specs.declared.trace.Trace.{Trace}
use Rattle.ltl_word.specs.Holds.{Satisfies}
use Rattle.ltl_word.specs.Laws.{EachIsDecided}
use Rattle.requirement_questions.specs.declared.leaving.Because.{Because}
use Rattle.requirement_questions.specs.declared.answering.QuestionAnswer.{QuestionAnswer}
use Rattle.requirement_questions.specs.declared.answering.QuestionAnswer.TheVariants as answers
use Rattle.requirement_questions.specs.Members.{places}
use Rattle.requirement_document.specs.declared.document.Role.{Role}
use Rattle.requirement_document.specs.declared.document.Role.TheVariants as roles
use Rattle.requirement_document.specs.Values.{DocumentValue}
use Rattle.requirement_answers.specs.declared.asking.Asking.{Asking}
use Rattle.requirement_answers.specs.declared.asking.Asking.TheVariants as askings
use Rattle.requirement_answers.specs.declared.findings.Break.{Break}
use Rattle.requirement_answers.specs.declared.findings.Report.{Report}
use Rattle.requirement_answers.specs.declared.findings.Scope.TheVariants as scopes
use Rattle.requirement_answers.specs.declared.judging.ReportVerdict.TheVariants as verdicts
use Rattle.requirement_answers.specs.Items.{numbers_of, role_of, formula_of, formulas_of, given_numbers}
use Rattle.requirement_answers.specs.Asking.{asked_of, given_for, asks_of, asks_about, covers_item, covers_behaviour, questions_of}
use Rattle.requirement_answers.specs.Answers.{CanBe, IsReason, IsAnswerTo, IsReply, AreConflicts, IsOpen}
use Rattle.requirement_answers.specs.Checks.{trace_of, AreFindings, IsCheck}
use Rattle.requirement_answers.specs.Reports.{IsReport}
use Rattle.requirement_answers.specs.Verdicts.{are_some, is_can, is_cannot, is_undecided, wrong_reply, open_reply, has_break, has_wrong, has_open, verdict}
use Rattle.requirement_answers.specs.Laws.{IsAsWished}
use Rattle.requirement_answers.proofs.Renumbered.{each_formula}

-- ---- tests that are false

neither : (a b : Bool)
    → (if a then verdicts.NotAsWished else (if b then verdicts.Undecided else verdicts.AsWished)) ≡ verdicts.AsWished → (a ≡ false) × (b ≡ false)
neither true b e = absurd (cc)
neither false true e = absurd (cc)
neither false false e = (refl, refl)

both_false : (a b : Bool) → (a || b) ≡ false → (a ≡ false) × (b ≡ false)
both_false true b e = absurd (cc)
both_false false b e = (refl, e)

none_of : {X : Type 0} (xs : List X) → are_some xs ≡ false → xs ≡ []
none_of [] e = refl
none_of (x ∷ xs) e = absurd (cc)

each_false : {X : Type 0} (p : X → Bool) (xs : List X) (x : X) → list_any p xs ≡ false → Contains xs x → p x ≡ false
each_false p [] x none (k, lt, e) = absurd (omega (arith, lt))
each_false p (y ∷ xs) x none (zero, lt, e) = ap p (sym e) ∙ (both_false (p y) (list_any p xs) none).0
each_false p (y ∷ xs) x none (suc k, lt, e) = each_false p xs x (both_false (p y) (list_any p xs) none).1 (k, omega (arith, lt), e)

-- ---- questions and answers that are there

in_map : {X Y : Type 0} (f : X → Y) (xs : List X) (y : Y) → Contains (map f xs) y → (x : X) × Contains xs x × (f x ≡ y)
in_map f [] y (k, lt, e) = absurd (omega (arith, lt))
in_map f (x ∷ xs) y (zero, lt, e) = (x, (zero, omega arith, refl), e)
in_map f (x ∷ xs) y (suc k, lt, e) =
    let w = in_map f xs y (k, omega (arith, lt), e) in
    (w.0, (suc w.1.0, omega (arith, w.1.1), w.1.2), w.2)

in_flat : {A : Type 0} (f : ℕ → List A) (ns : List ℕ) (n : ℕ) (y : A) → Contains ns n → Contains (f n) y → Contains (flat_map f ns) y
in_flat f [] n y (k, lt, e) here = absurd (omega (arith, lt))
in_flat f (m ∷ ns) n y (zero, lt, e) here = Contains-append_left (f m) (flat_map f ns) y (subst (λ j. Contains (f j) y) (sym e) here)
in_flat f (m ∷ ns) n y (suc k, lt, e) here = Contains-append_right (f m) (flat_map f ns) y (in_flat f ns n y (k, omega (arith, lt), e) here)

all_items : (ns : List ℕ) → filter (covers_item scopes.All) ns ≡ ns
all_items [] = refl
all_items (n ∷ ns) = ap (λ xs. n ∷ xs) (all_items ns)

all_behaviours : (ns : List ℕ) → filter (covers_behaviour scopes.All) ns ≡ ns
all_behaviours [] = refl
all_behaviours (n ∷ ns) = ap (λ xs. n ∷ xs) (all_behaviours ns)

in_row : (many b : ℕ) → b < many → Contains (range_with_len 0 many) b
in_row many b lt = (b, omega (arith, lt, length-range_with_len 0 many), omega (arith, get_or-range_with_len 0 many b b lt))

is_asked : (d : DocumentValue) (left : List ℕ) (n : ℕ) (role : Role) (a : Asking) → Contains (numbers_of d) n
    → role_of d n ≡ role → Contains (asks_of d left n role) a → Contains (questions_of d scopes.All left) a
is_asked d left n role a there is here =
    let one : Contains (asks_about d left n) a = subst (λ r. Contains (asks_of d left n r) a) (sym is) here in
    subst (λ ns. Contains (flat_map (asks_about d left) ns) a) (sym (all_items (numbers_of d))) (in_flat (asks_about d left) (numbers_of d) n a there one)

-- ---- what answers say

can_be : (d : DocumentValue) (given : List ℕ) (asked : List Formula) (a : QuestionAnswer) → IsAnswerTo d given asked a
    → is_cannot a ≡ false → is_undecided a ≡ false → (t : Trace) × CanBe d given asked t
can_be d given asked (answers.Can t) h can decided = (t, h)
can_be d given asked other h can decided = absurd (cc)

cannot_be : (d : DocumentValue) (given : List ℕ) (asked : List Formula) (a : QuestionAnswer) → IsAnswerTo d given asked a
    → is_can a ≡ false → is_undecided a ≡ false → (b : Because) × IsReason d given asked b
cannot_be d given asked (answers.Cannot b) h cannot decided = (b.value, h)
cannot_be d given asked other h cannot decided = absurd (cc)

not_cannot : (a : QuestionAnswer) → IsOpen a → is_cannot a ≡ false
not_cannot (answers.Cannot b) h = absurd h
not_cannot other h = refl

-- what satisfies the given items satisfies each of them
each_given : (P : Formula → Type 0) (d : DocumentValue) (given : List ℕ) → All P (formulas_of d given ++ []) → All (λ n. P (formula_of d n)) given
each_given P d [] all = All-nil (λ n. P (formula_of d n))
each_given P d (n ∷ ns) all =
    All-cons (λ m. P (formula_of d m)) n ns (All-head P (formula_of d n) (formulas_of d ns ++ []) all)
    (each_given P d ns (All-tail P (formula_of d n) (formulas_of d ns ++ []) all))

each_member : (P : ℕ → Type 0) (given members : List ℕ) → All P given → All (Contains given) members → All P members
each_member P given members all among k e lt = All-contains P given (get_or members k e) all (among k e lt)

holds : EachIsDecided → (d : DocumentValue) (given : List ℕ) (f : Formula) (b : Because) → IsReason d given (Unary Not f ∷ []) b → (t : Trace)
    → CanBe d given [] t → Satisfies t f
holds law d given f b w t s = elim (law t f 0 s.trace) [
  | inl h ↦ h
  | inr no' ↦
      let ms = places b.members.items in
      let all = each_formula (Satisfies t) d ms (each_member (λ n. Satisfies t (formula_of d n)) given ms (each_given (Satisfies t) d given s.each) w.among) in
      absurd (w.none t (record {
        trace = s.trace;
        of_kind = s.of_kind;
        each = All-append (Satisfies t) (formulas_of d ms) (Unary Not f ∷ []) all (All-cons (Satisfies t) (Unary Not f) [] no' (All-nil (Satisfies t)));
      }))
]

-- ---- behaviours without a break

kept_each : (d : DocumentValue) (t : Trace) (ns : List ℕ) (found : List Break) → found ≡ [] → AreFindings d t ns found
    → All (λ n. Satisfies t (formula_of d n)) ns
kept_each d t [] found none w = All-nil (λ n. Satisfies t (formula_of d n))
kept_each d t (n ∷ ns) found none ([], others, same, is, rest) =
    All-cons (λ m. Satisfies t (formula_of d m)) n ns is (kept_each d t ns others (sym same ∙ none) rest)
kept_each d t (n ∷ ns) found none (x ∷ first, others, same, is, rest) = absurd (cc)

-- ---- the law

module _ (law : EachIsDecided) (d : DocumentValue) (r : Report) (w : IsReport d scopes.All r) (is : verdict r ≡ verdicts.AsWished) where
  wrong : has_wrong r ≡ false
  wrong = (neither (has_wrong r) (has_open r) is).0

  open' : has_open r ≡ false
  open' = (neither (has_wrong r) (has_open r) is).1

  further : (list_any wrong_reply r.replies.items ≡ false) × (list_any has_break r.checks.items ≡ false)
  further = both_false (list_any wrong_reply r.replies.items) (list_any has_break r.checks.items) (both_false (are_some r.conflicts.items) _ wrong).1

  all_left : r.left.items ≡ given_numbers d
  all_left =
      subst (λ xs. AreConflicts d (given_numbers d) xs r.left.items) (none_of r.conflicts.items (both_false (are_some r.conflicts.items) _ wrong).0) w.conflicts

  undecided : (is_undecided r.together ≡ false) × (list_any open_reply r.replies.items ≡ false)
  undecided = both_false (is_undecided r.together) (list_any open_reply r.replies.items) open'

  -- the answer to a question that is asked
  record Answered (a : Asking) : Type 0 where
    answer : QuestionAnswer
    right : IsAnswerTo d (given_for (given_numbers d) a) (asked_of d a) answer
    good : wrong_reply (record { asking = a; answer = answer }) ≡ false
    decided : is_undecided answer ≡ false

  answered : (a : Asking) → Contains (questions_of d scopes.All r.left.items) a → Answered a
  answered a there =
      let found = in_map (λ p. p.asking) r.replies.items a (subst (λ xs. Contains xs a) (sym w.asked) there) in
      let p = found.0 in
      let reply = All-contains (IsReply d r.left.items) r.replies.items p w.answered found.1 in
      let at_left = subst (λ xs. IsAnswerTo d (given_for xs p.asking) (asked_of d p.asking) p.answer) all_left reply in
      record {
        answer = p.answer;
        right = subst (λ q. IsAnswerTo d (given_for (given_numbers d) q) (asked_of d q) p.answer) found.2 at_left;
        good = subst (λ q. wrong_reply (record { asking = q; answer = p.answer }) ≡ false) found.2 (each_false wrong_reply r.replies.items p further.0 found.1);
        decided = each_false open_reply r.replies.items p undecided.1 found.1;
      }

  pub is_as_wished : IsAsWished d
  is_as_wished = record {
    met = subst (λ xs. (t : Trace) × CanBe d xs [] t) all_left (can_be d r.left.items [] r.together w.together (not_cannot r.together w.settled) undecided.0);
    possible = λ n there role.
        let a = answered (askings.Possible n) (is_asked d r.left.items n roles.Allow (askings.Possible n) there role (zero, omega arith, refl)) in
        can_be d (given_numbers d) (formula_of d n ∷ []) a.answer a.right a.good a.decided;
    follows = λ n there role t s.
        let a = answered (askings.Follows n) (is_asked d r.left.items n roles.Ensure (askings.Follows n) there role (zero, omega arith, refl)) in
        let no' = cannot_be d (given_numbers d) (Unary Not (formula_of d n) ∷ []) a.answer a.right a.good a.decided in
        holds law d (given_numbers d) (formula_of d n) no'.0 no'.1 t s;
    kept = λ b n lt given.
        let row = subst (λ xs. Contains xs b) (sym (all_behaviours (range_with_len 0 (length d.behaviours)))) (in_row (length d.behaviours) b lt) in
        let found = in_map (λ c. c.behaviour) r.checks.items b (subst (λ xs. Contains xs b) (sym w.recorded) row) in
        let c = found.0 in
        let none = none_of c.breaks.items (each_false has_break r.checks.items c further.1 found.1) in
        let check = subst (λ m. AreFindings d (trace_of d m) (given_numbers d) c.breaks.items) found.2
        (All-contains (IsCheck d) r.checks.items c w.checked found.1) in
        All-contains (λ m. Satisfies (trace_of d b) (formula_of d m)) (given_numbers d) n
        (kept_each d (trace_of d b) (given_numbers d) c.breaks.items none check) given;
  }
