-- `depast` has an answer: a trace that was read is lifted, and sets in the place of the lifted lists of names make one whose text reads back.
use Rattle.std.proofs.Common.{◌≡◌, ◌≢◌, ◌↔◌, ◌∙◌, ℕ, zero, suc, ◌+◌, ◌-◌, ◌%◌, ◌<◌, ◌≤◌, nat_lt, if◌then◌else◌, inl, inr, Bool, true, false, List, [], ◌∷◌}
use Rattle.std.proofs.Common.{length, get_or, Option, Some, None, Result, Ok, Err, IsUtf8, Contains, refl, sym, ap₂, subst, arith}
use Rattle.std.proofs.lemmas.Bool.{cases_lt}
use Rattle.ltl_syntax.specs.declared.node.Kind.{Kind}
use Rattle.ltl_syntax.specs.declared.node.Kind.TheVariants as kinds
use Rattle.ltl_syntax.specs.Formula.{Formula}
use Rattle.ltl_syntax.specs.Size.{formula_size}
use Rattle.ltl_lexer.specs.Tokens.{IsWord}
use Rattle.ltl_word.specs.declared.trace.Trace.{Trace}
use Rattle.ltl_word.specs.declared.trace.Trace.TheVariants.{Infinite, Finite}
use Rattle.ltl_word.specs.declared.json.TraceFault.{TraceFault}
use Rattle.ltl_word.specs.declared.json.TraceFault.TheVariants as trace_faults
use Rattle.ltl_word.specs.Trace.{Names, IsOfKind, IsPosition, state_at}
use Rattle.ltl_word.specs.Json.{AreSetsOf, IsTraceOf, IsReading}
use Rattle.ltl_word.specs.Laws.{EachIsRead}
use Rattle.ltl_word.proofs.Search.{first_or_none}
use Rattle.ltl_word.proofs.Sets.{sets_of, sets_length}
use Rattle.lasso_eval.specs.Cells.{cells, max_cells}
use Rattle.depast.specs.Names.{most_leading, new_name}
use Rattle.depast.specs.Depast.{taken, depast}
use Rattle.depast.specs.Lifting.{HasLiftedShape, IsLifted}
use Rattle.ltl_word.specs.Depth.{past_depth}
use Rattle.depast.specs.Laws.{TracesAreLifted, FewWhereSmall}
use Rattle.report.specs.declared.fault.Fault.TheVariants as faults
use Rattle.report.specs.Texts.{ReadsBack}
use Rattle.program_input.proofs.SomeParts.{EachHasOutcome, accepted_or_refused, cut_or_not}
use Rattle.black_top.specs.Answer.{Answer, refused, depasted, lifted}
use Rattle.black_top.specs.Depast.{IsRaised, not_json, not_trace, empty_loop, empty_states, many_cells, raised, IsShownBy, IsWithout, too_large, small}
use Rattle.black_top.specs.Depast.{IsPartAnswer, unread, accepted, IsDepasted}
use Rattle.black_top.proofs.NewNames.{read_again, new_word}
use Rattle.black_top.proofs.OneLifted.{text_decided, in_stem, in_loop, lifted_trace}
use Rattle.black_top.proofs.ReadAgain.{AreTexts, AreGood, IsGood, reads_back}
use Rattle.black_top.proofs.ReadTexts.{written_texts}
use Rattle.black_top.proofs.Written.{read_trace}

-- ---- sets in the place of lists

same_members : (xs ys : List Names) → AreSetsOf xs ys → (k : ℕ) (n : List ℕ) → Contains (get_or ys k []) n ↔ Contains (get_or xs k []) n
same_members [] [] h k n = (λ c. c, λ c. c)
same_members [] (y ∷ ys) h k n = absurd h
same_members (x ∷ xs) [] h k n = absurd h
same_members (x ∷ xs) (y ∷ ys) h zero n = h.0.1 n
same_members (x ∷ xs) (y ∷ ys) h (suc k) n = same_members xs ys h.1 k n

same_names : (v u : Trace) → IsTraceOf v u → (i : ℕ) (n : List ℕ) → Contains (state_at u i) n ↔ Contains (state_at v i) n
same_names (Finite xs) (Finite ys) h i n = same_members xs ys h i n
same_names (Finite xs) (Infinite ys yl) h i n = absurd h
same_names (Infinite xs xl) (Finite ys) h i n = absurd h
same_names (Infinite xs xl) (Infinite ys yl) h i n =
    let stems = sets_length xs ys h.0 in
    let loops = sets_length xl yl h.1 in
    let place : state_at (Infinite ys yl) i ≡ (if nat_lt i (length xs) then get_or ys i [] else get_or yl ((i - length xs) % length xl) []) =
    ap₂ (λ a b. if nat_lt i a then get_or ys i [] else get_or yl ((i - a) % b) []) stems loops in
    subst (λ s. Contains s n ↔ Contains (state_at (Infinite xs xl) i) n) (sym place) (go (nat_lt i (length xs)))
  where
    go : (b : Bool) → Contains (if b then get_or ys i [] else get_or yl ((i - length xs) % length xl) []) n
        ↔ Contains (if b then get_or xs i [] else get_or xl ((i - length xs) % length xl) []) n
    go true = same_members xs ys h.0 i n
    go false = same_members xl yl h.1 ((i - length xs) % length xl) n

set_trace : (v : Trace) → (u : Trace) × IsTraceOf v u
set_trace (Finite xs) = let w = sets_of xs in (Finite w.0, w.1)
set_trace (Infinite xs xl) = let w = sets_of xs in let v = sets_of xl in (Infinite w.0 v.0, (w.1, v.1))

still_lifted : (f : Formula) (t v u : Trace) → IsLifted f t v → IsTraceOf v u → IsLifted f t u
still_lifted f t v u h of = record {
  shape = shaped t v u h.shape of;
  old_names = λ i at name old. let a = same_names v u of i name in let b = h.old_names i at name old in (λ c. b.0 (a.0 c), λ c. a.1 (b.1 c));
  new_names = λ i at k lt.
      let a = same_names v u of i (new_name (most_leading f) k) in
      let b = h.new_names i at k lt in
      (λ c. b.0 (a.0 c), λ c. a.1 (b.1 c));
}
  where
    shaped : (t v u : Trace) → HasLiftedShape (past_depth f) t v → IsTraceOf v u → HasLiftedShape (past_depth f) t u
    shaped (Finite s) (Finite xs) (Finite ys) h of = sets_length xs ys of ∙ h
    shaped (Finite s) (Finite xs) (Infinite ys yl) h of = absurd of
    shaped (Finite s) (Infinite xs xl) u h of = absurd h
    shaped (Infinite s l) (Finite xs) u h of = absurd h
    shaped (Infinite s l) (Infinite xs xl) (Finite ys) h of = absurd of
    shaped (Infinite s l) (Infinite xs xl) (Infinite ys yl) h of = (sets_length xs ys of.0 ∙ h.0, sets_length xl yl of.1 ∙ h.1)

-- ---- their names are text

sets_good : (xs ys : List Names) → AreSetsOf xs ys → ((k : ℕ) → k < length ys → AreTexts (get_or ys k [])) → AreGood ys
sets_good [] [] h texts = tt
sets_good [] (y ∷ ys) h texts = absurd h
sets_good (x ∷ xs) [] h texts = absurd h
sets_good (x ∷ xs) (y ∷ ys) h texts = (h.0.0, texts 0 (omega arith), sets_good xs ys h.1 (λ k lt. texts (suc k) (omega arith)))

module _ (text : (bytes : List ℕ) → IsWord bytes → IsUtf8 bytes) (f : Formula) (t u : Trace) (h : IsLifted f t u)
    (read : (i : ℕ) → AreTexts (state_at t i)) where
  lifted_texts : (i : ℕ) → IsPosition t i → AreTexts (state_at u i)
  lifted_texts i at n c =
      elim (first_or_none (λ k. n ≡ new_name (most_leading f) k) (λ k. text_decided n (new_name (most_leading f) k)) (taken f)) [
        | inl w ↦ subst IsUtf8 (sym w.2) (text (new_name (most_leading f) w.0) (new_word (most_leading f) w.0))
        | inr old ↦ read i n ((h.old_names i at n old).0 c)
      ]

lifted_good : ((bytes : List ℕ) → IsWord bytes → IsUtf8 bytes) → (f : Formula) (t v u : Trace) → IsLifted f t u → ((i : ℕ) → AreTexts (state_at t i))
    → IsTraceOf v u → IsGood u
lifted_good text f (Finite s) (Finite xs) (Finite ys) h read of =
    sets_good xs ys of (λ k lt. let n = h.shape in lifted_texts text f (Finite s) (Finite ys) h read k (omega (arith, lt, n)))
lifted_good text f (Infinite s l) (Infinite xs xl) (Infinite ys yl) h read of =
    let t = Infinite s l in
    let u = Infinite ys yl in (
      sets_good xs ys of.0 (λ k lt. subst AreTexts (in_stem ys yl k lt) (lifted_texts text f t u h read k tt)),
      sets_good xl yl of.1 (λ k lt. subst AreTexts (in_loop ys yl k lt) (lifted_texts text f t u h read (length ys + k) tt)),
    )
lifted_good text f (Finite s) (Infinite xs xl) (Infinite ys yl) h read of = absurd h.shape
lifted_good text f (Finite s) (Infinite xs xl) (Finite ys) h read of = absurd of
lifted_good text f (Finite s) (Finite xs) (Infinite ys yl) h read of = absurd of
lifted_good text f (Infinite s l) (Finite xs) (Finite ys) h read of = absurd h.shape
lifted_good text f (Infinite s l) (Finite xs) (Infinite ys yl) h read of = absurd of
lifted_good text f (Infinite s l) (Infinite xs xl) (Finite ys) h read of = absurd of

-- ---- the answer

-- the laws below
pub record LiftingLaws : Type 0 where
  pub text : (bytes : List ℕ) → IsWord bytes → IsUtf8 bytes
  pub lifts : TracesAreLifted
  pub few : FewWhereSmall
  pub trace : EachIsRead

kind_of_trace : (t : Trace) → (kind : Kind) × IsOfKind t kind
kind_of_trace (Infinite stem again) = (kinds.Infinite, tt)
kind_of_trace (Finite states) = (kinds.Finite, tt)

module _ (outcome : EachHasOutcome) (laws : LiftingLaws) where
  some_lifted : (f : Formula) (text : List ℕ) (t : Trace) → formula_size (depast f) ≤ 16384 → IsReading text (Ok t) → (u : Trace) × IsLifted f t u × ReadsBack u
  some_lifted f text t few (written, json, is, of) =
      let good = read_trace text t (written, json, is, of) in
      let kind = kind_of_trace t in
      let v = laws.lifts f t kind.0 (laws.few f few) good kind.1 in
      let u = set_trace v.0 in
      let h = still_lifted f t v.0 u.0 v.3 u.1 in
      let read : (i : ℕ) → AreTexts (state_at t i) = λ i n c. written_texts text written json i n ((same_names written t of i n).0 c) in
      (u.0, h, reads_back u.0 (lifted_trace f t u.0 good h) (lifted_good laws.text f t v.0 u.0 h read u.1))

  some_raised : (f : Formula) (text : List ℕ) → formula_size (depast f) ≤ 16384 → (a : Answer) × IsRaised f text a
  some_raised f text few = let w = laws.trace text in by w.0 w.1 w.2
    where
      by : (r : Result Trace TraceFault) → r ≢ Err trace_faults.NoMemory → IsReading text r → (a : Answer) × IsRaised f text a
      by (Ok t) some h = elim (cases_lt max_cells (cells t f)) [
        | inl many ↦ (refused (faults.Cells (cells t f)), many_cells t (cells t f) h (refl, many))
        | inr within ↦ let w = some_lifted f text t few h in (lifted (depast f) w.0, raised t w.0 h within w.1 w.2)
      ]
      by (Err trace_faults.NotJson) some h = (refused faults.NotJson, not_json h)
      by (Err trace_faults.NotTrace) some h = (refused faults.NotTrace, not_trace h)
      by (Err trace_faults.EmptyLoop) some h = (refused faults.EmptyLoop, empty_loop h)
      by (Err trace_faults.EmptyStates) some h = (refused faults.EmptyStates, empty_states h)
      by (Err trace_faults.NoMemory) some h = absurd (some refl)

  some_shown : (f : Formula) (second : Option (List ℕ)) → formula_size (depast f) ≤ 16384 → (a : Answer) × IsShownBy f second a
  some_shown f None few = (depasted (depast f), refl)
  some_shown f (Some text) few = some_raised f text few

  some_without : (f : Formula) (second : Option (List ℕ)) → (a : Answer) × IsWithout f second a
  some_without f second = elim (cases_lt 16384 (formula_size (depast f))) [
    | inl large ↦ (refused (faults.PastNodes (formula_size (depast f))), too_large (formula_size (depast f)) (refl, large))
    | inr low ↦ let w = some_shown f second low in (w.0, small w.0 low w.1)
  ]

  some_part : (part : List ℕ) (second : Option (List ℕ)) → (a : Answer) × IsPartAnswer part second a
  some_part part second = elim (accepted_or_refused outcome part) [
    | inr (fault, h) ↦ (refused fault, unread fault h)
    | inl (f, read) ↦ let w = some_without f second in (w.0, accepted f w.0 read (read_again part f read) w.1)
  ]

  pub some_depasted : (bytes : List ℕ) → (a : Answer) × IsDepasted bytes a
  some_depasted bytes = elim (cut_or_not bytes) [
    | inr none ↦ let w = some_part bytes None in (w.0, (bytes, None, (none, refl), w.1))
    | inl (part, second, cut) ↦ let w = some_part part (Some second) in (w.0, (part, Some second, cut, w.1))
  ]
