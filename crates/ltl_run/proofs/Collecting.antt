-- One more entry, one more name and one more state in the loops that collect the names.
use Rattle.std.proofs.Common.{◌≡◌, ℕ, ◌+◌, ◌<◌, ◌↔◌, Bool, false, List, [], ◌∷◌, ◌++◌, length, get_or, take, Option, Some, None, slice_get, Contains, All}
use Rattle.std.proofs.Common.{IsTrue, Result, Ok, Err, IfOk, refl, sym, ◌∙◌, ap, subst, arith, inl, inr}
use Rattle.std.proofs.lemmas.Bool.{cases_lt}
use Rattle.std.proofs.lemmas.List.{take_more, length-append}
use Rattle.std.proofs.lemmas.List.Elements.{All-append, All-cons, All-nil, Contains-push, Contains-push_cases, Contains-append_left}
use Rattle.std.proofs.Math.ListN.{get_or-append}
use Rattle.std.proofs.Math.Seq.{get_or-append_seam}
use Rattle.ltl_word.specs.Trace.{Names}
use Rattle.ltl_closure.specs.declared.entry.Entry.{Entry}
use Rattle.ltl_run.specs.declared.run_state.RunState.{RunState}
use Rattle.ltl_run.specs.Shown.{entry_name, name_before, entry_names, IsSmall, IsChosen, HasChosen, HaveChosen}

before_append : (o : Option (List ℕ)) (a b : Names) → name_before o (a ++ b) ≡ name_before o a ++ b
before_append (Some name) a b = refl
before_append None a b = refl

entry_names_push : (known : Names) (xs : List Entry) (x : Entry)
    → entry_names known (xs ++ x ∷ []) ≡ entry_names known xs ++ name_before (entry_name known x) []
entry_names_push known [] x = refl
entry_names_push known (y ∷ ys) x =
    ap (name_before (entry_name known y)) (entry_names_push known ys x) ∙ before_append (entry_name known y) (entry_names known ys) _

pub names_more : (known : Names) (xs : List Entry) (i : ℕ) (d : Entry) → i < length xs
    → entry_names known (take (i + 1) xs) ≡ entry_names known (take i xs) ++ name_before (entry_name known (get_or xs i d)) []
names_more known xs i d lt = ap (entry_names known) (take_more xs i d lt) ∙ entry_names_push known (take i xs) (get_or xs i d)

pub small_more : (xs : List Entry) (i : ℕ) (d : Entry) → i < length xs → All IsSmall (take i xs) → IsSmall (get_or xs i d) → All IsSmall (take (i + 1) xs)
small_more xs i d lt h x = subst (All IsSmall) (sym (take_more xs i d lt))
    (All-append IsSmall (take i xs) (get_or xs i d ∷ []) h (All-cons IsSmall (get_or xs i d) [] x (All-nil IsSmall)))

module _ (names : Names) (values : List Bool) (i : ℕ) (acc : Names) (h : (name : List ℕ) → Contains acc name ↔ IsChosen names values i name) where
  -- a value that is true adds its name
  pub chosen_more : (x : List ℕ) → IsTrue (get_or values i false) → get_or names i [] ≡ x → (name : List ℕ)
      → Contains (acc ++ x ∷ []) name ↔ IsChosen names values (i + 1) name
  chosen_more x v e name = (
    λ c. elim (Contains-push_cases acc x name c) [
      | inl old ↦ let w = (h name).0 old in (w.0, omega arith, w.2, w.3)
      | inr new ↦ (i, omega arith, v, e ∙ new)
    ],
    λ w. elim (cases_lt w.0 i) [
      | inl lt ↦ Contains-append_left acc (x ∷ []) name ((h name).1 (w.0, lt, w.2, w.3))
      | inr ge ↦
          let here : w.0 ≡ i = omega (arith, w.1) in
          let same : x ≡ name = sym e ∙ subst (λ k. get_or names k [] ≡ name) here w.3 in
          subst (Contains (acc ++ x ∷ [])) same (Contains-push acc x)
    ],
  )

  -- one that is false adds none
  pub chosen_same : get_or values i false ≡ false → (name : List ℕ) → Contains acc name ↔ IsChosen names values (i + 1) name
  chosen_same v name = (
    λ c. let w = (h name).0 c in (w.0, omega arith, w.2, w.3),
    λ w. elim (cases_lt w.0 i) [
      | inl lt ↦ (h name).1 (w.0, lt, w.2, w.3)
      | inr ge ↦
          let here : w.0 ≡ i = omega (arith, w.1) in
          let t : IsTrue (get_or values i false) = subst (λ k. IsTrue (get_or values k false)) here w.2 in
          absurd (cc)
    ],
  )

pub if_ok_more : {A E : Type 0} {P Q : A → Type 0} → ((x : A) → P x → Q x) → (r : Result A E) → IfOk r P → IfOk r Q
if_ok_more f (Ok x) h = f x h
if_ok_more f (Err e) h = tt

pub states_more : (names : Names) (states : List RunState) (n : ℕ) (shown : List Names) (s : RunState) (x : Names) → HaveChosen names states n shown
    → slice_get states n ≡ Some s → HasChosen names s x → HaveChosen names states (n + 1) (shown ++ x ∷ [])
states_more names states n shown s x have at chosen = record {
  count = omega (arith, have.count, length-append shown (x ∷ []));
  each = λ i u lt e. elim (cases_lt i n) [
    | inl old ↦
        let m = have.count in
        subst (HasChosen names u) (sym (get_or-append shown (x ∷ []) [] i (omega arith))) (have.each i u old e)
    | inr new ↦
        let m = have.count in
        let here : i ≡ length shown = omega arith in
        let there : i ≡ n = omega arith in
        let same : Some s ≡ Some u = sym at ∙ subst (λ k. slice_get states k ≡ Some u) there e in
        subst (HasChosen names u) (sym (ap (λ k. get_or (shown ++ x ∷ []) k []) here ∙ get_or-append_seam shown x [] []))
        (subst (λ v. HasChosen names v x) (inside s u same) chosen)
  ];
} where
  inside : (s u : RunState) → Some s ≡ Some u → s ≡ u
  inside s u e = cc
