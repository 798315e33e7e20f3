-- A state with the names of the sources that are true, one source after the other.
use Rattle.std.proofs.Common.{◌≡◌, ℕ, ◌+◌, ◌<◌, ◌↔◌, ◌⊎◌, inl, inr, sym, ◌∙◌, ap, subst, arith, Bool, false, IsTrue, List, [], ◌∷◌, ◌++◌, length, length-append}
use Rattle.std.proofs.Common.{slice_index_or, Contains}
use Rattle.std.proofs.Math.ListN.{get_or-append}
use Rattle.std.proofs.Math.Seq.{get_or-append_seam}
use Rattle.std.proofs.lemmas.Bool.{cases_lt}
use Rattle.std.proofs.lemmas.List.Elements.{Contains-append_left, Contains-append_right, Contains-append_cases}
use Rattle.ltl_word.specs.declared.trace.Trace.{Trace}
use Rattle.ltl_word.specs.Trace.{Names, state_at}
use Rattle.depast.specs.declared.lifting.Meanings.{Meanings}
use Rattle.depast.specs.Sources.{shown, IsShown, IsLiftedState, blank_source}
use Rattle.depast.specs.States.{AreOthers}
use Rattle.ltl_syntax.proofs.Members.{Contains-nil, Contains-cons_cases, Contains-here}

module _ (m : Meanings) (names old : Names) (i : ℕ) where
  -- the names of a state without new ones, with those of the first n sources that are true
  abbrev pub Told : ℕ → Names → Type 0
  Told n items = (name : List ℕ) → Contains items name ↔ ((Contains old name × (Contains m.new name → ⊥)) ⊎ IsShown m names i n name)

  pub none_shown : (items : Names) → AreOthers m.new old items → Told 0 items
  none_shown items are name = (
    λ c. inl ((are name).0 c),
    λ s. elim s [ inl w ↦ (are name).1 w | inr w ↦ let lt = w.1 in absurd (omega arith) ],
  )

  abbrev value : ℕ → Bool
  value k = shown m.values (slice_index_or m.sources.items k blank_source) i

  more : (n : ℕ) (name : List ℕ) → IsShown m names i n name → IsShown m names i (n + 1) name
  more n name w = (w.0, let lt = w.1 in omega arith, w.2, w.3)

  last_or_before : (n : ℕ) (name : List ℕ) → IsShown m names i (n + 1) name → IsShown m names i n name ⊎ ((name ≡ slice_index_or names n []) × IsTrue (value n))
  last_or_before n name w = elim (cases_lt w.0 n) [
    | inl before ↦ inl (w.0, before, w.2, w.3)
    | inr after ↦
        let e : w.0 ≡ n = let lt = w.1 in omega arith in
        inr (w.2 ∙ ap (λ k. slice_index_or names k []) e, subst (λ k. IsTrue (value k)) e w.3)
  ]

  one_of : (x name : List ℕ) → Contains (x ∷ []) name → x ≡ name
  one_of x name c = elim (Contains-cons_cases x [] name c) [ inl e ↦ e | inr r ↦ absurd (Contains-nil name r) ]

  pub one_shown : (n : ℕ) (items items' : Names) (x : List ℕ) → Told n items → items' ≡ items ++ x ∷ [] → x ≡ slice_index_or names n [] → IsTrue (value n)
      → Told (n + 1) items'
  one_shown n items items' x told e is true_there = subst (Told (n + 1)) (sym e) (λ name. (
    λ c. elim (Contains-append_cases items (x ∷ []) name c) [
      | inl l ↦ elim ((told name).0 l) [ inl w ↦ inl w | inr w ↦ inr (more n name w) ]
      | inr r ↦ inr (n, omega arith, sym (one_of x name r) ∙ is, true_there)
    ],
    λ s. elim s [
      | inl w ↦ Contains-append_left items (x ∷ []) name ((told name).1 (inl w))
      | inr w ↦ elim (last_or_before n name w) [
        | inl before ↦ Contains-append_left items (x ∷ []) name ((told name).1 (inr before))
        | inr last ↦ Contains-append_right items (x ∷ []) name (subst (Contains (x ∷ [])) (is ∙ sym last.0) (Contains-here x []))
      ]
    ],
  ))

  pub one_hidden : (n : ℕ) (items : Names) → Told n items → value n ≡ false → Told (n + 1) items
  one_hidden n items told no_value name = (
    λ c. elim ((told name).0 c) [ inl w ↦ inl w | inr w ↦ inr (more n name w) ],
    λ s. elim s [
      | inl w ↦ (told name).1 (inl w)
      | inr w ↦ elim (last_or_before n name w) [
        | inl before ↦ (told name).1 (inr before)
        | inr last ↦ let t = last.1 in absurd (cc)
      ]
    ],
  )

  pub all_shown : (n : ℕ) (items state : Names) → Told n items → n ≡ length m.sources.items → ((name : List ℕ) → Contains state name ↔ Contains items name)
      → IsLiftedState m names old i state
  all_shown n items state told e same =
      let whole : Told (length m.sources.items) items = subst (λ k. Told k items) e told in
      λ name. (λ c. (whole name).0 ((same name).0 c), λ s. (same name).1 ((whole name).1 s))

-- ---- one state more

module _ (m : Meanings) (names : Names) (t : Trace) (first : ℕ) where
  abbrev IsStateAt : ℕ → Names → Type 0
  IsStateAt i state = IsLiftedState m names (state_at t (first + i)) (first + i) state

  pub lifted_more : (states states' : List Names) (state : Names) (position : ℕ)
      → states' ≡ states ++ state ∷ [] → first + length states ≡ position → ((i : ℕ) → i < length states → IsStateAt i (slice_index_or states i []))
      → IsLiftedState m names (state_at t position) position state → (i : ℕ) → i < length states' → IsStateAt i (slice_index_or states' i [])
  lifted_more states states' state position e at each is i lt =
      subst (λ xs. IsStateAt i (slice_index_or xs i [])) (sym e) (elim (cases_lt i (length states)) [
        | inl before ↦ subst (IsStateAt i) (sym (get_or-append states (state ∷ []) [] i before)) (each i before)
        | inr after ↦
            let here : length states ≡ i = let l = ap length e in let k = length-append states (state ∷ []) in omega arith in
            subst (λ k. IsStateAt k (slice_index_or (states ++ state ∷ []) k [])) here
            (subst (IsStateAt (length states)) (sym (get_or-append_seam states state [] []))
            (subst (λ p. IsLiftedState m names (state_at t p) p state) (sym at) is))
      ])
