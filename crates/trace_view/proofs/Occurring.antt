-- The names of the states that are shown are the letters that occur.
use Rattle.std.proofs.Common.{◌≡◌, ◌↔◌, ℕ, zero, suc, ◌+◌, ◌-◌, ◌<◌, List, [], ◌∷◌, ◌++◌, length, get_or, Contains, ap, ap₂, sym, subst, ◌∙◌, arith, inl, inr}
use Rattle.std.proofs.Common.{Result, Ok, Err, IfOk}
use Rattle.std.specs.declared.alloc.AllocError.{AllocError}
use Rattle.std.proofs.lemmas.Bool.{cases_lt}
use Rattle.std.proofs.lemmas.List.Elements.{Contains-append_left, Contains-append_right, Contains-append_cases}
use Rattle.ltl_word.specs.declared.trace.Trace.{Trace}
use Rattle.ltl_word.specs.declared.trace.Trace.TheVariants.{Infinite, Finite}
use Rattle.ltl_word.specs.Trace.{Names}
use Rattle.trace_view.specs.Grid.{Occurs}
use Rattle.trace_view.specs.Letters.{all_names}
use Rattle.trace_view.proofs.Cells.{in_stem, in_loop}

-- a name of some state
abbrev Stands : List Names → List ℕ → Type 0
Stands states name = (i : ℕ) × (i < length states) × Contains (get_or states i []) name

pub standing : (states : List Names) (name : List ℕ) → Contains (all_names states) name → Stands states name
standing [] name (k, lt, at) = absurd (omega arith)
standing (state ∷ states) name c = elim (Contains-append_cases state (all_names states) name c) [
  | inl here ↦ (0, omega arith, here)
  | inr later ↦ let found = standing states name later in (suc found.0, omega (arith, found.1), found.2)
]

pub among_names : (states : List Names) (name : List ℕ) (i : ℕ) → i < length states → Contains (get_or states i []) name → Contains (all_names states) name
among_names [] name i lt c = absurd (omega arith)
among_names (state ∷ states) name zero lt c = Contains-append_left state (all_names states) name c
among_names (state ∷ states) name (suc i) lt c = Contains-append_right state (all_names states) name (among_names states name i (omega arith) c)

-- those of the stem and then those of the loop
pub occurs_in_parts : (stem loop_part : List Names) (name : List ℕ)
    → Contains (all_names stem ++ all_names loop_part) name ↔ Occurs (Infinite stem loop_part) name
occurs_in_parts stem loop_part name = (forth, back) where
  forth : Contains (all_names stem ++ all_names loop_part) name → Occurs (Infinite stem loop_part) name
  forth c = elim (Contains-append_cases (all_names stem) (all_names loop_part) name c) [
    | inl early ↦ let at = standing stem name early in
        (at.0, omega (arith, at.1), subst (λ s. Contains s name) (sym (in_stem stem loop_part at.0 at.1)) at.2)
    | inr late ↦ let at = standing loop_part name late in
        let back : length stem + at.0 - length stem ≡ at.0 = omega arith in
        let less : at.0 < length loop_part = at.1 in (
          length stem + at.0,
          omega arith,
          subst (λ s. Contains s name) (sym (in_loop stem loop_part (length stem + at.0) (omega arith) (omega arith)))
              (subst (λ n. Contains (get_or loop_part n []) name) (sym back) at.2),
        )
  ]

  back : Occurs (Infinite stem loop_part) name → Contains (all_names stem ++ all_names loop_part) name
  back (i, lt, c) = elim (cases_lt i (length stem)) [
    | inl low ↦ Contains-append_left (all_names stem) (all_names loop_part) name
        (among_names stem name i low (subst (λ s. Contains s name) (in_stem stem loop_part i low) c))
    | inr high ↦ Contains-append_right (all_names stem) (all_names loop_part) name
        (among_names loop_part name (i - length stem) (omega arith) (subst (λ s. Contains s name) (in_loop stem loop_part i high lt) c))
  ]

pub occurs_in_states : (states : List Names) (name : List ℕ) → Contains (all_names states) name ↔ Occurs (Finite states) name
occurs_in_states states name = (λ c. standing states name c, λ o. among_names states name o.0 o.1 o.2)

-- a set of just these names has the letters that occur
pub occurring : (t : Trace) (names : Names) (set : Result Names AllocError) → IfOk set (λ state. (name : List ℕ) → Contains state name ↔ Contains names name)
    → ((name : List ℕ) → Contains names name ↔ Occurs t name) → IfOk set (λ letters. (name : List ℕ) → Contains letters name ↔ Occurs t name)
occurring t names (Ok set) members all = λ name. (λ c. (all name).0 ((members name).0 c), λ o. (members name).1 ((all name).1 o))
occurring t names (Err e) members all = members

-- the names that were pushed are those of the parts, or of the states
pub pushed_parts : (t : Trace) (stem loop_part s l : List Names) (old first last names : Names) → t ≡ Infinite stem loop_part
    → s ≡ stem → l ≡ loop_part → old ≡ []
    → first ≡ old ++ all_names s → last ≡ first ++ all_names l → names ≡ last → (name : List ℕ) → Contains names name ↔ Occurs t name
pushed_parts t stem loop_part s l old first last names is s_is l_is none one two all name =
    subst (λ u. Contains names name ↔ Occurs u name) (sym is)
    (subst (λ ns. Contains ns name ↔ Occurs (Infinite stem loop_part) name) (sym together) (occurs_in_parts stem loop_part name)) where
      together : names ≡ all_names stem ++ all_names loop_part
      together = all ∙ (two ∙ (ap (λ xs. xs ++ all_names l) (one ∙ ap (λ xs. xs ++ all_names s) none) ∙ ap₂ (λ x y. all_names x ++ all_names y) s_is l_is))

pub pushed_states : (t : Trace) (states s : List Names) (old last names : Names) → t ≡ Finite states
    → s ≡ states → old ≡ [] → last ≡ old ++ all_names s → names ≡ last
    → (name : List ℕ) → Contains names name ↔ Occurs t name
pushed_states t states s old last names is s_is none one all name =
    subst (λ u. Contains names name ↔ Occurs u name) (sym is)
    (subst (λ ns. Contains ns name ↔ Occurs (Finite states) name) (sym together) (occurs_in_states states name)) where
      together : names ≡ all_names states
      together = all ∙ (one ∙ (ap (λ xs. xs ++ all_names s) none ∙ ap all_names s_is))
