-- Names of items and behaviours by their places.
use Rattle.std.proofs.Common.{◌≡◌, ◌∙◌, ℕ, ◌<◌, ◌+◌, inl, inr, Bool, true, false, List, map, length, slice_get, get_or, string_bytes, bytes_eq, Some}
use Rattle.std.proofs.Common.{option_map, refl, sym, ap, subst, arith}
use Rattle.std.proofs.lemmas.Bool.{cases_lt}
use Rattle.std.proofs.lemmas.Slice.Eq.{bytes_eq-Decides}
use Rattle.std.proofs.lemmas.Option.{slice_get-map, slice_get_within, slice_get_read}
use Rattle.std.proofs.lemmas.List.{length-map}
use Rattle.requirement_document.specs.declared.document.Document.{Document}
use Rattle.requirement_document.specs.declared.document.Item.{Item}
use Rattle.requirement_document.specs.declared.document.Behaviour.{Behaviour}
use Rattle.requirement_document.specs.Values.{item_in, behaviour_in, document_in}
use Rattle.requirements_top.specs.Naming.{item_names, behaviour_names, StandsAt, IsMissing}

-- the name of the item at a place stands there
pub item_at : (d : Document) (n : ℕ) (i : Item) → n < length d.items.items → i ≡ get_or d.items.items n i
    → slice_get (item_names (document_in d)) n ≡ Some (string_bytes i.name)
item_at d n i lt is =
    let there = slice_get_read d.items.items (length d.items.items) n i refl lt is in
    slice_get-map (λ v. v.name) (map item_in d.items.items) n
    ∙ ap (option_map (λ v. v.name)) (slice_get-map item_in d.items.items n ∙ ap (option_map item_in) there)

pub behaviour_at : (d : Document) (n : ℕ) (b : Behaviour) → n < length d.behaviours.items → b ≡ get_or d.behaviours.items n b
    → slice_get (behaviour_names (document_in d)) n ≡ Some (string_bytes b.name)
behaviour_at d n b lt is =
    let there = slice_get_read d.behaviours.items (length d.behaviours.items) n b refl lt is in
    slice_get-map (λ v. v.name) (map behaviour_in d.behaviours.items) n
    ∙ ap (option_map (λ v. v.name)) (slice_get-map behaviour_in d.behaviours.items n ∙ ap (option_map behaviour_in) there)

-- by the test whether it is the name
pub named : (names : List (List ℕ)) (n k : ℕ) (found name : List ℕ) (test : Bool) → slice_get names n ≡ Some found → test ≡ bytes_eq found name
    → test ≡ true → k ≡ n → StandsAt names name k
named names n k found name test at is agrees same = subst (λ m. StandsAt names name m) (sym same)
    (at ∙ ap Some ((bytes_eq-Decides found name).0 (sym is ∙ agrees)))

pub not_named : (names : List (List ℕ)) (n : ℕ) (found name : List ℕ) (test : Bool) → slice_get names n ≡ Some found → test ≡ bytes_eq found name
    → test ≡ false → StandsAt names name n → ⊥
not_named names n found name test at is other stands =
    let both : Some found ≡ Some name = sym at ∙ stands in
    let same : found ≡ name = cc in
    let e : bytes_eq found name ≡ true = (bytes_eq-Decides found name).1 same in
    cc

-- a name that stands at none of the first places, nor at the next one
pub one_more : (names : List (List ℕ)) (name : List ℕ) (k : ℕ) → ((n : ℕ) → n < k → StandsAt names name n → ⊥) → (StandsAt names name k → ⊥) → (n : ℕ)
    → n < k + 1 → StandsAt names name n → ⊥
one_more names name k before at n lt stands = elim (cases_lt n k) [
  | inl less ↦ before n less stands
  | inr more ↦ let same : n ≡ k = omega (arith, lt, more) in at (subst (StandsAt names name) same stands)
]

-- a name that stands at none of the places is missing
pub missing_items : (d : Document) (name : List ℕ) → ((n : ℕ) → n < length d.items.items → ¬ (StandsAt (item_names (document_in d)) name n))
    → IsMissing (item_names (document_in d)) name
missing_items d name none n = λ stands. none n (within_items n stands) stands where
  within_items : (n : ℕ) → StandsAt (item_names (document_in d)) name n → n < length d.items.items
  within_items n stands =
      let within = slice_get_within (item_names (document_in d)) n name stands in
      let long = length-map (map item_in d.items.items) (λ v. v.name) ∙ length-map d.items.items item_in in
      omega (arith, within, long)

pub missing_behaviours : (d : Document) (name : List ℕ) → ((n : ℕ) → n < length d.behaviours.items → ¬ (StandsAt (behaviour_names (document_in d)) name n))
    → IsMissing (behaviour_names (document_in d)) name
missing_behaviours d name none n = λ stands. none n (within_behaviours n stands) stands where
  within_behaviours : (n : ℕ) → StandsAt (behaviour_names (document_in d)) name n → n < length d.behaviours.items
  within_behaviours n stands =
      let within = slice_get_within (behaviour_names (document_in d)) n name stands in
      let long = length-map (map behaviour_in d.behaviours.items) (λ v. v.name) ∙ length-map d.behaviours.items behaviour_in in
      omega (arith, within, long)
