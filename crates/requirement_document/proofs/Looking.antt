-- What a value is, from what its accessors find.
use Rattle.std.proofs.Common.{◌≡◌, ℕ, ◌<◌, ◌≤◌, List, [], ◌∷◌, length, nat_lt, false, if◌then◌else◌, Option, Some, None, option_map, Bor, refl, sym, ap, subst}
use Rattle.std.proofs.Common.{◌∙◌}
use Rattle.std.specs.Option.{MatchOption}
use Rattle.std.proofs.lemmas.Bool.{lt-ltb, le-ltb}
use Rattle.toml.specs.Data.{Data, Items, array, as_array}
use Rattle.toml.specs.View.{view, items_of}
use Rattle.toml.specs.declared.value.Value.{Value}
use Rattle.requirement_document.specs.Document.{listed, entries_at}

-- what a look-up found, by cases
pub found_at : (r : Option (Bor Value)) (o : Option Data) → option_map (λ v. view v.now) r ≡ o → MatchOption r (o ≡ None) (λ v. o ≡ Some (view v.now))
found_at None o e = sym e
found_at (Some v) o e = sym e

-- a value that is an array
pub array_given : (d : Data) (ds : Items) → Some ds ≡ as_array d → d ≡ array ds
array_given (array es) ds e = let h : es ≡ ds = cc in ap array h
array_given d ds e = absurd (cc)

pub listed_items : (ds : List Data) → listed (items_of ds) ≡ ds
listed_items [] = refl
listed_items (d ∷ ds) = ap (λ r. d ∷ r) (listed_items ds)

-- the entries of an array
pub entries_given : (o : Option Data) (d : Data) (ds : List Data) → o ≡ Some d → Some (items_of ds) ≡ as_array d → length ds ≤ 1024 → entries_at o ≡ Some ds
entries_given o d ds e a few =
    let same : listed (items_of ds) ≡ ds = listed_items ds in
    let within : nat_lt 1024 (length (listed (items_of ds))) ≡ false = ap (λ es. nat_lt 1024 (length es)) same ∙ le-ltb 1024 (length ds) few in
    ap entries_at (e ∙ ap Some (array_given d (items_of ds) a)) ∙ (ap (λ b. if b then None else Some (listed (items_of ds))) within ∙ ap Some same)

-- what is no array has none
pub entries_refused : (o : Option Data) (d : Data) → o ≡ Some d → as_array d ≡ None → entries_at o ≡ None
entries_refused o d e a = ap entries_at e ∙ no_array d a where
  no_array : (d : Data) → as_array d ≡ None → entries_at (Some d) ≡ None
  no_array (array es) h = absurd (cc)
  no_array d h = refl

-- nor has what has too many
pub entries_many : (o : Option Data) (ds : Items) → o ≡ Some (array ds) → 1024 < length (listed ds) → entries_at o ≡ None
entries_many o ds e many = ap entries_at e ∙ ap (λ b. if b then None else Some (listed ds)) (lt-ltb 1024 (length (listed ds)) many)

-- the array whose entries are too many
pub many_given : (o : Option Data) (d : Data) (ds : List Data) → o ≡ Some d → Some (items_of ds) ≡ as_array d → 1024 < length ds
    → (is : Items) × (o ≡ Some (array is)) × (1024 < length (listed is))
many_given o d ds e a many = (items_of ds, e ∙ ap Some (array_given d (items_of ds) a), subst (λ es. 1024 < length es) (sym (listed_items ds)) many)
