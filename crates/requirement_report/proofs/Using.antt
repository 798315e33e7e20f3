-- Sets of letters: what they have is what their items have.
use Rattle.std.proofs.Common.{◌≡◌, ◌↔◌, ℕ, zero, suc, ◌<◌, ◌≤◌, Bool, if◌then◌else◌, List, [], ◌∷◌, ◌++◌, map, length, get_or, flat_map, slice_get, Contains}
use Rattle.std.proofs.Common.{IsTrue, Result, Ok, Err, IfOk, refl, sym, ap, ◌∙◌, arith}
use Rattle.std.specs.declared.alloc.AllocError.{AllocError}
use Rattle.std.proofs.lemmas.List.{length-map}
use Rattle.std.proofs.lemmas.List.Folds.{flat_map-map}
use Rattle.ltl_word.specs.State.{IsAscending}
use Rattle.ltl_word.specs.Trace.{Names}
use Rattle.requirement_document.specs.declared.document.Item.{Item}
use Rattle.requirement_document.specs.declared.document.Document.{Document}
use Rattle.requirement_document.specs.Values.{ItemValue, DocumentValue, item_in, document_in}
use Rattle.requirement_report.specs.Pictures.{has, ascending}
use Rattle.requirement_report.specs.Letters.{UseValue, item_letters, item_has, users_below, use_of, uses_of, all_letters, set_of, user_among, users_among}
use Rattle.requirement_report.specs.Letters.{use_among}
use Rattle.requirement_report.proofs.Ascending.{ordered, is_ascending}
use Rattle.requirement_report.proofs.Gridded.{has_some, some_has, bool_is}

-- what is built of names is their list in order
pub set_is : (names : Names) (found : Result Names AllocError) → IfOk found IsAscending
    → IfOk found (λ s. (name : List ℕ) → Contains s name ↔ Contains names name) → IfOk found (λ s. s ≡ ascending names)
set_is names (Ok s) a h = is_ascending names s a h
set_is names (Err e) a h = h

pub has_is : (r : Bool) (letter : List ℕ) (names : Names) → IsTrue r ↔ Contains names letter → r ≡ has letter names
has_is r letter names h = bool_is r (has letter names) (λ e. some_has letter names (h.0 e)) (λ e. h.1 (has_some letter names e))

-- the order of names does not matter
has_ascending : (letter : List ℕ) (names : Names) → has letter (ascending names) ≡ has letter names
has_ascending letter names =
    let o = ordered names in
    bool_is (has letter (ascending names)) (has letter names)
    (λ e. some_has letter names ((o.same letter).0 (has_some letter (ascending names) e)))
    (λ e. some_has letter (ascending names) ((o.same letter).1 (has_some letter names e)))

has_at : (letter : List ℕ) (items : List ItemValue) (n : ℕ) → n < length items
    → has letter (get_or (map set_of items) n []) ≡ item_has letter (slice_get items n)
has_at letter [] n lt = absurd (omega arith)
has_at letter (i ∷ is) zero lt = has_ascending letter (item_letters i)
has_at letter (i ∷ is) (suc n) lt = has_at letter is n (omega (arith, lt))

users_same : (d : DocumentValue) (letter : List ℕ) (n : ℕ) → n ≤ length d.items → users_among (map set_of d.items) letter n ≡ users_below d letter n
users_same d letter zero le = refl
users_same d letter (suc n) le =
    ap (λ us. us ++ user_among (map set_of d.items) letter n) (users_same d letter n (omega (arith, le)))
    ∙ ap (λ (b : Bool). users_below d letter n ++ (if b then n ∷ [] else [])) (has_at letter d.items n (omega (arith, le)))

use_with : List ℕ → List ℕ → UseValue
use_with letter items = record { letter = letter; items = items }

use_same : (d : DocumentValue) (letter : List ℕ) → use_among (map set_of d.items) letter ≡ use_of d letter
unfolding use_with
use_same d letter =
    ap (use_with letter) (ap (users_among (map set_of d.items) letter) (length-map d.items set_of) ∙ users_same d letter (length d.items) (omega arith))

all_same : (d : DocumentValue) (letters : Names) → map (use_among (map set_of d.items)) letters ≡ map (use_of d) letters
all_same d [] = refl
all_same d (l ∷ ls) = ap (λ u. u ∷ map (use_among (map set_of d.items)) ls) (use_same d l) ∙ ap (λ us. use_of d l ∷ us) (all_same d ls)

-- the sets of the items of a document
sets_mapped : (items : List Item) → map (λ i. set_of (item_in i)) items ≡ map set_of (map item_in items)
sets_mapped [] = refl
sets_mapped (i ∷ is) = ap (λ ss. set_of (item_in i) ∷ ss) (sets_mapped is)

pub uses_are : (d : Document) (sets : List Names) (letters : Names) (uses : List UseValue)
    → sets ≡ map (λ i. set_of (item_in i)) d.items.items → letters ≡ ascending (flat_map (λ i. item_letters (item_in i)) d.items.items)
    → uses ≡ map (use_among sets) letters → uses ≡ uses_of (document_in d)
uses_are d sets letters uses s l u =
    let v = document_in d in
    let all : letters ≡ all_letters v = l ∙ ap ascending (sym (flat_map-map item_letters item_in d.items.items)) in
    u ∙ ap (λ ss. map (use_among ss) letters) (s ∙ sets_mapped d.items.items) ∙ all_same v letters ∙ ap (map (use_of v)) all
