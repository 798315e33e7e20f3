-- Arrays of names, and arrays of such arrays.
use Rattle.std.proofs.Common.{◌≡◌, ℕ, zero, suc, ◌+◌, ◌<◌, List, [], ◌∷◌, ◌++◌, length, get_or, take, map, Option, Some, None, refl, subst, ap, ap₂, ◌∙◌, sym}
use Rattle.std.proofs.Common.{arith}
use Rattle.std.specs.Option.{MatchOption}
use Rattle.std.proofs.lemmas.List.{take_more, map-append}
use Rattle.toml.specs.Data.{Data, string, array, as_array, as_str}
use Rattle.toml.specs.View.{view, items_of, items_view}
use Rattle.toml.specs.declared.value.Value.{Value}
use Rattle.ltl_word.specs.Trace.{Names}
use Rattle.ltl_word.specs.Json.{IsSetOf, AreSetsOf}
use Rattle.requirement_document.specs.Entry.{state_data}
use Rattle.requirement_document.specs.Document.{listed}
use Rattle.requirement_document.proofs.Looking.{array_given, listed_items}

-- an array's items are determined
pub same_items : (xs ys : List Data) → array (items_of xs) ≡ array (items_of ys) → xs ≡ ys
same_items xs ys e = let h : items_of xs ≡ items_of ys = cc in sym (listed_items xs) ∙ ap listed h ∙ listed_items ys

differs_at : {A B : Type 0} (f : A → Data) (g : B → Data) (i : ℕ) (xs : List A) (d : A) (ys : List B) → i < length xs → map f xs ≡ map g ys
    → ((y : B) → f (get_or xs i d) ≡ g y → ⊥) → ⊥
differs_at f g i [] d ys lt e no' = absurd (omega arith)
differs_at f g i (x ∷ xs) d [] lt e no' = cc
differs_at f g zero (x ∷ xs) d (y ∷ ys) lt e no' = let head : f x ≡ g y = cc in no' y head
differs_at f g (suc i) (x ∷ xs) d (y ∷ ys) lt e no' = let rest : map f xs ≡ map g ys = cc in differs_at f g i xs d ys (omega arith) rest no'

pub no_string : (d : Data) → None ≡ as_str d → (s : List ℕ) → d ≡ string s → ⊥
no_string d e s is = let there : as_str d ≡ Some s = ap as_str is in cc

-- what is no array is no array of a kind
pub no_array : {B : Type 0} (g : B → Data) (d : Data) → None ≡ as_array d → (ys : List B) → d ≡ array (items_of (map g ys)) → ⊥
no_array g d e ys is = let there : as_array d ≡ Some (items_of (map g ys)) = ap as_array is in cc

-- an array one of whose items is no g is not the array of g's
pub no_array_of : {B : Type 0} (g : B → Data) (d : Data) (vs ws : List Value) (i : ℕ) (v : Value) → Some (items_view vs) ≡ as_array d → ws ≡ vs → i < length ws
    → v ≡ get_or ws i v → ((y : B) → view v ≡ g y → ⊥)
    → (ys : List B) → d ≡ array (items_of (map g ys)) → ⊥
no_array_of {B} g d vs ws i v is same lt at no' ys e =
    let both : array (items_of (map view ws)) ≡ array (items_of (map g ys)) =
    ap (λ us. array (items_of (map view us))) same ∙ (sym (array_given d (items_view vs) is) ∙ e) in
    differs_at view g i ws v ys lt (same_items (map view ws) (map g ys) both) (subst (λ u. (y : B) → view u ≡ g y → ⊥) at no')

-- one member more on both sides
pub map_more : {X Y Z : Type 0} (f : X → Z) (g : Y → Z) (done more : List X) (x : X) (ys : List Y) (i : ℕ) (d : Y) → map f done ≡ map g (take i ys)
    → more ≡ done ++ x ∷ [] → i < length ys → f x ≡ g (get_or ys i d)
    → map f more ≡ map g (take (i + 1) ys)
map_more f g done more x ys i d so_far is lt one =
    ap (map f) is ∙ (map-append f done (x ∷ [])
    ∙ (ap₂ (λ us u. us ++ u ∷ []) so_far one ∙ (sym (map-append g (take i ys) (get_or ys i d ∷ [])) ∙ ap (map g) (sym (take_more ys i d lt)))))

-- what an item is, by what was read of it
abbrev IsStateRead : Data → Option Names → Type 0
IsStateRead d found = MatchOption found ((names : Names) → d ≡ state_data names → ⊥) (λ state. (names : Names) × (d ≡ state_data names) × IsSetOf names state)

pub no_state : (d : Data) (found : Option Names) → ((state : Names) → found ≡ Some state → ⊥) → IsStateRead d found → (names : Names) → d ≡ state_data names → ⊥
no_state d None n h = h
no_state d (Some state) n h = absurd (n state refl)

pub some_state : (d : Data) (found : Option Names) (state : Names) → found ≡ Some state → IsStateRead d found
    → (names : Names) × (d ≡ state_data names) × IsSetOf names state
some_state d found state e h = subst (IsStateRead d) e h
