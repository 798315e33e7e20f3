-- The map of definitions, and the list that it stands for.
use Rattle.std.proofs.Common.{◌≡◌, ℕ, Bool, true, false, ◌||◌, cond, List, [], ◌∷◌, ◌++◌, Option, Some, None, option_map, is_some, Bor, String, Global}
use Rattle.std.proofs.Common.{string_bytes, if◌then◌else◌, refl, sym, ap, ◌∙◌}
use Rattle.std.specs.Option.{MatchOption, option_copied}
use Rattle.std.specs.Str.{bytes_eq}
use Rattle.std.specs.Map.{lookup}
use Rattle.std.proofs.lemmas.List.{map-append}
use Rattle.ltl_syntax.specs.Formula.{Formula}
use Rattle.requirement_document.specs.declared.formulas.Tree.{Tree}
use Rattle.requirement_document.specs.Substitution.{Definitions, found, names_defined}
use Rattle.requirement_document.specs.Entry.{is_among}
use Rattle.requirement_document.specs.Inner.{defined_in, tree_in}

abbrev Entry : Type 0
Entry = String Global × Tree

-- what the map finds is what the list finds
pub found_in : (text : List ℕ) (es : List Entry) → found (defined_in es) text ≡ option_map tree_in (lookup (λ k. bytes_eq text (string_bytes k)) es)
found_in text [] = refl
found_in text (e ∷ es) = by (bytes_eq text (string_bytes e.0)) (found_in text es) where
  by : (b : Bool) → found (defined_in es) text ≡ option_map tree_in (lookup (λ k. bytes_eq text (string_bytes k)) es)
      → (if b then Some (tree_in e.1) else found (defined_in es) text) ≡ option_map tree_in
      (cond b (Some e.1) (lookup (λ k. bytes_eq text (string_bytes k)) es))
  by true h = refl
  by false h = h

-- a look-up by cases
pub found_by : (r : Option (Bor Tree)) (o : Option Tree) (f : Option Formula) → option_copied r ≡ o → f ≡ option_map tree_in o
    → MatchOption r (f ≡ None) (λ t. f ≡ Some (tree_in t.now))
found_by None o f e h = h ∙ ap (option_map tree_in) (sym e)
found_by (Some t) o f e h = h ∙ ap (option_map tree_in) (sym e)

-- a name is among those that are defined where something is found
pub among_defined : (ds : Definitions) (name : List ℕ) → is_among name (names_defined ds) ≡ is_some (found ds name)
among_defined [] name = refl
among_defined (d ∷ ds) name = by (bytes_eq name d.0) (among_defined ds name) where
  by : (b : Bool) → is_among name (names_defined ds) ≡ is_some (found ds name)
      → (b || is_among name (names_defined ds)) ≡ is_some (if b then Some d.1 else found ds name)
  by true h = refl
  by false h = h

-- what is found, by cases
pub found_some : (r : Option (Bor Tree)) (o : Option Formula) → MatchOption r (o ≡ None) (λ t. o ≡ Some (tree_in t.now)) → is_some r ≡ is_some o
found_some None o h = sym (ap is_some h)
found_some (Some t) o h = sym (ap is_some h)

no_tree : (o : Option Tree) → false ≡ is_some (option_map tree_in o) → o ≡ None
no_tree None e = refl
no_tree (Some t) e = absurd (cc)

-- a name that is not defined is no key of the map
pub not_there : (es : List Entry) (name : List ℕ)
    → is_among name (names_defined (defined_in es)) ≡ false → lookup (λ k. bytes_eq name (string_bytes k)) es ≡ None
not_there es name h = no_tree (lookup (λ k. bytes_eq name (string_bytes k)) es) (sym h ∙ among_defined (defined_in es) name ∙ ap is_some (found_in name es))

-- one more entry is one more definition
pub defined_on : (es : List Entry) (name : String Global) (t : Tree) → defined_in (es ++ (name, t) ∷ []) ≡ defined_in es ++ (string_bytes name, tree_in t) ∷ []
defined_on es name t = map-append (λ e. (string_bytes e.0, tree_in e.1)) es ((name, t) ∷ [])
