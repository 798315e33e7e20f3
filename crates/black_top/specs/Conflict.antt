-- `solve --core`: what stands on the line of the core, and what is promised of it.
use Rattle.std.specs.Prelude.{◌≡◌, ℕ, Bool, true, false, List, Option, Some, None}
use Rattle.ltl_syntax.specs.declared.node.Kind.{Kind}
use Rattle.ltl_syntax.specs.Formula.{Formula}
use Rattle.ltl_syntax.specs.Print.{text_of}
use Rattle.ltl_syntax.specs.Replacement.{Places, AreApart, IsKept, added, rep}
use Rattle.unravel.specs.Decision.{HasNoTrace}
use Rattle.core_extract.specs.Core.{tableau, IsRefuted, IsUnrefuted, IsReached, IsCore}

-- a core is shown exactly where one is asked for, and it is the printed core of the formula, for the kind and the number up to which limits in force are taken
abbrev pub ShowsCore : Bool → Formula → Kind → ℕ → Option (List ℕ) → Type 0
ShowsCore false f kind asked shown = shown ≡ None
ShowsCore true f kind asked shown = (g : Formula) × IsCore (tableau kind asked) f g × (shown ≡ Some (text_of g))

-- the text is that of the core of f: what is left of f where these places are replaced by fresh letters
pub record ShowsConflict (f : Formula) (kind : Kind) (asked : ℕ) (text : List ℕ) : Type 0 where
  pub places : Places
  -- passes lead to these places, until one changes nothing. None of them is under another
  pub reached : IsReached (tableau kind asked) f places
  pub apart : AreApart f places
  pub printed : text ≡ text_of (rep f places)
  -- the core is still refuted, so it has no trace of the kind
  pub refuted : IsRefuted kind asked (rep f places)
  pub none : HasNoTrace (rep f places) kind
  -- with one further kept occurrence replaced it is SAT or UNDECIDED at its limit in force
  pub least : (n : ℕ) → IsKept f places n → IsUnrefuted kind asked (rep f (added f places n))

-- the line of the core says which parts of the formula conflict, where it is asked for, and it is not there where it isn't
abbrev pub TellsConflict : Bool → Formula → Kind → ℕ → Option (List ℕ) → Type 0
TellsConflict false f kind asked shown = shown ≡ None
TellsConflict true f kind asked shown = (text : List ℕ) × (shown ≡ Some text) × ShowsConflict f kind asked text
