-- What is decided next, and what was decided last.
use Rattle.std.specs.Prelude.{◌≢◌, ◌⊎◌, List, All, Contains, None}
use Rattle.cnf_base.specs.declared.literal.Literal.{Literal}
use Rattle.cnf_base.specs.Literal.{opposite}
use Rattle.cnf_base.specs.Known.{IsKnown}
use Rattle.cdcl_state.specs.StateValue.{StateValue, AreSet}
use Rattle.cdcl_trail.specs.Trail.{literals_of, IsUnset}
use Rattle.cdcl_state.specs.Turns.{IsTop}
use Rattle.cdcl_trail.specs.declared.assigned.TrailEntry.{TrailEntry}
use Rattle.cdcl.specs.declared.choice.Choice.{Choice}
use Rattle.cdcl.specs.declared.choice.Choice.TheVariants.{Assume, Refuted, Search, Done}

-- the choice is one for these values of the assumptions and the letters
abbrev pub IsChoice : StateValue → List Literal → Choice → Type 0
IsChoice s assumptions (Assume l) = Contains assumptions l × IsUnset (literals_of s.trail) l × IsKnown s.letters l
IsChoice s assumptions (Refuted l) = Contains assumptions l × Contains (literals_of s.trail) (opposite l)
IsChoice s assumptions (Search l) = All (Contains (literals_of s.trail)) assumptions × IsUnset (literals_of s.trail) l × IsKnown s.letters l
IsChoice s assumptions Done = All (Contains (literals_of s.trail)) assumptions × AreSet s

-- the last decision is an assumption, or there is none
abbrev pub IsAssumedTop : List TrailEntry → List Literal → Type 0
IsAssumedTop trail assumptions = All (λ e. e.reason ≢ None) trail ⊎ ((l : Literal) × Contains assumptions l × IsTop trail l)

-- the last decision is no assumption
abbrev pub IsFreeTop : List TrailEntry → List Literal → Type 0
IsFreeTop trail assumptions = (l : Literal) × (¬ Contains assumptions l) × IsTop trail l
