-- What the laws of claims say.
use Rattle.std.specs.Prelude.{◌≡◌, ℕ, suc, ◌<◌, ◌≤◌, ◌↔◌, Bool, IsTrue, List, [], ◌∷◌, ◌++◌, length}
use Rattle.ltl_syntax.specs.declared.node.Kind.{Kind}
use Rattle.ltl_syntax.specs.declared.node.Kind.TheVariants as Kinds
use Rattle.ltl_syntax.specs.Formula.{Formula}
use Rattle.cnf_base.specs.declared.literal.Literal.{Literal}
use Rattle.cnf_base.specs.Known.{AreKnown}
use Rattle.cnf_base.specs.Meaning.{Satisfies}
use Rattle.ltl_closure.specs.Run.{RunState, States, IsRun, IsAccepted}
use Rattle.ltl_run.specs.TraceOf.{ClosesTo}
use Rattle.ltl_run.specs.Laws.{HasNoTrace}
use Rattle.claims.specs.Between.{width, greatest, step_list}
use Rattle.claims.specs.Certificate.{HintedLine, Layer, Certificate, line_at, layer_at, first_clauses, clauses_of, next_claims}
use Rattle.claims.specs.Lawful.{AreLawfulLayers, IsLawful, clauses_before, lines_before}
use Rattle.claims.specs.Sequences.{IsFirst, AreLinked, IsLast, AreEndless, AreEnding, unrolled, value_at, step_values, ShowsStep}

-- each letter of the list of a step is one of those from 1 to the greatest
abbrev pub LettersAreKnown : Type 0
LettersAreKnown = (f : Formula) → AreKnown (greatest f) (step_list f)

-- so is each letter of the clauses that may be named before a layer, where the claims of the layers before it have only entries
abbrev pub NamedAreKnown : Type 0
NamedAreKnown = (f : Formula) (c : Certificate) (j : ℕ) → ((i : ℕ) → i < j → AreKnown (width f) (layer_at c i).claims)
    → AreKnown (greatest f) (clauses_before f c j)

-- and of the claims at the next state
abbrev pub NextAreKnown : Type 0
NextAreKnown = (f : Formula) (layer : Layer) → AreKnown (width f) layer.claims → AreKnown (greatest f) (next_claims (width f) layer)

-- a line more is the next line's clause behind the others
abbrev pub LinesGrow : Type 0
LinesGrow = (earlier : List (List Literal)) (lines : List HintedLine) (k : ℕ)
    → earlier ++ first_clauses lines (suc k) ≡ earlier ++ first_clauses lines k ++ (line_at lines k).literals ∷ []

-- a layer more is its claims at the next state behind the clauses, and then those at the state
abbrev pub LayersGrow : Type 0
LayersGrow = (f : Formula) (c : Certificate) (j : ℕ)
    → clauses_before f c (suc j) ≡ clauses_before f c j ++ next_claims (width f) (layer_at c j) ++ (layer_at c j).claims

-- and its lines behind the lines
abbrev pub LayerLinesGrow : Type 0
LayerLinesGrow = (c : Certificate) (j : ℕ)
    → lines_before c (suc j) ≡ lines_before c j ++ clauses_of (layer_at c j).base_lines ++ clauses_of (layer_at c j).step_lines

-- a state and another make the list of a step true, where they are linked if there is a next state, and the state is a first or a last one if
-- the letters say so
abbrev pub StatesMakeSteps : Type 0
StatesMakeSteps = (f : Formula) (s u : RunState) (has_next is_first is_last : Bool)
    → (IsTrue has_next → AreLinked f s u) → (IsTrue is_first → IsFirst f s) → (IsTrue is_last → IsLast f s)
    → Satisfies (step_values f s u has_next is_first is_last) (step_list f)

-- and an assignment that makes the list true is one of a state and a next one
abbrev pub StepsShowStates : Type 0
StepsShowStates = (f : Formula) (v : ℕ → Bool) → Satisfies v (step_list f) → ShowsStep f v

-- a run is a first state and further ones, each linked to the one before it
abbrev pub RunsAreSequences : Type 0
RunsAreSequences = (f : Formula) (k : ℕ) (r : States) → IsRun f k r ↔ (IsFirst f (r 0) × ((i : ℕ) → i < k → AreLinked f (r i) (r (suc i))))

-- a run that is accepted by its end is a first state and further ones up to a last one
abbrev pub RunsEnd : Type 0
RunsEnd = (f : Formula) (k : ℕ) (r : States) → (IsRun f k r × IsAccepted f r k Kinds.Finite) ↔ (IsFirst f (r 0) × AreEnding f k r)

-- a run that closes from k to l goes on for ever, and each eventuality is met again and again
abbrev pub RunsUnroll : Type 0
RunsUnroll = (f : Formula) (k l : ℕ) (r : States) → IsRun f k r → ClosesTo f r l k → IsFirst f (unrolled r l k 0) × AreEndless f (unrolled r l k)

-- the claims of lawful layers hold at each of such states for ever, whatever the first of them
abbrev pub EndlessKeepClaims : Type 0
EndlessKeepClaims = (f : Formula) (c : Certificate) (u : States) (j i : ℕ) → AreLawfulLayers f Kinds.Infinite c → AreEndless f u → j < length c.layers
    → Satisfies (value_at f (u i)) (layer_at c j).claims

-- and at each of such states up to a last one
abbrev pub EndingKeepClaims : Type 0
EndingKeepClaims = (f : Formula) (c : Certificate) (u : States) (k j i : ℕ) → AreLawfulLayers f Kinds.Finite c → AreEnding f k u → j < length c.layers → i ≤ k
    → Satisfies (value_at f (u i)) (layer_at c j).claims

-- a lawful certificate means that no trace of the kind satisfies the formula
abbrev pub LawfulHasNoTrace : Type 0
LawfulHasNoTrace = (f : Formula) (kind : Kind) (c : Certificate) → IsLawful f kind c → HasNoTrace kind f
