-- What the laws of derivations and of names say.
use Rattle.std.specs.Prelude.{◌≡◌, ℕ, ◌<◌, ◌≤◌, Bool, List, [], ◌∷◌, ◌++◌, length, slice_index_or, All, Contains, Some}
use Rattle.cnf_base.specs.declared.literal.Literal.{Literal}
use Rattle.cnf_base.specs.declared.literal.Hint.TheVariants.{Line}
use Rattle.cnf_base.specs.Step.{numbered}
use Rattle.cnf_base.specs.Meaning.{Satisfies}
use Rattle.clause_log.specs.LogValue.{LogValue, IsLog}
use Rattle.derivation.specs.Steps.{DerivationValue, AreSteps}
use Rattle.derivation.specs.Naming.{AreNamed, derived}

-- what satisfies the list satisfies each line
abbrev pub StepsFollow : Type 0
StepsFollow = (list : List (List Literal)) (d : DerivationValue) → AreSteps list d → (v : ℕ → Bool) → Satisfies v list → Satisfies v d.lines

-- a hint that names a line names an earlier one
abbrev pub HintsAreEarlier : Type 0
HintsAreEarlier =
    (list : List (List Literal)) (d : DerivationValue) → AreSteps list d → (k m : ℕ) → k < length d.lines → Contains (slice_index_or d.hints k []) (Line m)
    → (0 < m) × (m ≤ k)

-- where the inputs of a log are clauses of a list, its lines are steps over the list
abbrev pub NamedAreSteps : Type 0
NamedAreSteps = (list : List (List Literal)) (log : LogValue) (names : List ℕ) → AreNamed list log.inputs names → IsLog log → AreSteps list (derived log names)

-- named inputs are clauses of the list
abbrev pub NamedAreOf : Type 0
NamedAreOf = (list inputs : List (List Literal)) (names : List ℕ) → AreNamed list inputs names → All (Contains list) inputs

-- names begin with none
abbrev pub NamedBegin : Type 0
NamedBegin = (list : List (List Literal)) → AreNamed list [] []

-- they stay right where the list grows
abbrev pub NamedGrow : Type 0
NamedGrow = (list more inputs : List (List Literal)) (names : List ℕ) → AreNamed list inputs names → AreNamed (list ++ more) inputs names

-- and where a clause of the list is put in under its number
abbrev pub NamedAdd : Type 0
NamedAdd =
    (list inputs : List (List Literal)) (names : List ℕ) (name : ℕ) (clause : List Literal) → AreNamed list inputs names → numbered list name ≡ Some clause
    → AreNamed list (inputs ++ clause ∷ []) (names ++ name ∷ [])
