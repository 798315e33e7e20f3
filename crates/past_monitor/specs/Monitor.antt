-- What a contract sees of a monitor, for which states it stands, and what a step is.
use Rattle.std.specs.Prelude.{◌≡◌, ℕ, ◌-◌, ◌<◌, ⊤, Bool, false, List, [], ◌∷◌, ◌++◌, length, slice_index_or, count_by, ◌↔◌, IsTrue, refl}
use Rattle.std.specs.Coded.{Coded, code_by, coded×, coded_list, coded_bool, coded_ℕ}
use Rattle.ltl_syntax.specs.FormulaCode.{coded_formula}
use Rattle.ltl_syntax.specs.Formula.{Formula, Const, Letter, Unary, Binary}
use Rattle.ltl_syntax.specs.Table.{Table}
use Rattle.ltl_word.specs.declared.trace.Trace.TheVariants.{Finite}
use Rattle.ltl_word.specs.Trace.{Names}
use Rattle.ltl_word.specs.Holds.{Holds}
use Rattle.ltl_syntax.specs.Under.{IsUnder}
use Rattle.past_monitor.specs.Kept.{AreKept}

-- the formulas under a root, each behind those that it is made of, the values that are kept for each, and the rooms: for how many
-- formulas and for how many of their values there is memory, and for how many kept values of each formula
pub record MonitorValue : Type 0 where
  pub formulas : List Formula
  pub kept : List (List Bool)
  pub rooms : List ℕ

abbrev pub coded_monitor : Coded MonitorValue
coded_monitor =
    code_by (List Formula × (List (List Bool) × List ℕ)) (coded× (coded_list coded_formula) (coded× (coded_list (coded_list coded_bool)) (coded_list coded_ℕ)))
    (λ m. (m.formulas, (m.kept, m.rooms))) (λ p. record { formulas = p.0; kept = p.1.0; rooms = p.1.1 }) (λ _. refl)

-- one of a list of formulas
abbrev pub formula_at : List Formula → ℕ → Formula
formula_at formulas i = slice_index_or formulas i (Const false)

-- the formula that is monitored: the last one
abbrev pub formula_of : MonitorValue → Formula
formula_of m = formula_at m.formulas (length m.formulas - 1)

-- each operand of a formula stands at an earlier place than it
abbrev pub StandAbove : List Formula → ℕ → Formula → Type 0
StandAbove formulas i (Const b) = ⊤
StandAbove formulas i (Letter p) = ⊤
StandAbove formulas i (Unary op a) = (j : ℕ) × (j < i) × (formula_at formulas j ≡ a)
StandAbove formulas i (Binary op a b) = ((j : ℕ) × (j < i) × (formula_at formulas j ≡ a)) × ((k : ℕ) × (k < i) × (formula_at formulas k ≡ b))

-- so that each formula in the last one is there
abbrev pub AreAll : List Formula → Type 0
AreAll formulas = (0 < length formulas) × ((i : ℕ) → i < length formulas → StandAbove formulas i (formula_at formulas i))

-- the number of nodes under the root: as many as are marked, where those under the root are marked and no others
pub record AreUnder (t : Table) (root : ℕ) (many : ℕ) : Type 0 where
  pub marks : List Bool
  pub each : (i : ℕ) → IsTrue (slice_index_or marks i false) ↔ IsUnder t root i
  pub count : many ≡ count_by (λ mark. mark) marks

-- the monitor stands for the states t: it keeps for each formula the values that are to be kept after t
abbrev pub StandsFor : MonitorValue → List Names → Type 0
StandsFor m t = (i : ℕ) → i < length m.formulas → AreKept t (formula_at m.formulas i) (slice_index_or m.kept i [])

-- a step: the formulas stay, and for each list of states that the monitor stood for, it stands for that list and this state,
-- and the answer is whether the formula holds at the last of them
pub record IsStep (old : MonitorValue) (state : Names) (answer : Bool) (new : MonitorValue) : Type 0 where
  pub formulas : new.formulas ≡ old.formulas
  pub stands : (t : List Names) → StandsFor old t → StandsFor new (t ++ state ∷ [])
  pub right : (t : List Names) → StandsFor old t → IsTrue answer ↔ Holds (Finite (t ++ state ∷ [])) (formula_of old) (length t)
