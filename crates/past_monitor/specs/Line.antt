-- What a line is read as.
use Rattle.std.specs.Prelude.{◌≡◌, ℕ, List, Option, Some, None}
use Rattle.serde_json.specs.Data.{Data}
use Rattle.ltl_word.specs.Trace.{Names}
use Rattle.ltl_word.specs.Json.{IsJson, state_data, IsSetOf}

-- the line is a JSON array of strings, and the state is the set of them; or it is no such array
abbrev pub IsStateOf : List ℕ → Option Names → Type 0
IsStateOf line (Some state) = (names : Names) × IsJson line (state_data names) × IsSetOf names state
IsStateOf line None = (names : Names) → IsJson line (state_data names) → ⊥

-- the same of the value that was read
abbrev pub IsStateIn : Data → Option Names → Type 0
IsStateIn d (Some state) = (names : Names) × (d ≡ state_data names) × IsSetOf names state
IsStateIn d None = (names : Names) → d ≡ state_data names → ⊥
