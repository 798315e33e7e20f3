-- What is printed of an input, and the status with it.
use Rattle.std.specs.Prelude.{◌≡◌, ◌≢◌, ◌↔◌, ℕ, ◌<◌, ◌≤◌, List, [], ◌++◌, length, take, drop, codes, Contains, Option, Some, None, Ok, Err, Vec, if◌then◌else◌}
use Rattle.std.specs.Global.{Global}
use Rattle.ltl_word.specs.declared.trace.Trace.{Trace}
use Rattle.ltl_word.specs.declared.json.TraceFault.{TraceFault}
use Rattle.ltl_word.specs.declared.json.TraceFault.TheVariants as faults
use Rattle.ltl_word.specs.declared.name.Name.{Name}
use Rattle.ltl_word.specs.State.{IsAscending}
use Rattle.ltl_word.specs.Trace.{Names}
use Rattle.ltl_word.specs.Json.{IsReading}
use Rattle.trace_view.specs.Grid.{GridValue, IsGridOf, Occurs, cells_for}
use Rattle.trace_view.specs.Text.{text}
use Rattle.trace_view.specs.Diagram.{svg}
use Rattle.black_view.specs.declared.words.Request.{Request}
use Rattle.black_view.specs.declared.status.Status.{Status}
use Rattle.black_view.specs.declared.status.Status.TheVariants as statuses
use Rattle.black_view.specs.Input.{HasNoTrace, IsTraceAt}

-- the letters that are shown: those that are asked for in their order, or all that are true in some state, ascending
abbrev pub AreChosen : Option (Vec Name Global) → Trace → Names → Type 0
AreChosen (Some only) t letters = letters ≡ only.items
AreChosen None t letters = IsAscending letters × ((name : List ℕ) → Contains letters name ↔ Occurs t name)

abbrev pub AreLetters : Request → Trace → Names → Type 0
AreLetters request t letters = AreChosen request.only t letters

abbrev pub max_cells : ℕ
max_cells = 16777216

abbrev pub max_bytes : ℕ
max_bytes = 16777216

-- the grid of these letters, which has few enough cells
pub record IsAskedGrid (request : Request) (t : Trace) (g : GridValue) : Type 0 where
  pub letters : Names
  pub asked : AreLetters request t letters
  pub lawful : IsGridOf t letters g
  pub few : cells_for t letters ≤ max_cells

-- it would have too many cells
pub record IsTooLarge (request : Request) (t : Trace) : Type 0 where
  pub letters : Names
  pub asked : AreLetters request t letters
  pub large : max_cells < cells_for t letters

-- a picture in SVG stands alone, and a text behind the lines before the trace
abbrev pub picture_of : Request → List ℕ → GridValue → List ℕ
picture_of request lines g = if request.svg then svg g else (lines ++ text g request.width)

-- what is printed of a trace behind some lines
pub data IsDrawn (request : Request) (lines : List ℕ) (t : Trace) : Status → List ℕ → Type 0 where
  drawn : (g : GridValue) → IsAskedGrid request t g → IsDrawn request lines t statuses.Good (picture_of request lines g)
  too_large : IsTooLarge request t → IsDrawn request lines t statuses.Limit (lines ++ codes "limit cells 16777216\n")

-- the line of a text that is refused
abbrev pub fault_line : TraceFault → List ℕ
fault_line faults.NotJson = codes "trace fault: not JSON\n"
fault_line faults.NotTrace = codes "trace fault: not a trace\n"
fault_line faults.EmptyLoop = codes "trace fault: loop is empty\n"
fault_line faults.EmptyStates = codes "trace fault: states is empty\n"
fault_line faults.NoMemory = []

-- what is printed of the bytes
pub data IsViewed (request : Request) (bytes : List ℕ) : Status → List ℕ → Type 0 where
  too_long : max_bytes < length bytes → IsViewed request bytes statuses.Limit (codes "limit text 16777216\n")
  without : length bytes ≤ max_bytes → HasNoTrace bytes → IsViewed request bytes statuses.NoTrace bytes
  refused : (at : ℕ) (fault : TraceFault) → length bytes ≤ max_bytes → IsTraceAt bytes at → fault ≢ faults.NoMemory → IsReading (drop at bytes) (Err fault)
      → IsViewed request bytes statuses.Text (take at bytes ++ fault_line fault)
  read : (at : ℕ) (t : Trace) (status : Status) (printed : List ℕ) → length bytes ≤ max_bytes → IsTraceAt bytes at → IsReading (drop at bytes) (Ok t)
      → IsDrawn request (take at bytes) t status printed → IsViewed request bytes status printed
