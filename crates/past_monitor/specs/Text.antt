-- The states of a text, one a line, and what is answered to them.
use Rattle.std.specs.Prelude.{◌≡◌, ◌⊎◌, ℕ, suc, ◌+◌, ◌-◌, ◌<◌, ◌≤◌, ◌↔◌, ⊤, Bool, true, false, ◌==◌, List, [], ◌∷◌, length, take, slice_index_or, Option, Some}
use Rattle.std.specs.Prelude.{None, Result, Ok, Err, IsTrue}
use Rattle.std.specs.List.{list_all, slice_split}
use Rattle.ltl_syntax.specs.Formula.{Formula}
use Rattle.ltl_lexer.specs.Tokens.{is_white}
use Rattle.ltl_word.specs.declared.trace.Trace.TheVariants.{Finite}
use Rattle.ltl_word.specs.Trace.{Names}
use Rattle.ltl_word.specs.Holds.{Holds}
use Rattle.past_monitor.specs.declared.refused.WatchRefused.{WatchRefused}
use Rattle.past_monitor.specs.declared.refused.WatchRefused.TheVariants as refusals
use Rattle.past_monitor.specs.Past.{IsPast}
use Rattle.past_monitor.specs.Line.{IsStateOf}
use Rattle.past_monitor.specs.Monitor.{MonitorValue, IsStep}

-- the lines of a text: what stands between its newlines
abbrev pub lines_of : List ℕ → List (List ℕ)
lines_of text = slice_split (λ b. b == 10) text

-- the line has white space alone
abbrev pub is_blank : List ℕ → Bool
is_blank line = list_all is_white line

-- the states of the lines, where each is blank or a state
abbrev pub AreStates : List (List ℕ) → List Names → Type 0
AreStates [] [] = ⊤
AreStates [] (state ∷ states) = ⊥
AreStates (line ∷ lines) states =
    ((is_blank line ≡ true) × AreStates lines states)
    ⊎ ((is_blank line ≡ false) × ((state : Names) × (rest : List Names) × (states ≡ state ∷ rest) × IsStateOf line (Some state) × AreStates lines rest))

-- the line is neither white space nor a state
abbrev pub IsBad : List ℕ → Type 0
IsBad line = (is_blank line ≡ false) × IsStateOf line None

-- the line with this number, from 1
abbrev pub line_at : List (List ℕ) → ℕ → List ℕ
line_at lines number = slice_index_or lines (number - 1) []

-- the line with this number, from 1, is the first that is neither white space nor a state
pub record IsFirstBad (lines : List (List ℕ)) (number : ℕ) : Type 0 where
  pub some : 1 ≤ number
  pub there : number ≤ length lines
  pub bad : IsBad (line_at lines number)
  pub before : (n : ℕ) → 1 ≤ n → n < number → ¬ (IsBad (line_at lines n))

-- the answer to state k, from 0, is whether the formula holds at the last position of the finite trace of the states up to it
pub record AreAnswers (f : Formula) (states : List Names) (answers : List Bool) : Type 0 where
  pub count : length answers ≡ length states
  pub each : (k : ℕ) → k < length states → IsTrue (slice_index_or answers k false) ↔ Holds (Finite (take (suc k) states)) f k

-- what is answered to the text: the answers to its states; or the formula looks ahead; or, where it does not, the first line that is
-- neither white space nor a state
abbrev pub IsWatched : Formula → List ℕ → Result (List Bool) WatchRefused → Type 0
IsWatched f text (Ok answers) = IsPast f × ((states : List Names) × AreStates (lines_of text) states × AreAnswers f states answers)
IsWatched f text (Err refusals.Future) = ¬ (IsPast f)
IsWatched f text (Err (refusals.State number)) = IsPast f × IsFirstBad (lines_of text) number
IsWatched f text (Err refusals.NoMemory) = ⊤

-- ---- for private clauses

-- the lines that are left
abbrev pub lines_left : Option (List ℕ) → List (List ℕ)
lines_left None = []
lines_left (Some text) = lines_of text

abbrev pub bytes_left : Option (List ℕ) → ℕ
bytes_left None = 0
bytes_left (Some text) = length text + 1

-- a blank line leaves the monitor as it was; a state makes it step
abbrev pub TakesLine : MonitorValue → List ℕ → MonitorValue → Option Bool → Type 0
TakesLine old line new None = (is_blank line ≡ true) × (new ≡ old)
TakesLine old line new (Some answer) = (is_blank line ≡ false) × ((state : Names) × IsStateOf line (Some state) × IsStep old state answer new)
