-- What the laws of `laws.rt` say.
use Rattle.std.specs.Prelude.{◌≡◌, ◌≢◌, Result, Err, ℕ, suc, ◌<◌, ⊤, Bool, false, List, [], ◌∷◌, ◌++◌, length, take, slice_index_or, ◌↔◌, IsTrue}
use Rattle.ltl_syntax.specs.Formula.{Formula}
use Rattle.ltl_word.specs.declared.trace.Trace.TheVariants.{Finite}
use Rattle.ltl_word.specs.Trace.{Names}
use Rattle.ltl_word.specs.Holds.{Holds}
use Rattle.past_monitor.specs.Past.{IsPast}
use Rattle.past_monitor.specs.declared.refused.WatchRefused.{WatchRefused}
use Rattle.past_monitor.specs.declared.refused.WatchRefused.TheVariants.{NoMemory}
use Rattle.past_monitor.specs.Text.{IsWatched}
use Rattle.past_monitor.specs.Monitor.{MonitorValue, formula_of, StandsFor, IsStep}

-- states behind a position do not change where a formula that does not look ahead holds
abbrev pub PrefixDecides : Type 0
PrefixDecides = (f : Formula) (t later : List Names) (i : ℕ) → IsPast f → i < length t → Holds (Finite (t ++ later)) f i ↔ Holds (Finite t) f i

-- the monitor takes these states one after the other, with these answers
abbrev pub IsRun : MonitorValue → List Names → List Bool → Type 0
IsRun m [] [] = ⊤
IsRun m [] (answer ∷ answers) = ⊥
IsRun m (state ∷ states) [] = ⊥
IsRun m (state ∷ states) (answer ∷ answers) = (next : MonitorValue) × IsStep m state answer next × IsRun next states answers

-- the answer to state k is whether the formula holds at the last position of the states up to it
abbrev pub RunsAreRight : Type 0
RunsAreRight = (m : MonitorValue) (states : List Names) (answers : List Bool) → StandsFor m [] → IsRun m states answers
    → (length answers ≡ length states)
    × ((k : ℕ) → k < length states → IsTrue (slice_index_or answers k false) ↔ Holds (Finite (take (suc k) states)) (formula_of m) k)

-- two answers to the same text are one, where memory was not wanting
abbrev pub HasOneAnswer : Type 0
HasOneAnswer = (f : Formula) (text : List ℕ) (r s : Result (List Bool) WatchRefused) → IsWatched f text r → IsWatched f text s → r ≢ Err NoMemory
    → s ≢ Err NoMemory → r ≡ s
