-- What is read as a trace is one: its lists are as long as the written ones.
use Rattle.std.proofs.Common.{ℕ, ◌<◌, List, [], ◌∷◌, length, Ok, arith}
use Rattle.ltl_word.specs.declared.trace.Trace.{Trace}
use Rattle.ltl_word.specs.declared.trace.Trace.TheVariants.{Infinite, Finite}
use Rattle.ltl_word.specs.Trace.{Names, IsTrace}
use Rattle.ltl_word.specs.Json.{AreSetsOf, IsTraceOf, IsReading}

some_sets : (xs ys : List Names) → AreSetsOf xs ys → 0 < length xs → 0 < length ys
some_sets [] [] h some = some
some_sets [] (y ∷ ys) h some = absurd h
some_sets (x ∷ xs) [] h some = absurd h
some_sets (x ∷ xs) (y ∷ ys) h some = omega arith

written_trace : (written t : Trace) → IsTraceOf written t → IsTrace written → IsTrace t
written_trace (Infinite stem loop_part) (Infinite stem' loop_part') h is = some_sets loop_part loop_part' h.1 is
written_trace (Infinite stem loop_part) (Finite states') h is = absurd h
written_trace (Finite states) (Infinite stem' loop_part') h is = absurd h
written_trace (Finite states) (Finite states') h is = some_sets states states' h is

pub read_trace : (text : List ℕ) (t : Trace) → IsReading text (Ok t) → IsTrace t
read_trace text t (written, json, is, of) = written_trace written t of is
