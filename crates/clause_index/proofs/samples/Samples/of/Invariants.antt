use Rattle.std.proofs.Common.{◌≡◌, ℕ, ◌<◌, length, slice_index_or}
use Rattle.clause_index.specs.ByNumber.{gates_before}
use Rattle.clause_index.specs.Samples.{sample_start}
use Rattle.clause_index.proofs.samples.Samples.of.Given as goal

abbrev pub invariant-loop-sample : goal.invariant-loop-sample
invariant-loop-sample l =
    (length l.before ≡ 256)
    × (l.count ≡ gates_before l.entries (sample_start l.entries l.apart l.sample))
    × ((b : ℕ) → b < l.sample → slice_index_or l.before b 0 ≡ gates_before l.entries (sample_start l.entries l.apart b))
