use Rattle.std.proofs.Common.{◌≡◌, ◌++◌, replicate}
use Rattle.trace_view.proofs.lines.add_repeated.Given as goal

abbrev pub invariant-bytes : goal.invariant-bytes
invariant-bytes l = l.lines.items ≡ l.fn.lines.items ++ replicate l._byte l.byte
