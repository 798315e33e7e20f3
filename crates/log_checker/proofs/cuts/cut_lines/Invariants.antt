use Rattle.std.proofs.Common.{◌≡◌, ◌-◌, ◌≤◌, length}
use Rattle.cert_text.specs.Live.{lines_of}
use Rattle.log_checker.proofs.Cutting.{AreBegun}
use Rattle.log_checker.proofs.cuts.cut_lines.Given as goal

abbrev pub invariant-cuts : goal.invariant-cuts
invariant-cuts l =
    (length l.cuts.items ≡ length l.fn.cuts.items) × (1 ≤ l.piece) × (l.piece ≤ l.pieces) × AreBegun (l.piece - 1) l.cuts.items (length (lines_of l.view.parts))
