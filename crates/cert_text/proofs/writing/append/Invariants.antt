use Rattle.std.proofs.Common.{◌≡◌, ◌++◌, drop}
use Rattle.std.specs.List.{flat_map}
use Rattle.std.specs.Prelude.{codes, decimal}
use Rattle.cert_text.specs.Text.{part_text, kind_text}
use Rattle.cert_text.specs.Writing.{parts_from}
use Rattle.cert_text.proofs.writing.append.Given as goal

abbrev pub invariant-loop-index : goal.invariant-loop-index
invariant-loop-index l =
    l.out.items ++ flat_map part_text (parts_from l.derivation.hints l.targets l.index (drop l.index l.derivation.lines) (drop l.index l.derivation.hints))
    ≡ l.fn.out.items
    ++ ((codes "ltlcert 2 " ++ (kind_text l.fn.kind ++ (codes " " ++ (decimal l.depth ++ codes "\n")))) ++ flat_map part_text
    (parts_from l.derivation.hints l.targets 0 l.derivation.lines l.derivation.hints))
