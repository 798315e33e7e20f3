use Rattle.std.proofs.Common.{sym, subst}
use Rattle.black_top.specs.SystemInner.{IsPartRead}
use Rattle.black_top.proofs.PartSizes.{small_byte, refused_read}
use Rattle.black_top.proofs.commands.system.read_part.Goals as goal

pub refused_part-requires : goal.refused_part-requires
refused_part-requires c =
    let refuses = rw c.in-Refused.is at c.in_ok-table.ensures in
    record { place = c.requires.place; byte = small_byte c.args.text.now c.in-Refused.fault c.requires.short refuses }

pub returns-in-Refused : goal.returns-in-Refused
returns-in-Refused c =
    let refuses = rw c.in-Refused.is at c.in_ok-table.ensures in
    subst (IsPartRead c.args.text.now c.args.place) (sym c.refused_part.ensures)
    (refused_read c.args.text.now c.args.place c.in-Refused.fault c.requires.short refuses)
