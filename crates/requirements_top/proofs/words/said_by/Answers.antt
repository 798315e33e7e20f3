use Rattle.std.proofs.Common.{refl}
use Rattle.requirements_top.proofs.words.said_by.Goals as goal

pub returns : goal.returns
returns c =
    rw (c.is_there.ensures, c.is_there-2.ensures, c.is_there-3.ensures, c.is_there-4.ensures, c.is_there-5.ensures)
    (rw (c.get_str.ensures, c.get_str-2.ensures, c.get_str-3.ensures, c.get_str-4.ensures) refl)
