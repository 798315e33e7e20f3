use Rattle.std.proofs.Common.{map, string_bytes}
use Rattle.requirements_top.specs.Said.{said_of}
use Rattle.requirements_top.proofs.Wording.{not_taken, asked_so}
use Rattle.requirements_top.proofs.words.asked_for.Goals as goal

pub returns-in-Some : goal.returns-in-Some
returns-in-Some c =
    let is = rw c.in-Some.is at c.in_ok-said.ensures in
    asked_so (map string_bytes c.args.words.now) (said_of c.in-Some.said) c.asked_by.result is.0 is.1 c.asked_by.ensures

pub returns-in-None : goal.returns-in-None
returns-in-None c = not_taken (map string_bytes c.args.words.now) (rw c.in-None.is at c.in_ok-said.ensures)
