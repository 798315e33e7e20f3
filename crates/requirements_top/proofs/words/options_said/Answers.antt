use Rattle.std.proofs.Common.{◌∙◌, map, string_bytes}
use Rattle.requirements_top.proofs.Wording.{matched_said}
use Rattle.requirements_top.proofs.words.options_said.Goals as goal

pub returns-in-Some : goal.returns-in-Some
returns-in-Some c =
    let is = rw c.in-Some.is at c.in_ok-matches.ensures in
    (is.0, c.said_by.ensures ∙ matched_said (map string_bytes c.args.words.now) c.in-Some.matches is.1)
