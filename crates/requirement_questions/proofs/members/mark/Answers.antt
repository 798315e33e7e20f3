use Rattle.std.proofs.Common.{length, refl}
use Rattle.std.proofs.lemmas.Option.{slice_get_read}
use Rattle.requirement_questions.proofs.LeftOut.{marked_is}
use Rattle.requirement_questions.proofs.members.mark.Goals as goal

pub returns : goal.returns
returns c =
    let ms = c.args.members.now.items in
    marked_is c.args.place ms c.index.result.now (slice_get_read ms (length ms) c.args.place c.index.result.now refl c.requires c.index.ensures)
