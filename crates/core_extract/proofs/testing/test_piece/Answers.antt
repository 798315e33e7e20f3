use Rattle.std.proofs.Common.{subst, sym}
use Rattle.core_extract.specs.Testing.{IsTested, marked}
use Rattle.core_extract.proofs.Members.{read}
use Rattle.core_extract.proofs.testing.test_piece.Goals as goal

pub returns-in-Ok : goal.returns-in-Ok
returns-in-Ok g c =
    let place = read c.args.places.now.items c.args.piece c.index.result.now 0 c.requires.piece c.index.ensures in
    subst (λ n. IsTested c.args.task.now (marked c.args.marks.now.items) n c.in-Ok.outcome) (sym place) c.in-Ok.ensures
