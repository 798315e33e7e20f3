use Rattle.std.proofs.Common.{Some, refl, sym, ap, ◌∙◌}
use Rattle.toml.specs.View.{table_view}
use Rattle.requirement_document.specs.Document.{as_whole}
use Rattle.requirement_document.proofs.whole.check_document.Goals as goal

pub returns-in_ok-from_str-in-Some-clause-err : goal.returns-in_ok-from_str-in-Some-clause-err
returns-in_ok-from_str-in-Some-clause-err c =
    rw c.whole.ensures (as_whole refl (table_view c.args.members.now, refl, c.in-Some.ensures ∙ ap Some (sym c.in_ok-from_str-in-Some.ensures.ok)))
