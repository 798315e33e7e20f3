use Rattle.std.proofs.Common.{◌≡◌, ◌++◌, OnOk, sym, subst}
use Rattle.requirement_document.specs.Values.{document_in}
use Rattle.requirement_answers.specs.Asking.{asks_of}
use Rattle.requirement_answers.proofs.Numbered.{role_at}
use Rattle.requirement_answers.proofs.planning.add_about.Goals as goal

pub returns : goal.returns
returns c =
    let d = c.args.document.now in
    let n = c.args.number in
    subst (λ r. OnOk c.add_by_role.result (c.add_by_role.new.asks.items ≡ c.args.asks.now.items ++ asks_of (document_in d) c.args.left.now n r))
    (sym (role_at d n c.index.result.now c.requires c.index.ensures)) c.add_by_role.ensures
