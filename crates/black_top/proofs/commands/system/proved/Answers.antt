use Rattle.std.proofs.Common.{◌∙◌, refl, subst}
use Rattle.ltl_syntax.specs.Table.{tree_at}
use Rattle.black_top.specs.Inner.{AddsCertificate}
use Rattle.black_top.proofs.SystemDeciding.{proof_shown}
use Rattle.black_top.proofs.commands.system.proved.Goals as goal

pub returns : goal.returns
returns c =
    let joined = c.args.joined.now in
    let begun = c.in_ok-out.out in
    let value = c.args.closure.now in
    let adds = subst (λ k. AddsCertificate (tree_at joined.table joined.whole) k c.args.depth begun.text.items c.certificate.new.out.items) c.requires.kind
    (subst (λ f. AddsCertificate f value.kind c.args.depth begun.text.items c.certificate.new.out.items) c.requires.formula c.in_ok-certificate.ensures) in
    proof_shown (tree_at joined.table joined.whole) c.args.depth begun (record {
      status = begun.status;
      text = c.certificate.new.out;
    }) c.deref.result.now (c.deref.ensures.value ∙ c.in_ok-formula.ensures) c.in_ok-out.ensures refl adds
