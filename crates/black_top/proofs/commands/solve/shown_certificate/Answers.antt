use Rattle.black_top.proofs.Certified.{uncertified, certified}
use Rattle.black_top.proofs.commands.solve.shown_certificate.Goals as goal

pub returns-then-not-cert : goal.returns-then-not-cert
returns-then-not-cert c = uncertified c.args.cert c.args.closure.now.formula c.args.closure.now.kind c.args.depth c.args.out.now.items c.if-not-cert.true

pub returns : goal.returns
returns c =
    let value = c.args.closure.now in
    certified c.args.cert value.formula value.kind c.args.depth c.certificate.result c.args.out.now.items c.certificate.new.out.items c.if-not-cert.false
    c.certificate.ensures
