use Rattle.std.proofs.Common.{rules, ◌≡◌, ◌<◌, ◌+◌, ◌-◌, length, sym, ap, ◌∙◌, subst, arith}
use Rattle.cnf_base.specs.Known.{AreKnown}
use Rattle.log_checker.specs.Values.{letters_in}
use Rattle.claim_check.specs.Data.{layer_in, certificate_in}
use Rattle.claim_check.specs.declared.reason.CertificateFault.TheVariants as Reasons
use Rattle.claim_check.specs.declared.reason.ClaimVerdict.TheVariants.{Verified, Refused}
use Rattle.claim_check.proofs.Faults.{verified_lawful}
use Rattle.claim_check.proofs.Checked.{layer_is, layers_long, clauses_known, clauses_more, lines_more, good_more, layer_refused, line_refused, target_refused}
use Rattle.claim_check.proofs.Checked.{verified}
use Rattle.claim_check.proofs.checking.check.Goals as goal

pub take_layer-requires-clause-clauses : goal.take_layer-requires-clause-clauses
take_layer-requires-clause-clauses c =
    clauses_known c.args.closure.now.formula c.args.kind (certificate_in c.args.certificate.now)
    c.layers.j c.layers.clauses c.layers.invariant.3 c.layers.invariant.5

pub returns-in-Some-clause-verdict : goal.returns-in-Some-clause-verdict
returns-in-Some-clause-verdict c =
    let s = c.args.certificate.now in
    let same : s.kind ≡ c.args.kind = search rules in
    let low : c.layers.j < length s.layers.items = omega (arith, c.layers-test.true, c.len-j-end.ensures) in
    let is = layer_is s c.layers.j _ c.index-layer.result.now low c.index-layer.ensures in
    layer_refused c.args.closure.now.formula c.args.kind (certificate_in s) c.layers.j c.layers.clauses c.layers.lines (layer_in c.index-layer.result.now)
    c.layers.invariant.3 c.layers.invariant.4 is
    same (omega (arith, low, layers_long s)) c.layers.invariant.5 c.in_ok-fault.field-0 c.in-Some.fault c.in-Some.is c.in_ok-fault.ensures.judged

pub returns-in-Some-clause-lawful : goal.returns-in-Some-clause-lawful
returns-in-Some-clause-lawful c =
    verified_lawful c.args.closure.now.formula c.args.kind (certificate_in c.args.certificate.now) (Refused (Reasons.Layer (c.layers.j + 1) c.in-Some.fault))
    (returns-in-Some-clause-verdict c)

pub layers-preserved : goal.layers-preserved
layers-preserved c =
    let s = c.args.certificate.now in
    let f = c.args.closure.now.formula in
    let low : c.layers.j < length s.layers.items = omega (arith, c.layers-test.true, c.len-j-end.ensures) in
    let is = layer_is s c.layers.j _ c.index-layer.result.now low c.index-layer.ensures in
    let layer = layer_in c.index-layer.result.now in
    let none = c.in_default.is in (
      omega (arith, low),
      ap (λ n. n - 1) c.take_layer.ensures.size ∙ c.layers.invariant.1,
      c.in_ok-fault.ensures.known,
      clauses_more f c.args.kind (certificate_in s) c.layers.j c.layers.clauses c.layers.lines layer c.layers.invariant.3 c.layers.invariant.4 is
          c.take_layer.new.clauses (c.in_ok-fault.ensures.clauses none),
      lines_more f c.args.kind (certificate_in s)
          c.layers.j c.layers.clauses c.layers.lines layer c.layers.invariant.3 c.layers.invariant.4 is c.take_layer.new.lines
          (c.in_ok-fault.ensures.lines none),
      good_more f c.args.kind (certificate_in s)
          c.layers.j c.layers.clauses c.layers.lines layer c.layers.invariant.3 c.layers.invariant.4 is c.layers.invariant.5 c.in_ok-fault.field-0 none
          c.in_ok-fault.ensures.judged,
    )

pub take_lines-requires-clause-clauses : goal.take_lines-requires-clause-clauses
take_lines-requires-clause-clauses c =
    subst (λ n. AreKnown n c.layers.clauses) (sym c.layers.invariant.1)
    (clauses_known c.args.closure.now.formula c.args.kind (certificate_in c.args.certificate.now)
    c.layers.j c.layers.clauses c.layers.invariant.3 c.layers.invariant.5)

pub returns-in-Some-2-clause-verdict : goal.returns-in-Some-2-clause-verdict
returns-in-Some-2-clause-verdict c =
    let s = c.args.certificate.now in
    let same : s.kind ≡ c.args.kind = search rules in
    let all : c.layers.j ≡ length (certificate_in s).layers = omega (arith, c.layers-test.false, c.len-j-end.ensures, c.layers.invariant.0, layers_long s) in
    line_refused c.args.closure.now.formula c.args.kind (certificate_in s) c.layers.j (letters_in c.layers.assignment)
    c.layers.clauses c.layers.lines same all c.layers.invariant.5
    c.layers.invariant.3 c.layers.invariant.4 c.layers.invariant.1 c.in_ok-line.field-0 c.in_ok-line.ensures.judged c.in-Some-2.line c.in-Some-2.is

pub returns-in-Some-2-clause-lawful : goal.returns-in-Some-2-clause-lawful
returns-in-Some-2-clause-lawful c =
    verified_lawful c.args.closure.now.formula c.args.kind (certificate_in c.args.certificate.now) (Refused (Reasons.Line c.in-Some-2.line))
    (returns-in-Some-2-clause-verdict c)

pub returns-then-not-is_target-clause-verdict : goal.returns-then-not-is_target-clause-verdict
returns-then-not-is_target-clause-verdict c =
    let s = c.args.certificate.now in
    let same : s.kind ≡ c.args.kind = search rules in
    let all : c.layers.j ≡ length (certificate_in s).layers = omega (arith, c.layers-test.false, c.len-j-end.ensures, c.layers.invariant.0, layers_long s) in
    target_refused c.args.closure.now.formula c.args.kind (certificate_in s) c.layers.j (letters_in c.layers.assignment)
    c.layers.clauses c.layers.lines same all c.layers.invariant.5
    c.layers.invariant.3 c.layers.invariant.4 c.layers.invariant.1 c.in_ok-line.field-0 c.in_ok-line.ensures.judged c.take_lines.new.lines
    c.negation-first.result c.is_target.result
    c.in_default-2.is (c.in_ok-line.ensures.taken c.in_default-2.is) c.negation-first.ensures c.is_target.ensures c.if-not-is_target.true

pub returns-then-not-is_target-clause-lawful : goal.returns-then-not-is_target-clause-lawful
returns-then-not-is_target-clause-lawful c =
    verified_lawful c.args.closure.now.formula c.args.kind (certificate_in c.args.certificate.now) (Refused Reasons.Target)
    (returns-then-not-is_target-clause-verdict c)

pub returns-clause-verdict : goal.returns-clause-verdict
returns-clause-verdict c =
    let s = c.args.certificate.now in
    let same : s.kind ≡ c.args.kind = search rules in
    let all : c.layers.j ≡ length (certificate_in s).layers = omega (arith, c.layers-test.false, c.len-j-end.ensures, c.layers.invariant.0, layers_long s) in
    verified c.args.closure.now.formula c.args.kind (certificate_in s) c.layers.j (letters_in c.layers.assignment)
    c.layers.clauses c.layers.lines same all c.layers.invariant.5
    c.layers.invariant.3 c.layers.invariant.4 c.layers.invariant.1 c.in_ok-line.field-0 c.in_ok-line.ensures.judged c.take_lines.new.lines
    c.negation-first.result c.is_target.result
    c.in_default-2.is (c.in_ok-line.ensures.taken c.in_default-2.is) c.negation-first.ensures c.is_target.ensures c.if-not-is_target.false

pub returns-clause-lawful : goal.returns-clause-lawful
returns-clause-lawful c = verified_lawful c.args.closure.now.formula c.args.kind (certificate_in c.args.certificate.now) Verified (returns-clause-verdict c)
