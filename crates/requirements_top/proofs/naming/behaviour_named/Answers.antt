use Rattle.std.proofs.Common.{◌∙◌, ◌<◌, length, string_bytes, bytes_eq, ap, arith}
use Rattle.requirement_document.specs.Values.{document_in}
use Rattle.requirements_top.specs.Naming.{behaviour_names}
use Rattle.requirements_top.proofs.Named.{behaviour_at, named, not_named, one_more, missing_behaviours}
use Rattle.requirements_top.proofs.naming.behaviour_named.Goals as goal

pub returns-then-eq : goal.returns-then-eq
returns-then-eq c =
    let d = c.args.document.now in
    let k = c.behaviours.number in
    let found = c.index.result.now in
    let lt : k < length d.behaviours.items = omega (arith, c.behaviours-test.true, c.len-number-end.ensures) in
    let test = c.eq.ensures ∙ ap (λ t. bytes_eq t c.args.name.now) c.as_str.ensures.value in
    named (behaviour_names (document_in d)) k c.in_ok-numbered.field-0 (string_bytes found.name) c.args.name.now c.eq.result
    (behaviour_at d k found lt c.index.ensures) test c.if-eq.true
    c.in_ok-numbered.ensures

pub behaviours-preserved : goal.behaviours-preserved
behaviours-preserved c =
    let d = c.args.document.now in
    let k = c.behaviours.number in
    let found = c.index.result.now in
    let names = behaviour_names (document_in d) in
    let lt : k < length d.behaviours.items = omega (arith, c.behaviours-test.true, c.len-number-end.ensures) in
    let test = c.eq.ensures ∙ ap (λ t. bytes_eq t c.args.name.now) c.as_str.ensures.value in
    record {
      before = one_more names c.args.name.now k c.behaviours.invariant.before
          (not_named names k (string_bytes found.name) c.args.name.now c.eq.result (behaviour_at d k found lt c.index.ensures) test c.if-eq.false);
    }

pub returns : goal.returns
returns c = missing_behaviours c.args.document.now c.args.name.now
    (λ n lt. c.behaviours.invariant.before n (omega (arith, lt, c.behaviours-test.false, c.len-number-end.ensures)))
