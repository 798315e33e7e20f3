use Rattle.std.proofs.Common.{◌∙◌, ◌<◌, length, string_bytes, bytes_eq, ap, arith}
use Rattle.requirement_document.specs.Values.{document_in}
use Rattle.requirements_top.specs.Naming.{item_names}
use Rattle.requirements_top.proofs.Named.{item_at, named, not_named, one_more, missing_items}
use Rattle.requirements_top.proofs.naming.item_named.Goals as goal

pub returns-then-eq : goal.returns-then-eq
returns-then-eq c =
    let d = c.args.document.now in
    let k = c.items.number in
    let found = c.index.result.now in
    let lt : k < length d.items.items = omega (arith, c.items-test.true, c.len-number-end.ensures) in
    let test = c.eq.ensures ∙ ap (λ t. bytes_eq t c.args.name.now) c.as_str.ensures.value in
    named (item_names (document_in d)) k c.in_ok-numbered.field-0 (string_bytes found.name) c.args.name.now c.eq.result
    (item_at d k found lt c.index.ensures) test c.if-eq.true
    c.in_ok-numbered.ensures

pub items-preserved : goal.items-preserved
items-preserved c =
    let d = c.args.document.now in
    let k = c.items.number in
    let found = c.index.result.now in
    let names = item_names (document_in d) in
    let lt : k < length d.items.items = omega (arith, c.items-test.true, c.len-number-end.ensures) in
    let test = c.eq.ensures ∙ ap (λ t. bytes_eq t c.args.name.now) c.as_str.ensures.value in
    record {
      before = one_more names c.args.name.now k c.items.invariant.before
          (not_named names k (string_bytes found.name) c.args.name.now c.eq.result (item_at d k found lt c.index.ensures) test c.if-eq.false);
    }

pub returns : goal.returns
returns c = missing_items c.args.document.now c.args.name.now
    (λ n lt. c.items.invariant.before n (omega (arith, lt, c.items-test.false, c.len-number-end.ensures)))
