use Rattle.std.proofs.Common.{map, length, Some, refl, sym, ap, arith, ◌∙◌, ◌<◌, ◌≤◌}
use Rattle.std.proofs.lemmas.List.{length-map}
use Rattle.toml.specs.Data.{get}
use Rattle.toml.specs.View.{view}
use Rattle.requirement_document.specs.Keys.{section_word}
use Rattle.requirement_document.specs.Document.{as_whole}
use Rattle.requirement_document.proofs.Looking.{entries_given, many_given}
use Rattle.requirement_document.proofs.entries.entries_of.Goals as goal

pub returns-then-len-gt-MAX_ENTRIES-clause-err : goal.returns-then-len-gt-MAX_ENTRIES-clause-err
returns-then-len-gt-MAX_ENTRIES-clause-err c =
    let found = get (section_word c.args.section) (view c.args.root.now) in
    let vs = c.in-Some-as_array.entries.now.items in
    let many : 1024 < length (map view vs) = omega (arith, length-map vs view, c.len.ensures, c.if-len-gt-MAX_ENTRIES.true) in
    rw c.whole-then-len-gt-MAX_ENTRIES.ensures
    (as_whole refl (many_given found (view c.in-Some.value.now) (map view vs) c.in-Some.ensures c.in-Some-as_array.ensures many))

pub returns-clause-ok : goal.returns-clause-ok
returns-clause-ok c =
    let found = get (section_word c.args.section) (view c.args.root.now) in
    let vs = c.in-Some-as_array.entries.now.items in
    let few : length (map view vs) ≤ 1024 = omega (arith, length-map vs view, c.len.ensures, c.if-len-gt-MAX_ENTRIES.false) in
    entries_given found (view c.in-Some.value.now) (map view vs) c.in-Some.ensures c.in-Some-as_array.ensures few
    ∙ ap (λ vs. Some (map view vs)) (sym c.as_slice.ensures.value)
