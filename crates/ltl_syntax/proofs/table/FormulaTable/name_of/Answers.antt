use Rattle.std.proofs.Common.{◌≡◌, ◌<◌, ◌∙◌, sym, ap, subst, [], length, get_or, arith, map, string_bytes}
use Rattle.std.proofs.lemmas.List.{get_or-map, length-map}
use Rattle.ltl_syntax.specs.Table.{Table, IsPlain}
use Rattle.ltl_syntax.proofs.table.FormulaTable.name_of.Goals as goal

pub returns-clause-plain : goal.returns-clause-plain
returns-clause-plain c =
    let there : c.args.letter < length (map string_bytes c.self.inside.names.keys) = omega (arith, ap (λ (t : Table). length t.names) c.self.view_is) in
    let within : c.args.letter < length c.self.inside.names.keys = rw length-map at there in
    let item = rw c.as_slice.ensures.keys at c.index-as_slice-letter.is in
    let text : get_or (map string_bytes c.self.inside.names.keys) c.args.letter [] ≡ c.as_str.result.now =
    get_or-map string_bytes c.self.inside.names.keys c.args.letter c.index-as_slice-letter.result [] within ∙ ap string_bytes (sym item)
    ∙ sym c.as_str.ensures.value in
    subst IsPlain text (c.self.invariant.0.plain c.args.letter there)
