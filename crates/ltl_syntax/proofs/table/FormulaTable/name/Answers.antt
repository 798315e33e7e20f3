use Rattle.std.proofs.Common.{◌≡◌, ◌<◌, length, arith, map, string_bytes, ap, sym, ◌∙◌, subst}
use Rattle.std.proofs.lemmas.List.{length-map}
use Rattle.ltl_syntax.specs.contracts.table.FormulaTable.{the_view}
use Rattle.ltl_syntax.specs.Table.{Table, Names}
use Rattle.ltl_syntax.proofs.Tables.{is_table-name, names_added, names_kept}
use Rattle.ltl_syntax.proofs.NameSearch.{name_found, name_missing, name_inserted}
use Rattle.ltl_syntax.proofs.table.FormulaTable.name.Goals as goal

pub invariant_of-self-2 : goal.invariant_of-self-2
invariant_of-self-2 c =
    let room : length (the_view c.self.inside).names < 4294967295 = omega (arith, ap (λ (t : Table). length t.names) c.self.view_is) in
    let none = sym c.in_default.ensures.found in (
      rw (ap (map string_bytes) c.in_ok-insert.ensures.keys
          ∙ name_inserted string_bytes c.args.text.now c.self.inside.names.keys c.in_ok-name.name c.in_ok-name.ensures.ok none)
          (is_table-name (the_view c.self.inside) c.args.text.now c.self.invariant.0 room c.requires.plain
          (name_missing string_bytes c.args.text.now c.self.inside.names.keys none)),
      c.self.invariant.1,
      c.self.invariant.2,
    )

pub returns-clause-ok : goal.returns-clause-ok
returns-clause-ok c =
    let none = sym c.in_default.ensures.found in
    let number : c.len-number.result ≡ length (the_view c.self.inside).names = rw length-map (omega arith) in
    rw (
      ← c.self.view_is,
      number,
      ap (map string_bytes) c.in_ok-insert.ensures.keys
          ∙ name_inserted string_bytes c.args.text.now c.self.inside.names.keys c.in_ok-name.name c.in_ok-name.ensures.ok none,
    )
    (names_added (the_view c.self.inside) c.args.text.now c.self.invariant.0 (name_missing string_bytes c.args.text.now c.self.inside.names.keys none))

pub returns-in-Some-clause-ok : goal.returns-in-Some-clause-ok
returns-in-Some-clause-ok c =
    let at = name_found string_bytes c.args.text.now c.self.inside.names.keys c.in-Some.number (sym c.in-Some.ensures.index) in
    subst (λ t. Names t c.args.text.now c.in-Some.number t) c.self.view_is
    (names_kept (the_view c.self.inside) c.args.text.now c.self.invariant.0 c.in-Some.number at.0 at.1)
