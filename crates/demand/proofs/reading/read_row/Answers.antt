use Rattle.std.proofs.Common.{◌∙◌, map}
use Rattle.std.proofs.lemmas.Simd.{map-map}
use Rattle.ltl_closure.specs.Closure.{eventualities}
use Rattle.ltl_closure.specs.Run.{request_of, right_of}
use Rattle.enc_layout.specs.Clauses.{carried}
use Rattle.demand.specs.declared.row.Row.{Row as StoredRow}
use Rattle.demand.specs.Rows.{refused_requests}
use Rattle.demand.specs.Reading.{entry_value}
use Rattle.demand.proofs.ReadRows.{values_are, row_is, carry_known, pending_known, fulfilled_known, refused_known}
use Rattle.demand.proofs.reading.read_row.Goals as goal

pub entry_values-requires-clause-known : goal.entry_values-requires-clause-known
entry_values-requires-clause-known g c =
    carry_known c.of-layout.result c.args.closure.now c.of-layout.ensures.layout c.args.entries.now c.requires.entries
    c.deref.result.now c.deref.ensures.value

pub entry_values-requires-2-clause-known : goal.entry_values-requires-2-clause-known
entry_values-requires-2-clause-known g c =
    pending_known c.of-layout.result c.args.closure.now c.of-layout.ensures.layout c.args.entries.now c.requires.entries
    c.deref-2.result.now c.deref-2.ensures.value

pub entry_values-requires-3-clause-known : goal.entry_values-requires-3-clause-known
entry_values-requires-3-clause-known g c =
    fulfilled_known c.of-layout.result c.args.closure.now c.of-layout.ensures.layout c.args.entries.now c.requires.entries
    c.deref-3.result.now c.deref-3.ensures.value

pub entry_values-requires-4-clause-known : goal.entry_values-requires-4-clause-known
entry_values-requires-4-clause-known g c =
    refused_known c.of-layout.result c.args.closure.now c.of-layout.ensures.layout c.args.entries.now c.requires.entries
    c.deref-4.result.now c.deref-4.ensures.value

pub returns : goal.returns
returns g c =
    let f = c.args.closure.now.formula in
    let kind = c.args.closure.now.kind in
    let v = g.V.Values.values c.args.values.now in
    let i = c.args.step in
    let are = values_are c.of-layout.result c.args.closure.now c.of-layout.ensures.layout v i in
    let entries = c.requires.entries in
    let row : StoredRow = record {
      carry = c.in_ok-entry_values.field-0;
      pending = c.in_ok-entry_values-2.field-0;
      fulfilled = c.in_ok-entry_values-3.field-0;
      refused = c.in_ok-entry_values-4.field-0;
    } in
    row_is f kind v i row
    (are (carried f) c.deref.result.now row.carry.items c.in_ok-entry_values.ensures (c.deref.ensures.value ∙ entries.carry))
    (are (map request_of (eventualities f)) c.deref-2.result.now row.pending.items c.in_ok-entry_values-2.ensures (c.deref-2.ensures.value ∙ entries.pending)
    ∙ map-map (entry_value f kind v i) request_of (eventualities f))
    (are (map right_of (eventualities f)) c.deref-3.result.now row.fulfilled.items c.in_ok-entry_values-3.ensures (c.deref-3.ensures.value ∙ entries.fulfilled)
    ∙ map-map (entry_value f kind v i) right_of (eventualities f))
    (are (refused_requests f kind) c.deref-4.result.now row.refused.items c.in_ok-entry_values-4.ensures (c.deref-4.ensures.value ∙ entries.refused))
