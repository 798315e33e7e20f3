use Rattle.std.proofs.Common.{◌∙◌, ap, sym, subst, arith}
use Rattle.ltl_closure.specs.Entries.{IsNumber, entry_at}
use Rattle.enc_layout.proofs.Standing.{one_inside}
use Rattle.clause_index.specs.Rows.{row_at}
use Rattle.clause_index.specs.ByNumber.{entry_gate}
use Rattle.clause_index.proofs.Gates.{gates_total, gate_row}
use Rattle.clause_index.proofs.gate.gates.Goals as goal

pub gate_spot-spot-requires-clause-within : goal.gate_spot-spot-requires-clause-within
gate_spot-spot-requires-clause-within c =
    omega (arith, c.requires.within, gates_total c.args.closure.now.names c.args.closure.now.formula c.entries.result.now c.entries.ensures.closure c.args.step)

pub entry-requires : goal.entry-requires
entry-requires c = subst (λ n. IsNumber n c.gate_spot-spot.result.number) c.entries.ensures.closure.long c.gate_spot-spot.ensures.known

pub gate_at-requires-clause-inside : goal.gate_at-requires-clause-inside
gate_at-requires-clause-inside c =
    one_inside c.args.layout.now c.args.closure.now c.requires.own c.args.closure.now.entries c.entry.ensures.closure c.gate_spot-spot.result.number
    (subst (λ n. IsNumber n c.gate_spot-spot.result.number) c.entries.ensures.closure.long c.gate_spot-spot.ensures.known)
    c.entry.result c.entry.ensures.entry

pub returns : goal.returns
returns c =
    c.gate_at.ensures
    ∙ (ap (λ x. row_at c.args.layout.now (entry_gate c.args.step c.gate_spot-spot.result.number x) c.gate_spot-spot.result.index)
    (c.entry.ensures.entry ∙ ap (λ es. entry_at es c.gate_spot-spot.result.number) (sym c.entries.ensures.entries))
    ∙ gate_row c.args.closure.now.names c.args.closure.now.formula c.entries.result.now c.entries.ensures.closure c.args.layout.now c.args.step
    c.gate_spot-spot.result.number c.gate_spot-spot.result.index c.args.index c.gate_spot-spot.ensures.known c.gate_spot-spot.ensures.from
    c.gate_spot-spot.ensures.within)
