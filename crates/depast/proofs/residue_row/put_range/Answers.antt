use Rattle.std.proofs.Common.{◌≡◌, ◌+◌, ◌-◌, suc, ◌∷◌, [], ◌++◌, List, subst, arith}
use Rattle.depast.specs.declared.symbol.Symbol.{Symbol}
use Rattle.depast.specs.declared.symbol.Symbol.TheVariants as symbols
use Rattle.depast.specs.Depast.{step_back, joined_back}
use Rattle.depast.specs.Symbols.{Writes}
use Rattle.depast.proofs.ResidueRows.{goes_on_behind, one_more_back, one_back}
use Rattle.depast.proofs.residue_row.put_range.Goals as goal

pub loop-step-init : goal.loop-step-init
loop-step-init c l d none front back e s w =
    let v = c.in_ok-put_step.ensures l d front back e s w in
    (v.0, v.1, one_back l c.args.op none c.args.name c.args.first d v.0 v.2)

pub loop-step-preserved : goal.loop-step-preserved
loop-step-preserved c l d none front back e s w =
    let v = c.loop-step.invariant l d none front back e s w in
    let more = symbols.New (c.args.name + c.loop-step.step) ∷ symbols.Binary c.args.op ∷ [] in (
      v.0 ++ symbols.New (c.args.name + c.loop-step.step) ∷ symbols.Binary c.args.op ∷ [],
      goes_on_behind front v.0 (symbols.New (c.args.name + c.loop-step.step) ∷ symbols.Binary c.args.op ∷ [])
          c.loop-step.row.items c.extend_from_slice.new.self.items v.1 c.in_ok-extend_from_slice.ensures.items,
      one_more_back l c.args.op none c.args.name c.loop-step.step c.args.first d v.0 (omega arith) v.2,
    )

pub returns : goal.returns
returns c l d none front back e s w =
    let ended : c.loop-step.step ≡ c.args.last = omega arith in
    subst (λ n. (new : List Symbol) × (c.loop-step.row.items ≡ front ++ new)
    × Writes l new (joined_back c.args.op none (step_back l.new c.args.name d) c.args.first (suc n - c.args.first))) ended
    (c.loop-step.invariant l d none front back e s w)
