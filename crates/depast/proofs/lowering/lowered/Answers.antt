use Rattle.std.proofs.Common.{◌≡◌, ◌∷◌, [], ◌∙◌, ap, sym, subst, arith, length, length-append}
use Rattle.std.proofs.lemmas.List.{get_or_default}
use Rattle.depast.specs.States.{AreLowered}
use Rattle.depast.proofs.Others.{lowered_more}
use Rattle.depast.proofs.lowering.lowered.Goals as goal

pub loop-state-preserved : goal.loop-state-preserved
loop-state-preserved c = record {
  long =
      omega
      (arith, ap length c.in_ok-push.ensures.items, length-append c.loop-state.lowered.items (c.in_ok-from_names.field-0 ∷ []), c.loop-state.invariant.long);
  each = lowered_more c.args.new.now c.args.states.now c.loop-state.lowered.items c.push.new.self.items c.loop-state.state-index c.state-item.result
      c.in_ok-from_names.field-0 c.in_ok-others.field-0.items
      c.loop-state.invariant.long c.in_ok-push.ensures.items
      (get_or_default c.args.states.now c.loop-state.state-index [] c.state-item.result c.loop-state-test.true ∙ sym c.state-item.is)
      c.loop-state.invariant.each
      c.in_ok-others.ensures c.in_ok-from_names.ensures.members;
}

pub returns : goal.returns
returns c =
    let all : c.loop-state.state-index ≡ length c.args.states.now = omega arith in
    subst (AreLowered c.args.new.now c.args.states.now) (sym c.new.ensures) (record {
      count = c.loop-state.invariant.long ∙ all;
      each = λ i lt. c.loop-state.invariant.each i (omega arith);
    })
