use Rattle.std.proofs.Common.{◌≡◌, ◌∷◌, [], sym, subst, ap, arith, length, length-append}
use Rattle.depast.specs.Sources.{AreLiftedStates}
use Rattle.depast.proofs.ShownNames.{lifted_more}
use Rattle.depast.proofs.lifting.lifted.Goals as goal

pub loop-position-preserved : goal.loop-position-preserved
loop-position-preserved c = record {
  long = omega (
    arith,
    ap length c.in_ok-push.ensures.items,
    length-append c.loop-position.states.items (c.in_ok-lifted_state.field-0 ∷ []),
    c.loop-position.invariant.long,
  );
  each = lifted_more c.args.meanings.now c.args.removed.now.names c.args.trace.now c.args.first c.loop-position.states.items c.push.new.self.items
      c.in_ok-lifted_state.field-0 c.loop-position.position
      c.in_ok-push.ensures.items c.loop-position.invariant.long c.loop-position.invariant.each c.in_ok-lifted_state.ensures;
}

pub returns : goal.returns
returns c count e =
    let ended : c.loop-position.position ≡ c.args.end = omega arith in
    let long : length c.loop-position.states.items ≡ count = omega (arith, c.loop-position.invariant.long, ended, e) in
    subst (AreLiftedStates c.args.meanings.now c.args.removed.now.names c.args.trace.now c.args.first count) (sym c.new.ensures) (record {
      long = omega (arith, long);
      each = λ i lt. c.loop-position.invariant.each i (omega (arith, long, lt));
    })
