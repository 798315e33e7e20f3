use Rattle.ltl_closure.specs.Closure.{nexts, yesterdays}
use Rattle.ltl_run.specs.States.{letters}
use Rattle.cdcl.specs.SolverValue.{value_of}
use Rattle.enc_layout.proofs.Standing.{nexts_all, yesterdays_all}
use Rattle.unravel.proofs.Rooms.{letters_all}
use Rattle.unravel.proofs.Reading.{values_are}
use Rattle.unravel.proofs.showing.read_state.Goals as goal

pub entry_values-requires-clause-known : goal.entry_values-requires-clause-known
entry_values-requires-clause-known c = letters_all c.of-layout.result c.args.closure.now c.of-layout.ensures.layout c.args.numbers.now c.requires.numbers

pub entry_values-requires-2-clause-known : goal.entry_values-requires-2-clause-known
entry_values-requires-2-clause-known c = nexts_all c.of-layout.result c.args.closure.now c.of-layout.ensures.layout c.nexts.result.now c.nexts.ensures.numbers

pub entry_values-requires-3-clause-known : goal.entry_values-requires-3-clause-known
entry_values-requires-3-clause-known c =
    yesterdays_all c.of-layout.result c.args.closure.now c.of-layout.ensures.layout c.yesterdays.result.now c.yesterdays.ensures.numbers

pub returns : goal.returns
returns c =
    let v = value_of c.args.solver.now in
    record {
      letters = values_are c.of-layout.result c.args.closure.now c.of-layout.ensures.layout v c.args.step (letters c.args.closure.now.formula)
          c.args.numbers.now c.in_ok-letters.letters.items c.in_ok-letters.ensures c.requires.numbers;
      nexts = values_are c.of-layout.result c.args.closure.now c.of-layout.ensures.layout v c.args.step (nexts c.args.closure.now.formula)
          c.nexts.result.now c.in_ok-nexts.nexts.items c.in_ok-nexts.ensures c.nexts.ensures.numbers;
      yesterdays = values_are c.of-layout.result c.args.closure.now c.of-layout.ensures.layout v c.args.step (yesterdays c.args.closure.now.formula)
          c.yesterdays.result.now c.in_ok-yesterdays.yesterdays.items c.in_ok-yesterdays.ensures c.yesterdays.ensures.numbers;
    }
