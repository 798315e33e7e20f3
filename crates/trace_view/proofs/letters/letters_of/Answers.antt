use Rattle.std.proofs.Common.{ap}
use Rattle.trace_view.proofs.Occurring.{occurring, pushed_parts, pushed_states}
use Rattle.trace_view.proofs.letters.letters_of.Goals.{in-Infinite+in_ok-push_states-in-Infinite+in_ok-push_states-in-Infinite-2}
use Rattle.trace_view.proofs.letters.letters_of.Goals.{in-Finite+in_ok-push_states-in-Finite}
use Rattle.trace_view.proofs.letters.letters_of.Goals as goal

pub returns-clause-letters : goal.returns-clause-letters
returns-clause-letters c = occurring c.args.trace.now c.match-trace.names.items c.from_names.result c.from_names.ensures.members
    (elim c.match-trace.branch [
      | in-Infinite+in_ok-push_states-in-Infinite+in_ok-push_states-in-Infinite-2 w ↦
          pushed_parts c.args.trace.now _ _ w.as_slice.result.now w.as_slice-in-Infinite.result.now c.new-names.result.items w.push_states.new.names.items
          w.push_states-in-Infinite.new.names.items c.match-trace.names.items w.in-Infinite.is w.as_slice.ensures w.as_slice-in-Infinite.ensures
          c.new-names.ensures.items
          w.in_ok-push_states-in-Infinite.ensures w.in_ok-push_states-in-Infinite-2.ensures (ap (λ v. v.items) w.names-is)
      | in-Finite+in_ok-push_states-in-Finite w ↦
          pushed_states c.args.trace.now _ w.as_slice-in-Finite.result.now c.new-names.result.items w.push_states-in-Finite.new.names.items
          c.match-trace.names.items
          w.in-Finite.is w.as_slice-in-Finite.ensures c.new-names.ensures.items w.in_ok-push_states-in-Finite.ensures (ap (λ v. v.items) w.names-is)
    ])
