use Rattle.std.proofs.Common.{◌+◌}
use Rattle.ltl_syntax.specs.Table.{tree_at}
use Rattle.depast.specs.Sources.{behind}
use Rattle.depast.proofs.Sourced.{counted_more, behind_source}
use Rattle.depast.proofs.sources.put_behind.Goals as goal

pub loop-step-preserved : goal.loop-step-preserved
loop-step-preserved c t root gs under are =
    counted_more t root c.loop-step.sources.items c.push.new.self.items gs (λ m. behind c.args.beyond m (tree_at t c.args.operand)) c.loop-step.step
    (record { node = c.args.operand; back = c.loop-step.step + 1; beyond = c.args.beyond })
    (c.loop-step.invariant t root gs under are) c.in_ok-push.ensures.items (behind_source t root c.args.operand (c.loop-step.step + 1) c.args.beyond under)
