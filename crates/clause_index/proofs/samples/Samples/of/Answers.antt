use Rattle.std.proofs.Common.{◌+◌, ◌/◌, ◌∙◌, ap, length}
use Rattle.std.proofs.lemmas.List.{length-set}
use Rattle.clause_index.specs.ByNumber.{gates_before}
use Rattle.clause_index.proofs.Sampling.{sample_more}
use Rattle.clause_index.proofs.samples.Samples.of.Goals as goal

pub loop-sample-preserved : goal.loop-sample-preserved
loop-sample-preserved c =
    let i = c.loop-sample.invariant in (
      length-set c.loop-sample.before c.loop-sample.sample c.loop-sample.count ∙ i.0,
      c.gates_between-count.ensures ∙ ap (gates_before c.args.entries.now) c.sample_start-to.ensures,
      sample_more c.args.entries.now (length c.args.entries.now / 256 + 1)
          c.loop-sample.before c.loop-sample.sample c.loop-sample.count i.0 c.loop-sample-test.true i.1 i.2,
    )
