use Rattle.batch_run.proofs.Unique.{answers_one}
use Rattle.batch_run.proofs.laws.one_list.Goals as goal

pub returns : goal.returns
returns c = λ kind asked text.
    let laws = c.one_reading.ensures in
    answers_one kind asked text (record {
      one_formula = laws.one_formula;
      one_fault = laws.one_fault;
      not_both = laws.not_both;
      one_verdict = c.one_verdict.ensures;
    })
