use Rattle.std.proofs.Common.{ap, ◌∙◌}
use Rattle.enc_layout.specs.Clauses.{clause_list}
use Rattle.clause_index.specs.Indexed.{IndexedValue}
use Rattle.cert_check.proofs.Judging.{same_list}
use Rattle.cert_check.proofs.together.judge.Goals as goal

pub judge_over-requires-clause-clauses : goal.judge_over-requires-clause-clauses
judge_over-requires-clause-clauses g c κs within =
    c.in-Some.ensures ∙ same_list c.of-clauses.ensures.formula c.of-clauses.ensures.kind (c.of-clauses.ensures.depth ∙ c.depth.ensures)

pub judge_over-requires-in-None-clause-clauses : goal.judge_over-requires-in-None-clause-clauses
judge_over-requires-in-None-clause-clauses g c κs within =
    ap (λ (x : IndexedValue). clause_list x.formula x.kind x.depth) c.of-clauses-in-None.ensures
    ∙ same_list c.of-clauses.ensures.formula c.of-clauses.ensures.kind (c.of-clauses.ensures.depth ∙ c.depth.ensures)
