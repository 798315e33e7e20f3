use Rattle.std.proofs.Common.{length, get_or, sym, ap, ◌∙◌, subst, arith}
use Rattle.cnf_base.specs.Known.{AreKnown}
use Rattle.log_checker.specs.Values.{letters_in}
use Rattle.log_checker.specs.declared.worker.Area.{Area}
use Rattle.log_checker.proofs.lines.judge_pieces.Goals as goal

pub for_each_mut-requires-clause-accepts : goal.for_each_mut-requires-clause-accepts
for_each_mut-requires-clause-accepts g c κs within = λ i p low at κs' r r' name values ranges n fits apart κs''.
    let clauses = g.C.NamedClauses.clauses c.args.clauses.now in
    let same = c.as_mut_slice.ensures.value in
    let count = ap length same in
    let here = at ∙ ap (λ xs. get_or xs i p.now) same in (
      subst (λ (a : Area). AreKnown (letters_in a.assignment) clauses) (sym here) (c.requires.known i p.now (omega (arith, low, count))),
      (c.requires.cuts, (omega (arith, low, count, c.requires.pieces), omega (arith, c.requires.few, low, count))),
    )
