use Rattle.std.proofs.Common.{◌≡◌, ◌+◌, ◌-◌, ◌<◌, [], length, get_or, sym, ap, ◌∙◌, arith}
use Rattle.enc_layout.specs.Clauses.{clause_list}
use Rattle.clause_index.proofs.Filling.{next_more}
use Rattle.clause_index.proofs.storing.stored.Goals as goal

pub clauses-preserved : goal.clauses-preserved
clauses-preserved c =
    let v = c.args.indexed.now in
    let all = clause_list v.formula v.kind v.depth in
    let low : c.clauses.index < length all = omega (arith, c.clauses-test.true, c.count-index-end.ensures) in
    let back : c.clauses.index + 1 - 1 ≡ c.clauses.index = omega arith in
    next_more [] all c.clauses.list c.push.new.list c.clauses.index _ [] low (sym (c.clause.ensures ∙ ap (λ n. get_or all n []) back))
    c.clauses.invariant c.in_ok-push.ensures.ok
