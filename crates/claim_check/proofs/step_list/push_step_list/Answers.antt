use Rattle.claim_check.proofs.Parts.{inside, whole}
use Rattle.claim_check.proofs.step_list.push_step_list.Goals as goal

pub push_part-requires-clause-inside : goal.push_part-requires-clause-inside
push_part-requires-clause-inside c = inside c.args.closure.now.names c.args.closure.now.formula c.entries-entries.result.now c.entries-entries.ensures.closure

pub push_part-requires-2-clause-inside : goal.push_part-requires-2-clause-inside
push_part-requires-2-clause-inside c = inside c.args.closure.now.names c.args.closure.now.formula c.entries-entries.result.now c.entries-entries.ensures.closure

pub push_part-requires-3-clause-inside : goal.push_part-requires-3-clause-inside
push_part-requires-3-clause-inside c = inside c.args.closure.now.names c.args.closure.now.formula c.entries-entries.result.now c.entries-entries.ensures.closure

pub push_part-requires-4-clause-inside : goal.push_part-requires-4-clause-inside
push_part-requires-4-clause-inside c = inside c.args.closure.now.names c.args.closure.now.formula c.entries-entries.result.now c.entries-entries.ensures.closure

pub push_part-requires-5-clause-inside : goal.push_part-requires-5-clause-inside
push_part-requires-5-clause-inside c = inside c.args.closure.now.names c.args.closure.now.formula c.entries-entries.result.now c.entries-entries.ensures.closure

pub push_part-requires-6-clause-inside : goal.push_part-requires-6-clause-inside
push_part-requires-6-clause-inside c = inside c.args.closure.now.names c.args.closure.now.formula c.entries-entries.result.now c.entries-entries.ensures.closure

pub returns : goal.returns
returns c =
    whole c.args.closure.now.names c.args.closure.now.formula c.entries-entries.result.now c.entries-entries.ensures.closure
    c.args.out.now c.push_part.new.out c.push_part-2.new.out c.push_part-3.new.out c.push_part-4.new.out c.push_root.new.out c.push_part-5.new.out
    c.push_part-6.new.out
    c.in_ok-push_part.ensures c.in_ok-push_part-2.ensures c.in_ok-push_part-3.ensures c.in_ok-push_part-4.ensures c.in_ok-push_root.ensures
    c.in_ok-push_part-5.ensures c.in_ok-push_part-6.ensures
