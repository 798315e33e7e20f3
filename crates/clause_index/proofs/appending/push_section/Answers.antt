use Rattle.std.proofs.Common.{◌≡◌, ◌+◌, ◌<◌, ◌++◌, [], length, map, sym, ap, ◌∙◌, arith}
use Rattle.std.proofs.lemmas.List.{take_all, length-map}
use Rattle.enc_layout.specs.Clauses.{literal_in, counts, signed_clauses}
use Rattle.clause_index.specs.Sections.{section_clauses}
use Rattle.clause_index.proofs.Filling.{next_more}
use Rattle.clause_index.proofs.appending.push_section.Goals as goal

pub clause-requires-clause-in_list : goal.clause-requires-clause-in_list
clause-requires-clause-in_list c =
    let are = c.numbers-numbers.ensures.clauses in
    let x = c.args.indexed.now in
    let long = length-map (section_clauses x.formula x.kind c.args.step c.args.section) (map (literal_in x.kind (counts x.formula))) in
    omega (arith, are.stand.within, are.count, long, c.clauses-test.true)

pub clauses-preserved : goal.clauses-preserved
clauses-preserved c =
    let are = c.numbers-numbers.ensures.clauses in
    let x = c.args.indexed.now in
    let all = signed_clauses x.formula x.kind (section_clauses x.formula x.kind c.args.step c.args.section) in
    let long = length-map (section_clauses x.formula x.kind c.args.step c.args.section) (map (literal_in x.kind (counts x.formula))) in
    let low : c.clauses.index < length all = omega (arith, are.count, long, c.clauses-test.true) in
    next_more c.args.list.now all c.clauses.list c.push.new.list c.clauses.index _ [] low (sym (c.clause.ensures ∙ are.stand.each c.clauses.index low))
    c.clauses.invariant c.in_ok-push.ensures.ok

pub returns-clause-ok : goal.returns-clause-ok
returns-clause-ok c =
    let are = c.numbers-numbers.ensures.clauses in
    let x = c.args.indexed.now in
    let all = signed_clauses x.formula x.kind (section_clauses x.formula x.kind c.args.step c.args.section) in
    let long = length-map (section_clauses x.formula x.kind c.args.step c.args.section) (map (literal_in x.kind (counts x.formula))) in
    c.clauses.invariant ∙ ap (λ xs. c.args.list.now ++ xs) (take_all c.clauses.index all (omega (arith, are.count, long, c.clauses-test.false)))
