use Rattle.std.proofs.Common.{◌<◌, length, map, subst, arith, All, Contains}
use Rattle.std.proofs.lemmas.List.{take_all, length-map}
use Rattle.std.proofs.lemmas.List.Elements.{All-nil}
use Rattle.enc_layout.specs.Clauses.{literal_in, counts, signed_clauses}
use Rattle.clause_index.specs.Sections.{section_clauses}
use Rattle.unravel.proofs.Listing.{number_in}
use Rattle.unravel.proofs.Putting.{more_none, more_then, there_next}
use Rattle.unravel.proofs.growing.add_section.Goals as goal

pub add-requires-clause-number : goal.add-requires-clause-number
add-requires-clause-number c = number_in c.args.listed.now c.section-numbers.result c.clauses.index c.section-numbers.ensures.within c.clauses-test.true

pub clauses-init : goal.clauses-init
clauses-init c = record {
  more = more_none c.args.listed.now c.args.inputs.now c.requires.part;
  there = All-nil (Contains c.args.inputs.now.solver.log.inputs);
}

pub clauses-preserved : goal.clauses-preserved
clauses-preserved c =
    let x = c.args.listed.now in
    let are = c.section-numbers.ensures.clauses in
    let all = signed_clauses x.formula x.kind (section_clauses x.formula x.kind c.args.step c.args.section) in
    let long = length-map (section_clauses x.formula x.kind c.args.step c.args.section) (map (literal_in x.kind (counts x.formula))) in
    let low : c.clauses.index < length all = omega (arith, are.count, long, c.clauses-test.true) in
    let new = c.add.new.self in
    let here = subst (Contains new.solver.log.inputs) (are.stand.each c.clauses.index low) c.in_ok-add.ensures.there in
    record {
      more = more_then x c.args.inputs.now c.clauses.inputs new c.clauses.invariant.more c.in_ok-add.ensures.more;
      there =
          there_next all c.clauses.inputs.solver.log.inputs new.solver.log.inputs c.clauses.index low c.clauses.invariant.there
          c.in_ok-add.ensures.more.kept here;
    }

pub returns-clause-there : goal.returns-clause-there
returns-clause-there c =
    let x = c.args.listed.now in
    let are = c.section-numbers.ensures.clauses in
    let all = signed_clauses x.formula x.kind (section_clauses x.formula x.kind c.args.step c.args.section) in
    let long = length-map (section_clauses x.formula x.kind c.args.step c.args.section) (map (literal_in x.kind (counts x.formula))) in
    subst (All (Contains c.clauses.inputs.solver.log.inputs)) (take_all c.clauses.index all (omega (arith, are.count, long, c.clauses-test.false)))
    c.clauses.invariant.there
