use Rattle.std.proofs.Common.{[], ◌∷◌, sym, subst, ◌∙◌}
use Rattle.cnf_base.specs.Step.{clause_at}
use Rattle.log_checker.specs.Values.{falses_in}
use Rattle.log_checker.specs.Judging.{IsOutcome}
use Rattle.log_checker.specs.Shorts.{literal_of, AreShorts}
use Rattle.log_checker.specs.declared.stored.Short.TheVariants.{One, Two, Three}
use Rattle.log_checker.proofs.ShortForms.{said, first_known, second_known, third_known}
use Rattle.log_checker.proofs.stored.StoredClausesNamedClauses.outcome.Goals as goal

pub of_one-requires : goal.of_one-requires
of_one-requires c =
    let list = c.args.self.now in
    let is = said c.self.inside.shorts.items list c.args.number (One c.in-One.a) c.index.result.now
    (subst (AreShorts c.self.inside.shorts.items) c.self.view_is c.self.invariant) c.requires.from_one c.requires.in_list
    (sym c.index.ensures ∙ c.in-One.is) in
    first_known c.args.assignment.now list c.args.number c.requires.known c.requires.from_one c.requires.in_list c.in-One.a [] is

pub of_two-requires-clause-first : goal.of_two-requires-clause-first
of_two-requires-clause-first c =
    let list = c.args.self.now in
    let is = said c.self.inside.shorts.items list c.args.number (Two c.in-Two.a c.in-Two.b) c.index.result.now
    (subst (AreShorts c.self.inside.shorts.items) c.self.view_is c.self.invariant) c.requires.from_one c.requires.in_list
    (sym c.index.ensures ∙ c.in-Two.is) in
    first_known c.args.assignment.now list c.args.number c.requires.known c.requires.from_one c.requires.in_list c.in-Two.a (literal_of c.in-Two.b ∷ []) is

pub of_two-requires-clause-second : goal.of_two-requires-clause-second
of_two-requires-clause-second c =
    let list = c.args.self.now in
    let is = said c.self.inside.shorts.items list c.args.number (Two c.in-Two.a c.in-Two.b) c.index.result.now
    (subst (AreShorts c.self.inside.shorts.items) c.self.view_is c.self.invariant) c.requires.from_one c.requires.in_list
    (sym c.index.ensures ∙ c.in-Two.is) in
    second_known c.args.assignment.now list c.args.number c.requires.known c.requires.from_one c.requires.in_list c.in-Two.a c.in-Two.b [] is

pub of_three-requires-clause-first : goal.of_three-requires-clause-first
of_three-requires-clause-first c =
    let list = c.args.self.now in
    let is = said c.self.inside.shorts.items list c.args.number (Three c.in-Three.a c.in-Three.b c.in-Three.c) c.index.result.now
    (subst (AreShorts c.self.inside.shorts.items) c.self.view_is c.self.invariant) c.requires.from_one c.requires.in_list
    (sym c.index.ensures ∙ c.in-Three.is) in
    first_known c.args.assignment.now list c.args.number c.requires.known c.requires.from_one c.requires.in_list c.in-Three.a
    (literal_of c.in-Three.b ∷ literal_of c.in-Three.c ∷ []) is

pub of_three-requires-clause-second : goal.of_three-requires-clause-second
of_three-requires-clause-second c =
    let list = c.args.self.now in
    let is = said c.self.inside.shorts.items list c.args.number (Three c.in-Three.a c.in-Three.b c.in-Three.c) c.index.result.now
    (subst (AreShorts c.self.inside.shorts.items) c.self.view_is c.self.invariant) c.requires.from_one c.requires.in_list
    (sym c.index.ensures ∙ c.in-Three.is) in
    second_known c.args.assignment.now list c.args.number c.requires.known c.requires.from_one c.requires.in_list c.in-Three.a c.in-Three.b
    (literal_of c.in-Three.c ∷ []) is

pub of_three-requires-clause-third : goal.of_three-requires-clause-third
of_three-requires-clause-third c =
    let list = c.args.self.now in
    let is = said c.self.inside.shorts.items list c.args.number (Three c.in-Three.a c.in-Three.b c.in-Three.c) c.index.result.now
    (subst (AreShorts c.self.inside.shorts.items) c.self.view_is c.self.invariant) c.requires.from_one c.requires.in_list
    (sym c.index.ensures ∙ c.in-Three.is) in
    third_known c.args.assignment.now list c.args.number c.requires.known c.requires.from_one c.requires.in_list c.in-Three.a c.in-Three.b c.in-Three.c is

pub returns-in-One : goal.returns-in-One
returns-in-One c =
    let list = c.args.self.now in
    let is = said c.self.inside.shorts.items list c.args.number (One c.in-One.a) c.index.result.now
    (subst (AreShorts c.self.inside.shorts.items) c.self.view_is c.self.invariant) c.requires.from_one c.requires.in_list
    (sym c.index.ensures ∙ c.in-One.is) in
    subst (λ clause. IsOutcome (falses_in c.args.assignment.now) clause c.of_one.result) (sym is) c.of_one.ensures

pub returns-in-Two : goal.returns-in-Two
returns-in-Two c =
    let list = c.args.self.now in
    let is = said c.self.inside.shorts.items list c.args.number (Two c.in-Two.a c.in-Two.b) c.index.result.now
    (subst (AreShorts c.self.inside.shorts.items) c.self.view_is c.self.invariant) c.requires.from_one c.requires.in_list
    (sym c.index.ensures ∙ c.in-Two.is) in
    subst (λ clause. IsOutcome (falses_in c.args.assignment.now) clause c.of_two.result) (sym is) c.of_two.ensures

pub returns-in-Three : goal.returns-in-Three
returns-in-Three c =
    let list = c.args.self.now in
    let is = said c.self.inside.shorts.items list c.args.number (Three c.in-Three.a c.in-Three.b c.in-Three.c) c.index.result.now
    (subst (AreShorts c.self.inside.shorts.items) c.self.view_is c.self.invariant) c.requires.from_one c.requires.in_list
    (sym c.index.ensures ∙ c.in-Three.is) in
    subst (λ clause. IsOutcome (falses_in c.args.assignment.now) clause c.of_three.result) (sym is) c.of_three.ensures

pub returns-in-Other : goal.returns-in-Other
returns-in-Other c =
    subst (λ list. IsOutcome (falses_in c.args.assignment.now) (clause_at list c.args.number) c.of_clause.result) c.self.view_is c.of_clause.ensures
