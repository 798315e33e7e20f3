use Rattle.std.proofs.Common.{◌≡◌, ◌<◌, length, get_or, Contains, ◌∙◌, sym, subst, arith}
use Rattle.std.proofs.lemmas.List.{get_or_default}
use Rattle.cdcl_trail.specs.Trail.{literals_of, literal_at}
use Rattle.cdcl_trail.specs.Assigned.{AssignedValue}
use Rattle.cdcl_trail.proofs.Places.{stands_there}
use Rattle.cdcl_trail.proofs.assigned.Assigned.place.Goals as goal

pub index-requires : goal.index-requires
index-requires c =
    let here = stands_there c.self.inside.places.items c.self.inside.values c.self.inside.trail c.args.literal c.self.invariant.0 c.self.invariant.1
    (subst (λ (a : AssignedValue). Contains (literals_of a.trail) c.args.literal) (sym c.self.view_is) c.requires) in
    omega (arith, here.known)

pub returns-clause-within : goal.returns-clause-within
returns-clause-within c =
    let places = c.self.inside.places.items in
    let here = stands_there places c.self.inside.values c.self.inside.trail c.args.literal c.self.invariant.0 c.self.invariant.1
    (subst (λ (a : AssignedValue). Contains (literals_of a.trail) c.args.literal) (sym c.self.view_is) c.requires) in
    let is : get_or places c.args.literal.letter.0 0 ≡ c.index.result.now =
    get_or_default places c.args.literal.letter.0 0 _ here.known ∙ sym c.index.ensures in
    subst (λ (a : AssignedValue). c.index.result.now < length a.trail) c.self.view_is (subst (λ k. k < length c.self.inside.trail) is here.within)

pub returns-clause-there : goal.returns-clause-there
returns-clause-there c =
    let places = c.self.inside.places.items in
    let here = stands_there places c.self.inside.values c.self.inside.trail c.args.literal c.self.invariant.0 c.self.invariant.1
    (subst (λ (a : AssignedValue). Contains (literals_of a.trail) c.args.literal) (sym c.self.view_is) c.requires) in
    let is : get_or places c.args.literal.letter.0 0 ≡ c.index.result.now =
    get_or_default places c.args.literal.letter.0 0 _ here.known ∙ sym c.index.ensures in
    subst (λ (a : AssignedValue). literal_at a.trail c.index.result.now ≡ c.args.literal) c.self.view_is
    (subst (λ k. literal_at c.self.inside.trail k ≡ c.args.literal) is here.is)
