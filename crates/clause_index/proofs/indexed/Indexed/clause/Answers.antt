use Rattle.std.proofs.Common.{◌≡◌, ◌≤◌, ◌∙◌, sym, subst, length}
use Rattle.cnf_base.specs.Step.{clause_at}
use Rattle.enc_layout.specs.Clauses.{clause_list}
use Rattle.enc_layout.proofs.Fitting.{lower_fits}
use Rattle.clause_index.specs.Literals.{literals}
use Rattle.clause_index.proofs.Listing.{list_within, section_within, list_row}
use Rattle.clause_index.proofs.indexed.Indexed.clause.Goals as goal

pub place_of-place-requires-clause-within : goal.place_of-place-requires-clause-within
place_of-place-requires-clause-within c =
    list_within c.self.inside.closure.now.formula c.self.inside.closure.now.kind c.self.inside.depth c.args.number c.self.inside.sizes
    c.self.invariant.sizes_are c.requires.from_one
    (subst (λ v. c.args.number ≤ length (clause_list v.formula v.kind v.depth)) (sym c.self.view_is) c.requires.in_list)

pub find-requires-clause-fits : goal.find-requires-clause-fits
find-requires-clause-fits c =
    lower_fits c.self.inside.layout c.place_of-place.result.step c.self.inside.depth c.place_of-place.ensures.known c.self.invariant.fits

pub find-requires-clause-within : goal.find-requires-clause-within
find-requires-clause-within c =
    section_within c.self.inside.closure.now.formula c.self.inside.closure.now.kind c.place_of-place.result.step c.place_of-place.result.section
    c.place_of-place.result.index c.self.inside.sizes
    c.self.invariant.sizes_are c.place_of-place.ensures.within

pub returns : goal.returns
returns c =
    subst (λ v. literals c.find.result ≡ clause_at (clause_list v.formula v.kind v.depth) c.args.number) c.self.view_is
    (c.find.ensures
    ∙ list_row c.self.inside.layout c.self.inside.closure.now c.self.invariant.own c.self.inside.sizes c.self.invariant.sizes_are c.self.inside.depth
    c.place_of-place.result.step
    c.place_of-place.result.section c.place_of-place.result.index c.args.number c.requires.from_one c.place_of-place.ensures.known
    c.place_of-place.ensures.within c.place_of-place.ensures.place)
