use Rattle.std.proofs.Common.{◌≡◌, ◌≤◌, sym, subst}
use Rattle.clause_index.specs.Sections.{section_clauses}
use Rattle.clause_index.specs.Numbers.{AreNumbersOf}
use Rattle.clause_index.proofs.Listing.{section_numbers_are}
use Rattle.clause_index.proofs.indexed.Indexed.numbers.Goals as goal

pub returns-clause-clauses : goal.returns-clause-clauses
returns-clause-clauses c =
    subst (λ v. AreNumbersOf v c.section_numbers.result (section_clauses v.formula v.kind c.args.step c.args.section)) c.self.view_is
    (section_numbers_are c.self.inside.closure.now c.self.inside.sizes c.self.invariant.sizes_are c.self.inside.depth c.args.step c.args.section
    c.section_numbers.result
    (subst (λ v. c.args.step ≤ v.depth) (sym c.self.view_is) c.requires) c.section_numbers.ensures.first c.section_numbers.ensures.count)
