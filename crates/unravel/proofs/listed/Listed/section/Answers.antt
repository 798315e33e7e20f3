use Rattle.std.proofs.Common.{subst}
use Rattle.clause_index.specs.Sections.{section_clauses}
use Rattle.unravel.specs.Putting.{AreNumbersIn}
use Rattle.unravel.proofs.Listing.{numbers_in}
use Rattle.unravel.proofs.listed.Listed.section.Goals as goal

pub returns-clause-within : goal.returns-clause-within
returns-clause-within c =
    let x = c.self.inside.indexed in
    subst (λ v. AreNumbersIn v c.numbers.result) c.self.view_is
    (numbers_in x c.numbers.result (section_clauses x.formula x.kind c.args.step c.args.section) c.numbers.ensures.clauses c.numbers.ensures.small)
