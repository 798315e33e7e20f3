use Rattle.std.proofs.Common.{subst}
use Rattle.clause_index.specs.PairParts.{part_clauses}
use Rattle.unravel.specs.Putting.{AreNumbersIn}
use Rattle.unravel.proofs.Listing.{numbers_in, some_in}
use Rattle.unravel.proofs.listed.Listed.part.Goals as goal

pub returns : goal.returns
returns c =
    let x = c.self.inside.indexed in
    let all = numbers_in x c.pair_numbers-numbers.result (part_clauses x.formula x.kind c.args.pair.later c.args.pair.earlier c.args.part)
    c.pair_numbers-numbers.ensures.clauses c.pair_numbers-numbers.ensures.small in
    subst (λ v. AreNumbersIn v c.some_of.result) c.self.view_is
    (some_in x c.pair_numbers-numbers.result c.some_of.result all c.some_of.ensures.first c.some_of.ensures.last)
