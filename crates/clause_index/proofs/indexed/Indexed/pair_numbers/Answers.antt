use Rattle.std.proofs.Common.{◌≤◌, sym, subst}
use Rattle.clause_index.specs.PairParts.{IsPart, part_clauses}
use Rattle.clause_index.specs.Numbers.{AreNumbersOf}
use Rattle.clause_index.proofs.PairParts.{part_numbers_are}
use Rattle.clause_index.proofs.indexed.Indexed.pair_numbers.Goals as goal

pub returns-clause-clauses : goal.returns-clause-clauses
returns-clause-clauses c =
    subst (λ v. AreNumbersOf v c.part_numbers.result (part_clauses v.formula v.kind c.args.step c.args.earlier c.args.part)) c.self.view_is
    (part_numbers_are c.self.inside.closure.now c.self.inside.sizes c.self.invariant.sizes_are c.self.inside.depth c.args.step c.args.earlier c.args.part
    c.part_numbers.result
    (subst (λ v. c.args.step ≤ v.depth) (sym c.self.view_is) c.requires.step) c.requires.earlier
    (subst (λ v. IsPart v.formula v.kind c.args.part) (sym c.self.view_is) c.requires.known)
    c.part_numbers.ensures.first c.part_numbers.ensures.count)
