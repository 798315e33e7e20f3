use Rattle.std.proofs.Common.{add-one}
use Rattle.log_trim.proofs.Marks.{setting, target_marked, starts, hint_marked, line_visited, line_passed, ended, clause_passed, no_hints, all_added, moved}
use Rattle.cnf_base.specs.declared.literal.Hint.TheVariants.{Clause, Line}
use Rattle.log_trim.proofs.laws.marking.Goals as goal

pub returns-clause-sets : goal.returns-clause-sets
returns-clause-sets c flags k lt = setting flags k lt

pub returns-clause-target : goal.returns-clause-target
returns-clause-target c log targets i M N lt marking needed has = rw (add-one i) (target_marked log targets i M N lt marking needed has)

pub returns-clause-starts : goal.returns-clause-starts
returns-clause-starts c log targets M needed has = starts log targets M needed has

pub returns-clause-none : goal.returns-clause-none
returns-clause-none c M hints = no_hints M hints

pub returns-clause-hint : goal.returns-clause-hint
returns-clause-hint c hints i m d L M N below e adds marking =
    rw (add-one i) (hint_marked hints i m L M N below (moved hints i d (Line m) below e) adds marking)

pub returns-clause-clause : goal.returns-clause-clause
returns-clause-clause c hints i n d L M below e adds = rw (add-one i) (clause_passed hints i n L M below (moved hints i d (Clause n) below e) adds)

pub returns-clause-line : goal.returns-clause-line
returns-clause-line c log targets k M N is lt at adds w = line_visited log targets k M N is lt at (all_added M N _ adds) w

pub returns-clause-passed : goal.returns-clause-passed
returns-clause-passed c log targets k M unmarked w = line_passed log targets k M unmarked w

pub returns-clause-ends : goal.returns-clause-ends
returns-clause-ends c log targets M is w = ended log targets M is w
