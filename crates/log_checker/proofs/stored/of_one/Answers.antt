use Rattle.std.proofs.Common.{[]}
use Rattle.log_checker.specs.Values.{falses_in}
use Rattle.log_checker.proofs.ShortForms.{all_false}
use Rattle.log_checker.proofs.stored.of_one.Goals as goal

pub returns : goal.returns
returns c = c.with_number.ensures [] (all_false (falses_in c.args.assignment.now))
