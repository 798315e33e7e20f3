use Rattle.unravel.proofs.Listing.{number_in}
use Rattle.unravel.proofs.Putting.{more_none, more_then}
use Rattle.unravel.proofs.demanded.add_numbers.Goals as goal

pub clauses-init : goal.clauses-init
clauses-init c = more_none c.args.listed.now c.args.inputs.now c.requires.part

pub clauses-preserved : goal.clauses-preserved
clauses-preserved c = more_then c.args.listed.now c.args.inputs.now c.clauses.inputs c.add_once.new.self c.clauses.invariant c.in_ok-add_once.ensures

pub add_once-requires-clause-number : goal.add_once-requires-clause-number
add_once-requires-clause-number c = number_in c.args.listed.now c.args.numbers c.clauses.index c.requires.numbers c.clauses-test.true
