use Rattle.requirements_top.proofs.Showing.{letters_printed}
use Rattle.requirements_top.proofs.reporting.printed.Goals as goal

pub report-requires-clause-few : goal.report-requires-clause-few
report-requires-clause-few g c κs lives = rw c.in-About.is at c.requires.fit

pub certified-requires-clause-few : goal.certified-requires-clause-few
certified-requires-clause-few g c κs lives = rw c.in-Certificate.is at c.requires.fit

pub returns-in-Letters-clause-printed : goal.returns-in-Letters-clause-printed
returns-in-Letters-clause-printed g c = rw c.in-Letters.is (letters_printed c.args.document.now c.letters.result c.letters.ensures)

pub returns-in-About-clause-printed : goal.returns-in-About-clause-printed
returns-in-About-clause-printed g c = rw c.in-About.is c.report.ensures.printed

pub returns-in-About-clause-silent : goal.returns-in-About-clause-silent
returns-in-About-clause-silent g c quiet = c.report.ensures.silent (rw c.in-About.is at quiet)

pub returns-in-Certificate-clause-printed : goal.returns-in-Certificate-clause-printed
returns-in-Certificate-clause-printed g c = rw c.in-Certificate.is c.certified.ensures.printed

pub returns-in-Certificate-clause-silent : goal.returns-in-Certificate-clause-silent
returns-in-Certificate-clause-silent g c quiet = c.certified.ensures.silent (rw c.in-Certificate.is at quiet)
