use Rattle.requirement_report.proofs.Gridded.{letters_found}
use Rattle.requirement_page.proofs.pictures.letters.Goals as goal

pub returns : goal.returns
returns c = letters_found c.args.trace.now c.letters_of.result c.letters_of.ensures.ascending c.letters_of.ensures.letters
