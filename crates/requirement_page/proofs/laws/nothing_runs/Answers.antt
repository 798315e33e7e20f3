use Rattle.requirement_page.proofs.Harmless.{no_less_there, no_greater_there}
use Rattle.requirement_page.proofs.Marked.{page_marked, page_guarded}
use Rattle.requirement_page.proofs.laws.nothing_runs.Goals as goal

pub returns : goal.returns
returns c = record { opens = no_less_there; closes = no_greater_there; marked = page_marked; guarded = page_guarded }
