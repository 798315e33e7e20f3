use Rattle.std.proofs.Common.{refl}
use Rattle.enc_layout.proofs.Steps.{list_more, step_parts}
use Rattle.enc_layout.proofs.laws.steps.Goals as goal

pub returns-clause-first : goal.returns-clause-first
returns-clause-first c f kind = refl

pub returns-clause-more : goal.returns-clause-more
returns-clause-more c = list_more

pub returns-clause-parts : goal.returns-clause-parts
returns-clause-parts c = step_parts
