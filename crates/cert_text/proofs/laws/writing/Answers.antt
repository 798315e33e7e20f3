use Rattle.cert_text.proofs.Written.{written_lines, written_hints, written_is, written_good, target_is_live}
use Rattle.std.proofs.Common.{refl}
use Rattle.cert_text.proofs.laws.writing.Goals as goal

pub returns-clause-says : goal.returns-clause-says
returns-clause-says c =
    λ kind depth lines hints targets paired. (written_lines hints targets 0 lines hints paired, written_hints hints targets 0 lines hints paired)

pub returns-clause-text : goal.returns-clause-text
returns-clause-text c = λ kind depth lines hints targets a b d e f g. record { lawful = written_is kind depth lines hints targets a b d e f g; spelled = refl }

pub returns-clause-good : goal.returns-clause-good
returns-clause-good c = λ clauses lines hints targets greatest k paired low step. written_good hints targets lines paired clauses greatest k low step

pub returns-clause-targets : goal.returns-clause-targets
returns-clause-targets c = λ lines hints targets t paired there. target_is_live hints targets lines paired t there
