use Rattle.ltl_word.specs.Holds.{name_of}
use Rattle.ltl_word.proofs.Propositional.{Holds-local}
use Rattle.ltl_word.proofs.laws.propositional.Goals as goal

pub returns-clause-state : goal.returns-clause-state
returns-clause-state c t u f i j local same = Holds-local t u i j f local (λ p h. same (name_of p))

pub returns-clause-letters : goal.returns-clause-letters
returns-clause-letters c t u f i j local same = Holds-local t u i j f local same
