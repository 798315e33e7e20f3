use Rattle.std.proofs.Common.{◌≡◌, true, List, [], ◌∷◌, refl}
use Rattle.cnf_base.specs.declared.literal.Literal.{Literal}
use Rattle.cnf_base.specs.declared.literal.Hint.{Hint}
use Rattle.cnf_base.specs.declared.literal.Hint.TheVariants.{Clause}
use Rattle.cnf_base.specs.Step.{IsHintedStep}
use Rattle.cnf_base.specs.Worked.{minus, clauses_of_false}
use Rattle.cnf_base.proofs.Deciding.{is_hinted_step, Decides-hinted_step}
use Rattle.clause_log.specs.LogValue.{greatest_u32}
use Rattle.solver_tests.proofs.logs.refutes_false.Goals as goal

is_step : (lines : List (List Literal)) (hints : List Hint) → is_hinted_step clauses_of_false lines greatest_u32 (minus 2 ∷ []) hints ≡ true
    → IsHintedStep clauses_of_false lines greatest_u32 (minus 2 ∷ []) hints
is_step lines hints = (Decides-hinted_step clauses_of_false lines greatest_u32 (minus 2 ∷ []) hints).0

pub derive-requires : goal.derive-requires
derive-requires g c = rw (c.in_ok-log.ensures, c.minus.ensures) (is_step [] (Clause 2 ∷ Clause 1 ∷ []) refl)

pub derive-requires-2 : goal.derive-requires-2
derive-requires-2 g c =
    rw (c.in_ok-first.ensures.added.0, c.in_ok-log.ensures, c.minus.ensures, c.minus-2.ensures)
    (is_step ((minus 2 ∷ []) ∷ []) (Clause 1 ∷ Clause 2 ∷ []) refl)
