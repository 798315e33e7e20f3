use Rattle.std.proofs.Common.{◌≡◌, ℕ, zero, suc, true, List, [], ◌∷◌, get_or, slice_get, Some, refl}
use Rattle.cnf_base.specs.declared.literal.Literal.{Literal}
use Rattle.cnf_base.specs.declared.literal.Hint.{Hint}
use Rattle.cnf_base.specs.declared.literal.Hint.TheVariants.{Clause, Line}
use Rattle.cnf_base.specs.Step.{numbered, IsHintedStep}
use Rattle.cnf_base.specs.Worked.{minus, clauses_of_false}
use Rattle.cnf_base.proofs.Deciding.{is_hinted_step, Decides-hinted_step}
use Rattle.clause_log.specs.LogValue.{greatest_u32}
use Rattle.derivation.specs.Naming.{AreNamed}
use Rattle.certificate_tests.proofs.texts.two_lines.Goals as goal

is_step : (lines : List (List Literal)) (hints : List Hint) → is_hinted_step clauses_of_false lines greatest_u32 (minus 2 ∷ []) hints ≡ true
    → IsHintedStep clauses_of_false lines greatest_u32 (minus 2 ∷ []) hints
is_step lines hints = (Decides-hinted_step clauses_of_false lines greatest_u32 (minus 2 ∷ []) hints).0

-- the inputs are a list by themselves
own_names : AreNamed clauses_of_false clauses_of_false (1 ∷ 2 ∷ 3 ∷ [])
own_names = record { count = refl; each = each }
  where
    each : (i : ℕ) (clause : List Literal) → slice_get clauses_of_false i ≡ Some clause → numbered clauses_of_false (get_or (1 ∷ 2 ∷ 3 ∷ []) i 0) ≡ Some clause
    each zero clause is = is
    each (suc zero) clause is = is
    each (suc (suc zero)) clause is = is
    each (suc (suc (suc i))) clause is = cc

pub derive-requires : goal.derive-requires
derive-requires c = rw (c.in_ok-log.ensures, c.minus.ensures) (is_step [] (Clause 2 ∷ Clause 1 ∷ []) refl)

pub derive-requires-2 : goal.derive-requires-2
derive-requires-2 c =
    rw (c.in_ok-derive.ensures.added.0, c.in_ok-log.ensures, c.minus.ensures, c.minus-2.ensures)
    (is_step ((minus 2 ∷ []) ∷ []) (Line 1 ∷ []) refl)

pub of-requires : goal.of-requires
of-requires c =
    (clauses_of_false, rw (c.in_ok-derive-2.ensures.added.0, c.in_ok-derive.ensures.added.0, c.in_ok-log.ensures, c.in_ok-names.ensures.items) own_names)
