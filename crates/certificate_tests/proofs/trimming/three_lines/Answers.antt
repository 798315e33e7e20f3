use Rattle.std.proofs.Common.{◌≡◌, ℕ, zero, suc, true, List, [], ◌∷◌, get_or, slice_get, Some, refl}
use Rattle.cnf_base.specs.declared.literal.Literal.{Literal}
use Rattle.cnf_base.specs.declared.literal.Hint.{Hint}
use Rattle.cnf_base.specs.declared.literal.Hint.TheVariants.{Clause, Line}
use Rattle.cnf_base.specs.Step.{numbered, IsHintedStep}
use Rattle.cnf_base.specs.Worked.{plus, minus, clauses_of_false}
use Rattle.cnf_base.proofs.Deciding.{is_hinted_step, Decides-hinted_step}
use Rattle.clause_log.specs.LogValue.{greatest_u32}
use Rattle.derivation.specs.Naming.{AreNamed}
use Rattle.certificate_tests.proofs.trimming.three_lines.Goals as goal

is_step : (lines : List (List Literal)) (clause : List Literal) (hints : List Hint) → is_hinted_step clauses_of_false lines greatest_u32 clause hints ≡ true
    → IsHintedStep clauses_of_false lines greatest_u32 clause hints
is_step lines clause hints = (Decides-hinted_step clauses_of_false lines greatest_u32 clause hints).0

-- a list in which the inputs are clauses 3, 1 and 5
abbrev five : List (List Literal)
five = (minus 2 ∷ plus 6 ∷ []) ∷ [] ∷ (minus 6 ∷ []) ∷ [] ∷ (minus 3 ∷ plus 4 ∷ []) ∷ []

pub derive-requires : goal.derive-requires
derive-requires c = rw (c.in_ok-log.ensures, c.minus.ensures) (is_step [] (minus 2 ∷ []) (Clause 2 ∷ Clause 1 ∷ []) refl)

pub derive-requires-2 : goal.derive-requires-2
derive-requires-2 c =
    rw (c.in_ok-first.ensures.added.0, c.in_ok-log.ensures, c.minus.ensures, c.minus-2.ensures)
    (is_step ((minus 2 ∷ []) ∷ []) (minus 2 ∷ []) (Clause 1 ∷ Clause 2 ∷ []) refl)

pub derive-requires-3 : goal.derive-requires-3
derive-requires-3 c =
    rw (
      c.in_ok-second.ensures.added.0,
      c.in_ok-first.ensures.added.0,
      c.in_ok-log.ensures,
      c.minus.ensures,
      c.minus-2.ensures,
      c.minus-3.ensures,
      c.minus-4.ensures,
    )
    (is_step ((minus 2 ∷ []) ∷ (minus 2 ∷ []) ∷ []) (minus 2 ∷ minus 3 ∷ []) (Line 2 ∷ []) refl)

named_five : AreNamed five clauses_of_false (3 ∷ 1 ∷ 5 ∷ [])
named_five = record { count = refl; each = each }
  where
    each : (i : ℕ) (clause : List Literal) → slice_get clauses_of_false i ≡ Some clause → numbered five (get_or (3 ∷ 1 ∷ 5 ∷ []) i 0) ≡ Some clause
    each zero clause is = is
    each (suc zero) clause is = is
    each (suc (suc zero)) clause is = is
    each (suc (suc (suc i))) clause is = cc

pub of-requires : goal.of-requires
of-requires c = (
  five,
  rw (c.in_ok-third.ensures.added.0, c.in_ok-second.ensures.added.0, c.in_ok-first.ensures.added.0, c.in_ok-log.ensures, c.in_ok-names.ensures.items)
      named_five,
)
