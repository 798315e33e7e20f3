-- What is written of lines that close the tableau is verified.
use Rattle.std.proofs.Common.{◌≡◌, ℕ, zero, suc, ◌<◌, ◌≤◌, inl, inr, Some, refl, ap, subst, ◌∙◌, arith, List, [], length, take, get_or, All}
use Rattle.std.proofs.lemmas.Bool.{cases_lt}
use Rattle.std.proofs.lemmas.List.{get_or_default, length-take}
use Rattle.std.proofs.lemmas.Option.{slice_get_within}
use Rattle.cnf_base.specs.declared.literal.Literal.{Literal as Signed}
use Rattle.cnf_base.specs.Step.{numbered}
use Rattle.clause_log.specs.LogValue.{greatest_u32}
use Rattle.derivation.specs.Steps.{DerivationValue, AreSteps}
use Rattle.enc_layout.specs.Clauses.{clause_list}
use Rattle.cert_text.specs.Text.{greatest_u64, IsLiteral, IsNumber, IsHint}
use Rattle.cert_text.specs.Writing.{written}
use Rattle.cert_text.proofs.Written.{written_is, hints_fit}
use Rattle.cert_check.specs.Lawful.{StepsVerify}
use Rattle.cert_check.proofs.Narrowing.{steps_are_lawful}

numbered_range : (lines : List (List Signed)) (n : ℕ) (line : List Signed) → length lines ≤ greatest_u64 → numbered lines n ≡ Some line → IsNumber n
numbered_range lines zero line few is = cc
numbered_range lines (suc n) line few is = (omega arith, omega (arith, slice_get_within lines n line is, few))

-- the hints of steps are numbers that a text can have
step_hints : (list : List (List Signed)) (log : DerivationValue) → AreSteps list log
    → length list ≤ greatest_u64 → length log.lines ≤ greatest_u64 → All (All IsHint) log.hints
step_hints list log is few_clauses few_lines i d low =
    let below : i < length log.lines = omega (arith, low, is.paired) in
    subst (All IsHint) (get_or_default log.hints i [] d low)
    (hints_fit list (take i log.lines) greatest_u32 few_clauses (omega (arith, few_lines, length-take i log.lines, below)) (is.steps i below).refutes)

pub steps_verify : StepsVerify
steps_verify f kind k log targets is letters known closed shallow few_clauses few_lines =
    let numbers : All IsNumber targets = λ i d low. elim (cases_lt k i) [
      | inl last ↦
          let at : suc k ≡ i = omega (arith, last, low, closed.count) in
          let it = closed.unpruned in
          subst IsNumber (ap (λ j. get_or targets j 0) at ∙ get_or_default targets i 0 d low)
          (numbered_range log.lines (get_or targets (suc k) 0) it.0 few_lines it.1)
      | inr first ↦
          let it = closed.accepted i first in
          subst IsNumber (get_or_default targets i 0 d low) (numbered_range log.lines (get_or targets i 0) it.0 few_lines it.1)
    ] in
    let literals : All (All IsLiteral) log.lines = λ i d low j e below. let it = known i d low j e below in
    (it.from_one, omega (arith, it.within, letters)) in (
      written kind k log.lines log.hints targets,
      record {
        lawful = written_is kind k log.lines log.hints targets shallow closed.count numbers literals
            (step_hints (clause_list f kind k) log is few_clauses few_lines) few_lines;
        spelled = refl;
      },
      steps_are_lawful f kind k log targets is letters known closed,
      refl,
    )
