-- A certificate that is written of a log: a refutation of few enough lines is trimmed, and what is printed of it is lawful.
use Rattle.std.proofs.Common.{ℕ, ◌≤◌, ◌⊎◌, inl, inr, List, length, refl, arith}
use Rattle.std.proofs.lemmas.Bool.{cases_lt}
use Rattle.ltl_syntax.specs.declared.node.Kind.{Kind}
use Rattle.ltl_syntax.specs.Formula.{Formula}
use Rattle.enc_layout.specs.Letters.{Fits}
use Rattle.enc_layout.specs.Clauses.{clause_list}
use Rattle.enc_layout.specs.Limit.{layout}
use Rattle.cert_text.specs.Text.{greatest_u64, text_of}
use Rattle.cert_text.specs.Writing.{written}
use Rattle.cert_check.specs.Lawful.{IsLawfulAt}
use Rattle.cert_check.specs.Trimmed.{TrimmedVerifies}
use Rattle.completeness.specs.Refuted.{HasRefutation, ClausesAreFew, RefutationsAreDecided}
use Rattle.completeness.specs.Trimmable.{TrimmedIsThere}
use Rattle.unravel.specs.Decision.{IsRefutation}
use Rattle.black_top.specs.Solve.{IsWritten}
use Rattle.black_top.specs.Laws.{IsLong}

-- that steps can be trimmed, what is written of them then, and whether there are few enough
pub record WritingLaws : Type 0 where
  pub trimmed : TrimmedIsThere
  pub verifies : TrimmedVerifies
  pub few : ClausesAreFew
  pub decided : RefutationsAreDecided

abbrev pub HasWritten : Formula → Kind → ℕ → Type 0
HasWritten f kind k = (text : List ℕ) × IsLawfulAt f kind k text × IsWritten f kind k text

module _ (laws : WritingLaws) (f : Formula) (kind : Kind) (k : ℕ) (shallow : k ≤ 1000) (fits : Fits (layout f kind) k) where
  written_of : HasRefutation f kind k greatest_u64 → HasWritten f kind k
  written_of (log, targets, steps, letters, closed, short) =
      let refutes : IsRefutation f kind k log targets = record { steps = steps; letters = letters; closed = closed } in
      let w = laws.trimmed (clause_list f kind k) log targets steps in
      let fewer = w.4 in (
        text_of (written kind k w.0.lines w.0.hints w.1),
        laws.verifies f kind k log w.0 targets w.1 w.2 steps w.3 fits letters closed shallow (laws.few f kind k shallow fits) (omega (arith, fewer, short)),
        record {
          log = log;
          closing = targets;
          refutes = refutes;
          needed = w.0;
          targets = w.1;
          marks = w.2;
          trimmed = w.3;
          spelled = refl;
        },
      )

  -- a certificate is written, or each refutation has too many lines
  pub written_or_long : HasWritten f kind k ⊎ IsLong f kind k
  written_or_long = elim (laws.decided f kind k greatest_u64 (omega (arith, fits))) [
    | inl has ↦ inl (written_of has)
    | inr none ↦ inr (λ log targets refutes. elim (cases_lt greatest_u64 (length log.lines)) [
      | inl long ↦ long
      | inr short ↦ absurd (none (log, targets, refutes.steps, refutes.letters, refutes.closed, short))
    ])
  ]

-- what is had, if nothing is too long
pub carried : {A B L : Type 0} → A ⊎ L → (A → B) → B ⊎ L
carried (inl a) f = inl (f a)
carried (inr l) f = inr l
