-- Targets keep their literals in trimmed lines.
use Rattle.std.proofs.Common.{All, ◌≡◌, ℕ, zero, suc, ◌<◌, ◌≤◌, inl, inr, List, [], ◌∷◌, Some, length, get_or, refl, sym, arith, subst, ◌∙◌}
use Rattle.std.proofs.lemmas.Bool.{cases_lt}
use Rattle.std.proofs.lemmas.List.{length-map}
use Rattle.std.proofs.lemmas.Option.{slice_get_within}
use Rattle.ltl_syntax.specs.declared.node.Kind.{Kind}
use Rattle.ltl_syntax.specs.Formula.{Formula}
use Rattle.cnf_base.specs.declared.literal.Literal.{Literal}
use Rattle.cnf_base.specs.Step.{numbered}
use Rattle.cnf_base.specs.Known.{IsKnown, AreKnown}
use Rattle.derivation.specs.Steps.{DerivationValue}
use Rattle.enc_layout.specs.Targets.{CloseTableau, IsTarget, negative_of}
use Rattle.enc_layout.specs.Letters.{Here, Accepted, Unpruned, letters_through}
use Rattle.enc_layout.specs.Clauses.{counts, clause_list}
use Rattle.log_trim.specs.Kept.{Marks, trimmed, new_number, new_numbers}
use Rattle.log_trim.specs.Marking.{HasTargets, AreLines, AreTheNeeded, target}
use Rattle.log_trim.proofs.Keeping.{All-kept_from}
use Rattle.log_trim.proofs.MarkedLines.{target_kept, trimmed_steps}
use Rattle.cert_text.specs.Text.{greatest_u64, text_of}
use Rattle.cert_text.specs.Writing.{written}
use Rattle.cert_check.specs.Lawful.{IsLawfulAt}
use Rattle.cert_check.specs.Trimmed.{TrimmedVerifies}
use Rattle.cert_check.proofs.Verifying.{steps_verify}

pub number_of_line : (lines : List (List Literal)) (n : ℕ) (line : List Literal) → numbered lines n ≡ Some line → (0 < n) × (n ≤ length lines)
number_of_line lines zero line e = absurd (cc)
number_of_line lines (suc n) line e = let w = slice_get_within lines n line e in (omega arith, omega arith)

module _ (f : Formula) (kind : Kind) (k : ℕ) (log : DerivationValue) (targets : List ℕ) (w : CloseTableau f kind k log.lines targets) where
  pub targets_lines : AreLines log targets
  targets_lines i lt = elim (cases_lt i (suc k)) [
    | inl low ↦ let t = w.accepted i (omega arith) in number_of_line log.lines (get_or targets i 0) t.0 t.1
    | inr high ↦
        let last : suc k ≡ i = omega (arith, w.count) in
        let t = w.unpruned in
        subst (λ j. (0 < get_or targets j 0) × (get_or targets j 0 ≤ length log.lines)) last (number_of_line log.lines (get_or targets (suc k) 0) t.0 t.1)
  ]

  module _ (M : Marks) (needed : AreTheNeeded log targets M) where
    has : HasTargets M targets (length targets)
    has j lt = (needed (get_or targets j 0)).1 (target j lt refl)

    kept_target : (i : ℕ) (literals : List Literal) → i < length targets → IsTarget log.lines targets i literals
        → IsTarget (trimmed M log).lines (new_numbers M log.lines targets) i literals
    kept_target i literals lt t = (t.0, target_kept M log.lines targets i t.0 has lt t.1, t.2)

    pub trimmed_closes : CloseTableau f kind k (trimmed M log).lines (new_numbers M log.lines targets)
    trimmed_closes = record {
      count = length-map targets (new_number M log.lines) ∙ w.count;
      accepted = λ i le. kept_target i (negative_of f kind (Here i) ∷ negative_of f kind (Accepted i) ∷ []) (omega (arith, w.count)) (w.accepted i le);
      unpruned = kept_target (suc k) (negative_of f kind (Here k) ∷ negative_of f kind Unpruned ∷ []) (omega (arith, w.count)) w.unpruned;
    }

-- the lines that trimming gave meet what lines need to be written as a lawful certificate
pub trimmed_verifies : TrimmedVerifies
trimmed_verifies f kind k log new targets numbers M is trim letters known closed shallow few_clauses few_lines =
    let small = letters_through kind (counts f) k in
    let lines_known : AreKnown small (trimmed M log).lines = All-kept_from (All (IsKnown small)) M 1 log.lines known in
    let closes : CloseTableau f kind k (trimmed M log).lines numbers =
    subst (CloseTableau f kind k (trimmed M log).lines) (sym trim.targets_are) (trimmed_closes f kind k log targets closed M trim.marks) in
    let about : DerivationValue → Type 0 = λ l. length l.lines ≤ greatest_u64 → IsLawfulAt f kind k (text_of (written kind k l.lines l.hints numbers)) in
    subst about (sym trim.is) (steps_verify f kind k (trimmed M log) numbers (trimmed_steps log M (clause_list f kind k) is trim.closed)
    letters lines_known closes shallow few_clauses) few_lines
