-- From the answer of the crate on systems to what `system` shows: what each answer stands on, and that a proof of HOLDS is within reach.
use Rattle.std.proofs.Common.{◌≡◌, ◌∙◌, ◌++◌, ℕ, ◌≤◌, List, [], true, Option, Some, Vec, refl, sym, ap, subst}
use Rattle.std.proofs.lemmas.List.{append-nil}
use Rattle.std.specs.Global.{Global}
use Rattle.ltl_syntax.specs.declared.node.Kind.{Kind}
use Rattle.ltl_syntax.specs.declared.node.Kind.TheVariants as kinds
use Rattle.ltl_syntax.specs.Formula.{Formula}
use Rattle.ltl_syntax.specs.Print.{text_of as printed}
use Rattle.ltl_syntax.specs.Table.{tree_at}
use Rattle.derivation.specs.Steps.{DerivationValue}
use Rattle.unravel.specs.Decision.{IsRefutation}
use Rattle.system_check.specs.declared.joining.Joined.{Joined}
use Rattle.system_check.specs.declared.deciding.SystemAnswer.TheVariants as answers
use Rattle.system_check.specs.System.{whole_of}
use Rattle.system_check.specs.Joining.{IsJoined}
use Rattle.system_check.specs.Answer.{IsAnswer}
use Rattle.report.specs.Texts.{Proof, paths_hold_lines}
use Rattle.black_top.specs.declared.output.Output.{Output}
use Rattle.black_top.specs.Answer.{paths_hold}
use Rattle.black_top.specs.System.{ProvesWhole}
use Rattle.black_top.specs.Inner.{Shows, AddsCertificate}
use Rattle.black_top.proofs.Certified.{unsat_shallow}

module _ (joined : Joined) (limit k : ℕ) (log : DerivationValue) (targets : Vec ℕ Global) (f g h : Formula) (is : IsJoined f g h joined)
    (kept : IsAnswer f g h limit (answers.Holds k log targets)) where
  -- the depth of HOLDS is not above the limit
  pub kept_shallow : k ≤ limit
  kept_shallow = unsat_shallow (whole_of f g h) kinds.Infinite limit k kept.1

  -- the log refutes the formula that stands in the table as the whole one
  pub kept_refuted : (formula : Formula) (kind : Kind) → formula ≡ tree_at joined.table joined.whole
      → kind ≡ kinds.Infinite → IsRefutation formula kind k log targets.items
  kept_refuted formula kind same infinite =
      subst (λ i. IsRefutation formula i k log targets.items) (sym infinite)
      (subst (λ x. IsRefutation x kinds.Infinite k log targets.items) (sym (same ∙ is.formulas.whole_is)) kept.2)

-- HOLDS with the printed formula, and a certificate behind it
pub proof_shown : (whole : Formula) (k : ℕ) (begun out : Output) (formula : List ℕ) → formula ≡ printed whole
    → Shows begun (paths_hold k (Some record { formula = formula; certificate = [] })) → out.status ≡ begun.status
    → AddsCertificate whole kinds.Infinite k begun.text.items out.text.items
    → (shown : Option Proof) × ProvesWhole true whole k shown × Shows out (paths_hold k shown)
proof_shown whole k begun out formula same shows status adds =
    let lines : begun.text.items ≡ paths_hold_lines k (printed whole) = shows.text ∙ append-nil (paths_hold_lines k formula) ∙ ap (paths_hold_lines k) same in (
      Some record { formula = printed whole; certificate = adds.text },
      (adds.text, refl, adds.lawful, adds.written),
      record { status = status ∙ shows.status; text = adds.added ∙ ap (λ x. x ++ adds.text) lines },
    )
