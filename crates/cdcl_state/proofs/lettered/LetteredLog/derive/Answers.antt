use Rattle.std.proofs.Common.{◌≡◌, ℕ, List, length, Result, Ok, Err, IfOk, OnErr, All, sym, ap, subst}
use Rattle.std.specs.declared.alloc.AllocError.{AllocError}
use Rattle.cnf_base.specs.declared.literal.Literal.{Literal}
use Rattle.cnf_base.specs.declared.literal.Hint.{Hint}
use Rattle.clause_log.specs.LogValue.{LogValue, with_line}
use Rattle.cdcl_state.specs.Named.{AreOf}
use Rattle.cdcl_state.proofs.lettered.LetteredLog.derive.Goals as goal

same_inputs : (r : Result ℕ AllocError) (old new : LogValue) (clause : List Literal) (hints : List Hint)
    → IfOk r (λ number. (new ≡ with_line old clause hints) × (number ≡ length new.lines)) → OnErr r (new ≡ old) → new.inputs ≡ old.inputs
same_inputs (Ok number) old new clause hints added refused = ap (λ (l : LogValue). l.inputs) added.0
same_inputs (Err e) old new clause hints added refused = ap (λ (l : LogValue). l.inputs) refused

pub invariant_of-self : goal.invariant_of-self
invariant_of-self c =
    subst (All (AreOf c.self.inside.named))
    (sym (same_inputs c.derive.result c.self.inside.log c.derive.new.self c.args.literals.now c.args.hints.now c.derive.ensures.added c.derive.ensures.refused))
    c.self.invariant
