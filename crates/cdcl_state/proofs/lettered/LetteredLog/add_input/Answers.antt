use Rattle.std.proofs.Common.{◌≡◌, ℕ, List, length, Result, Ok, Err, IfOk, OnErr, All, Contains, sym, subst}
use Rattle.std.specs.declared.alloc.AllocError.{AllocError}
use Rattle.cnf_base.specs.declared.literal.Literal.{Literal}
use Rattle.clause_log.specs.LogValue.{LogValue, with_input}
use Rattle.cdcl_state.specs.Named.{AreOf}
use Rattle.cdcl_state.proofs.Naming.{of_more, of_push}
use Rattle.cdcl_state.proofs.lettered.LetteredLog.add_input.Goals as goal

abbrev HasNamed : List ℕ → LogValue → Type 0
HasNamed letters log = All (AreOf letters) log.inputs

input_named : (r : Result ℕ AllocError) (old new : LogValue) (clause : List Literal) (before after : List ℕ)
    → IfOk r (λ number. (new ≡ with_input old clause) × (number ≡ length new.inputs)) → OnErr r (new ≡ old)
    → All (Contains after) before → AreOf after clause → HasNamed before old → HasNamed after new
input_named (Ok number) old new clause before after added refused kept there are =
    subst (HasNamed after) (sym added.0) (of_push before after old.inputs clause kept there are)
input_named (Err e) old new clause before after added refused kept there are = subst (HasNamed after) (sym refused) (of_more before after old.inputs kept are)

pub invariant_of-self : goal.invariant_of-self
invariant_of-self c = of_more c.self.inside.named c.name.new.named c.self.inside.log.inputs c.in_err-name.ensures.kept c.self.invariant

pub invariant_of-self-2 : goal.invariant_of-self-2
invariant_of-self-2 c =
    input_named c.add_input.result c.self.inside.log c.add_input.new.self c.args.clause.now c.self.inside.named c.name.new.named c.add_input.ensures.added
    c.add_input.ensures.refused
    c.in_ok-name.ensures.kept c.in_ok-name.ensures.there c.self.invariant
