use Rattle.std.proofs.Common.{◌∷◌, length, subst, sym}
use Rattle.std.proofs.lemmas.Result.{on_ok_weaker}
use Rattle.ltl_syntax.specs.Formula.{Binary}
use Rattle.depast.specs.Writing.{IsDoneBy}
use Rattle.depast.proofs.Operators.{kept_by₂, plain₂}
use Rattle.depast.proofs.Written.{binary_done, start_off}
use Rattle.depast.proofs.writer.Writer.binary.Goals as goal

pub returns-in-Since : goal.returns-in-Since
returns-in-Since c = on_ok_weaker c.since.result
    (λ h l a b fs done. subst (λ op. IsDoneBy l (Binary op a b ∷ fs) c.since.new.self) (sym c.in-Since.is) (h l a b fs done)) c.since.ensures

pub returns-in-Trigger : goal.returns-in-Trigger
returns-in-Trigger c = on_ok_weaker c.trigger.result
    (λ h l a b fs done. subst (λ op. IsDoneBy l (Binary op a b ∷ fs) c.trigger.new.self) (sym c.in-Trigger.is) (h l a b fs done)) c.trigger.ensures

pub returns-in_ok-push-in_default : goal.returns-in_ok-push-in_default
returns-in_ok-push-in_default c l a b fs done =
    let off = start_off c.pop.result c.args.self.now.starts c.pop.new.self (length c.args.self.now.row.items) c.pop.ensures c.requires.some in
    binary_done l c.args.op a b fs c.args.self.now.row.items c.push.new.self.items c.args.self.now.starts c.pop.new.self off.0 c.args.self.now.axioms.items
    c.args.self.now.next
    done off.1 c.in_ok-push-in_default.ensures.items (plain₂ c.args.op (kept_by₂ c.args.op c.in_default.not-Since c.in_default.not-Trigger))
