-- What both promises share: an answer that was printed whole, and a call that gave none.
use Rattle.std.proofs.Common.{◌≡◌, ◌∙◌, ℕ, true, false, List, Option, refl, sym, ap, subst}
use Rattle.ltl_io.specs.Outside.{Grows}
use Rattle.claim_check.specs.declared.reason.ClaimVerdict.TheVariants as verdicts
use Rattle.report.specs.declared.status.Status.{Status}
use Rattle.report.specs.declared.status.Status.TheVariants as statuses
use Rattle.report.specs.Status.{is_answer, fault_status}
use Rattle.report.proofs.Statuses.{fault_refuses, refusal_answers}
use Rattle.refute_top.specs.declared.output.Output.{Output}
use Rattle.refute_top.specs.Answer.{Answer, refused, usage, sat, unsat, certified, undecided, checked, status_of}
use Rattle.refute_top.specs.Inner.{Shows}
use Rattle.refute_top.specs.Run.{IsGiven, IsAnswered}

-- an output that was written whole is an answer
pub answered : {words : List (List ℕ)} {rest before after : Option (List ℕ)} {s : Status} (out : Output) (text : List ℕ)
    → (a : Answer) × IsGiven words rest a × Shows out a → text ≡ out.text.items → Grows text before after → out.status ≡ s
    → IsAnswered words rest before after s
answered {words} {rest} {before} {after} {s} out text (a, given, shows) same grown is = record {
  answer = a;
  given = given;
  own = sym is ∙ shows.status;
  printed = subst (λ (bytes : List ℕ). Grows bytes before after) (same ∙ shows.text) grown;
}

-- a call that gave no answer was not quiet, or there was no memory
pub record IsBroken (IsQuiet : Type 0) (status : Status) : Type 0 where
  pub none : is_answer status ≡ false
  pub cause : IsQuiet → status ≡ statuses.NoMemory

pub broken_not : (status other : Status) → is_answer status ≡ false → is_answer other ≡ true → status ≡ other → ⊥
broken_not status other none is same = let e : false ≡ true = sym none ∙ ap is_answer same ∙ is in cc

-- the status of an answer is that of no fault
answers : (a : Answer) → is_answer (status_of a) ≡ true
answers (refused fault) = refusal_answers (fault_status fault) (fault_refuses fault)
answers usage = refl
answers (sat trace) = refl
answers (unsat lines) = refl
answers (certified text) = refl
answers undecided = refl
answers (checked verdicts.Verified) = refl
answers (checked (verdicts.Refused reason)) = refl

pub answer_no_fault : (a : Answer) → statuses.ReadFault ≡ status_of a → ⊥
answer_no_fault a e = let f : false ≡ true = ap is_answer e ∙ answers a in cc
