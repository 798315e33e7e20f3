-- No answer has the status of a fault.
use Rattle.std.proofs.Common.{◌≡◌, ◌∙◌, Bool, true, false, if◌then◌else◌, refl, ap}
use Rattle.report.specs.declared.status.Status.{Status}
use Rattle.report.specs.declared.status.Status.TheVariants as statuses
use Rattle.cert_check.specs.declared.verdict.Verdict.TheVariants as checks
use Rattle.report.specs.declared.summary.Shown.{Shown}
use Rattle.report.specs.declared.summary.Shown.TheVariants as verdicts
use Rattle.batch_run.specs.Texts.{is_clean}
use Rattle.report.specs.Status.{is_answer, fault_status}
use Rattle.black_top.specs.Answer.{Answer, refused, sat, unsat, undecided, holds, fails, checked, summary, batched, no_path, paths_hold, path_fails, watched}
use Rattle.black_top.specs.Answer.{depasted, lifted, shown_status, are_true, status_of}
use Rattle.report.proofs.Statuses.{fault_refuses, refusal_answers}

shown_answers : (v : Shown) → is_answer (shown_status v) ≡ true
shown_answers (verdicts.Sat depth) = refl
shown_answers (verdicts.Unsat depth) = refl
shown_answers (verdicts.Undecided depth) = refl

either_answers : (b : Bool) (s t : Status) → is_answer s ≡ true → is_answer t ≡ true → is_answer (if b then s else t) ≡ true
either_answers true s t h k = h
either_answers false s t h k = k

answers : (a : Answer) → is_answer (status_of a) ≡ true
answers (refused fault) = refusal_answers (fault_status fault) (fault_refuses fault)
answers (sat depth trace) = refl
answers (unsat depth core certificate) = refl
answers (undecided depth) = refl
answers holds = refl
answers fails = refl
answers (checked checks.Verified) = refl
answers (checked (checks.Rejected reason)) = refl
answers (summary s) = shown_answers s.verdict
answers (batched lines) = either_answers (is_clean lines) statuses.Good statuses.Text refl refl
answers (no_path depth) = refl
answers (paths_hold depth proof) = refl
answers (path_fails depth trace) = refl
answers (watched lines) = either_answers (are_true lines) statuses.Good statuses.Negative refl refl
answers (depasted f) = refl
answers (lifted f trace) = refl

pub answer_no_fault : (a : Answer) → statuses.ReadFault ≡ status_of a → ⊥
answer_no_fault a e = let f : false ≡ true = ap is_answer e ∙ answers a in cc
