-- Words and bytes have one answer, but for the trace and the text of the certificate.
use Rattle.std.proofs.Common.{◌≡◌, ℕ, List, refl, subst}
use Rattle.ltl_word.specs.Laws.{IsOneReading}
use Rattle.ltl_run.specs.Laws.{VerdictIsOne}
use Rattle.cert_check.specs.Answer.{AnswersAreOne}
use Rattle.core_extract.specs.Laws.{CoreIsOne}
use Rattle.batch_run.specs.Laws.{AnswersAreOne as BatchesAreOne}
use Rattle.command_words.specs.Words.{Command, Solve, Check, Trace as TraceWord, Demo, Batch, System, Monitor, Depast, kind_of, depth_of, core_of, cert_of}
use Rattle.black_top.specs.Answer.{Answer, refused, sat, unsat, undecided, holds, fails, checked, summary, batched, depasted, lifted, AreAlike, no_path}
use Rattle.black_top.specs.Answer.{paths_hold, path_fails, watched}
use Rattle.past_monitor.specs.Laws.{HasOneAnswer}
use Rattle.black_top.specs.Trace.{IsJudged}
use Rattle.black_top.specs.Check.{IsChecked}
use Rattle.black_top.specs.Monitor.{IsMonitored}
use Rattle.black_top.specs.Run.{Answers, IsAnswer, not_taken, taken}
use Rattle.program_input.proofs.OneText.{TextLaws}
use Rattle.black_top.proofs.Asking.{command_given}
use Rattle.black_top.proofs.Parted.{one_parted}
use Rattle.black_top.proofs.Solved.{one_solved}
use Rattle.black_top.proofs.Checked.{one_check}
use Rattle.black_top.proofs.Traced.{one_judgement}
use Rattle.black_top.proofs.Watched.{one_monitoring}
use Rattle.black_top.proofs.Summing.{one_shown}
use Rattle.black_top.proofs.Batched.{one_batched}
use Rattle.black_top.proofs.OneSystem.{one_system_answer}
use Rattle.black_top.proofs.Depasted.{one_depasted}

-- what the crates below say of texts, traces, verdicts and certificates
pub record Laws : Type 0 where
  pub text : TextLaws
  pub one_reading : IsOneReading
  pub one_verdict : VerdictIsOne
  pub one_check : AnswersAreOne
  pub one_core : CoreIsOne
  pub one_batch : BatchesAreOne
  pub one_watch : HasOneAnswer

alike_itself : (a : Answer) → AreAlike a a
alike_itself (refused fault) = refl
alike_itself (sat depth trace) = refl
alike_itself (unsat depth core certificate) = (refl, refl, refl)
alike_itself (undecided depth) = refl
alike_itself holds = refl
alike_itself fails = refl
alike_itself (checked verdict) = refl
alike_itself (summary s) = refl
alike_itself (batched answers) = refl
alike_itself (no_path depth) = refl
alike_itself (paths_hold depth proof) = (refl, refl)
alike_itself (path_fails depth trace) = refl
alike_itself (watched answers) = refl
alike_itself (depasted f) = refl
alike_itself (lifted f trace) = refl

alike : (a b : Answer) → a ≡ b → AreAlike a b
alike a b same = subst (AreAlike a) same (alike_itself a)

-- a command has one answer
one_answer_of : (bytes : List ℕ) → Laws → (c : Command) (a b : Answer) → Answers c bytes a → Answers c bytes b → AreAlike a b
one_answer_of bytes laws (Solve settings) a b h k =
    one_solved (kind_of settings) (depth_of settings) (core_of settings) (cert_of settings) bytes laws.text laws.one_verdict laws.one_core a b h k
one_answer_of bytes laws (Check settings) a b h k =
    alike a b (one_parted (IsChecked (kind_of settings)) (one_check (kind_of settings) laws.one_check) bytes laws.text a b h k)
one_answer_of bytes laws TraceWord a b h k = alike a b (one_parted IsJudged (one_judgement laws.one_reading) bytes laws.text a b h k)
one_answer_of bytes laws (Demo n) a b h k = alike a b (one_shown n laws.one_verdict a b h k)
one_answer_of bytes laws (Batch settings) a b h k = alike a b (one_batched (kind_of settings) (depth_of settings) bytes laws.one_batch a b h k)
one_answer_of bytes laws (System settings) a b h k = one_system_answer laws.text (depth_of settings) (cert_of settings) bytes laws.one_verdict a b h k
one_answer_of bytes laws Monitor a b h k = alike a b (one_parted IsMonitored (one_monitoring laws.one_watch) bytes laws.text a b h k)
one_answer_of bytes laws Depast a b h k = alike a b (one_depasted laws.one_reading bytes laws.text a b h k)

pub answer_one : (words : List (List ℕ)) (bytes : List ℕ) → Laws → (a b : Answer) → IsAnswer words bytes a → IsAnswer words bytes b → AreAlike a b
answer_one words bytes laws a b (not_taken n) (not_taken m) = refl
answer_one words bytes laws a b (not_taken n) (taken c b' asks h) = absurd (n c asks)
answer_one words bytes laws a b (taken c a' asks h) k = one_answer_of bytes laws c a b h (command_given words bytes c b asks k)
