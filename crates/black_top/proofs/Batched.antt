-- `batch`: its answer is one, and it keeps what it promises.
use Rattle.std.proofs.Common.{◌≡◌, ◌∙◌, ℕ, ◌≤◌, inl, inr, true, false, Bool, List, length, Option, Some, None, unwrap_or, IsTrue, refl, sym, ap, subst, arith}
use Rattle.std.proofs.Common.{if◌then◌else◌}
use Rattle.ltl_io.specs.Outside.{Grows, LosesAtMost}
use Rattle.ltl_syntax.specs.declared.node.Kind.{Kind}
use Rattle.batch_run.specs.declared.answer.LineAnswer.{LineAnswer}
use Rattle.batch_run.specs.Laws.{AnswersAreOne}
use Rattle.batch_run.specs.Outcomes.{AreAnswers}
use Rattle.batch_run.specs.Texts.{is_clean}
use Rattle.command_words.specs.Words.{Setting, Batch, Asks, kind_of, depth_of}
use Rattle.report.specs.declared.status.Status.{Status}
use Rattle.report.specs.declared.status.Status.TheVariants as statuses
use Rattle.report.specs.Status.{has_read}
use Rattle.program_input.specs.Taking.{IsTakenUpTo}
use Rattle.black_top.specs.Answer.{Answer, batched, status_of, text_of}
use Rattle.black_top.specs.Solve.{number_of}
use Rattle.black_top.specs.Batch.{IsBatched, too_many, answered, PrintsAnswers, PrintsVerdicts, PrintsRefusals, PrintsLimit, BatchPromise}
use Rattle.black_top.specs.Run.{IsAnswered}
use Rattle.black_top.proofs.Asking.{command_given}
use Rattle.black_top.proofs.Statuses.{answer_no_fault}
use Rattle.program_input.proofs.Leaving.{told_left}
use Rattle.black_top.proofs.Promising.{IsBroken, broken_not}

-- the answers to the lines are one
pub one_batched : (kind : Kind) (wanted : Option ℕ) (bytes : List ℕ) → AnswersAreOne → (a b : Answer) → IsBatched kind wanted bytes a
    → IsBatched kind wanted bytes b → a ≡ b
one_batched kind wanted bytes one a b (too_many h) (too_many k) = refl
one_batched kind wanted bytes one a b (too_many h) (answered answers short are) = absurd (omega (arith, h, short))
one_batched kind wanted bytes one a b (answered answers short are) (too_many k) = absurd (omega (arith, k, short))
one_batched kind wanted bytes one a b (answered answers short are) (answered others short' are') =
    ap batched (one kind (number_of wanted) bytes answers others are are')

depth_is : (wanted : Option ℕ) (n : ℕ) → n ≡ unwrap_or wanted 64 → n ≡ number_of wanted
depth_is (Some m) n e = e
depth_is None n e = e

-- the answers up to the depth that was asked for, or up to 64
pub lines_answered : (kind : Kind) (wanted : Option ℕ) (bytes : List ℕ) (n : ℕ) (answers found : List LineAnswer) → n ≡ unwrap_or wanted 64
    → length bytes ≤ 16777216 → AreAnswers kind n bytes found → answers ≡ found
    → IsBatched kind wanted bytes (batched answers)
lines_answered kind wanted bytes n answers found asked short are same =
    answered answers short
    (subst (AreAnswers kind (number_of wanted) bytes) (sym same) (subst (λ d. AreAnswers kind d bytes found) (depth_is wanted n asked) are))

batches : {words : List (List ℕ)} {rest before after : Option (List ℕ)} {s : Status} (settings : List Setting) → Asks words (Batch settings)
    → (h : IsAnswered words rest before after s)
    → IsBatched (kind_of settings) (depth_of settings) h.given.bytes h.answer
batches {words} settings asks h = command_given words h.given.bytes (Batch settings) h.answer asks h.given.lawful

-- the status tells whether each line has a verdict
abbrev status_by : Bool → Status
status_by clean = if clean then statuses.Good else statuses.Text

clean_by : (clean : Bool) → statuses.Good ≡ status_by clean → clean ≡ true
clean_by true e = refl
clean_by false e = absurd (cc)

unclean_by : (clean : Bool) → statuses.Text ≡ status_by clean → clean ≡ false
unclean_by false e = refl
unclean_by true e = absurd (cc)

no_limit_by : (clean : Bool) → statuses.Limit ≡ status_by clean → ⊥
no_limit_by true e = cc
no_limit_by false e = cc

verdicts_of : (kind : Kind) (wanted : Option ℕ) (bytes : List ℕ) (before after : Option (List ℕ)) (a : Answer) → IsBatched kind wanted bytes a
    → statuses.Good ≡ status_of a → Grows (text_of a) before after → PrintsVerdicts kind wanted bytes before after
verdicts_of kind wanted bytes before after a (too_many h) e g = absurd (cc)
verdicts_of kind wanted bytes before after a (answered answers short are) e g =
    record { answers = answers; are = are; clean = clean_by (is_clean answers) e; printed = g }

refusals_of : (kind : Kind) (wanted : Option ℕ) (bytes : List ℕ) (before after : Option (List ℕ)) (a : Answer) → IsBatched kind wanted bytes a
    → statuses.Text ≡ status_of a → Grows (text_of a) before after → PrintsRefusals kind wanted bytes before after
refusals_of kind wanted bytes before after a (too_many h) e g = absurd (cc)
refusals_of kind wanted bytes before after a (answered answers short are) e g =
    record { answers = answers; are = are; unclean = unclean_by (is_clean answers) e; printed = g }

limit_of : (kind : Kind) (wanted : Option ℕ) (bytes : List ℕ) (before after : Option (List ℕ)) (a : Answer) → IsBatched kind wanted bytes a
    → statuses.Limit ≡ status_of a → Grows (text_of a) before after → PrintsLimit bytes before after
limit_of kind wanted bytes before after a (too_many h) e g = record { long = h; printed = g }
limit_of kind wanted bytes before after a (answered answers short are) e g = absurd (no_limit_by (is_clean answers) e)

answers_of : (kind : Kind) (wanted : Option ℕ) (bytes : List ℕ) (before after : Option (List ℕ)) (s : Status) (a : Answer)
    → length bytes ≤ 16777216 → IsBatched kind wanted bytes a → s ≡ status_of a → Grows (text_of a) before after
    → PrintsAnswers kind wanted bytes before after s
answers_of kind wanted bytes before after s a small (too_many h) e g = absurd (omega (arith, h, small))
answers_of kind wanted bytes before after s a small (answered answers short are) e g = record { answers = answers; are = are; own = e; printed = g }

answers_from : {words : List (List ℕ)} {rest before after : Option (List ℕ)} {s : Status} (settings : List Setting) (bytes : List ℕ)
    → Asks words (Batch settings) → rest ≡ Some bytes → length bytes ≤ 16777216 → IsAnswered words rest before after s
    → PrintsAnswers (kind_of settings) (depth_of settings) bytes before after s
answers_from {words} {rest} {before} {after} {s} settings bytes asks told small h =
    let same = told_left rest bytes h.given.bytes told h.given.left in
    answers_of (kind_of settings) (depth_of settings) bytes before after s h.answer small
    (subst (λ b. IsBatched (kind_of settings) (depth_of settings) b h.answer) (sym same) (batches settings asks h)) h.own h.printed

-- ---- the promise

pub batch_broken : (settings : List Setting) (IsQuiet : Type 0) (rest left before after : Option (List ℕ)) (status : Status) → IsBroken IsQuiet status
    → LosesAtMost 16842752 rest left
    → (status ≡ statuses.ReadFault → LosesAtMost 16777216 rest left) → (IsTrue (has_read status) → IsTakenUpTo 16777216 rest left)
    → BatchPromise settings IsQuiet rest left before after status
batch_broken settings IsQuiet rest left before after status broken most fault taken = record {
  when_verdicts = λ e. absurd (broken_not status statuses.Good broken.none refl e);
  when_refusals = λ e. absurd (broken_not status statuses.Text broken.none refl e);
  when_limit = λ e. absurd (broken_not status statuses.Limit broken.none refl e);
  answers = λ bytes told small quiet. inl (broken.cause quiet);
  most = most;
  before_fault = fault;
  taken = taken;
}

pub batch_kept : (settings : List Setting) (IsQuiet : Type 0) (words : List (List ℕ)) (rest left before after : Option (List ℕ)) (status : Status)
    → Asks words (Batch settings) → IsAnswered words rest before after status
    → LosesAtMost 16842752 rest left → IsTakenUpTo 16777216 rest left → BatchPromise settings IsQuiet rest left before after status
batch_kept settings IsQuiet words rest left before after status asks answer most taken =
    let kind = kind_of settings in
    let wanted = depth_of settings in
    let bytes = answer.given.bytes in
    let is = batches settings asks answer in
    record {
      when_verdicts = λ e. (bytes, answer.given.left, verdicts_of kind wanted bytes before after answer.answer is (sym e ∙ answer.own) answer.printed);
      when_refusals = λ e. (bytes, answer.given.left, refusals_of kind wanted bytes before after answer.answer is (sym e ∙ answer.own) answer.printed);
      when_limit = λ e. (bytes, answer.given.left, limit_of kind wanted bytes before after answer.answer is (sym e ∙ answer.own) answer.printed);
      answers = λ b told small quiet. inr (answers_from settings b asks told small answer);
      most = most;
      before_fault = λ e. absurd (answer_no_fault answer.answer (sym e ∙ answer.own));
      taken = λ read. taken;
    }
