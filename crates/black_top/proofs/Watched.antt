-- `monitor`: its answer is one, and what its answers mean.
use Rattle.std.proofs.Common.{◌≡◌, ◌≢◌, ◌∙◌, ℕ, zero, suc, ◌<◌, Bool, true, false, List, [], ◌∷◌, length, slice_index_or, Option, Result, Ok, Err, IsTrue, refl}
use Rattle.std.proofs.Common.{sym, ap, subst, arith, true≢false, if◌then◌else◌}
use Rattle.std.specs.List.{list_all}
use Rattle.ltl_io.specs.Outside.{Grows}
use Rattle.ltl_syntax.specs.Formula.{Formula}
use Rattle.ltl_word.specs.Trace.{Names}
use Rattle.past_monitor.specs.declared.refused.WatchRefused.{WatchRefused}
use Rattle.past_monitor.specs.declared.refused.WatchRefused.TheVariants as watch_refused
use Rattle.past_monitor.specs.Text.{AreAnswers, IsWatched}
use Rattle.past_monitor.specs.Laws.{HasOneAnswer}
use Rattle.report.specs.declared.fault.Fault.TheVariants as faults
use Rattle.command_words.specs.Words.{Monitor, Asks}
use Rattle.report.specs.declared.status.Status.{Status}
use Rattle.report.specs.declared.status.Status.TheVariants as statuses
use Rattle.report.specs.Status.{has_read}
use Rattle.program_input.specs.Taking.{IsTakenWhole}
use Rattle.program_input.specs.Claims.{OfParts}
use Rattle.black_top.specs.Answer.{Answer, refused, watched, status_of, text_of}
use Rattle.black_top.specs.Reading.{IsParted}
use Rattle.black_top.specs.Monitor.{IsMonitored, looks_ahead, no_state, answered, PrintsAnswers, HoldsAtEach, FailsAtOne, MonitorPromise}
use Rattle.black_top.specs.Run.{IsAnswered}
use Rattle.black_top.proofs.Asking.{command_given}
use Rattle.black_top.proofs.Promising.{IsBroken, broken_not}
use Rattle.black_top.proofs.Parted.{HasOne, parted}

-- what is shown of what is answered to a text
shown_of : Result (List Bool) WatchRefused → Answer
shown_of (Ok answers) = watched answers
shown_of (Err watch_refused.Future) = refused faults.LooksAhead
shown_of (Err (watch_refused.State number)) = refused (faults.State number)
shown_of (Err watch_refused.NoMemory) = refused faults.Usage

by_watching : (f : Formula) (text : List ℕ) (a : Answer) → IsMonitored f text a
    → (r : Result (List Bool) WatchRefused) × IsWatched f text r × (r ≢ Err watch_refused.NoMemory) × (a ≡ shown_of r)
unfolding shown_of
by_watching f text a (looks_ahead h) = (Err watch_refused.Future, h, (λ e. cc), refl)
by_watching f text a (no_state number h) = (Err (watch_refused.State number), h, (λ e. cc), refl)
by_watching f text a (answered answers h) = (Ok answers, h, (λ e. cc), refl)

pub one_monitoring : HasOneAnswer → HasOne IsMonitored
one_monitoring one f text a b h k =
    let (r, is, told, shown) = by_watching f text a h in
    let (s, also, known, seen) = by_watching f text b k in
    shown ∙ (ap shown_of (one f text r s is also told known) ∙ sym seen)

-- ---- what the status says

good_when : (b : Bool) → statuses.Good ≡ (if b then statuses.Good else statuses.Negative) → b ≡ true
good_when true e = refl
good_when false e = cc

negative_when : (b : Bool) → statuses.Negative ≡ (if b then statuses.Good else statuses.Negative) → b ≡ false
negative_when true e = cc
negative_when false e = refl

each_true : (answers : List Bool) → list_all (λ b. b) answers ≡ true → (n : ℕ) → n < length answers → slice_index_or answers n false ≡ true
each_true [] e n lt = absurd (omega arith)
each_true (false ∷ answers) e n lt = absurd (true≢false (sym e))
each_true (true ∷ answers) e zero lt = refl
each_true (true ∷ answers) e (suc n) lt = each_true answers e n (omega arith)

one_false : (answers : List Bool) → list_all (λ b. b) answers ≡ false → (n : ℕ) × (n < length answers) × (slice_index_or answers n false ≡ false)
one_false [] e = absurd (true≢false e)
one_false (false ∷ answers) e = (0, omega arith, refl)
one_false (true ∷ answers) e = let w = one_false answers e in (suc w.0, omega arith, w.2)

holds_at_each : (f : Formula) (states : List Names) (answers : List Bool) → AreAnswers f states answers
    → list_all (λ b. b) answers ≡ true → HoldsAtEach f states
holds_at_each f states answers are e n lt = (are.each n lt).0 (each_true answers e n (omega (arith, are.count)))

fails_at_one : (f : Formula) (states : List Names) (answers : List Bool) → AreAnswers f states answers → list_all (λ b. b) answers ≡ false → FailsAtOne f states
fails_at_one f states answers are e =
    let w = one_false answers e in
    let low : w.0 < length states = omega (arith, w.1, are.count) in
    (w.0, low, λ h. true≢false (sym ((are.each w.0 low).1 h) ∙ w.2))

monitored_each : (f : Formula) (text : List ℕ) (before after : Option (List ℕ)) (a : Answer) → IsMonitored f text a → statuses.Good ≡ status_of a
    → Grows (text_of a) before after → PrintsAnswers f text before after (HoldsAtEach f)
monitored_each f text before after a (looks_ahead h) e g = absurd (cc)
monitored_each f text before after a (no_state number h) e g = absurd (cc)
monitored_each f text before after a (answered answers h) e g =
    let all = good_when (list_all (λ b. b) answers) e in
    record { past = h.0; states = h.1.0; read = h.1.1; answers = answers; right = h.1.2; printed = g; claim = holds_at_each f h.1.0 answers h.1.2 all }

monitored_one : (f : Formula) (text : List ℕ) (before after : Option (List ℕ)) (a : Answer) → IsMonitored f text a → statuses.Negative ≡ status_of a
    → Grows (text_of a) before after → PrintsAnswers f text before after (FailsAtOne f)
monitored_one f text before after a (looks_ahead h) e g = absurd (cc)
monitored_one f text before after a (no_state number h) e g = absurd (cc)
monitored_one f text before after a (answered answers h) e g =
    let one = negative_when (list_all (λ b. b) answers) e in
    record { past = h.0; states = h.1.0; read = h.1.1; answers = answers; right = h.1.2; printed = g; claim = fails_at_one f h.1.0 answers h.1.2 one }

-- ---- the promise

monitored : {words : List (List ℕ)} {rest before after : Option (List ℕ)} {s : Status} → Asks words Monitor → (h : IsAnswered words rest before after s)
    → IsParted IsMonitored h.given.bytes h.answer
monitored {words} asks h = command_given words h.given.bytes Monitor h.answer asks h.given.lawful

each_from : {words : List (List ℕ)} {rest before after : Option (List ℕ)} → Asks words Monitor → IsAnswered words rest before after statuses.Good
    → OfParts rest (λ f text. PrintsAnswers f text before after (HoldsAtEach f))
each_from {words} {rest} {before} {after} asks h =
    let (part, second, f, cut, read, is) = parted IsMonitored h.given.bytes h.answer statuses.Good (monitored asks h) refl h.own in
    record {
      bytes = h.given.bytes;
      left = h.given.left;
      part = part;
      second = second;
      cut = cut;
      formula = f;
      accepted = read;
      claim = monitored_each f second before after h.answer is h.own h.printed;
    }

one_from : {words : List (List ℕ)} {rest before after : Option (List ℕ)} → Asks words Monitor → IsAnswered words rest before after statuses.Negative
    → OfParts rest (λ f text. PrintsAnswers f text before after (FailsAtOne f))
one_from {words} {rest} {before} {after} asks h =
    let (part, second, f, cut, read, is) = parted IsMonitored h.given.bytes h.answer statuses.Negative (monitored asks h) refl h.own in
    record {
      bytes = h.given.bytes;
      left = h.given.left;
      part = part;
      second = second;
      cut = cut;
      formula = f;
      accepted = read;
      claim = monitored_one f second before after h.answer is h.own h.printed;
    }

pub monitor_broken : (IsQuiet : Type 0) (rest left before after : Option (List ℕ)) (status : Status) → IsBroken IsQuiet status
    → (IsTrue (has_read status) → IsTakenWhole rest left) → MonitorPromise rest left before after status
monitor_broken IsQuiet rest left before after status broken taken = record {
  when_each = λ e. absurd (broken_not status statuses.Good broken.none refl e);
  when_one_fails = λ e. absurd (broken_not status statuses.Negative broken.none refl e);
  taken = taken;
}

pub monitor_kept : (words : List (List ℕ)) (rest left before after : Option (List ℕ)) (status : Status) → Asks words Monitor
    → IsAnswered words rest before after status → IsTakenWhole rest left → MonitorPromise rest left before after status
monitor_kept words rest left before after status asks answer taken = record {
  when_each = λ e. each_from asks (subst (IsAnswered words rest before after) e answer);
  when_one_fails = λ e. one_from asks (subst (IsAnswered words rest before after) e answer);
  taken = λ read. taken;
}
