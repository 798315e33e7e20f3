-- `demo` keeps what it promises.
use Rattle.std.proofs.Common.{◌≡◌, ℕ, inl, inr, List, Option, refl, subst}
use Rattle.command_words.specs.Words.{Demo, Asks, ReadsNothing}
use Rattle.command_words.proofs.OneCommand.{command_one}
use Rattle.report.specs.declared.status.Status.{Status}
use Rattle.black_top.specs.Demo.{PrintsSummary, DemoPromise}
use Rattle.black_top.specs.Run.{IsAnswered, NeedsNothing}
use Rattle.black_top.proofs.Asking.{command_given}
use Rattle.black_top.proofs.Promising.{IsBroken, broken_not}

pub demo_broken : (n : ℕ) (IsQuiet : Type 0) (rest left before after : Option (List ℕ)) (status : Status) → IsBroken IsQuiet status
    → left ≡ rest → DemoPromise n IsQuiet rest left before after status
demo_broken n IsQuiet rest left before after status broken same = record {
  when_answered = λ is. absurd (broken_not status status broken.none is refl);
  summary = λ quiet. inl (broken.cause quiet);
  unread = same;
}

-- the summary that was printed
summary_from : (n : ℕ) (words : List (List ℕ)) (rest before after : Option (List ℕ)) (status : Status) → Asks words (Demo n)
    → IsAnswered words rest before after status → PrintsSummary n before after status
summary_from n words rest before after status asks h =
    record { answer = h.answer; shows = command_given words h.given.bytes (Demo n) h.answer asks h.given.lawful; own = h.own; printed = h.printed }

pub demo_kept : (n : ℕ) (IsQuiet : Type 0) (words : List (List ℕ)) (rest left before after : Option (List ℕ)) (status : Status) → Asks words (Demo n)
    → IsAnswered words rest before after status → left ≡ rest
    → DemoPromise n IsQuiet rest left before after status
demo_kept n IsQuiet words rest left before after status asks answer same = record {
  when_answered = λ is. summary_from n words rest before after status asks answer;
  summary = λ quiet. inr (summary_from n words rest before after status asks answer);
  unread = same;
}

-- `demo` needs nothing of the source
pub demo_needs_nothing : (n : ℕ) (words : List (List ℕ)) → Asks words (Demo n) → NeedsNothing words
demo_needs_nothing n words asks c also = subst ReadsNothing (command_one words (Demo n) c asks also) refl
