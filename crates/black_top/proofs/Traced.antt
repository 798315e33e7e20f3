-- `trace`: its answer is one, what HOLDS and FAILS mean, and that it keeps what it promises.
use Rattle.std.proofs.Common.{◌≡◌, ◌∙◌, ℕ, ◌≤◌, ◌⊎◌, inl, inr, List, Option, Result, Ok, Err, IsTrue, refl, sym, ap, subst, arith}
use Rattle.ltl_io.specs.Outside.{Grows}
use Rattle.ltl_syntax.specs.Formula.{Formula}
use Rattle.ltl_word.specs.declared.trace.Trace.{Trace}
use Rattle.ltl_word.specs.declared.json.TraceFault.{TraceFault}
use Rattle.ltl_word.specs.declared.json.TraceFault.TheVariants as trace_faults
use Rattle.ltl_word.specs.Holds.{Satisfies}
use Rattle.ltl_word.specs.Json.{IsReading}
use Rattle.ltl_word.specs.Laws.{IsOneReading}
use Rattle.lasso_eval.specs.Cells.{cells, max_cells, AreTooMany}
use Rattle.report.specs.declared.fault.Fault.TheVariants as faults
use Rattle.command_words.specs.Words.{Trace as TraceWord, Asks}
use Rattle.report.specs.declared.status.Status.{Status}
use Rattle.report.specs.declared.status.Status.TheVariants as statuses
use Rattle.report.specs.Status.{has_read}
use Rattle.program_input.specs.Taking.{IsTakenWhole}
use Rattle.black_top.specs.Answer.{Answer, refused, holds, fails, status_of, text_of}
use Rattle.black_top.specs.Reading.{IsParted}
use Rattle.black_top.specs.Trace.{IsJudged, not_json, not_trace, empty_loop, empty_states, many_cells, satisfied, violated, PrintsHolds, PrintsFails, OfTrace}
use Rattle.black_top.specs.Trace.{TracePromise}
use Rattle.black_top.specs.Run.{IsAnswered}
use Rattle.black_top.proofs.Asking.{command_given}
use Rattle.black_top.proofs.Parted.{HasOne, parted}
use Rattle.black_top.proofs.Promising.{IsBroken, broken_not}

-- the answer by what the text of the trace is read as
abbrev ByTrace : Formula → Trace → Answer → Type 0
ByTrace f t a = ((count : ℕ) × (a ≡ refused (faults.Cells count)) × AreTooMany t f count)
    ⊎ (((a ≡ holds) × (cells t f ≤ max_cells) × Satisfies t f) ⊎ ((a ≡ fails) × (cells t f ≤ max_cells) × ¬ (Satisfies t f)))

abbrev ByReading : Formula → Result Trace TraceFault → Answer → Type 0
ByReading f (Ok t) a = ByTrace f t a
ByReading f (Err trace_faults.NotJson) a = a ≡ refused faults.NotJson
ByReading f (Err trace_faults.NotTrace) a = a ≡ refused faults.NotTrace
ByReading f (Err trace_faults.EmptyLoop) a = a ≡ refused faults.EmptyLoop
ByReading f (Err trace_faults.EmptyStates) a = a ≡ refused faults.EmptyStates
ByReading f (Err trace_faults.NoMemory) a = ⊥

by_reading : (f : Formula) (text : List ℕ) (a : Answer) → IsJudged f text a → (r : Result Trace TraceFault) × IsReading text r × ByReading f r a
by_reading f text a (not_json h) = (Err trace_faults.NotJson, h, refl)
by_reading f text a (not_trace h) = (Err trace_faults.NotTrace, h, refl)
by_reading f text a (empty_loop h) = (Err trace_faults.EmptyLoop, h, refl)
by_reading f text a (empty_states h) = (Err trace_faults.EmptyStates, h, refl)
by_reading f text a (many_cells t count h many) = (Ok t, h, inl (count, refl, many))
by_reading f text a (satisfied t h few is) = (Ok t, h, inr (inl (refl, few, is)))
by_reading f text a (violated t h few is) = (Ok t, h, inr (inr (refl, few, is)))

one_by_trace : (f : Formula) (t : Trace) (a b : Answer) → ByTrace f t a → ByTrace f t b → a ≡ b
one_by_trace f t a b (inl (m, e, x)) (inl (n, g, y)) = e ∙ ap (λ k. refused (faults.Cells k)) (x.0 ∙ sym y.0) ∙ sym g
one_by_trace f t a b (inl (m, e, x)) (inr (inl (g, few, y))) = absurd (omega (arith, x.0, x.1, few))
one_by_trace f t a b (inl (m, e, x)) (inr (inr (g, few, y))) = absurd (omega (arith, x.0, x.1, few))
one_by_trace f t a b (inr (inl (e, few, x))) (inl (n, g, y)) = absurd (omega (arith, y.0, y.1, few))
one_by_trace f t a b (inr (inr (e, few, x))) (inl (n, g, y)) = absurd (omega (arith, y.0, y.1, few))
one_by_trace f t a b (inr (inl (e, few, x))) (inr (inl (g, few', y))) = e ∙ sym g
one_by_trace f t a b (inr (inl (e, few, x))) (inr (inr (g, few', y))) = absurd (y x)
one_by_trace f t a b (inr (inr (e, few, x))) (inr (inl (g, few', y))) = absurd (x y)
one_by_trace f t a b (inr (inr (e, few, x))) (inr (inr (g, few', y))) = e ∙ sym g

one_by_reading : (f : Formula) (r : Result Trace TraceFault) (a b : Answer) → ByReading f r a → ByReading f r b → a ≡ b
one_by_reading f (Ok t) a b h k = one_by_trace f t a b h k
one_by_reading f (Err trace_faults.NotJson) a b h k = h ∙ sym k
one_by_reading f (Err trace_faults.NotTrace) a b h k = h ∙ sym k
one_by_reading f (Err trace_faults.EmptyLoop) a b h k = h ∙ sym k
one_by_reading f (Err trace_faults.EmptyStates) a b h k = h ∙ sym k
one_by_reading f (Err trace_faults.NoMemory) a b h k = absurd h

pub one_judgement : IsOneReading → HasOne IsJudged
one_judgement one f text a b h k =
    let (r, read, by) = by_reading f text a h in
    let (s, read', by') = by_reading f text b k in
    let same : r ≡ s = one text r s read read' (λ e. subst (λ q. ByReading f q a) e by) (λ e. subst (λ q. ByReading f q b) e by') in
    one_by_reading f s a b (subst (λ q. ByReading f q a) same by) by'

judged_holds : (f : Formula) (text : List ℕ) (before after : Option (List ℕ)) (a : Answer) → IsJudged f text a → statuses.Good ≡ status_of a
    → Grows (text_of a) before after
    → (t : Trace) × IsReading text (Ok t) × PrintsHolds f t before after
judged_holds f text before after a (satisfied t h few is) e g = (t, h, (is, g))
judged_holds f text before after a (not_json h) e g = absurd (cc)
judged_holds f text before after a (not_trace h) e g = absurd (cc)
judged_holds f text before after a (empty_loop h) e g = absurd (cc)
judged_holds f text before after a (empty_states h) e g = absurd (cc)
judged_holds f text before after a (many_cells t count h many) e g = absurd (cc)
judged_holds f text before after a (violated t h few is) e g = absurd (cc)

judged_fails : (f : Formula) (text : List ℕ) (before after : Option (List ℕ)) (a : Answer) → IsJudged f text a → statuses.Negative ≡ status_of a
    → Grows (text_of a) before after
    → (t : Trace) × IsReading text (Ok t) × PrintsFails f t before after
judged_fails f text before after a (violated t h few is) e g = (t, h, (is, g))
judged_fails f text before after a (not_json h) e g = absurd (cc)
judged_fails f text before after a (not_trace h) e g = absurd (cc)
judged_fails f text before after a (empty_loop h) e g = absurd (cc)
judged_fails f text before after a (empty_states h) e g = absurd (cc)
judged_fails f text before after a (many_cells t count h many) e g = absurd (cc)
judged_fails f text before after a (satisfied t h few is) e g = absurd (cc)

traced : {words : List (List ℕ)} {rest before after : Option (List ℕ)} {s : Status} → Asks words TraceWord → (h : IsAnswered words rest before after s)
    → IsParted IsJudged h.given.bytes h.answer
traced {words} asks h = command_given words h.given.bytes TraceWord h.answer asks h.given.lawful

holds_from : {words : List (List ℕ)} {rest before after : Option (List ℕ)} → Asks words TraceWord → IsAnswered words rest before after statuses.Good
    → OfTrace rest (λ f t. PrintsHolds f t before after)
holds_from {words} {rest} {before} {after} asks h =
    let (part, second, f, cut, read, judged) = parted IsJudged h.given.bytes h.answer statuses.Good (traced asks h) refl h.own in
    let (t, reading, printed) = judged_holds f second before after h.answer judged h.own h.printed in
    record {
      bytes = h.given.bytes;
      left = h.given.left;
      part = part;
      second = second;
      cut = cut;
      formula = f;
      accepted = read;
      trace = t;
      read = reading;
      claim = printed;
    }

fails_from : {words : List (List ℕ)} {rest before after : Option (List ℕ)} → Asks words TraceWord → IsAnswered words rest before after statuses.Negative
    → OfTrace rest (λ f t. PrintsFails f t before after)
fails_from {words} {rest} {before} {after} asks h =
    let (part, second, f, cut, read, judged) = parted IsJudged h.given.bytes h.answer statuses.Negative (traced asks h) refl h.own in
    let (t, reading, printed) = judged_fails f second before after h.answer judged h.own h.printed in
    record {
      bytes = h.given.bytes;
      left = h.given.left;
      part = part;
      second = second;
      cut = cut;
      formula = f;
      accepted = read;
      trace = t;
      read = reading;
      claim = printed;
    }

pub trace_broken : (IsQuiet : Type 0) (rest left before after : Option (List ℕ)) (status : Status) → IsBroken IsQuiet status
    → (IsTrue (has_read status) → IsTakenWhole rest left) → TracePromise rest left before after status
trace_broken IsQuiet rest left before after status broken taken = record {
  when_holds = λ e. absurd (broken_not status statuses.Good broken.none refl e);
  when_fails = λ e. absurd (broken_not status statuses.Negative broken.none refl e);
  taken = taken;
}

pub trace_kept : (words : List (List ℕ)) (rest left before after : Option (List ℕ)) (status : Status) → Asks words TraceWord
    → IsAnswered words rest before after status → IsTakenWhole rest left → TracePromise rest left before after status
trace_kept words rest left before after status asks answer taken = record {
  when_holds = λ e. holds_from asks (subst (IsAnswered words rest before after) e answer);
  when_fails = λ e. fails_from asks (subst (IsAnswered words rest before after) e answer);
  taken = λ read. taken;
}
