-- `depast`: its answer is one, what its answers mean, and that it keeps what it promises.
use Rattle.std.proofs.Common.{◌≡◌, ◌∙◌, ℕ, ◌≤◌, ◌⊎◌, inl, inr, List, Option, Some, None, Result, Ok, Err, IsTrue, IfOk, OnOk, refl, sym, ap, subst, arith}
use Rattle.ltl_io.specs.Outside.{Grows}
use Rattle.ltl_syntax.specs.Formula.{Formula}
use Rattle.ltl_syntax.specs.Size.{formula_size}
use Rattle.ltl_word.specs.declared.trace.Trace.{Trace}
use Rattle.ltl_word.specs.declared.json.TraceFault.{TraceFault}
use Rattle.ltl_word.specs.declared.json.TraceFault.TheVariants as trace_faults
use Rattle.ltl_word.specs.Trace.{IsTrace}
use Rattle.ltl_word.specs.Json.{IsReading, trace_text}
use Rattle.ltl_word.specs.Laws.{IsOneReading}
use Rattle.lasso_eval.specs.Cells.{cells, max_cells, AreTooMany}
use Rattle.depast.specs.Depast.{depast}
use Rattle.depast.specs.Lifting.{IsLifted}
use Rattle.report.specs.declared.fault.Fault.TheVariants as faults
use Rattle.command_words.specs.Words.{Depast, Asks}
use Rattle.report.specs.declared.status.Status.{Status}
use Rattle.report.specs.declared.status.Status.TheVariants as statuses
use Rattle.report.specs.Status.{has_read}
use Rattle.program_input.specs.Taking.{AreLeft, IsTakenWhole}
use Rattle.black_top.specs.Answer.{Answer, refused, depasted, lifted, status_of, text_of}
use Rattle.black_top.specs.Depast.{IsSplit, IsRaised, not_json, not_trace, empty_loop, empty_states, many_cells, raised, IsShownBy, IsWithout, too_large, small}
use Rattle.black_top.specs.Depast.{IsPartAnswer, unread, accepted, IsDepasted, IsReadAgain, IsSound, KeepsTruth, PrintsLifted, Prints, PrintsWithoutPast}
use Rattle.black_top.specs.Depast.{OfFormula, DepastPromise}
use Rattle.black_top.specs.declared.output.Output.{Output}
use Rattle.black_top.specs.Inner.{Shows}
use Rattle.black_top.specs.Run.{IsAnswered}
use Rattle.black_top.proofs.Asking.{command_given}
use Rattle.program_input.proofs.Cutting.{cut_one, cut_or_none}
use Rattle.program_input.proofs.OneText.{TextLaws, one_fault, refused_not_accepted}
use Rattle.report.proofs.Statuses.{not_refused}
use Rattle.black_top.proofs.Promising.{IsBroken, broken_not}
use Rattle.black_top.proofs.Written.{read_trace}
use Rattle.black_top.proofs.OneLifted.{one_lifted}

-- what the laws say of the formula without past operators and of lifted traces
pub record PastLaws : Type 0 where
  pub sound : (f : Formula) → formula_size (depast f) ≤ 16384 → IsSound f
  pub kept : (f : Formula) (t u : Trace) → IsTrace t → IsLifted f t u → KeepsTruth f t u

-- ---- the answer is one

-- the answer by what the text of the trace is read as
abbrev ByTrace : Formula → Trace → Answer → Type 0
ByTrace f t a = ((count : ℕ) × (a ≡ refused (faults.Cells count)) × AreTooMany t f count)
    ⊎ ((u : Trace) × (a ≡ lifted (depast f) u) × (cells t f ≤ max_cells) × IsLifted f t u × IsReading (trace_text u) (Ok u))

abbrev ByReading : Formula → Result Trace TraceFault → Answer → Type 0
ByReading f (Ok t) a = ByTrace f t a
ByReading f (Err trace_faults.NotJson) a = a ≡ refused faults.NotJson
ByReading f (Err trace_faults.NotTrace) a = a ≡ refused faults.NotTrace
ByReading f (Err trace_faults.EmptyLoop) a = a ≡ refused faults.EmptyLoop
ByReading f (Err trace_faults.EmptyStates) a = a ≡ refused faults.EmptyStates
ByReading f (Err trace_faults.NoMemory) a = ⊥

by_reading : (f : Formula) (text : List ℕ) (a : Answer) → IsRaised f text a → (r : Result Trace TraceFault) × IsReading text r × ByReading f r a
by_reading f text a (not_json h) = (Err trace_faults.NotJson, h, refl)
by_reading f text a (not_trace h) = (Err trace_faults.NotTrace, h, refl)
by_reading f text a (empty_loop h) = (Err trace_faults.EmptyLoop, h, refl)
by_reading f text a (empty_states h) = (Err trace_faults.EmptyStates, h, refl)
by_reading f text a (many_cells t count h many) = (Ok t, h, inl (count, refl, many))
by_reading f text a (raised t u h few is reads) = (Ok t, h, inr (u, refl, few, is, reads))

one_by_trace : IsOneReading → (f : Formula) (t : Trace) (a b : Answer) → ByTrace f t a → ByTrace f t b → a ≡ b
one_by_trace one f t a b (inl (m, e, x)) (inl (n, g, y)) = e ∙ ap (λ k. refused (faults.Cells k)) (x.0 ∙ sym y.0) ∙ sym g
one_by_trace one f t a b (inl (m, e, x)) (inr (u, g, few, is, reads)) = absurd (omega (arith, x.0, x.1, few))
one_by_trace one f t a b (inr (u, e, few, is, reads)) (inl (n, g, y)) = absurd (omega (arith, y.0, y.1, few))
one_by_trace one f t a b (inr (u, e, few, is, reads)) (inr (v, g, few', is', reads')) =
    e ∙ ap (lifted (depast f)) (one_lifted one f t u v is is' reads reads') ∙ sym g

one_by_reading : IsOneReading → (f : Formula) (r : Result Trace TraceFault) (a b : Answer) → ByReading f r a → ByReading f r b → a ≡ b
one_by_reading one f (Ok t) a b h k = one_by_trace one f t a b h k
one_by_reading one f (Err trace_faults.NotJson) a b h k = h ∙ sym k
one_by_reading one f (Err trace_faults.NotTrace) a b h k = h ∙ sym k
one_by_reading one f (Err trace_faults.EmptyLoop) a b h k = h ∙ sym k
one_by_reading one f (Err trace_faults.EmptyStates) a b h k = h ∙ sym k
one_by_reading one f (Err trace_faults.NoMemory) a b h k = absurd h

one_raised : IsOneReading → (f : Formula) (text : List ℕ) (a b : Answer) → IsRaised f text a → IsRaised f text b → a ≡ b
one_raised one f text a b h k =
    let (r, read, by) = by_reading f text a h in
    let (s, read', by') = by_reading f text b k in
    let same : r ≡ s = one text r s read read' (λ e. subst (λ q. ByReading f q a) e by) (λ e. subst (λ q. ByReading f q b) e by') in
    one_by_reading one f s a b (subst (λ q. ByReading f q a) same by) by'

one_shown : IsOneReading → (f : Formula) (second : Option (List ℕ)) (a b : Answer) → IsShownBy f second a → IsShownBy f second b → a ≡ b
one_shown one f None a b h k = h ∙ sym k
one_shown one f (Some text) a b h k = one_raised one f text a b h k

one_without : IsOneReading → (f : Formula) (second : Option (List ℕ)) (a b : Answer) → IsWithout f second a → IsWithout f second b → a ≡ b
one_without one f second a b (too_large m x) (too_large n y) = ap (λ k. refused (faults.PastNodes k)) (x.0 ∙ sym y.0)
one_without one f second a b (too_large m x) (small b' few k) = absurd (omega (arith, x.0, x.1, few))
one_without one f second a b (small a' few h) (too_large n y) = absurd (omega (arith, y.0, y.1, few))
one_without one f second a b (small a' few h) (small b' few' k) = one_shown one f second a b h k

one_part : IsOneReading → (part : List ℕ) (second : Option (List ℕ)) → TextLaws → (a b : Answer) → IsPartAnswer part second a
    → IsPartAnswer part second b → a ≡ b
one_part one part second laws a b (unread x h) (unread y k) = ap refused (one_fault part laws x y h k)
one_part one part second laws a b (unread x h) (accepted g b' read again k) = absurd (refused_not_accepted part laws x g h read)
one_part one part second laws a b (accepted f a' read again h) (unread y k) = absurd (refused_not_accepted part laws y f k read)
one_part one part second laws a b (accepted f a' read again h) (accepted g b' read' again' k) =
    let tree : g ≡ f = laws.one_formula part g f read'.reads read.reads in
    one_without one f second a b h (subst (λ x. IsWithout x second b) tree k)

one_split : (bytes part : List ℕ) (second : Option (List ℕ)) (part' : List ℕ) (second' : Option (List ℕ)) → IsSplit bytes part second
    → IsSplit bytes part' second' → (part' ≡ part) × (second' ≡ second)
one_split bytes part None part' None h k = (k.1 ∙ sym h.1, refl)
one_split bytes part None part' (Some second') h k = absurd (cut_or_none bytes part' second' k h.0)
one_split bytes part (Some second) part' None h k = absurd (cut_or_none bytes part second h k.0)
one_split bytes part (Some second) part' (Some second') h k = let same = cut_one bytes part' second' part second k h in (same.0, ap Some same.1)

pub one_depasted : IsOneReading → (bytes : List ℕ) → TextLaws → (a b : Answer) → IsDepasted bytes a → IsDepasted bytes b → a ≡ b
one_depasted one bytes laws a b (part, second, split, h) (part', second', split', k) =
    let same = one_split bytes part second part' second' split split' in
    one_part one part second laws a b h (subst (λ s. IsPartAnswer part s b) same.1 (subst (λ p. IsPartAnswer p second' b) same.0 k))

-- ---- what is shown

pub alone_shown : {E : Type 0} (f g : Formula) (second : Option (List ℕ)) (r : Result Output E) → second ≡ None → g ≡ depast f
    → IfOk r (λ out. Shows out (depasted g))
    → IfOk r (λ out. (a : Answer) × IsShownBy f second a × Shows out a)
alone_shown f g second (Ok out) none same shows =
    (depasted (depast f), subst (λ s. IsShownBy f s (depasted (depast f))) (sym none) refl, subst (λ h. Shows out (depasted h)) same shows)
alone_shown f g second (Err e) none same shows = tt

pub raised_shown : {E : Type 0} (f g : Formula) (text : List ℕ) (t u : Trace) (r : Result Output E) → g ≡ depast f → IsReading text (Ok t)
    → cells t f ≤ max_cells → IsLifted f t u
    → IfOk r (λ out. Shows out (lifted g u)) → OnOk r (IsReading (trace_text u) (Ok u)) → IfOk r (λ out. (a : Answer) × IsRaised f text a × Shows out a)
raised_shown f g text t u (Ok out) same read few is shows reads =
    (lifted (depast f) u, raised t u read few is reads, subst (λ h. Shows out (lifted h u)) same shows)
raised_shown f g text t u (Err e) same read few is shows reads = tt

-- ---- what was printed

raised_prints : PastLaws → (f : Formula) (text : List ℕ) (before after : Option (List ℕ)) (a : Answer) → IsRaised f text a → statuses.Good ≡ status_of a
    → Grows (text_of a) before after → PrintsLifted f text before after
raised_prints laws f text before after a (raised t u read few is reads) e g =
    record { given = t; read = read; shown = u; is = is; reads = reads; kept = laws.kept f t u (read_trace text t read) is; printed = g }
raised_prints laws f text before after a (not_json h) e g = absurd (cc)
raised_prints laws f text before after a (not_trace h) e g = absurd (cc)
raised_prints laws f text before after a (empty_loop h) e g = absurd (cc)
raised_prints laws f text before after a (empty_states h) e g = absurd (cc)
raised_prints laws f text before after a (many_cells t count h many) e g = absurd (cc)

shown_prints : PastLaws → (f : Formula) (second before after : Option (List ℕ)) (a : Answer) → IsShownBy f second a → statuses.Good ≡ status_of a
    → Grows (text_of a) before after → Prints f second before after
shown_prints laws f None before after a h e g = subst (λ x. Grows (text_of x) before after) h g
shown_prints laws f (Some text) before after a h e g = raised_prints laws f text before after a h e g

prints_of : PastLaws → (f : Formula) (second before after : Option (List ℕ)) (a : Answer) → IsReadAgain f → IsWithout f second a → statuses.Good ≡ status_of a
    → Grows (text_of a) before after → PrintsWithoutPast f second before after
prints_of laws f second before after a again (too_large count h) e g = absurd (cc)
prints_of laws f second before after a again (small answer few h) e g =
    record { sound = laws.sound f few; reads = again; prints = shown_prints laws f second before after a h e g }

part_prints : PastLaws → (rest : Option (List ℕ)) (bytes part : List ℕ) (second before after : Option (List ℕ)) (a : Answer) → AreLeft rest bytes
    → IsSplit bytes part second → IsPartAnswer part second a → statuses.Good ≡ status_of a → Grows (text_of a) before after
    → OfFormula rest (λ f second. PrintsWithoutPast f second before after)
part_prints laws rest bytes part second before after a left split (unread fault h) e g = absurd (not_refused statuses.Good fault refl e)
part_prints laws rest bytes part second before after a left split (accepted f answer read again h) e g = record {
  bytes = bytes;
  left = left;
  part = part;
  second = second;
  split = split;
  formula = f;
  accepted = read;
  claim = prints_of laws f second before after a again h e g;
}

good_from : {words : List (List ℕ)} {rest before after : Option (List ℕ)} → PastLaws → Asks words Depast → IsAnswered words rest before after statuses.Good
    → OfFormula rest (λ f second. PrintsWithoutPast f second before after)
good_from {words} {rest} {before} {after} laws asks h =
    let (part, second, split, is) = command_given words h.given.bytes Depast h.answer asks h.given.lawful in
    part_prints laws rest h.given.bytes part second before after h.answer h.given.left split is h.own h.printed

-- ---- the promise

pub depast_broken : (IsQuiet : Type 0) (rest left before after : Option (List ℕ)) (status : Status) → IsBroken IsQuiet status
    → (IsTrue (has_read status) → IsTakenWhole rest left) → DepastPromise rest left before after status
depast_broken IsQuiet rest left before after status broken taken = record {
  when_good = λ e. absurd (broken_not status statuses.Good broken.none refl e);
  taken = taken;
}

pub depast_kept : PastLaws → (words : List (List ℕ)) (rest left before after : Option (List ℕ)) (status : Status) → Asks words Depast
    → IsAnswered words rest before after status → IsTakenWhole rest left → DepastPromise rest left before after status
depast_kept laws words rest left before after status asks answer taken = record {
  when_good = λ e. good_from laws asks (subst (IsAnswered words rest before after) e answer);
  taken = λ read. taken;
}
