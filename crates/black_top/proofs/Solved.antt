-- `solve`: its answer is one, what its answers mean, and that it keeps what it promises.
use Rattle.std.proofs.Common.{◌≡◌, ◌∙◌, ℕ, ◌<◌, inl, inr, Bool, false, List, Option, Some, IsTrue, refl, sym, ap, subst, arith}
use Rattle.std.proofs.lemmas.Bool.{cases_lt}
use Rattle.ltl_io.specs.Outside.{Grows, LosesAtMost}
use Rattle.ltl_syntax.specs.declared.node.Kind.{Kind}
use Rattle.ltl_syntax.specs.Formula.{Formula}
use Rattle.ltl_parser.specs.Text.{IsAccepted}
use Rattle.ltl_word.specs.declared.trace.Trace.{Trace}
use Rattle.ltl_closure.specs.Run.{IsVerdict, undecided as undecided_run, Sat, Unsat, Undecided, bound}
use Rattle.ltl_run.specs.Laws.{RunsSatisfy, UnsatIsSound, BoundSettles, VerdictIsOne}
use Rattle.enc_layout.specs.Limit.{IsInForce}
use Rattle.unravel.specs.Decision.{IsTraceOfRun, IsModel}
use Rattle.report.specs.declared.fault.Fault.TheVariants as faults
use Rattle.command_words.specs.Words.{Setting, Solve, Asks, kind_of, depth_of, core_of, cert_of}
use Rattle.report.specs.declared.status.Status.{Status}
use Rattle.report.specs.declared.status.Status.TheVariants as statuses
use Rattle.report.specs.Status.{has_read}
use Rattle.program_input.specs.Taking.{IsTakenUpTo}
use Rattle.program_input.specs.Claims.{OfFormula}
use Rattle.black_top.specs.Answer.{Answer, refused, undecided, status_of, text_of, AreAlike}
use Rattle.black_top.specs.Solve.{IsReached, number_of, IsDecided, satisfiable, unsatisfiable, undecided_yet, IsSettled, too_deep, decided, IsSolved}
use Rattle.black_top.specs.Solve.{unreadable, settled, PrintsModel, PrintsNone, PrintsUndecided, AreFewLetters, PrintsVerdict, SolvePromise}
use Rattle.black_top.specs.Run.{IsAnswered}
use Rattle.program_input.proofs.OneText.{TextLaws, one_fault, refused_not_accepted}
use Rattle.black_top.proofs.Asking.{command_given}
use Rattle.report.proofs.Statuses.{is_refusal, not_refused}
use Rattle.black_top.proofs.Statuses.{answer_no_fault}
use Rattle.program_input.proofs.Leaving.{told_left}
use Rattle.black_top.proofs.Promising.{IsBroken, broken_not}
use Rattle.black_top.proofs.Certified.{certificate_verified, both_certified}
use Rattle.black_top.proofs.Conflicting.{CoreLaws, one_core, tells_conflict}
use Rattle.core_extract.specs.Laws.{CoreIsOne}

-- ---- it has one answer

pub one_limit : (f : Formula) (kind : Kind) (n d e : ℕ) → IsInForce f kind n d → IsInForce f kind n e → d ≡ e
one_limit f kind n d e h k =
    let low = k.greatest d h.below h.fits in
    let high = h.greatest e k.below k.fits in
    omega (arith, low, high)

pub sat_depth : (i j : ℕ) → Sat i ≡ Sat j → i ≡ j
sat_depth i j e = cc

pub unsat_depth : (i j : ℕ) → Unsat i ≡ Unsat j → i ≡ j
unsat_depth i j e = cc

pub undecided_depth : (i j : ℕ) → Undecided i ≡ Undecided j → i ≡ j
undecided_depth i j e = cc

one_decided : (f : Formula) (kind : Kind) (asked limit : ℕ) (core cert : Bool) → VerdictIsOne → CoreIsOne → (a b : Answer)
    → IsDecided f kind asked limit core cert a → IsDecided f kind asked limit core cert b → AreAlike a b
one_decided f kind asked limit core cert one cores a b (satisfiable i t h r b') (satisfiable j u k r' b'') =
    sat_depth i j (one f kind limit (Sat i) (Sat j) h k)
one_decided f kind asked limit core cert one cores a b (satisfiable i t h r b') (unsatisfiable j conflict text k c l) = let e =
    one f kind limit (Sat i) (Unsat j) h k in absurd (cc)
one_decided f kind asked limit core cert one cores a b (satisfiable i t h r b') (undecided_yet j k) = let e =
    one f kind limit (Sat i) (Undecided j) h k in absurd (cc)
one_decided f kind asked limit core cert one cores a b (unsatisfiable i conflict text h c l) (satisfiable j u k r b'') = let e =
    one f kind limit (Unsat i) (Sat j) h k in absurd (cc)
one_decided f kind asked limit core cert one cores a b (unsatisfiable i conflict text h c l) (unsatisfiable j conflict' text' k c' l') = (
  unsat_depth i j (one f kind limit (Unsat i) (Unsat j) h k),
  one_core core f kind asked conflict conflict' cores c c',
  both_certified cert f kind i j text text' l l',
)
one_decided f kind asked limit core cert one cores a b (unsatisfiable i conflict text h c l) (undecided_yet j k) = let e =
    one f kind limit (Unsat i) (Undecided j) h k in absurd (cc)
one_decided f kind asked limit core cert one cores a b (undecided_yet i h) (satisfiable j u k r b'') = let e =
    one f kind limit (Undecided i) (Sat j) h k in absurd (cc)
one_decided f kind asked limit core cert one cores a b (undecided_yet i h) (unsatisfiable j conflict text k c l) = let e =
    one f kind limit (Undecided i) (Unsat j) h k in absurd (cc)
one_decided f kind asked limit core cert one cores a b (undecided_yet i h) (undecided_yet j k) =
    ap undecided (undecided_depth i j (one f kind limit (Undecided i) (Undecided j) h k))

-- the depth that was wanted for is not both reached and too deep
pub not_too_deep : (kind : Kind) (wanted : Option ℕ) (f : Formula) (n limit reached : ℕ) → wanted ≡ Some n → IsInForce f kind n limit → limit < n
    → IsInForce f kind (number_of wanted) reached → IsReached wanted reached → ⊥
not_too_deep kind wanted f n limit reached e force less force' is =
    let same = subst (λ o. IsReached o reached) e is in
    let there = subst (λ o. IsInForce f kind (number_of o) reached) e force' in
    let one = one_limit f kind n limit reached force there in
    absurd (omega (arith, same, one, less))

one_settled : (kind : Kind) (wanted : Option ℕ) (core cert : Bool) (f : Formula) → VerdictIsOne → CoreIsOne → (a b : Answer)
    → IsSettled kind wanted core cert f a → IsSettled kind wanted core cert f b → AreAlike a b
one_settled kind wanted core cert f one cores a b (too_deep n limit e force less) (too_deep n' limit' e' force' less') =
    let same : Some n ≡ Some n' = sym e ∙ e' in
    let number : n' ≡ n = cc in
    ap (λ d. refused (faults.Letters d)) (one_limit f kind n limit limit' force (subst (λ m. IsInForce f kind m limit') number force'))
one_settled kind wanted core cert f one cores a b (too_deep n limit e force less) (decided reached answer force' is h) =
    absurd (not_too_deep kind wanted f n limit reached e force less force' is)
one_settled kind wanted core cert f one cores a b (decided reached answer force is h) (too_deep n limit e force' less) =
    absurd (not_too_deep kind wanted f n limit reached e force' less force is)
one_settled kind wanted core cert f one cores a b (decided limit answer force is h) (decided limit' answer' force' is' k) =
    let same = one_limit f kind (number_of wanted) limit limit' force force' in
    one_decided f kind (number_of wanted) limit core cert one cores a b h (subst (λ d. IsDecided f kind (number_of wanted) d core cert b) (sym same) k)

pub one_solved : (kind : Kind) (wanted : Option ℕ) (core cert : Bool) (part : List ℕ) → TextLaws → VerdictIsOne → CoreIsOne → (a b : Answer)
    → IsSolved kind wanted core cert part a → IsSolved kind wanted core cert part b → AreAlike a b
one_solved kind wanted core cert part laws one cores a b (unreadable i h) (unreadable j k) = ap refused (one_fault part laws i j h k)
one_solved kind wanted core cert part laws one cores a b (unreadable i h) (settled f answer read k) = absurd (refused_not_accepted part laws i f h read)
one_solved kind wanted core cert part laws one cores a b (settled f answer read h) (unreadable j k) = absurd (refused_not_accepted part laws j f k read)
one_solved kind wanted core cert part laws one cores a b (settled f answer read h) (settled g answer' read' k) =
    one_settled kind wanted core cert f one cores a b h
    (subst (λ x. IsSettled kind wanted core cert x b) (sym (laws.one_formula part f g read.reads read'.reads)) k)

-- ---- the answer that was given

solved : {words : List (List ℕ)} {rest before after : Option (List ℕ)} {s : Status} (settings : List Setting) → Asks words (Solve settings)
    → (h : IsAnswered words rest before after s)
    → IsSolved (kind_of settings) (depth_of settings) (core_of settings) (cert_of settings) h.given.bytes h.answer
solved {words} settings asks h = command_given words h.given.bytes (Solve settings) h.answer asks h.given.lawful

-- ---- SAT, UNSAT and UNDECIDED

model_of : RunsSatisfy → (f : Formula) (kind : Kind) (k : ℕ) (t : Trace) → IsTraceOfRun f kind k t → IsModel f kind t
model_of satisfy f kind k t (r, run, close, accepts, gives) = satisfy f kind k r close t run accepts gives

sat_decided : (f : Formula) (kind : Kind) (asked limit : ℕ) (core cert : Bool) (before after : Option (List ℕ)) → RunsSatisfy → (a : Answer)
    → IsDecided f kind asked limit core cert a → statuses.Sat ≡ status_of a → Grows (text_of a) before after
    → PrintsModel kind f before after
sat_decided f kind asked limit core cert before after satisfy a (satisfiable k t h r b) e g =
    record { depth = k; trace = t; model = model_of satisfy f kind k t r; reads = b; printed = g }
sat_decided f kind asked limit core cert before after satisfy a (unsatisfiable k conflict text h c l) e g = absurd (cc)
sat_decided f kind asked limit core cert before after satisfy a (undecided_yet k h) e g = absurd (cc)

unsat_decided : (f : Formula) (kind : Kind) (wanted : Option ℕ) (limit : ℕ) (core cert : Bool) (part : List ℕ) (before after : Option (List ℕ))
    → UnsatIsSound → CoreLaws → IsAccepted part f → IsInForce f kind (number_of wanted) limit
    → (a : Answer) → IsDecided f kind (number_of wanted) limit core cert a → statuses.Unsat ≡ status_of a → Grows (text_of a) before after
    → PrintsNone kind wanted core cert part f before after
unsat_decided f kind wanted limit core cert part before after sound laws read force a (unsatisfiable k conflict text h c l) e g = record {
  depth = k;
  conflict = conflict;
  certificate = text;
  none = λ t. sound f kind limit k t h;
  conflicts = tells_conflict core f kind (number_of wanted) conflict laws (limit, k, force, h) c;
  certifies = l;
  verified = certificate_verified cert f kind k part text read l;
  printed = g;
}
unsat_decided f kind wanted limit core cert part before after sound laws read force a (satisfiable k t h r b) e g = absurd (cc)
unsat_decided f kind wanted limit core cert part before after sound laws read force a (undecided_yet k h) e g = absurd (cc)

-- an undecided verdict has the limit as its depth
undecided_at : (f : Formula) (kind : Kind) (limit k : ℕ) → IsVerdict f kind limit (Undecided k) → k ≡ limit
undecided_at f kind limit k (undecided_run each) = refl

undecided_decided : (f : Formula) (kind : Kind) (wanted : Option ℕ) (limit : ℕ) (core cert : Bool) (before after : Option (List ℕ))
    → BoundSettles → IsInForce f kind (number_of wanted) limit → (a : Answer) → IsDecided f kind (number_of wanted) limit core cert a
    → statuses.Undecided ≡ status_of a → Grows (text_of a) before after → PrintsUndecided kind wanted f before after
undecided_decided f kind wanted limit core cert before after settles force a (undecided_yet k h) e g =
    let same = undecided_at f kind limit k h in
    let low : limit < bound f kind = elim (cases_lt limit (bound f kind)) [
      | inl less ↦ less
      | inr more ↦ absurd (settles f kind limit k more h)
    ] in
    record {
      limit = limit;
      in_force = force;
      verdict = subst (λ d. IsVerdict f kind limit (Undecided d)) same h;
      below_bound = low;
      printed = subst (λ d. Grows (text_of (undecided d)) before after) same g;
    }
undecided_decided f kind wanted limit core cert before after settles force a (satisfiable k t h r b) e g = absurd (cc)
undecided_decided f kind wanted limit core cert before after settles force a (unsatisfiable k conflict text h c l) e g = absurd (cc)

-- an answer that is no refusal is a verdict at the limit in force
abbrev IsVerdictOf : Kind → Option ℕ → Bool → Bool → List ℕ → Answer → Type 0
IsVerdictOf kind wanted core cert bytes a = (f : Formula) × IsAccepted bytes f × (limit : ℕ) × IsInForce f kind (number_of wanted) limit
    × IsReached wanted limit × IsDecided f kind (number_of wanted) limit core cert a

verdict_settled : (kind : Kind) (wanted : Option ℕ) (core cert : Bool) (bytes : List ℕ) (f : Formula) (s : Status) → IsAccepted bytes f
    → is_refusal s ≡ false → (a : Answer) → IsSettled kind wanted core cert f a → s ≡ status_of a → IsVerdictOf kind wanted core cert bytes a
verdict_settled kind wanted core cert bytes f s read not a (too_deep n limit e force less) is = absurd (not_refused s (faults.Letters limit) not is)
verdict_settled kind wanted core cert bytes f s read not a (decided limit answer force reached h) is = (f, read, limit, force, reached, h)

verdict_solved : (kind : Kind) (wanted : Option ℕ) (core cert : Bool) (bytes : List ℕ) (s : Status) → is_refusal s ≡ false → (a : Answer)
    → IsSolved kind wanted core cert bytes a → s ≡ status_of a → IsVerdictOf kind wanted core cert bytes a
verdict_solved kind wanted core cert bytes s not a (unreadable fault h) is = absurd (not_refused s fault not is)
verdict_solved kind wanted core cert bytes s not a (settled f answer read h) is = verdict_settled kind wanted core cert bytes f s read not a h is

sat_from : {words : List (List ℕ)} {rest before after : Option (List ℕ)} → RunsSatisfy → (settings : List Setting) → Asks words (Solve settings)
    → IsAnswered words rest before after statuses.Sat
    → OfFormula rest (λ part f. PrintsModel (kind_of settings) f before after)
sat_from {words} {rest} {before} {after} satisfy settings asks h =
    let (f, read, limit, force, reached, is) = verdict_solved (kind_of settings) (depth_of settings) (core_of settings) (cert_of settings)
    h.given.bytes statuses.Sat refl h.answer (solved settings asks h) h.own in (
      h.given.bytes,
      h.given.left,
      f,
      read,
      sat_decided f (kind_of settings) (number_of (depth_of settings)) limit (core_of settings) (cert_of settings)
          before after satisfy h.answer is h.own h.printed,
    )

unsat_from : {words : List (List ℕ)} {rest before after : Option (List ℕ)} → UnsatIsSound → CoreLaws → (settings : List Setting) → Asks words (Solve settings)
    → IsAnswered words rest before after statuses.Unsat
    → OfFormula rest (λ part f. PrintsNone (kind_of settings) (depth_of settings) (core_of settings) (cert_of settings) part f before after)
unsat_from {words} {rest} {before} {after} sound laws settings asks h =
    let (f, read, limit, force, reached, is) = verdict_solved (kind_of settings) (depth_of settings) (core_of settings) (cert_of settings)
    h.given.bytes statuses.Unsat refl h.answer (solved settings asks h) h.own in (
      h.given.bytes,
      h.given.left,
      f,
      read,
      unsat_decided f (kind_of settings) (depth_of settings) limit (core_of settings) (cert_of settings)
          h.given.bytes before after sound laws read force h.answer is h.own h.printed,
    )

undecided_from : {words : List (List ℕ)} {rest before after : Option (List ℕ)} → BoundSettles → (settings : List Setting) → Asks words (Solve settings)
    → IsAnswered words rest before after statuses.Undecided
    → OfFormula rest (λ part f. PrintsUndecided (kind_of settings) (depth_of settings) f before after)
undecided_from {words} {rest} {before} {after} settles settings asks h =
    let (f, read, limit, force, reached, is) = verdict_solved (kind_of settings) (depth_of settings) (core_of settings) (cert_of settings)
    h.given.bytes statuses.Undecided refl h.answer (solved settings asks h) h.own in (
      h.given.bytes,
      h.given.left,
      f,
      read,
      undecided_decided f (kind_of settings) (depth_of settings) limit (core_of settings) (cert_of settings)
          before after settles force h.answer is h.own h.printed,
    )

-- ---- the verdict of an accepted formula whose letters are few

pub not_deep : (kind : Kind) (wanted : Option ℕ) (f : Formula) (n limit : ℕ) → wanted ≡ Some n → IsInForce f kind n limit
    → limit < n → AreFewLetters kind wanted f → ⊥
not_deep kind wanted f n limit e force less few =
    let there = subst (λ o. AreFewLetters kind o f) e few in
    let more = force.greatest n (omega arith) there in
    absurd (omega (arith, more, less))

verdict_few : (kind : Kind) (wanted : Option ℕ) (core cert : Bool) (f : Formula) (before after : Option (List ℕ)) (s : Status) (a : Answer)
    → AreFewLetters kind wanted f → IsSettled kind wanted core cert f a → s ≡ status_of a → Grows (text_of a) before after
    → PrintsVerdict kind wanted core cert f before after s
verdict_few kind wanted core cert f before after s a few (too_deep n limit e force less) is g = absurd (not_deep kind wanted f n limit e force less few)
verdict_few kind wanted core cert f before after s a few (decided limit answer force reached h) is g =
    record { limit = limit; in_force = force; reached = reached; answer = a; decided = h; own = is; printed = g }

verdict_accepted : (kind : Kind) (wanted : Option ℕ) (core cert : Bool) (bytes : List ℕ) (f : Formula) (before after : Option (List ℕ)) (s : Status)
    (a : Answer) → TextLaws → IsAccepted bytes f → AreFewLetters kind wanted f
    → IsSolved kind wanted core cert bytes a → s ≡ status_of a → Grows (text_of a) before after → PrintsVerdict kind wanted core cert f before after s
verdict_accepted kind wanted core cert bytes f before after s a laws read few (unreadable fault h) is g =
    absurd (refused_not_accepted bytes laws fault f h read)
verdict_accepted kind wanted core cert bytes f before after s a laws read few (settled f' answer read' h) is g =
    verdict_few kind wanted core cert f before after s a few
    (subst (λ x. IsSettled kind wanted core cert x a) (laws.one_formula bytes f' f read'.reads read.reads) h) is g

verdict_from : {words : List (List ℕ)} {rest before after : Option (List ℕ)} {s : Status} → TextLaws → (settings : List Setting) (bytes : List ℕ) (f : Formula)
    → Asks words (Solve settings) → rest ≡ Some bytes → IsAccepted bytes f
    → AreFewLetters (kind_of settings) (depth_of settings) f → IsAnswered words rest before after s
    → PrintsVerdict (kind_of settings) (depth_of settings) (core_of settings) (cert_of settings) f before after s
verdict_from {words} {rest} {before} {after} {s} laws settings bytes f asks told read few h =
    let same = told_left rest bytes h.given.bytes told h.given.left in
    verdict_accepted (kind_of settings) (depth_of settings) (core_of settings) (cert_of settings) h.given.bytes f before after s h.answer laws
    (subst (λ b. IsAccepted b f) same read) few (solved settings asks h) h.own h.printed

-- ---- the promise

pub solve_broken : (settings : List Setting) (IsQuiet : Type 0) (rest left before after : Option (List ℕ)) (status : Status) → IsBroken IsQuiet status
    → LosesAtMost 1114112 rest left
    → (status ≡ statuses.ReadFault → LosesAtMost 1048576 rest left) → (IsTrue (has_read status) → IsTakenUpTo 1048576 rest left)
    → SolvePromise settings IsQuiet rest left before after status
solve_broken settings IsQuiet rest left before after status broken most fault taken = record {
  when_sat = λ e. absurd (broken_not status statuses.Sat broken.none refl e);
  when_unsat = λ e. absurd (broken_not status statuses.Unsat broken.none refl e);
  when_undecided = λ e. absurd (broken_not status statuses.Undecided broken.none refl e);
  verdict = λ bytes f told read few quiet. inl (broken.cause quiet);
  most = most;
  before_fault = fault;
  taken = taken;
}

pub solve_kept : (settings : List Setting) (IsQuiet : Type 0) (words : List (List ℕ)) (rest left before after : Option (List ℕ)) (status : Status)
    → RunsSatisfy → UnsatIsSound → BoundSettles → TextLaws → CoreLaws → Asks words (Solve settings)
    → IsAnswered words rest before after status → LosesAtMost 1114112 rest left → IsTakenUpTo 1048576 rest left
    → SolvePromise settings IsQuiet rest left before after status
solve_kept settings IsQuiet words rest left before after status satisfy sound settles laws cores asks answer most taken = record {
  when_sat = λ e. sat_from satisfy settings asks (subst (IsAnswered words rest before after) e answer);
  when_unsat = λ e. unsat_from sound cores settings asks (subst (IsAnswered words rest before after) e answer);
  when_undecided = λ e. undecided_from settles settings asks (subst (IsAnswered words rest before after) e answer);
  verdict = λ bytes f told read few quiet. inr (verdict_from laws settings bytes f asks told read few answer);
  most = most;
  before_fault = λ e. absurd (answer_no_fault answer.answer (sym e ∙ answer.own));
  taken = λ read. taken;
}
