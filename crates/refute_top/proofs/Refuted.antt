-- A formula is refuted or not: what SAT and UNSAT mean, and that the program keeps what it promises.
use Rattle.std.proofs.Common.{◌≡◌, ◌∙◌, ℕ, inl, inr, Bool, false, List, Option, Some, IsTrue, refl, sym, subst}
use Rattle.ltl_io.specs.Outside.{Grows, LosesAtMost}
use Rattle.ltl_syntax.specs.declared.node.Kind.{Kind}
use Rattle.ltl_syntax.specs.Formula.{Formula}
use Rattle.ltl_parser.specs.Text.{IsAccepted}
use Rattle.claims.specs.Certificate.{Certificate}
use Rattle.claims.specs.Lawful.{IsLawful}
use Rattle.claims.specs.Laws.{LawfulHasNoTrace}
use Rattle.claim_check.specs.declared.reason.ClaimVerdict.TheVariants as verdicts
use Rattle.claim_text.specs.Text.{IsTextOf}
use Rattle.claim_reading.specs.Never.{never_text}
use Rattle.unravel.specs.Decision.{HasNoTrace}
use Rattle.report.specs.declared.status.Status.{Status}
use Rattle.report.specs.declared.status.Status.TheVariants as statuses
use Rattle.report.specs.Status.{has_read}
use Rattle.report.proofs.Statuses.{is_refusal, not_refused}
use Rattle.command_words.specs.Words.{Setting, kind_of, cert_of}
use Rattle.command_words.specs.Refutation.{Refute, AsksRefutation}
use Rattle.program_input.specs.Reading.{accepted}
use Rattle.program_input.specs.Claims.{OfFormula}
use Rattle.program_input.specs.Taking.{IsTakenUpTo}
use Rattle.program_input.proofs.OneText.{TextLaws, refused_not_accepted}
use Rattle.program_input.proofs.Unseparated.{joined_cut}
use Rattle.program_input.proofs.Leaving.{told_left}
use Rattle.refute_top.specs.Texts.{undecided_text}
use Rattle.refute_top.specs.Answer.{Answer, checked, status_of, text_of}
use Rattle.refute_top.specs.Refuting.{IsFound, satisfiable, refuted, certified_so, open_yet, IsSettled, unreadable, settled, PrintsModel, Shows, PrintsNone}
use Rattle.refute_top.specs.Refuting.{PrintsFound, RefutePromise}
use Rattle.refute_top.specs.Checking.{IsVerified, judged}
use Rattle.refute_top.specs.Run.{IsAnswered}
use Rattle.refute_top.proofs.Asking.{AskForOne, answer_given}
use Rattle.refute_top.proofs.Promising.{IsBroken, broken_not, answer_no_fault}

no_trace_of : (kind : Kind) (f : Formula) (c : Certificate) → LawfulHasNoTrace → IsLawful f kind c → HasNoTrace f kind
no_trace_of kind f c law lawful = λ t trace of. law f kind c lawful t trace of

-- a lawful certificate is verified behind the text of its formula
verified_behind : (kind : Kind) (f : Formula) (part text : List ℕ) (c : Certificate) → IsAccepted part f → IsTextOf text c → IsLawful f kind c
    → IsVerified kind part text
verified_behind kind f part text c read is lawful =
    accepted part text f (checked verdicts.Verified) (joined_cut part text read.reads.tokens read.reads.lexed) read (judged c verdicts.Verified is lawful)

-- ---- what each answer means

sat_found : (kind : Kind) (cert : Bool) (f : Formula) (before after : Option (List ℕ)) (a : Answer) → IsFound kind cert f a → statuses.Sat ≡ status_of a
    → Grows (text_of a) before after → PrintsModel kind f before after
sat_found kind cert f before after a (satisfiable t model reads) e g = record { trace = t; model = model; reads = reads; printed = g }
sat_found kind cert f before after a (refuted c unasked lawful) e g = absurd (cc)
sat_found kind cert f before after a (certified_so c text wanted lawful is) e g = absurd (cc)
sat_found kind cert f before after a open_yet e g = absurd (cc)

unsat_found : (kind : Kind) (cert : Bool) (part : List ℕ) (f : Formula) (before after : Option (List ℕ)) (a : Answer) → LawfulHasNoTrace → IsAccepted part f
    → IsFound kind cert f a → statuses.Unsat ≡ status_of a → Grows (text_of a) before after
    → PrintsNone kind cert part f before after
unsat_found kind cert part f before after a law read (satisfiable t model reads) e g = absurd (cc)
unsat_found kind cert part f before after a law read (refuted c unasked lawful) e g =
    record {
      none = no_trace_of kind f c law lawful;
      shown = never_text f c;
      by = subst (λ b. Shows b kind part f (never_text f c)) (sym unasked) (
        c,
        lawful,
        refl,
      );
      printed = g;
    }
unsat_found kind cert part f before after a law read (certified_so c text wanted lawful is) e g =
    record {
      none = no_trace_of kind f c law lawful;
      shown = text;
      by = subst (λ b. Shows b kind part f text) (sym wanted) (
        c,
        lawful,
        is,
        verified_behind kind f part text c read is lawful,
      );
      printed = g;
    }
unsat_found kind cert part f before after a law read open_yet e g = absurd (cc)

undecided_found : (kind : Kind) (cert : Bool) (f : Formula) (before after : Option (List ℕ)) (a : Answer) → IsFound kind cert f a
    → statuses.Undecided ≡ status_of a → Grows (text_of a) before after → Grows undecided_text before after
undecided_found kind cert f before after a (satisfiable t model reads) e g = absurd (cc)
undecided_found kind cert f before after a (refuted c unasked lawful) e g = absurd (cc)
undecided_found kind cert f before after a (certified_so c text wanted lawful is) e g = absurd (cc)
undecided_found kind cert f before after a open_yet e g = g

-- an answer that is no refusal is one that an accepted formula may get
abbrev IsFoundOf : Kind → Bool → List ℕ → Answer → Type 0
IsFoundOf kind cert bytes a = (f : Formula) × IsAccepted bytes f × IsFound kind cert f a

found_settled : (kind : Kind) (cert : Bool) (bytes : List ℕ) (s : Status) → is_refusal s ≡ false → (a : Answer) → IsSettled kind cert bytes a → s ≡ status_of a
    → IsFoundOf kind cert bytes a
found_settled kind cert bytes s not a (unreadable fault h) is = absurd (not_refused s fault not is)
found_settled kind cert bytes s not a (settled f answer read h) is = (f, read, h)

settles : {words : List (List ℕ)} {rest before after : Option (List ℕ)} {s : Status} → AskForOne → (settings : List Setting)
    → AsksRefutation words (Refute settings) → (h : IsAnswered words rest before after s)
    → IsSettled (kind_of settings) (cert_of settings) h.given.bytes h.answer
settles {words} one settings asks h = answer_given one words h.given.bytes (Refute settings) h.answer asks h.given.lawful

sat_from : {words : List (List ℕ)} {rest before after : Option (List ℕ)} → AskForOne → (settings : List Setting) → AsksRefutation words (Refute settings)
    → IsAnswered words rest before after statuses.Sat
    → OfFormula rest (λ part f. PrintsModel (kind_of settings) f before after)
sat_from {words} {rest} {before} {after} one settings asks h =
    let (f, read, is) = found_settled (kind_of settings) (cert_of settings) h.given.bytes statuses.Sat refl h.answer (settles one settings asks h) h.own in
    (h.given.bytes, h.given.left, f, read, sat_found (kind_of settings) (cert_of settings) f before after h.answer is h.own h.printed)

unsat_from : {words : List (List ℕ)} {rest before after : Option (List ℕ)} → AskForOne → LawfulHasNoTrace → (settings : List Setting)
    → AsksRefutation words (Refute settings) → IsAnswered words rest before after statuses.Unsat
    → OfFormula rest (λ part f. PrintsNone (kind_of settings) (cert_of settings) part f before after)
unsat_from {words} {rest} {before} {after} one law settings asks h =
    let (f, read, is) = found_settled (kind_of settings) (cert_of settings) h.given.bytes statuses.Unsat refl h.answer (settles one settings asks h) h.own in
    (h.given.bytes, h.given.left, f, read, unsat_found (kind_of settings) (cert_of settings) h.given.bytes f before after h.answer law read is h.own h.printed)

undecided_from : {words : List (List ℕ)} {rest before after : Option (List ℕ)} → AskForOne → (settings : List Setting) → AsksRefutation words (Refute settings)
    → IsAnswered words rest before after statuses.Undecided
    → OfFormula rest (λ part f. Grows undecided_text before after)
undecided_from {words} {rest} {before} {after} one settings asks h =
    let (f, read, is) = found_settled (kind_of settings) (cert_of settings) h.given.bytes statuses.Undecided refl h.answer
    (settles one settings asks h) h.own in
    (h.given.bytes, h.given.left, f, read, undecided_found (kind_of settings) (cert_of settings) f before after h.answer is h.own h.printed)

-- ---- an accepted formula is answered

found_accepted : (kind : Kind) (cert : Bool) (bytes : List ℕ) (f : Formula) (before after : Option (List ℕ)) (s : Status) (a : Answer)
    → TextLaws → IsAccepted bytes f → IsSettled kind cert bytes a → s ≡ status_of a → Grows (text_of a) before after
    → PrintsFound kind cert f before after s
found_accepted kind cert bytes f before after s a laws read (unreadable fault h) is g = absurd (refused_not_accepted bytes laws fault f h read)
found_accepted kind cert bytes f before after s a laws read (settled f' answer read' h) is g =
    record { answer = a; found = subst (λ x. IsFound kind cert x a) (laws.one_formula bytes f' f read'.reads read.reads) h; own = is; printed = g }

found_from : {words : List (List ℕ)} {rest before after : Option (List ℕ)} {s : Status} → AskForOne → TextLaws
    → (settings : List Setting) (bytes : List ℕ) (f : Formula) → AsksRefutation words (Refute settings) → rest ≡ Some bytes → IsAccepted bytes f
    → IsAnswered words rest before after s → PrintsFound (kind_of settings) (cert_of settings) f before after s
found_from {words} {rest} {before} {after} {s} one laws settings bytes f asks told read h =
    let same = told_left rest bytes h.given.bytes told h.given.left in
    found_accepted (kind_of settings) (cert_of settings) h.given.bytes f before after s h.answer laws (subst (λ b. IsAccepted b f) same read)
    (settles one settings asks h) h.own h.printed

-- ---- the promise

pub refute_broken : (settings : List Setting) (IsQuiet : Type 0) (rest left before after : Option (List ℕ)) (status : Status) → IsBroken IsQuiet status
    → LosesAtMost 1114112 rest left
    → (status ≡ statuses.ReadFault → LosesAtMost 1048576 rest left) → (IsTrue (has_read status) → IsTakenUpTo 1048576 rest left)
    → RefutePromise settings IsQuiet rest left before after status
refute_broken settings IsQuiet rest left before after status broken most fault taken = record {
  when_sat = λ e. absurd (broken_not status statuses.Sat broken.none refl e);
  when_unsat = λ e. absurd (broken_not status statuses.Unsat broken.none refl e);
  when_undecided = λ e. absurd (broken_not status statuses.Undecided broken.none refl e);
  answer = λ bytes f told read quiet. inl (broken.cause quiet);
  most = most;
  before_fault = fault;
  taken = taken;
}

pub refute_kept : (settings : List Setting) (IsQuiet : Type 0) (words : List (List ℕ)) (rest left before after : Option (List ℕ)) (status : Status)
    → AskForOne → LawfulHasNoTrace → TextLaws → AsksRefutation words (Refute settings)
    → IsAnswered words rest before after status → LosesAtMost 1114112 rest left → IsTakenUpTo 1048576 rest left
    → RefutePromise settings IsQuiet rest left before after status
refute_kept settings IsQuiet words rest left before after status one law laws asks answer most taken = record {
  when_sat = λ e. sat_from one settings asks (subst (IsAnswered words rest before after) e answer);
  when_unsat = λ e. unsat_from one law settings asks (subst (IsAnswered words rest before after) e answer);
  when_undecided = λ e. undecided_from one settings asks (subst (IsAnswered words rest before after) e answer);
  answer = λ bytes f told read quiet. inr (found_from one laws settings bytes f asks told read answer);
  most = most;
  before_fault = λ e. absurd (answer_no_fault answer.answer (sym e ∙ answer.own));
  taken = λ read. taken;
}
