-- `--check`: what VERIFIED and REJECTED mean, and that the program keeps what it promises.
use Rattle.std.proofs.Common.{◌≡◌, ◌∙◌, ℕ, inl, inr, List, Option, Some, IsTrue, refl, sym, ap, subst}
use Rattle.ltl_io.specs.Outside.{Grows}
use Rattle.ltl_syntax.specs.declared.node.Kind.{Kind}
use Rattle.ltl_syntax.specs.Formula.{Formula}
use Rattle.ltl_parser.specs.Text.{IsAccepted}
use Rattle.claims.specs.Certificate.{Certificate}
use Rattle.claims.specs.Lawful.{IsLawful}
use Rattle.claims.specs.Laws.{LawfulHasNoTrace}
use Rattle.claim_check.specs.declared.reason.ClaimVerdict.TheVariants as verdicts
use Rattle.claim_check.specs.declared.reason.CertificateFault.{CertificateFault}
use Rattle.claim_check.specs.Reasons.{IsVerdict}
use Rattle.claim_check.specs.Laws.{VerdictIsOne}
use Rattle.claim_text.specs.Text.{IsTextOf}
use Rattle.claim_text.specs.Laws.{TextsSayOne, TextsHaveNone}
use Rattle.report.specs.declared.status.Status.{Status}
use Rattle.report.specs.declared.status.Status.TheVariants as statuses
use Rattle.report.specs.Status.{has_read}
use Rattle.command_words.specs.Words.{Setting, kind_of}
use Rattle.command_words.specs.Refutation.{Verify, AsksRefutation}
use Rattle.program_input.specs.Parts.{IsCut}
use Rattle.program_input.specs.Reading.{RefusesPart, uncut, unread as refused_part, accepted}
use Rattle.program_input.specs.Claims.{OfParts}
use Rattle.program_input.specs.Taking.{IsTakenWhole}
use Rattle.program_input.proofs.Cutting.{cut_one, cut_or_none}
use Rattle.program_input.proofs.OneText.{TextLaws, refused_not_accepted}
use Rattle.program_input.proofs.TwoParts.{parted}
use Rattle.program_input.proofs.Leaving.{told_left}
use Rattle.refute_top.specs.Texts.{verdict_text}
use Rattle.refute_top.specs.Answer.{Answer, refused, checked, status_of, text_of}
use Rattle.refute_top.specs.Checking.{IsChecked, unread, judged, IsPartedCheck, PrintsVerified, PrintsRejected, PrintsFound, CheckPromise}
use Rattle.refute_top.specs.Run.{IsAnswered}
use Rattle.refute_top.proofs.Asking.{AskForOne, answer_given}
use Rattle.refute_top.proofs.Promising.{IsBroken, broken_not}

checks : {words : List (List ℕ)} {rest before after : Option (List ℕ)} {s : Status} → AskForOne → (settings : List Setting)
    → AsksRefutation words (Verify settings) → (h : IsAnswered words rest before after s)
    → IsPartedCheck (kind_of settings) h.given.bytes h.answer
checks {words} asked_one settings asks h = answer_given asked_one words h.given.bytes (Verify settings) h.answer asks h.given.lawful

-- ---- what each answer means

verified_found : (kind : Kind) (f : Formula) (text : List ℕ) (before after : Option (List ℕ)) (a : Answer) → LawfulHasNoTrace → IsChecked kind f text a
    → statuses.Good ≡ status_of a → Grows (text_of a) before after
    → PrintsVerified kind f text before after
verified_found kind f text before after a law (unread byte h) e g = absurd (cc)
verified_found kind f text before after a law (judged c verdicts.Verified is lawful) e g =
    record { certificate = c; is = is; lawful = lawful; none = λ t trace of. law f kind c lawful t trace of; printed = g }
verified_found kind f text before after a law (judged c (verdicts.Refused reason) is first) e g = absurd (cc)

refused_not_verified : (reason : CertificateFault) → verdicts.Refused reason ≡ verdicts.Verified → ⊥
refused_not_verified reason e = cc

rejected_found : (kind : Kind) (f : Formula) (text : List ℕ) (before after : Option (List ℕ)) (a : Answer) → VerdictIsOne → IsChecked kind f text a
    → statuses.Negative ≡ status_of a → Grows (text_of a) before after
    → PrintsRejected kind f text before after
rejected_found kind f text before after a one (unread byte h) e g = absurd (cc)
rejected_found kind f text before after a one (judged c verdicts.Verified is lawful) e g = absurd (cc)
rejected_found kind f text before after a one (judged c (verdicts.Refused reason) is first) e g = record {
  certificate = c;
  is = is;
  reason = reason;
  first = first;
  unlawful = λ lawful. refused_not_verified reason (one f kind c (verdicts.Refused reason) verdicts.Verified first lawful);
  printed = g;
}

verified_from : {words : List (List ℕ)} {rest before after : Option (List ℕ)} → AskForOne → LawfulHasNoTrace → (settings : List Setting)
    → AsksRefutation words (Verify settings) → IsAnswered words rest before after statuses.Good
    → OfParts rest (λ f text. PrintsVerified (kind_of settings) f text before after)
verified_from {words} {rest} {before} {after} asked_one law settings asks h =
    let (part, second, f, cut, read, is) = parted Answer refused status_of (λ fault. refl) (IsChecked (kind_of settings)) h.given.bytes h.answer statuses.Good
    (checks asked_one settings asks h) refl h.own in
    let printed = verified_found (kind_of settings) f second before after h.answer law is h.own h.printed in
    record { bytes = h.given.bytes; left = h.given.left; part = part; second = second; cut = cut; formula = f; accepted = read; claim = printed }

rejected_from : {words : List (List ℕ)} {rest before after : Option (List ℕ)} → AskForOne → VerdictIsOne → (settings : List Setting)
    → AsksRefutation words (Verify settings) → IsAnswered words rest before after statuses.Negative
    → OfParts rest (λ f text. PrintsRejected (kind_of settings) f text before after)
rejected_from {words} {rest} {before} {after} asked_one one settings asks h =
    let (part, second, f, cut, read, is) = parted Answer refused status_of (λ fault. refl) (IsChecked (kind_of settings))
    h.given.bytes h.answer statuses.Negative (checks asked_one settings asks h) refl h.own in
    let printed = rejected_found (kind_of settings) f second before after h.answer one is h.own h.printed in
    record { bytes = h.given.bytes; left = h.given.left; part = part; second = second; cut = cut; formula = f; accepted = read; claim = printed }

-- ---- an accepted formula and a second part

found_parted : (kind : Kind) (bytes part second : List ℕ) (f : Formula) (before after : Option (List ℕ)) (s : Status) (a : Answer)
    → TextLaws → IsCut bytes part second → IsAccepted part f
    → IsPartedCheck kind bytes a → s ≡ status_of a → Grows (text_of a) before after → PrintsFound kind f second before after s
found_parted kind bytes part second f before after s a laws cut read (uncut none) e g = absurd (cut_or_none bytes part second cut none)
found_parted kind bytes part second f before after s a laws cut read (refused_part part' second' fault cut' refuses) e g =
    let same = cut_one bytes part second part' second' cut cut' in
    absurd (refused_not_accepted part laws fault f (subst (λ p. RefusesPart p fault) (sym same.0) refuses) read)
found_parted kind bytes part second f before after s a laws cut read (accepted part' second' f' answer cut' read' is) e g =
    let same = cut_one bytes part second part' second' cut cut' in
    let read'' = subst (λ p. IsAccepted p f') (sym same.0) read' in
    let tree : f ≡ f' = laws.one_formula part f f' read.reads read''.reads in
    let here : IsChecked kind f second a = subst (λ h. IsChecked kind h second a) (sym tree) (subst (λ text. IsChecked kind f' text a) (sym same.1) is) in
    record { answer = a; is = here; own = e; printed = g }

found_from : {words : List (List ℕ)} {rest before after : Option (List ℕ)} {s : Status}
    → AskForOne → TextLaws → (settings : List Setting) (bytes part second : List ℕ) (f : Formula) → AsksRefutation words (Verify settings) → rest ≡ Some bytes
    → IsCut bytes part second → IsAccepted part f → IsAnswered words rest before after s → PrintsFound (kind_of settings) f second before after s
found_from {words} {rest} {before} {after} {s} asked_one laws settings bytes part second f asks told cut read h =
    let same = told_left rest bytes h.given.bytes told h.given.left in
    found_parted (kind_of settings) h.given.bytes part second f before after s h.answer laws (subst (λ b. IsCut b part second) same cut) read
    (checks asked_one settings asks h) h.own h.printed

-- VERIFIED was printed, with its status
abbrev ShowsVerified : Option (List ℕ) → Option (List ℕ) → Status → Type 0
ShowsVerified before after s = (s ≡ statuses.Good) × Grows (verdict_text verdicts.Verified) before after

-- what the laws say of texts and verdicts
pub record CheckLaws : Type 0 where
  pub one_text : TextsSayOne
  pub no_fault : TextsHaveNone
  pub one_verdict : VerdictIsOne

lawful_judged : (kind : Kind) (f : Formula) (text : List ℕ) (c : Certificate) (before after : Option (List ℕ)) (s : Status) (a : Answer)
    → CheckLaws → IsTextOf text c → IsLawful f kind c → IsChecked kind f text a → s ≡ status_of a → Grows (text_of a) before after
    → ShowsVerified before after s
lawful_judged kind f text c before after s a laws is lawful (unread byte h) e g = absurd (laws.no_fault text c byte is h)
lawful_judged kind f text c before after s a laws is lawful (judged d v is' verdict) e g =
    let same = laws.one_text text d c is' is in
    let here : IsVerdict f kind c v = subst (λ x. IsVerdict f kind x v) same verdict in
    let found : v ≡ verdicts.Verified = laws.one_verdict f kind c v verdicts.Verified here lawful in
    (e ∙ ap (λ w. status_of (checked w)) found, subst (λ w. Grows (text_of (checked w)) before after) found g)

lawful_from : {words : List (List ℕ)} {rest before after : Option (List ℕ)} {s : Status} → AskForOne → CheckLaws → TextLaws
    → (settings : List Setting) (bytes part second : List ℕ) (f : Formula) (c : Certificate) → AsksRefutation words (Verify settings) → rest ≡ Some bytes
    → IsCut bytes part second → IsAccepted part f → IsTextOf second c → IsLawful f (kind_of settings) c → IsAnswered words rest before after s
    → ShowsVerified before after s
lawful_from {words} {rest} {before} {after} {s} asked_one checking laws settings bytes part second f c asks told cut read is lawful h =
    let found = found_from asked_one laws settings bytes part second f asks told cut read h in
    lawful_judged (kind_of settings) f second c before after s found.answer checking is lawful found.is found.own found.printed

-- ---- the promise

pub check_broken : (settings : List Setting) (IsQuiet : Type 0) (rest left before after : Option (List ℕ)) (status : Status) → IsBroken IsQuiet status
    → (IsTrue (has_read status) → IsTakenWhole rest left)
    → CheckPromise settings IsQuiet rest left before after status
check_broken settings IsQuiet rest left before after status broken taken = record {
  when_verified = λ e. absurd (broken_not status statuses.Good broken.none refl e);
  when_rejected = λ e. absurd (broken_not status statuses.Negative broken.none refl e);
  found = λ bytes part second f told cut read quiet. inl (broken.cause quiet);
  verdict = λ bytes part second f c told cut read is lawful quiet. inl (broken.cause quiet);
  taken = taken;
}

pub check_kept : (settings : List Setting) (IsQuiet : Type 0) (words : List (List ℕ)) (rest left before after : Option (List ℕ)) (status : Status)
    → AskForOne → LawfulHasNoTrace → CheckLaws → TextLaws → AsksRefutation words (Verify settings)
    → IsAnswered words rest before after status → IsTakenWhole rest left → CheckPromise settings IsQuiet rest left before after status
check_kept settings IsQuiet words rest left before after status asked_one law checking laws asks answer taken = record {
  when_verified = λ e. verified_from asked_one law settings asks (subst (IsAnswered words rest before after) e answer);
  when_rejected = λ e. rejected_from asked_one checking.one_verdict settings asks (subst (IsAnswered words rest before after) e answer);
  found = λ bytes part second f told cut read quiet. inr (found_from asked_one laws settings bytes part second f asks told cut read answer);
  verdict = λ bytes part second f c told cut read is lawful quiet. inr
      (lawful_from asked_one checking laws settings bytes part second f c asks told cut read is lawful answer);
  taken = λ read. taken;
}
