-- `check`: its answer is one, what VERIFIED and REJECTED mean, and that it keeps what it promises.
use Rattle.std.proofs.Common.{◌≡◌, ◌∙◌, ℕ, inl, inr, List, Option, Some, IsTrue, refl, sym, ap, subst}
use Rattle.ltl_io.specs.Outside.{Grows}
use Rattle.ltl_syntax.specs.declared.node.Kind.{Kind}
use Rattle.ltl_syntax.specs.Formula.{Formula}
use Rattle.ltl_parser.specs.Text.{IsAccepted}
use Rattle.cert_check.specs.declared.verdict.Verdict.TheVariants as verdicts
use Rattle.cert_check.specs.declared.verdict.Reason.TheVariants as reasons
use Rattle.cert_check.specs.Answer.{Answer as CheckAnswer, IsAnswer, FormFault, OtherKind, TooManyLetters, BadLine, BadTarget, Verified, AnswersAreOne}
use Rattle.cert_check.specs.Lawful.{CertOk, LawfulHasNoTrace}
use Rattle.report.specs.Texts.{checked_text}
use Rattle.command_words.specs.Words.{Setting, Check, Asks, kind_of}
use Rattle.report.specs.declared.status.Status.{Status}
use Rattle.report.specs.declared.status.Status.TheVariants as statuses
use Rattle.report.specs.Status.{has_read}
use Rattle.program_input.specs.Parts.{IsCut}
use Rattle.program_input.specs.Taking.{IsTakenWhole}
use Rattle.program_input.specs.Claims.{OfParts}
use Rattle.black_top.specs.Answer.{Answer, status_of, text_of}
use Rattle.program_input.specs.Reading.{RefusesPart, uncut, unread, accepted}
use Rattle.black_top.specs.Reading.{IsParted}
use Rattle.black_top.specs.Check.{IsChecked, shown_of, PrintsVerified, PrintsRejected, PrintsFound, CheckPromise}
use Rattle.black_top.specs.Run.{IsAnswered}
use Rattle.program_input.proofs.Cutting.{cut_one, cut_or_none}
use Rattle.program_input.proofs.OneText.{TextLaws, refused_not_accepted}
use Rattle.black_top.proofs.Asking.{command_given}
use Rattle.black_top.proofs.Parted.{HasOne, parted}
use Rattle.program_input.proofs.Leaving.{told_left}
use Rattle.black_top.proofs.Promising.{IsBroken, broken_not}

-- what is found of a certificate is one
pub one_check : (kind : Kind) → AnswersAreOne → HasOne (IsChecked kind)
one_check kind one f text a b h k = h.shown ∙ ap shown_of (one f kind text h.found k.found h.is k.is) ∙ sym k.shown

checks : {words : List (List ℕ)} {rest before after : Option (List ℕ)} {s : Status} (settings : List Setting) → Asks words (Check settings)
    → (h : IsAnswered words rest before after s)
    → IsParted (IsChecked (kind_of settings)) h.given.bytes h.answer
checks {words} settings asks h = command_given words h.given.bytes (Check settings) h.answer asks h.given.lawful

found_verified : (kind : Kind) (f : Formula) (text : List ℕ) (before after : Option (List ℕ)) → LawfulHasNoTrace → (found : CheckAnswer)
    → IsAnswer f kind text found → statuses.Good ≡ status_of (shown_of found)
    → Grows (text_of (shown_of found)) before after → PrintsVerified kind f text before after
found_verified kind f text before after no_trace Verified is e g = record { lawful = is; none = λ t trace of. no_trace f kind text t is trace of; printed = g }
found_verified kind f text before after no_trace other is e g = absurd (cc)

-- what is found is one, so what is rejected is not lawful
other_kind : OtherKind ≡ Verified → ⊥
other_kind e = cc

bad_line : (n : ℕ) → BadLine n ≡ Verified → ⊥
bad_line n e = cc

bad_target : (n : ℕ) → BadTarget n ≡ Verified → ⊥
bad_target n e = cc

found_rejected : (kind : Kind) (f : Formula) (text : List ℕ) (before after : Option (List ℕ)) → AnswersAreOne → (found : CheckAnswer)
    → IsAnswer f kind text found → statuses.Negative ≡ status_of (shown_of found)
    → Grows (text_of (shown_of found)) before after → PrintsRejected kind f text before after
found_rejected kind f text before after one OtherKind is e g =
    record { reason = reasons.Kind; first = is; unlawful = λ ok. other_kind (one f kind text OtherKind Verified is ok); printed = g }
found_rejected kind f text before after one (BadLine n) is e g =
    record { reason = reasons.Line n; first = is; unlawful = λ ok. bad_line n (one f kind text (BadLine n) Verified is ok); printed = g }
found_rejected kind f text before after one (BadTarget n) is e g =
    record { reason = reasons.Target n; first = is; unlawful = λ ok. bad_target n (one f kind text (BadTarget n) Verified is ok); printed = g }
found_rejected kind f text before after one (FormFault byte) is e g = absurd (cc)
found_rejected kind f text before after one (TooManyLetters depth) is e g = absurd (cc)
found_rejected kind f text before after one Verified is e g = absurd (cc)

verified_from : {words : List (List ℕ)} {rest before after : Option (List ℕ)} → LawfulHasNoTrace → (settings : List Setting) → Asks words (Check settings)
    → IsAnswered words rest before after statuses.Good
    → OfParts rest (λ f text. PrintsVerified (kind_of settings) f text before after)
verified_from {words} {rest} {before} {after} no_trace settings asks h =
    let (part, second, f, cut, read, is) = parted (IsChecked (kind_of settings)) h.given.bytes h.answer statuses.Good (checks settings asks h) refl h.own in
    let printed = found_verified (kind_of settings) f second before after no_trace is.found is.is (h.own ∙ ap status_of is.shown)
    (subst (λ a. Grows (text_of a) before after) is.shown h.printed) in
    record { bytes = h.given.bytes; left = h.given.left; part = part; second = second; cut = cut; formula = f; accepted = read; claim = printed }

rejected_from : {words : List (List ℕ)} {rest before after : Option (List ℕ)} → AnswersAreOne → (settings : List Setting) → Asks words (Check settings)
    → IsAnswered words rest before after statuses.Negative
    → OfParts rest (λ f text. PrintsRejected (kind_of settings) f text before after)
rejected_from {words} {rest} {before} {after} one settings asks h =
    let (part, second, f, cut, read, is) = parted (IsChecked (kind_of settings)) h.given.bytes h.answer statuses.Negative (checks settings asks h) refl h.own in
    let printed = found_rejected (kind_of settings) f second before after one is.found is.is (h.own ∙ ap status_of is.shown)
    (subst (λ a. Grows (text_of a) before after) is.shown h.printed) in
    record { bytes = h.given.bytes; left = h.given.left; part = part; second = second; cut = cut; formula = f; accepted = read; claim = printed }

-- VERIFIED was printed, with its status
abbrev ShowsVerified : Option (List ℕ) → Option (List ℕ) → Status → Type 0
ShowsVerified before after s = (s ≡ statuses.Good) × Grows (checked_text verdicts.Verified) before after

-- the answer to a lawful certificate of an accepted formula
lawful_parted : (kind : Kind) (bytes part second : List ℕ) (f : Formula) (before after : Option (List ℕ)) (s : Status) (a : Answer)
    → AnswersAreOne → TextLaws → IsCut bytes part second → IsAccepted part f
    → CertOk f kind second → IsParted (IsChecked kind) bytes a → s ≡ status_of a → Grows (text_of a) before after → ShowsVerified before after s
lawful_parted kind bytes part second f before after s a one laws cut read ok (uncut none) e g = absurd (cut_or_none bytes part second cut none)
lawful_parted kind bytes part second f before after s a one laws cut read ok (unread part' second' fault cut' refuses) e g =
    let same = cut_one bytes part second part' second' cut cut' in
    absurd (refused_not_accepted part laws fault f (subst (λ p. RefusesPart p fault) (sym same.0) refuses) read)
lawful_parted kind bytes part second f before after s a one laws cut read ok (accepted part' second' f' answer cut' read' is) e g =
    let same = cut_one bytes part second part' second' cut cut' in
    let read'' = subst (λ p. IsAccepted p f') (sym same.0) read' in
    let tree : f ≡ f' = laws.one_formula part f f' read.reads read''.reads in
    let ok' : CertOk f' kind second' = subst (λ h. CertOk h kind second') tree (subst (CertOk f kind) same.1 ok) in
    let found = one f' kind second' is.found Verified is.is ok' in
    let shown = is.shown ∙ ap shown_of found in
    (e ∙ ap status_of shown, subst (λ b. Grows (text_of b) before after) shown g)

lawful_from : {words : List (List ℕ)} {rest before after : Option (List ℕ)} {s : Status}
    → AnswersAreOne → TextLaws → (settings : List Setting) (bytes part second : List ℕ) (f : Formula) → Asks words (Check settings) → rest ≡ Some bytes
    → IsCut bytes part second → IsAccepted part f → CertOk f (kind_of settings) second → IsAnswered words rest before after s → ShowsVerified before after s
lawful_from {words} {rest} {before} {after} {s} one laws settings bytes part second f asks told cut read ok h =
    let same = told_left rest bytes h.given.bytes told h.given.left in
    lawful_parted (kind_of settings) h.given.bytes part second f before after s h.answer one laws (subst (λ b. IsCut b part second) same cut) read ok
    (checks settings asks h) h.own h.printed

-- what is found of the certificate behind an accepted formula
found_parted : (kind : Kind) (bytes part second : List ℕ) (f : Formula) (before after : Option (List ℕ)) (s : Status) (a : Answer)
    → TextLaws → IsCut bytes part second → IsAccepted part f
    → IsParted (IsChecked kind) bytes a → s ≡ status_of a → Grows (text_of a) before after → PrintsFound kind f second before after s
found_parted kind bytes part second f before after s a laws cut read (uncut none) e g = absurd (cut_or_none bytes part second cut none)
found_parted kind bytes part second f before after s a laws cut read (unread part' second' fault cut' refuses) e g =
    let same = cut_one bytes part second part' second' cut cut' in
    absurd (refused_not_accepted part laws fault f (subst (λ p. RefusesPart p fault) (sym same.0) refuses) read)
found_parted kind bytes part second f before after s a laws cut read (accepted part' second' f' answer cut' read' is) e g =
    let same = cut_one bytes part second part' second' cut cut' in
    let read'' = subst (λ p. IsAccepted p f') (sym same.0) read' in
    let tree : f ≡ f' = laws.one_formula part f f' read.reads read''.reads in
    let here : IsAnswer f kind second is.found =
    subst (λ h. IsAnswer h kind second is.found) (sym tree) (subst (λ text. IsAnswer f' kind text is.found) (sym same.1) is.is) in
    record { found = is.found; is = here; own = e ∙ ap status_of is.shown; printed = subst (λ b. Grows (text_of b) before after) is.shown g }

found_from : {words : List (List ℕ)} {rest before after : Option (List ℕ)} {s : Status}
    → TextLaws → (settings : List Setting) (bytes part second : List ℕ) (f : Formula) → Asks words (Check settings) → rest ≡ Some bytes
    → IsCut bytes part second → IsAccepted part f → IsAnswered words rest before after s → PrintsFound (kind_of settings) f second before after s
found_from {words} {rest} {before} {after} {s} laws settings bytes part second f asks told cut read h =
    let same = told_left rest bytes h.given.bytes told h.given.left in
    found_parted (kind_of settings) h.given.bytes part second f before after s h.answer laws (subst (λ b. IsCut b part second) same cut) read
    (checks settings asks h) h.own h.printed

-- ---- the promise

pub check_broken : (settings : List Setting) (IsQuiet : Type 0) (rest left before after : Option (List ℕ)) (status : Status) → IsBroken IsQuiet status
    → (IsTrue (has_read status) → IsTakenWhole rest left)
    → CheckPromise settings IsQuiet rest left before after status
check_broken settings IsQuiet rest left before after status broken taken = record {
  when_verified = λ e. absurd (broken_not status statuses.Good broken.none refl e);
  when_rejected = λ e. absurd (broken_not status statuses.Negative broken.none refl e);
  found = λ bytes part second f told cut read quiet. inl (broken.cause quiet);
  verdict = λ bytes part second f told cut read ok quiet. inl (broken.cause quiet);
  taken = taken;
}

pub check_kept : (settings : List Setting) (IsQuiet : Type 0) (words : List (List ℕ)) (rest left before after : Option (List ℕ)) (status : Status)
    → LawfulHasNoTrace → AnswersAreOne → TextLaws → Asks words (Check settings)
    → IsAnswered words rest before after status → IsTakenWhole rest left → CheckPromise settings IsQuiet rest left before after status
check_kept settings IsQuiet words rest left before after status no_trace one laws asks answer taken = record {
  when_verified = λ e. verified_from no_trace settings asks (subst (IsAnswered words rest before after) e answer);
  when_rejected = λ e. rejected_from one settings asks (subst (IsAnswered words rest before after) e answer);
  found = λ bytes part second f told cut read quiet. inr (found_from laws settings bytes part second f asks told cut read answer);
  verdict = λ bytes part second f told cut read ok quiet. inr (lawful_from one laws settings bytes part second f asks told cut read ok answer);
  taken = λ read. taken;
}
