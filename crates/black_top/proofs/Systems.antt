-- `system`: what its answers mean, and that it keeps what it promises.
use Rattle.std.proofs.Common.{◌≡◌, ◌∙◌, ℕ, ◌≤◌, inl, inr, Bool, true, false, List, length, Option, Some, None, IsTrue, refl, sym, subst, arith}
use Rattle.ltl_io.specs.Outside.{Grows}
use Rattle.ltl_syntax.specs.declared.node.Kind.TheVariants as kinds
use Rattle.ltl_syntax.specs.Formula.{Formula}
use Rattle.ltl_syntax.specs.Print.{text_of as printed}
use Rattle.ltl_parser.specs.Text.{IsPrintable, IsAccepted}
use Rattle.ltl_parser.proofs.Readings.{read_is_printable}
use Rattle.ltl_parser.proofs.Printing.{printed_reads}
use Rattle.ltl_closure.specs.Run.{Undecided}
use Rattle.enc_layout.specs.Limit.{IsInForce}
use Rattle.cert_check.specs.declared.verdict.Verdict.TheVariants as verdicts
use Rattle.system_check.specs.System.{IsSystem, whole_of}
use Rattle.system_check.specs.Joining.{whole_size}
use Rattle.system_check.specs.Answer.{Says}
use Rattle.system_check.proofs.AnswerLaws.{no_path, refuted_holds, fails_on, unknown_low}
use Rattle.report.specs.declared.fault.Fault.TheVariants as faults
use Rattle.report.specs.Texts.{Proof}
use Rattle.command_words.specs.Words.{Setting, System, Asks, depth_of, cert_of}
use Rattle.report.specs.declared.status.Status.{Status}
use Rattle.report.specs.declared.status.Status.TheVariants as statuses
use Rattle.report.specs.Status.{has_read}
use Rattle.program_input.specs.Taking.{IsTakenWhole}
use Rattle.black_top.specs.Answer.{Answer, undecided, paths_hold, checked, status_of, text_of}
use Rattle.black_top.specs.Reading.{IsParted}
use Rattle.black_top.specs.Solve.{number_of, IsReached, AreFewLetters}
use Rattle.black_top.specs.Check.{IsChecked, with_certificate}
use Rattle.black_top.specs.System.{ProvesWhole, IsDecided, pathless, kept, broken, undecided_yet, IsSettled, too_large, no_start, no_step, too_deep, decided}
use Rattle.black_top.specs.System.{IsSystemAnswer, unparted, too_long, faulty, settled, PrintsHolds, PrintsFails, PrintsNoPath, PrintsUndecided, PrintsAnswer}
use Rattle.black_top.specs.System.{AreSystem, OfSystem, SystemPromise}
use Rattle.black_top.specs.Run.{IsAnswered}
use Rattle.program_input.proofs.OneText.{TextLaws}
use Rattle.black_top.proofs.Asking.{command_given}
use Rattle.report.proofs.Statuses.{is_refusal, not_refused}
use Rattle.program_input.proofs.Leaving.{told_left}
use Rattle.black_top.proofs.Promising.{IsBroken, broken_not}
use Rattle.black_top.proofs.Certified.{verified_behind}
use Rattle.black_top.proofs.Solved.{not_deep}
use Rattle.black_top.proofs.ThreeParts.{parts_or_few}
use Rattle.black_top.proofs.OneSystem.{same_bytes, same_fault, same_start, same_step, same_goal, fault_unread}

-- the printed whole formula is accepted, unless it is too long
printed_accepted : (bytes : List ℕ) (f g h : Formula) → AreSystem bytes f g h
    → length (printed (whole_of f g h)) ≤ 1048576 → IsAccepted (printed (whole_of f g h)) (whole_of f g h)
printed_accepted bytes f g h are short =
    let plain : IsPrintable (whole_of f g h) =
    ((read_is_printable are.start f are.start_reads, (tt, read_is_printable are.step g are.step_reads)), (tt, read_is_printable are.goal h are.goal_reads)) in
    record { short = short; reads = printed_reads (whole_of f g h) plain; few = are.few }

-- the certificate that is shown is verified behind it
proof_verified : (cert : Bool) (bytes : List ℕ) (f g h : Formula) (k : ℕ) (proof : Option Proof) → AreSystem bytes f g h
    → ProvesWhole cert (whole_of f g h) k proof → (shown : Proof) → proof ≡ Some shown → length shown.formula ≤ 1048576
    → IsParted (IsChecked kinds.Infinite) (with_certificate shown.formula shown.certificate) (checked verdicts.Verified)
proof_verified false bytes f g h k proof are none shown e short = let no : None ≡ Some shown = sym none ∙ e in absurd (cc)
proof_verified true bytes f g h k proof are (text, is, (c, said, lawful, depth), how) shown e short =
    let same : record { formula = printed (whole_of f g h); certificate = text } ≡ shown =
    some_same (record { formula = printed (whole_of f g h); certificate = text }) shown (sym is ∙ e) in
    subst (λ (p : Proof). IsParted (IsChecked kinds.Infinite) (with_certificate p.formula p.certificate) (checked verdicts.Verified)) same
    (verified_behind kinds.Infinite (whole_of f g h) (printed (whole_of f g h)) text
    (printed_accepted bytes f g h are (subst (λ (p : Proof). length p.formula ≤ 1048576) (sym same) short)) (c, said, lawful))
  where
    some_same : (p q : Proof) → Some p ≡ Some q → p ≡ q
    some_same p q e = cc

-- ---- what each answer says

module _ (wanted : Option ℕ) (cert : Bool) (bytes : List ℕ) (f g h : Formula) (limit : ℕ) (before after : Option (List ℕ)) (are : AreSystem bytes f g h) where
  holds_decided : (a : Answer) → IsDecided f g h limit cert a → statuses.Good ≡ status_of a → Grows (text_of a) before after
      → PrintsHolds cert f g h before after
  holds_decided a (kept k proof unrefuted unsat proves) e grows = record {
    depth = k;
    proof = proof;
    each = λ t path. refuted_holds f g h limit are.forms k t unsat path;
    proves = proves;
    verified = proof_verified cert bytes f g h k proof are proves;
    shows = grows;
  }
  holds_decided a (pathless k unsat) e grows = absurd (cc)
  holds_decided a (broken k t unrefuted sat run reads) e grows = absurd (cc)
  holds_decided a (undecided_yet k unrefuted open_still) e grows = absurd (cc)

  fails_decided : (a : Answer) → IsDecided f g h limit cert a → statuses.Negative ≡ status_of a → Grows (text_of a) before after
      → PrintsFails f g h before after
  fails_decided a (broken k t unrefuted sat run reads) e grows =
      let fails = fails_on f g h limit are.forms k t run in
      record { depth = k; trace = t; path = fails.0; fails = fails.1; reads = reads; shows = grows }
  fails_decided a (pathless k unsat) e grows = absurd (cc)
  fails_decided a (kept k proof unrefuted unsat proves) e grows = absurd (cc)
  fails_decided a (undecided_yet k unrefuted open_still) e grows = absurd (cc)

  pathless_decided : (a : Answer) → IsDecided f g h limit cert a → statuses.Unsat ≡ status_of a → Grows (text_of a) before after → PrintsNoPath f g before after
  pathless_decided a (pathless k unsat) e grows = record { depth = k; none = λ t. no_path f g h limit are.forms k t unsat; shows = grows }
  pathless_decided a (kept k proof unrefuted unsat proves) e grows = absurd (cc)
  pathless_decided a (broken k t unrefuted sat run reads) e grows = absurd (cc)
  pathless_decided a (undecided_yet k unrefuted open_still) e grows = absurd (cc)

  undecided_decided : (a : Answer) → IsInForce (whole_of f g h) kinds.Infinite (number_of wanted) limit → IsDecided f g h limit cert a
      → statuses.Undecided ≡ status_of a → Grows (text_of a) before after → PrintsUndecided wanted f g h before after
  undecided_decided a force (undecided_yet k unrefuted open_still) e grows =
      let low = unknown_low f g h limit k (unrefuted, open_still) in
      record {
        limit = limit;
        in_force = force;
        unrefuted = unrefuted;
        verdict = subst (λ d. Says (whole_of f g h) limit (Undecided d)) low.0 open_still;
        below_bound = low.1;
        shows = subst (λ d. Grows (text_of (undecided d)) before after) low.0 grows;
      }
  undecided_decided a force (pathless k unsat) e grows = absurd (cc)
  undecided_decided a force (kept k proof unrefuted unsat proves) e grows = absurd (cc)
  undecided_decided a force (broken k t unrefuted sat run reads) e grows = absurd (cc)

-- ---- an answer that is no refusal

-- it is that at the limit in force
pub record IsOfLimit (wanted : Option ℕ) (cert : Bool) (bytes : List ℕ) (a : Answer) : Type 0 where
  pub f : Formula
  pub g : Formula
  pub h : Formula
  pub are : AreSystem bytes f g h
  pub limit : ℕ
  pub in_force : IsInForce (whole_of f g h) kinds.Infinite (number_of wanted) limit
  pub reached : IsReached wanted limit
  pub decided_there : IsDecided f g h limit cert a

of_settled : (wanted : Option ℕ) (cert : Bool) (bytes start step goal : List ℕ) (f g h : Formula) (s : Status) (a : Answer) → is_refusal s ≡ false
    → (whole_size f g h ≤ 16384 → IsSystem f g → AreSystem bytes f g h) → IsSettled wanted cert f g h a → s ≡ status_of a → IsOfLimit wanted cert bytes a
of_settled wanted cert bytes start step goal f g h s a not are (too_large large) e = absurd (not_refused s (faults.Nodes (whole_size f g h)) not e)
of_settled wanted cert bytes start step goal f g h s a not are (no_start few none) e = absurd (not_refused s faults.SystemStart not e)
of_settled wanted cert bytes start step goal f g h s a not are (no_step few is none) e = absurd (not_refused s faults.SystemStep not e)
of_settled wanted cert bytes start step goal f g h s a not are (too_deep n limit few is same force less) e = absurd (not_refused s (faults.Letters limit) not e)
of_settled wanted cert bytes start step goal f g h s a not are (decided limit answer few is force reached there) e =
    record { f = f; g = g; h = h; are = are few is; limit = limit; in_force = force; reached = reached; decided_there = there }

of_limit : (wanted : Option ℕ) (cert : Bool) (bytes : List ℕ) (s : Status) (a : Answer) → is_refusal s ≡ false → IsSystemAnswer wanted cert bytes a
    → s ≡ status_of a → IsOfLimit wanted cert bytes a
of_limit wanted cert bytes s a not (unparted none) e = absurd (not_refused s faults.NoSeparator not e)
of_limit wanted cert bytes s a not (too_long start step goal parts long) e = absurd (not_refused s faults.Text not e)
of_limit wanted cert bytes s a not (faulty start step goal fault parts short h) e = absurd (not_refused s fault not e)
of_limit wanted cert bytes s a not (settled start step goal f g h answer parts short r r' r'' there) e =
    of_settled wanted cert bytes start step goal f g h s a not
    (λ few is.
    record { start = start; step = step; goal = goal; parts = parts; short = short; start_reads = r; step_reads = r'; goal_reads = r''; few = few; forms = is })
    there e

systems : {words : List (List ℕ)} {rest before after : Option (List ℕ)} {s : Status} (settings : List Setting) → Asks words (System settings)
    → (a : IsAnswered words rest before after s) → IsSystemAnswer (depth_of settings) (cert_of settings) a.given.bytes a.answer
systems {words} settings asks a = command_given words a.given.bytes (System settings) a.answer asks a.given.lawful

-- what is printed with HOLDS
decided_verifies : (cert : Bool) (bytes : List ℕ) (f g h : Formula) (limit k : ℕ) (shown : Proof) (a : Answer) → AreSystem bytes f g h
    → IsDecided f g h limit cert a → a ≡ paths_hold k (Some shown) → length shown.formula ≤ 1048576
    → IsParted (IsChecked kinds.Infinite) (with_certificate shown.formula shown.certificate) (checked verdicts.Verified)
decided_verifies cert bytes f g h limit k shown a are (kept j proof unrefuted unsat proves) e short =
    proof_verified cert bytes f g h j proof are proves shown (same_proof j k proof shown e) short
  where
    same_proof : (j k : ℕ) (proof : Option Proof) (shown : Proof) → paths_hold j proof ≡ paths_hold k (Some shown) → proof ≡ Some shown
    same_proof j k proof shown e = cc
decided_verifies cert bytes f g h limit k shown a are (pathless j unsat) e short = absurd (cc)
decided_verifies cert bytes f g h limit k shown a are (broken j t unrefuted sat run reads) e short = absurd (cc)
decided_verifies cert bytes f g h limit k shown a are (undecided_yet j unrefuted open_still) e short = absurd (cc)

pub printed_system_verifies : (wanted : Option ℕ) (cert : Bool) (bytes : List ℕ) (k : ℕ) (shown : Proof)
    → IsSystemAnswer wanted cert bytes (paths_hold k (Some shown)) → length shown.formula ≤ 1048576
    → IsParted (IsChecked kinds.Infinite) (with_certificate shown.formula shown.certificate) (checked verdicts.Verified)
printed_system_verifies wanted cert bytes k shown is short =
    let w = of_limit wanted cert bytes statuses.Good (paths_hold k (Some shown)) refl is refl in
    decided_verifies cert bytes w.f w.g w.h w.limit k shown (paths_hold k (Some shown)) w.are w.decided_there refl short

holds_from : {words : List (List ℕ)} {rest before after : Option (List ℕ)} → (settings : List Setting) → Asks words (System settings)
    → IsAnswered words rest before after statuses.Good → OfSystem rest (λ f g h. PrintsHolds (cert_of settings) f g h before after)
holds_from {words} {rest} {before} {after} settings asks a =
    let w = of_limit (depth_of settings) (cert_of settings) a.given.bytes statuses.Good a.answer refl (systems settings asks a) a.own in (
      a.given.bytes,
      a.given.left,
      w.f,
      w.g,
      w.h,
      w.are,
      holds_decided (depth_of settings) (cert_of settings) a.given.bytes w.f w.g w.h w.limit before after w.are a.answer w.decided_there a.own a.printed,
    )

fails_from : {words : List (List ℕ)} {rest before after : Option (List ℕ)} → (settings : List Setting) → Asks words (System settings)
    → IsAnswered words rest before after statuses.Negative → OfSystem rest (λ f g h. PrintsFails f g h before after)
fails_from {words} {rest} {before} {after} settings asks a =
    let w = of_limit (depth_of settings) (cert_of settings) a.given.bytes statuses.Negative a.answer refl (systems settings asks a) a.own in (
      a.given.bytes,
      a.given.left,
      w.f,
      w.g,
      w.h,
      w.are,
      fails_decided (depth_of settings) (cert_of settings) a.given.bytes w.f w.g w.h w.limit before after w.are a.answer w.decided_there a.own a.printed,
    )

pathless_from : {words : List (List ℕ)} {rest before after : Option (List ℕ)} → (settings : List Setting) → Asks words (System settings)
    → IsAnswered words rest before after statuses.Unsat → OfSystem rest (λ f g h. PrintsNoPath f g before after)
pathless_from {words} {rest} {before} {after} settings asks a =
    let w = of_limit (depth_of settings) (cert_of settings) a.given.bytes statuses.Unsat a.answer refl (systems settings asks a) a.own in (
      a.given.bytes,
      a.given.left,
      w.f,
      w.g,
      w.h,
      w.are,
      pathless_decided (depth_of settings) (cert_of settings) a.given.bytes w.f w.g w.h w.limit before after w.are a.answer w.decided_there a.own a.printed,
    )

undecided_from : {words : List (List ℕ)} {rest before after : Option (List ℕ)} → (settings : List Setting) → Asks words (System settings)
    → IsAnswered words rest before after statuses.Undecided
    → OfSystem rest (λ f g h. PrintsUndecided (depth_of settings) f g h before after)
undecided_from {words} {rest} {before} {after} settings asks a =
    let w = of_limit (depth_of settings) (cert_of settings) a.given.bytes statuses.Undecided a.answer refl (systems settings asks a) a.own in (
      a.given.bytes,
      a.given.left,
      w.f,
      w.g,
      w.h,
      w.are,
      undecided_decided (depth_of settings) (cert_of settings)
          a.given.bytes w.f w.g w.h w.limit before after w.are a.answer w.in_force w.decided_there a.own a.printed,
    )

-- ---- the answer on a system whose letters are few

settled_few : (wanted : Option ℕ) (cert : Bool) (bytes : List ℕ) (f g h : Formula) (before after : Option (List ℕ)) (s : Status) (a : Answer)
    → AreSystem bytes f g h → AreFewLetters kinds.Infinite wanted (whole_of f g h)
    → IsSettled wanted cert f g h a → s ≡ status_of a → Grows (text_of a) before after → PrintsAnswer wanted cert f g h before after s
settled_few wanted cert bytes f g h before after s a are few (too_large large) e grows = let small = are.few in absurd (omega (arith, small, large))
settled_few wanted cert bytes f g h before after s a are few (no_start m none) e grows = absurd (none are.forms.start_form)
settled_few wanted cert bytes f g h before after s a are few (no_step m is none) e grows = absurd (none are.forms.step_form)
settled_few wanted cert bytes f g h before after s a are few (too_deep n limit m is same force less) e grows =
    absurd (not_deep kinds.Infinite wanted (whole_of f g h) n limit same force less few)
settled_few wanted cert bytes f g h before after s a are few (decided limit answer m is force reached there) e grows =
    record { limit = limit; in_force = force; reached = reached; answer = a; decided = there; own = e; shows = grows }

answer_few : (wanted : Option ℕ) (cert : Bool) (bytes : List ℕ) (f g h : Formula) (before after : Option (List ℕ)) (s : Status) (a : Answer)
    → TextLaws → AreSystem bytes f g h → AreFewLetters kinds.Infinite wanted (whole_of f g h)
    → IsSystemAnswer wanted cert bytes a → s ≡ status_of a → Grows (text_of a) before after → PrintsAnswer wanted cert f g h before after s
answer_few wanted cert bytes f g h before after s a laws are few (unparted none) e grows =
    absurd (parts_or_few bytes are.start are.step are.goal are.parts none)
answer_few wanted cert bytes f g h before after s a laws are few (too_long start step goal parts long) e grows =
    let same = same_bytes laws bytes are.start are.step are.goal start step goal are.parts parts in
    let short = are.short in
    absurd (omega (arith, same, short, long))
answer_few wanted cert bytes f g h before after s a laws are few (faulty start step goal fault parts short there) e grows =
    absurd (fault_unread laws bytes are.parts.behind are.start are.step are.goal fault f g h
    (same_fault laws bytes are.start are.step are.goal start step goal are.parts parts fault there) are.start_reads are.step_reads are.goal_reads)
answer_few wanted cert bytes f g h before after s a laws are few (settled start step goal i j k answer parts short r r' r'' there) e grows =
    let start_same = laws.one_formula are.start i f (same_start laws bytes are.start are.step are.goal start step goal are.parts parts i r) are.start_reads in
    let step_same = laws.one_formula are.step j g (same_step laws bytes are.start are.step are.goal start step goal are.parts parts j r') are.step_reads in
    let goal_same = laws.one_formula are.goal k h (same_goal laws bytes are.start are.step are.goal start step goal are.parts parts k r'') are.goal_reads in
    settled_few wanted cert bytes f g h before after s a are few
    (subst (λ z. IsSettled wanted cert z g h a) start_same
    (subst (λ z. IsSettled wanted cert i z h a) step_same (subst (λ z. IsSettled wanted cert i j z a) goal_same there))) e grows

answer_from : {words : List (List ℕ)} {rest before after : Option (List ℕ)} {s : Status}
    → TextLaws → (settings : List Setting) (bytes : List ℕ) (f g h : Formula) → Asks words (System settings) → rest ≡ Some bytes → AreSystem bytes f g h
    → AreFewLetters kinds.Infinite (depth_of settings) (whole_of f g h) → IsAnswered words rest before after s
    → PrintsAnswer (depth_of settings) (cert_of settings) f g h before after s
answer_from {words} {rest} {before} {after} {s} laws settings bytes f g h asks told are few a =
    let same = told_left rest bytes a.given.bytes told a.given.left in
    answer_few (depth_of settings) (cert_of settings) a.given.bytes f g h before after s a.answer laws (subst (λ b. AreSystem b f g h) same are) few
    (systems settings asks a) a.own a.printed

-- ---- the promise

pub system_broken : (settings : List Setting) (IsQuiet : Type 0) (rest left before after : Option (List ℕ)) (status : Status) → IsBroken IsQuiet status
    → (IsTrue (has_read status) → IsTakenWhole rest left)
    → SystemPromise settings IsQuiet rest left before after status
system_broken settings IsQuiet rest left before after status stopped taken = record {
  when_holds = λ e. absurd (broken_not status statuses.Good stopped.none refl e);
  when_fails = λ e. absurd (broken_not status statuses.Negative stopped.none refl e);
  when_no_path = λ e. absurd (broken_not status statuses.Unsat stopped.none refl e);
  when_undecided = λ e. absurd (broken_not status statuses.Undecided stopped.none refl e);
  verdict = λ bytes f g h told are few quiet. inl (stopped.cause quiet);
  taken = taken;
}

pub system_kept : (settings : List Setting) (IsQuiet : Type 0) (words : List (List ℕ)) (rest left before after : Option (List ℕ)) (status : Status)
    → TextLaws → Asks words (System settings) → IsAnswered words rest before after status
    → IsTakenWhole rest left → SystemPromise settings IsQuiet rest left before after status
system_kept settings IsQuiet words rest left before after status laws asks answer taken = record {
  when_holds = λ e. holds_from settings asks (subst (IsAnswered words rest before after) e answer);
  when_fails = λ e. fails_from settings asks (subst (IsAnswered words rest before after) e answer);
  when_no_path = λ e. pathless_from settings asks (subst (IsAnswered words rest before after) e answer);
  when_undecided = λ e. undecided_from settings asks (subst (IsAnswered words rest before after) e answer);
  verdict = λ bytes f g h told are few quiet. inr (answer_from laws settings bytes f g h asks told are few answer);
  taken = λ read. taken;
}
