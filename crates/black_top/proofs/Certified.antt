-- The certificate that `solve` prints is verified by `check` behind the text of its formula.
use Rattle.std.proofs.Common.{◌≡◌, ℕ, ◌≤◌, ◌++◌, Bool, true, false, List, Option, Some, None, Result, Ok, Err, OnOk, is_some, refl, sym, ap, subst, ◌∙◌}
use Rattle.std.proofs.lemmas.List.{append-nil}
use Rattle.ltl_syntax.specs.declared.node.Kind.{Kind}
use Rattle.ltl_syntax.specs.Formula.{Formula}
use Rattle.ltl_parser.specs.Text.{IsAccepted}
use Rattle.ltl_closure.specs.Run.{IsVerdict, no_run, all_pruned, Unsat}
use Rattle.cert_check.specs.declared.verdict.Verdict.TheVariants as verdicts
use Rattle.cert_check.specs.Answer.{Verified}
use Rattle.cert_check.specs.Lawful.{CertOk, IsLawfulAt}
use Rattle.black_top.specs.Answer.{Answer, unsat, checked}
use Rattle.black_top.specs.Reading.{IsParted}
use Rattle.program_input.specs.Reading.{accepted}
use Rattle.black_top.specs.Solve.{number_of, IsWritten, Certifies, IsDecided, satisfiable, unsatisfiable, undecided_yet, IsSettled, too_deep, decided, IsSolved}
use Rattle.black_top.specs.Solve.{unreadable, settled}
use Rattle.black_top.specs.Check.{IsChecked, with_certificate, IsVerified}
use Rattle.black_top.specs.Inner.{AddsCertificate, AddsShown}
use Rattle.program_input.proofs.Unseparated.{joined_cut}

pub verified_behind : (kind : Kind) (f : Formula) (part text : List ℕ) → IsAccepted part f → CertOk f kind text
    → IsParted (IsChecked kind) (with_certificate part text) (checked verdicts.Verified)
verified_behind kind f part text read ok =
    accepted part text f (checked verdicts.Verified) (joined_cut part text read.reads.tokens read.reads.lexed) read
    (record { found = Verified; is = ok; shown = refl })

pub certificate_verified : (cert : Bool) (f : Formula) (kind : Kind) (k : ℕ) (part : List ℕ) (certificate : Option (List ℕ)) → IsAccepted part f
    → Certifies cert f kind k certificate → IsVerified kind part certificate
certificate_verified false f kind k part certificate read none = subst (IsVerified kind part) (sym none) tt
certificate_verified true f kind k part certificate read (text, is, (c, said, lawful, depth), how) =
    subst (IsVerified kind part) (sym is) (verified_behind kind f part text read (c, said, lawful))

-- the depth of UNSAT is not above the limit
pub unsat_shallow : (f : Formula) (kind : Kind) (limit k : ℕ) → IsVerdict f kind limit (Unsat k) → k ≤ limit
unsat_shallow f kind limit k (no_run low before none) = low
unsat_shallow f kind limit k (all_pruned low before none pruned) = low

-- where no certificate is asked for, none is added
pub uncertified : (cert : Bool) (f : Formula) (kind : Kind) (k : ℕ) (old : List ℕ) → cert ≡ false → AddsShown cert f kind k old old
uncertified cert f kind k old e = record { shown = None; certifies = subst (λ b. Certifies b f kind k None) (sym e) refl; added = sym (append-nil old) }

-- where one is asked for, one that is added is shown
pub certified : {A E : Type 0} (cert : Bool) (f : Formula) (kind : Kind) (k : ℕ) (r : Result A E) (old new : List ℕ)
    → cert ≡ true → OnOk r (AddsCertificate f kind k old new) → OnOk r (AddsShown cert f kind k old new)
certified cert f kind k (Ok x) old new e adds =
    record {
      shown = Some adds.text;
      certifies = subst (λ b. Certifies b f kind k (Some adds.text)) (sym e) (adds.text, refl, adds.lawful, adds.written);
      added = adds.added;
    }
certified cert f kind k (Err x) old new e h = tt

-- a lawful text that is written of a log is added
pub added_so : {A E : Type 0} (f : Formula) (kind : Kind) (k : ℕ) (r : Result A E) (old new text : List ℕ) → IsLawfulAt f kind k text → IsWritten f kind k text
    → OnOk r (new ≡ old ++ text) → OnOk r (AddsCertificate f kind k old new)
added_so f kind k (Ok x) old new text lawful said e = record { text = text; lawful = lawful; written = said; added = e }
added_so f kind k (Err x) old new text lawful said h = tt

-- two certificates are both shown, or neither
pub both_certified : (cert : Bool) (f : Formula) (kind : Kind) (j k : ℕ) (a b : Option (List ℕ)) → Certifies cert f kind j a → Certifies cert f kind k b
    → is_some a ≡ is_some b
both_certified false f kind j k a b none none' = ap is_some none ∙ sym (ap is_some none')
both_certified true f kind j k a b (text, is, lawful, how) (text', is', lawful', how') = ap is_some is ∙ sym (ap is_some is')

-- an answer that is UNSAT with a certificate
same_certificate : (j k : ℕ) (core other one : Option (List ℕ)) (text : List ℕ) → unsat j core one ≡ unsat k other (Some text) → one ≡ Some text
same_certificate j k core other one text e = cc

decided_verifies : (f : Formula) (kind : Kind) (asked limit : ℕ) (core cert : Bool) (part : List ℕ) (depth : ℕ) (shown : Option (List ℕ)) (text : List ℕ)
    (a : Answer) → IsAccepted part f → IsDecided f kind asked limit core cert a → a ≡ unsat depth shown (Some text)
    → IsVerified kind part (Some text)
decided_verifies f kind asked limit core cert part depth shown text a read (unsatisfiable k conflict certificate h is certifies) e =
    subst (IsVerified kind part) (same_certificate k depth conflict shown certificate text e)
    (certificate_verified cert f kind k part certificate read certifies)
decided_verifies f kind asked limit core cert part depth shown text a read (satisfiable k t h r b) e = absurd (cc)
decided_verifies f kind asked limit core cert part depth shown text a read (undecided_yet k h) e = absurd (cc)

settled_verifies : (kind : Kind) (wanted : Option ℕ) (core cert : Bool) (f : Formula) (part : List ℕ) (depth : ℕ) (shown : Option (List ℕ)) (text : List ℕ)
    (a : Answer) → IsAccepted part f → IsSettled kind wanted core cert f a → a ≡ unsat depth shown (Some text)
    → IsVerified kind part (Some text)
settled_verifies kind wanted core cert f part depth shown text a read (decided limit answer force reached h) e =
    decided_verifies f kind (number_of wanted) limit core cert part depth shown text a read h e
settled_verifies kind wanted core cert f part depth shown text a read (too_deep n limit is force less) e = absurd (cc)

pub printed_verifies : (kind : Kind) (wanted : Option ℕ) (core cert : Bool) (part : List ℕ) (depth : ℕ) (shown : Option (List ℕ)) (text : List ℕ) (a : Answer)
    → IsSolved kind wanted core cert part a → a ≡ unsat depth shown (Some text)
    → IsVerified kind part (Some text)
printed_verifies kind wanted core cert part depth shown text a (settled f answer read h) e =
    settled_verifies kind wanted core cert f part depth shown text a read h e
printed_verifies kind wanted core cert part depth shown text a (unreadable fault h) e = absurd (cc)
