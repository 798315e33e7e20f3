-- What a check of a certificate answers.
use Rattle.std.specs.Prelude.{◌≡◌, ◌≢◌, ℕ, suc, ◌+◌, List, Option, Some, None}
use Rattle.ltl_syntax.specs.declared.node.Kind.{Kind}
use Rattle.ltl_syntax.specs.Formula.{Formula}
use Rattle.ltl_word.specs.declared.trace.Trace.{Trace}
use Rattle.ltl_word.specs.Trace.{IsTrace, IsOfKind}
use Rattle.ltl_word.specs.Holds.{Satisfies}
use Rattle.enc_layout.specs.Letters.{letters_through, Fits}
use Rattle.enc_layout.specs.Clauses.{counts, clause_list}
use Rattle.cert_text.specs.Text.{Certificate, IsTextOf, IsFormFault}
use Rattle.log_checker.specs.Judging.{IsFirstBad, IsFirstBadLine}
use Rattle.cert_check.specs.declared.verdict.Verdict.{Verdict}
use Rattle.cert_check.specs.declared.verdict.Verdict.TheVariants as verdicts
use Rattle.cert_check.specs.declared.verdict.Reason.TheVariants as reasons
use Rattle.enc_layout.specs.Limit.{layout, IsInForce}
use Rattle.cert_check.specs.Lawful.{IsGoodTarget, CertOk}

-- the answers, in the order in which they are tried
pub data Answer : Type 0 where
  FormFault : (byte : ℕ) → Answer
  OtherKind : Answer
  TooManyLetters : (depth : ℕ) → Answer
  BadLine BadTarget : (number : ℕ) → Answer
  Verified : Answer

-- the answer that a verdict gives
abbrev pub answer_of : Verdict → Answer
answer_of verdicts.Verified = Verified
answer_of (verdicts.Rejected reasons.Kind) = OtherKind
answer_of (verdicts.Rejected (reasons.Line n)) = BadLine n
answer_of (verdicts.Rejected (reasons.Target i)) = BadTarget i

-- its letters are within the limit
abbrev pub HasFewLetters : Formula → Certificate → Type 0
HasFewLetters f c = Fits (layout f c.kind) c.depth

-- the first line that is no hinted step, counted from 0
abbrev pub IsFirstBadLineOf : Formula → Certificate → ℕ → Type 0
IsFirstBadLineOf f c k = IsFirstBadLine (clause_list f c.kind c.depth) (letters_through c.kind (counts f) c.depth) c.parts (Some k)

abbrev pub AreGoodLines : Formula → Certificate → Type 0
AreGoodLines f c = IsFirstBadLine (clause_list f c.kind c.depth) (letters_through c.kind (counts f) c.depth) c.parts None

-- the answer on the bytes
abbrev pub IsAnswer : Formula → Kind → List ℕ → Answer → Type 0
IsAnswer f kind bytes (FormFault byte) = IsFormFault bytes byte
IsAnswer f kind bytes OtherKind = (c : Certificate) × IsTextOf bytes c × (c.kind ≢ kind)
IsAnswer f kind bytes (TooManyLetters d) = (c : Certificate) × IsTextOf bytes c × (c.kind ≡ kind) × (¬ HasFewLetters f c) × IsInForce f kind c.depth d
IsAnswer f kind bytes (BadLine n) = (c : Certificate) × IsTextOf bytes c × (c.kind ≡ kind) × HasFewLetters f c × (k : ℕ) × (n ≡ suc k) × IsFirstBadLineOf f c k
IsAnswer f kind bytes (BadTarget n) = (c : Certificate) × IsTextOf bytes c × (c.kind ≡ kind) × HasFewLetters f c × AreGoodLines f c × (i : ℕ) × (n ≡ suc i)
    × IsFirstBad (IsGoodTarget f c) 0 (c.depth + 2) (Some i)
IsAnswer f kind bytes Verified = CertOk f kind bytes

-- the first bad one of a number of places, by its own number from 1
abbrev pub IsFirstTarget : (ℕ → Type 0) → ℕ → Option ℕ → Type 0
IsFirstTarget Good count None = IsFirstBad Good 0 count None
IsFirstTarget Good count (Some n) = (i : ℕ) × (n ≡ suc i) × IsFirstBad Good 0 count (Some i)

-- the answer where all lines are good
abbrev pub targets_answer : Option ℕ → Answer
targets_answer None = Verified
targets_answer (Some n) = BadTarget n

-- the answer by the lines and the targets of a certificate of the right kind whose letters are few enough
abbrev pub IsJudged : Formula → Certificate → Answer → Type 0
IsJudged f c (FormFault byte) = ⊥
IsJudged f c OtherKind = ⊥
IsJudged f c (TooManyLetters d) = ⊥
IsJudged f c (BadLine n) = (k : ℕ) × (n ≡ suc k) × IsFirstBadLineOf f c k
IsJudged f c (BadTarget n) = AreGoodLines f c × IsFirstTarget (IsGoodTarget f c) (c.depth + 2) (Some n)
IsJudged f c Verified = AreGoodLines f c × IsFirstTarget (IsGoodTarget f c) (c.depth + 2) None

-- there is one answer on the bytes
abbrev pub AnswersAreOne : Type 0
AnswersAreOne = (f : Formula) (kind : Kind) (bytes : List ℕ) (a b : Answer) → IsAnswer f kind bytes a → IsAnswer f kind bytes b → a ≡ b

-- the first line of a lawful certificate that is bad, and the first target, are none
abbrev pub AllGoodIsVerified : Type 0
AllGoodIsVerified = (f : Formula) (kind : Kind) (bytes : List ℕ) (c : Certificate) → IsTextOf bytes c → c.kind ≡ kind → HasFewLetters f c → AreGoodLines f c
    → IsFirstBad (IsGoodTarget f c) 0 (c.depth + 2) None → IsAnswer f kind bytes Verified

-- where the answer is that the certificate is verified, no trace of the kind satisfies the formula
abbrev pub VerifiedHasNoTrace : Type 0
VerifiedHasNoTrace = (f : Formula) (kind : Kind) (bytes : List ℕ) (t : Trace) → IsAnswer f kind bytes (answer_of verdicts.Verified) → IsTrace t
    → IsOfKind t kind → ¬ Satisfies t f
