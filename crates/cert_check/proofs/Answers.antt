-- A check has one answer.
use Rattle.std.proofs.Common.{◌≡◌, ℕ, suc, ◌+◌, ◌⊎◌, inl, inr, arith, refl, sym, ap, ◌∙◌, subst, List, length, Some}
use Rattle.ltl_syntax.specs.declared.node.Kind.{Kind}
use Rattle.ltl_syntax.specs.Formula.{Formula}
use Rattle.cert_text.specs.Text.{Certificate, IsTextOf}
use Rattle.cert_text.specs.Live.{lines_of}
use Rattle.log_checker.specs.Judging.{IsFirstBad}
use Rattle.cert_text.proofs.Faults.{texts_say_one, faults_are_one, texts_have_none}
use Rattle.log_checker.proofs.Ranges.{one_first}
use Rattle.cert_check.specs.Lawful.{IsGoodTarget, IsGoodLineOf, IsLawful}
use Rattle.enc_layout.specs.Limit.{IsInForce}
use Rattle.cert_check.specs.Answer.{Answer, FormFault, OtherKind, TooManyLetters, BadLine, BadTarget, Verified, HasFewLetters, IsFirstBadLineOf, AreGoodLines}
use Rattle.cert_check.specs.Answer.{IsAnswer, AnswersAreOne, AllGoodIsVerified}

-- what the answers say of the one certificate that the bytes are the text of
abbrev OnText : Formula → Kind → Certificate → Answer → Type 0
OnText f kind c (FormFault byte) = ⊥
OnText f kind c OtherKind = c.kind ≡ kind → ⊥
OnText f kind c (TooManyLetters d) = (c.kind ≡ kind) × (¬ HasFewLetters f c) × IsInForce f kind c.depth d
OnText f kind c (BadLine n) = (c.kind ≡ kind) × HasFewLetters f c × (k : ℕ) × (n ≡ suc k) × IsFirstBadLineOf f c k
OnText f kind c (BadTarget n) =
    (c.kind ≡ kind) × HasFewLetters f c × AreGoodLines f c × (i : ℕ) × (n ≡ suc i) × IsFirstBad (IsGoodTarget f c) 0 (c.depth + 2) (Some i)
OnText f kind c Verified = IsLawful f kind c

on_text : (f : Formula) (kind : Kind) (bytes : List ℕ) (c : Certificate) (a : Answer) → IsTextOf bytes c → IsAnswer f kind bytes a → OnText f kind c a
on_text f kind bytes c (FormFault byte) text is = texts_have_none bytes c byte text is
on_text f kind bytes c OtherKind text is = subst (λ d. d.kind ≡ kind → ⊥) (texts_say_one bytes is.0 c is.1 text) is.2
on_text f kind bytes c (TooManyLetters d) text is = subst (λ e. OnText f kind e (TooManyLetters d)) (texts_say_one bytes is.0 c is.1 text) (is.2, is.3, is.4)
on_text f kind bytes c (BadLine n) text is = subst (λ e. OnText f kind e (BadLine n)) (texts_say_one bytes is.0 c is.1 text) (is.2, is.3, is.4, is.5, is.6)
on_text f kind bytes c (BadTarget n) text is =
    subst (λ e. OnText f kind e (BadTarget n)) (texts_say_one bytes is.0 c is.1 text) (is.2, is.3, is.4, is.5, is.6, is.7)
on_text f kind bytes c Verified text is = subst (λ e. OnText f kind e Verified) (texts_say_one bytes is.0 c is.1 text) is.2

-- numbers that are one more than the same place
same_number : (n m i j : ℕ) → n ≡ suc i → m ≡ suc j → Some i ≡ Some j → n ≡ m
same_number n m i j one two same = let e : i ≡ j = cc in one ∙ ap suc e ∙ sym two

module _ (f : Formula) (kind : Kind) (c : Certificate) where
  one_on : (a b : Answer) → OnText f kind c a → OnText f kind c b → a ≡ b
  one_on (FormFault m) b one two = absurd one
  one_on a (FormFault m) one two = absurd two
  one_on OtherKind OtherKind one two = refl
  one_on OtherKind (TooManyLetters d) one two = absurd (one two.0)
  one_on OtherKind (BadLine n) one two = absurd (one two.0)
  one_on OtherKind (BadTarget n) one two = absurd (one two.0)
  one_on OtherKind Verified one two = absurd (one two.same_kind)
  one_on (TooManyLetters d) OtherKind one two = absurd (two one.0)
  one_on (TooManyLetters d) (TooManyLetters e) one two =
      let high = one.2.greatest e two.2.below two.2.fits in
      let low = two.2.greatest d one.2.below one.2.fits in
      ap TooManyLetters (omega (arith, high, low))
  one_on (TooManyLetters d) (BadLine n) one two = absurd (one.1 two.1)
  one_on (TooManyLetters d) (BadTarget n) one two = absurd (one.1 two.1)
  one_on (TooManyLetters d) Verified one two = absurd (one.1 two.letters)
  one_on (BadLine n) OtherKind one two = absurd (two one.0)
  one_on (BadLine n) (TooManyLetters d) one two = absurd (two.1 one.1)
  one_on (BadLine n) (BadLine m) one two =
      ap BadLine (same_number n m one.2 two.2 one.3 two.3 (one_first (IsGoodLineOf f c) 0 (length (lines_of c.parts)) (Some one.2) (Some two.2) one.4 two.4))
  one_on (BadLine n) (BadTarget m) one two = absurd (one.4.2 (two.2 one.2 (omega arith) one.4.1))
  one_on (BadLine n) Verified one two = absurd (one.4.2 (two.lines one.2 one.4.1))
  one_on (BadTarget n) OtherKind one two = absurd (two one.0)
  one_on (BadTarget n) (TooManyLetters d) one two = absurd (two.1 one.1)
  one_on (BadTarget n) (BadLine m) one two = absurd (two.4.2 (one.2 two.2 (omega arith) two.4.1))
  one_on (BadTarget n) (BadTarget m) one two =
      ap BadTarget (same_number n m one.3 two.3 one.4 two.4 (one_first (IsGoodTarget f c) 0 (c.depth + 2) (Some one.3) (Some two.3) one.5 two.5))
  one_on (BadTarget n) Verified one two = absurd (one.5.2 (two.targets one.3 one.5.1))
  one_on Verified OtherKind one two = absurd (two one.same_kind)
  one_on Verified (TooManyLetters d) one two = absurd (two.1 one.letters)
  one_on Verified (BadLine n) one two = absurd (two.4.2 (one.lines two.2 two.4.1))
  one_on Verified (BadTarget n) one two = absurd (two.5.2 (one.targets two.3 two.5.1))
  one_on Verified Verified one two = refl

-- the certificate that an answer speaks of, unless it is a form fault
spoken : (f : Formula) (kind : Kind) (bytes : List ℕ) (a : Answer) → IsAnswer f kind bytes a
    → ((c : Certificate) × IsTextOf bytes c) ⊎ ((b : ℕ) × (a ≡ FormFault b))
spoken f kind bytes (FormFault b) is = inr (b, refl)
spoken f kind bytes other is = inl (is.0, is.1)

pub answers_are_one : AnswersAreOne
answers_are_one f kind bytes a b one two = elim (spoken f kind bytes a one) [
  | inl text ↦ one_on f kind text.0 a b (on_text f kind bytes text.0 a text.1 one) (on_text f kind bytes text.0 b text.1 two)
  | inr fault ↦ elim (spoken f kind bytes b two) [
    | inl text ↦ one_on f kind text.0 a b (on_text f kind bytes text.0 a text.1 one) (on_text f kind bytes text.0 b text.1 two)
    | inr other ↦
        fault.1 ∙ ap FormFault
        (faults_are_one bytes fault.0 other.0 (subst (IsAnswer f kind bytes) fault.1 one) (subst (IsAnswer f kind bytes) other.1 two)) ∙ sym other.1
  ]
]

pub all_good : AllGoodIsVerified
all_good f kind bytes c text same few lines targets = (
  c,
  text,
  record {
    same_kind = same;
    letters = few;
    lines = λ k low. lines k (omega arith) low;
    targets = λ i low. targets i (omega arith) low;
  },
)
