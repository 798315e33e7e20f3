-- A formula without past operators reads again: its new names are words that are not reserved, and so it can be printed where the formula can.
use Rattle.std.proofs.Common.{◌≡◌, ℕ, zero, suc, ◌+◌, ◌-◌, ◌%◌, ◌/◌, ◌<◌, Bool, true, false, ◌&&◌, ◌||◌, ◌==◌, if◌then◌else◌, List, [], ◌∷◌, ◌++◌, decimal}
use Rattle.std.proofs.Common.{refl, ap₂, arith}
use Rattle.std.specs.Fmt.{digit_glyph, digits_onto, digits}
use Rattle.std.specs.List.{list_all}
use Rattle.std.proofs.lemmas.Bool.Decides.{nat_tests}
use Rattle.ltl_syntax.specs.declared.node.UnaryOp.{UnaryOp}
use Rattle.ltl_syntax.specs.declared.node.BinaryOp.{BinaryOp}
use Rattle.ltl_syntax.specs.declared.node.UnaryOp.TheVariants.{Historically, HistoricallyIn}
use Rattle.ltl_syntax.specs.declared.node.UnaryOp.TheVariants.{Once, OnceIn, WeakYesterday, Yesterday, YesterdayTimes}
use Rattle.ltl_syntax.specs.declared.node.BinaryOp.TheVariants.{And, Or, Since, Trigger}
use Rattle.ltl_syntax.specs.Formula.{Formula, Const, Name, Fresh, Letter, Unary, Binary}
use Rattle.ltl_lexer.specs.Tokens.{IsWord}
use Rattle.ltl_lexer.proofs.Words.{is_word_byte, ascii_others}
use Rattle.ltl_parser.specs.Text.{IsWithin, IsPrintable, IsAccepted}
use Rattle.ltl_parser.proofs.Readings.{read_is_printable}
use Rattle.ltl_parser.proofs.Printing.{printed_reads}
use Rattle.depast.specs.Names.{most_leading, underscores, new_name, new_letter}
use Rattle.depast.specs.Depast.{taken, step_back, joined_back, residue, residue₁, residue₂, yesterday_axiom, weak_yesterday_axiom, since_axiom, trigger_axiom}
use Rattle.depast.specs.Depast.{back_axioms, axioms, axioms₁, axioms₂, conjoined, letter_for, depast}
use Rattle.black_top.specs.Depast.{IsReadAgain}

-- ---- the new names

digit_byte : (d : ℕ) → d < 10 → is_word_byte (digit_glyph false d) ≡ true
digit_byte d h = grind (arith, nat_tests)

more_digits : (b : Bool) (xs ys : List ℕ)
    → list_all is_word_byte xs ≡ true → list_all is_word_byte ys ≡ true → list_all is_word_byte (if b then xs else ys) ≡ true
more_digits true xs ys h k = h
more_digits false xs ys h k = k

digits_are : (k n : ℕ) (rest : List ℕ) → list_all is_word_byte rest ≡ true → list_all is_word_byte (digits_onto k 10 false n rest) ≡ true
digits_are zero n rest h = h
digits_are (suc k) n rest h =
    let one : list_all is_word_byte (digit_glyph false (n % 10) ∷ rest) ≡ true = ap₂ (λ p q. p && q) (digit_byte (n % 10) (omega arith)) h in
    more_digits (n / 10 == 0) (digit_glyph false (n % 10) ∷ rest) (digits_onto k 10 false (n / 10) (digit_glyph false (n % 10) ∷ rest)) one
    (digits_are k (n / 10) (digit_glyph false (n % 10) ∷ rest) one)

decimal_bytes : (n : ℕ) → list_all is_word_byte (decimal n) ≡ true
unfolding digits
decimal_bytes n = digits_are 64 n [] refl

underscore_bytes : (q : ℕ) (rest : List ℕ) → list_all is_word_byte rest ≡ true → list_all is_word_byte (underscores q ++ rest) ≡ true
underscore_bytes zero rest h = h
underscore_bytes (suc q) rest h = underscore_bytes q rest h

or_true : (b : Bool) → (b || true) ≡ true
or_true true = refl
or_true false = refl

underscored : (bytes : List ℕ) → list_all is_word_byte bytes ≡ true → IsWord (95 ∷ bytes)
underscored bytes h = record {
  first = 95;
  others = bytes;
  starts = or_true _;
  continues = (ascii_others bytes h).0;
  characters = (ascii_others (95 ∷ bytes) h).1;
  spelled = (ascii_others (95 ∷ bytes) h).2;
}

pub new_word : (q number : ℕ) → IsWord (new_name q number)
new_word q number = underscored (underscores q ++ 112 ∷ decimal number) (underscore_bytes q (112 ∷ decimal number) (decimal_bytes number))

new_printable : (q number : ℕ) → IsPrintable (new_letter q number)
new_printable q number = (new_word q number, refl)

-- ---- the formula without past operators

abbrev ArePrintable : List Formula → Type 0
ArePrintable [] = Unit {0}
ArePrintable (x ∷ xs) = IsPrintable x × ArePrintable xs

printable_append : (xs ys : List Formula) → ArePrintable xs → ArePrintable ys → ArePrintable (xs ++ ys)
printable_append [] ys h k = k
printable_append (x ∷ xs) ys h k = (h.0, printable_append xs ys h.1 k)

module _ (z : ℕ → Formula) (plain : (k : ℕ) → IsPrintable (z k)) where
  step_printable : (k : ℕ) (c : Formula) → IsPrintable c → (n : ℕ) → IsPrintable (step_back z k c n)
  step_printable k c h zero = h
  step_printable k c h (suc n) = plain (k + n)

  joined_printable : (op : BinaryOp) (b : Bool) (w : ℕ → Formula) → ((j : ℕ) → IsPrintable (w j)) → (m n : ℕ) → IsPrintable (joined_back op b w m n)
  joined_printable op b w h m zero = tt
  joined_printable op b w h m (suc zero) = h m
  joined_printable op b w h m (suc (suc n)) = (joined_printable op b w h m (suc n), h (m + suc n))

  residue₁_printable : (op : UnaryOp) (k : ℕ) (c : Formula) → IsWithin op → IsPrintable c → IsPrintable (residue₁ z k op c)
  residue₁_printable Yesterday k c w h = plain k
  residue₁_printable WeakYesterday k c w h = plain k
  residue₁_printable Once k c w h = plain k
  residue₁_printable Historically k c w h = plain k
  residue₁_printable (YesterdayTimes n) k c w h = step_printable k c h n
  residue₁_printable (OnceIn m n) k c w h = joined_printable Or false (step_back z k c) (step_printable k c h) m (suc n - m)
  residue₁_printable (HistoricallyIn m n) k c w h = joined_printable And true (step_back z k c) (step_printable k c h) m (suc n - m)
  residue₁_printable other k c w h = (w, h)

  residue₂_printable : (op : BinaryOp) (k : ℕ) (c d : Formula) → IsPrintable c → IsPrintable d → IsPrintable (residue₂ z k op c d)
  residue₂_printable Since k c d h i = plain k
  residue₂_printable Trigger k c d h i = plain k
  residue₂_printable other k c d h i = (h, i)

  residue_printable : (f : Formula) (n : ℕ) → IsPrintable f → IsPrintable (residue z n f)
  residue_printable (Const b) n h = tt
  residue_printable (Letter (Name name)) n h = h
  residue_printable (Letter (Fresh i)) n h = absurd h
  residue_printable (Unary op a) n h = residue₁_printable op (n + taken a) (residue z n a) h.0 (residue_printable a n h.1)
  residue_printable (Binary op a b) n h = residue₂_printable op (n + taken a + taken b) (residue z n a) (residue z (n + taken a) b) (residue_printable a n h.0)
      (residue_printable b (n + taken a) h.1)

  yesterday_printable : (a : Formula) (k : ℕ) → IsPrintable a → IsPrintable (yesterday_axiom a (z k))
  yesterday_printable a k h = let p = plain k in ((tt, p), (tt, ((h, (tt, p)), ((tt, h), (tt, (tt, p))))))

  weak_yesterday_printable : (a : Formula) (k : ℕ) → IsPrintable a → IsPrintable (weak_yesterday_axiom a (z k))
  weak_yesterday_printable a k h = let p = plain k in (p, (tt, ((h, (tt, p)), ((tt, h), (tt, (tt, p))))))

  since_printable : (a b : Formula) (k : ℕ) → IsPrintable a → IsPrintable b → IsPrintable (since_axiom a b (z k))
  since_printable a b k h i = let p = plain k in ((p, i), (tt, ((p, (tt, (p, (i, h)))), ((tt, p), (tt, (p, i))))))

  trigger_printable : (a b : Formula) (k : ℕ) → IsPrintable a → IsPrintable b → IsPrintable (trigger_axiom a b (z k))
  trigger_printable a b k h i = let p = plain k in ((p, i), (tt, ((p, (tt, (p, i))), ((tt, p), (tt, (p, (i, h)))))))

  back_printable : (says : Formula → Formula → Formula) → ((a : Formula) (k : ℕ) → IsPrintable a → IsPrintable (says a (z k))) → (k : ℕ) (c : Formula)
      → IsPrintable c → (n : ℕ) → ArePrintable (back_axioms says z k c n)
  back_printable says s k c h zero = tt
  back_printable says s k c h (suc n) =
      printable_append (back_axioms says z k c n) (says (step_back z k c n) (z (k + n)) ∷ []) (back_printable says s k c h n)
      (s (step_back z k c n) (k + n) (step_printable k c h n), tt)

  axioms₁_printable : (op : UnaryOp) (k : ℕ) (c : Formula) → IsPrintable c → ArePrintable (axioms₁ z k op c)
  axioms₁_printable Yesterday k c h = (yesterday_printable c k h, tt)
  axioms₁_printable WeakYesterday k c h = (weak_yesterday_printable c k h, tt)
  axioms₁_printable Once k c h = (since_printable (Const true) c k tt h, tt)
  axioms₁_printable Historically k c h = (trigger_printable (Const false) c k tt h, tt)
  axioms₁_printable (YesterdayTimes n) k c h = back_printable yesterday_axiom yesterday_printable k c h n
  axioms₁_printable (OnceIn m n) k c h = back_printable yesterday_axiom yesterday_printable k c h n
  axioms₁_printable (HistoricallyIn m n) k c h = back_printable weak_yesterday_axiom weak_yesterday_printable k c h n
  axioms₁_printable other k c h = tt

  axioms₂_printable : (op : BinaryOp) (k : ℕ) (c d : Formula) → IsPrintable c → IsPrintable d → ArePrintable (axioms₂ z k op c d)
  axioms₂_printable Since k c d h i = (since_printable c d k h i, tt)
  axioms₂_printable Trigger k c d h i = (trigger_printable c d k h i, tt)
  axioms₂_printable other k c d h i = tt

  axioms_printable : (f : Formula) (n : ℕ) → IsPrintable f → ArePrintable (axioms z n f)
  axioms_printable (Const b) n h = tt
  axioms_printable (Letter p) n h = tt
  axioms_printable (Unary op a) n h =
      printable_append (axioms z n a) (axioms₁ z (n + taken a) op (residue z n a)) (axioms_printable a n h.1)
      (axioms₁_printable op (n + taken a) (residue z n a) (residue_printable a n h.1))
  axioms_printable (Binary op a b) n h =
      printable_append (axioms z n a) (axioms z (n + taken a) b ++ axioms₂ z (n + taken a + taken b) op (residue z n a) (residue z (n + taken a) b))
      (axioms_printable a n h.0)
      (printable_append (axioms z (n + taken a) b) (axioms₂ z (n + taken a + taken b) op (residue z n a) (residue z (n + taken a) b))
      (axioms_printable b (n + taken a) h.1)
      (axioms₂_printable op (n + taken a + taken b) (residue z n a) (residue z (n + taken a) b) (residue_printable a n h.0)
      (residue_printable b (n + taken a) h.1)))

conjoined_printable : (xs : List Formula) (f : Formula) → IsPrintable f → ArePrintable xs → IsPrintable (conjoined f xs)
conjoined_printable [] f h k = h
conjoined_printable (x ∷ xs) f h k = conjoined_printable xs (Binary And f x) (h, k.0) k.1

depast_printable : (f : Formula) → IsPrintable f → IsPrintable (depast f)
depast_printable f h =
    let new = new_printable (most_leading f) in
    conjoined_printable (axioms (letter_for f) 0 f) (residue (letter_for f) 0 f) (residue_printable (letter_for f) new f 0 h)
    (axioms_printable (letter_for f) new f 0 h)

-- what is accepted reads again without its past operators
pub read_again : (part : List ℕ) (f : Formula) → IsAccepted part f → IsReadAgain f
read_again part f read = printed_reads (depast f) (depast_printable f (read_is_printable part f read.reads))
