-- Lists read from left to right, with a stack of what waits for an operand.
use Rattle.std.proofs.Common.{◌≡◌, ℕ, suc, ◌+◌, ◌<◌, ◌≤◌, Bool, true, false, inl, inr, List, [], ◌∷◌, ◌++◌, arith, refl, sym, ap, ◌∙◌, subst, cond}
use Rattle.std.proofs.Common.{append_assoc}
use Rattle.std.proofs.lemmas.Bool.{cases_lt}
use Rattle.ltl_syntax.specs.declared.node.UnaryOp.{UnaryOp}
use Rattle.ltl_syntax.specs.declared.node.BinaryOp.{BinaryOp}
use Rattle.ltl_syntax.specs.Formula.{Formula, Unary, Binary}
use Rattle.ltl_parser.specs.Grammar.{Symbol, Leaf, Prefix, Infix, Open, Close, strength, groups_left, Reads}
use Rattle.ltl_parser.specs.Standing.{left_bound, right_bound, Frame, Paren, Pre, Half, bound, parens, Stands, IsHeld, IsStopped}
use Rattle.ltl_parser.proofs.Parts.{part_weaker, leaf_part, prefix_part, enclosed_part, join_part}

pub apply_prefix : (m : ℕ) (op : UnaryOp) (fs : List Frame) (ts : List Symbol) (f : Formula) → IsHeld m (Pre op ∷ fs) ts f → IsHeld m fs ts (Unary op f)
apply_prefix m op fs ts f h = record {
  before = h.stands.0;
  text = Prefix op ∷ h.text;
  level = m + bound fs;
  stands = h.stands.1;
  part = prefix_part op f h.text (part_weaker h.level 5 h.text f h.fits h.part) (m + bound fs);
  fits = omega arith;
  asked = omega arith;
  whole = h.whole ∙ ap (λ z. z ++ h.text) h.stands.2 ∙ append_assoc h.stands.0 (Prefix op ∷ []) h.text;
}

pub apply_infix : (m : ℕ) (op : BinaryOp) (g : Formula) (fs : List Frame) (ts : List Symbol) (f : Formula) → m ≤ strength op → IsHeld m (Half g op ∷ fs) ts f
    → IsHeld m fs ts (Binary op g f)
apply_infix m op g fs ts f le h = record {
  before = h.stands.0;
  text = h.stands.1 ++ Infix op ∷ h.text;
  level = strength op;
  stands = h.stands.2;
  part = join_part h.stands.1 h.text g f op h.stands.3 (part_weaker h.level (right_bound op) h.text f h.fits h.part);
  fits = h.stands.4;
  asked = le;
  whole = h.whole ∙ ap (λ z. z ++ h.text) h.stands.5 ∙ append_assoc h.stands.0 (h.stands.1 ++ Infix op ∷ []) h.text
      ∙ ap (λ z. h.stands.0 ++ z) (append_assoc h.stands.1 (Infix op ∷ []) h.text);
}

-- all that is to be applied before an operator that wants m on its left, applied
pub reduced : (m : ℕ) (fs : List Frame) (ts : List Symbol) (f : Formula) → IsHeld m fs ts f
    → (gs : List Frame) × (g : Formula) × IsHeld m gs ts g × (parens gs ≡ parens fs) × IsStopped m gs
reduced m [] ts f h = ([], f, h, refl, tt)
reduced m (Paren ∷ fs) ts f h = (Paren ∷ fs, f, h, refl, tt)
reduced m (Pre op ∷ fs) ts f h = reduced m fs ts (Unary op f) (apply_prefix m op fs ts f h)
reduced m (Half g op ∷ fs) ts f h = elim (cases_lt (strength op) m) [
  | inl lt ↦ (Half g op ∷ fs, f, h, refl, lt)
  | inr le ↦ reduced m fs ts (Binary op g f) (apply_infix m op g fs ts f le h)
]

-- an operator that stays on the stack lets one of its left bound stand on it
yields_by : (m n : ℕ) (p q : Bool) → groups_left n ≡ p → groups_left m ≡ q → m < cond p n (suc n) → cond q (suc m) m ≤ n
yields_by m n true true u v lt = omega arith
yields_by m n true false u v lt = omega arith
yields_by m n false true u v lt = elim (cases_lt m n) [
  | inl less ↦ omega arith
  | inr le ↦ let e : m ≡ n = omega arith in let h : groups_left m ≡ groups_left n = ap groups_left e in absurd (cc)
]
yields_by m n false false u v lt = omega arith

yields : (m n : ℕ) → m < cond (groups_left n) n (suc n) → cond (groups_left m) (suc m) m ≤ n
yields m n lt = yields_by m n (groups_left n) (groups_left m) refl refl lt

fits_infix : (o : BinaryOp) (fs : List Frame) → IsStopped (left_bound o) fs → bound fs ≤ strength o
fits_infix o [] s = omega arith
fits_infix o (Paren ∷ fs) s = omega arith
fits_infix o (Pre op ∷ fs) s = absurd s
fits_infix o (Half f op ∷ fs) s = yields (strength op) (strength o) s

pub push_infix : (o : BinaryOp) (fs : List Frame) (ts : List Symbol) (f : Formula) → IsHeld (left_bound o) fs ts f → IsStopped (left_bound o) fs
    → Stands (Half f o ∷ fs) (ts ++ Infix o ∷ [])
push_infix o fs ts f h s = (
  h.before,
  h.text,
  h.stands,
  part_weaker h.level (left_bound o) h.text f h.asked h.part,
  fits_infix o fs s,
  ap (λ z. z ++ Infix o ∷ []) h.whole ∙ append_assoc h.before h.text (Infix o ∷ []),
)

pub held_leaf : (m : ℕ) (fs : List Frame) (ts : List Symbol) (f : Formula) → Stands fs ts → IsHeld m fs (ts ++ Leaf f ∷ []) f
held_leaf m fs ts f s = record {
  before = ts;
  text = Leaf f ∷ [];
  level = m + bound fs;
  stands = s;
  part = leaf_part (m + bound fs) f;
  fits = omega arith;
  asked = omega arith;
  whole = refl;
}

pub held_enclosed : (m : ℕ) (fs : List Frame) (ts : List Symbol) (f : Formula) → IsHeld 0 (Paren ∷ fs) ts f → IsHeld m fs (ts ++ Close ∷ []) f
held_enclosed m fs ts f h = record {
  before = h.stands.0;
  text = Open ∷ (h.text ++ Close ∷ []);
  level = m + bound fs;
  stands = h.stands.1;
  part = enclosed_part h.text f h.level h.part (m + bound fs);
  fits = omega arith;
  asked = omega arith;
  whole = ap (λ z. z ++ Close ∷ []) (h.whole ∙ ap (λ z. z ++ h.text) h.stands.2 ∙ append_assoc h.stands.0 (Open ∷ []) h.text)
      ∙ append_assoc h.stands.0 (Open ∷ h.text) (Close ∷ []);
}

pub held_all : (m : ℕ) (ts : List Symbol) (f : Formula) → IsHeld m [] ts f → Reads ts f
held_all m ts f h = subst (λ z. Reads z f) (sym (h.whole ∙ ap (λ z. z ++ h.text) h.stands)) h.part.reads
