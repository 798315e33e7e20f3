-- A list has a reading exactly where the walk meets no fault.
use Rattle.std.proofs.Common.{◌≡◌, ℕ, zero, suc, List, [], ◌∷◌, ◌++◌, arith, refl, sym, ap, ◌∙◌, subst, append_assoc, append-nil}
use Rattle.std.specs.Prelude.{Option, Some, None}
use Rattle.ltl_syntax.specs.declared.node.BinaryOp.{BinaryOp}
use Rattle.ltl_syntax.specs.Formula.{Formula}
use Rattle.ltl_parser.specs.Grammar.{Symbol, Leaf, Prefix, Infix, Open, Close, Reads, Apart, Applied, Enclosed, Alone, walk, later, fault, Operand, Operator}
use Rattle.ltl_parser.specs.Standing.{left_bound, Frame, Paren, Pre, Half, parens, Stands, IsHeld, IsStopped}
use Rattle.ltl_parser.proofs.Holding.{reduced, push_infix, held_leaf, held_enclosed, held_all}

later_none : (x : Option ℕ) → later x ≡ None → x ≡ None
later_none None e = refl
later_none (Some n) e = absurd (cc)

abbrev HasReading : List Symbol → Type 0
HasReading ts = (f : Formula) × Reads ts f

moved : (b : List Symbol) (t : Symbol) (ts : List Symbol) → HasReading ((b ++ t ∷ []) ++ ts) → HasReading (b ++ t ∷ ts)
moved b t ts h = subst HasReading (append_assoc b (t ∷ []) ts) h

-- from a place where an operand is wanted, and from one behind an operand
abbrev GoesOn : List Symbol → Type 0
GoesOn ts =
    ((fs : List Frame) (before : List Symbol) → Stands fs before → walk Operand (parens fs) ts ≡ None → HasReading (before ++ ts))
    × ((fs : List Frame) (before : List Symbol) (f : Formula) → ((m : ℕ) → IsHeld m fs before f)
    → walk Operator (parens fs) ts ≡ None → HasReading (before ++ ts))

pub no_parens : (fs : List Frame) (ts : List Symbol) (f : Formula) → IsHeld 0 fs ts f → IsStopped 0 fs → parens fs ≡ 0 → Reads ts f
no_parens [] ts f h s e = held_all 0 ts f h
no_parens (Paren ∷ fs) ts f h s e = absurd (omega arith)
no_parens (Pre op ∷ fs) ts f h s e = absurd s
no_parens (Half g op ∷ fs) ts f h s e = absurd (omega arith)

closed : (n : ℕ) (fs : List Frame) (ts : List Symbol) (f : Formula) → IsHeld 0 fs ts f → IsStopped 0 fs → parens fs ≡ suc n
    → (gs : List Frame) × (parens gs ≡ n) × ((m : ℕ) → IsHeld m gs (ts ++ Close ∷ []) f)
closed n [] ts f h s e = absurd (omega arith)
closed n (Paren ∷ fs) ts f h s e = (fs, omega arith, λ m. held_enclosed m fs ts f h)
closed n (Pre op ∷ fs) ts f h s e = absurd s
closed n (Half g op ∷ fs) ts f h s e = absurd (omega arith)

module _ (t : Symbol) (ts : List Symbol) (ih : GoesOn ts) where
  operand : (fs : List Frame) (before : List Symbol) → Stands fs before → (s : Symbol)
      → s ≡ t → walk Operand (parens fs) (s ∷ ts) ≡ None → HasReading (before ++ t ∷ ts)
  operand fs before st (Leaf f) e w = moved before t ts
      (subst (λ z. HasReading ((before ++ z ∷ []) ++ ts)) e (ih.1 fs (before ++ Leaf f ∷ []) f (λ m. held_leaf m fs before f st) (later_none _ w)))
  operand fs before st (Prefix op) e w = moved before t ts
      (subst (λ z. HasReading ((before ++ z ∷ []) ++ ts)) e (ih.0 (Pre op ∷ fs) (before ++ Prefix op ∷ []) (before, st, refl) (later_none _ w)))
  operand fs before st Open e w =
      moved before t ts (subst (λ z. HasReading ((before ++ z ∷ []) ++ ts)) e (ih.0 (Paren ∷ fs) (before ++ Open ∷ []) (before, st, refl) (later_none _ w)))
  operand fs before st (Infix op) e w = absurd (cc)
  operand fs before st Close e w = absurd (cc)

  infix_next : (fs : List Frame) (before : List Symbol) (f : Formula) → ((m : ℕ) → IsHeld m fs before f) → (op : BinaryOp)
      → Infix op ≡ t → walk Operand (parens fs) ts ≡ None → HasReading (before ++ t ∷ ts)
  infix_next fs before f h op e w =
      let r = reduced (left_bound op) fs before f (h (left_bound op)) in
      let q : walk Operand (parens (Half r.1 op ∷ r.0)) ts ≡ None = ap (λ n. walk Operand n ts) r.3 ∙ w in
      moved before t ts
      (subst (λ z. HasReading ((before ++ z ∷ []) ++ ts)) e (ih.0 (Half r.1 op ∷ r.0) (before ++ Infix op ∷ []) (push_infix op r.0 before r.1 r.2 r.4) q))

  close_next : (fs : List Frame) (before : List Symbol) (f : Formula) → ((m : ℕ) → IsHeld m fs before f) → (n : ℕ)
      → parens fs ≡ n → Close ≡ t → walk Operator n (Close ∷ ts) ≡ None → HasReading (before ++ t ∷ ts)
  close_next fs before f h zero p e w = absurd (cc)
  close_next fs before f h (suc n) p e w =
      let r = reduced 0 fs before f (h 0) in
      let c = closed n r.0 before r.1 r.2 r.4 (r.3 ∙ p) in
      let q : walk Operator (parens c.0) ts ≡ None = ap (λ k. walk Operator k ts) c.1 ∙ later_none _ w in
      moved before t ts (subst (λ z. HasReading ((before ++ z ∷ []) ++ ts)) e (ih.1 c.0 (before ++ Close ∷ []) r.1 c.2 q))

  operator : (fs : List Frame) (before : List Symbol) (f : Formula) → ((m : ℕ) → IsHeld m fs before f) → (n : ℕ) → parens fs ≡ n → (s : Symbol)
      → s ≡ t → walk Operator n (s ∷ ts) ≡ None → HasReading (before ++ t ∷ ts)
  operator fs before f h n p (Infix op) e w = infix_next fs before f h op e (ap (λ k. walk Operand k ts) p ∙ later_none _ w)
  operator fs before f h n p Close e w = close_next fs before f h n p e w
  operator fs before f h n p other e w = absurd (cc)

at_end : (fs : List Frame) (before : List Symbol) (f : Formula) → IsHeld 0 fs before f → (n : ℕ)
    → parens fs ≡ n → walk Operator n [] ≡ None → HasReading (before ++ [])
at_end fs before f h zero p w =
    let r = reduced 0 fs before f h in
    subst HasReading (sym (append-nil before)) (r.1, no_parens r.0 before r.1 r.2 r.4 (r.3 ∙ p))
at_end fs before f h (suc n) p w = absurd (cc)

goes_on : (ts : List Symbol) → GoesOn ts
goes_on [] = (λ fs before st w. absurd (cc), λ fs before f h w. at_end fs before f (h 0) (parens fs) refl w)
goes_on (t ∷ ts) = (
  λ fs before st w. operand t ts (goes_on ts) fs before st t refl w,
  λ fs before f h w. operator t ts (goes_on ts) fs before f h (parens fs) refl t refl w,
)

-- a list without a fault has a reading
pub reading_of : (ts : List Symbol) → fault ts ≡ None → (f : Formula) × Reads ts f
reading_of ts w = (goes_on ts).0 [] [] refl w

-- the walk goes on behind what reads
pub walk_past : (ts : List Symbol) (f : Formula) → Reads ts f → (n : ℕ) (rest : List Symbol) → walk Operator n rest ≡ None → walk Operand n (ts ++ rest) ≡ None
walk_past ts f (Apart t b a op x y m p q) n rest w =
    let right : walk Operand n (a ++ rest) ≡ None = walk_past a y q n rest w in
    let left : walk Operand n (b ++ Infix op ∷ (a ++ rest)) ≡ None = walk_past b x p n (Infix op ∷ (a ++ rest)) (ap later right) in
    subst (λ z. walk Operand n z ≡ None) (sym (ap (λ z. z ++ rest) m.outer.whole ∙ append_assoc b (Infix op ∷ a) rest)) left
walk_past ts f (Applied t r op x m e p) n rest w = subst (λ z. walk Operand n (z ++ rest) ≡ None) (sym e) (ap later (walk_past r x p n rest w))
walk_past ts f (Enclosed t i x m e p) n rest w =
    let inner : walk Operand (suc n) (i ++ Close ∷ rest) ≡ None = walk_past i x p (suc n) (Close ∷ rest) (ap later w) in
    subst (λ z. walk Operand n z ≡ None) (sym (ap (λ z. z ++ rest) e ∙ ap (λ z. Open ∷ z) (append_assoc i (Close ∷ []) rest))) (ap later inner)
walk_past ts f (Alone t x e) n rest w = subst (λ z. walk Operand n (z ++ rest) ≡ None) (sym e) (ap later w)

pub no_fault : (ts : List Symbol) (f : Formula) → Reads ts f → fault ts ≡ None
no_fault ts f r = subst (λ z. walk Operand 0 z ≡ None) (append-nil ts) (walk_past ts f r 0 [] refl)
