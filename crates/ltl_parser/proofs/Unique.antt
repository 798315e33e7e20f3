-- A list has at most one reading.
use Rattle.std.proofs.Common.{◌≡◌, ℕ, Bool, true, false, List, [], ◌∷◌, ◌++◌, length, arith, refl, sym, ap₂, ◌∙◌, subst}
use Rattle.std.proofs.lemmas.List.{append_cancel_right}
use Rattle.ltl_syntax.specs.declared.node.BinaryOp.{BinaryOp}
use Rattle.ltl_syntax.specs.Formula.{Formula}
use Rattle.ltl_parser.specs.Grammar.{Symbol, Leaf, Infix, Close, strength, groups_left, Counts, IsMain, Reads, Apart, Applied, Enclosed, Alone}

-- two cuts at places of one number are one
same_cut : {A : Type 0} (b c : List A) (s t : A) (x y : List A) → b ++ s ∷ x ≡ c ++ t ∷ y → length b ≡ length c → (b ≡ c) × (s ≡ t) × (x ≡ y)
same_cut [] [] s t x y e n = (refl, cc, cc)
same_cut [] (q ∷ c) s t x y e n = absurd (omega arith)
same_cut (p ∷ b) [] s t x y e n = absurd (omega arith)
same_cut (p ∷ b) (q ∷ c) s t x y e n =
    let h : p ≡ q = cc in
    let w = same_cut b c s t x y (let u : b ++ s ∷ x ≡ c ++ t ∷ y = cc in u) (omega arith) in
    (ap₂ (λ p q. p ∷ q) h w.0, w.1, w.2)

counts_both : (left : Bool) (m n : ℕ) → Counts left m n → Counts left n m → m ≡ n
counts_both true m n p q = omega arith
counts_both false m n p q = omega arith

-- a list is taken apart at one place
pub one_main : (ts b a c d : List Symbol) (o p : BinaryOp) → IsMain ts b o a → IsMain ts c p d → (b ≡ c) × (o ≡ p) × (a ≡ d)
one_main ts b a c d o p g h =
    let low = g.weakest c p d h.outer in
    let high = h.weakest b o a g.outer in
    let same : strength o ≡ strength p = omega arith in
    let here = g.place c p d h.outer (sym same) in
    let there = subst (λ n. Counts (groups_left n) (length c) (length b)) (sym same) (h.place b o a g.outer same) in
    let n : length b ≡ length c = counts_both (groups_left (strength o)) (length b) (length c) here there in
    let w = same_cut b c (Infix o) (Infix p) a d (sym g.outer.whole ∙ h.outer.whole) n in
    (w.0, (let e = w.1 in cc), w.2)

leaf_alone : (f : Formula) (ts b a : List Symbol) (o : BinaryOp) → ts ≡ Leaf f ∷ [] → ts ≡ b ++ Infix o ∷ a → ⊥
leaf_alone f ts [] a o e h = cc
leaf_alone f ts (x ∷ []) a o e h = cc
leaf_alone f ts (x ∷ y ∷ b) a o e h = cc

pub one_reading : (ts : List Symbol) (f g : Formula) → Reads ts f → Reads ts g → f ≡ g
one_reading ts f g (Apart t b a o x y m p q) (Apart u c d r z w n s v) =
    let k = one_main t b a c d o r m n in
    let l = one_reading b x z p (subst (λ i. Reads i z) (sym k.0) s) in
    let j = one_reading a y w q (subst (λ i. Reads i w) (sym k.2) v) in
    let i = k.1 in
    cc
one_reading ts f g (Apart t b a o x y m p q) (Applied u r op z n e s) = absurd (n b o a m.outer)
one_reading ts f g (Apart t b a o x y m p q) (Enclosed u i z n e s) = absurd (n b o a m.outer)
one_reading ts f g (Apart t b a o x y m p q) (Alone u z e) = absurd (leaf_alone z t b a o e m.outer.whole)
one_reading ts f g (Applied t r op x m e p) (Apart u c d o z w n s v) = absurd (m c o d n.outer)
one_reading ts f g (Applied t r op x m e p) (Applied u k oq z n h s) =
    let i : r ≡ k = cc in
    let j : op ≡ oq = cc in
    let l = one_reading r x z p (subst (λ i. Reads i z) (sym i) s) in
    cc
one_reading ts f g (Applied t r op x m e p) (Enclosed u i z n h s) = cc
one_reading ts f g (Applied t r op x m e p) (Alone u z h) = cc
one_reading ts f g (Enclosed t i x m e p) (Apart u c d o z w n s v) = absurd (m c o d n.outer)
one_reading ts f g (Enclosed t i x m e p) (Applied u k oq z n h s) = cc
one_reading ts f g (Enclosed t i x m e p) (Enclosed u j z n h s) =
    let k : i ++ Close ∷ [] ≡ j ++ Close ∷ [] = cc in
    let l = append_cancel_right i j (Close ∷ []) k in
    one_reading i x z p (subst (λ i. Reads i z) (sym l) s)
one_reading ts f g (Enclosed t i x m e p) (Alone u z h) = cc
one_reading ts f g (Alone t x e) (Apart u c d o z w n s v) = absurd (leaf_alone x t c d o e n.outer.whole)
one_reading ts f g (Alone t x e) (Applied u k oq z n h s) = cc
one_reading ts f g (Alone t x e) (Enclosed u j z n h s) = cc
one_reading ts f g (Alone t x e) (Alone u z h) = cc
