-- The replaced occurrences nest past operators no deeper than the formula, and are no more than its nodes.
use Rattle.std.proofs.Common.{ℕ, suc, ◌+◌, ◌≤◌, inl, inr, subst, ap, arith, sym, [], ◌∷◌, ◌++◌, length, All}
use Rattle.std.proofs.lemmas.Bool.{cases_Bool, cond-false}
use Rattle.std.proofs.lemmas.List.{length-append}
use Rattle.std.proofs.lemmas.List.Elements.{All-nil, All-cons, All-append}
use Rattle.ltl_syntax.specs.declared.node.UnaryOp.{UnaryOp}
use Rattle.ltl_syntax.specs.declared.node.BinaryOp.{BinaryOp}
use Rattle.ltl_syntax.specs.declared.node.BinaryOp.TheVariants.{And}
use Rattle.ltl_syntax.specs.Formula.{Formula, Const, Letter, Unary, Binary, nodes_in}
use Rattle.ltl_word.specs.Depth.{past_depth}
use Rattle.ltl_syntax.specs.Replacement.{Places, replaced_from}
use Rattle.ltl_syntax.proofs.Places.{replaced-cut}

depth_unary : (op : UnaryOp) (a : Formula) → past_depth a ≤ past_depth (Unary op a)
depth_unary op a = omega arith

depth_left : (op : BinaryOp) (a b : Formula) → past_depth a ≤ past_depth (Binary op a b)
depth_left And a b = omega arith
depth_left op a b = omega arith

depth_right : (op : BinaryOp) (a b : Formula) → past_depth b ≤ past_depth (Binary op a b)
depth_right And a b = omega arith
depth_right op a b = omega arith

module _ (P : Places) (h : ℕ) where
  -- past operators are nested at most h deep
  abbrev pub IsShallow : Formula → Type 0
  IsShallow g = past_depth g ≤ h

  one_shallow : (f : Formula) → past_depth f ≤ h → All IsShallow (f ∷ [])
  one_shallow f le = All-cons IsShallow f [] le (All-nil IsShallow)

  pub replaced_shallow : (f : Formula) (at : ℕ) → past_depth f ≤ h → All IsShallow (replaced_from P at f)
  replaced_shallow (Const b) at le = elim (cases_Bool (P at)) [
    | inl e ↦ subst (All IsShallow) (sym (replaced-cut P at (Const b) e)) (one_shallow (Const b) le)
    | inr e ↦ subst (All IsShallow) (sym (cond-false (P at) (Const b ∷ []) [] e)) (All-nil IsShallow)
  ]
  replaced_shallow (Letter p) at le = elim (cases_Bool (P at)) [
    | inl e ↦ subst (All IsShallow) (sym (replaced-cut P at (Letter p) e)) (one_shallow (Letter p) le)
    | inr e ↦ subst (All IsShallow) (sym (cond-false (P at) (Letter p ∷ []) [] e)) (All-nil IsShallow)
  ]
  replaced_shallow (Unary op a) at le = elim (cases_Bool (P at)) [
    | inl e ↦ subst (All IsShallow) (sym (replaced-cut P at (Unary op a) e)) (one_shallow (Unary op a) le)
    | inr e ↦
        let d = depth_unary op a in
        subst (All IsShallow) (sym (cond-false (P at) (Unary op a ∷ []) (replaced_from P (suc at) a) e)) (replaced_shallow a (suc at) (omega arith))
  ]
  replaced_shallow (Binary op a b) at le = elim (cases_Bool (P at)) [
    | inl e ↦ subst (All IsShallow) (sym (replaced-cut P at (Binary op a b) e)) (one_shallow (Binary op a b) le)
    | inr e ↦
        let d = depth_left op a b in
        let d' = depth_right op a b in
        let xs = replaced_from P (suc at) a in
        let ys = replaced_from P (suc at + nodes_in a) b in
        subst (All IsShallow) (sym (cond-false (P at) (Binary op a b ∷ []) (xs ++ ys) e))
        (All-append IsShallow xs ys (replaced_shallow a (suc at) (omega arith)) (replaced_shallow b (suc at + nodes_in a) (omega arith)))
  ]

module _ (P : Places) where
  pub replaced_few : (f : Formula) (at : ℕ) → length (replaced_from P at f) ≤ nodes_in f
  replaced_few (Const b) at = elim (cases_Bool (P at)) [
    | inl e ↦ let d = ap length (replaced-cut P at (Const b) e) in omega arith
    | inr e ↦ let d = ap length (cond-false (P at) (Const b ∷ []) [] e) in omega arith
  ]
  replaced_few (Letter p) at = elim (cases_Bool (P at)) [
    | inl e ↦ let d = ap length (replaced-cut P at (Letter p) e) in omega arith
    | inr e ↦ let d = ap length (cond-false (P at) (Letter p ∷ []) [] e) in omega arith
  ]
  replaced_few (Unary op a) at = elim (cases_Bool (P at)) [
    | inl e ↦ let d = ap length (replaced-cut P at (Unary op a) e) in omega arith
    | inr e ↦
        let d = ap length (cond-false (P at) (Unary op a ∷ []) (replaced_from P (suc at) a) e) in
        let i = replaced_few a (suc at) in omega arith
  ]
  replaced_few (Binary op a b) at = elim (cases_Bool (P at)) [
    | inl e ↦ let d = ap length (replaced-cut P at (Binary op a b) e) in omega arith
    | inr e ↦
        let d = ap length (cond-false (P at) (Binary op a b ∷ []) (replaced_from P (suc at) a ++ replaced_from P (suc at + nodes_in a) b) e) in
        let l = length-append (replaced_from P (suc at) a) (replaced_from P (suc at + nodes_in a) b) in
        let i = replaced_few a (suc at) in
        let j = replaced_few b (suc at + nodes_in a) in omega arith
  ]
