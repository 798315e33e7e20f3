-- Where each fresh letter is true as the formula that it stands for, a formula and what replacement makes of it agree.
use Rattle.std.proofs.Common.{◌≡◌, ℕ, zero, suc, ◌+◌, ◌<◌, ◌↔◌, inl, inr, subst, arith, sym, true, List, [], ◌∷◌, ◌++◌, length, get_or, Contains}
use Rattle.std.proofs.lemmas.Bool.{cases_Bool, cond-false}
use Rattle.std.proofs.lemmas.List.{length-append, get_or_append_left, get_or-append-add}
use Rattle.ltl_syntax.specs.Formula.{Name, Fresh, Formula, Const, Letter, Unary, Binary, nodes_in}
use Rattle.ltl_syntax.specs.Table.{IsPlain}
use Rattle.ltl_word.specs.declared.trace.Trace.{Trace}
use Rattle.ltl_word.specs.Trace.{IsPosition, state_at}
use Rattle.ltl_word.specs.Holds.{Holds}
use Rattle.ltl_syntax.specs.Replacement.{Places, replaced_from, rep_from}
use Rattle.ltl_syntax.proofs.Places.{replaced-cut, rep-cut}
use Rattle.ltl_run.specs.Extension.{IsOriginal}
use Rattle.ltl_run.proofs.Operators.{Agree, unary_agrees, binary_agrees}

-- ---- agreement

module _ (t u : Trace) (same : (i : ℕ) → IsPosition u i ↔ IsPosition t i)
    (named : (i : ℕ) (name : List ℕ) → IsPosition t i → IsPlain name → Contains (state_at u i) name ↔ Contains (state_at t i) name) where
  abbrev AgreeAt : Formula → Formula → Type 0
  AgreeAt g f = Agree (IsPosition t) (Holds u g) (Holds t f)

  -- the fresh letters from a number on stand for the formulas
  abbrev pub Stand : ℕ → List Formula → Type 0
  Stand next gs = (n : ℕ) → n < length gs → (d : Formula) → AgreeAt (Letter (Fresh (next + n))) (get_or gs n d)

  stand_left : (next : ℕ) (xs ys : List Formula) → Stand next (xs ++ ys) → Stand next xs
  stand_left next xs ys s n lt d =
      let e = length-append xs ys in
      subst (λ g. AgreeAt (Letter (Fresh (next + n))) g) (get_or_append_left xs ys d n lt) (s n (omega arith) d)

  stand_right : (next : ℕ) (xs ys : List Formula) → Stand next (xs ++ ys) → Stand (next + length xs) ys
  stand_right next xs ys s n lt d =
      let e = length-append xs ys in
      let here : next + (length xs + n) ≡ next + length xs + n = omega arith in
      subst (λ m. AgreeAt (Letter (Fresh m)) (get_or ys n d)) here
      (subst (λ g. AgreeAt (Letter (Fresh (next + (length xs + n)))) g) (get_or-append-add xs ys n d) (s (length xs + n) (omega arith) d))

  letter_agrees : (bytes : List ℕ) → IsPlain bytes → AgreeAt (Letter (Name bytes)) (Letter (Name bytes))
  letter_agrees bytes plain = record { to = λ i d h. (named i bytes d plain).0 h; back = λ i d h. (named i bytes d plain).1 h }

  module _ (P : Places) where
    cut_agrees : (at next : ℕ) (f : Formula) → P at ≡ true → Stand next (replaced_from P at f) → AgreeAt (rep_from P at next f) f
    cut_agrees at next f e s =
        let one : Stand next (f ∷ []) = subst (Stand next) (replaced-cut P at f e) s in
        let here : next + zero ≡ next = omega arith in
        subst (λ g. AgreeAt g f) (sym (rep-cut P at next f e)) (subst (λ m. AgreeAt (Letter (Fresh m)) f) here (one zero (omega arith) f))

    pub rep_agrees : (f : Formula) → IsOriginal f → (at next : ℕ) → Stand next (replaced_from P at f) → AgreeAt (rep_from P at next f) f
    rep_agrees (Const b) o at next s = elim (cases_Bool (P at)) [
      | inl e ↦ cut_agrees at next (Const b) e s
      | inr e ↦ subst (λ g. AgreeAt g (Const b)) (sym (cond-false (P at) (Letter (Fresh next)) (Const b) e)) (record { to = λ i d h. h; back = λ i d h. h })
    ]
    rep_agrees (Letter (Name bytes)) o at next s = elim (cases_Bool (P at)) [
      | inl e ↦ cut_agrees at next (Letter (Name bytes)) e s
      | inr e ↦ subst (λ g. AgreeAt g (Letter (Name bytes))) (sym (cond-false (P at) (Letter (Fresh next)) (Letter (Name bytes)) e)) (letter_agrees bytes o)
    ]
    rep_agrees (Letter (Fresh n)) o at next s = absurd o
    rep_agrees (Unary op a) o at next s = elim (cases_Bool (P at)) [
      | inl e ↦ cut_agrees at next (Unary op a) e s
      | inr e ↦
          let part : Stand next (replaced_from P (suc at) a) = subst (Stand next) (cond-false (P at) (Unary op a ∷ []) (replaced_from P (suc at) a) e) s in
          subst (λ g. AgreeAt g (Unary op a)) (sym (cond-false (P at) (Letter (Fresh next)) (Unary op (rep_from P (suc at) next a)) e))
          (unary_agrees t u same op (rep_from P (suc at) next a) a (rep_agrees a o (suc at) next part))
    ]
    rep_agrees (Binary op a b) o at next s = elim (cases_Bool (P at)) [
      | inl e ↦ cut_agrees at next (Binary op a b) e s
      | inr e ↦
          let xs = replaced_from P (suc at) a in
          let ys = replaced_from P (suc at + nodes_in a) b in
          let parts : Stand next (xs ++ ys) = subst (Stand next) (cond-false (P at) (Binary op a b ∷ []) (xs ++ ys) e) s in
          let left = rep_agrees a o.0 (suc at) next (stand_left next xs ys parts) in
          let right = rep_agrees b o.1 (suc at + nodes_in a) (next + length xs) (stand_right next xs ys parts) in
          subst (λ g. AgreeAt g (Binary op a b))
          (sym (cond-false (P at) (Letter (Fresh next)) (Binary op (rep_from P (suc at) next a) (rep_from P (suc at + nodes_in a) (next + length xs) b)) e))
          (binary_agrees t u same op (rep_from P (suc at) next a) (rep_from P (suc at + nodes_in a) (next + length xs) b) a b left right)
    ]
