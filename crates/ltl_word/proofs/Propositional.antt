-- A formula without temporal operators depends on the letters of its state alone.
use Rattle.std.proofs.Common.{ℕ, inl, inr, ◌↔◌, refl, Contains}
use Rattle.ltl_syntax.specs.Shape.{Shape, Negation, Somewhere, Everywhere, shape}
use Rattle.ltl_syntax.specs.Formula.{Atom, Formula, Const, Letter, Unary, Binary}
use Rattle.ltl_syntax.specs.declared.node.BinaryOp.TheVariants.{And, Iff, Implies, Or}
use Rattle.ltl_word.specs.declared.trace.Trace.{Trace}
use Rattle.ltl_word.specs.Trace.{IsPosition, state_at}
use Rattle.ltl_word.specs.Claims.{Claim, OfShape}
use Rattle.ltl_word.specs.Holds.{Holds, name_of}
use Rattle.ltl_word.specs.Propositional.{IsHere, IsPropositional, HasLetter}

local_shape : (P Q A B : Claim) (i j : ℕ) (s : Shape) → IsHere s → A i ↔ B j → OfShape P s A i ↔ OfShape Q s B j
local_shape P Q A B i j Negation is r = (λ n h. n (r.1 h), λ n h. n (r.0 h))
local_shape P Q A B i j (Somewhere d x) is r = absurd is
local_shape P Q A B i j (Everywhere d x) is r = absurd is

module _ (t u : Trace) (i j : ℕ) where
  abbrev pub AgreeOn : Formula → Type 0
  AgreeOn f = (p : Atom) → HasLetter f p → Contains (state_at t i) (name_of p) ↔ Contains (state_at u j) (name_of p)

  pub Holds-local : (f : Formula) → IsPropositional f → AgreeOn f → Holds t f i ↔ Holds u f j
  Holds-local (Const b) w same = (λ h. h, λ h. h)
  Holds-local (Letter p) w same = same p refl
  Holds-local (Unary op a) w same =
      local_shape (IsPosition t) (IsPosition u) (Holds t a) (Holds u a) i j (shape op) w.0 (Holds-local a w.1 same)
  Holds-local (Binary And a b) w same =
      let r = Holds-local a w.1 (λ p h. same p (inl h)) in
      let s = Holds-local b w.2 (λ p h. same p (inr h)) in
      (λ h. (r.0 h.0, s.0 h.1), λ h. (r.1 h.0, s.1 h.1))
  Holds-local (Binary Or a b) w same =
      let r = Holds-local a w.1 (λ p h. same p (inl h)) in
      let s = Holds-local b w.2 (λ p h. same p (inr h)) in
      (λ h. elim h [ inl x ↦ inl (r.0 x) | inr y ↦ inr (s.0 y) ], λ h. elim h [ inl x ↦ inl (r.1 x) | inr y ↦ inr (s.1 y) ])
  Holds-local (Binary Implies a b) w same =
      let r = Holds-local a w.1 (λ p h. same p (inl h)) in
      let s = Holds-local b w.2 (λ p h. same p (inr h)) in
      (λ h x. s.0 (h (r.1 x)), λ h x. s.1 (h (r.0 x)))
  Holds-local (Binary Iff a b) w same =
      let r = Holds-local a w.1 (λ p h. same p (inl h)) in
      let s = Holds-local b w.2 (λ p h. same p (inr h)) in
      (λ h. (λ x. s.0 (h.0 (r.1 x)), λ y. r.0 (h.1 (s.1 y))), λ h. (λ x. s.1 (h.0 (r.0 x)), λ y. r.1 (h.1 (s.0 y))))
  Holds-local (Binary op a b) w same = absurd w.0
