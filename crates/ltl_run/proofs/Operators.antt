-- On two traces with the same positions, each operator keeps agreement at the positions.
use Rattle.std.proofs.Common.{ℕ, ◌⊎◌, inl, inr, ◌↔◌, arith}
use Rattle.ltl_syntax.specs.Formula.{Formula, Unary, Binary}
use Rattle.ltl_syntax.specs.declared.node.UnaryOp.{UnaryOp}
use Rattle.ltl_syntax.specs.declared.node.BinaryOp.{BinaryOp}
use Rattle.ltl_syntax.specs.declared.node.BinaryOp.TheVariants.{And, Iff, Implies, Or, Release, Since, StrongRelease, Trigger, Until, WeakUntil}
use Rattle.ltl_word.specs.declared.trace.Trace.{Trace}
use Rattle.ltl_word.specs.Trace.{IsPosition}
use Rattle.ltl_syntax.specs.Shape.{Direction, Future, Past, Range, Shape, Negation, Somewhere, Everywhere, shape}
use Rattle.ltl_word.specs.Claims.{Claim, Reached, OfShape, IsUntil, IsReleased, IsSince, IsTriggered}
use Rattle.ltl_word.specs.Holds.{Holds}
use Rattle.ltl_word.proofs.Expansion.{IsClosed}
use Rattle.ltl_word.proofs.Reached.{later_le}
use Rattle.ltl_word.proofs.Decided.{position_below}

-- A implies B where D holds
abbrev pub GivesOn : Claim → Claim → Claim → Type 0
GivesOn D A B = (i : ℕ) → D i → A i → B i

-- P are the positions of one trace, Q those of the other
module _ (D P Q : Claim) (closed : IsClosed D) (inside : (i : ℕ) → P i → D i) (there : (i : ℕ) → P i → Q i) (back : (i : ℕ) → Q i → P i) where
  reached-on : (d : Direction) (r : Range) (i j : ℕ) → D i → Reached P d r i j → D j × Reached Q d r i j
  reached-on Future r i j d w = (inside j w.1, (w.0, there j w.1))
  reached-on Past r i j d w = (closed j i (later_le r j i w) d, w)

  reached-from : (d : Direction) (r : Range) (i j : ℕ) → D i → Reached Q d r i j → D j × Reached P d r i j
  reached-from Future r i j d w = let p = back j w.1 in (inside j p, (w.0, p))
  reached-from Past r i j d w = (closed j i (later_le r j i w) d, w)

  shape-on : (s : Shape) (A C : Claim) → GivesOn D A C → GivesOn D C A → GivesOn D (OfShape P s A) (OfShape Q s C)
  shape-on Negation A C f g i d h = λ x. h (g i d x)
  shape-on (Somewhere e r) A C f g i d w = let v = reached-on e r i w.0 d w.1 in (w.0, v.1, f w.0 v.0 w.2)
  shape-on (Everywhere e r) A C f g i d h = λ j w. let v = reached-from e r i j d w in f j v.0 (h j v.1)

  until-on : (A B C E : Claim) → GivesOn D A C → GivesOn D B E → GivesOn D (IsUntil P A B) (IsUntil Q C E)
  until-on A B C E f g i d (j, le, at, b, all) =
      (j, le, there j at, g j (inside j at) b, λ k low high. f k (closed k j (omega arith) (inside j at)) (all k low high))

  released-on : (A B C E : Claim) → GivesOn D A C → GivesOn D B E → GivesOn D (IsReleased P A B) (IsReleased Q C E)
  released-on A B C E f g i d h j le at =
      let p = back j at in
      elim (h j le p) [
        | inl b ↦ inl (g j (inside j p) b)
        | inr w ↦ inr (w.0, w.1, w.2, f w.0 (closed w.0 j (omega arith) (inside j p)) w.3)
      ]

module _ (D : Claim) (closed : IsClosed D) where
  since-on : (A B C E : Claim) → GivesOn D A C → GivesOn D B E → GivesOn D (IsSince A B) (IsSince C E)
  since-on A B C E f g i d (j, le, b, all) = (j, le, g j (closed j i le d) b, λ k low high. f k (closed k i high d) (all k low high))

  triggered-on : (A B C E : Claim) → GivesOn D A C → GivesOn D B E → GivesOn D (IsTriggered A B) (IsTriggered C E)
  triggered-on A B C E f g i d h j le = elim (h j le) [
    | inl b ↦ inl (g j (closed j i le d) b)
    | inr w ↦ inr (w.0, w.1, w.2, f w.0 (closed w.0 i w.2 d) w.3)
  ]

-- ---- each operator keeps agreement

-- A and B hold at the same numbers of D
pub record Agree (D A B : Claim) : Type 0 where
  pub to : GivesOn D A B
  pub back : GivesOn D B A

pub Agree-and : (D A B C E : Claim) → Agree D A C → Agree D B E → Agree D (λ i. A i × B i) (λ i. C i × E i)
Agree-and D A B C E f g = record { to = λ i d w. (f.to i d w.0, g.to i d w.1); back = λ i d w. (f.back i d w.0, g.back i d w.1) }

pub Agree-or : (D A B C E : Claim) → Agree D A C → Agree D B E → Agree D (λ i. A i ⊎ B i) (λ i. C i ⊎ E i)
Agree-or D A B C E f g = record {
  to = λ i d w. elim w [ inl a ↦ inl (f.to i d a) | inr b ↦ inr (g.to i d b) ];
  back = λ i d w. elim w [ inl a ↦ inl (f.back i d a) | inr b ↦ inr (g.back i d b) ];
}

pub Agree-implies : (D A B C E : Claim) → Agree D A C → Agree D B E → Agree D (λ i. A i → B i) (λ i. C i → E i)
Agree-implies D A B C E f g = record {
  to = λ i d h c. g.to i d (h (f.back i d c));
  back = λ i d h a. g.back i d (h (f.to i d a));
}

-- u and t have the same positions
module _ (t u : Trace) (same : (i : ℕ) → IsPosition u i ↔ IsPosition t i) where
  abbrev D : Claim
  D = IsPosition t

  shut : IsClosed D
  shut = position_below t

  to' : (i : ℕ) → IsPosition u i → IsPosition t i
  to' i p = (same i).0 p

  from' : (i : ℕ) → IsPosition t i → IsPosition u i
  from' i p = (same i).1 p

  stays : (i : ℕ) → IsPosition t i → IsPosition t i
  stays i p = p

  abbrev pub AgreeAt : Formula → Formula → Type 0
  AgreeAt g f = Agree (IsPosition t) (Holds u g) (Holds t f)

  until : (A B C E : Claim) → Agree D A C → Agree D B E → Agree D (IsUntil (IsPosition u) A B) (IsUntil (IsPosition t) C E)
  until A B C E f g = record {
    to = until-on D (IsPosition u) (IsPosition t) shut to' to' from' A B C E f.to g.to;
    back = until-on D (IsPosition t) (IsPosition u) shut stays from' to' C E A B f.back g.back;
  }

  released : (A B C E : Claim) → Agree D A C → Agree D B E → Agree D (IsReleased (IsPosition u) A B) (IsReleased (IsPosition t) C E)
  released A B C E f g = record {
    to = released-on D (IsPosition u) (IsPosition t) shut to' to' from' A B C E f.to g.to;
    back = released-on D (IsPosition t) (IsPosition u) shut stays from' to' C E A B f.back g.back;
  }

  since : (A B C E : Claim) → Agree D A C → Agree D B E → Agree D (IsSince A B) (IsSince C E)
  since A B C E f g = record { to = since-on D shut A B C E f.to g.to; back = since-on D shut C E A B f.back g.back }

  triggered : (A B C E : Claim) → Agree D A C → Agree D B E → Agree D (IsTriggered A B) (IsTriggered C E)
  triggered A B C E f g = record { to = triggered-on D shut A B C E f.to g.to; back = triggered-on D shut C E A B f.back g.back }

  pub unary_agrees : (op : UnaryOp) (a b : Formula) → AgreeAt a b → AgreeAt (Unary op a) (Unary op b)
  unary_agrees op a b r = record {
    to = shape-on D (IsPosition u) (IsPosition t) shut to' to' from' (shape op) (Holds u a) (Holds t b) r.to r.back;
    back = shape-on D (IsPosition t) (IsPosition u) shut stays from' to' (shape op) (Holds t b) (Holds u a) r.back r.to;
  }

  pub binary_agrees : (op : BinaryOp) (a b c e : Formula) → AgreeAt a c → AgreeAt b e → AgreeAt (Binary op a b) (Binary op c e)
  binary_agrees And a b c e r s = Agree-and _ _ _ _ _ r s
  binary_agrees Or a b c e r s = Agree-or _ _ _ _ _ r s
  binary_agrees Implies a b c e r s = Agree-implies _ _ _ _ _ r s
  binary_agrees Iff a b c e r s = Agree-and _ _ _ _ _ (Agree-implies _ _ _ _ _ r s) (Agree-implies _ _ _ _ _ s r)
  binary_agrees Until a b c e r s = until _ _ _ _ r s
  binary_agrees Release a b c e r s = released _ _ _ _ r s
  binary_agrees WeakUntil a b c e r s = released _ _ _ _ s (Agree-or _ _ _ _ _ r s)
  binary_agrees StrongRelease a b c e r s = until _ _ _ _ s (Agree-and _ _ _ _ _ r s)
  binary_agrees Since a b c e r s = since _ _ _ _ r s
  binary_agrees Trigger a b c e r s = triggered _ _ _ _ r s
