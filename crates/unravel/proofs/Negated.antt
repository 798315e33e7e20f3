-- The literals of a question: they are consistent, their letters are known, and their opposites are those of a target.
use Rattle.std.proofs.Common.{◌≡◌, ℕ, ◌+◌, Bool, false, not, arith, inl, inr, ap, sym, ◌∙◌, subst, List, [], ◌∷◌, ◌++◌, All, Contains}
use Rattle.std.proofs.lemmas.List.Elements.{All-nil, All-cons, All-append, All-weaker, All-contains, Contains-append_cases}
use Rattle.ltl_syntax.specs.declared.node.Kind.{Kind}
use Rattle.ltl_syntax.specs.Formula.{Formula}
use Rattle.cnf_base.specs.declared.literal.Literal.{Literal as Signed}
use Rattle.cnf_base.specs.Literal.{opposite}
use Rattle.cnf_base.specs.Known.{IsKnown}
use Rattle.cnf_base.proofs.SameLiteral.{opposite_opposite}
use Rattle.ltl_closure.proofs.Lists.{Contains-nil, Contains-cons_cases, Contains-here, Contains-there}
use Rattle.cdcl.specs.Solving.{IsConsistent}
use Rattle.enc_layout.specs.Letters.{Meaning, Here, IsLetter, letters_through}
use Rattle.enc_layout.specs.Clauses.{counts}
use Rattle.enc_layout.specs.Assigned.{positive_of}
use Rattle.enc_layout.specs.Targets.{negative_of}
use Rattle.enc_layout.proofs.Numbers.{number_within}
use Rattle.unravel.specs.Depths.{IsStateBelow, AreStatesBelow}

module _ (f : Formula) (kind : Kind) where
  turned : (p : Meaning) (l : Signed) → positive_of f kind p ≡ opposite l → negative_of f kind p ≡ l
  turned p l e = ap opposite e ∙ opposite_opposite l

  -- of one literal
  opposite_of_one : (p : Meaning) (l : Signed) → Contains (positive_of f kind p ∷ []) (opposite l) → Contains (negative_of f kind p ∷ []) l
  opposite_of_one p l h = elim (Contains-cons_cases (positive_of f kind p) [] (opposite l) h) [
    | inl e ↦ subst (Contains (negative_of f kind p ∷ [])) (turned p l e) (Contains-here (negative_of f kind p) [])
    | inr n ↦ absurd (Contains-nil (opposite l) n)
  ]

  -- and of two
  pub opposite_of_two : (p q : Meaning) (l : Signed) → Contains (positive_of f kind p ∷ positive_of f kind q ∷ []) (opposite l)
      → Contains (negative_of f kind p ∷ negative_of f kind q ∷ []) l
  opposite_of_two p q l h = elim (Contains-cons_cases (positive_of f kind p) (positive_of f kind q ∷ []) (opposite l) h) [
    | inl e ↦
        subst (Contains (negative_of f kind p ∷ negative_of f kind q ∷ [])) (turned p l e) (Contains-here (negative_of f kind p) (negative_of f kind q ∷ []))
    | inr r ↦ Contains-there (negative_of f kind p) (negative_of f kind q ∷ []) l (opposite_of_one q l r)
  ]

  positive_one : (p : Meaning) (l : Signed) → Contains (positive_of f kind p ∷ []) l → l.negated ≡ false
  positive_one p l h = elim (Contains-cons_cases (positive_of f kind p) [] l h) [
    | inl e ↦ ap (λ m. m.negated) (sym e)
    | inr n ↦ absurd (Contains-nil l n)
  ]

  positive_two : (p q : Meaning) (l : Signed) → Contains (positive_of f kind p ∷ positive_of f kind q ∷ []) l → l.negated ≡ false
  positive_two p q l h = elim (Contains-cons_cases (positive_of f kind p) (positive_of f kind q ∷ []) l h) [
    | inl e ↦ ap (λ m. m.negated) (sym e)
    | inr r ↦ positive_one q l r
  ]

  clash : (b : Bool) → b ≡ false → not b ≡ false → ⊥
  clash b h k = cc

  consistent : (ls : List Signed) → ((l : Signed) → Contains ls l → l.negated ≡ false) → IsConsistent ls
  consistent ls h l here there = clash l.negated (h l here) (h (opposite l) there)

  pub consistent_two : (p q : Meaning) → IsConsistent (positive_of f kind p ∷ positive_of f kind q ∷ [])
  consistent_two p q = consistent (positive_of f kind p ∷ positive_of f kind q ∷ []) (positive_two p q)

  -- and those of states and one more
  positive_under : (n : ℕ) (states : List Signed) (p : Meaning) → AreStatesBelow f kind n states → (l : Signed)
      → Contains (states ++ positive_of f kind p ∷ []) l → l.negated ≡ false
  positive_under n states p below l h = elim (Contains-append_cases states (positive_of f kind p ∷ []) l h) [
    | inl s ↦ let w = All-contains (IsStateBelow f kind n) states l below s in ap (λ (m : Signed). m.negated) w.2
    | inr r ↦ positive_one p l r
  ]

  pub consistent_under : (n : ℕ) (states : List Signed) (p : Meaning) → AreStatesBelow f kind n states → IsConsistent (states ++ positive_of f kind p ∷ [])
  consistent_under n states p below = consistent (states ++ positive_of f kind p ∷ []) (positive_under n states p below)

  module _ (k letters : ℕ) (all : letters ≡ letters_through kind (counts f) k) where
    known : (p : Meaning) → IsLetter kind (counts f) k p → IsKnown letters (positive_of f kind p)
    known p h =
        let w = number_within kind (counts f) k p h in
        subst (λ n. IsKnown n (positive_of f kind p)) (sym all) (record { from_one = omega (arith, w.0); within = w.1 })

    known_one : (p : Meaning) → IsLetter kind (counts f) k p → All (IsKnown letters) (positive_of f kind p ∷ [])
    known_one p h = All-cons (IsKnown letters) (positive_of f kind p) [] (known p h) (All-nil (IsKnown letters))

    pub known_two : (p q : Meaning) → IsLetter kind (counts f) k p → IsLetter kind (counts f) k q
        → All (IsKnown letters) (positive_of f kind p ∷ positive_of f kind q ∷ [])
    known_two p q h g = All-cons (IsKnown letters) (positive_of f kind p) (positive_of f kind q ∷ []) (known p h) (known_one q g)

    state_known : (l : Signed) → IsStateBelow f kind (k + 1) l → IsKnown letters l
    state_known l (j, lt, is) = subst (IsKnown letters) (sym is) (known (Here j) (omega (arith, lt)))

    pub known_under : (states : List Signed) (p : Meaning) → AreStatesBelow f kind (k + 1) states → IsLetter kind (counts f) k p
        → All (IsKnown letters) (states ++ positive_of f kind p ∷ [])
    known_under states p below h =
        All-append (IsKnown letters) states (positive_of f kind p ∷ [])
        (All-weaker (IsStateBelow f kind (k + 1)) (IsKnown letters) state_known states below) (known_one p h)
