-- Gates that are true make each letter the value of its entry.
use Rattle.std.proofs.Common.{◌≡◌, ℕ, Bool, true, false, not, ◌&&◌, ◌||◌, IsTrue, refl, arith, ◌∙◌, sym, subst, ap₂, List, ◌∷◌, Contains}
use Rattle.std.specs.List.{AllByRecursion as Each}
use Rattle.ltl_syntax.specs.Formula.{Formula}
use Rattle.ltl_closure.specs.Norm.{Norm, NConst, NLetter, NNotLetter, NAnd, NOr, NNext, NWeakNext, NYesterday, NWeakYesterday, NUntil, NRelease, NSince}
use Rattle.ltl_closure.specs.Norm.{NTrigger}
use Rattle.ltl_closure.specs.Closure.{closure}
use Rattle.ltl_closure.specs.Run.{RunState, val}
use Rattle.ltl_closure.proofs.Lists.{Contains-here, Contains-there}
use Rattle.ltl_closure.specs.Keys.{needs}
use Rattle.ltl_closure.proofs.Entries.{closure_closed}
use Rattle.enc_layout.specs.Letters.{Meaning}
use Rattle.enc_layout.specs.Clauses.{Clause, clause_true, letter_of, gate, gates_part}
use Rattle.enc_layout.proofs.Each.{flat_map-Each}

abbrev pub IsTrueClause : (Meaning → Bool) → Clause → Type 0
IsTrueClause v c = IsTrue (clause_true v c)

strong : (g a b r : Bool) → IsTrue (g || (not b || false)) → IsTrue (g || (not a || (not r || false))) → IsTrue (not g || (b || (a || false)))
    → IsTrue (not g || (b || (r || false))) → g ≡ (b || a && r)
strong g a b r h1 h2 h3 h4 = grind arith

weak : (g a b r : Bool) → IsTrue (not g || (b || false)) → IsTrue (not g || (a || (r || false))) → IsTrue (g || (not b || (not a || false)))
    → IsTrue (g || (not b || (not r || false))) → g ≡ (b && (a || r))
weak g a b r h1 h2 h3 h4 = grind arith

both : (g a b : Bool) → IsTrue (not g || (a || false)) → IsTrue (not g || (b || false)) → IsTrue (g || (not a || (not b || false))) → g ≡ (a && b)
both g a b h1 h2 h3 = grind arith

either : (g a b : Bool) → IsTrue (g || (not a || false)) → IsTrue (g || (not b || false)) → IsTrue (not g || (a || (b || false))) → g ≡ (a || b)
either g a b h1 h2 h3 = grind arith

negated : (g p : Bool) → IsTrue (g || (p || false)) → IsTrue (not g || (not p || false)) → g ≡ not p
negated g p h1 h2 = grind arith

positive : (g : Bool) → IsTrue (g || false) → g ≡ true
positive g h = grind arith

negative : (g : Bool) → IsTrue (not g || false) → g ≡ false
negative g h = grind arith

pub first_child : (f : Formula) (a e : Norm) (rest : List Norm) → needs e ≡ a ∷ rest → Contains (closure f) e → Contains (closure f) a
first_child f a e rest n c = closure_closed f e a c (subst (λ z. Contains z a) (sym n) (Contains-here a rest))

pub second_child : (f : Formula) (a b e : Norm) (rest : List Norm) → needs e ≡ a ∷ b ∷ rest → Contains (closure f) e → Contains (closure f) b
second_child f a b e rest n c = closure_closed f e b c (subst (λ z. Contains z b) (sym n) (Contains-there a (b ∷ rest) b (Contains-here b rest)))

module _ (f : Formula) (i : ℕ) (v : Meaning → Bool) (holds : Each (IsTrueClause v) (gates_part f i)) where
  -- the state that the letters of step i give
  abbrev pub state_of : RunState
  state_of e = v (letter_of f i e)

  at : (e : Norm) → Contains (closure f) e → Each (IsTrueClause v) (gate (letter_of f i) e)
  at e m = flat_map-Each (IsTrueClause v) (gate (letter_of f i)) (closure f) holds e m

  -- each letter is the value of its entry
  pub gate_value : (e : Norm) → Contains (closure f) e → state_of e ≡ val state_of e
  gate_value (NConst true) m = positive _ (at (NConst true) m).0
  gate_value (NConst false) m = negative _ (at (NConst false) m).0
  gate_value (NLetter p) m = refl
  gate_value (NNotLetter p) m = let h = at (NNotLetter p) m in negated _ _ h.0 h.1.0
  gate_value (NAnd a b) m =
      let h = at (NAnd a b) m in
      both _ (state_of a) (state_of b) h.0 h.1.0 h.1.1.0
      ∙ ap₂ ◌&&◌ (gate_value a (first_child f a (NAnd a b) _ refl m)) (gate_value b (second_child f a b (NAnd a b) _ refl m))
  gate_value (NOr a b) m =
      let h = at (NOr a b) m in
      either _ (state_of a) (state_of b) h.0 h.1.0 h.1.1.0
      ∙ ap₂ ◌||◌ (gate_value a (first_child f a (NOr a b) _ refl m)) (gate_value b (second_child f a b (NOr a b) _ refl m))
  gate_value (NNext a) m = refl
  gate_value (NWeakNext a) m = refl
  gate_value (NYesterday a) m = refl
  gate_value (NWeakYesterday a) m = refl
  gate_value (NUntil a b) m =
      let h = at (NUntil a b) m in
      strong _ (state_of a) (state_of b) (state_of (NNext (NUntil a b))) h.0 h.1.0 h.1.1.0 h.1.1.1.0
      ∙ ap₂ (λ x y. y || x && state_of (NNext (NUntil a b))) (gate_value a (first_child f a (NUntil a b) _ refl m))
      (gate_value b (second_child f a b (NUntil a b) _ refl m))
  gate_value (NSince a b) m =
      let h = at (NSince a b) m in
      strong _ (state_of a) (state_of b) (state_of (NYesterday (NSince a b))) h.0 h.1.0 h.1.1.0 h.1.1.1.0
      ∙ ap₂ (λ x y. y || x && state_of (NYesterday (NSince a b))) (gate_value a (first_child f a (NSince a b) _ refl m))
      (gate_value b (second_child f a b (NSince a b) _ refl m))
  gate_value (NRelease a b) m =
      let h = at (NRelease a b) m in
      weak _ (state_of a) (state_of b) (state_of (NWeakNext (NRelease a b))) h.0 h.1.0 h.1.1.0 h.1.1.1.0
      ∙ ap₂ (λ x y. y && (x || state_of (NWeakNext (NRelease a b)))) (gate_value a (first_child f a (NRelease a b) _ refl m))
      (gate_value b (second_child f a b (NRelease a b) _ refl m))
  gate_value (NTrigger a b) m =
      let h = at (NTrigger a b) m in
      weak _ (state_of a) (state_of b) (state_of (NWeakYesterday (NTrigger a b))) h.0 h.1.0 h.1.1.0 h.1.1.1.0
      ∙ ap₂ (λ x y. y && (x || state_of (NWeakYesterday (NTrigger a b)))) (gate_value a (first_child f a (NTrigger a b) _ refl m))
      (gate_value b (second_child f a b (NTrigger a b) _ refl m))
