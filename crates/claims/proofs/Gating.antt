-- Where each letter is the value of its entry, the gates are true.
use Rattle.std.proofs.Common.{◌≡◌, Bool, true, false, not, ◌&&◌, ◌||◌, IsTrue, IsFalse, refl, arith, sym, List, [], ◌∷◌, Contains, flat_map}
use Rattle.std.specs.List.{AllByRecursion as Each}
use Rattle.std.proofs.lemmas.Bool.{or_left}
use Rattle.ltl_syntax.specs.Formula.{Formula}
use Rattle.ltl_closure.specs.Norm.{Norm, NConst, NLetter, NNotLetter, NAnd, NOr, NNext, NWeakNext, NYesterday, NWeakYesterday, NUntil, NRelease, NSince}
use Rattle.ltl_closure.specs.Norm.{NTrigger}
use Rattle.ltl_closure.specs.Closure.{closure}
use Rattle.ltl_closure.specs.Keys.{needs}
use Rattle.ltl_closure.specs.Run.{RunState, val}
use Rattle.ltl_closure.proofs.Lists.{Contains-here, Contains-there}
use Rattle.ltl_closure.proofs.Entries.{closure_closed}
use Rattle.enc_layout.specs.Letters.{Meaning}
use Rattle.enc_layout.specs.Clauses.{gate}
use Rattle.enc_layout.proofs.Each.{Each-flat_map}
use Rattle.enc_layout.proofs.Gates.{IsTrueClause}

-- what holds of each entry of a closure holds of those that an entry needs
each_in : (P : Norm → Type 0) (xs : List Norm) → ((x : Norm) → Contains xs x → P x) → Each P xs
each_in P [] h = tt
each_in P (x ∷ xs) h = (h x (Contains-here x xs), each_in P xs (λ y c. h y (Contains-there x xs y c)))

pub of_needed : (f : Formula) (P : Norm → Type 0) → ((x : Norm) → Contains (closure f) x → P x) → (e : Norm) → Contains (closure f) e → Each P (needs e)
of_needed f P h e m = each_in P (needs e) (λ x c. h x (closure_closed f e x m c))

-- a clause from what its literals say
pub imp : (a rest : Bool) → (IsTrue a → IsTrue rest) → IsTrue (not a || rest)
imp true rest h = h refl
imp false rest h = refl

pub unless : (a : Bool) → IsFalse a → IsTrue (not a || false)
unless true h = sym h
unless false h = refl

pub only : (a : Bool) → IsTrue a → IsTrue (a || false)
only a h = or_left a false h

abbrev Four : Bool → Bool → Bool → Bool → Type 0
Four a b c d = IsTrue a × (IsTrue b × (IsTrue c × (IsTrue d × Unit {0})))

strong_true : (g a b r x y z : Bool) → g ≡ (y || x && z) → a ≡ x → b ≡ y → r ≡ z
    → Four (g || (not b || false)) (g || (not a || (not r || false))) (not g || (b || (a || false))) (not g || (b || (r || false)))
strong_true g a b r x y z eg ea eb er = (grind arith, (grind arith, (grind arith, (grind arith, tt))))

weak_true : (g a b r x y z : Bool) → g ≡ (y && (x || z)) → a ≡ x → b ≡ y → r ≡ z
    → Four (not g || (b || false)) (not g || (a || (r || false))) (g || (not b || (not a || false))) (g || (not b || (not r || false)))
weak_true g a b r x y z eg ea eb er = (grind arith, (grind arith, (grind arith, (grind arith, tt))))

both_true : (g a b x y : Bool) → g ≡ (x && y) → a ≡ x → b ≡ y
    → IsTrue (not g || (a || false)) × (IsTrue (not g || (b || false)) × (IsTrue (g || (not a || (not b || false))) × Unit {0}))
both_true g a b x y eg ea eb = (grind arith, (grind arith, (grind arith, tt)))

either_true : (g a b x y : Bool) → g ≡ (x || y) → a ≡ x → b ≡ y
    → IsTrue (g || (not a || false)) × (IsTrue (g || (not b || false)) × (IsTrue (not g || (a || (b || false))) × Unit {0}))
either_true g a b x y eg ea eb = (grind arith, (grind arith, (grind arith, tt)))

negated_true : (g p x : Bool) → g ≡ not x → p ≡ x → IsTrue (g || (p || false)) × (IsTrue (not g || (not p || false)) × Unit {0})
negated_true g p x eg ep = (grind arith, (grind arith, tt))

pub agree_true : (n x y : Bool) → (IsTrue n → x ≡ y) → IsTrue (not n || (not x || (y || false))) × (IsTrue (not n || (x || (not y || false))) × Unit {0})
agree_true n x y h = (imp n _ (λ k. one x y (h k)), (imp n _ (λ k. two x y (h k)), tt))
  where
    one : (x y : Bool) → x ≡ y → IsTrue (not x || (y || false))
    one x y e = grind arith

    two : (x y : Bool) → x ≡ y → IsTrue (x || (not y || false))
    two x y e = grind arith

module _ (f : Formula) (letter : Norm → Meaning) (v : Meaning → Bool) (s : RunState)
    (value : (e : Norm) → Contains (closure f) e → v (letter e) ≡ val s e) where
  needed : (e : Norm) → Contains (closure f) e → Each (λ x. v (letter x) ≡ val s x) (needs e)
  needed e m = of_needed f (λ x. v (letter x) ≡ val s x) value e m

  gate_true : (e : Norm) → Contains (closure f) e → Each (IsTrueClause v) (gate letter e)
  gate_true (NConst true) m = (only (v (letter (NConst true))) (value (NConst true) m), tt)
  gate_true (NConst false) m = (unless (v (letter (NConst false))) (value (NConst false) m), tt)
  gate_true (NLetter p) m = tt
  gate_true (NNotLetter p) m = let n = needed (NNotLetter p) m in negated_true _ _ (val s (NLetter p)) (value (NNotLetter p) m) n.0
  gate_true (NAnd a b) m = let n = needed (NAnd a b) m in both_true _ _ _ (val s a) (val s b) (value (NAnd a b) m) n.0 n.1.0
  gate_true (NOr a b) m = let n = needed (NOr a b) m in either_true _ _ _ (val s a) (val s b) (value (NOr a b) m) n.0 n.1.0
  gate_true (NNext a) m = tt
  gate_true (NWeakNext a) m = tt
  gate_true (NYesterday a) m = tt
  gate_true (NWeakYesterday a) m = tt
  gate_true (NUntil a b) m =
      let n = needed (NUntil a b) m in
      strong_true _ _ _ _ (val s a) (val s b) (s (NNext (NUntil a b))) (value (NUntil a b) m) n.0 n.1.0 n.1.1.0
  gate_true (NSince a b) m =
      let n = needed (NSince a b) m in
      strong_true _ _ _ _ (val s a) (val s b) (s (NYesterday (NSince a b))) (value (NSince a b) m) n.0 n.1.0 n.1.1.0
  gate_true (NRelease a b) m =
      let n = needed (NRelease a b) m in
      weak_true _ _ _ _ (val s a) (val s b) (s (NWeakNext (NRelease a b))) (value (NRelease a b) m) n.0 n.1.0 n.1.1.0
  gate_true (NTrigger a b) m =
      let n = needed (NTrigger a b) m in
      weak_true _ _ _ _ (val s a) (val s b) (s (NWeakYesterday (NTrigger a b))) (value (NTrigger a b) m) n.0 n.1.0 n.1.1.0

  pub gates_true : Each (IsTrueClause v) (flat_map (gate letter) (closure f))
  gates_true = Each-flat_map (IsTrueClause v) (gate letter) (closure f) gate_true
