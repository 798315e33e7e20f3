-- Entries that are true in the states hold on the trace.
use Rattle.std.proofs.Common.{◌≡◌, ℕ, zero, suc, ◌+◌, ◌-◌, ◌<◌, ◌≤◌, ◌⊎◌, inl, inr, subst, arith, sym, refl, List, [], ◌∷◌, Contains, ◌↔◌, false, ◌&&◌, ◌||◌}
use Rattle.std.proofs.Common.{IsTrue}
use Rattle.std.proofs.lemmas.Bool.{cases_lt, and_parts, or_cases, not-true}
use Rattle.ltl_syntax.specs.Formula.{Atom, Formula}
use Rattle.ltl_word.specs.declared.trace.Trace.{Trace}
use Rattle.ltl_word.specs.Trace.{IsPosition, state_at}
use Rattle.ltl_word.specs.Claims.{Claim}
use Rattle.ltl_word.specs.Holds.{Holds, name_of}
use Rattle.ltl_word.proofs.Steps.{weak_next_is}
use Rattle.ltl_closure.specs.Norm.{Norm, NConst, NLetter, NNotLetter, NAnd, NOr, NNext, NWeakNext, NYesterday, NWeakYesterday, NUntil, NRelease, NSince}
use Rattle.ltl_closure.specs.Norm.{NTrigger, formula_of}
use Rattle.ltl_closure.specs.Closure.{closure}
use Rattle.ltl_closure.specs.Run.{States, val}
use Rattle.ltl_word.proofs.Decided.{position_below}
use Rattle.ltl_closure.proofs.Lists.{Contains-here, Contains-there}
use Rattle.ltl_closure.specs.Keys.{needs}
use Rattle.ltl_closure.proofs.Entries.{closure_closed}

-- the states r follow the trace t at the positions of D
pub record Follows (f : Formula) (t : Trace) (r : States) (D : Claim) : Type 0 where
  pub position : (i : ℕ) → D i → IsPosition t i
  pub letters : (i : ℕ) → D i → (p : Atom) → Contains (closure f) (NLetter p) → IsTrue (r i (NLetter p)) ↔ Contains (state_at t i) (name_of p)
  pub next : (i : ℕ) → D i → (a : Norm) → Contains (closure f) (NNext a) → IsTrue (r i (NNext a)) → D (suc i) × IsTrue (val (r (suc i)) a)
  pub weak_next : (i : ℕ) → D i → (a : Norm) → Contains (closure f) (NWeakNext a) → IsTrue (r i (NWeakNext a)) → IsPosition t (suc i)
      → D (suc i) × IsTrue (val (r (suc i)) a)
  pub yesterday : (i : ℕ) → D i → (a : Norm) → Contains (closure f) (NYesterday a) → IsTrue (r i (NYesterday a))
      → (j : ℕ) × (suc j ≡ i) × D j × IsTrue (val (r j) a)
  pub weak_yesterday : (i : ℕ) → D i → (a : Norm) → Contains (closure f) (NWeakYesterday a) → IsTrue (r i (NWeakYesterday a)) → (j : ℕ)
      → suc j ≡ i → D j × IsTrue (val (r j) a)
  pub fair : (i : ℕ) → D i → (a b : Norm) → Contains (closure f) (NUntil a b) → IsTrue (val (r i) (NUntil a b)) → (j : ℕ) × (i ≤ j) × IsTrue (val (r j) b)

module _ (f : Formula) (t : Trace) (r : States) (D : Claim) (g : Follows f t r D) where
  -- true in the states gives that it holds
  abbrev pub IsSound : Norm → Type 0
  IsSound e = (i : ℕ) → D i → IsTrue (val (r i) e) → Holds t (formula_of e) i

  module _ (a b : Norm) (sa : IsSound a) (sb : IsSound b) where
    until_now : (i : ℕ) → D i → IsTrue (val (r i) b) → Holds t (formula_of (NUntil a b)) i
    until_now i d v = (i, omega arith, g.position i d, sb i d v, λ k low high. absurd (omega arith))

    until_steps : Contains (closure f) (NNext (NUntil a b)) → (fuel i : ℕ) → D i → IsTrue (val (r i) (NUntil a b)) → IsTrue (val (r (i + fuel)) b)
        → Holds t (formula_of (NUntil a b)) i
    until_steps c zero i d v last =
        let e : i + zero ≡ i = omega arith in
        until_now i d (subst (λ n. IsTrue (val (r n) b)) e last)
    until_steps c (suc fuel) i d v last = elim (or_cases _ _ v) [
      | inl now ↦ until_now i d now
      | inr both ↦
          let w = and_parts _ _ both in
          let step = g.next i d (NUntil a b) c w.1 in
          let e : i + suc fuel ≡ suc i + fuel = omega arith in
          let u = until_steps c fuel (suc i) step.0 step.1 (subst (λ n. IsTrue (val (r n) b)) e last) in (
            u.0,
            omega arith,
            u.2,
            u.3,
            λ k low high. elim (cases_lt i k) [
              | inl later ↦ u.4 k later high
              | inr here ↦ let q : i ≡ k = omega arith in subst (Holds t (formula_of a)) q (sa i d w.0)
            ],
          )
    ]

    pub until_sound : Contains (closure f) (NUntil a b) → IsSound (NUntil a b)
    until_sound c i d v =
        let w = g.fair i d a b c v in
        let e : w.0 ≡ i + (w.0 - i) = omega arith in
        until_steps (closure_closed f (NUntil a b) (NNext (NUntil a b))
        c (Contains-there a (b ∷ NNext (NUntil a b) ∷ []) _ (Contains-there b (NNext (NUntil a b) ∷ []) _ (Contains-here (NNext (NUntil a b)) [])))) (w.0 - i)
        i d v (subst (λ n. IsTrue (val (r n) b)) e w.2)

    release_steps : Contains (closure f) (NWeakNext (NRelease a b)) → (fuel i : ℕ) → D i → IsTrue (val (r i) (NRelease a b)) → (j : ℕ)
        → j ≡ i + fuel → IsPosition t j → Holds t (formula_of b) j ⊎ ((k : ℕ) × (i ≤ k) × (k < j) × Holds t (formula_of a) k)
    release_steps c zero i d v j e at =
        let w = and_parts _ _ v in
        let q : i ≡ j = omega arith in
        inl (subst (Holds t (formula_of b)) q (sb i d w.0))
    release_steps c (suc fuel) i d v j e at =
        let w = and_parts _ _ v in
        elim (or_cases _ _ w.1) [
          | inl x ↦ inr (i, omega arith, omega arith, sa i d x)
          | inr x ↦
              let step = g.weak_next i d (NRelease a b) c x (position_below t (suc i) j (omega arith) at) in
              elim (release_steps c fuel (suc i) step.0 step.1 j (omega arith) at) [
                | inl y ↦ inl y
                | inr y ↦ inr (y.0, omega arith, y.2, y.3)
              ]
        ]

    pub release_sound : Contains (closure f) (NRelease a b) → IsSound (NRelease a b)
    release_sound c i d v j le at =
        release_steps (closure_closed f (NRelease a b) (NWeakNext (NRelease a b)) c (Contains-there a (b ∷ NWeakNext (NRelease a b) ∷ []) _
        (Contains-there b (NWeakNext (NRelease a b) ∷ []) _ (Contains-here (NWeakNext (NRelease a b)) [])))) (j - i) i d v j (omega arith) at

    since_extended : (i j : ℕ) → suc j ≡ i → Holds t (formula_of a) i → Holds t (formula_of (NSince a b)) j → Holds t (formula_of (NSince a b)) i
    since_extended i j e x u = (
      u.0,
      omega arith,
      u.2,
      λ k low high. elim (cases_lt j k) [
        | inl later ↦ let q : i ≡ k = omega arith in subst (Holds t (formula_of a)) q x
        | inr before ↦ u.3 k low before
      ],
    )

    since_steps : Contains (closure f) (NYesterday (NSince a b)) → (fuel i : ℕ) → i ≤ fuel → D i → IsTrue (val (r i) (NSince a b))
        → Holds t (formula_of (NSince a b)) i
    since_steps c zero i le d v = elim (or_cases (val (r i) b) (val (r i) a && r i (NYesterday (NSince a b))) v) [
      | inl now ↦ (i, omega arith, sb i d now, λ k low high. absurd (omega arith))
      | inr both ↦ let step = g.yesterday i d (NSince a b) c (and_parts (val (r i) a) (r i (NYesterday (NSince a b))) both).1 in absurd (omega arith)
    ]
    since_steps c (suc fuel) i le d v = elim (or_cases (val (r i) b) (val (r i) a && r i (NYesterday (NSince a b))) v) [
      | inl now ↦ (i, omega arith, sb i d now, λ k low high. absurd (omega arith))
      | inr both ↦
          let w = and_parts (val (r i) a) (r i (NYesterday (NSince a b))) both in
          let step = g.yesterday i d (NSince a b) c w.1 in
          since_extended i step.0 step.1 (sa i d w.0) (since_steps c fuel step.0 (omega arith) step.2 step.3)
    ]

    pub since_sound : Contains (closure f) (NSince a b) → IsSound (NSince a b)
    since_sound c i d v =
        since_steps (closure_closed f (NSince a b) (NYesterday (NSince a b)) c (Contains-there a (b ∷ NYesterday (NSince a b) ∷ []) _
        (Contains-there b (NYesterday (NSince a b) ∷ []) _ (Contains-here (NYesterday (NSince a b)) [])))) i i (omega arith) d v

    -- j lies fuel steps before i
    trigger_steps : Contains (closure f) (NWeakYesterday (NTrigger a b)) → (fuel i : ℕ) → D i → IsTrue (val (r i) (NTrigger a b)) → (j : ℕ)
        → j + fuel ≡ i → Holds t (formula_of b) j ⊎ ((k : ℕ) × (j < k) × (k ≤ i) × Holds t (formula_of a) k)
    trigger_steps c zero i d v j e =
        let w = and_parts (val (r i) b) (val (r i) a || r i (NWeakYesterday (NTrigger a b))) v in
        let q : i ≡ j = omega arith in
        inl (subst (Holds t (formula_of b)) q (sb i d w.0))
    trigger_steps c (suc fuel) i d v j e =
        let w = and_parts (val (r i) b) (val (r i) a || r i (NWeakYesterday (NTrigger a b))) v in
        elim (or_cases (val (r i) a) (r i (NWeakYesterday (NTrigger a b))) w.1) [
          | inl x ↦ inr (i, omega arith, omega arith, sa i d x)
          | inr x ↦
              let step = g.weak_yesterday i d (NTrigger a b) c x (i - 1) (omega arith) in
              elim (trigger_steps c fuel (i - 1) step.0 step.1 j (omega arith)) [
                | inl y ↦ inl y
                | inr y ↦ inr (y.0, y.1, omega arith, y.3)
              ]
        ]

    pub trigger_sound : Contains (closure f) (NTrigger a b) → IsSound (NTrigger a b)
    trigger_sound c i d v j le =
        trigger_steps (closure_closed f (NTrigger a b) (NWeakYesterday (NTrigger a b)) c (Contains-there a (b ∷ NWeakYesterday (NTrigger a b) ∷ []) _
        (Contains-there b (NWeakYesterday (NTrigger a b) ∷ []) _ (Contains-here (NWeakYesterday (NTrigger a b)) [])))) (i - j) i d v j (omega arith)

  has_first : (a e : Norm) (rest : List Norm) → needs e ≡ a ∷ rest → Contains (closure f) e → Contains (closure f) a
  has_first a e rest n c = closure_closed f e a c (subst (λ z. Contains z a) (sym n) (Contains-here a rest))

  has_second : (a b e : Norm) (rest : List Norm) → needs e ≡ a ∷ b ∷ rest → Contains (closure f) e → Contains (closure f) b
  has_second a b e rest n c = closure_closed f e b c (subst (λ z. Contains z b) (sym n) (Contains-there a (b ∷ rest) b (Contains-here b rest)))

  pub sound : (e : Norm) → Contains (closure f) e → IsSound e
  sound (NConst b) c i d v = v
  sound (NLetter p) c i d v = (g.letters i d p c).0 v
  sound (NNotLetter p) c i d v = λ x.
      let y : IsTrue (r i (NLetter p)) = (g.letters i d p (has_first (NLetter p) (NNotLetter p) [] refl c)).1 x in
      let z : r i (NLetter p) ≡ false = not-true (r i (NLetter p)) v in
      cc
  sound (NAnd a b) c i d v =
      let w = and_parts (val (r i) a) (val (r i) b) v in
      (sound a (has_first a (NAnd a b) (b ∷ []) refl c) i d w.0, sound b (has_second a b (NAnd a b) [] refl c) i d w.1)
  sound (NOr a b) c i d v = elim (or_cases (val (r i) a) (val (r i) b) v) [
    | inl x ↦ inl (sound a (has_first a (NOr a b) (b ∷ []) refl c) i d x)
    | inr x ↦ inr (sound b (has_second a b (NOr a b) [] refl c) i d x)
  ]
  sound (NNext a) c i d v =
      let w = g.next i d a c v in
      (suc i, (refl, g.position (suc i) w.0), sound a (has_first a (NNext a) [] refl c) (suc i) w.0 w.1)
  sound (NWeakNext a) c i d v = (weak_next_is (IsPosition t) (Holds t (formula_of a)) i).1 (λ at.
      let w = g.weak_next i d a c v at in
      sound a (has_first a (NWeakNext a) [] refl c) (suc i) w.0 w.1)
  sound (NYesterday a) c i d v =
      let w = g.yesterday i d a c v in
      (w.0, w.1, sound a (has_first a (NYesterday a) [] refl c) w.0 w.2 w.3)
  sound (NWeakYesterday a) c i d v = λ j e.
      let w = g.weak_yesterday i d a c v j e in
      sound a (has_first a (NWeakYesterday a) [] refl c) j w.0 w.1
  sound (NUntil a b) c i d v = until_sound a b (sound a (has_first a (NUntil a b) _ refl c)) (sound b (has_second a b (NUntil a b) _ refl c)) c i d v
  sound (NRelease a b) c i d v = release_sound a b (sound a (has_first a (NRelease a b) _ refl c)) (sound b (has_second a b (NRelease a b) _ refl c)) c i d v
  sound (NSince a b) c i d v = since_sound a b (sound a (has_first a (NSince a b) _ refl c)) (sound b (has_second a b (NSince a b) _ refl c)) c i d v
  sound (NTrigger a b) c i d v = trigger_sound a b (sound a (has_first a (NTrigger a b) _ refl c)) (sound b (has_second a b (NTrigger a b) _ refl c)) c i d v
