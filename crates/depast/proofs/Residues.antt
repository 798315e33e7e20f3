-- Where each new name is its past formula, residues hold where the parts did, and the axioms hold. Where the axioms hold, so it is.
use Rattle.std.proofs.Common.{◌≡◌, ℕ, zero, suc, ◌+◌, ◌-◌, ◌<◌, ◌≤◌, ◌⊎◌, inl, inr, arith, refl, subst, true, false, List, [], ◌∷◌, ◌++◌, length, length-append}
use Rattle.std.proofs.Common.{Contains, slice_index_or}
use Rattle.std.specs.Prelude.{⊤}
use Rattle.std.proofs.lemmas.Bool.{cases_lt}
use Rattle.ltl_syntax.specs.declared.node.UnaryOp.{UnaryOp}
use Rattle.ltl_syntax.specs.declared.node.BinaryOp.{BinaryOp}
use Rattle.ltl_syntax.specs.declared.node.UnaryOp.TheVariants.{Historically, HistoricallyIn}
use Rattle.ltl_syntax.specs.declared.node.UnaryOp.TheVariants.{Once, OnceIn, WeakYesterday, Yesterday, YesterdayTimes}
use Rattle.ltl_syntax.specs.declared.node.BinaryOp.TheVariants.{And, Iff, Implies, Or, Release, Since, StrongRelease, Trigger, Until, WeakUntil}
use Rattle.ltl_syntax.specs.Formula.{Atom, Formula, Const, Letter, Unary, Binary}
use Rattle.ltl_word.specs.declared.trace.Trace.{Trace}
use Rattle.ltl_word.specs.Trace.{IsTrace, IsPosition}
use Rattle.ltl_syntax.specs.Shape.{Past, Step, Exactly, Between, shape}
use Rattle.ltl_word.specs.Claims.{Claim, Always', Never, IsSomewhere, IsEverywhere, OfShape, IsUntil, IsReleased, IsSince, IsTriggered}
use Rattle.ltl_word.specs.Holds.{Holds}
use Rattle.ltl_word.specs.Propositional.{HasLetter}
use Rattle.ltl_word.proofs.Decided.{Holds_decided, position_below}
use Rattle.ltl_word.proofs.Agreement.{IsRange, Same, Same-self, Same-then, Same-turned, Same-back, Same-and, Same-or, Same-implies, Same-iff, Same-until}
use Rattle.ltl_word.proofs.Agreement.{Same-released, Same-since, Same-triggered}
use Rattle.ltl_word.proofs.Reached.{Same-somewhere, Same-everywhere, Same-shape}
use Rattle.ltl_word.proofs.Steps.{exactly_peels, between_peels, some_later, every_later, some_here, every_here, once_is, historically_is}
use Rattle.depast.specs.Depast.{taken, taken₁, conjoined, step_back, joined_back, residue, residue₁, residue₂, yesterday_axiom, weak_yesterday_axiom}
use Rattle.depast.specs.Depast.{back_axioms, axioms, axioms₁, axioms₂}
use Rattle.depast.specs.Lifting.{counted, meanings, meanings₁, meanings₂}
use Rattle.depast.specs.Laws.{IsPart}
use Rattle.ltl_syntax.proofs.Members.{Contains-nil, Contains-cons_cases}
use Rattle.depast.specs.Future.{IsFuture₂}
use Rattle.depast.proofs.Ranges.{SomeStep, EachStep, Back, WeakBack, some_steps, every_steps, no_step, one_step, step_one, last_step}
use Rattle.depast.proofs.Ranges.{step_last, each_one, one_each, each_last, last_each}
use Rattle.depast.proofs.Axioms.{yesterday_is, yesterday_has, weak_yesterday_is, weak_yesterday_has, since_is, since_has, trigger_is, trigger_has}

-- u is a trace with the positions of t
module _ (t u : Trace) (good : IsTrace t) (fine : IsTrace u) (at0 : IsPosition u 0) (places : IsPosition u ≡ IsPosition t) where
  abbrev pub P : Claim
  P = IsPosition u

  range : IsRange P P
  range = record { closed = position_below u; whole = λ i p. p }

  abbrev U : Formula → Claim
  U = Holds u

  abbrev T : Formula → Claim
  T = Holds t

  turn : (X : Claim) (F : Claim → Claim) → Same P X (F (IsPosition u)) → Same P X (F (IsPosition t))
  turn X F s = subst (λ (R : Claim). Same P X (F R)) places s

  Same-true : Same P (U (Const true)) Always'
  Same-true = record { to = λ i q x. tt; back = λ i q x. refl }

  Same-false : Same P (U (Const false)) Never
  Same-false = record { to = λ i q x. cc; back = λ i q x. absurd x }

  -- an operator over formulas that agree
  kept₁ : (op : UnaryOp) (c a : Formula) → Same P (U c) (T a) → Same P (U (Unary op c)) (T (Unary op a))
  kept₁ op c a s = turn _ (λ R. OfShape R (shape op) (T a)) (Same-shape range (shape op) (U c) (T a) s)

  once_since : (c a : Formula) → Same P (U c) (T a) → Same P (IsSince (U (Const true)) (U c)) (T (Unary Once a))
  once_since c a s = Same-then _ _ _ (Same-since range _ _ _ _ Same-true s) (Same-back _ _ (λ i q. once_is P (T a) i))

  historically_triggered : (c a : Formula) → Same P (U c) (T a) → Same P (IsTriggered (U (Const false)) (U c)) (T (Unary Historically a))
  historically_triggered c a s = Same-then _ _ _ (Same-triggered range _ _ _ _ Same-false s) (Same-back _ _ (λ i q. historically_is P (T a) i))

  future₂ : (op : BinaryOp) (c d a b : Formula) → IsFuture₂ op → Same P (U c) (T a) → Same P (U d) (T b) → Same P (U (Binary op c d)) (T (Binary op a b))
  future₂ And c d a b f r s = Same-and _ _ _ _ r s
  future₂ Or c d a b f r s = Same-or _ _ _ _ r s
  future₂ Implies c d a b f r s = Same-implies _ _ _ _ r s
  future₂ Iff c d a b f r s = Same-iff _ _ _ _ r s
  future₂ Until c d a b f r s = turn _ (λ R. IsUntil R (T a) (T b)) (Same-until range _ _ _ _ r s)
  future₂ Release c d a b f r s = turn _ (λ R. IsReleased R (T a) (T b)) (Same-released range _ _ _ _ r s)
  future₂ WeakUntil c d a b f r s = turn _ (λ R. IsReleased R (T b) (λ j. T a j ⊎ T b j)) (Same-released range _ _ _ _ s (Same-or _ _ _ _ r s))
  future₂ StrongRelease c d a b f r s = turn _ (λ R. IsUntil R (T b) (λ j. T a j × T b j)) (Same-until range _ _ _ _ s (Same-and _ _ _ _ r s))
  future₂ Since c d a b f r s = absurd f
  future₂ Trigger c d a b f r s = absurd f

  -- letters joined to the left are what they stand for
  module _ (w : ℕ → Formula) (C : ℕ → Claim) (m : ℕ) where
    some_joined : (n : ℕ) → ((j : ℕ) → m ≤ j → j < m + n → Same P (U (w j)) (C j)) → Same P (U (joined_back Or false w m n)) (SomeStep C m n)
    some_joined zero h = record { to = λ i q x. absurd (cc); back = λ i q x. absurd (no_step C m i x) }
    some_joined (suc zero) h = let s = h m (omega arith) (omega arith) in
        record { to = λ i q x. step_one C m i (s.to i q x); back = λ i q x. s.back i q (one_step C m i x) }
    some_joined (suc (suc n)) h =
        let r = some_joined (suc n) (λ j low high. h j low (omega arith)) in
        let s = h (m + suc n) (omega arith) (omega arith) in
        Same-then _ _ _ (Same-or _ _ _ _ r s) (record { to = λ i q x. step_last C m i n x; back = λ i q x. last_step C m i n x })

    each_joined : (n : ℕ) → ((j : ℕ) → m ≤ j → j < m + n → Same P (U (w j)) (C j)) → Same P (U (joined_back And true w m n)) (EachStep C m n)
    each_joined zero h = record { to = λ i q x j low high. absurd (omega arith); back = λ i q x. refl }
    each_joined (suc zero) h = let s = h m (omega arith) (omega arith) in
        record { to = λ i q x. one_each C m i (s.to i q x); back = λ i q x. s.back i q (each_one C m i x) }
    each_joined (suc (suc n)) h =
        let r = each_joined (suc n) (λ j low high. h j low (omega arith)) in
        let s = h (m + suc n) (omega arith) (omega arith) in
        Same-then _ _ _ (Same-and _ _ _ _ r s) (record { to = λ i q x. last_each C m i n x; back = λ i q x. each_last C m i n x })

  -- formulas that hold at the first position
  abbrev pub AllHold : List Formula → Type 0
  AllHold [] = ⊤
  AllHold (x ∷ xs) = U x 0 × AllHold xs

  pub hold_append : (xs ys : List Formula) → AllHold xs → AllHold ys → AllHold (xs ++ ys)
  hold_append [] ys h k = k
  hold_append (x ∷ xs) ys h k = (h.0, hold_append xs ys h.1 k)

  pub hold_split : (xs ys : List Formula) → AllHold (xs ++ ys) → AllHold xs × AllHold ys
  hold_split [] ys h = (tt, h)
  hold_split (x ∷ xs) ys h = let r = hold_split xs ys h.1 in ((h.0, r.0), r.1)

  module _ (z : ℕ → Formula) where
    -- the letters on the way back are what they stand for
    module _ (k : ℕ) (c a : Formula) (s : Same P (U c) (T a)) where
      back₀ : Same P (U c) (Back (T a) 0)
      back₀ = Same-then _ _ _ s (Same-back _ _ (λ i q. some_here P (T a) Past (Exactly 0) (λ j k w. omega arith) i (omega arith)))

      weak_back₀ : Same P (U c) (WeakBack (T a) 0)
      weak_back₀ = Same-then _ _ _ s (Same-back _ _ (λ i q. every_here P (T a) Past (Between 0 0) (λ j k w. omega arith) i (omega arith, omega arith)))

      back_more : (n : ℕ) (d : Formula) → Same P (U d) (Back (T a) n) → Same P (IsSomewhere Always' Past Step (U d)) (Back (T a) (suc n))
      back_more n d r = Same-then _ _ _ (Same-somewhere range Past Step _ _ r)
          (Same-back _ _ (λ i q. some_later P (T a) (position_below u) Past (exactly_peels n) i (λ j k w. omega arith)))

      weak_back_more : (n : ℕ) (d : Formula) → Same P (U d) (WeakBack (T a) n) → Same P (IsEverywhere Always' Past Step (U d)) (WeakBack (T a) (suc n))
      weak_back_more n d r = Same-then _ _ _ (Same-everywhere range Past Step _ _ r)
          (Same-back _ _ (λ i q. every_later P (T a) (position_below u) Past (between_peels n n) i (λ j k w. omega arith)))

      back_from : (n : ℕ) → AllHold (back_axioms yesterday_axiom z k c n) → Same P (U (step_back z k c n)) (Back (T a) n)
      back_from zero h = back₀
      back_from (suc n) h =
          let r = hold_split (back_axioms yesterday_axiom z k c n) (yesterday_axiom (step_back z k c n) (z (k + n)) ∷ []) h in
          Same-then _ _ _ (yesterday_is P (position_below u) (U (step_back z k c n)) (U (z (k + n))) r.1.0) (back_more n (step_back z k c n) (back_from n r.0))

      weak_back_from : (n : ℕ) → AllHold (back_axioms weak_yesterday_axiom z k c n) → Same P (U (step_back z k c n)) (WeakBack (T a) n)
      weak_back_from zero h = weak_back₀
      weak_back_from (suc n) h =
          let r = hold_split (back_axioms weak_yesterday_axiom z k c n) (weak_yesterday_axiom (step_back z k c n) (z (k + n)) ∷ []) h in
          Same-then _ _ _ (weak_yesterday_is P (position_below u) (U (step_back z k c n)) (U (z (k + n))) r.1.0)
          (weak_back_more n (step_back z k c n) (weak_back_from n r.0))

      -- the axioms of fewer steps
      fewer : (says : Formula → Formula → Formula) (n j : ℕ) → j ≤ n → AllHold (back_axioms says z k c n) → AllHold (back_axioms says z k c j)
      fewer says zero j le h = let e : zero ≡ j = omega arith in subst (λ m. AllHold (back_axioms says z k c m)) e h
      fewer says (suc n) j le h = elim (cases_lt n j) [
        | inl lt ↦ let e : suc n ≡ j = omega arith in subst (λ m. AllHold (back_axioms says z k c m)) e h
        | inr ge ↦ fewer says n j ge (hold_split (back_axioms says z k c n) (says (step_back z k c n) (z (k + n)) ∷ []) h).0
      ]

      joined_once : (m n : ℕ) → ((j : ℕ) → j ≤ n → Same P (U (step_back z k c j)) (Back (T a) j))
          → Same P (U (joined_back Or false (step_back z k c) m (suc n - m))) (T (Unary (OnceIn m n) a))
      joined_once m n h = Same-then _ _ _ (some_joined (step_back z k c) (Back (T a)) m (suc n - m) (λ j low high. h j (omega arith)))
          (Same-back _ _ (λ i q. some_steps (T a) m n i))

      joined_historically : (m n : ℕ) → ((j : ℕ) → j ≤ n → Same P (U (step_back z k c j)) (WeakBack (T a) j))
          → Same P (U (joined_back And true (step_back z k c) m (suc n - m))) (T (Unary (HistoricallyIn m n) a))
      joined_historically m n h = Same-then _ _ _ (each_joined (step_back z k c) (WeakBack (T a)) m (suc n - m) (λ j low high. h j (omega arith)))
          (Same-back _ _ (λ i q. every_steps (T a) m n i))

    -- an operator's residue, where its axioms hold
    from₁ : (op : UnaryOp) (k : ℕ) (c a : Formula) → Same P (U c) (T a) → AllHold (axioms₁ z k op c) → Same P (U (residue₁ z k op c)) (T (Unary op a))
    from₁ Yesterday k c a s h = Same-then _ _ _ (yesterday_is P (position_below u) (U c) (U (z k)) h.0) (Same-somewhere range Past Step _ _ s)
    from₁ WeakYesterday k c a s h = Same-then _ _ _ (weak_yesterday_is P (position_below u) (U c) (U (z k)) h.0) (Same-everywhere range Past Step _ _ s)
    from₁ Once k c a s h = Same-then _ _ _ (since_is P (position_below u) (U (Const true)) (U c) (U (z k)) h.0) (once_since c a s)
    from₁ Historically k c a s h = Same-then _ _ _ (trigger_is P (position_below u) (U (Const false)) (U c) (U (z k)) (Holds_decided u fine (Const false)) h.0)
        (historically_triggered c a s)
    from₁ (YesterdayTimes n) k c a s h = back_from k c a s n h
    from₁ (OnceIn m n) k c a s h = joined_once k c a s m n (λ j le. back_from k c a s j (fewer k c a s yesterday_axiom n j le h))
    from₁ (HistoricallyIn m n) k c a s h = joined_historically k c a s m n (λ j le. weak_back_from k c a s j (fewer k c a s weak_yesterday_axiom n j le h))
    from₁ op k c a s h = kept₁ op c a s

    from₂ : (op : BinaryOp) (k : ℕ) (c d a b : Formula) → Same P (U c) (T a) → Same P (U d) (T b) → AllHold (axioms₂ z k op c d)
        → Same P (U (residue₂ z k op c d)) (T (Binary op a b))
    from₂ Since k c d a b r s h = Same-then _ _ _ (since_is P (position_below u) (U c) (U d) (U (z k)) h.0) (Same-since range _ _ _ _ r s)
    from₂ Trigger k c d a b r s h =
        Same-then _ _ _ (trigger_is P (position_below u) (U c) (U d) (U (z k)) (Holds_decided u fine c) h.0) (Same-triggered range _ _ _ _ r s)
    from₂ op k c d a b r s h = future₂ op c d a b tt r s

    -- the letters of the formula hold where they did
    abbrev pub LettersAgree : Formula → Type 0
    LettersAgree f = (p : Atom) → HasLetter f p → Same P (U (Letter p)) (T (Letter p))

    -- where the axioms hold, residues hold where the parts do
    pub residue_from : (f : Formula) (n : ℕ) → LettersAgree f → AllHold (axioms z n f) → Same P (U (residue z n f)) (T f)
    residue_from (Const b) n l h = Same-self _
    residue_from (Letter p) n l h = l p refl
    residue_from (Unary op a) n l h =
        let w = hold_split (axioms z n a) (axioms₁ z (n + taken a) op (residue z n a)) h in
        from₁ op (n + taken a) (residue z n a) a (residue_from a n l w.0) w.1
    residue_from (Binary op a b) n l h =
        let w = hold_split (axioms z n a) (axioms z (n + taken a) b ++ axioms₂ z (n + taken a + taken b) op (residue z n a) (residue z (n + taken a) b)) h in
        let v = hold_split (axioms z (n + taken a) b) (axioms₂ z (n + taken a + taken b) op (residue z n a) (residue z (n + taken a) b)) w.1 in
        from₂ op (n + taken a + taken b) (residue z n a) (residue z (n + taken a) b) a b (residue_from a n (λ p i. l p (inl i)) w.0)
        (residue_from b (n + taken a) (λ p i. l p (inr i)) v.0) v.1

    -- the letters from number k on are these formulas
    abbrev pub AreMeant : ℕ → List Formula → Type 0
    AreMeant k [] = ⊤
    AreMeant k (x ∷ xs) = Same P (U (z k)) (T x) × AreMeant (suc k) xs

    meant_split : (k : ℕ) (xs ys : List Formula) → AreMeant k (xs ++ ys) → AreMeant k xs × AreMeant (k + length xs) ys
    meant_split k [] ys h = let e : k ≡ k + 0 = omega arith in (tt, subst (λ j. AreMeant j ys) e h)
    meant_split k (x ∷ xs) ys h =
        let r = meant_split (suc k) xs ys h.1 in
        let e : suc k + length xs ≡ k + suc (length xs) = omega arith in
        ((h.0, r.0), subst (λ j. AreMeant j ys) e r.1)

    length-counted : (g : ℕ → Formula) (n : ℕ) → length (counted g n) ≡ n
    length-counted g zero = refl
    length-counted g (suc n) = let r = length-counted g n in omega (arith, length-append (counted g n) (g (suc n) ∷ []))

    meant_at : (k : ℕ) (g : ℕ → Formula) (n : ℕ) → AreMeant k (counted g n) → (j : ℕ) → j < n → Same P (U (z (k + j))) (T (g (suc j)))
    meant_at k g zero h j lt = absurd (omega arith)
    meant_at k g (suc n) h j lt =
        let r = meant_split k (counted g n) (g (suc n) ∷ []) h in
        elim (cases_lt j n) [
          | inl below ↦ meant_at k g n r.0 j below
          | inr ge ↦
              let e : n ≡ j = omega arith in
              let d : k + length (counted g n) ≡ k + n = omega (arith, length-counted g n) in
              subst (λ i. Same P (U (z (k + i))) (T (g (suc i)))) e (subst (λ i. Same P (U (z i)) (T (g (suc n)))) d r.1.0)
        ]

    -- what an operator's residue and axioms are where its letters are what they mean
    abbrev pub Stands : Formula → List Formula → Formula → Type 0
    Stands c xs a = Same P (U c) (T a) × AllHold xs

    module _ (k : ℕ) (c a : Formula) (s : Same P (U c) (T a)) where
      back_meant : (n : ℕ) → ((j : ℕ) → j < n → Same P (U (z (k + j))) (Back (T a) (suc j))) → Same P (U (step_back z k c n)) (Back (T a) n)
      back_meant zero h = back₀ k c a s
      back_meant (suc n) h = h n (omega arith)

      back_hold : (n : ℕ) → ((j : ℕ) → j < n → Same P (U (z (k + j))) (Back (T a) (suc j))) → AllHold (back_axioms yesterday_axiom z k c n)
      back_hold zero h = tt
      back_hold (suc n) h =
          hold_append (back_axioms yesterday_axiom z k c n) (yesterday_axiom (step_back z k c n) (z (k + n)) ∷ []) (back_hold n (λ j lt. h j (omega arith))) (
            yesterday_has P (position_below u) (U (step_back z k c n)) (U (z (k + n))) (Holds_decided u fine (step_back z k c n))
                (Same-then _ _ _ (h n (omega arith)) (Same-turned _ _ (back_more k c a s n (step_back z k c n) (back_meant n (λ j lt. h j (omega arith))))))
                at0,
            tt,
          )

      weak_back_meant : (n : ℕ) → ((j : ℕ) → j < n → Same P (U (z (k + j))) (WeakBack (T a) (suc j)))
          → Same P (U (step_back z k c n)) (WeakBack (T a) n)
      weak_back_meant zero h = weak_back₀ k c a s
      weak_back_meant (suc n) h = h n (omega arith)

      weak_back_hold : (n : ℕ) → ((j : ℕ) → j < n → Same P (U (z (k + j))) (WeakBack (T a) (suc j)))
          → AllHold (back_axioms weak_yesterday_axiom z k c n)
      weak_back_hold zero h = tt
      weak_back_hold (suc n) h = hold_append (back_axioms weak_yesterday_axiom z k c n) (weak_yesterday_axiom (step_back z k c n) (z (k + n)) ∷ [])
          (weak_back_hold n (λ j lt. h j (omega arith))) (
            weak_yesterday_has P (position_below u) (U (step_back z k c n)) (U (z (k + n))) (Holds_decided u fine (step_back z k c n))
                (Same-then _ _ _ (h n (omega arith))
                (Same-turned _ _ (weak_back_more k c a s n (step_back z k c n) (weak_back_meant n (λ j lt. h j (omega arith)))))) at0,
            tt,
          )

      -- the letters of a chain, read as claims
      once_meant : (n : ℕ) → AreMeant k (counted (λ m. Unary (YesterdayTimes m) a) n) → (j : ℕ)
          → j < n → Same P (U (z (k + j))) (Back (T a) (suc j))
      once_meant n h j lt = meant_at k (λ m. Unary (YesterdayTimes m) a) n h j lt

      historically_meant : (n : ℕ) → AreMeant k (counted (λ m. Unary (HistoricallyIn m m) a) n) → (j : ℕ)
          → j < n → Same P (U (z (k + j))) (WeakBack (T a) (suc j))
      historically_meant n h j lt = meant_at k (λ m. Unary (HistoricallyIn m m) a) n h j lt

    stands₁ : (op : UnaryOp) (k : ℕ) (c a : Formula) → Same P (U c) (T a) → AreMeant k (meanings₁ op a)
        → Stands (residue₁ z k op c) (axioms₁ z k op c) (Unary op a)
    stands₁ Yesterday k c a s h = (
      h.0,
      (
        yesterday_has P (position_below u) (U c) (U (z k)) (Holds_decided u fine c)
            (Same-then _ _ _ h.0 (Same-turned _ _ (Same-somewhere range Past Step _ _ s))) at0,
        tt,
      ),
    )
    stands₁ WeakYesterday k c a s h = (
      h.0,
      (
        weak_yesterday_has P (position_below u) (U c) (U (z k)) (Holds_decided u fine c)
            (Same-then _ _ _ h.0 (Same-turned _ _ (Same-everywhere range Past Step _ _ s))) at0,
        tt,
      ),
    )
    stands₁ Once k c a s h = (
      h.0,
      (
        since_has P (position_below u) (U (Const true)) (U c) (U (z k)) (Holds_decided u fine (z k))
            (Same-then _ _ _ h.0 (Same-turned _ _ (once_since c a s))) at0,
        tt,
      ),
    )
    stands₁ Historically k c a s h = (
      h.0,
      (
        trigger_has P (position_below u) (U (Const false)) (U c) (U (z k)) (Holds_decided u fine (Const false)) (Holds_decided u fine (z k))
            (Same-then _ _ _ h.0 (Same-turned _ _ (historically_triggered c a s))) at0,
        tt,
      ),
    )
    stands₁ (YesterdayTimes n) k c a s h =
        let m = once_meant k c a s n h in
        (back_meant k c a s n m, back_hold k c a s n m)
    stands₁ (OnceIn m n) k c a s h =
        let l = once_meant k c a s n h in
        (joined_once k c a s m n (λ j le. back_meant k c a s j (λ i lt. l i (omega arith))), back_hold k c a s n l)
    stands₁ (HistoricallyIn m n) k c a s h =
        let l = historically_meant k c a s n h in
        (joined_historically k c a s m n (λ j le. weak_back_meant k c a s j (λ i lt. l i (omega arith))), weak_back_hold k c a s n l)
    stands₁ op k c a s h = (kept₁ op c a s, tt)

    stands₂ : (op : BinaryOp) (k : ℕ) (c d a b : Formula) → Same P (U c) (T a) → Same P (U d) (T b) → AreMeant k (meanings₂ op a b)
        → Stands (residue₂ z k op c d) (axioms₂ z k op c d) (Binary op a b)
    stands₂ Since k c d a b r s h = (
      h.0,
      (
        since_has P (position_below u) (U c) (U d) (U (z k)) (Holds_decided u fine (z k))
            (Same-then _ _ _ h.0 (Same-turned _ _ (Same-since range _ _ _ _ r s))) at0,
        tt,
      ),
    )
    stands₂ Trigger k c d a b r s h = (
      h.0,
      (
        trigger_has P (position_below u) (U c) (U d) (U (z k)) (Holds_decided u fine c) (Holds_decided u fine (z k))
            (Same-then _ _ _ h.0 (Same-turned _ _ (Same-triggered range _ _ _ _ r s))) at0,
        tt,
      ),
    )
    stands₂ op k c d a b r s h = (future₂ op c d a b tt r s, tt)

    -- where the letters are what they mean, residues hold where the parts do, and each axiom holds
    pub length-meanings : (f : Formula) → length (meanings f) ≡ taken f
    length-meanings (Const b) = refl
    length-meanings (Letter p) = refl
    length-meanings (Unary op a) = omega (arith, length-meanings a, length-meanings₁ op a, length-append (meanings a) (meanings₁ op a)) where
      length-meanings₁ : (op : UnaryOp) (a : Formula) → length (meanings₁ op a) ≡ taken₁ op
      length-meanings₁ (YesterdayTimes n) a = length-counted (λ m. Unary (YesterdayTimes m) a) n
      length-meanings₁ (OnceIn m n) a = length-counted (λ m. Unary (YesterdayTimes m) a) n
      length-meanings₁ (HistoricallyIn m n) a = length-counted (λ m. Unary (HistoricallyIn m m) a) n
      length-meanings₁ op a = refl
    length-meanings (Binary Since a b) = omega (
      arith,
      length-meanings a,
      length-meanings b,
      length-append (meanings a) (meanings b ++ Binary Since a b ∷ []),
      length-append (meanings b) (Binary Since a b ∷ []),
    )
    length-meanings (Binary Trigger a b) = omega (
      arith,
      length-meanings a,
      length-meanings b,
      length-append (meanings a) (meanings b ++ Binary Trigger a b ∷ []),
      length-append (meanings b) (Binary Trigger a b ∷ []),
    )
    length-meanings (Binary op a b) =
        omega (arith, length-meanings a, length-meanings b, length-append (meanings a) (meanings b ++ []), length-append (meanings b) [])

    -- the meanings of an operator's operands, and its own
    one_meant : (n : ℕ) (op : UnaryOp) (a : Formula) → AreMeant n (meanings (Unary op a)) → AreMeant n (meanings a) × AreMeant (n + taken a) (meanings₁ op a)
    one_meant n op a h =
        let r = meant_split n (meanings a) (meanings₁ op a) h in
        (r.0, subst (λ k. AreMeant (n + k) (meanings₁ op a)) (length-meanings a) r.1)

    two_meant : (n : ℕ) (op : BinaryOp) (a b : Formula) → AreMeant n (meanings (Binary op a b))
        → AreMeant n (meanings a) × AreMeant (n + taken a) (meanings b) × AreMeant (n + taken a + taken b) (meanings₂ op a b)
    two_meant n op a b h =
        let r = meant_split n (meanings a) (meanings b ++ meanings₂ op a b) h in
        let q : AreMeant (n + taken a) (meanings b ++ meanings₂ op a b) =
        subst (λ k. AreMeant (n + k) (meanings b ++ meanings₂ op a b)) (length-meanings a) r.1 in
        let v = meant_split (n + taken a) (meanings b) (meanings₂ op a b) q in
        (r.0, v.0, subst (λ k. AreMeant (n + taken a + k) (meanings₂ op a b)) (length-meanings b) v.1)

    pub stands : (f : Formula) (n : ℕ) → LettersAgree f → AreMeant n (meanings f) → Stands (residue z n f) (axioms z n f) f
    stands (Const b) n l h = (Same-self _, tt)
    stands (Letter p) n l h = (l p refl, tt)
    stands (Unary op a) n l h =
        let m = one_meant n op a h in
        let r = stands a n l m.0 in
        let s = stands₁ op (n + taken a) (residue z n a) a r.0 m.1 in
        (s.0, hold_append (axioms z n a) (axioms₁ z (n + taken a) op (residue z n a)) r.1 s.1)
    stands (Binary op a b) n l h =
        let m = two_meant n op a b h in
        let r = stands a n (λ p i. l p (inl i)) m.0 in
        let q = stands b (n + taken a) (λ p i. l p (inr i)) m.1 in
        let s = stands₂ op (n + taken a + taken b) (residue z n a) (residue z (n + taken a) b) a b r.0 q.0 m.2 in (
          s.0,
          hold_append (axioms z n a) (axioms z (n + taken a) b ++ axioms₂ z (n + taken a + taken b) op (residue z n a) (residue z (n + taken a) b)) r.1
              (hold_append (axioms z (n + taken a) b) (axioms₂ z (n + taken a + taken b) op (residue z n a) (residue z (n + taken a) b)) q.1 s.1),
        )

    -- a formula joined with others
    pub conjoined_from : (xs : List Formula) (f : Formula) → U (conjoined f xs) 0 → U f 0 × AllHold xs
    conjoined_from [] f h = (h, tt)
    conjoined_from (x ∷ xs) f h = let r = conjoined_from xs (Binary And f x) h in (r.0.0, (r.0.1, r.1))

    pub conjoined_to : (xs : List Formula) (f : Formula) → U f 0 → AllHold xs → U (conjoined f xs) 0
    conjoined_to [] f h k = h
    conjoined_to (x ∷ xs) f h k = conjoined_to xs (Binary And f x) (h, k.0) k.1

    pub hold_each : (xs : List Formula) (x : Formula) → AllHold xs → Contains xs x → U x 0
    hold_each [] x h c = absurd (Contains-nil x c)
    hold_each (y ∷ xs) x h c = elim (Contains-cons_cases y xs x c) [ inl e ↦ subst (λ g. U g 0) e h.0 | inr r ↦ hold_each xs x h.1 r ]

    moved : (f : Formula) (n : ℕ) (g : Formula) (m : ℕ) → (f ≡ g) × (n ≡ m) → Same P (U (residue z n f)) (T f) → Same P (U (residue z m g)) (T g)
    moved f n g m w s = subst (λ x. Same P (U (residue z m x)) (T x)) w.0 (subst (λ k. Same P (U (residue z k f)) (T f)) w.1 s)

    -- from the letters one by one
    pub are_meant : (k : ℕ) (xs : List Formula) → ((j : ℕ) → j < length xs → Same P (U (z (k + j))) (T (slice_index_or xs j (Const false)))) → AreMeant k xs
    are_meant k [] h = tt
    are_meant k (x ∷ xs) h = (
      let e : k + 0 ≡ k = omega arith in subst (λ j. Same P (U (z j)) (T x)) e (h 0 (omega arith)),
      are_meant (suc k) xs (λ j lt. let e : k + suc j ≡ suc k + j = omega arith in
          subst (λ i. Same P (U (z i)) (T (slice_index_or xs j (Const false)))) e (h (suc j) (omega arith))),
    )

    -- a part's residue holds where the part does
    pub part_stands : (f : Formula) (n : ℕ) (g : Formula) (m : ℕ) → IsPart f n g m → LettersAgree f → AreMeant n (meanings f) → Same P (U (residue z m g)) (T g)
    part_stands (Const b) n g m w l h = moved (Const b) n g m w (stands (Const b) n l h).0
    part_stands (Letter p) n g m w l h = moved (Letter p) n g m w (stands (Letter p) n l h).0
    part_stands (Unary op a) n g m (inl w) l h = moved (Unary op a) n g m w (stands (Unary op a) n l h).0
    part_stands (Unary op a) n g m (inr w) l h = part_stands a n g m w l (one_meant n op a h).0
    part_stands (Binary op a b) n g m (inl w) l h = moved (Binary op a b) n g m w (stands (Binary op a b) n l h).0
    part_stands (Binary op a b) n g m (inr (inl w)) l h = part_stands a n g m w (λ p i. l p (inl i)) (two_meant n op a b h).0
    part_stands (Binary op a b) n g m (inr (inr w)) l h = part_stands b (n + taken a) g m w (λ p i. l p (inr i)) (two_meant n op a b h).1
