-- The value of each operator at a new state, from the values that are kept.
use Rattle.std.proofs.Common.{◌≡◌, ℕ, zero, suc, ◌-◌, ◌<◌, ◌≤◌, ◌⊎◌, inl, inr, ◌↔◌, refl, sym, subst, ap, ◌∙◌, arith, true≢false, Bool, true, false, not, ◌&&◌}
use Rattle.std.proofs.Common.{◌||◌, nat_lt, List, [], ◌∷◌, ◌++◌, length, length-append, take, slice_index_or, IsTrue}
use Rattle.std.proofs.lemmas.Bool.{cases_lt, ltb-true, lt-ltb}
use Rattle.std.proofs.lemmas.List.{length-take, get_or-take}
use Rattle.ltl_syntax.specs.declared.node.UnaryOp.{UnaryOp}
use Rattle.ltl_syntax.specs.declared.node.BinaryOp.{BinaryOp}
use Rattle.ltl_syntax.specs.declared.node.UnaryOp.TheVariants.{Historically, HistoricallyIn, Not}
use Rattle.ltl_syntax.specs.declared.node.UnaryOp.TheVariants.{Once, OnceIn, WeakYesterday, Yesterday, YesterdayTimes}
use Rattle.ltl_syntax.specs.declared.node.BinaryOp.TheVariants.{And, Iff, Implies, Or, Since, Trigger}
use Rattle.ltl_syntax.specs.Shape.{Direction, Future, Past, Range, Step, Exactly, Between, Ever, Shape, Negation, Somewhere, Everywhere, shape}
use Rattle.ltl_syntax.specs.Formula.{Formula, Unary, Binary}
use Rattle.ltl_word.specs.declared.trace.Trace.TheVariants.{Finite}
use Rattle.ltl_word.specs.Trace.{Names, IsPosition}
use Rattle.ltl_word.specs.Claims.{Claim, Always', IsSomewhere, IsEverywhere}
use Rattle.ltl_word.specs.Holds.{Holds}
use Rattle.ltl_word.proofs.Decided.{Holds_decided, position_below}
use Rattle.ltl_word.proofs.Expansion.{IsClosed, since_in, since_out, trigger_in, trigger_out}
use Rattle.ltl_word.proofs.Steps.{ever_peels, some_first, every_first}
use Rattle.past_monitor.specs.Past.{IsPast}
use Rattle.past_monitor.specs.Kept.{AreLast, reach₁, reach₂, kept_in, kept_by, watched₁}
use Rattle.past_monitor.specs.Ring.{same, found_in}
use Rattle.past_monitor.specs.Part.{ring₁, ring₂, value₁, value₂, joining₁}
use Rattle.past_monitor.proofs.Prefix.{prefix}
use Rattle.past_monitor.proofs.Rings.{found_some, some_found}

and_is : (a b : Bool) → IsTrue (a && b) ↔ (IsTrue a × IsTrue b)
and_is true b = (λ h. (refl, h), λ w. w.1)
and_is false b = (λ h. absurd (cc), λ w. w.0)

or_is : (a b : Bool) → IsTrue (a || b) ↔ (IsTrue a ⊎ IsTrue b)
or_is true b = (λ h. inl refl, λ w. refl)
or_is false b = (λ h. inr h, λ w. elim w [ inl x ↦ absurd (cc) | inr y ↦ y ])

not_is : (a : Bool) → IsTrue (not a) ↔ (IsTrue a → ⊥)
not_is true = (λ h x. cc, λ h. absurd (h refl))
not_is false = (λ h x. cc, λ h. refl)

no_truth : (P : Type 0) → IsTrue false → P
no_truth P e = absurd (true≢false (sym e))

implies_is : (v w : Bool) (P Q : Type 0) → (IsTrue v ↔ P) → (IsTrue w ↔ Q) → IsTrue (not v || w) ↔ (P → Q)
implies_is true w P Q r s = (λ x h. s.0 x, λ f. s.1 (f (r.0 refl)))
implies_is false w P Q r s = (λ x h. no_truth Q (r.1 h), λ f. refl)

iff_is : (v w : Bool) (P Q : Type 0) → (IsTrue v ↔ P) → (IsTrue w ↔ Q) → IsTrue ((v && w) || (not v && not w)) ↔ (P ↔ Q)
iff_is true true P Q r s = (λ x. (λ h. s.0 refl, λ h. r.0 refl), λ f. refl)
iff_is true false P Q r s = (λ x. no_truth (P ↔ Q) x, λ f. s.1 (f.0 (r.0 refl)))
iff_is false true P Q r s = (λ x. no_truth (P ↔ Q) x, λ f. r.1 (f.1 (s.0 refl)))
iff_is false false P Q r s = (λ x. (λ h. no_truth Q (r.1 h), λ h. no_truth P (s.1 h)), λ f. refl)

-- a list's value behind its end is the default
no_value : (values : List Bool) (j : ℕ) (d : Bool) → length values ≤ j → slice_index_or values j d ≡ d
no_value [] j d h = refl
no_value (x ∷ values) zero d h = absurd (omega arith)
no_value (x ∷ values) (suc j) d h = no_value values j d (omega arith)

any_default : (values : List Bool) (j : ℕ) → j < length values → slice_index_or values j true ≡ slice_index_or values j false
any_default [] j h = absurd (omega arith)
any_default (x ∷ values) zero h = refl
any_default (x ∷ values) (suc j) h = any_default values j (omega arith)

-- a state behind the states t
module _ (t : List Names) (state : Names) where
  abbrev n : ℕ
  n = length t

  abbrev U : Formula → Claim
  U = Holds (Finite (t ++ state ∷ []))

  abbrev P : Claim
  P = IsPosition (Finite (t ++ state ∷ []))

  closed : IsClosed P
  closed = position_below (Finite (t ++ state ∷ []))

  long : length (t ++ state ∷ []) ≡ suc (length t)
  long = omega (arith, length-append t (state ∷ []))

  some : 0 < length (t ++ state ∷ [])
  some = omega (arith, length-append t (state ∷ []))

  -- the kept values of a formula that does not look ahead, with its value at the new state in front
  module _ (g : Formula) (past : IsPast g) (k : ℕ) (values : List Bool) (kept : AreLast t g k values) (v : Bool) (right : IsTrue v ↔ U g n) where
    here : (j : ℕ) → j < length values → IsTrue (slice_index_or values j false) ↔ U g (n - suc j)
    here j lt =
        let c = kept.count in
        let e = kept.each j lt in
        let s = prefix t (state ∷ []) g past in
        (λ x. s.back (n - suc j) (omega arith) (e.0 x), λ x. e.1 (s.to (n - suc j) (omega arith) x))

    back_false : (j : ℕ) → j ≤ k → IsTrue (slice_index_or (v ∷ values) j false) ↔ ((j ≤ n) × U g (n - j))
    back_false zero le = let e : n - 0 ≡ n = omega arith in (λ x. (omega arith, subst (U g) (sym e) (right.0 x)), λ w. right.1 (subst (U g) e w.1))
    back_false (suc j) le =
        let c = kept.count in
        elim (cases_lt j (length values)) [
          | inl lt ↦ let h = here j lt in (λ x. (omega arith, h.0 x), λ w. h.1 w.1)
          | inr ge ↦ let d = no_value values j false ge in (λ x. let y : IsTrue false = subst IsTrue d x in absurd (cc), λ w. absurd (omega arith))
        ]

    back_true : (j : ℕ) → j ≤ k → IsTrue (slice_index_or (v ∷ values) j true) ↔ (j ≤ n → U g (n - j))
    back_true zero le = let e : n - 0 ≡ n = omega arith in (λ x l. subst (U g) (sym e) (right.0 x), λ f. right.1 (subst (U g) e (f (omega arith))))
    back_true (suc j) le =
        let c = kept.count in
        elim (cases_lt j (length values)) [
          | inl lt ↦ let h = here j lt in let d = any_default values j lt in (λ x l. h.0 (subst IsTrue d x), λ f. subst IsTrue (sym d) (h.1 (f (omega arith))))
          | inr ge ↦ let d = no_value values j true ge in (λ x l. absurd (omega arith), λ f. subst IsTrue (sym d) refl)
        ]

    -- the values that are kept next
    pub kept_next : AreLast (t ++ state ∷ []) g k (take k (v ∷ values))
    kept_next =
        let c = kept.count in
        let l = long in
        record {
          count = omega (arith, length-take k (v ∷ values));
          each = λ j lt.
              let m = length-take k (v ∷ values) in
              let low : j < k = omega arith in
              let high : j ≤ length t = omega arith in
              let b = back_false j (omega arith) in
              let d = get_or-take k (v ∷ values) j false low in
              let e : length (t ++ state ∷ []) - suc j ≡ length t - j = omega arith in
              (λ x. subst (U g) (sym e) (b.0 (subst IsTrue d x)).1, λ x. subst IsTrue (sym d) (b.1 (high, subst (U g) e x)));
        }

    abbrev front : List Bool
    front = v ∷ values

    -- what they say of the steps back
    times_back : (j : ℕ) → j ≤ k → IsTrue (slice_index_or front j false) ↔ IsSomewhere Always' Past (Exactly j) (U g) n
    times_back j le = let b = back_false j le in (
      λ x. let w = b.0 x in (n - j, omega arith, w.1),
      λ w. b.1 (omega arith, let e : w.0 ≡ n - j = omega arith in subst (U g) e w.2),
    )

    -- the values reach no further back
    within : length front ≤ suc k
    within = omega (arith, kept.count)

    there : (j : ℕ) (d : Bool) → (slice_index_or front j d ≡ d → ⊥) → j ≤ k
    there j d other = elim (cases_lt j (suc k)) [ inl lt ↦ omega arith | inr ge ↦ absurd (other (no_value front j d (omega (arith, within)))) ]

    once_back : (m : ℕ) → IsTrue (nat_lt 0 (found_in true m front)) ↔ IsSomewhere Always' Past (Between m k) (U g) n
    once_back m = (
      λ x.
          let w = found_some (same true) false refl m front (ltb-true 0 (found_in true m front) x) in
          let low = there w.0 false (λ e. true≢false (sym w.2 ∙ e)) in
          let b = (back_false w.0 low).0 w.2 in
          (n - w.0, (omega (arith, w.1, b.0), omega arith), b.1),
      λ w.
          let e : w.0 ≡ n - (n - w.0) = omega (arith, w.1) in
          let b = (back_false (n - w.0) (omega (arith, w.1))).1 (omega arith, subst (U g) e w.2) in
          lt-ltb 0 (found_in true m front) (some_found (same true) false refl m front (n - w.0) (omega (arith, w.1)) b),
    )

    turned : (b : Bool) → (not b ≡ true → ⊥) → IsTrue b
    turned true no' = refl
    turned false no' = absurd (no' refl)

    historically_back : (m : ℕ) → IsTrue (not (nat_lt 0 (found_in false m front))) ↔ IsEverywhere Always' Past (Between m k) (U g) n
    historically_back m = let s = not_is (nat_lt 0 (found_in false m front)) in (
      λ x j far.
          let e : n - (n - j) ≡ j = omega arith in
          let seen = turned (slice_index_or front (n - j) true)
          (λ f. s.0 x (lt-ltb 0 (found_in false m front) (some_found (same false) true refl m front (n - j) (omega arith) f))) in
          subst (U g) e ((back_true (n - j) (omega arith)).0 seen (omega arith)),
      λ f. s.1 (λ x.
          let w = found_some (same false) true refl m front (ltb-true 0 (found_in false m front) x) in
          let low = there w.0 true (λ e. true≢false (sym w.2 ∙ ap not e)) in
          let b = (back_true w.0 low).1 (λ l. f (n - w.0) (omega (arith, w.1), omega arith)) in
          true≢false (sym w.2 ∙ ap not b)),
    )

  -- the value at the last position, where one is kept
  module _ (g : Formula) (past : IsPast g) (values : List Bool) (kept : AreLast t g 1 values) where
    last_false : IsTrue (slice_index_or values 0 false) ↔ IsSomewhere Always' Past Step (U g) n
    last_false =
        let c = kept.count in
        let s = prefix t (state ∷ []) g past in
        elim (cases_lt 0 (length values)) [
          | inl lt ↦ let e = kept.each 0 lt in (
            λ x. (length t - 1, omega arith, s.back (length t - 1) (omega arith) (e.0 x)),
            λ w. e.1 (let d : w.0 ≡ length t - 1 = omega arith in s.to (length t - 1) (omega arith) (subst (U g) d w.2)),
          )
          | inr ge ↦ let d = no_value values 0 false ge in (λ x. let y : IsTrue false = subst IsTrue d x in absurd (cc), λ w. absurd (omega arith))
        ]

    last_true : IsTrue (slice_index_or values 0 true) ↔ IsEverywhere Always' Past Step (U g) n
    last_true =
        let c = kept.count in
        let s = prefix t (state ∷ []) g past in
        elim (cases_lt 0 (length values)) [
          | inl lt ↦ let e = kept.each 0 lt in let d = any_default values 0 lt in (
            λ x j i. let f : length t - 1 ≡ j = omega arith in subst (U g) f (s.back (length t - 1) (omega arith) (e.0 (subst IsTrue d x))),
            λ f. subst IsTrue (sym d) (e.1 (s.to (length t - 1) (omega arith) (f (length t - 1) (omega arith)))),
          )
          | inr ge ↦ let d = no_value values 0 true ge in (λ x j i. absurd (omega arith), λ f. subst IsTrue (sym d) refl)
        ]

  -- the value of an operator at the new state
  pub one_right : (op : UnaryOp) (a : Formula) (values : List Bool) (v : Bool) → IsPast (Unary op a) → AreLast t (watched₁ op a) (reach₁ op) values
      → (IsTrue v ↔ U a n) → IsTrue (value₁ op (ring₁ op values) v) ↔ U (Unary op a) n
  one_right Not a values v p k r = let e = not_is v in (λ x h. e.0 x (r.1 h), λ h. e.1 (λ x. h (r.0 x)))
  one_right Yesterday a values v p k r = last_false a p.1 values k
  one_right WeakYesterday a values v p k r = last_true a p.1 values k
  one_right Once a values v p k r =
      let o = or_is v (slice_index_or values 0 false) in
      let l = last_false (Unary Once a) p values k in
      let first = some_first P (U a) closed Past ever_peels n (omega arith) in (
        λ x. first.1 (elim (o.0 x) [ inl y ↦ inl (r.0 y) | inr y ↦ inr (l.0 y) ]),
        λ h. o.1 (elim (first.0 h) [ inl y ↦ inl (r.1 y) | inr w ↦ inr (l.1 w) ]),
      )
  one_right Historically a values v p k r =
      let o = and_is v (slice_index_or values 0 true) in
      let l = last_true (Unary Historically a) p values k in
      let first = every_first P (U a) closed Past ever_peels n (omega arith) in (
        λ x. let w = o.0 x in first.1 (r.0 w.0, l.0 w.1),
        λ h. let w = first.0 h in o.1 (r.1 w.0, l.1 w.1),
      )
  one_right (YesterdayTimes m) a values v p k r = times_back a p.1 m values k v r m (omega arith)
  one_right (OnceIn m j) a values v p k r = once_back a p.1 j values k v r m
  one_right (HistoricallyIn m j) a values v p k r = historically_back a p.1 j values k v r m
  one_right op a values v p k r = absurd p.0

  pub two_right : (op : BinaryOp) (a b : Formula) (values : List Bool) (v w : Bool) → IsPast (Binary op a b) → AreLast t (Binary op a b) (reach₂ op) values
      → (IsTrue v ↔ U a n) → (IsTrue w ↔ U b n) → IsTrue (value₂ op (ring₂ op values) v w) ↔ U (Binary op a b) n
  two_right And a b values v w p k r s = let e = and_is v w in (λ x. let y = e.0 x in (r.0 y.0, s.0 y.1), λ h. e.1 (r.1 h.0, s.1 h.1))
  two_right Or a b values v w p k r s = let e = or_is v w in
      (λ x. elim (e.0 x) [ inl y ↦ inl (r.0 y) | inr y ↦ inr (s.0 y) ], λ h. e.1 (elim h [ inl y ↦ inl (r.1 y) | inr y ↦ inr (s.1 y) ]))
  two_right Implies a b values v w p k r s = implies_is v w (U a n) (U b n) r s
  two_right Iff a b values v w p k r s = iff_is v w (U a n) (U b n) r s
  two_right Since a b values v w p k r s =
      let o = or_is w (v && slice_index_or values 0 false) in
      let e = and_is v (slice_index_or values 0 false) in
      let l = last_false (Binary Since a b) p values k in (
        λ x. since_in (U a) (U b) n (elim (o.0 x) [ inl y ↦ inl (s.0 y) | inr y ↦ let z = e.0 y in inr (r.0 z.0, l.0 z.1) ]),
        λ h. o.1 (elim (since_out (U a) (U b) n h) [ inl y ↦ inl (s.1 y) | inr z ↦ inr (e.1 (r.1 z.0, l.1 z.1)) ]),
      )
  two_right Trigger a b values v w p k r s =
      let o = and_is w (v || slice_index_or values 0 true) in
      let e = or_is v (slice_index_or values 0 true) in
      let l = last_true (Binary Trigger a b) p values k in (
        λ x. let y = o.0 x in trigger_in (U a) (U b) n (s.0 y.0, elim (e.0 y.1) [ inl z ↦ inl (r.0 z) | inr z ↦ inr (l.0 z) ]),
        λ h. let y = trigger_out (U a) (U b) n (Holds_decided (Finite (t ++ state ∷ [])) some a n) h in
            o.1 (s.1 y.0, e.1 (elim y.1 [ inl z ↦ inl (r.1 z) | inr f ↦ inr (l.1 f) ])),
      )
  two_right op a b values v w p k r s = absurd p.0

-- what holds of the operand and of its own holds of what is kept
in_kept : {A B : Type 0} (R : A → B → Type 0) (d : Direction) (r : Range) (a own : A) (b mine : B) → R a b → R own mine
    → R (kept_in d r a own) (kept_in d r b mine)
in_kept R Future r a own b mine x y = y
in_kept R Past Step a own b mine x y = x
in_kept R Past (Exactly n) a own b mine x y = x
in_kept R Past (Between m n) a own b mine x y = x
in_kept R Past Ever a own b mine x y = y

by_kept : {A B : Type 0} (R : A → B → Type 0) (s : Shape) (a own : A) (b mine : B) → R a b → R own mine → R (kept_by s a own) (kept_by s b mine)
by_kept R Negation a own b mine x y = y
by_kept R (Somewhere d r) a own b mine x y = in_kept R d r a own b mine x y
by_kept R (Everywhere d r) a own b mine x y = in_kept R d r a own b mine x y

-- the value that joins the ring is that of the formula whose values are kept
pub joins_right : (t : List Names) (state : Names) (op : UnaryOp) (a : Formula) (v w : Bool) → (IsTrue v ↔ U t state a (length t))
    → (IsTrue w ↔ U t state (Unary op a) (length t)) → IsTrue (joining₁ op v w) ↔ U t state (watched₁ op a) (length t)
joins_right t state op a v w r s = by_kept (λ f x. IsTrue x ↔ U t state f (length t)) (shape op) a (Unary op a) v w r s

-- the formula whose values are kept does not look ahead either
pub past_watched : (op : UnaryOp) (a : Formula) → IsPast (Unary op a) → IsPast (watched₁ op a)
past_watched op a p = by_kept (λ f (x : Bool). IsPast f) (shape op) a (Unary op a) true true p.1 p

-- nothing is kept of no states
pub none_last : (f : Formula) (n : ℕ) → AreLast [] f n []
none_last f n = record { count = omega arith; each = λ j lt. absurd (omega arith) }
