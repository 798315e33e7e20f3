-- A pruned accepted run gives a shorter accepted run.
use Rattle.std.proofs.Common.{◌≡◌, ℕ, zero, suc, ◌+◌, ◌-◌, ◌<◌, ◌≤◌, ◌⊎◌, inl, inr, subst, ap, arith, sym, refl, ◌∙◌, Contains, IsTrue, IsFalse, ◌&&◌}
use Rattle.ltl_syntax.specs.declared.node.Kind.{Kind}
use Rattle.ltl_syntax.specs.declared.node.Kind.TheVariants as Kinds
use Rattle.std.proofs.lemmas.Bool.{cases_lt, or_cases, and_parts}
use Rattle.ltl_syntax.specs.Formula.{Formula}
use Rattle.ltl_closure.specs.Norm.{Norm, NConst, NLetter, NNotLetter, NAnd, NOr, NNext, NWeakNext, NYesterday, NWeakYesterday, NUntil, NRelease, NSince}
use Rattle.ltl_closure.specs.Norm.{NTrigger}
use Rattle.ltl_closure.specs.Closure.{closure, nexts, eventualities, is_next, is_eventuality}
use Rattle.ltl_closure.specs.Run.{RunState, States, IsRun, val, carry, spliced, rotated, is_pending, is_fulfilled, IsFulfilledIn, IsAccepted, Empty, Loop, End}
use Rattle.ltl_closure.specs.Run.{IsPrunedAt, Triple, Pair}
use Rattle.ltl_run.specs.TraceOf.{ClosesTo}
use Rattle.ltl_closure.proofs.Lists.{Contains-filter, Contains-from_filter}
use Rattle.ltl_run.proofs.Carry.{OneCarry-from}
use Rattle.ltl_run.proofs.Splicing.{spliced_low, spliced_high, run_prefix, spliced_runs, spliced_last}
use Rattle.ltl_run.proofs.Looping.{until_request}

until_of : (e : Norm) → IsTrue (is_eventuality e) → (a b : Norm) × (e ≡ NUntil a b)
until_of (NUntil a b) h = (a, b, refl)
until_of other h = cc

-- the request of an eventuality is a next request
pub request_in : (f : Formula) (e : Norm) → Contains (eventualities f) e → Contains (nexts f) (NNext e)
request_in f e h =
    let w = Contains-from_filter is_eventuality (closure f) e h in
    let u = until_of e w.1 in
    Contains-filter is_next (closure f) (NNext e)
    (subst (λ z. Contains (closure f) (NNext z)) (sym u.2) (until_request f u.0 u.1 (subst (Contains (closure f)) u.2 w.0))) refl

-- one carry, one answer to whether an eventuality is pending
pub one_pending : (f : Formula) (s u : RunState) → carry f s ≡ carry f u → (e : Norm) → Contains (eventualities f) e → is_pending s e ≡ is_pending u e
one_pending f s u h e c = (OneCarry-from f s u h).next (NNext e) (request_in f e c)

step_of_until : (s : RunState) (e a b : Norm) → e ≡ NUntil a b → IsTrue (val s e) → IsTrue (is_fulfilled s e) ⊎ IsTrue (is_pending s e)
step_of_until s e a b i v =
    subst (λ z. IsTrue (is_fulfilled s z) ⊎ IsTrue (is_pending s z)) (sym i)
    (elim (or_cases (val s b) (val s a && s (NNext (NUntil a b))) (subst (λ z. IsTrue (val s z)) i v)) [
      | inl now ↦ inl now
      | inr both ↦ inr (and_parts (val s a) (s (NNext (NUntil a b))) both).1
    ])

module _ (f : Formula) (k : ℕ) (r : States) (run : IsRun f k r) where
  pending_step : (n : ℕ) → n < k → (e : Norm) → Contains (eventualities f) e → IsTrue (is_pending (r n) e)
      → IsTrue (is_fulfilled (r (suc n)) e) ⊎ IsTrue (is_pending (r (suc n)) e)
  pending_step n lt e c h =
      let w = Contains-from_filter is_eventuality (closure f) e c in
      let u = until_of e w.1 in
      step_of_until (r (suc n)) e u.0 u.1 u.2 (sym (run.next n lt (NNext e) (request_in f e c)) ∙ h)

  -- what is pending is fulfilled on the way, or pending at the end of it
  pub pending_on : (e : Norm) → Contains (eventualities f) e → (fuel n : ℕ) → n + fuel ≤ k → IsTrue (is_pending (r n) e)
      → IsFulfilledIn r n (n + fuel) e ⊎ IsTrue (is_pending (r (n + fuel)) e)
  pending_on e c zero n le h =
      let d : n ≡ n + zero = omega arith in
      inr (subst (λ m. IsTrue (is_pending (r m) e)) d h)
  pending_on e c (suc fuel) n le h =
      let d : suc n + fuel ≡ n + suc fuel = omega arith in
      elim (pending_step n (omega arith) e c h) [
        | inl now ↦ inl (suc n, omega arith, omega arith, now)
        | inr on ↦ elim (pending_on e c fuel (suc n) (omega arith) on) [
          | inl w ↦ inl (w.0, omega arith, omega arith, w.3)
          | inr x ↦ inr (subst (λ m. IsTrue (is_pending (r m) e)) d x)
        ]
      ]

  pub pending_to : (e : Norm) → Contains (eventualities f) e → (n m : ℕ) → n ≤ m → m ≤ k → IsTrue (is_pending (r n) e)
      → IsFulfilledIn r n m e ⊎ IsTrue (is_pending (r m) e)
  pending_to e c n m le below h =
      let d : n + (m - n) ≡ m = omega arith in
      subst (λ x. IsFulfilledIn r n x e ⊎ IsTrue (is_pending (r x) e)) d (pending_on e c (m - n) n (omega arith) h)

  -- a shorter accepted run
  abbrev pub HasShorter : Kind → Type 0
  HasShorter kind = (m : ℕ) × (m < k) × (u : States) × IsRun f m u × IsAccepted f u m kind

  -- the states b+1 to i are cut
  module _ (b i : ℕ) (lt : b < i) (le : i ≤ k) (one : carry f (r b) ≡ carry f (r i)) where
    pub cutting : IsRun f (b + (k - i)) (spliced r b r i)
    cutting = spliced_runs f b r (run_prefix f k r run b (omega arith)) k r run i le one

    pub cutting_last : carry f (spliced r b r i (b + (k - i))) ≡ carry f (r k)
    cutting_last = spliced_last f b r (run_prefix f k r run b (omega arith)) k r run i le one

    -- a state that stays has its place
    kept_low : (n : ℕ) → n ≤ b → spliced r b r i n ≡ r n
    kept_low n h = spliced_low r b r i n h

    kept_high : (n : ℕ) → i < n → spliced r b r i (n - (i - b)) ≡ r n
    kept_high n h =
        let e : n - (i - b) - b + i ≡ n = omega arith in
        spliced_high r b r i (n - (i - b)) (omega arith) ∙ ap r e

    shorter_empty : ((e : Norm) → Contains (nexts f) e → IsFalse (r k e)) → HasShorter Kinds.Infinite
    shorter_empty none = (b + (k - i), omega arith, spliced r b r i, cutting, Empty (λ e c. (OneCarry-from f _ (r k) cutting_last).next e c ∙ none e c))

    shorter_end : ((a : Norm) → Contains (closure f) (NNext a) → IsFalse (r k (NNext a))) → HasShorter Kinds.Finite
    shorter_end none = (
      b + (k - i),
      omega arith,
      spliced r b r i,
      cutting,
      End (λ a c. (OneCarry-from f _ (r k) cutting_last).next (NNext a) (Contains-filter is_next (closure f) (NNext a) c refl) ∙ none a c),
    )

    module _ (l : ℕ) (below : l < k) (closes : carry f (r l) ≡ carry f (r k))
        (done : (e : Norm) → Contains (eventualities f) e → IsTrue (is_pending (r k) e) → IsFulfilledIn r l k e) where
      -- the loop begins at i or later
      shorter_before : i ≤ l → HasShorter Kinds.Infinite
      shorter_before from = (
        b + (k - i),
        omega arith,
        spliced r b r i,
        cutting,
        Loop (b + (l - i)) (omega arith) (at_l ∙ (closes ∙ sym cutting_last)) (λ e c p.
            let w = done e c (sym (one_pending f _ (r k) cutting_last e c) ∙ p) in
            (w.0 - (i - b), omega arith, omega arith, subst (λ s. IsTrue (is_fulfilled s e)) (sym (kept_high w.0 (omega arith))) w.3)),
      )
        where
          at_l : carry f (spliced r b r i (b + (l - i))) ≡ carry f (r l)
          at_l = spliced_last f b r (run_prefix f k r run b (omega arith)) l r (run_prefix f k r run l (omega arith)) i from one

      -- the loop begins at a or before; a, b and i have one carry
      shorter_after : (a : ℕ)
          → a < b → l ≤ a → ((e : Norm) → Contains (eventualities f) e → IsTrue (is_pending (r i) e) → IsFulfilledIn r b i e → IsFulfilledIn r a b e)
          → HasShorter Kinds.Infinite
      shorter_after a ab la pruned = (
        b + (k - i),
        omega arith,
        spliced r b r i,
        cutting,
        Loop l (omega arith) (ap (carry f) (kept_low l (omega arith)) ∙ (closes ∙ sym cutting_last)) fulfilled,
      )
        where
          low : (e : Norm) → IsFulfilledIn r l b e → IsFulfilledIn (spliced r b r i) l (b + (k - i)) e
          low e w = (w.0, w.1, omega arith, subst (λ s. IsTrue (is_fulfilled s e)) (sym (kept_low w.0 w.2)) w.3)

          fulfilled : (e : Norm) → Contains (eventualities f) e → IsTrue (is_pending (spliced r b r i (b + (k - i))) e)
              → IsFulfilledIn (spliced r b r i) l (b + (k - i)) e
          fulfilled e c p =
              let at_k : IsTrue (is_pending (r k) e) = sym (one_pending f _ (r k) cutting_last e c) ∙ p in
              let w = done e c at_k in
              elim (cases_lt i w.0) [
                | inl late ↦ (w.0 - (i - b), omega arith, omega arith, subst (λ s. IsTrue (is_fulfilled s e)) (sym (kept_high w.0 late)) w.3)
                | inr early ↦ elim (cases_lt b w.0) [
                  | inr within ↦ (w.0, w.1, omega arith, subst (λ s. IsTrue (is_fulfilled s e)) (sym (kept_low w.0 within)) w.3)
                  | inl between ↦ elim (pending_to e c l b (omega arith) (omega arith) (one_pending f (r l) (r k) closes e c ∙ at_k)) [
                    | inl x ↦ low e x
                    | inr at_b ↦
                        let v = pruned e c (sym (one_pending f (r b) (r i) one e c) ∙ at_b) (w.0, between, early, w.3) in
                        low e (v.0, omega arith, v.2, v.3)
                  ]
                ]
              ]

  -- the loop begins between a and i, which have one carry
  module _ (a i l : ℕ) (al : a < l) (li : l < i) (le : i ≤ k) (one : carry f (r a) ≡ carry f (r i)) (closes : carry f (r l) ≡ carry f (r k))
      (done : (e : Norm) → Contains (eventualities f) e → IsTrue (is_pending (r k) e) → IsFulfilledIn r l k e) where
    m : ℕ
    m = a + (k - i)

    first_part : IsRun f m (spliced r a r i)
    unfolding m
    first_part = spliced_runs f a r (run_prefix f k r run a (omega arith)) k r run i le one

    first_last : carry f (spliced r a r i m) ≡ carry f (r k)
    unfolding m
    first_last = spliced_last f a r (run_prefix f k r run a (omega arith)) k r run i le one

    abbrev turned : States
    turned = rotated r a i k l

    turned_runs : IsRun f (m + (i - l)) turned
    unfolding m
    turned_runs = spliced_runs f m (spliced r a r i) first_part i r (run_prefix f k r run i le) l (omega arith) (first_last ∙ sym closes)

    turned_last : carry f (turned (m + (i - l))) ≡ carry f (r i)
    unfolding m
    turned_last = spliced_last f m (spliced r a r i) first_part i r (run_prefix f k r run i le) l (omega arith) (first_last ∙ sym closes)

    turned_low : (n : ℕ) → n ≤ a → turned n ≡ r n
    unfolding m
    turned_low n h = spliced_low (spliced r a r i) m r l n (omega arith) ∙ spliced_low r a r i n h

    turned_middle : (n : ℕ) → i < n → n ≤ k → turned (n - (i - a)) ≡ r n
    unfolding m
    turned_middle n h h' =
        let e : n - (i - a) - a + i ≡ n = omega arith in
        spliced_low (spliced r a r i) m r l (n - (i - a)) (omega arith) ∙ (spliced_high r a r i (n - (i - a)) (omega arith) ∙ ap r e)

    turned_high : (n : ℕ) → l < n → n ≤ i → turned (n - l + m) ≡ r n
    unfolding m
    turned_high n h h' =
        let e : n - l + m - m + l ≡ n = omega arith in
        spliced_high (spliced r a r i) m r l (n - l + m) (omega arith) ∙ ap r e

    turned_fulfilled : (e : Norm) → (n : ℕ) → l < n → n ≤ k → IsTrue (is_fulfilled (r n) e) → IsFulfilledIn turned a (m + (i - l)) e
    unfolding m
    turned_fulfilled e n low high h = elim (cases_lt i n) [
      | inl late ↦ (n - (i - a), omega arith, omega arith, subst (λ s. IsTrue (is_fulfilled s e)) (sym (turned_middle n late high)) h)
      | inr early ↦ (n - l + m, omega arith, omega arith, subst (λ s. IsTrue (is_fulfilled s e)) (sym (turned_high n low early)) h)
    ]

    turned_closes : ClosesTo f turned a (m + (i - l))
    unfolding m
    turned_closes = record {
      earlier = omega arith;
      one = ap (carry f) (turned_low a (omega arith)) ∙ (one ∙ sym turned_last);
      fulfilled = λ e c p.
          let at_i : IsTrue (is_pending (r i) e) = sym (one_pending f _ (r i) turned_last e c) ∙ p in
          elim (pending_to e c i k le (omega arith) at_i) [
            | inl w ↦ turned_fulfilled e w.0 (omega arith) w.2 w.3
            | inr at_k ↦ let w = done e c at_k in turned_fulfilled e w.0 w.1 w.2 w.3
          ];
    }

    shorter_turned : HasShorter Kinds.Infinite
    unfolding m
    shorter_turned = let c = turned_closes in (m + (i - l), omega arith, turned, turned_runs, Loop a c.earlier c.one c.fulfilled)

    -- its last state, counted without the states that are left out
    pub rotating : IsRun f (a + (k - l)) turned × ClosesTo f turned a (a + (k - l))
    unfolding m
    rotating =
        let e : m + (i - l) ≡ a + (k - l) = omega arith in
        subst (λ n. IsRun f n turned × ClosesTo f turned a n) e (turned_runs, turned_closes)

pub shorter : (f : Formula) (k : ℕ) (r : States) → (run : IsRun f k r) (kind : Kind) → IsAccepted f r k kind → (i : ℕ) → i ≤ k → IsPrunedAt f r i kind
    → HasShorter f k r run kind
shorter f k r run kind (Empty none) i le (Triple a b ab bi one two pruned) = shorter_empty f k r run b i bi le two none
shorter f k r run kind (Loop l lt closes done) i le (Triple a b ab bi one two pruned) = elim (cases_lt l i) [
  | inr late ↦ shorter_before f k r run b i bi le two l lt closes done late
  | inl early ↦ elim (cases_lt a l) [
    | inl between ↦ shorter_turned f k r run a i l between early le (one ∙ two) closes done
    | inr before ↦ shorter_after f k r run b i bi le two l lt closes done a ab before pruned
  ]
]
shorter f k r run kind (End none) i le (Pair j ji one) = shorter_end f k r run j i ji le one none
