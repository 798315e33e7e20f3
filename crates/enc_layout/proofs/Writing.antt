-- The assignment that a run gives makes the clauses true.
use Rattle.std.proofs.Common.{◌≡◌, ℕ, zero, suc, ◌<◌, ◌≤◌, Bool, true, false, not, ◌&&◌, ◌||◌, IsTrue, IsFalse, inl, inr, refl, arith, ◌∙◌, sym, subst, List}
use Rattle.std.proofs.Common.{[], ◌∷◌, ◌++◌, length, Contains, flat_map, if◌then◌else◌}
use Rattle.std.specs.Prelude.{nat_lt, filter}
use Rattle.std.specs.List.{AllByRecursion as Each}
use Rattle.std.proofs.lemmas.Bool.{or_left, cases_lt, ltb-true, ltb-false}
use Rattle.std.proofs.lemmas.List.Elements.{Contains-get_or}
use Rattle.ltl_syntax.specs.declared.node.Kind.{Kind}
use Rattle.ltl_syntax.specs.declared.node.Kind.TheVariants as Kinds
use Rattle.ltl_syntax.specs.Formula.{Formula}
use Rattle.ltl_closure.specs.Norm.{Norm, NConst, NLetter, NNotLetter, NAnd, NOr, NNext, NWeakNext, NYesterday, NWeakYesterday, NUntil, NRelease, NSince}
use Rattle.ltl_closure.specs.Norm.{NTrigger, pos_of}
use Rattle.ltl_closure.specs.Closure.{closure, nexts, yesterdays, eventualities, argument, is_next, is_yesterday, is_eventuality}
use Rattle.ltl_closure.specs.Run.{RunState, States, IsRun, val, request_of, right_of, is_pending, is_fulfilled, IsAccepted, Empty, Loop, End, IsPrunedAt, Pair}
use Rattle.ltl_closure.proofs.Known.{next_in, yesterday_in, eventuality_in}
use Rattle.enc_layout.specs.Pairs.{IsNew}
use Rattle.ltl_closure.proofs.Lists.{Contains-here, Contains-there, Contains-from_filter}
use Rattle.ltl_closure.specs.Keys.{needs}
use Rattle.ltl_closure.proofs.Entries.{closure_root, closure_closed}
use Rattle.ltl_closure.proofs.Places.{entry_place}
use Rattle.ltl_word.proofs.Search.{¬_decided, first_or_none}
use Rattle.enc_layout.proofs.Pairing.{triple_from_pair}
use Rattle.enc_layout.specs.Letters.{Meaning, Unpruned, Here, Accepted, EmptyAt, Repeated, Seen, Equal, LoopTo, Differs, Fulfilled, New, below}
use Rattle.enc_layout.specs.Clauses.{Clause, Plus, Minus, clause_true, letter_of, carried, carried_letter, eventuality, chain_part, gates_part, gate, start}
use Rattle.enc_layout.specs.Clauses.{next_clauses, before_clauses, links_part, place_clauses, equal_clause, fulfilled_clauses, loop_clause, closing_clauses}
use Rattle.enc_layout.specs.Clauses.{pair_clauses, pairs_part, is_strong_next, acceptance_part, seen_clauses, new_clauses, pruned_clause, pruning_part}
use Rattle.enc_layout.specs.Clauses.{step_clauses, clauses_through}
use Rattle.enc_layout.proofs.Each.{Each-append, Each-below, Each-flat_map, Each-map}
use Rattle.enc_layout.proofs.Gates.{first_child, second_child}
use Rattle.enc_layout.proofs.Carries.{next_value, place_of, argument_in, right_in, carried_in, carried_from, carried_same, below_some}
use Rattle.enc_layout.proofs.Meanings.{carried_at, same_decided, Means, new_decided}

-- a clause from what its literals say
imp : (a rest : Bool) → (IsTrue a → IsTrue rest) → IsTrue (not a || rest)
imp true rest h = h refl
imp false rest h = refl

ors : (a rest : Bool) → (IsFalse a → IsTrue rest) → IsTrue (a || rest)
ors true rest h = refl
ors false rest h = h refl

unless : (a : Bool) → (IsTrue a → ⊥) → IsTrue (not a || false)
unless a h = imp a false (λ k. absurd (h k))

only : (a : Bool) → IsTrue a → IsTrue (a || false)
only a h = or_left a false h

clash : (a : Bool) → IsTrue a → IsFalse a → ⊥
clash a h k = cc

same_bool : (a b : Bool) → (IsTrue a → IsTrue b) → (IsTrue b → IsTrue a) → a ≡ b
same_bool true true h k = refl
same_bool true false h k = sym (h refl)
same_bool false true h k = k refl
same_bool false false h k = refl

-- the clauses of gates, over values
module _ (P : Clause → Type 0) where
  pub if_each : (b : Bool) (xs ys : List Clause) → (b ≡ true → Each P xs) → (b ≡ false → Each P ys) → Each P (if b then xs else ys)
  if_each true xs ys h k = h refl
  if_each false xs ys h k = k refl

  pub join6 : (a b c d e g : List Clause) → Each P a → Each P b → Each P c → Each P d → Each P e → Each P g → Each P (a ++ (b ++ (c ++ (d ++ (e ++ g)))))
  join6 a b c d e g h1 h2 h3 h4 h5 h6 =
      Each-append P a (b ++ (c ++ (d ++ (e ++ g)))) h1
      (Each-append P b (c ++ (d ++ (e ++ g))) h2
      (Each-append P c (d ++ (e ++ g)) h3
      (Each-append P d (e ++ g) h4
      (Each-append P e g h5 h6))))

strong_true : (g a b r x y z : Bool) → g ≡ (y || x && z) → a ≡ x → b ≡ y → r ≡ z
    → IsTrue (g || (not b || false))
    × (IsTrue (g || (not a || (not r || false))) × (IsTrue (not g || (b || (a || false))) × (IsTrue (not g || (b || (r || false))) × Unit {0})))
strong_true g a b r x y z eg ea eb er = (grind arith, (grind arith, (grind arith, (grind arith, tt))))

weak_true : (g a b r x y z : Bool) → g ≡ (y && (x || z)) → a ≡ x → b ≡ y → r ≡ z
    → IsTrue (not g || (b || false))
    × (IsTrue (not g || (a || (r || false))) × (IsTrue (g || (not b || (not a || false))) × (IsTrue (g || (not b || (not r || false))) × Unit {0})))
weak_true g a b r x y z eg ea eb er = (grind arith, (grind arith, (grind arith, (grind arith, tt))))

both_true : (g a b x y : Bool) → g ≡ (x && y)
    → a ≡ x → b ≡ y → IsTrue (not g || (a || false)) × (IsTrue (not g || (b || false)) × (IsTrue (g || (not a || (not b || false))) × Unit {0}))
both_true g a b x y eg ea eb = (grind arith, (grind arith, (grind arith, tt)))

either_true : (g a b x y : Bool) → g ≡ (x || y)
    → a ≡ x → b ≡ y → IsTrue (g || (not a || false)) × (IsTrue (g || (not b || false)) × (IsTrue (not g || (a || (b || false))) × Unit {0}))
either_true g a b x y eg ea eb = (grind arith, (grind arith, (grind arith, tt)))

negated_true : (g p x : Bool) → g ≡ not x → p ≡ x → IsTrue (g || (p || false)) × (IsTrue (not g || (not p || false)) × Unit {0})
negated_true g p x eg ep = (grind arith, (grind arith, tt))

agree_true : (n x y : Bool) → (IsTrue n → x ≡ y) → IsTrue (not n || (not x || (y || false))) × (IsTrue (not n || (x || (not y || false))) × Unit {0})
agree_true n x y h = (imp n _ (λ k. one x y (h k)), (imp n _ (λ k. two x y (h k)), tt))
  where
    one : (x y : Bool) → x ≡ y → IsTrue (not x || (y || false))
    one x y e = grind arith

    two : (x y : Bool) → x ≡ y → IsTrue (x || (not y || false))
    two x y e = grind arith

differ_true : (n x y : Bool) (rest : Type 0) → (IsTrue n → x ≡ y → ⊥)
    → rest → IsTrue (not n || (x || (y || false))) × (IsTrue (not n || (not x || (not y || false))) × rest)
differ_true n x y rest h k = (imp n _ (λ t. one x y (h t)), (imp n _ (λ t. two x y (h t)), k))
  where
    one : (x y : Bool) → (x ≡ y → ⊥) → IsTrue (x || (y || false))
    one true y h = refl
    one false true h = refl
    one false false h = absurd (h refl)

    two : (x y : Bool) → (x ≡ y → ⊥) → IsTrue (not x || (not y || false))
    two false y h = refl
    two true false h = refl
    two true true h = absurd (h refl)

pub third_child : (f : Formula) (a b q e : Norm) → needs e ≡ a ∷ b ∷ q ∷ [] → Contains (closure f) e → Contains (closure f) q
third_child f a b q e n c =
    closure_closed f e q c (subst (λ z. Contains z q) (sym n) (Contains-there a (b ∷ q ∷ []) q (Contains-there b (q ∷ []) q (Contains-here q []))))

pub request_in : (f : Formula) (e : Norm) → Contains (eventualities f) e → Contains (closure f) (request_of e)
request_in f e m = let w = Contains-from_filter is_eventuality (closure f) e m in go e w.0 w.1
  where
    go : (e : Norm) → Contains (closure f) e → IsTrue (is_eventuality e) → Contains (closure f) (NNext e)
    go (NUntil a b) h t = third_child f a b (NNext (NUntil a b)) (NUntil a b) refl h
    go e h t = cc

yesterday_value : (s : RunState) (e : Norm) → IsTrue (is_yesterday e) → val s e ≡ s e
yesterday_value s (NYesterday a) h = refl
yesterday_value s (NWeakYesterday a) h = refl
yesterday_value s e h = cc

module _ (f : Formula) (r : States) (k : ℕ) (accepted final : Bool) (v : Meaning → Bool)
    (means : (p : Meaning) → IsTrue (v p) → Means f r k accepted final p) (makes : (p : Meaning) → Means f r k accepted final p → IsTrue (v p)) where
  abbrev T : Clause → Type 0
  T c = IsTrue (clause_true v c)

  pub entry_value : (i : ℕ) (e : Norm) → Contains (closure f) e → v (letter_of f i e) ≡ val (r i) e
  entry_value i e m =
      let is = entry_place (closure f) e (NConst false) m in
      same_bool (v (letter_of f i e)) (val (r i) e)
      (λ h. subst (λ z. IsTrue (val (r i) z)) is (means (letter_of f i e) h))
      (λ h. makes (letter_of f i e) (subst (λ z. IsTrue (val (r i) z)) (sym is) h))

  here_is : (i : ℕ) → IsTrue (v (Here i)) → i ≤ k
  here_is i h = means (Here i) h

  write_a : (i : ℕ) → Each T (chain_part i)
  write_a zero = tt
  write_a (suc j) = (imp (v (Here (suc j))) _ (λ h. let n = here_is (suc j) h in only (v (Here j)) (makes (Here j) (omega arith))), tt)

  write_gate : (i : ℕ) (e : Norm) → Contains (closure f) e → Each T (gate (letter_of f i) e)
  write_gate i (NConst true) m = (only (v (letter_of f i (NConst true))) (entry_value i (NConst true) m), tt)
  write_gate i (NConst false) m =
      (unless (v (letter_of f i (NConst false))) (λ h. clash (v (letter_of f i (NConst false))) h (entry_value i (NConst false) m)), tt)
  write_gate i (NLetter p) m = tt
  write_gate i (NNotLetter p) m = negated_true (v (letter_of f i (NNotLetter p))) (v (letter_of f i (NLetter p))) (val (r i) (NLetter p))
      (entry_value i (NNotLetter p) m) (entry_value i (NLetter p) (first_child f (NLetter p) (NNotLetter p) [] refl m))
  write_gate i (NAnd a b) m = both_true (v (letter_of f i (NAnd a b))) (v (letter_of f i a)) (v (letter_of f i b)) (val (r i) a) (val (r i) b)
      (entry_value i (NAnd a b) m) (entry_value i a (first_child f a (NAnd a b) _ refl m)) (entry_value i b (second_child f a b (NAnd a b) _ refl m))
  write_gate i (NOr a b) m = either_true (v (letter_of f i (NOr a b))) (v (letter_of f i a)) (v (letter_of f i b)) (val (r i) a) (val (r i) b)
      (entry_value i (NOr a b) m) (entry_value i a (first_child f a (NOr a b) _ refl m)) (entry_value i b (second_child f a b (NOr a b) _ refl m))
  write_gate i (NNext a) m = tt
  write_gate i (NWeakNext a) m = tt
  write_gate i (NYesterday a) m = tt
  write_gate i (NWeakYesterday a) m = tt
  write_gate i (NUntil a b) m = strong_true (v (letter_of f i (NUntil a b))) (v (letter_of f i a)) (v (letter_of f i b))
      (v (letter_of f i (NNext (NUntil a b)))) (val (r i) a) (val (r i) b) (r i (NNext (NUntil a b)))
      (entry_value i (NUntil a b) m) (entry_value i a (first_child f a (NUntil a b) _ refl m)) (entry_value i b (second_child f a b (NUntil a b) _ refl m))
      (entry_value i (NNext (NUntil a b)) (third_child f a b (NNext (NUntil a b)) (NUntil a b) refl m))
  write_gate i (NSince a b) m = strong_true (v (letter_of f i (NSince a b))) (v (letter_of f i a)) (v (letter_of f i b))
      (v (letter_of f i (NYesterday (NSince a b)))) (val (r i) a) (val (r i) b) (r i (NYesterday (NSince a b)))
      (entry_value i (NSince a b) m) (entry_value i a (first_child f a (NSince a b) _ refl m)) (entry_value i b (second_child f a b (NSince a b) _ refl m))
      (entry_value i (NYesterday (NSince a b)) (third_child f a b (NYesterday (NSince a b)) (NSince a b) refl m))
  write_gate i (NRelease a b) m = weak_true (v (letter_of f i (NRelease a b))) (v (letter_of f i a)) (v (letter_of f i b))
      (v (letter_of f i (NWeakNext (NRelease a b)))) (val (r i) a) (val (r i) b) (r i (NWeakNext (NRelease a b))) (entry_value i (NRelease a b) m)
      (entry_value i a (first_child f a (NRelease a b) _ refl m)) (entry_value i b (second_child f a b (NRelease a b) _ refl m))
      (entry_value i (NWeakNext (NRelease a b)) (third_child f a b (NWeakNext (NRelease a b)) (NRelease a b) refl m))
  write_gate i (NTrigger a b) m = weak_true (v (letter_of f i (NTrigger a b))) (v (letter_of f i a)) (v (letter_of f i b))
      (v (letter_of f i (NWeakYesterday (NTrigger a b)))) (val (r i) a) (val (r i) b) (r i (NWeakYesterday (NTrigger a b))) (entry_value i (NTrigger a b) m)
      (entry_value i a (first_child f a (NTrigger a b) _ refl m)) (entry_value i b (second_child f a b (NTrigger a b) _ refl m))
      (entry_value i (NWeakYesterday (NTrigger a b)) (third_child f a b (NWeakYesterday (NTrigger a b)) (NTrigger a b) refl m))

  write_b : (i : ℕ) → Each T (gates_part f i)
  write_b i = Each-flat_map T (gate (letter_of f i)) (closure f) (write_gate i)

  module _ (run : IsRun f k r) where
    write_start : (e : Norm) → Contains (closure f) e → Each T (start f e)
    write_start (NYesterday a) m = (
      imp (v (Here 0)) _
          (λ h. unless (v (letter_of f 0 (NYesterday a)))
          (λ t. clash (v (letter_of f 0 (NYesterday a))) t (entry_value 0 (NYesterday a) m ∙ run.yesterday a m))),
      tt,
    )
    write_start (NWeakYesterday a) m =
        (imp (v (Here 0)) _ (λ h. only (v (letter_of f 0 (NWeakYesterday a))) (entry_value 0 (NWeakYesterday a) m ∙ run.weak_yesterday a m)), tt)
    write_start e m = tt

    write_next : (j : ℕ) (e : Norm) → Contains (nexts f) e → Each T (next_clauses f j e)
    write_next j e m = agree_true (v (Here (suc j))) (v (letter_of f j e)) (v (letter_of f (suc j) (argument e))) (λ h.
        let n = here_is (suc j) h in
        let t = (Contains-from_filter is_next (closure f) e m).1 in
        entry_value j e (next_in f e m)
        ∙ (next_value (r j) e t ∙ (run.next j (omega arith) e m ∙ sym (entry_value (suc j) (argument e) (argument_in f e (next_in f e m))))))

    write_before : (j : ℕ) (e : Norm) → Contains (yesterdays f) e → Each T (before_clauses f j e)
    write_before j e m = agree_true (v (Here (suc j))) (v (letter_of f (suc j) e)) (v (letter_of f j (argument e))) (λ h.
        let n = here_is (suc j) h in
        let t = (Contains-from_filter is_yesterday (closure f) e m).1 in
        entry_value (suc j) e (yesterday_in f e m)
        ∙ (yesterday_value (r (suc j)) e t ∙ (run.before j (omega arith) e m ∙ sym (entry_value j (argument e) (argument_in f e (yesterday_in f e m))))))

    write_c : (i : ℕ) → Each T (links_part f i)
    write_c zero = (
      imp (v (Here 0)) _ (λ h. only (v (letter_of f 0 (pos_of f))) (entry_value 0 (pos_of f) (closure_root f) ∙ run.root)),
      Each-flat_map T (start f) (yesterdays f) (λ e m. write_start e (yesterday_in f e m)),
    )
    write_c (suc j) = Each-append T (flat_map (next_clauses f j) (nexts f)) (flat_map (before_clauses f j) (yesterdays f))
        (Each-flat_map T (next_clauses f j) (nexts f) (write_next j)) (Each-flat_map T (before_clauses f j) (yesterdays f) (write_before j))

  carried_value : (i q : ℕ) → q < length (carried f) → v (carried_letter f i q) ≡ val (r i) (carried_at f (suc q))
  carried_value i q lt = entry_value i (carried_at f (suc q)) (carried_in f (carried_at f (suc q)) (Contains-get_or (carried f) q (NConst false) lt))

  write_place : (i l q : ℕ) → q < length (carried f) → Each T (place_clauses f i l q)
  write_place i l q lt =
      differ_true (v (Differs l i (suc q))) (v (carried_letter f l q)) (v (carried_letter f i q)) _
      (λ h e. means (Differs l i (suc q)) h (sym (carried_value l q lt) ∙ (e ∙ carried_value i q lt)))
      (agree_true (v (Equal l i)) (v (carried_letter f l q)) (v (carried_letter f i q)) (λ h.
      carried_value l q lt ∙ (carried_from f (r l) (r i) (means (Equal l i) h) (carried_at f (suc q)) (Contains-get_or (carried f) q (NConst false) lt)
      ∙ sym (carried_value i q lt))))

  write_equal : (i l : ℕ) → T (equal_clause f i l)
  write_equal i l = ors (v (Equal l i)) _ (λ off.
      elim (first_or_none (λ q. val (r l) (carried_at f (suc q)) ≡ val (r i) (carried_at f (suc q)) → ⊥)
      (λ q. ¬_decided (same_decided (val (r l) (carried_at f (suc q))) (val (r i) (carried_at f (suc q))))) (length (carried f))) [
        | inl w ↦ below_some v (length (carried f)) (λ q. Differs l i (suc q)) w.0 w.1 (makes (Differs l i (suc w.0)) w.2)
        | inr none ↦ absurd (clash (v (Equal l i)) (makes (Equal l i) (carried_same f (r l) (r i) (λ e m.
            let u = place_of (carried f) e (NConst false) m in
            elim (same_decided (val (r l) e) (val (r i) e)) [
              | yes s ↦ s
              | no n ↦ absurd (none u.0 u.1 (subst (λ z. val (r l) z ≡ val (r i) z → ⊥) (sym u.2) n))
            ]))) off)
      ])

  right_value : (i m : ℕ) → m < length (eventualities f) → v (letter_of f i (right_of (eventuality f m))) ≡ is_fulfilled (r i) (eventuality f m)
  right_value i m lt = entry_value i (right_of (eventuality f m))
      (right_in f (eventuality f m) (eventuality_in f (eventuality f m) (Contains-get_or (eventualities f) m (NConst false) lt)))

  write_fulfilled : (i l : ℕ) → l < i → (m : ℕ) → m < length (eventualities f) → Each T (fulfilled_clauses f i l m)
  write_fulfilled zero l lt m some = tt
  write_fulfilled (suc j) l lt m some =
      let now : IsTrue (v (letter_of f (suc j) (right_of (eventuality f m)))) → IsTrue (v (Fulfilled l (suc j) (suc m))) =
      λ b. makes (Fulfilled l (suc j) (suc m)) (suc j, lt, omega arith, subst IsTrue (right_value (suc j) m some) b) in
      if_each T (nat_lt l j) _ _
      (λ is.
      let less = ltb-true l j is in (
        ors (v (Fulfilled l (suc j) (suc m))) _
            (λ off. unless (v (letter_of f (suc j) (right_of (eventuality f m)))) (λ b. clash (v (Fulfilled l (suc j) (suc m))) (now b) off)),
        (
          ors (v (Fulfilled l (suc j) (suc m))) _ (λ off. unless (v (Fulfilled l j (suc m))) (λ b. let w = means (Fulfilled l j (suc m)) b in
              clash (v (Fulfilled l (suc j) (suc m))) (makes (Fulfilled l (suc j) (suc m)) (w.0, w.1, omega (arith, w.2), w.3)) off)),
          (
            imp (v (Fulfilled l (suc j) (suc m))) _ (λ on. ors (v (letter_of f (suc j) (right_of (eventuality f m)))) _ (λ off.
                let w = means (Fulfilled l (suc j) (suc m)) on in
                only (v (Fulfilled l j (suc m))) (makes (Fulfilled l j (suc m)) (w.0, w.1, earlier j m some w.0 w.2 w.3 off, w.3)))),
            tt,
          ),
        ),
      ))
      (λ is.
      let not_less = ltb-false l j is in (
        imp (v (Fulfilled l (suc j) (suc m))) _ (λ on.
            let w = means (Fulfilled l (suc j) (suc m)) on in
            let n = w.0 in
            let a : l < n = w.1 in
            let b : n ≤ suc j = w.2 in
            let e : n ≡ suc j = omega arith in
            only (v (letter_of f (suc j) (right_of (eventuality f m))))
            (right_value (suc j) m some ∙ subst (λ z. IsTrue (is_fulfilled (r z) (eventuality f m))) e w.3)),
        (
          ors (v (Fulfilled l (suc j) (suc m))) _
              (λ off. unless (v (letter_of f (suc j) (right_of (eventuality f m)))) (λ b. clash (v (Fulfilled l (suc j) (suc m))) (now b) off)),
          tt,
        ),
      ))
    where
      earlier : (j m : ℕ) → m < length (eventualities f) → (n : ℕ) → n ≤ suc j → IsTrue (is_fulfilled (r n) (eventuality f m))
          → IsFalse (v (letter_of f (suc j) (right_of (eventuality f m)))) → n ≤ j
      earlier j m some n le b off = elim (cases_lt n (suc j)) [
        | inl lt ↦ omega arith
        | inr ge ↦
            let e : n ≡ suc j = omega arith in
            absurd (clash (v (letter_of f (suc j) (right_of (eventuality f m))))
            (right_value (suc j) m some ∙ subst (λ z. IsTrue (is_fulfilled (r z) (eventuality f m))) e b) off)
      ]

  pending_value : (i m : ℕ) → m < length (eventualities f) → v (letter_of f i (request_of (eventuality f m))) ≡ is_pending (r i) (eventuality f m)
  pending_value i m lt = entry_value i (request_of (eventuality f m)) (request_in f (eventuality f m) (Contains-get_or (eventualities f) m (NConst false) lt))

  write_closing : (kind : Kind) (i l : ℕ) → l < i → Each T (closing_clauses f kind i l)
  write_closing Kinds.Finite i l lt = tt
  write_closing Kinds.Infinite i l lt =
      Each-append T (below (length (eventualities f)) (fulfilled_clauses f i l))
      ((Minus (LoopTo l i) ∷ Plus (Equal l i) ∷ []) ∷ below (length (eventualities f)) (λ m. loop_clause f i l m ∷ []))
      (Each-below T (length (eventualities f)) (fulfilled_clauses f i l) (write_fulfilled i l lt)) (
        imp (v (LoopTo l i)) _ (λ h. only (v (Equal l i)) (makes (Equal l i) (means (LoopTo l i) h).0)),
        Each-below T (length (eventualities f)) (λ m. loop_clause f i l m ∷ []) (λ m some. (
          imp (v (LoopTo l i)) _
              (λ h. imp (v (letter_of f i (request_of (eventuality f m)))) _ (λ p. only (v (Fulfilled l i (suc m))) (makes (Fulfilled l i (suc m))
              ((means (LoopTo l i) h).1 (eventuality f m) (Contains-get_or (eventualities f) m (NConst false) some) (sym (pending_value i m some) ∙ p))))),
          tt,
        )),
      )

  write_d : (kind : Kind) (i : ℕ) → Each T (pairs_part f kind i)
  write_d kind i = Each-below T i (pair_clauses f kind i) (λ l lt.
      Each-append T (below (length (carried f)) (place_clauses f i l)) (equal_clause f i l ∷ closing_clauses f kind i l)
      (Each-below T (length (carried f)) (place_clauses f i l) (write_place i l))
      (write_equal i l, write_closing kind i l lt))

  write_loop : (i : ℕ) → IsAccepted f r i Kinds.Infinite → IsFalse (v (EmptyAt i)) → IsTrue (clause_true v (below i (λ l. Plus (LoopTo l i) ∷ [])))
  write_loop i (Empty none) off = absurd (clash (v (EmptyAt i)) (makes (EmptyAt i) none) off)
  write_loop i (Loop l lt one done) off = below_some v i (λ l. LoopTo l i) l lt (makes (LoopTo l i) (one, done))

  no_strong : (i : ℕ) → IsAccepted f r i Kinds.Finite → (a : Norm) → Contains (closure f) (NNext a) → IsFalse (r i (NNext a))
  no_strong i (End none) a m = none a m

  strong_value : (i : ℕ) (e : Norm) → Contains (closure f) e → IsTrue (is_strong_next e) → IsAccepted f r i Kinds.Finite → IsFalse (v (letter_of f i e))
  strong_value i (NNext a) m t acc = entry_value i (NNext a) m ∙ no_strong i acc a m
  strong_value i e m t acc = cc

  module _ (kind : Kind) (given : IsTrue accepted → IsAccepted f r k kind) where
    accepted_at : (i : ℕ) → IsTrue (v (Accepted i)) → IsAccepted f r i kind
    accepted_at i h = let w = means (Accepted i) h in subst (λ n. IsAccepted f r n kind) (sym w.1) (given w.0)

  write_e : (kind : Kind) → (IsTrue accepted → IsAccepted f r k kind) → (i : ℕ) → Each T (acceptance_part f kind i)
  write_e Kinds.Infinite given i = (
    imp (v (Accepted i)) _ (λ h. ors (v (EmptyAt i)) _ (λ off. write_loop i (accepted_at Kinds.Infinite given i h) off)),
    Each-map T (λ t. Minus (EmptyAt i) ∷ Minus (letter_of f i t) ∷ []) (nexts f) (λ e m.
        imp (v (EmptyAt i)) _ (λ h. unless (v (letter_of f i e)) (λ on. clash (v (letter_of f i e)) on
        (entry_value i e (next_in f e m) ∙ (next_value (r i) e (Contains-from_filter is_next (closure f) e m).1 ∙ means (EmptyAt i) h e m))))),
  )
  write_e Kinds.Finite given i =
      Each-map T (λ t. Minus (Accepted i) ∷ Minus (letter_of f i t) ∷ []) (filter is_strong_next (closure f)) (λ e m.
      let w = Contains-from_filter is_strong_next (closure f) e m in
      imp (v (Accepted i)) _
      (λ h. unless (v (letter_of f i e)) (λ on. clash (v (letter_of f i e)) on (strong_value i e w.0 w.1 (accepted_at Kinds.Finite given i h)))))

  write_seen : (i l : ℕ) → l < i → Each T (seen_clauses f i l)
  write_seen i l lt = (
    imp (v (Equal l i)) _ (λ h. only (v (Repeated i)) (makes (Repeated i) (l, lt, means (Equal l i) h))),
    Each-below T (length (eventualities f)) (λ m. (Minus (Equal l i) ∷ Minus (Fulfilled l i (suc m)) ∷ Plus (Seen i (suc m)) ∷ []) ∷ []) (λ m some. (
      imp (v (Equal l i)) _ (λ h. imp (v (Fulfilled l i (suc m))) _
          (λ g. only (v (Seen i (suc m))) (makes (Seen i (suc m)) (l, lt, means (Equal l i) h, means (Fulfilled l i (suc m)) g)))),
      tt,
    )),
  )

  write_new : (i j m : ℕ) → m < length (eventualities f) → Each T (new_clauses f i j m)
  write_new i j m some = (
    imp (v (New j i (suc m))) _ (λ h. only (v (letter_of f i (request_of (eventuality f m)))) (pending_value i m some ∙ (means (New j i (suc m)) h).0)),
    (
      imp (v (New j i (suc m))) _ (λ h. only (v (Fulfilled j i (suc m))) (makes (Fulfilled j i (suc m)) (means (New j i (suc m)) h).1)),
      (imp (v (New j i (suc m))) _ (λ h. unless (v (Seen j (suc m))) (λ s. (means (New j i (suc m)) h).2 (means (Seen j (suc m)) s))), tt),
    ),
  )

  write_f : (kind : Kind) (i : ℕ) → (IsTrue final → IsPrunedAt f r i kind → ⊥) → Each T (pruning_part f kind i)
  write_f Kinds.Infinite i given =
      Each-append T (below i (seen_clauses f i)) (below i (λ j. below (length (eventualities f)) (new_clauses f i j) ++ pruned_clause f i j ∷ []))
      (Each-below T i (seen_clauses f i) (λ l lt. write_seen i l lt))
      (Each-below T i (λ j. below (length (eventualities f)) (new_clauses f i j) ++ pruned_clause f i j ∷ []) (λ j lt.
      Each-append T (below (length (eventualities f)) (new_clauses f i j)) (pruned_clause f i j ∷ [])
      (Each-below T (length (eventualities f)) (new_clauses f i j) (write_new i j)) (
        imp (v Unpruned) _ (λ on. imp (v (Equal j i)) _ (λ one. imp (v (Repeated j)) _ (λ rep.
            elim (first_or_none (λ m. IsNew f r j i (eventuality f m)) (λ m. new_decided f r k accepted final j i (eventuality f m)) (length (eventualities f))) [
              | inl w ↦ below_some v (length (eventualities f)) (λ m. New j i (suc m)) w.0 w.1 (makes (New j i (suc w.0)) w.2)
              | inr none ↦ absurd (given (means Unpruned on) (triple_from_pair f r i j lt (
                means (Equal j i) one,
                means (Repeated j) rep,
                λ e m n.
                    let u = place_of (eventualities f) e (NConst false) m in
                    none u.0 u.1 (subst (IsNew f r j i) (sym u.2) n),
              )))
            ]))),
        tt,
      )))
  write_f Kinds.Finite i given = Each-below T i (λ j. (Minus Unpruned ∷ Minus (Equal j i) ∷ []) ∷ []) (λ j lt.
      (imp (v Unpruned) _ (λ on. unless (v (Equal j i)) (λ one. given (means Unpruned on) (Pair j lt (means (Equal j i) one)))), tt))

  pub writes : (kind : Kind) (d : ℕ) → IsRun f k r → (IsTrue accepted → IsAccepted f r k kind) → ((i : ℕ) → i ≤ d → IsTrue final → IsPrunedAt f r i kind → ⊥)
      → Each T (clauses_through f kind d)
  writes kind d run acc unpruned = Each-below T (suc d) (step_clauses f kind) (λ i lt.
      join6 T (chain_part i) (gates_part f i) (links_part f i) (pairs_part f kind i) (acceptance_part f kind i) (pruning_part f kind i)
      (write_a i) (write_b i) (write_c run i) (write_d kind i) (write_e kind acc i) (write_f kind i (unpruned i (omega arith))))
