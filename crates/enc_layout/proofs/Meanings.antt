-- What each letter means of a run, decided.
use Rattle.std.proofs.Common.{◌≡◌, ℕ, zero, suc, ◌-◌, ◌≤◌, Bool, true, false, IsTrue, IsFalse, inl, inr, refl, subst, List, [], ◌∷◌, Contains, slice_index_or}
use native.Mathlib.Decide.{dec_le}
use Rattle.ltl_syntax.specs.Formula.{Formula}
use Rattle.ltl_closure.specs.Decide.{is_yes, number_decided}
use Rattle.ltl_closure.specs.Norm.{Norm, NConst}
use Rattle.ltl_closure.specs.Closure.{closure, nexts, eventualities}
use Rattle.ltl_closure.specs.Run.{States, val, carry, is_pending, IsFulfilledIn}
use Rattle.ltl_closure.proofs.Lists.{Contains-nil, Contains-cons_cases, Contains-here, Contains-there}
use Rattle.enc_layout.specs.Pairs.{IsRepeated, IsSeen, IsNew}
use Rattle.ltl_word.proofs.Search.{¬_decided, ×_decided, →_decided, IsTrue_decided, first_or_none}
use Rattle.enc_layout.proofs.Pairing.{carry_decided, fulfilled_decided, seen_decided}
use Rattle.enc_layout.specs.Letters.{Meaning, Unpruned, Here, Accepted, EmptyAt, Repeated, EntryAt, Seen, Equal, LoopTo, Differs, Fulfilled, New}
use Rattle.enc_layout.specs.Clauses.{carried, eventuality}

abbrev pub less_one : ℕ → ℕ
less_one zero = zero
less_one (suc n) = n

abbrev pub entry_at : Formula → ℕ → Norm
entry_at f t = slice_index_or (closure f) (t - 1) (NConst false)

abbrev pub carried_at : Formula → ℕ → Norm
carried_at f q = slice_index_or (carried f) (less_one q) (NConst false)

pub holds_yes : {P : Type 0} (d : Dec P) → P → IsTrue (is_yes d)
holds_yes (yes p) h = refl
holds_yes (no n) h = absurd (n h)

pub yes_holds : {P : Type 0} (d : Dec P) → IsTrue (is_yes d) → P
yes_holds (yes p) h = p
yes_holds (no n) h = cc

IsFalse_decided : (b : Bool) → Dec (IsFalse b)
IsFalse_decided true = no (λ e. cc)
IsFalse_decided false = yes refl

pub same_decided : (a b : Bool) → Dec (a ≡ b)
same_decided true true = yes refl
same_decided true false = no (λ e. cc)
same_decided false true = no (λ e. cc)
same_decided false false = yes refl

all_decided : {X : Type 0} (P : X → Type 0) → ((x : X) → Dec (P x)) → (xs : List X) → Dec ((x : X) → Contains xs x → P x)
all_decided P d [] = yes (λ x c. absurd (Contains-nil x c))
all_decided P d (y ∷ ys) = elim (d y) [
  | no h ↦ no (λ all. h (all y (Contains-here y ys)))
  | yes p ↦ elim (all_decided P d ys) [
    | no h ↦ no (λ all. h (λ x c. all x (Contains-there y ys x c)))
    | yes all ↦ yes (λ x c. elim (Contains-cons_cases y ys x c) [ inl e ↦ subst P e p | inr i ↦ all x i ])
  ]
]

-- the run's states, how many there are, whether the last one is marked accepted, and letter 1
module _ (f : Formula) (r : States) (k : ℕ) (accepted final : Bool) where
  abbrev pub Means : Meaning → Type 0
  Means Unpruned = IsTrue final
  Means (Here i) = i ≤ k
  Means (Accepted i) = IsTrue accepted × (i ≡ k)
  Means (EmptyAt i) = (e : Norm) → Contains (nexts f) e → IsFalse (r i e)
  Means (Repeated i) = IsRepeated f r i
  Means (EntryAt i t) = IsTrue (val (r i) (entry_at f t))
  Means (Seen i m) = IsSeen f r i (eventuality f (less_one m))
  Means (Equal l i) = carry f (r l) ≡ carry f (r i)
  Means (LoopTo l i) = (carry f (r l) ≡ carry f (r i)) × ((e : Norm) → Contains (eventualities f) e → IsTrue (is_pending (r i) e) → IsFulfilledIn r l i e)
  Means (Differs l i q) = val (r l) (carried_at f q) ≡ val (r i) (carried_at f q) → ⊥
  Means (Fulfilled l i m) = IsFulfilledIn r l i (eventuality f (less_one m))
  Means (New j i m) = IsNew f r j i (eventuality f (less_one m))

  pub new_decided : (j i : ℕ) (e : Norm) → Dec (IsNew f r j i e)
  new_decided j i e = elim (×_decided (IsTrue_decided (is_pending (r i) e)) (×_decided (fulfilled_decided r j i e) (¬_decided (seen_decided f r j e)))) [
    | yes w ↦ yes (w.0, w.1.0, w.1.1)
    | no n ↦ no (λ w. n (w.0, (w.1, w.2)))
  ]

  pub decided : (p : Meaning) → Dec (Means p)
  decided Unpruned = IsTrue_decided final
  decided (Here i) = dec_le i k
  decided (Accepted i) = ×_decided (IsTrue_decided accepted) (number_decided i k)
  decided (EmptyAt i) = all_decided (λ e. IsFalse (r i e)) (λ e. IsFalse_decided (r i e)) (nexts f)
  decided (Repeated i) =
      elim (first_or_none (λ l. carry f (r l) ≡ carry f (r i)) (λ l. carry_decided f (r l) (r i)) i) [ inl w ↦ yes w | inr none ↦ no (λ w. none w.0 w.1 w.2) ]
  decided (EntryAt i t) = IsTrue_decided (val (r i) (entry_at f t))
  decided (Seen i m) = seen_decided f r i (eventuality f (less_one m))
  decided (Equal l i) = carry_decided f (r l) (r i)
  decided (LoopTo l i) = ×_decided (carry_decided f (r l) (r i))
      (all_decided (λ e. IsTrue (is_pending (r i) e) → IsFulfilledIn r l i e) (λ e. →_decided (IsTrue_decided (is_pending (r i) e)) (fulfilled_decided r l i e))
      (eventualities f))
  decided (Differs l i q) = ¬_decided (same_decided (val (r l) (carried_at f q)) (val (r i) (carried_at f q)))
  decided (Fulfilled l i m) = fulfilled_decided r l i (eventuality f (less_one m))
  decided (New j i m) = new_decided j i (eventuality f (less_one m))

  -- the assignment that a run gives
  pub written : Meaning → Bool
  written p = is_yes (decided p)

  pub written_means : (p : Meaning) → IsTrue (written p) → Means p
  unfolding written
  written_means p h = yes_holds (decided p) h

  pub means_written : (p : Meaning) → Means p → IsTrue (written p)
  unfolding written
  means_written p h = holds_yes (decided p) h
