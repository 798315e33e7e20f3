-- States, runs, carries, accepted and pruned runs.
use Rattle.std.specs.Prelude.{◌≡◌, ℕ, suc, ◌+◌, ◌*◌, ◌^◌, ◌-◌, ◌<◌, ◌≤◌, nat_le, if◌then◌else◌, Bool, not, ◌&&◌, ◌||◌, List, ◌++◌, length, map, IsTrue, IsFalse}
use Rattle.std.specs.Prelude.{Contains}
use Rattle.ltl_syntax.specs.declared.node.Kind.{Kind}
use Rattle.ltl_syntax.specs.declared.node.Kind.TheVariants as Kinds
use Rattle.ltl_syntax.specs.Formula.{Formula}
use Rattle.ltl_closure.specs.Norm.{Norm, NConst, NLetter, NNotLetter, NAnd, NOr, NNext, NWeakNext, NYesterday, NWeakYesterday, NUntil, NRelease, NSince}
use Rattle.ltl_closure.specs.Norm.{NTrigger, pos_of}
use Rattle.ltl_closure.specs.Closure.{closure, nexts, yesterdays, eventualities, argument}

-- a state: the truth values of the letters and the requests. It is read at no other entry
abbrev pub RunState : Type 0
RunState = Norm → Bool

-- the value of an entry
abbrev pub val : RunState → Norm → Bool
val s (NConst b) = b
val s (NLetter p) = s (NLetter p)
val s (NNotLetter p) = not (s (NLetter p))
val s (NAnd a b) = val s a && val s b
val s (NOr a b) = val s a || val s b
val s (NNext a) = s (NNext a)
val s (NWeakNext a) = s (NWeakNext a)
val s (NYesterday a) = s (NYesterday a)
val s (NWeakYesterday a) = s (NWeakYesterday a)
val s (NUntil a b) = val s b || val s a && s (NNext (NUntil a b))
val s (NRelease a b) = val s b && (val s a || s (NWeakNext (NRelease a b)))
val s (NSince a b) = val s b || val s a && s (NYesterday (NSince a b))
val s (NTrigger a b) = val s b && (val s a || s (NWeakYesterday (NTrigger a b)))

-- states 0 to k are read, and those after k are not
abbrev pub States : Type 0
States = ℕ → RunState

-- a run of k+1 states
pub record IsRun (f : Formula) (k : ℕ) (r : States) : Type 0 where
  pub root : IsTrue (val (r 0) (pos_of f))
  pub yesterday : (a : Norm) → Contains (closure f) (NYesterday a) → IsFalse (r 0 (NYesterday a))
  pub weak_yesterday : (a : Norm) → Contains (closure f) (NWeakYesterday a) → IsTrue (r 0 (NWeakYesterday a))
  pub next : (i : ℕ) → i < k → (e : Norm) → Contains (nexts f) e → r i e ≡ val (r (suc i)) (argument e)
  pub before : (i : ℕ) → i < k → (e : Norm) → Contains (yesterdays f) e → r (suc i) e ≡ val (r i) (argument e)

-- the values of the next requests and of the arguments of the yesterday requests
abbrev pub carry : Formula → RunState → List Bool
carry f s = map s (nexts f) ++ map (λ e. val s (argument e)) (yesterdays f)

abbrev pub request_of : Norm → Norm
request_of e = NNext e

abbrev pub is_pending : RunState → Norm → Bool
is_pending s e = s (NNext e)

-- the right operand
abbrev pub right_of : Norm → Norm
right_of (NUntil a b) = b
right_of e = e

abbrev pub is_fulfilled : RunState → Norm → Bool
is_fulfilled s e = val s (right_of e)

-- fulfilled at some state after l and up to i
abbrev pub IsFulfilledIn : States → ℕ → ℕ → Norm → Type 0
IsFulfilledIn r l i e = (j : ℕ) × (l < j) × (j ≤ i) × IsTrue (is_fulfilled (r j) e)

pub data IsAccepted (f : Formula) (r : States) (k : ℕ) : Kind → Type 0 where
  Empty : ((e : Norm) → Contains (nexts f) e → IsFalse (r k e)) → IsAccepted f r k Kinds.Infinite
  Loop : (l : ℕ) → l < k → carry f (r l) ≡ carry f (r k) → ((e : Norm) → Contains (eventualities f) e → IsTrue (is_pending (r k) e) → IsFulfilledIn r l k e)
      → IsAccepted f r k Kinds.Infinite
  End : ((a : Norm) → Contains (closure f) (NNext a) → IsFalse (r k (NNext a))) → IsAccepted f r k Kinds.Finite

pub data IsPrunedAt (f : Formula) (r : States) (i : ℕ) : Kind → Type 0 where
  Triple : (l j : ℕ) → l < j → j < i → carry f (r l) ≡ carry f (r j) → carry f (r j) ≡ carry f (r i)
      → ((e : Norm) → Contains (eventualities f) e → IsTrue (is_pending (r i) e) → IsFulfilledIn r j i e → IsFulfilledIn r l j e)
      → IsPrunedAt f r i Kinds.Infinite
  Pair : (j : ℕ) → j < i → carry f (r j) ≡ carry f (r i) → IsPrunedAt f r i Kinds.Finite

abbrev pub IsUnpruned : Formula → States → ℕ → Kind → Type 0
IsUnpruned f r k kind = (i : ℕ) → i ≤ k → IsPrunedAt f r i kind → ⊥

-- there is a run of k+1 states, an accepted one, and one that is pruned nowhere
abbrev pub HasRun : Formula → ℕ → Type 0
HasRun f k = (r : States) × IsRun f k r

abbrev pub HasAccepted : Formula → Kind → ℕ → Type 0
HasAccepted f kind k = (r : States) × IsRun f k r × IsAccepted f r k kind

abbrev pub HasUnpruned : Formula → Kind → ℕ → Type 0
HasUnpruned f kind k = (r : States) × IsRun f k r × IsUnpruned f r k kind

-- no case of the verdict comes at k
pub record IsOpen (f : Formula) (kind : Kind) (k : ℕ) : Type 0 where
  pub run : HasRun f k
  pub rejected : HasAccepted f kind k → ⊥
  pub unpruned : HasUnpruned f kind k

pub data Verdict : Type 0 where
  Sat Unsat Undecided : ℕ → Verdict

pub data IsVerdict (f : Formula) (kind : Kind) (limit : ℕ) : Verdict → Type 0 where
  no_run : {k : ℕ} → k ≤ limit → ((j : ℕ) → j < k → IsOpen f kind j) → (HasRun f k → ⊥) → IsVerdict f kind limit (Unsat k)
  accepted : {k : ℕ} → k ≤ limit → ((j : ℕ) → j < k → IsOpen f kind j) → HasAccepted f kind k → IsVerdict f kind limit (Sat k)
  all_pruned : {k : ℕ} → k ≤ limit → ((j : ℕ) → j < k → IsOpen f kind j) → (HasAccepted f kind k → ⊥) → (HasUnpruned f kind k → ⊥)
      → IsVerdict f kind limit (Unsat k)
  undecided : ((j : ℕ) → j ≤ limit → IsOpen f kind j) → IsVerdict f kind limit (Undecided limit)

abbrev pub bound : Formula → Kind → ℕ
bound f Kinds.Infinite = (length (eventualities f) + 1) * 2 ^ (length (nexts f) + length (yesterdays f))
bound f Kinds.Finite = 2 ^ (length (nexts f) + length (yesterdays f))

-- the states without j+1 to i
abbrev pub cut : States → ℕ → ℕ → States
cut r j i n = if nat_le n j then r n else r (n + (i - j))

-- the states 0 to p of r, and then those of u after q
abbrev pub spliced : States → ℕ → States → ℕ → States
spliced r p u q n = if nat_le n p then r n else u (n - p + q)

-- the states 0 to a, then i+1 to k, and then l+1 and those after it
abbrev pub rotated : States → ℕ → ℕ → ℕ → ℕ → States
rotated r a i k l = spliced (spliced r a r i) (a + (k - i)) r l
