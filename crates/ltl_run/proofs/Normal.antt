-- At positions the normal form holds where the formula does, and that of its negation where the formula does not.
use Rattle.std.proofs.Common.{ℕ, zero, suc, inl, inr, refl, arith, Bool, true, false, not, IsTrue}
use Rattle.ltl_syntax.specs.Shape.{Direction, Future, Past, Range, Step, Ever, Exactly, Between, Shape, Negation, Somewhere, Everywhere, shape}
use Rattle.ltl_syntax.specs.Formula.{Formula, Const, Letter, Unary, Binary}
use Rattle.ltl_syntax.specs.declared.node.UnaryOp.TheVariants.{Not}
use Rattle.ltl_syntax.specs.declared.node.BinaryOp.TheVariants.{And, Iff, Implies, Or, Release, Since, StrongRelease, Trigger, Until, WeakUntil}
use Rattle.ltl_word.specs.declared.trace.Trace.{Trace}
use Rattle.ltl_word.specs.Trace.{IsPosition, IsTrace}
use Rattle.ltl_word.specs.Claims.{Claim, Always', Never, IsLater, Reached, IsSomewhere, IsEverywhere, OfShape}
use Rattle.ltl_word.specs.Holds.{Holds}
use Rattle.ltl_word.proofs.Search.{IsDecided}
use Rattle.ltl_word.proofs.Duality.{Negated}
use Rattle.ltl_word.proofs.Decided.{Holds_decided, Position_decided, position_below, horizon, near}
use Rattle.ltl_word.proofs.Agreement.{IsRange, Same, Same-self, Same-then, Same-back, Same-and, Same-or, Same-no_and, Same-no_or, Same-until, Same-released}
use Rattle.ltl_word.proofs.Agreement.{Same-no_until, Same-no_release, Same-since, Same-triggered, Same-no_since, Same-no_trigger}
use Rattle.ltl_word.proofs.Reached.{Same-somewhere, Same-everywhere, Same-no_somewhere, Same-no_everywhere}
use Rattle.ltl_word.proofs.Steps.{Peels, exactly_peels, between_peels, first_peels, IsAway, IsHereOnly, some_here, every_here, some_later, every_later}
use Rattle.ltl_word.proofs.Steps.{some_first, every_first, eventually_is, always_is, once_is, historically_is}
use Rattle.ltl_closure.specs.Norm.{Norm, NConst, conjunction, disjunction, request, until, times, in_range, looking, under, over, formula_of, norm}

not_both : (b : Bool) → IsTrue b → IsTrue (not b) → ⊥
not_both true e d = cc
not_both false e d = cc

not_either : (b : Bool) → (IsTrue b → ⊥) → IsTrue (not b)
not_either true h = absurd (h refl)
not_either false h = refl

module _ (t : Trace) (good : IsTrace t) where
  abbrev pub Is : Norm → Claim
  Is n = Holds t (formula_of n)

  abbrev decided : (f : Formula) → IsDecided (Holds t f)
  decided = Holds_decided t good

  abbrev P : Claim
  P = IsPosition t

  range : IsRange P P
  range = record { closed = position_below t; whole = λ i p. p }

  Same-true : Same P (Is (NConst true)) Always'
  Same-true = record { to = λ i q x. tt; back = λ i q x. refl }

  Same-false : Same P (Is (NConst false)) Never
  Same-false = record { to = λ i q x. cc; back = λ i q x. absurd x }

  -- ---- one operand: the normal form over some position that is reached, and with `false` over every one

  abbrev Seen : Bool → Direction → Range → Claim → Claim
  Seen true d r A i = IsSomewhere P d r A i
  Seen false d r A i = IsEverywhere P d r A i

  Same-seen : (some : Bool) (d : Direction) (r : Range) (A C : Claim) → Same P A C → Same P (Seen some d r A) (Seen some d r C)
  Same-seen true d r A C f = Same-somewhere range d r A C f
  Same-seen false d r A C f = Same-everywhere range d r A C f

  here : (d : Direction) (r : Range) (i : ℕ) → P i → IsLater r i i → Reached P d r i i
  here Future r i q w = (w, q)
  here Past r i q w = w

  seen_here : (some : Bool) (d : Direction) (r : Range) (A : Claim) → IsHereOnly r → ((i : ℕ) → IsLater r i i) → Same P A (Seen some d r A)
  seen_here true d r A only w = Same-back _ _ (λ i q. some_here P A d r only i (here d r i q (w i)))
  seen_here false d r A only w = Same-back _ _ (λ i q. every_here P A d r only i (here d r i q (w i)))

  seen_later : (some : Bool) (d : Direction) (r s : Range) (A : Claim) → Peels r s → IsAway r → Same P (Seen some d Step (Seen some d s A)) (Seen some d r A)
  seen_later true d r s A peels is = Same-back _ _ (λ i q. some_later P A (position_below t) d peels i is)
  seen_later false d r s A peels is = Same-back _ _ (λ i q. every_later P A (position_below t) d peels i is)

  request_holds : (some : Bool) (d : Direction) (c : Norm) → Same P (Is (request some d c)) (Seen some d Step (Is c))
  request_holds true Future c = Same-self _
  request_holds false Future c = Same-self _
  request_holds true Past c = Same-self _
  request_holds false Past c = Same-self _

  stepped : (some : Bool) (d : Direction) (s : Range) (c e : Norm) → Same P (Is e) (Seen some d s (Is c))
      → Same P (Is (request some d e)) (Seen some d Step (Seen some d s (Is c)))
  stepped some d s c e f = Same-then _ _ _ (request_holds some d e) (Same-seen some d Step _ _ f)

  further_holds : (some : Bool) (d : Direction) (r s : Range) (c e : Norm) → Peels r s → IsAway r → Same P (Is e) (Seen some d s (Is c))
      → Same P (Is (request some d e)) (Seen some d r (Is c))
  further_holds some d r s c e peels is f = Same-then _ _ _ (stepped some d s c e f) (seen_later some d r s (Is c) peels is)

  times_holds : (some : Bool) (d : Direction) (n : ℕ) (c : Norm) → Same P (Is (times (request some d) n c)) (Seen some d (Exactly n) (Is c))
  times_holds some d zero c = seen_here some d (Exactly 0) (Is c) (λ i j w. omega arith) (λ i. omega arith)
  times_holds some d (suc n) c =
      further_holds some d (Exactly (suc n)) (Exactly n) c _ (exactly_peels n) (λ i j w. omega arith) (times_holds some d n c)

  -- a range from here on: here, or and with `false` behind one step
  first_holds : (some : Bool) (d : Direction) (b : ℕ) (c e : Norm) → Same P (Is e) (Seen some d (Between 0 b) (Is c))
      → Same P (Is (disjunction some c (request some d e))) (Seen some d (Between 0 (suc b)) (Is c))
  first_holds true d b c e f = Same-then _ _ _ (Same-or _ _ _ _ (Same-self (Is c)) (stepped true d (Between 0 b) c e f))
      (Same-back _ _ (λ i q. some_first P (Is c) (position_below t) d (first_peels b) i (here d (Between 0 (suc b)) i q (omega arith, omega arith))))
  first_holds false d b c e f = Same-then _ _ _ (Same-and _ _ _ _ (Same-self (Is c)) (stepped false d (Between 0 b) c e f))
      (Same-back _ _ (λ i q. every_first P (Is c) (position_below t) d (first_peels b) i (here d (Between 0 (suc b)) i q (omega arith, omega arith))))

  nothing : (d : Direction) (a i j : ℕ) → Reached P d (Between (suc a) zero) i j → ⊥
  nothing Future a i j w = omega arith
  nothing Past a i j w = omega arith

  nowhere : (some : Bool) (d : Direction) (a : ℕ) (A : Claim) → Same P (Is (NConst (not some))) (Seen some d (Between (suc a) zero) A)
  nowhere true d a A = record { to = λ i q e. absurd (cc); back = λ i q w. absurd (nothing d a i w.0 w.1) }
  nowhere false d a A = record { to = λ i q e j w. absurd (nothing d a i j w); back = λ i q w. refl }

  range_holds : (some : Bool) (d : Direction) (a b : ℕ) (c : Norm) → Same P (Is (in_range some (request some d) a b c)) (Seen some d (Between a b) (Is c))
  range_holds some d zero zero c = seen_here some d (Between 0 0) (Is c) (λ i j w. omega arith) (λ i. (omega arith, omega arith))
  range_holds some d zero (suc b) c = first_holds some d b c _ (range_holds some d zero b c)
  range_holds some d (suc a) (suc b) c =
      further_holds some d (Between (suc a) (suc b)) (Between a b) c _ (between_peels a b) (λ i j w. omega arith) (range_holds some d a b c)
  range_holds some d (suc a) zero c = nowhere some d a (Is c)

  ever_holds : (some : Bool) (d : Direction) (c : Norm) → Same P (Is (until some d (NConst some) c)) (Seen some d Ever (Is c))
  ever_holds true Future c = Same-then _ _ _ (Same-until range _ _ _ _ Same-true (Same-self (Is c))) (Same-back _ _ (λ i q. eventually_is P (Is c) i))
  ever_holds false Future c = Same-then _ _ _ (Same-released range _ _ _ _ Same-false (Same-self (Is c))) (Same-back _ _ (λ i q. always_is P (Is c) i))
  ever_holds true Past c = Same-then _ _ _ (Same-since range _ _ _ _ Same-true (Same-self (Is c))) (Same-back _ _ (λ i q. once_is P (Is c) i))
  ever_holds false Past c = Same-then _ _ _ (Same-triggered range _ _ _ _ Same-false (Same-self (Is c))) (Same-back _ _ (λ i q. historically_is P (Is c) i))

  looking_holds : (some : Bool) (d : Direction) (r : Range) (c : Norm) → Same P (Is (looking some d r c)) (Seen some d r (Is c))
  looking_holds some d Step c = request_holds some d c
  looking_holds some d Ever c = ever_holds some d c
  looking_holds some d (Exactly n) c = times_holds some d n c
  looking_holds some d (Between a b) c = range_holds some d a b c

  -- ---- a claim, and with `false` its negation

  abbrev pub Signed : Bool → Claim → Claim
  Signed true A = A
  Signed false A = Negated A

  -- the normal form of the formula or of its negation, by the sign
  abbrev Stands : Bool → Norm → Formula → Type 0
  Stands s n f = Same P (Is n) (Signed s (Holds t f))

  shape_holds : (s : Bool) (look : Shape) (a : Formula) → ((r : Bool) → Stands r (norm r a) a)
      → Same P (Is (over s look (norm (under s look) a))) (Signed s (OfShape P look (Holds t a)))
  shape_holds true Negation a h = h false
  shape_holds false Negation a h = record {
    to = λ i q x k. k ((h true).to i q x);
    back = λ i q k. elim (decided a i) [ yes x ↦ (h true).back i q x | no n ↦ absurd (k n) ];
  }
  shape_holds true (Somewhere d r) a h = Same-then _ _ _ (looking_holds true d r (norm true a)) (Same-somewhere range d r _ _ (h true))
  shape_holds false (Somewhere d r) a h = Same-then _ _ _ (looking_holds false d r (norm false a)) (Same-no_somewhere range d r _ _ (h false))
  shape_holds true (Everywhere d r) a h = Same-then _ _ _ (looking_holds false d r (norm true a)) (Same-everywhere range d r _ _ (h true))
  shape_holds false (Everywhere d r) a h = Same-then _ _ _ (looking_holds true d r (norm false a))
      (Same-no_everywhere range d r _ _ (Position_decided t) (decided a) (near t good (Unary Not a)) (h false))

  module _ (a b : Formula) (x y : Norm) where
    both_hold : (s : Bool) → Stands s x a → Stands s y b → Stands s (conjunction s x y) (Binary And a b)
    both_hold true f g = Same-and _ _ _ _ f g
    both_hold false f g = Same-no_and _ _ _ _ (decided a) f g

    either_holds : (s : Bool) → Stands s x a → Stands s y b → Stands s (disjunction s x y) (Binary Or a b)
    either_holds true f g = Same-or _ _ _ _ f g
    either_holds false f g = Same-no_or _ _ _ _ (decided a) f g

    implied_holds : (s : Bool) → Stands (not s) x a → Stands s y b → Stands s (disjunction s x y) (Binary Implies a b)
    implied_holds true f g = record {
      to = λ i q w k. elim w [ inl n ↦ absurd (f.to i q n k) | inr v ↦ g.to i q v ];
      back = λ i q h. elim (decided a i) [ yes k ↦ inr (g.back i q (h k)) | no n ↦ inl (f.back i q n) ];
    }
    implied_holds false f g = record {
      to = λ i q w h. g.to i q w.1 (h (f.to i q w.0));
      back = λ i q h. elim (decided a i) [
        | yes k ↦ (f.back i q k, g.back i q (λ v. h (λ k'. v)))
        | no n ↦ absurd (h (λ k. absurd (n k)))
      ];
    }

    until_holds : (s : Bool) → Stands s x a → Stands s y b → Stands s (until s Future x y) (Binary Until a b)
    until_holds true f g = Same-until range _ _ _ _ f g
    until_holds false f g = Same-no_until range _ _ _ _ (decided a) (decided b) f g

    release_holds : (s : Bool) → Stands s x a → Stands s y b → Stands s (until (not s) Future x y) (Binary Release a b)
    release_holds true f g = Same-released range _ _ _ _ f g
    release_holds false f g = Same-no_release range _ _ _ _ (Position_decided t) (decided a) (decided b) (horizon t good _ (Unary Not b)) f g

    since_holds : (s : Bool) → Stands s x a → Stands s y b → Stands s (until s Past x y) (Binary Since a b)
    since_holds true f g = Same-since range _ _ _ _ f g
    since_holds false f g = Same-no_since range _ _ _ _ (decided a) (decided b) f g

    trigger_holds : (s : Bool) → Stands s x a → Stands s y b → Stands s (until (not s) Past x y) (Binary Trigger a b)
    trigger_holds true f g = Same-triggered range _ _ _ _ f g
    trigger_holds false f g = Same-no_trigger range _ _ _ _ (decided a) (decided b) f g

  iff_holds : (s : Bool) (a b : Formula) → ((r : Bool) → Stands r (norm r a) a) → ((r : Bool) → Stands r (norm r b) b)
      → Stands s (norm s (Binary Iff a b)) (Binary Iff a b)
  iff_holds true a b f g = record {
    to = λ i q w. elim w [
      | inl v ↦ (λ x. (g true).to i q v.1, λ y. (f true).to i q v.0)
      | inr v ↦ (λ x. absurd ((f false).to i q v.0 x), λ y. absurd ((g false).to i q v.1 y))
    ];
    back = λ i q h. elim (decided a i) [
      | yes x ↦ inl ((f true).back i q x, (g true).back i q (h.0 x))
      | no n ↦ inr ((f false).back i q n, (g false).back i q (λ y. n (h.1 y)))
    ];
  }
  iff_holds false a b f g = record {
    to = λ i q w h. elim w [
      | inl v ↦ (g false).to i q v.1 (h.0 ((f true).to i q v.0))
      | inr v ↦ (f false).to i q v.0 (h.1 ((g true).to i q v.1))
    ];
    back = λ i q h. elim (decided a i) [
      | yes x ↦ inl ((f true).back i q x, (g false).back i q (λ y. h (λ x'. y, λ y'. x)))
      | no n ↦ elim (decided b i) [
        | yes y ↦ inr ((f false).back i q n, (g true).back i q y)
        | no m ↦ absurd (h (λ x. absurd (n x), λ y. absurd (m y)))
      ]
    ];
  }

  pub norm_holds : (f : Formula) (s : Bool) → Same P (Is (norm s f)) (Signed s (Holds t f))
  norm_holds (Const b) true = Same-self _
  norm_holds (Const b) false = record { to = λ i q e d. not_both b d e; back = λ i q h. not_either b h }
  norm_holds (Letter p) true = Same-self _
  norm_holds (Letter p) false = Same-self _
  norm_holds (Unary op a) s = shape_holds s (shape op) a (norm_holds a)
  norm_holds (Binary And a b) s = both_hold a b _ _ s (norm_holds a s) (norm_holds b s)
  norm_holds (Binary Or a b) s = either_holds a b _ _ s (norm_holds a s) (norm_holds b s)
  norm_holds (Binary Implies a b) s = implied_holds a b _ _ s (norm_holds a (not s)) (norm_holds b s)
  norm_holds (Binary Iff a b) s = iff_holds s a b (norm_holds a) (norm_holds b)
  norm_holds (Binary Until a b) s = until_holds a b _ _ s (norm_holds a s) (norm_holds b s)
  norm_holds (Binary Release a b) s = release_holds a b _ _ s (norm_holds a s) (norm_holds b s)
  norm_holds (Binary WeakUntil a b) s =
      release_holds b (Binary Or a b) _ _ s (norm_holds b s) (either_holds a b _ _ s (norm_holds a s) (norm_holds b s))
  norm_holds (Binary StrongRelease a b) s =
      until_holds b (Binary And a b) _ _ s (norm_holds b s) (both_hold a b _ _ s (norm_holds a s) (norm_holds b s))
  norm_holds (Binary Since a b) s = since_holds a b _ _ s (norm_holds a s) (norm_holds b s)
  norm_holds (Binary Trigger a b) s = trigger_holds a b _ _ s (norm_holds a s) (norm_holds b s)
