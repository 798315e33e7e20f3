-- Runs whose states agree at the letters and the requests of the closure are runs together, and accepted together.
use Rattle.std.proofs.Common.{◌≡◌, ℕ, suc, ◌≤◌, not, ◌&&◌, ◌||◌, IsTrue, refl, arith, ap, ap₂, sym, ◌∙◌, subst, [], Contains}
use Rattle.ltl_syntax.specs.declared.node.Kind.{Kind}
use Rattle.ltl_syntax.specs.declared.node.Kind.TheVariants as Kinds
use Rattle.ltl_syntax.specs.Formula.{Atom, Formula}
use Rattle.ltl_closure.specs.Norm.{Norm, NConst, NLetter, NNotLetter, NAnd, NOr, NNext, NWeakNext, NYesterday, NWeakYesterday, NUntil, NRelease, NSince}
use Rattle.ltl_closure.specs.Norm.{NTrigger, pos_of}
use Rattle.ltl_closure.specs.Closure.{closure, nexts, yesterdays, argument, is_next, is_yesterday}
use Rattle.ltl_closure.specs.Run.{RunState, States, IsRun, val, carry, right_of}
use Rattle.ltl_closure.proofs.Lists.{Contains-filter}
use Rattle.ltl_closure.proofs.Entries.{closure_root}
use Rattle.ltl_run.specs.declared.run_state.Close.{Close}
use Rattle.ltl_run.specs.declared.run_state.Close.TheVariants as closes
use Rattle.ltl_run.specs.TraceOf.{Accepts}
use Rattle.ltl_run.proofs.Carry.{carry-from}
use Rattle.ltl_run.proofs.Shorter.{request_in}
use Rattle.ltl_closure.proofs.Known.{next_in, yesterday_in, eventuality_in}
use Rattle.enc_layout.proofs.Gates.{first_child, second_child}
use Rattle.enc_layout.proofs.Writing.{third_child}
use Rattle.enc_layout.proofs.Carries.{argument_in, right_in}

pub record Agree (f : Formula) (s u : RunState) : Type 0 where
  pub letter : (p : Atom) → Contains (closure f) (NLetter p) → s (NLetter p) ≡ u (NLetter p)
  pub next : (e : Norm) → Contains (nexts f) e → s e ≡ u e
  pub before : (e : Norm) → Contains (yesterdays f) e → s e ≡ u e

module _ (f : Formula) where
  module _ (s u : RunState) (agree : Agree f s u) where
    at_next : (e : Norm) → Contains (closure f) e → IsTrue (is_next e) → s e ≡ u e
    at_next e m h = agree.next e (Contains-filter is_next (closure f) e m h)

    at_before : (e : Norm) → Contains (closure f) e → IsTrue (is_yesterday e) → s e ≡ u e
    at_before e m h = agree.before e (Contains-filter is_yesterday (closure f) e m h)

    pub same_value : (e : Norm) → Contains (closure f) e → val s e ≡ val u e
    same_value (NConst b) m = refl
    same_value (NLetter p) m = agree.letter p m
    same_value (NNotLetter p) m = ap not (agree.letter p (first_child f (NLetter p) (NNotLetter p) [] refl m))
    same_value (NAnd a b) m = ap₂ ◌&&◌ (same_value a (first_child f a (NAnd a b) _ refl m)) (same_value b (second_child f a b (NAnd a b) _ refl m))
    same_value (NOr a b) m = ap₂ ◌||◌ (same_value a (first_child f a (NOr a b) _ refl m)) (same_value b (second_child f a b (NOr a b) _ refl m))
    same_value (NNext a) m = at_next (NNext a) m refl
    same_value (NWeakNext a) m = at_next (NWeakNext a) m refl
    same_value (NYesterday a) m = at_before (NYesterday a) m refl
    same_value (NWeakYesterday a) m = at_before (NWeakYesterday a) m refl
    same_value (NUntil a b) m =
        ap₂ ◌||◌ (same_value b (second_child f a b (NUntil a b) _ refl m))
        (ap₂ ◌&&◌ (same_value a (first_child f a (NUntil a b) _ refl m))
        (at_next (NNext (NUntil a b)) (third_child f a b (NNext (NUntil a b)) (NUntil a b) refl m) refl))
    same_value (NRelease a b) m =
        ap₂ ◌&&◌ (same_value b (second_child f a b (NRelease a b) _ refl m))
        (ap₂ ◌||◌ (same_value a (first_child f a (NRelease a b) _ refl m))
        (at_next (NWeakNext (NRelease a b)) (third_child f a b (NWeakNext (NRelease a b)) (NRelease a b) refl m) refl))
    same_value (NSince a b) m =
        ap₂ ◌||◌ (same_value b (second_child f a b (NSince a b) _ refl m))
        (ap₂ ◌&&◌ (same_value a (first_child f a (NSince a b) _ refl m))
        (at_before (NYesterday (NSince a b)) (third_child f a b (NYesterday (NSince a b)) (NSince a b) refl m) refl))
    same_value (NTrigger a b) m =
        ap₂ ◌&&◌ (same_value b (second_child f a b (NTrigger a b) _ refl m))
        (ap₂ ◌||◌ (same_value a (first_child f a (NTrigger a b) _ refl m))
        (at_before (NWeakYesterday (NTrigger a b)) (third_child f a b (NWeakYesterday (NTrigger a b)) (NTrigger a b) refl m) refl))

    same_carry : carry f s ≡ carry f u
    same_carry = carry-from f s u (record { next = agree.next; before = λ e m. same_value (argument e) (argument_in f e (yesterday_in f e m)) })

  module _ (k : ℕ) (r u : States) (agree : (i : ℕ) → i ≤ k → Agree f (r i) (u i)) where
    pub same_run : IsRun f k r → IsRun f k u
    same_run run = record {
      root = subst IsTrue (same_value (r 0) (u 0) (agree 0 (omega arith)) (pos_of f) (closure_root f)) run.root;
      yesterday = λ a m. sym (at_before (r 0) (u 0) (agree 0 (omega arith)) (NYesterday a) m refl) ∙ run.yesterday a m;
      weak_yesterday = λ a m. sym (at_before (r 0) (u 0) (agree 0 (omega arith)) (NWeakYesterday a) m refl) ∙ run.weak_yesterday a m;
      next = λ i lt e m.
          sym ((agree i (omega arith)).next e m)
          ∙ (run.next i lt e m ∙ same_value (r (suc i)) (u (suc i)) (agree (suc i) (omega arith)) (argument e) (argument_in f e (next_in f e m)));
      before = λ i lt e m.
          sym ((agree (suc i) (omega arith)).before e m)
          ∙ (run.before i lt e m ∙ same_value (r i) (u i) (agree i (omega arith)) (argument e) (argument_in f e (yesterday_in f e m)));
    }

    pub same_rule : (close : Close) (kind : Kind) → Accepts close f r k kind → Accepts close f u k kind
    same_rule closes.Empty Kinds.Infinite h = λ e m. sym ((agree k (omega arith)).next e m) ∙ h e m
    same_rule (closes.Loop l) Kinds.Infinite h =
        let lt = h.earlier in
        record {
          earlier = h.earlier;
          one = sym (same_carry (r l) (u l) (agree l (omega arith))) ∙ (h.one ∙ same_carry (r k) (u k) (agree k (omega arith)));
          fulfilled = λ e m pending.
              let w = h.fulfilled e m (subst IsTrue (sym ((agree k (omega arith)).next (NNext e) (request_in f e m))) pending) in
              (w.0, w.1, w.2, subst IsTrue (same_value (r w.0) (u w.0) (agree w.0 w.2) (right_of e) (right_in f e (eventuality_in f e m))) w.3);
        }
    same_rule closes.End Kinds.Finite h = λ a m. sym (at_next (r k) (u k) (agree k (omega arith)) (NNext a) m refl) ∙ h a m
    same_rule closes.Empty Kinds.Finite h = absurd h
    same_rule (closes.Loop l) Kinds.Finite h = absurd h
    same_rule closes.End Kinds.Infinite h = absurd h
