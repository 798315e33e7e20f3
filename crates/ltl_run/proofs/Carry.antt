-- States with one carry agree on their next requests and on the arguments of their yesterday requests.
use Rattle.std.proofs.Common.{◌≡◌, ap, ap₂, [], ◌++◌, map, Contains}
use Rattle.ltl_syntax.specs.Formula.{Formula}
use Rattle.ltl_closure.specs.Norm.{Norm}
use Rattle.ltl_closure.specs.Closure.{nexts, yesterdays, argument}
use Rattle.ltl_closure.specs.Run.{RunState, val, carry}
use Rattle.ltl_closure.proofs.Lists.{agree_in_front, map_agree}

-- what one carry says, entry by entry
pub record OneCarry (f : Formula) (s u : RunState) : Type 0 where
  pub next : (e : Norm) → Contains (nexts f) e → s e ≡ u e
  pub before : (e : Norm) → Contains (yesterdays f) e → val s (argument e) ≡ val u (argument e)

pub OneCarry-from : (f : Formula) (s u : RunState) → carry f s ≡ carry f u → OneCarry f s u
OneCarry-from f s u h =
    let r = agree_in_front s u (nexts f) (map (λ e. val s (argument e)) (yesterdays f)) (map (λ e. val u (argument e)) (yesterdays f)) h in
    let q = agree_in_front (λ e. val s (argument e)) (λ e. val u (argument e)) (yesterdays f) [] [] (ap (λ z. z ++ []) r.1) in
    record { next = r.0; before = q.0 }

pub carry-from : (f : Formula) (s u : RunState) → OneCarry f s u → carry f s ≡ carry f u
carry-from f s u c = ap₂ ◌++◌ (map_agree s u (nexts f) c.next) (map_agree (λ e. val s (argument e)) (λ e. val u (argument e)) (yesterdays f) c.before)
