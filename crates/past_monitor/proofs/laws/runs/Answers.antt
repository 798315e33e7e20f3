use Rattle.std.proofs.Common.{◌≡◌, ◌+◌, [], suc, take, slice_index_or, false, ◌↔◌, IsTrue, subst, arith}
use Rattle.ltl_word.specs.declared.trace.Trace.TheVariants.{Finite}
use Rattle.ltl_word.specs.Holds.{Holds}
use Rattle.past_monitor.specs.Monitor.{formula_of}
use Rattle.past_monitor.proofs.Runs.{run_right}
use Rattle.past_monitor.proofs.laws.runs.Goals as goal

pub returns : goal.returns
returns c m states answers stands run =
    let right = run_right states answers m [] stands run in (
      right.0,
      λ k lt. let e : 0 + k ≡ k = omega arith in
          subst (λ i. IsTrue (slice_index_or answers k false) ↔ Holds (Finite (take (suc k) states)) (formula_of m) i) e (right.1 k lt),
    )
