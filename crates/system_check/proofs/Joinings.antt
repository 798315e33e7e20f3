-- Where memory suffices, the parts are joined, or refused for one cause.
use Rattle.std.proofs.Common.{◌≡◌, Result, Ok, Err, Some, refl, ap, arith}
use Rattle.ltl_syntax.specs.Formula.{Formula}
use Rattle.system_check.specs.declared.joining.Joined.{Joined}
use Rattle.system_check.specs.declared.joining.JoinRefused.{JoinRefused}
use Rattle.system_check.specs.declared.joining.JoinRefused.TheVariants.{Nodes, Start, Step, NoMemory}
use Rattle.system_check.specs.Joining.{IsJoining, HasMemory, refusal_of}

module _ (start step goal : Formula) where
  pub joining_one : (r s : Result Joined JoinRefused) → HasMemory r → HasMemory s → IsJoining start step goal r → IsJoining start step goal s
      → refusal_of r ≡ refusal_of s
  joining_one (Err NoMemory) s h k v w = absurd h
  joining_one (Ok i) (Err NoMemory) h k v w = absurd k
  joining_one (Err (Nodes n)) (Err NoMemory) h k v w = absurd k
  joining_one (Err Start) (Err NoMemory) h k v w = absurd k
  joining_one (Err Step) (Err NoMemory) h k v w = absurd k
  joining_one (Ok i) (Ok j) h k v w = refl
  joining_one (Ok i) (Err (Nodes n)) h k v w = absurd (omega (arith, v.0, w.0, w.1))
  joining_one (Ok i) (Err Start) h k v w = absurd (w.1 v.1.forms.start_form)
  joining_one (Ok i) (Err Step) h k v w = absurd (w.2 v.1.forms.step_form)
  joining_one (Err (Nodes n)) (Ok i) h k v w = absurd (omega (arith, w.0, v.0, v.1))
  joining_one (Err (Nodes m)) (Err (Nodes n)) h k v w = let e : m ≡ n = omega (arith, v.0, w.0) in ap (λ size. Some (Nodes size)) e
  joining_one (Err (Nodes n)) (Err Start) h k v w = absurd (omega (arith, w.0, v.0, v.1))
  joining_one (Err (Nodes n)) (Err Step) h k v w = absurd (omega (arith, w.0, v.0, v.1))
  joining_one (Err Start) (Ok i) h k v w = absurd (v.1 w.1.forms.start_form)
  joining_one (Err Start) (Err (Nodes n)) h k v w = absurd (omega (arith, v.0, w.0, w.1))
  joining_one (Err Start) (Err Start) h k v w = refl
  joining_one (Err Start) (Err Step) h k v w = absurd (v.1 w.1)
  joining_one (Err Step) (Ok i) h k v w = absurd (v.2 w.1.forms.step_form)
  joining_one (Err Step) (Err (Nodes n)) h k v w = absurd (omega (arith, v.0, w.0, w.1))
  joining_one (Err Step) (Err Start) h k v w = absurd (w.1 v.1)
  joining_one (Err Step) (Err Step) h k v w = refl
