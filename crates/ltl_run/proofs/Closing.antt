-- The trace of an accepted run is one of its kind, and it satisfies the formula.
use Rattle.std.proofs.Common.{ℕ, ◌<◌, [], ◌∷◌, length, subst, sym, arith, true}
use Rattle.ltl_syntax.specs.declared.node.Kind.{Kind}
use Rattle.ltl_syntax.specs.declared.node.Kind.TheVariants as Kinds
use Rattle.ltl_syntax.specs.Formula.{Formula}
use Rattle.ltl_word.specs.declared.trace.Trace.{Trace}
use Rattle.ltl_word.specs.declared.trace.Trace.TheVariants.{Infinite, Finite}
use Rattle.ltl_word.specs.Trace.{IsTrace, IsOfKind, IsPosition}
use Rattle.ltl_word.specs.Holds.{Holds, Satisfies}
use Rattle.ltl_closure.specs.Norm.{formula_of, pos_of}
use Rattle.ltl_closure.specs.Run.{States, IsRun, IsAccepted, Empty, Loop, End}
use Rattle.ltl_run.specs.declared.run_state.Close.{Close}
use Rattle.ltl_run.specs.declared.run_state.Close.TheVariants as closes
use Rattle.ltl_run.specs.TraceOf.{Accepts, GivesTrace}
use Rattle.ltl_run.proofs.Normal.{norm_holds}
use Rattle.ltl_run.proofs.Looping.{loop_satisfies}
use Rattle.ltl_run.proofs.Ending.{empty_satisfies, end_satisfies}

-- the first number is a position
pub first_position : (t : Trace) → IsTrace t → IsPosition t 0
first_position (Infinite stem loop_part) good = tt
first_position (Finite states) good = good

satisfies : (f : Formula) (t : Trace) → IsTrace t → Holds t (formula_of (pos_of f)) 0 → Satisfies t f
satisfies f t good h = (norm_holds t good f true).to 0 (first_position t good) h

pub run_satisfies : (f : Formula) (kind : Kind) (k : ℕ) (r : States) (close : Close) (t : Trace) → IsRun f k r → Accepts close f r k kind
    → GivesTrace f r k close t → IsTrace t × IsOfKind t kind × Satisfies t f
run_satisfies f Kinds.Infinite k r closes.Empty t run none (stem, e, g) =
    let good : IsTrace (Infinite stem ([] ∷ [])) = omega arith in
    subst (λ u. IsTrace u × IsOfKind u Kinds.Infinite × Satisfies u f) (sym e)
    (good, tt, satisfies f (Infinite stem ([] ∷ [])) good (empty_satisfies f k r run none stem g))
run_satisfies f Kinds.Infinite k r (closes.Loop l) t run c (stem, loop_part, e, g) =
    let n = g.loop_length in
    let lt = c.earlier in
    let good : 0 < length loop_part = omega arith in
    subst (λ u. IsTrace u × IsOfKind u Kinds.Infinite × Satisfies u f) (sym e)
    (good, tt, satisfies f (Infinite stem loop_part) good (loop_satisfies f k r run l c.earlier c.one c.fulfilled stem loop_part g))
run_satisfies f Kinds.Finite k r closes.End t run none (states, e, g) =
    let n = g.states_length in
    let good : 0 < length states = omega arith in
    subst (λ u. IsTrace u × IsOfKind u Kinds.Finite × Satisfies u f) (sym e)
    (good, tt, satisfies f (Finite states) good (end_satisfies f k r run none states g))
run_satisfies f Kinds.Finite k r closes.Empty t run acc g = absurd acc
run_satisfies f Kinds.Finite k r (closes.Loop l) t run acc g = absurd acc
run_satisfies f Kinds.Infinite k r closes.End t run acc g = absurd acc

pub rule_of : (f : Formula) (kind : Kind) (k : ℕ) (r : States) → IsAccepted f r k kind → (close : Close) × Accepts close f r k kind
rule_of f kind k r (Empty none) = (closes.Empty, none)
rule_of f kind k r (Loop l lt one done) = (closes.Loop l, record { earlier = lt; one = one; fulfilled = done })
rule_of f kind k r (End none) = (closes.End, none)

pub accepted_by : (f : Formula) (kind : Kind) (k : ℕ) (r : States) → (close : Close) × Accepts close f r k kind → IsAccepted f r k kind
accepted_by f Kinds.Infinite k r (closes.Empty, none) = Empty none
accepted_by f Kinds.Infinite k r (closes.Loop l, c) = Loop l c.earlier c.one c.fulfilled
accepted_by f Kinds.Infinite k r (closes.End, c) = absurd c
accepted_by f Kinds.Finite k r (closes.End, none) = End none
accepted_by f Kinds.Finite k r (closes.Empty, c) = absurd c
accepted_by f Kinds.Finite k r (closes.Loop l, c) = absurd c
