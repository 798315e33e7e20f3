-- What the answers mean, and which comes of the decisions.
use Rattle.std.proofs.Common.{◌≡◌, ℕ, ◌<◌, ◌≤◌, Vec, Global, inl, inr, arith, refl, sym, subst}
use Rattle.std.proofs.lemmas.Bool.{cases_lt}
use Rattle.ltl_syntax.specs.declared.node.Kind.{Kind}
use Rattle.ltl_syntax.specs.declared.node.Kind.TheVariants as Kinds
use Rattle.ltl_syntax.specs.Formula.{Formula, Unary}
use Rattle.ltl_syntax.specs.declared.node.UnaryOp.TheVariants.{Not}
use Rattle.ltl_syntax.specs.Table.{tree_at}
use Rattle.ltl_word.specs.declared.trace.Trace.{Trace}
use Rattle.ltl_word.specs.Trace.{IsTrace, IsOfKind}
use Rattle.ltl_word.specs.Holds.{Satisfies}
use Rattle.ltl_word.proofs.Decided.{Holds_decided}
use Rattle.ltl_closure.specs.Run.{Verdict, IsVerdict, undecided, Sat, Unsat, Undecided, bound}
use Rattle.ltl_run.proofs.Bounds.{settled}
use Rattle.ltl_run.proofs.Least.{unsat_has_no_trace}
use Rattle.ltl_run.proofs.Closing.{run_satisfies}
use Rattle.ltl_run.proofs.Unique.{verdict_is_one}
use Rattle.system_check.specs.System.{IsSystem, IsPath, system_of, whole_of}
use Rattle.derivation.specs.Steps.{DerivationValue}
use Rattle.enc_layout.specs.Letters.{Fits}
use Rattle.enc_layout.specs.Limit.{layout}
use Rattle.unravel.specs.Decision.{IsTraceOfRun, IsDecision}
use Rattle.unravel.specs.declared.decision.Decision.TheVariants as decisions
use Rattle.system_check.specs.declared.deciding.SystemAnswer.{SystemAnswer}
use Rattle.system_check.specs.declared.deciding.SystemAnswer.TheVariants as answers
use Rattle.system_check.specs.declared.joining.Joined.{Joined}
use Rattle.system_check.specs.Joining.{IsJoined}
use Rattle.system_check.specs.Answer.{Says, IsNotRefuted, IsAnswerOf, IsAnswer, outcome_of}
use Rattle.system_check.proofs.Paths.{system_paths, whole_paths}
use Rattle.system_check.proofs.Sizes.{left_no_larger, left_fits}

-- the trace of an accepted run is one of the kind and satisfies the formula
pub run_trace : (f : Formula) (kind : Kind) (k : ℕ) (t : Trace) → IsTraceOfRun f kind k t → IsTrace t × IsOfKind t kind × Satisfies t f
run_trace f kind k t w = run_satisfies f kind k w.0 w.2 t w.1 w.3 w.4

pub sat_not_refuted : (f : Formula) (limit k : ℕ) → Says f limit (Sat k) → IsNotRefuted f limit
sat_not_refuted f limit k sat j unsat = let e = verdict_is_one f Kinds.Infinite limit (Sat k) (Unsat j) sat unsat in cc

pub undecided_not_refuted : (f : Formula) (limit k : ℕ) → Says f limit (Undecided k) → IsNotRefuted f limit
undecided_not_refuted f limit k open_still j unsat = let e = verdict_is_one f Kinds.Infinite limit (Undecided k) (Unsat j) open_still unsat in cc

undecided_at : (f : Formula) (kind : Kind) (limit d : ℕ) → IsVerdict f kind limit (Undecided d) → d ≡ limit
undecided_at f kind limit d (undecided all) = refl

module _ (start step goal : Formula) (limit : ℕ) where
  pub system_settles : (kind : Kind) (k : ℕ) → bound (whole_of start step goal) kind ≤ limit → ¬ IsVerdict (system_of start step) kind limit (Undecided k)
  system_settles kind k le is =
      let less : bound (system_of start step) kind ≤ limit = omega (arith, (left_no_larger (system_of start step) (Unary Not goal)).bounds kind) in
      settled (system_of start step) kind limit k less is

  pub unknown_low : (d : ℕ) → IsAnswer start step goal limit (answers.Undecided d) → (d ≡ limit) × (limit < bound (whole_of start step goal) Kinds.Infinite)
  unknown_low d is = (
    undecided_at _ Kinds.Infinite limit d is.1,
    elim (cases_lt limit (bound (whole_of start step goal) Kinds.Infinite)) [
      | inl lt ↦ lt
      | inr le ↦ absurd (settled _ Kinds.Infinite limit d le is.1)
    ],
  )

  module _ (is : IsSystem start step) where
    pub no_path : (k : ℕ) (t : Trace) → IsAnswer start step goal limit (answers.NoPath k) → ¬ IsPath start step t
    no_path k t unsat p =
        unsat_has_no_trace (system_of start step) Kinds.Infinite limit k t unsat p.trace p.infinite ((system_paths t p.trace p.infinite start step is).1 p)

    -- where the whole formula is refuted, each path satisfies the goal
    pub refuted_holds : (k : ℕ) (t : Trace) → Says (whole_of start step goal) limit (Unsat k) → IsPath start step t → Satisfies t goal
    refuted_holds k t unsat p = elim (Holds_decided t p.trace goal 0) [
      | yes h ↦ h
      | no n ↦ absurd (unsat_has_no_trace (whole_of start step goal) Kinds.Infinite limit k t unsat p.trace p.infinite
          ((whole_paths t p.trace p.infinite start step is goal).1 (p, n)))
    ]

    pub holds_on : (k : ℕ) (log : DerivationValue) (targets : Vec ℕ Global) (t : Trace) → IsAnswer start step goal limit (answers.Holds k log targets)
        → IsPath start step t → Satisfies t goal
    holds_on k log targets t w p = refuted_holds k t w.1 p

    pub fails_on : (k : ℕ) (t : Trace) → IsTraceOfRun (whole_of start step goal) Kinds.Infinite k t → IsPath start step t × (¬ Satisfies t goal)
    fails_on k t w =
        let m = run_trace (whole_of start step goal) Kinds.Infinite k t w in
        (whole_paths t m.0 m.1 start step is goal).0 m.2

    pub sat_fails : (k : ℕ) (t : Trace) → Says (whole_of start step goal) limit (Sat k) → IsTraceOfRun (whole_of start step goal) Kinds.Infinite k t
        → IsAnswer start step goal limit (answers.Fails k t)
    sat_fails k t sat w = (λ j unsat. no_path j t unsat (fails_on k t w).0, sat, w)

  -- ---- the answer is one

  same_verdict : (f : Formula) (v w : Verdict) → Says f limit v → Says f limit w → v ≡ w
  same_verdict f v w a b = verdict_is_one f Kinds.Infinite limit v w a b

  pub answer_one : (a b : SystemAnswer) → IsAnswer start step goal limit a → IsAnswer start step goal limit b → outcome_of a ≡ outcome_of b
  answer_one (answers.NoPath j) (answers.NoPath k) v w = let e = same_verdict _ (Unsat j) (Unsat k) v w in cc
  answer_one (answers.NoPath j) (answers.Holds k log targets) v w = absurd (w.0 j v)
  answer_one (answers.NoPath j) (answers.Fails k t) v w = absurd (w.0 j v)
  answer_one (answers.NoPath j) (answers.Undecided k) v w = absurd (w.0 j v)
  answer_one (answers.Holds j m ns) (answers.NoPath k) v w = absurd (v.0 k w)
  answer_one (answers.Holds j m ns) (answers.Holds k log targets) v w = let e = same_verdict _ (Unsat j) (Unsat k) v.1 w.1 in cc
  answer_one (answers.Holds j m ns) (answers.Fails k t) v w = let e = same_verdict _ (Unsat j) (Sat k) v.1 w.1 in absurd (cc)
  answer_one (answers.Holds j m ns) (answers.Undecided k) v w = let e = same_verdict _ (Unsat j) (Undecided k) v.1 w.1 in absurd (cc)
  answer_one (answers.Fails j s) (answers.NoPath k) v w = absurd (v.0 k w)
  answer_one (answers.Fails j s) (answers.Holds k log targets) v w = let e = same_verdict _ (Sat j) (Unsat k) v.1 w.1 in absurd (cc)
  answer_one (answers.Fails j s) (answers.Fails k t) v w = let e = same_verdict _ (Sat j) (Sat k) v.1 w.1 in cc
  answer_one (answers.Fails j s) (answers.Undecided k) v w = let e = same_verdict _ (Sat j) (Undecided k) v.1 w.1 in absurd (cc)
  answer_one (answers.Undecided j) (answers.NoPath k) v w = absurd (v.0 k w)
  answer_one (answers.Undecided j) (answers.Holds k log targets) v w = let e = same_verdict _ (Undecided j) (Unsat k) v.1 w.1 in absurd (cc)
  answer_one (answers.Undecided j) (answers.Fails k t) v w = let e = same_verdict _ (Undecided j) (Sat k) v.1 w.1 in absurd (cc)
  answer_one (answers.Undecided j) (answers.Undecided k) v w = let e = same_verdict _ (Undecided j) (Undecided k) v.1 w.1 in cc

-- ---- the answer of the decisions on the two formulas of a table

module _ (start step goal : Formula) (limit : ℕ) (j : Joined) (is : IsJoined start step goal j) where
  -- the answer on the formulas of the table is that on the system and the goal
  pub on_system : (a : SystemAnswer) → IsAnswerOf (tree_at j.table j.system) (tree_at j.table j.whole) limit a → IsAnswer start step goal limit a
  on_system a w = subst (λ f. IsAnswerOf f (whole_of start step goal) limit a) is.formulas.system_is
      (subst (λ f. IsAnswerOf (tree_at j.table j.system) f limit a) is.formulas.whole_is w)

  -- where the whole formula has an accepted run, the system formula needs no decision
  pub shown_fails : (k : ℕ) (t : Trace) → IsDecision (tree_at j.table j.whole) Kinds.Infinite limit (decisions.Sat k t)
      → IsAnswer start step goal limit (answers.Fails k t)
  shown_fails k t d = let e = subst (λ f. IsDecision f Kinds.Infinite limit (decisions.Sat k t)) is.formulas.whole_is d in
      sat_fails start step goal limit is.forms k t e.0 e.1

  -- the limit that fits the whole formula fits the system formula
  pub system_fits : (d : ℕ) → Fits (layout (tree_at j.table j.whole) Kinds.Infinite) d → Fits (layout (tree_at j.table j.system) Kinds.Infinite) d
  system_fits d fits =
      subst (λ f. Fits (layout f Kinds.Infinite) d) (sym is.formulas.system_is)
      (left_fits (system_of start step) (Unary Not goal) Kinds.Infinite d (subst (λ f. Fits (layout f Kinds.Infinite) d) is.formulas.whole_is fits))
