-- `system` has an answer.
use Rattle.std.proofs.Common.{◌≡◌, ℕ, ◌-◌, ◌≤◌, ◌⊎◌, inl, inr, Bool, true, false, List, length, Option, Some, None, refl, arith}
use Rattle.std.proofs.lemmas.Bool.{cases_lt}
use Rattle.ltl_syntax.specs.declared.node.Kind.TheVariants as kinds
use Rattle.ltl_syntax.specs.declared.node.UnaryOp.{UnaryOp}
use Rattle.ltl_syntax.specs.declared.node.BinaryOp.{BinaryOp}
use Rattle.ltl_syntax.specs.declared.node.UnaryOp.TheVariants as one
use Rattle.ltl_syntax.specs.declared.node.BinaryOp.TheVariants as two
use Rattle.ltl_syntax.specs.Formula.{Formula, Const, Letter, Unary, Binary}
use Rattle.ltl_syntax.specs.Print.{text_of as printed}
use Rattle.ltl_parser.specs.Text.{ReadsText, IsPrintable}
use Rattle.ltl_word.specs.Propositional.{IsLocal₁, IsLocal₂, IsPropositional}
use Rattle.ltl_closure.specs.Run.{Verdict, Sat, Unsat, Undecided}
use Rattle.ltl_run.specs.Laws.{VerdictIsOne}
use Rattle.enc_layout.specs.Limit.{layout, IsInForce}
use Rattle.enc_layout.proofs.Fitting.{lower_fits}
use Rattle.system_check.specs.TwoStates.{IsStepForm}
use Rattle.system_check.specs.System.{IsSystem, system_of, whole_of}
use Rattle.system_check.specs.Joining.{whole_size}
use Rattle.system_check.specs.Answer.{Says, IsNotRefuted}
use Rattle.report.specs.declared.fault.Fault.{Fault}
use Rattle.report.specs.declared.fault.Fault.TheVariants as faults
use Rattle.report.specs.Texts.{Proof}
use Rattle.black_top.specs.Answer.{Answer, refused, no_path, paths_hold, path_fails, undecided}
use Rattle.black_top.specs.Laws.{NeedsLong}
use Rattle.black_top.specs.Solve.{number_of}
use Rattle.black_top.specs.System.{AreParts, HasFewSeparators, part_bytes, IsFaulty, lexical, grammar, in_start, in_step, in_goal, IsDecided, pathless, kept}
use Rattle.black_top.specs.System.{AreSystem, ProvesWhole}
use Rattle.black_top.specs.System.{broken, undecided_yet, IsSettled, too_large, no_start, no_step, too_deep, decided, IsSystemAnswer, unparted, too_long}
use Rattle.black_top.specs.System.{faulty, settled}
use Rattle.black_top.proofs.RunTraces.{run_trace}
use Rattle.program_input.proofs.SomeParts.{EachHasOutcome, cut_or_not}
use Rattle.black_top.proofs.Certified.{unsat_shallow}
use Rattle.black_top.proofs.SomeWritten.{WritingLaws, written_or_long, carried}
use Rattle.black_top.proofs.SomeSolved.{SearchLaws, run_of, reached_or_below}

-- ---- the forms

local_one : (op : UnaryOp) → IsLocal₁ op ⊎ ¬ IsLocal₁ op
local_one one.Not = inl tt
local_one other = inr (λ h. h)

local_two : (op : BinaryOp) → IsLocal₂ op ⊎ ¬ IsLocal₂ op
local_two two.And = inl tt
local_two two.Or = inl tt
local_two two.Implies = inl tt
local_two two.Iff = inl tt
local_two other = inr (λ h. h)

pub both : {A B : Type 0} → A ⊎ ¬ A → B ⊎ ¬ B → (A × B) ⊎ ¬ (A × B)
both (inl a) (inl b) = inl (a, b)
both (inl a) (inr n) = inr (λ p. n p.1)
both (inr n) b = inr (λ p. n p.0)

pub all_three : {A B C : Type 0} → A ⊎ ¬ A → B ⊎ ¬ B → C ⊎ ¬ C → (A × B × C) ⊎ ¬ (A × B × C)
all_three (inl a) (inl b) (inl c) = inl (a, b, c)
all_three (inl a) (inl b) (inr n) = inr (λ p. n p.2)
all_three (inl a) (inr n) c = inr (λ p. n p.1)
all_three (inr n) b c = inr (λ p. n p.0)

propositional_or_not : (f : Formula) → IsPropositional f ⊎ ¬ IsPropositional f
propositional_or_not (Const b) = inl tt
propositional_or_not (Letter p) = inl tt
propositional_or_not (Unary op a) = both (local_one op) (propositional_or_not a)
propositional_or_not (Binary op a b) = all_three (local_two op) (propositional_or_not a) (propositional_or_not b)

step_or_not : (f : Formula) → IsStepForm f ⊎ ¬ IsStepForm f
step_or_not (Const b) = inl tt
step_or_not (Letter p) = inl tt
step_or_not (Unary one.Not a) = step_or_not a
step_or_not (Unary one.Next a) = propositional_or_not a
step_or_not (Unary op a) = inr (λ h. h)
step_or_not (Binary op a b) = all_three (local_two op) (step_or_not a) (step_or_not b)

-- ---- three formulas

module _ (laws : SearchLaws) (writing : WritingLaws) (one_verdict : VerdictIsOne) (start step goal : Formula)
    (printable : IsPrintable (whole_of start step goal)) (wanted : Option ℕ) (cert : Bool) (shallow : number_of wanted ≤ 1000) where
  -- the formulas are a system of a size within its limit, a certificate is asked for, and each refutation has too many lines
  abbrev pub IsLongSystem : Type 0
  IsLongSystem =
      (whole_size start step goal ≤ 16384) × IsSystem start step × (cert ≡ true) × NeedsLong (whole_of start step goal) kinds.Infinite wanted

  module _ (few : whole_size start step goal ≤ 16384) (forms : IsSystem start step) (limit : ℕ)
      (force : IsInForce (whole_of start step goal) kinds.Infinite (number_of wanted) limit) where
    abbrev HasDecided : Type 0
    HasDecided = ((a : Answer) × IsDecided start step goal limit cert a) ⊎ IsLongSystem

    proves : (b : Bool) → cert ≡ b → (k : ℕ) → Says (whole_of start step goal) limit (Unsat k)
        → ((proof : Option Proof) × ProvesWhole b (whole_of start step goal) k proof) ⊎ IsLongSystem
    proves false e k h = inl (None, refl)
    proves true e k h =
        let whole = whole_of start step goal in
        let low = unsat_shallow whole kinds.Infinite limit k h in
        let below = force.below in
        elim (written_or_long writing whole kinds.Infinite k (omega (arith, low, below, shallow))
        (lower_fits (layout whole kinds.Infinite) k limit low force.fits)) [
          | inl w ↦ inl (Some (record { formula = printed whole; certificate = w.0 }), (w.0, refl, w.1, w.2))
          | inr long ↦ inr (few, forms, e, (limit, k, force, h, long))
        ]

    by_whole : IsNotRefuted (system_of start step) limit → (v : Verdict) → Says (whole_of start step goal) limit v → HasDecided
    by_whole not (Sat k) h =
        let w = run_trace laws.runs (whole_of start step goal) kinds.Infinite k printable (run_of (whole_of start step goal) kinds.Infinite limit k h) in
        inl (path_fails k w.0, broken k w.0 not h w.1 w.2)
    by_whole not (Unsat k) h = carried (proves cert refl k h) (λ p. (paths_hold k p.0, kept k p.0 not h p.1))
    by_whole not (Undecided k) h = inl (undecided k, undecided_yet k not h)

    not_refuted : (v : Verdict) → Says (system_of start step) limit v → ((k : ℕ) → v ≡ Unsat k → ⊥) → IsNotRefuted (system_of start step) limit
    not_refuted v h other k says = other k (one_verdict (system_of start step) kinds.Infinite limit v (Unsat k) h says)

    some_decided : HasDecided
    some_decided = let v = laws.verdict (system_of start step) kinds.Infinite limit in by v.0 v.1
      where
        whole : IsNotRefuted (system_of start step) limit → HasDecided
        whole not = let w = laws.verdict (whole_of start step goal) kinds.Infinite limit in by_whole not w.0 w.1

        by : (v : Verdict) → Says (system_of start step) limit v → HasDecided
        by (Unsat k) h = inl (no_path k, pathless k h)
        by (Sat k) h = whole (not_refuted (Sat k) h (λ m e. cc))
        by (Undecided k) h = whole (not_refuted (Undecided k) h (λ m e. cc))

  some_settled : ((a : Answer) × IsSettled wanted cert start step goal a) ⊎ IsLongSystem
  some_settled = elim (cases_lt 16384 (whole_size start step goal)) [
    | inl large ↦ inl (refused (faults.Nodes (whole_size start step goal)), too_large large)
    | inr small ↦ elim (propositional_or_not start) [
      | inr other ↦ inl (refused faults.SystemStart, no_start small other)
      | inl first ↦ elim (step_or_not step) [
        | inr other ↦ inl (refused faults.SystemStep, no_step small first other)
        | inl second ↦
            let forms : IsSystem start step = record { start_form = first; step_form = second } in
            let limit = laws.limit (whole_of start step goal) kinds.Infinite (number_of wanted) small in
            elim (reached_or_below (whole_of start step goal) kinds.Infinite wanted limit.0 limit.1) [
              | inr (n, is, force, less) ↦ inl (refused (faults.Letters limit.0), too_deep n limit.0 small forms is force less)
              | inl is ↦ carried (some_decided small forms limit.0 limit.1) (λ w. (w.0, decided limit.0 w.0 small forms limit.1 is w.1))
            ]
      ]
    ]
  ]

-- ---- the input

-- the part reads as a formula, or has a fault
read_or_faulty : EachHasOutcome → (part : List ℕ) (place : ℕ) → ((f : Formula) × ReadsText part f) ⊎ ((fault : Fault) × IsFaulty part place fault)
read_or_faulty outcome part place = elim (outcome part) [
  | inl w ↦ inr (_, lexical w.0 w.1)
  | inr more ↦ elim more [
    | inl w ↦ inr (_, grammar w.0 w.1)
    | inr w ↦ inl w
  ]
]

parts_or_few : (bytes : List ℕ) → ((start step goal : List ℕ) × AreParts bytes start step goal) ⊎ HasFewSeparators bytes
parts_or_few bytes = elim (cut_or_not bytes) [
  | inr none ↦ inr (inl none)
  | inl (start, behind, cut) ↦ elim (cut_or_not behind) [
    | inr none ↦ inr (inr (start, behind, cut, none))
    | inl (step, goal, second) ↦ inl (start, step, goal, record { behind = behind; first = cut; second = second })
  ]
]

whole_printable : (f g h : Formula) → IsPrintable f → IsPrintable g → IsPrintable h → IsPrintable (whole_of f g h)
whole_printable f g h a b c = ((a, (tt, b)), (tt, c))

abbrev IsLongAsked : Option ℕ → Bool → List ℕ → Type 0
IsLongAsked wanted cert bytes =
    (cert ≡ true) × (f : Formula) × (g : Formula) × (h : Formula) × AreSystem bytes f g h × NeedsLong (whole_of f g h) kinds.Infinite wanted

pub some_system : EachHasOutcome → SearchLaws → WritingLaws → VerdictIsOne → (wanted : Option ℕ) (cert : Bool) (bytes : List ℕ) → number_of wanted ≤ 1000
    → ((a : Answer) × IsSystemAnswer wanted cert bytes a) ⊎ IsLongAsked wanted cert bytes
some_system outcome laws writing one_verdict wanted cert bytes shallow = elim (parts_or_few bytes) [
  | inr few ↦ inl (refused faults.NoSeparator, unparted few)
  | inl (start, step, goal, parts) ↦ elim (cases_lt 1048576 (part_bytes start step goal)) [
    | inl long ↦ inl (refused faults.Text, too_long start step goal parts long)
    | inr short ↦ elim (read_or_faulty outcome start 0) [
      | inr (fault, h) ↦ inl (refused fault, faulty start step goal fault parts short (in_start h))
      | inl (f, a) ↦ elim (read_or_faulty outcome step (length bytes - length parts.behind)) [
        | inr (fault, h) ↦ inl (refused fault, faulty start step goal fault parts short (in_step f a h))
        | inl (g, b) ↦ elim (read_or_faulty outcome goal (length bytes - length goal)) [
          | inr (fault, h) ↦ inl (refused fault, faulty start step goal fault parts short (in_goal f g a b h))
          | inl (h, c) ↦
              let printable = whole_printable f g h (laws.printable start f a) (laws.printable step g b) (laws.printable goal h c) in
              elim (some_settled laws writing one_verdict f g h printable wanted cert shallow) [
                | inl w ↦ inl (w.0, settled start step goal f g h w.0 parts short a b c w.1)
                | inr (small, forms, e, long) ↦
                    let are : AreSystem bytes f g h = record {
                      start = start;
                      step = step;
                      goal = goal;
                      parts = parts;
                      short = short;
                      start_reads = a;
                      step_reads = b;
                      goal_reads = c;
                      few = small;
                      forms = forms;
                    } in
                    inr (e, f, g, h, are, long)
              ]
        ]
      ]
    ]
  ]
]
