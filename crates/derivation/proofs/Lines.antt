-- Lines that are steps over a list: where their hints point to, what follows, and the lines of a log under the names of its inputs.
use Rattle.std.proofs.Common.{◌≡◌, ℕ, zero, suc, ◌-◌, ◌<◌, ◌≤◌, Bool, refl, sym, ap, ◌∙◌, subst, arith, List, [], length, map, take, get_or, slice_get}
use Rattle.std.proofs.Common.{Contains, Some}
use Rattle.std.proofs.lemmas.List.{get_or-map, get_or_default, length-map, length-take-le, get_or-take}
use Rattle.std.proofs.lemmas.Option.{slice_get_within, get_or_from_slice_get, slice_get-get_or}
use Rattle.cnf_base.specs.declared.literal.Literal.{Literal}
use Rattle.cnf_base.specs.declared.literal.Hint.{Hint}
use Rattle.cnf_base.specs.declared.literal.Hint.TheVariants.{Clause, Line}
use Rattle.cnf_base.specs.Step.{numbered, IsHintedStep}
use Rattle.cnf_base.specs.Meaning.{Satisfies}
use Rattle.clause_log.specs.LogValue.{LogValue, IsLog, greatest_u32, hints_at}
use Rattle.clause_log.proofs.LogLemmas.{lines_follow, log_with_line}
use Rattle.derivation.specs.Steps.{DerivationValue, AreSteps, with_step}
use Rattle.derivation.specs.Naming.{AreNamed, renamed, derived}
use Rattle.derivation.proofs.Renaming.{hint_names}
use Rattle.derivation.proofs.Names.{named_step}

-- a line that is named among the first k lines
pub named_line : (lines : List (List Literal)) (k m : ℕ) (clause : List Literal) → k ≤ length lines → numbered (take k lines) m ≡ Some clause
    → (j : ℕ) × (m ≡ suc j) × (j < k) × (get_or lines j [] ≡ clause)
named_line lines k zero clause le e = absurd (cc)
named_line lines k (suc j) clause le e =
    let inside : j < length (take k lines) = slice_get_within (take k lines) j clause e in
    let lt : j < k = omega (arith, length-take-le k lines le) in
    (j, refl, lt, sym (get_or-take k lines j [] lt) ∙ get_or_from_slice_get (take k lines) j clause [] e)

-- a hint that names a line names an earlier one
pub hint_earlier : (list : List (List Literal)) (d : DerivationValue) → AreSteps list d → (k m : ℕ) → k < length d.lines
    → Contains (get_or d.hints k []) (Line m) → (0 < m) × (m ≤ k)
hint_earlier list d are k m lt c =
    let w = hint_names list (take k d.lines) greatest_u32 (get_or d.lines k []) (get_or d.hints k []) (Line m) (are.steps k lt).refutes c in
    let l = named_line d.lines k m w.0 (omega arith) w.1 in
    (omega (arith, l.1), omega (arith, l.1, l.2))

-- ---- steps over a list are those of a log that has it as inputs

abbrev log_over : List (List Literal) → DerivationValue → LogValue
log_over list d = record { inputs = list; lines = d.lines; hints = d.hints }

is_log_over : (list : List (List Literal)) (d : DerivationValue) → AreSteps list d → IsLog (log_over list d)
is_log_over list d are = record { paired = are.paired; steps = are.steps }

pub steps_follow : (list : List (List Literal)) (d : DerivationValue) → AreSteps list d → (v : ℕ → Bool) → Satisfies v list → Satisfies v d.lines
steps_follow list d are v holds = lines_follow (log_over list d) (is_log_over list d are) v holds

-- a hinted step behind the lines
pub step_added : (list : List (List Literal)) (d : DerivationValue) (clause : List Literal) (hints : List Hint) → AreSteps list d
    → IsHintedStep list d.lines greatest_u32 clause hints → AreSteps list (with_step d clause hints)
step_added list d clause hints are step =
    let is = log_with_line (log_over list d) clause hints (is_log_over list d are) step in
    record { paired = is.paired; steps = is.steps }

pub named_steps : (list : List (List Literal)) (log : LogValue) (names : List ℕ) → AreNamed list log.inputs names → IsLog log
    → AreSteps list (derived log names)
named_steps list log names are is =
    let paired = is.paired in record {
      paired = length-map log.hints (map (renamed names)) ∙ paired;
      steps = λ k lt. subst (IsHintedStep list (take k log.lines) greatest_u32 (get_or log.lines k []))
          (sym (get_or-map (map (renamed names)) log.hints k [] [] (omega arith)))
          (named_step list log.inputs (take k log.lines) names greatest_u32 are (get_or log.lines k []) (get_or log.hints k []) (is.steps k lt));
    }

-- ---- a hint of a line as it is read

number_within : (clauses : List (List Literal)) (n : ℕ) (clause : List Literal) → numbered clauses n ≡ Some clause → (1 ≤ n) × (n ≤ length clauses)
number_within clauses zero clause is = cc
number_within clauses (suc n) clause is = let low = slice_get_within clauses n clause is in (omega arith, omega (arith, low))

module _ (log : LogValue) (names : List ℕ) (line : ℕ) (low : 1 ≤ line) (high : line ≤ length log.lines) (is : IsLog log) where
  same_hints : hints_at (derived log names).hints line ≡ map (renamed names) (hints_at log.hints line)
  same_hints = let paired = is.paired in get_or-map (map (renamed names)) log.hints (line - 1) [] [] (omega arith)

  module _ (hints : List Hint) (place : ℕ) (hint d : Hint) (own : hints ≡ hints_at log.hints line)
      (there : place < length (hints_at (derived log names).hints line)) (read : get_or hints place d ≡ hint) where
    here : place < length (hints_at log.hints line)
    here = omega (arith, there, ap length same_hints, length-map (hints_at log.hints line) (renamed names))

    read_here : get_or (hints_at log.hints line) place d ≡ hint
    read_here = subst (λ hs. get_or hs place d ≡ hint) own read

    -- its clause has a name
    pub named_within : (list : List (List Literal)) → AreNamed list log.inputs names → (number : ℕ) → hint ≡ Clause number
        → (1 ≤ number) × (number ≤ length names)
    named_within list are number e =
        let step = is.steps (line - 1) (omega arith) in
        let c : Contains (hints_at log.hints line) (Clause number) =
        (place, here, get_or_default (hints_at log.hints line) place (Clause number) d here ∙ (read_here ∙ e)) in
        let w = hint_names log.inputs (take (line - 1) log.lines) greatest_u32 (get_or log.lines (line - 1) []) (hints_at log.hints line)
        (Clause number) step.refutes c in
        let b = number_within log.inputs number w.0 w.1 in
        let count = are.count in
        (b.0, omega (arith, b.1))

    pub hint_told : slice_get (hints_at (derived log names).hints line) place ≡ Some (renamed names hint)
    hint_told =
        subst (λ hs. slice_get hs place ≡ Some (renamed names hint)) (sym same_hints)
        (slice_get-get_or (map (renamed names) (hints_at log.hints line)) place (renamed names d)
        (omega (arith, here, length-map (hints_at log.hints line) (renamed names)))
        ∙ ap Some (get_or-map (renamed names) (hints_at log.hints line) place d (renamed names d) here ∙ ap (renamed names) read_here))
