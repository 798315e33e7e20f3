-- What the true literals, and the lines, say of assignments.
use Rattle.std.proofs.Common.{◌≡◌, ◌≢◌, ◌↔◌, ℕ, ◌≤◌, ◌+◌, ◌-◌, List, [], All, AllPairs, Any, Contains, Bool, true, not, length, get_or, refl, sym, ap, ap₂, ◌∙◌}
use Rattle.std.proofs.Common.{subst, arith, if◌then◌else◌}
use mathlib.Core.Bool.{false, false≢true}
use Rattle.std.proofs.lemmas.List.Folds.{list_any-from_Any}
use Rattle.std.proofs.lemmas.List.Elements.{All-contains}
use Rattle.cnf_base.specs.declared.literal.Literal.{Literal}
use Rattle.cnf_base.specs.Literal.{opposite}
use Rattle.cnf_base.specs.Meaning.{literal_value, clause_value, Satisfies}
use Rattle.cnf_base.specs.Step.{clause_at}
use Rattle.cnf_base.specs.Known.{IsKnown, AreKnown}
use Rattle.cnf_base.proofs.Soundness.{some_element}
use Rattle.clause_log.specs.LogValue.{LogValue, IsLog}
use Rattle.clause_log.proofs.LogLemmas.{lines_follow}
use Rattle.cdcl_state.specs.StateValue.{StateValue, IsModel, positive}
use Rattle.cdcl_trail.specs.Trail.{literals_of, literal_at}
use Rattle.cdcl_trail.specs.declared.assigned.TrailEntry.{TrailEntry}
use Rattle.cdcl_trail.proofs.Standing.{place_of}
use Rattle.cdcl.specs.Solving.{AreTrue, IsNegated, IsSatisfiable, IsAfter, IsFound}
use Rattle.cdcl.specs.SolverValue.{SolverValue, IsAnswer}
use Rattle.cdcl.specs.declared.solve.Answer.{Answer}
use Rattle.cdcl.specs.declared.solve.Answer.TheVariants.{Sat, Unsat}
use Rattle.cdcl.proofs.Ending.{one_place}

-- two true literals of one letter are one literal
same_true : (trail : List TrailEntry) → AllPairs (λ e f. e.literal.letter.0 ≢ f.literal.letter.0) trail → (a b : Literal)
    → a.letter.0 ≡ b.letter.0 → Contains (literals_of trail) a → Contains (literals_of trail) b → a ≡ b
same_true trail apart a b same a_in b_in =
    let p = place_of trail a a_in in
    let q = place_of trail b b_in in
    let equal = one_place trail apart p.0 q.0 p.1 q.1 (ap (λ (l : Literal). l.letter.0) p.2 ∙ same ∙ ap (λ (l : Literal). l.letter.0) (sym q.2)) in
    sym p.2 ∙ ap (literal_at trail) equal ∙ q.2

module _ (s : StateValue) (model : List Bool) (is : IsModel s model) (apart : AllPairs (λ e f. e.literal.letter.0 ≢ f.literal.letter.0) s.trail) where
  -- a true literal has the value true
  true_literal : (l : Literal) → IsKnown s.letters l → Contains (literals_of s.trail) l → literal_value (λ x. get_or model x false) l ≡ true
  true_literal l known there = go l.negated (get_or model l.letter.0 false) refl refl
    where
      value : ℕ → Bool
      value x = get_or model x false

      told : (value l.letter.0 ≡ true) ↔ Contains (literals_of s.trail) (positive l.letter.0)
      told = is.told l.letter.0 known.from_one known.within

      go : (n b : Bool) → l.negated ≡ n → get_or model l.letter.0 false ≡ b → literal_value (λ x. get_or model x false) l ≡ true
      go false true is_n is_b = ap₂ (λ n b. if n then not b else b) is_n is_b
      go true false is_n is_b = ap₂ (λ n b. if n then not b else b) is_n is_b
      go false false is_n is_b =
          let l_is : l ≡ positive l.letter.0 = ap (λ n. let m : Literal = record { letter = l.letter; negated = n } in m) is_n in
          absurd (false≢true (sym is_b ∙ told.1 (subst (Contains (literals_of s.trail)) l_is there)))
      go true true is_n is_b =
          let same : positive l.letter.0 ≡ l = same_true s.trail apart (positive l.letter.0) l refl (told.0 is_b) there in
          absurd (false≢true (ap (λ (m : Literal). m.negated) same ∙ is_n))

  -- the values make the inputs and the assumptions true
  pub inputs_satisfied : AreKnown s.letters s.log.inputs → All (λ clause. Any (Contains (literals_of s.trail)) clause) s.log.inputs
      → Satisfies (λ x. get_or model x false) s.log.inputs
  inputs_satisfied known all k d below =
      let clause = get_or s.log.inputs k d in
      let some = all k d below in
      list_any-from_Any (literal_value (λ x. get_or model x false)) clause
      (some.0, some.1, some.2, some.3, true_literal some.1 (All-contains (IsKnown s.letters) clause some.1 (known k d below) (some.0, some.2, some.3)) some.4)

  pub assumptions_true : (assumptions : List Literal) → All (IsKnown s.letters) assumptions → All (Contains (literals_of s.trail)) assumptions
      → AreTrue (λ x. get_or model x false) assumptions
  assumptions_true assumptions known all k d below = true_literal (get_or assumptions k d) (known k d below) (all k d below)

-- a literal and its opposite are not both true
not_both : (v : ℕ → Bool) (l : Literal) → literal_value v l ≡ true → ¬ (literal_value v (opposite l) ≡ true)
not_both v l holds wrong = go l.negated (v l.letter.0) holds wrong
  where
    go : (n b : Bool) → (if n then not b else b) ≡ true → ¬ ((if not n then not b else b) ≡ true)
    go true true e f = false≢true e
    go true false e f = false≢true f
    go false true e f = false≢true f
    go false false e f = false≢true e

-- where a line has only negations of assumptions, no assignment makes inputs and assumptions true
pub line_refutes : (log : LogValue) (assumptions : List Literal) (line : ℕ) → IsLog log → 1 ≤ line → line ≤ length log.lines
    → IsNegated assumptions (clause_at log.lines line) → ¬ IsSatisfiable log.inputs assumptions
line_refutes log assumptions line is from_one within negated (v, satisfied, holds) =
    let clause = clause_at log.lines line in
    let true_line : clause_value v clause ≡ true = lines_follow log is v satisfied (line - 1) [] (omega arith) in
    let some = some_element (literal_value v) clause true_line in
    let there = All-contains (λ l. Contains assumptions (opposite l)) clause some.0 negated some.1 in
    not_both v some.0 some.2 (All-contains (λ l. literal_value v l ≡ true) assumptions (opposite some.0) holds there)

-- what an answer says of the state, said of assignments; the inputs and the known letters are those of before
module _ (old : SolverValue) (before s : StateValue) (assumptions : List Literal) (same_letters : before.letters ≡ old.letters)
    (same_inputs : before.log.inputs ≡ old.log.inputs) (after : IsAfter before s) where
  inputs_are : s.log.inputs ≡ old.log.inputs
  inputs_are = after.log.inputs ∙ same_inputs

  letters_are : s.letters ≡ old.letters
  letters_are = after.letters ∙ same_letters

  pub sat_values : (model : List Bool) (answer : Answer) → answer ≡ Sat → IsModel s model → AllPairs (λ e f. e.literal.letter.0 ≢ f.literal.letter.0) s.trail
      → AreKnown s.letters s.log.inputs → All (IsKnown old.letters) assumptions → IsFound s assumptions answer
      → Satisfies (λ x. get_or model x false) s.log.inputs × AreTrue (λ x. get_or model x false) assumptions
  sat_values model answer is_sat is apart known known_assumptions is_found =
      let found = subst (IsFound s assumptions) is_sat is_found in (
        inputs_satisfied s model is apart known found.0,
        assumptions_true s model is apart assumptions (subst (λ n. All (IsKnown n) assumptions) (sym letters_are) known_assumptions) found.1,
      )

  pub sat_exact : (model : List Bool) (answer : Answer) → answer ≡ Sat → IsModel s model → AllPairs (λ e f. e.literal.letter.0 ≢ f.literal.letter.0) s.trail
      → AreKnown s.letters s.log.inputs → All (IsKnown old.letters) assumptions → IsFound s assumptions answer
      → (answer ≡ Sat) ↔ IsSatisfiable old.log.inputs assumptions
  sat_exact model answer is_sat is apart known known_assumptions is_found =
      let values = sat_values model answer is_sat is apart known known_assumptions is_found in
      (λ _. ((λ x. get_or model x false), subst (Satisfies (λ x. get_or model x false)) inputs_are values.0, values.1), λ _. is_sat)

  pub sat_answer : (now : SolverValue) (answer : Answer) → answer ≡ Sat → now.letters ≡ s.letters → now.log ≡ s.log → IsModel s now.model
      → AllPairs (λ e f. e.literal.letter.0 ≢ f.literal.letter.0) s.trail → AreKnown s.letters s.log.inputs → All (IsKnown old.letters) assumptions
      → IsFound s assumptions answer → IsAnswer now assumptions answer
  sat_answer now answer is_sat letters log is apart known known_assumptions is_found =
      let values = sat_values now.model answer is_sat is apart known known_assumptions is_found in
      subst (IsAnswer now assumptions) (sym is_sat)
      (is.size ∙ ap (λ n. n + 1) (sym letters), subst (λ (l : LogValue). Satisfies (λ x. get_or now.model x false) l.inputs) (sym log) values.0, values.1)

  pub unsat_exact : (answer : Answer) (line : ℕ) → answer ≡ Unsat line → IsLog s.log → IsFound s assumptions answer
      → (answer ≡ Sat) ↔ IsSatisfiable old.log.inputs assumptions
  unsat_exact answer line is_unsat is_log is_found =
      let found = subst (IsFound s assumptions) is_unsat is_found in
      let refuted = line_refutes s.log assumptions line is_log found.0 found.1 found.2 in
      (λ is_sat. absurd (cc), λ sat. absurd (refuted (subst (λ cs. IsSatisfiable cs assumptions) (sym inputs_are) sat)))

  pub unsat_answer : (now : SolverValue) (answer : Answer) (line : ℕ) → answer ≡ Unsat line → now.log ≡ s.log → IsLog s.log → IsFound s assumptions answer
      → IsAnswer now assumptions answer
  unsat_answer now answer line is_unsat log is_log is_found =
      let found = subst (IsFound s assumptions) is_unsat is_found in
      let refuted = line_refutes s.log assumptions line is_log found.0 found.1 found.2 in
      subst (IsAnswer now assumptions) (sym is_unsat)
      (subst (λ (l : LogValue). (1 ≤ line) × (line ≤ length l.lines) × IsNegated assumptions (clause_at l.lines line) × (¬ IsSatisfiable l.inputs assumptions))
      (sym log) (found.0, found.1, found.2, refuted))
