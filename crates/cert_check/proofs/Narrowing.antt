-- From lines whose targets close the tableau to a lawful certificate.
use Rattle.std.proofs.Common.{◌≡◌, ℕ, zero, suc, ◌+◌, ◌<◌, inl, inr, Some, refl, sym, ap, subst, ◌∙◌, arith, List, [], ◌∷◌, length, take, get_or, ltb, All}
use Rattle.std.proofs.Common.{Contains}
use Rattle.std.proofs.lemmas.List.{get_or_default}
use Rattle.std.proofs.lemmas.Bool.{cases_lt, cond-true, cond-false, lt-ltb, le-ltb}
use Rattle.std.proofs.lemmas.Option.{get_or_from_slice_get, slice_get_within}
use Rattle.std.proofs.lemmas.List.Elements.{All-take, All-get_or}
use Rattle.cnf_base.specs.declared.literal.Literal.{Literal as Signed}
use Rattle.cnf_base.specs.declared.literal.Hint.{Hint}
use Rattle.cnf_base.specs.declared.literal.Hint.TheVariants.{Clause, Line}
use Rattle.cnf_base.specs.Step.{numbered, Names, Refutes, conflict, propagate, IsHintedStep}
use Rattle.cnf_base.specs.Known.{IsKnown}
use Rattle.clause_log.specs.LogValue.{greatest_u32}
use Rattle.enc_layout.specs.Letters.{Unpruned, Here, letters_through}
use Rattle.enc_layout.specs.Clauses.{counts, clause_list}
use Rattle.enc_layout.specs.Targets.{negative_of, IsTarget}
use Rattle.cert_text.specs.Live.{live_line}
use Rattle.cert_text.specs.Writing.{parts_from}
use Rattle.cert_text.proofs.Written.{written_lines, written_good, target_is_live}
use Rattle.cert_check.specs.Lawful.{StepsAreLawful}

numbered_within : (small : ℕ) (lines : List (List Signed)) → All (All (IsKnown small)) lines → (n : ℕ) (clause : List Signed) → numbered lines n ≡ Some clause
    → All (IsKnown small) clause
numbered_within small lines all zero clause is = cc
numbered_within small lines all (suc n) clause is =
    subst (All (IsKnown small)) (get_or_from_slice_get lines n clause [] is) (all n [] (slice_get_within lines n clause is))

-- a hinted step over letters up to a greatest one is one over letters up to another one, where the lines that may be named are within it
module _ (clauses lines : List (List Signed)) (greatest small : ℕ) (all : All (All (IsKnown small)) lines) where
  names_narrow : (hint : Hint) (clause : List Signed) → Names clauses lines greatest hint clause → Names clauses lines small hint clause
  names_narrow (Clause n) clause names = record { is = names.is; within = λ m e. cc }
  names_narrow (Line n) clause names = record { is = names.is; within = λ m e. numbered_within small lines all n clause names.is }

  narrow : {falses : List Signed} {hints : List Hint} → Refutes clauses lines greatest falses hints → Refutes clauses lines small falses hints
  narrow (conflict {hint = hint} {clause = clause} names all_false) = conflict (names_narrow hint clause names) all_false
  narrow (propagate {hint = hint} {clause = clause} names unit rest) = propagate (names_narrow hint clause names) unit (narrow rest)

  pub step_narrow : (clause : List Signed) (hints : List Hint) → All (IsKnown small) clause → IsHintedStep clauses lines greatest clause hints
      → IsHintedStep clauses lines small clause hints
  step_narrow clause hints own step = record { within = own; no_pair = step.no_pair; refutes = narrow step.refutes }

-- a target that names a number within the list is one of the targets
target_there : (targets : List ℕ) (lines : List (List Signed)) (i : ℕ) (line : List Signed) → i < length targets
    → numbered lines (get_or targets i 0) ≡ Some line → Contains targets (get_or targets i 0)
target_there targets lines i line low is = (i, low, get_or_default targets i (get_or targets i 0) 0 low)

pub steps_are_lawful : StepsAreLawful
steps_are_lawful f kind k log targets is few known closed =
    let greatest = letters_through kind (counts f) k in
    let clauses = clause_list f kind k in
    let parts = parts_from log.hints targets 0 log.lines log.hints in
    let good : (i : ℕ) (line : List Signed) → i < k + 2 → numbered log.lines (get_or targets i 0) ≡ Some line
    → live_line parts (get_or targets i 0) ≡ Some line =
    λ i line low named. target_is_live log.hints targets log.lines is.paired (get_or targets i 0)
    (target_there targets log.lines i line (omega (arith, closed.count, low)) named) ∙ named in
    record {
      same_kind = refl;
      letters = few;
      lines = λ n low.
          let below : n < length log.lines = omega (arith, low, ap length (written_lines log.hints targets 0 log.lines log.hints is.paired)) in
          written_good log.hints targets log.lines is.paired clauses greatest n below
          (step_narrow clauses (take n log.lines) greatest_u32 greatest (All-take (All (IsKnown greatest)) n log.lines known)
          (get_or log.lines n []) (get_or log.hints n []) (All-get_or (All (IsKnown greatest)) log.lines n [] below known) (is.steps n below));
      targets = λ i low. elim (cases_lt k i) [
        | inl last ↦
            let at : suc k ≡ i = omega (arith, last, low) in
            let it = subst (λ j. IsTarget log.lines targets j (negative_of f kind (Here k) ∷ negative_of f kind Unpruned ∷ [])) at closed.unpruned in
            (it.0, good i it.0 low it.1, subst (λ ls. All (Contains ls) it.0) (sym (cond-true (ltb k i) _ _ (lt-ltb k i last))) it.2)
        | inr first ↦
            let it = closed.accepted i first in
            (it.0, good i it.0 low it.1, subst (λ ls. All (Contains ls) it.0) (sym (cond-false (ltb k i) _ _ (le-ltb k i first))) it.2)
      ];
    }
