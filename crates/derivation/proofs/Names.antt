-- Clauses under their names in a list, and hinted steps by these names.
use Rattle.std.proofs.Common.{◌≡◌, ℕ, zero, suc, ◌-◌, inl, inr, refl, sym, ◌∙◌, subst, arith, List, [], ◌∷◌, ◌++◌, length, length-append, map, get_or}
use Rattle.std.proofs.Common.{slice_get, All, Contains, Some}
use Rattle.std.proofs.lemmas.Bool.{cases_lt}
use Rattle.std.proofs.lemmas.List.{get_or_append_left, get_or_at}
use Rattle.std.proofs.lemmas.Option.{get_or_from_slice_get, slice_get_within, slice_get-get_or}
use Rattle.cnf_base.specs.declared.literal.Literal.{Literal}
use Rattle.cnf_base.specs.declared.literal.Hint.{Hint}
use Rattle.cnf_base.specs.declared.literal.Hint.TheVariants.{Clause, Line}
use Rattle.cnf_base.specs.Step.{numbered, IsHintedStep}
use Rattle.cnf_base.proofs.MoreClauses.{slice_get_append}
use Rattle.derivation.specs.Naming.{AreNamed, renamed}
use Rattle.derivation.proofs.Renaming.{IsCarried, step_renamed}

numbered_member : (list : List (List Literal)) (n : ℕ) (clause : List Literal) → numbered list n ≡ Some clause → Contains list clause
numbered_member list zero clause is = cc
numbered_member list (suc n) clause is = (n, slice_get_within list n clause is, get_or_from_slice_get list n clause clause is)

numbered_more : (list more : List (List Literal)) (n : ℕ) (clause : List Literal) → numbered list n ≡ Some clause → numbered (list ++ more) n ≡ Some clause
numbered_more list more zero clause is = cc
numbered_more list more (suc n) clause is = slice_get_append list more n clause is

pub named_of : (list inputs : List (List Literal)) (names : List ℕ) → AreNamed list inputs names → All (Contains list) inputs
named_of list inputs names are k d lt =
    numbered_member list (get_or names k 0) (get_or inputs k d) (are.each k (get_or inputs k d) (slice_get-get_or inputs k d lt))

pub named_grow : (list more inputs : List (List Literal)) (names : List ℕ) → AreNamed list inputs names → AreNamed (list ++ more) inputs names
named_grow list more inputs names are =
    record { count = are.count; each = λ i clause is. numbered_more list more (get_or names i 0) clause (are.each i clause is) }

slice_get_last : {X : Type 0} (xs : List X) (x : X) → slice_get (xs ++ x ∷ []) (length xs) ≡ Some x
slice_get_last [] x = refl
slice_get_last (y ∷ xs) x = slice_get_last xs x

pub named_add : (list inputs : List (List Literal)) (names : List ℕ) (name : ℕ) (clause : List Literal) → AreNamed list inputs names
    → numbered list name ≡ Some clause
    → AreNamed list (inputs ++ clause ∷ []) (names ++ name ∷ [])
named_add list inputs names name clause are at =
    let n = are.count in record {
      count = omega (arith, length-append names (name ∷ []), length-append inputs (clause ∷ []));
      each = λ i c is. elim (cases_lt i (length inputs)) [
        | inl before ↦
            let there = slice_get-get_or inputs i clause before in
            let kept = slice_get_append inputs (clause ∷ []) i (get_or inputs i clause) there in
            let same : slice_get inputs i ≡ Some c = there ∙ (sym kept ∙ is) in
            subst (λ m. numbered list m ≡ Some c) (sym (get_or_append_left names (name ∷ []) 0 i (omega arith))) (are.each i c same)
        | inr after ↦
            let within = slice_get_within (inputs ++ clause ∷ []) i c is in
            let last : length inputs ≡ i = omega (arith, within, length-append inputs (clause ∷ [])) in
            let here : length names ≡ i = omega arith in
            let same : Some clause ≡ Some c = sym (slice_get_last inputs clause) ∙ (subst (λ m. slice_get (inputs ++ clause ∷ []) m ≡ Some c) (sym last) is) in
            subst (λ m. numbered list m ≡ Some c) (sym (get_or_at names name [] 0 i here)) (at ∙ same)
      ];
    }

module _ (list inputs lines : List (List Literal)) (names : List ℕ) (greatest : ℕ) (are : AreNamed list inputs names) where
  carried : (hint : Hint) → IsCarried inputs lines list lines greatest (renamed names) hint
  carried (Clause zero) = record { clause = λ clause is. cc; line = λ n e. absurd (cc) }
  carried (Clause (suc i)) = record {
    clause = λ clause is. let back : suc i - 1 ≡ i = omega arith in
        subst (λ m. numbered list (get_or names m 0) ≡ Some clause) (sym back) (are.each i clause is);
    line = λ n e. absurd (cc);
  }
  carried (Line m) = record { clause = λ clause is. is; line = λ n e. (m, refl) }

  pub named_step : (clause : List Literal) (hints : List Hint) → IsHintedStep inputs lines greatest clause hints
      → IsHintedStep list lines greatest clause (map (renamed names) hints)
  named_step clause hints step = step_renamed inputs lines list lines greatest (renamed names) clause hints (λ hint c. carried hint) step
