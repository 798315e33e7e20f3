-- A lawful certificate leaves no trace.
use Rattle.std.proofs.Common.{◌≡◌, ℕ, suc, ◌+◌, ◌<◌, Bool, true, false, not, inl, inr, arith, sym, subst, List, [], ◌∷◌, get_or, ltb, Contains, All}
use Rattle.std.proofs.lemmas.Bool.{cases_lt, cond-true, cond-false, lt-ltb, le-ltb}
use Rattle.std.proofs.lemmas.List.Elements.{All-contains}
use Rattle.ltl_syntax.specs.declared.node.Kind.{Kind}
use Rattle.ltl_syntax.specs.Formula.{Formula}
use Rattle.cnf_base.specs.declared.literal.Literal.{Literal as Signed}
use Rattle.cnf_base.specs.Meaning.{Satisfies, literal_value, clause_value}
use Rattle.cnf_base.proofs.Soundness.{some_element, satisfied_number}
use Rattle.ltl_closure.specs.Run.{HasAccepted}
use Rattle.ltl_closure.proofs.Lists.{Contains-nil, Contains-cons_cases}
use Rattle.ltl_run.proofs.Splicing.{run_prefix}
use Rattle.ltl_run.proofs.Least.{unpruned_from, trace_runs}
use Rattle.enc_layout.specs.Letters.{Meaning, Unpruned, Here, Accepted, letters_through}
use Rattle.enc_layout.specs.Clauses.{counts, number_in, clause_list}
use Rattle.enc_layout.specs.Targets.{negative_of}
use Rattle.enc_layout.proofs.Questions.{accepted_to, unpruned_to}
use Rattle.cert_text.specs.Text.{Certificate}
use Rattle.cert_text.specs.Live.{lines_of}
use Rattle.cert_text.proofs.LiveLines.{good_lines_follow, live_stands}
use Rattle.cert_check.specs.Lawful.{target_literals, IsLawful, LawfulHasNoTrace}

-- a value and its opposite are not both true
clash : (a : Bool) → a ≡ true → not a ≡ true → ⊥
clash true h k = cc
clash false h k = cc

-- a clause of two letters' negations is false where both letters are true
no_clause : (f : Formula) (kind : Kind) (v : ℕ → Bool) (p q : Meaning) (line : List Signed)
    → All (Contains (negative_of f kind p ∷ negative_of f kind q ∷ [])) line → clause_value v line ≡ true
    → v (number_in f kind p) ≡ true → v (number_in f kind q) ≡ true → ⊥
no_clause f kind v p q line only holds yes_p yes_q =
    let w = some_element (literal_value v) line holds in
    elim (Contains-cons_cases (negative_of f kind p) (negative_of f kind q ∷ []) w.0
    (All-contains (Contains (negative_of f kind p ∷ negative_of f kind q ∷ [])) line w.0 only w.1)) [
      | inl e ↦ clash (v (number_in f kind p)) yes_p (subst (λ l. literal_value v l ≡ true) (sym e) w.2)
      | inr r ↦ elim (Contains-cons_cases (negative_of f kind q) [] w.0 r) [
        | inl e ↦ clash (v (number_in f kind q)) yes_q (subst (λ l. literal_value v l ≡ true) (sym e) w.2)
        | inr n ↦ Contains-nil w.0 n
      ]
    ]

module _ (f : Formula) (c : Certificate) (lawful : IsLawful f c.kind c) where
  -- a target with these two letters is false where both are true
  target_refutes : (i : ℕ) (p q : Meaning)
      → i < c.depth + 2 → target_literals f c.kind c.depth i ≡ negative_of f c.kind p ∷ negative_of f c.kind q ∷ [] → (v : ℕ → Bool)
      → Satisfies v (clause_list f c.kind c.depth) → v (number_in f c.kind p) ≡ true → v (number_in f c.kind q) ≡ true → ⊥
  target_refutes i p q low literals v holds yes_p yes_q =
      let it = lawful.targets i low in
      let lines = good_lines_follow v (clause_list f c.kind c.depth) (letters_through c.kind (counts f) c.depth) c.parts holds lawful.lines in
      let stands = live_stands c.parts (get_or c.targets i 0) it.0 it.1 in
      let truth = satisfied_number v (lines_of c.parts) (get_or c.targets i 0) it.0 lines stands in
      no_clause f c.kind v p q it.0 (subst (λ ls. All (Contains ls) it.0) literals it.2) truth yes_p yes_q

  lawful_none : (n : ℕ) → HasAccepted f c.kind n → ⊥
  lawful_none n acc =
      let w = unpruned_from f c.kind n n (omega arith) acc in
      let m = w.0 in
      elim (cases_lt c.depth m) [
        | inl beyond ↦
            let a = unpruned_to f c.kind c.depth w.2 (run_prefix f m w.2 w.3 c.depth (omega arith)) (λ i h. w.5 i (omega arith)) in
            target_refutes (suc c.depth) (Here c.depth) Unpruned (omega arith)
            (cond-true (ltb c.depth (suc c.depth)) _ _ (lt-ltb c.depth (suc c.depth) (omega arith))) a.0 a.1 a.2 a.3
        | inr within ↦
            let a = accepted_to f c.kind c.depth m w.2 within w.3 w.4 in
            target_refutes m (Here m) (Accepted m) (omega arith) (cond-false (ltb c.depth m) _ _ (le-ltb c.depth m within)) a.0 a.1 a.2 a.3
      ]

pub lawful_has_no_trace : LawfulHasNoTrace
lawful_has_no_trace f kind bytes t ok good is holds =
    let c = ok.0 in
    let lawful = ok.2 in
    let own = subst (λ k. IsLawful f k c) (sym lawful.same_kind) lawful in
    let run = trace_runs f kind t good is holds in
    lawful_none f c own run.0 (subst (λ k. HasAccepted f k run.0) (sym lawful.same_kind) run.1)
