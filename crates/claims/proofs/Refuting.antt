-- The claims of lawful layers hold along a sequence, and a lawful certificate leaves no trace.
use Rattle.std.proofs.Common.{◌≡◌, ℕ, zero, suc, ◌<◌, ◌≤◌, Bool, true, false, not, IsTrue, refl, sym, ap, subst, ◌∙◌, arith, List, [], ◌∷◌, ◌++◌, length, ltb}
use Rattle.std.proofs.Common.{leb}
use Rattle.std.proofs.lemmas.Bool.{lt-ltb, ltb-true, le-leb, leb-true}
use Rattle.std.proofs.lemmas.List.Elements.{All-nil, All-append}
use Rattle.ltl_syntax.specs.declared.node.Kind.{Kind}
use Rattle.ltl_syntax.specs.declared.node.Kind.TheVariants as Kinds
use Rattle.ltl_syntax.specs.Formula.{Formula}
use Rattle.ltl_word.specs.declared.trace.Trace.TheVariants.{Infinite, Finite}
use Rattle.cnf_base.specs.declared.literal.Literal.{Literal as Signed}
use Rattle.cnf_base.specs.Meaning.{Satisfies, clause_value}
use Rattle.ltl_closure.specs.Run.{States}
use Rattle.ltl_run.proofs.Normal.{norm_holds}
use Rattle.ltl_run.proofs.Tableau.{lasso_runs}
use Rattle.ltl_run.proofs.Least.{trace_runs}
use Rattle.enc_layout.specs.Letters.{below}
use Rattle.claims.specs.Between.{width, step_list, greatest}
use Rattle.claims.specs.Certificate.{Layer, Certificate, layer_at, clauses_of, lines_of, next_claims, both_claims}
use Rattle.claims.specs.Lawful.{AreLawfulLayers, IsLawfulLayer, IsLawful, clauses_before, lines_before, not_first}
use Rattle.claims.specs.Sequences.{IsFirst, AreEndless, AreEnding, unrolled, value_at}
use Rattle.claims.specs.Laws.{EndlessKeepClaims, EndingKeepClaims, LawfulHasNoTrace}
use Rattle.claims.proofs.Values.{first_value}
use Rattle.claims.proofs.Sequences.{runs_unroll, runs_end, repeated, repeated_to, repeated_linked, repeated_last}
use Rattle.claims.proofs.Following.{steps_follow, target_true, claims_here, claims_next}
use Rattle.claims.proofs.Layers.{Marks, clash, one_other, at, list_true, Goes, Holds, own_lines, everywhere}

module _ (f : Formula) (u : States) (marks : Marks f u) (kind : Kind) (goes : Goes f u marks kind) (c : Certificate) (layers : AreLawfulLayers f kind c) where
  abbrev V : ℕ → ℕ → Bool
  V = at f u marks

  abbrev P : ℕ → List Signed → Type 0
  P i clause = clause_value (V i) clause ≡ true

  -- the claims of the layers before layer j + 1
  abbrev opened : ℕ → List (List Signed)
  opened j = below j (λ n. both_claims (width f) (layer_at c n))

  -- they hold at each state, and the lines of these layers too
  abbrev Stands : ℕ → Type 0
  Stands j = (i : ℕ) → Satisfies (V i) (opened j) × Satisfies (V i) (lines_before c j)

  known : (j : ℕ) → Stands j → (i : ℕ) → Satisfies (V i) (clauses_before f c j)
  known j before i = All-append (P i) (step_list f) (opened j) (list_true f u marks i) (before i).0

  -- the claims of layer j + 1
  keeps : (j : ℕ) → j < length c.layers → Stands j → (i : ℕ) → Holds f u marks (layer_at c j) i
  keeps j lt before i =
      let is : IsLawfulLayer f kind (clauses_before f c j) (lines_before c j) (layer_at c j) = layers j lt in
      everywhere f u marks kind (clauses_before f c j) (lines_before c j) (layer_at c j) (known j before) (λ n. (before n).1) is
      (layer_at c j).eventuality is.base goes i

  stands : (j : ℕ) → j ≤ length c.layers → Stands j
  stands zero le i = (All-nil (P i), All-nil (P i))
  stands (suc j) le i =
      let lt : j < length c.layers = omega arith in
      let layer : Layer = layer_at c j in
      let is : IsLawfulLayer f kind (clauses_before f c j) (lines_before c j) layer = layers j lt in
      let before : Stands j = stands j (omega arith) in
      let both : Satisfies (V i) (both_claims (width f) layer) = All-append (P i) (next_claims (width f) layer) layer.claims
      (claims_next f (u i) (u (suc i)) (marks.has_next i) (marks.is_first i) (marks.is_last i) layer is.claims (keeps j lt before (suc i)))
      (claims_here f (u i) (u (suc i)) (marks.has_next i) (marks.is_first i) (marks.is_last i) layer is.claims (keeps j lt before i)) in
      let own : Satisfies (V i) (lines_of layer) =
      own_lines f u marks kind (clauses_before f c j) (lines_before c j) layer (known j before) (λ n. (before n).1) is i (keeps j lt before (suc i)) in (
        All-append (P i) (opened j) (both_claims (width f) layer) (before i).0 both,
        All-append (P i) (lines_before c j) (lines_of layer) (before i).1 own,
      )

  pub kept : (j : ℕ) → j < length c.layers → (i : ℕ) → Holds f u marks (layer_at c j) i
  kept j lt i = keeps j lt (stands j (omega arith)) i

  -- no state is a first one
  pub no_first : IsLawful f kind c → (i : ℕ) → IsTrue (marks.is_first i) → ⊥
  no_first lawful i is =
      let n : ℕ = length c.layers in
      let all : Stands n = stands n (omega arith) in
      let last : Satisfies (V i) (clauses_of c.lines) =
      steps_follow (V i) (clauses_before f c n) (lines_before c n) (greatest f) c.lines (known n all i) (all i).1 lawful.lines in
      let w = target_true (V i) (lines_before c n ++ clauses_of c.lines) (c.target ∷ []) 0 (not_first f ∷ [])
      (All-append (P i) (lines_before c n) (clauses_of c.lines) (all i).1 last) lawful.close in
      clash (marks.is_first i) is
      (ap not (sym (first_value f (u i) (u (suc i)) (marks.has_next i) (marks.is_first i) (marks.is_last i))) ∙ one_other (V i) (not_first f) w)

never : {A : Type 0} → IsTrue false → A
never h = absurd (cc)

-- state 0 is marked as a first one, where it is one, and no other
abbrev begins : ℕ → Bool
begins zero = true
begins (suc i) = false

abbrev begun : (f : Formula) (u : States) → IsFirst f (u 0) → Marks f u → Marks f u
begun f u head marks = record {
  has_next = marks.has_next;
  is_first = begins;
  is_last = marks.is_last;
  linked = marks.linked;
  firsts = first_only;
  lasts = marks.lasts;
}
  where
    first_only : (i : ℕ) → IsTrue (begins i) → IsFirst f (u i)
    first_only zero h = head
    first_only (suc i) h = never h

-- sequences without an end
abbrev endless : (f : Formula) (u : States) → AreEndless f u → Marks f u
endless f u are = record {
  has_next = λ _. true;
  is_first = λ _. false;
  is_last = λ _. false;
  linked = λ i _. are.linked i;
  firsts = λ i h. never h;
  lasts = λ i h. never h;
}

pub endless_keep : EndlessKeepClaims
endless_keep f c u j i layers are lt = kept f u (endless f u are) Kinds.Infinite ((λ n. refl), are.met) c layers j lt i

endless_none : (f : Formula) (u : States) → IsFirst f (u 0) → AreEndless f u → (c : Certificate) → IsLawful f Kinds.Infinite c → ⊥
endless_none f u head are c lawful =
    no_first f u (begun f u head (endless f u are)) Kinds.Infinite ((λ n. refl), are.met) c lawful.layers lawful 0 refl

-- and those with one: their last state is repeated
abbrev ending : (f : Formula) (k : ℕ) (u : States) → AreEnding f k u → Marks f (repeated u k)
ending f k u are = record {
  has_next = λ i. ltb i k;
  is_first = λ _. false;
  is_last = λ i. leb k i;
  linked = λ i h. repeated_linked f k u are i (ltb-true i k h);
  firsts = λ i h. never h;
  lasts = λ i h. repeated_last f k u are i (leb-true k i h);
}

pub ending_keep : EndingKeepClaims
ending_keep f c u k j i layers are lt le =
    subst (λ s. Satisfies (value_at f s) (layer_at c j).claims) (repeated_to u k i le)
    (kept f (repeated u k) (ending f k u are) Kinds.Finite (k, (λ n lt. lt-ltb n k lt), (λ n le. le-leb k n le)) c layers j lt i)

ending_none : (f : Formula) (k : ℕ) (u : States) → IsFirst f (u 0) → AreEnding f k u → (c : Certificate) → IsLawful f Kinds.Finite c → ⊥
ending_none f k u head are c lawful =
    let first : IsFirst f (repeated u k 0) = subst (IsFirst f) (sym (repeated_to u k 0 (omega arith))) head in
    no_first f (repeated u k) (begun f (repeated u k) first (ending f k u are)) Kinds.Finite
    (k, (λ n lt. lt-ltb n k lt), (λ n le. le-leb k n le)) c lawful.layers lawful 0 refl

pub lawful_has_no_trace : LawfulHasNoTrace
lawful_has_no_trace f Kinds.Infinite c lawful (Infinite stem loop_part) good kind holds =
    let w = lasso_runs f stem loop_part good ((norm_holds (Infinite stem loop_part) good f true).back 0 tt holds) in
    let it = runs_unroll f _ _ w.0 w.1 w.2 in
    endless_none f (unrolled w.0 _ _) it.0 it.1 c lawful
lawful_has_no_trace f Kinds.Finite c lawful (Finite states) good kind holds =
    let w = trace_runs f Kinds.Finite (Finite states) good tt holds in
    let it = (runs_end f w.0 w.1.0).0 (w.1.1, w.1.2) in
    ending_none f w.0 w.1.0 it.0 it.1 c lawful
lawful_has_no_trace f Kinds.Infinite c lawful (Finite states) good kind holds = absurd kind
lawful_has_no_trace f Kinds.Finite c lawful (Infinite stem loop_part) good kind holds = absurd kind
