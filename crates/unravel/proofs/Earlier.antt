-- Where a state is there, so is each state before it. So a question may assume these as well.
use Rattle.std.proofs.Common.{◌≡◌, ℕ, zero, suc, ◌+◌, ◌≤◌, Bool, true, IsTrue, ◌⊎◌, inl, inr, arith, sym, subst, List, [], ◌∷◌, ◌++◌, Contains}
use Rattle.std.proofs.lemmas.List.Elements.{All-nil, All-cons, All-head, All-tail, All-append, All-weaker, All-contains, Contains-append_left}
use Rattle.std.proofs.lemmas.List.Elements.{Contains-append_right}
use Rattle.std.proofs.lemmas.Bool.{cases_lt}
use Rattle.ltl_syntax.specs.declared.node.Kind.{Kind}
use Rattle.ltl_syntax.specs.Formula.{Formula}
use Rattle.ltl_closure.proofs.Lists.{Contains-here}
use Rattle.cnf_base.specs.declared.literal.Literal.{Literal as Signed}
use Rattle.cnf_base.specs.Meaning.{Satisfies, literal_value}
use Rattle.cdcl.specs.Solving.{AreTrue}
use Rattle.enc_layout.specs.Letters.{Here}
use Rattle.enc_layout.specs.Clauses.{number_in, chain_part, gates_part, links_part, state_clauses}
use Rattle.enc_layout.specs.Assigned.{positive_of}
use Rattle.enc_layout.proofs.Each.{Each-left, below-Each}
use Rattle.enc_layout.proofs.Gates.{IsTrueClause}
use Rattle.enc_layout.proofs.Carries.{then1}
use Rattle.enc_layout.proofs.Numbering.{by_number, clauses_true}
use Rattle.demand.specs.Inputs.{states_through, states_list}
use Rattle.unravel.specs.Depths.{IsStateBelow, AreStatesBelow, AreStatesTo}

-- the states before one that is there
module _ (f : Formula) (kind : Kind) (d : ℕ) (v : ℕ → Bool) (holds : Satisfies v (states_list f kind d)) where
  here_before : (k : ℕ) → suc k ≤ d → IsTrue (v (number_in f kind (Here (suc k)))) → IsTrue (v (number_in f kind (Here k)))
  here_before k le here =
      let w = by_number f kind v in
      let all = below-Each (IsTrueClause w) (suc d) (state_clauses f) (clauses_true f kind v (states_through f d) holds) (suc k) (omega arith) in
      then1 (w (Here (suc k))) (w (Here k)) (Each-left (IsTrueClause w) (chain_part (suc k)) (gates_part f (suc k) ++ links_part f (suc k)) all).0 here

  here_down : (k i : ℕ) → k ≤ d → IsTrue (v (number_in f kind (Here k))) → i ≤ k → IsTrue (v (number_in f kind (Here i)))
  here_down zero i le here ik = let e : zero ≡ i = omega arith in subst (λ n. IsTrue (v (number_in f kind (Here n)))) e here
  here_down (suc k) i le here ik = elim (cases_lt i (suc k)) [
    | inl before ↦ here_down k i (omega arith) (here_before k le here) (omega arith)
    | inr same ↦ let e : suc k ≡ i = omega arith in subst (λ n. IsTrue (v (number_in f kind (Here n)))) e here
  ]

-- a literal of depth d is true beside the state's where it is true beside more of the states
module _ (f : Formula) (kind : Kind) (d : ℕ) (v : ℕ → Bool) (states : List Signed) (to : AreStatesTo f kind d states) (l : Signed) where
  abbrev IsMet : Signed → Type 0
  IsMet m = literal_value v m ≡ true

  pub met_alone : AreTrue v (states ++ l ∷ []) → AreTrue v (positive_of f kind (Here d) ∷ l ∷ [])
  met_alone all =
      let here = All-contains IsMet (states ++ l ∷ []) (positive_of f kind (Here d)) all
      (Contains-append_left states (l ∷ []) (positive_of f kind (Here d)) to.1) in
      let own = All-contains IsMet (states ++ l ∷ []) l all (Contains-append_right states (l ∷ []) l (Contains-here l [])) in
      All-cons IsMet (positive_of f kind (Here d)) (l ∷ []) here (All-cons IsMet l [] own (All-nil IsMet))

  pub met_under : Satisfies v (states_list f kind d) → AreTrue v (positive_of f kind (Here d) ∷ l ∷ []) → AreTrue v (states ++ l ∷ [])
  met_under holds all =
      let here : IsTrue (v (number_in f kind (Here d))) = All-head IsMet (positive_of f kind (Here d)) (l ∷ []) all in
      let each : (m : Signed) → IsStateBelow f kind (d + 1) m → IsMet m =
      λ m w. subst IsMet (sym w.2) (here_down f kind d v holds d w.0 (omega arith) here (omega (arith, w.1))) in
      All-append IsMet states (l ∷ []) (All-weaker (IsStateBelow f kind (d + 1)) IsMet each states to.0)
      (All-tail IsMet (positive_of f kind (Here d)) (l ∷ []) all)

-- the states of a depth are those of the one before, and one more
pub one_more : (f : Formula) (kind : Kind) (k : ℕ) (states items : List Signed) (l : Signed) → AreStatesBelow f kind k states → l ≡ positive_of f kind (Here k)
    → items ≡ states ++ l ∷ [] → AreStatesTo f kind k items
one_more f kind k states items l below is more =
    let later : (m : Signed) → IsStateBelow f kind k m → IsStateBelow f kind (k + 1) m = λ m w. (w.0, omega (arith, w.1), w.2) in
    let own : IsStateBelow f kind (k + 1) l = (k, omega arith, is) in
    subst (AreStatesTo f kind k) (sym more) (
      All-append (IsStateBelow f kind (k + 1)) states (l ∷ []) (All-weaker (IsStateBelow f kind k) (IsStateBelow f kind (k + 1)) later states below)
          (All-cons (IsStateBelow f kind (k + 1)) l [] own (All-nil (IsStateBelow f kind (k + 1)))),
      subst (Contains (states ++ l ∷ [])) is (Contains-append_right states (l ∷ []) l (Contains-here l [])),
    )

-- each of the literals says that some state before n is there, also where they begin anew
pub still_below : (f : Formula) (kind : Kind) (n : ℕ) (old new : List Signed)
    → AreStatesBelow f kind n old → (new ≡ old) ⊎ (new ≡ []) → AreStatesBelow f kind n new
still_below f kind n old new below (inl same) = subst (AreStatesBelow f kind n) (sym same) below
still_below f kind n old new below (inr none) = subst (AreStatesBelow f kind n) (sym none) (All-nil (IsStateBelow f kind n))
