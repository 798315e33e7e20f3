-- Lines are taken one by one.
use Rattle.std.proofs.Common.{◌≡◌, ℕ, zero, suc, ◌+◌, ◌-◌, ◌<◌, ◌≤◌, List, [], ◌∷◌, ◌++◌, length, get_or, All, Some, None, refl, sym, ap, ◌∙◌, subst, arith}
use Rattle.std.proofs.Common.{add-one, below_more}
use Rattle.std.proofs.lemmas.List.Elements.{All-push}
use Rattle.cnf_base.specs.declared.literal.Literal.{Literal}
use Rattle.cnf_base.specs.declared.literal.Hint.{Hint}
use Rattle.cnf_base.specs.Known.{IsKnown, AreKnown}
use Rattle.cnf_base.specs.Step.{clause_at, IsHintedStep}
use Rattle.claims.specs.Certificate.{HintedLine, line_at, first_clauses, clauses_of}
use Rattle.claims.proofs.Growing.{lines_grow}
use Rattle.claim_check.specs.Data.{hinted, IsGoodStep}
use Rattle.claim_check.specs.Bases.{IsFound}
use Rattle.claim_check.proofs.Finding.{bad_here, all_good as none_bad}

pub long : (cs : List (List Literal)) (hs : List (List Hint)) → length (hinted cs hs) ≡ length cs
long [] hs = refl
long (c ∷ cs) [] = ap suc (long cs [])
long (c ∷ cs) (h ∷ hs) = ap suc (long cs hs)

none_at : {X : Type 0} (k : ℕ) (d : X) → get_or [] k d ≡ d
none_at zero d = refl
none_at (suc k) d = refl

line_is : (cs : List (List Literal)) (hs : List (List Hint)) (k : ℕ) → k < length cs
    → line_at (hinted cs hs) k ≡ record { literals = get_or cs k []; hints = get_or hs k [] }
line_is [] hs k lt = absurd (omega arith)
line_is (c ∷ cs) [] zero lt = refl
line_is (c ∷ cs) [] (suc k) lt = line_is cs [] k (omega arith) ∙ ap (λ h. record { literals = get_or cs k []; hints = h }) (none_at k [])
line_is (c ∷ cs) (h ∷ hs) zero lt = refl
line_is (c ∷ cs) (h ∷ hs) (suc k) lt = line_is cs hs k (omega arith)

module _ (clauses earlier : List (List Literal)) (greatest : ℕ) (cs : List (List Literal)) (hs : List (List Hint)) where
  -- the first k lines are good and taken
  pub record IsTaken (k : ℕ) (lines : List (List Literal)) : Type 0 where
    pub known : AreKnown greatest lines
    pub are : lines ≡ earlier ++ first_clauses (hinted cs hs) k
    pub good : (j : ℕ) → j < k → IsGoodStep clauses earlier greatest (hinted cs hs) j

  pub begun : AreKnown greatest earlier → earlier ≡ earlier ++ [] → IsTaken 0 earlier
  begun known same = record { known = known; are = same; good = λ j lt. absurd (omega (arith, lt)) }

  module _ (k : ℕ) (lines : List (List Literal)) (is : IsTaken k lines) (low : k < length cs) (literals : List Literal) (hints : List Hint)
      (li : literals ≡ clause_at cs (k + 1))
      (hi : hints ≡ get_or hs k []) where
    abbrev Step : Type 0
    Step = IsHintedStep clauses lines greatest literals hints

    at : literals ≡ get_or cs k []
    at = let e : k + 1 - 1 ≡ k = omega arith in li ∙ ap (λ n. get_or cs n []) e

    line : line_at (hinted cs hs) k ≡ record { literals = literals; hints = hints }
    line = line_is cs hs k low
        ∙ (ap (λ l. record { literals = l; hints = get_or hs k [] }) (sym at) ∙ ap (λ h. record { literals = literals; hints = h }) (sym hi))

    pub step_good : Step → IsGoodStep clauses earlier greatest (hinted cs hs) k
    step_good step =
        subst (λ (h : HintedLine). IsHintedStep clauses (earlier ++ first_clauses (hinted cs hs) k) greatest h.literals h.hints) (sym line)
        (subst (λ ls. IsHintedStep clauses ls greatest literals hints) is.are step)

    pub good_step : IsGoodStep clauses earlier greatest (hinted cs hs) k → Step
    good_step good =
        subst (λ ls. IsHintedStep clauses ls greatest literals hints) (sym is.are)
        (subst (λ (h : HintedLine). IsHintedStep clauses (earlier ++ first_clauses (hinted cs hs) k) greatest h.literals h.hints) line good)

    pub taken : Step → (new : List (List Literal)) → new ≡ lines ++ literals ∷ [] → IsTaken (k + 1) new
    taken step new is' = record {
      known = subst (AreKnown greatest) (sym is') (All-push (λ c. All (IsKnown greatest) c) lines literals is.known step.within);
      are =
          is' ∙ (ap (λ z. z ++ literals ∷ []) is.are ∙ (ap (λ (h : HintedLine). (earlier ++ first_clauses (hinted cs hs) k) ++ h.literals ∷ []) (sym line)
          ∙ (sym (lines_grow earlier (hinted cs hs) k) ∙ ap (λ n. earlier ++ first_clauses (hinted cs hs) n) (sym (add-one k)))));
      good = below_more (λ j. IsGoodStep clauses earlier greatest (hinted cs hs) j) k is.good (step_good step);
    }

    pub first_bad : (¬ Step) → IsFound (IsGoodStep clauses earlier greatest (hinted cs hs)) (length (hinted cs hs)) (Some (k + 1))
    first_bad bad =
        let l = long cs hs in
        bad_here (IsGoodStep clauses earlier greatest (hinted cs hs)) (length (hinted cs hs)) k (omega (arith, low, l)) (λ good. bad (good_step good)) is.good

  pub all_good : (k : ℕ) (lines : List (List Literal)) → IsTaken k lines
      → length cs ≤ k → IsFound (IsGoodStep clauses earlier greatest (hinted cs hs)) (length (hinted cs hs)) None
  all_good k lines is most =
      let l = long cs hs in none_bad (IsGoodStep clauses earlier greatest (hinted cs hs)) (length (hinted cs hs)) k (omega (arith, l, most)) is.good

  pub all_taken : (k : ℕ) (lines : List (List Literal)) → IsTaken k lines → k ≡ length cs → lines ≡ earlier ++ clauses_of (hinted cs hs)
  all_taken k lines is e = is.are ∙ ap (λ n. earlier ++ first_clauses (hinted cs hs) n) (e ∙ sym (long cs hs))
