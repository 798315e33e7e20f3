-- What a clause is with one more literal.
use Rattle.std.proofs.Common.{◌≡◌, ℕ, ◌⊎◌, inl, inr, Bool, true, false, eqb, ap₂, List, [], ◌∷◌, ◌++◌, All, Contains, refl, sym, ap, ◌∙◌, subst, arith}
use mathlib.Core.Bool.{◌&&◌, beq}
use Rattle.std.proofs.lemmas.Bool.{eqb-true, eq-eqb}
use Rattle.std.proofs.lemmas.List.Elements.{All-push, All-weaker, All-contains, All-head, All-tail, All-cons, All-nil, Contains-append_left}
use Rattle.std.proofs.lemmas.List.Elements.{Contains-append_right, Contains-push}
use Rattle.cnf_base.specs.declared.literal.Literal.{Literal}
use Rattle.cnf_base.specs.Literal.{opposite}
use Rattle.cnf_base.specs.Step.{IsFalse, IsUnit}
use Rattle.log_checker.specs.Judging.{IsOutcome}
use Rattle.log_checker.specs.declared.outcome.ClauseStatus.{ClauseStatus}
use Rattle.log_checker.specs.declared.outcome.ClauseStatus.TheVariants.{AllFalse, Forces, Neither}

All-front : {X : Type 0} (P : X → Type 0) (xs ys : List X) → All P (xs ++ ys) → All P xs
All-front P [] ys all = All-nil P
All-front P (x ∷ xs) ys all = All-cons P x xs (All-head P x (xs ++ ys) all) (All-front P xs ys (All-tail P x (xs ++ ys) all))

module _ (falses : List Literal) where
  abbrev OrIs : Literal → Literal → Type 0
  OrIs u l = Contains falses l ⊎ (l ≡ u)

  -- all are false, or u stands among them
  false_or_there : (u : Literal) (xs : List Literal) → All (OrIs u) xs → IsFalse falses xs ⊎ Contains xs u
  false_or_there u [] all = inl (All-nil (λ l. Contains falses l))
  false_or_there u (x ∷ xs) all = go (All-head (OrIs u) x xs all) (false_or_there u xs (All-tail (OrIs u) x xs all))
    where
      go : Contains falses x ⊎ (x ≡ u) → IsFalse falses xs ⊎ Contains xs u → IsFalse falses (x ∷ xs) ⊎ Contains (x ∷ xs) u
      go (inr same) rest = inr (0, omega arith, same)
      go (inl false') (inr there) = inr (Contains-append_right (x ∷ []) xs u there)
      go (inl false') (inl all') = inl (All-cons (λ l. Contains falses l) x xs false' all')

  -- what is neither stays so
  pub neither_more : (xs ys : List Literal) → IsOutcome falses xs Neither → IsOutcome falses (xs ++ ys) Neither
  neither_more xs ys is = (
    λ all. is.0 (All-front (λ l. Contains falses l) xs ys all),
    λ u unit. let others = All-front (OrIs u) xs ys unit.others in elim (false_or_there u xs others) [
      | inl all ↦ is.0 all
      | inr there ↦ is.1 u (record { there = there; not_false = unit.not_false; not_true = unit.not_true; others = others })
    ],
  )

  -- one more literal is false
  pub false_more : (xs : List Literal) (l : Literal) (o : ClauseStatus) → Contains falses l → IsOutcome falses xs o → IsOutcome falses (xs ++ l ∷ []) o
  false_more xs l AllFalse here is = All-push (λ x. Contains falses x) xs l is here
  false_more xs l (Forces u) here is = record {
    there = Contains-append_left xs (l ∷ []) u is.there;
    not_false = is.not_false;
    not_true = is.not_true;
    others = All-push (OrIs u) xs l is.others (inl here);
  }
  false_more xs l Neither here is = neither_more xs (l ∷ []) is

  -- one more is true
  pub true_more : (xs : List Literal) (l : Literal) → (¬ Contains falses l) → Contains falses (opposite l) → IsOutcome falses (xs ++ l ∷ []) Neither
  true_more xs l not_false not_true = (
    λ all. not_false (All-contains (λ x. Contains falses x) (xs ++ l ∷ []) l all (Contains-push xs l)),
    λ u unit. elim (All-contains (OrIs u) (xs ++ l ∷ []) l unit.others (Contains-push xs l)) [
      | inl here ↦ not_false here
      | inr same ↦ unit.not_true (subst (λ x. Contains falses (opposite x)) same not_true)
    ],
  )

  -- the first that has no value
  pub open_first : (xs : List Literal) (l : Literal) → (¬ Contains falses l) → (¬ Contains falses (opposite l)) → IsFalse falses xs
      → IsUnit falses (xs ++ l ∷ []) l
  open_first xs l not_false not_true is = record {
    there = Contains-push xs l;
    not_false = not_false;
    not_true = not_true;
    others = All-push (OrIs l) xs l (All-weaker (λ x. Contains falses x) (OrIs l) (λ x h. inl h) xs is) (inr refl);
  }

  -- the same again
  pub open_again : (xs : List Literal) (l u : Literal) → u ≡ l → IsUnit falses xs u → IsUnit falses (xs ++ l ∷ []) u
  open_again xs l u same is = record {
    there = Contains-append_left xs (l ∷ []) u is.there;
    not_false = is.not_false;
    not_true = is.not_true;
    others = All-push (OrIs u) xs l is.others (inr (sym same));
  }

  -- a second one
  pub open_second : (xs : List Literal) (l u : Literal) → ¬ (u ≡ l) → (¬ Contains falses l) → IsUnit falses xs u → IsOutcome falses (xs ++ l ∷ []) Neither
  open_second xs l u other not_false is = (
    λ all. not_false (All-contains (λ x. Contains falses x) (xs ++ l ∷ []) l all (Contains-push xs l)),
    λ v unit. elim (All-contains (OrIs v) (xs ++ l ∷ []) l unit.others (Contains-push xs l)) [
      | inl here ↦ not_false here
      | inr same ↦ elim (All-contains (OrIs v) (xs ++ l ∷ []) u unit.others (Contains-append_left xs (l ∷ []) u is.there)) [
        | inl here ↦ is.not_false here
        | inr at ↦ other (at ∙ sym same)
      ]
    ],
  )

-- what the derived test of two literals says
same_bool : (a b : Bool) → beq a b ≡ true → a ≡ b
same_bool true true e = refl
same_bool true false e = cc
same_bool false true e = cc
same_bool false false e = refl

parts : (a b : Bool) → (a && b) ≡ true → (a ≡ true) × (b ≡ true)
parts true b e = (refl, e)
parts false b e = cc

pub same_literal : (a b : Literal) → (eqb a.letter.0 b.letter.0 && beq a.negated b.negated) ≡ true → a ≡ b
same_literal a b e =
    let p = parts (eqb a.letter.0 b.letter.0) (beq a.negated b.negated) e in
    let make : ℕ → Bool → Literal = λ x n. record { letter = record { 0 = x }; negated = n } in
    ap₂ make (eqb-true a.letter.0 b.letter.0 p.0) (same_bool a.negated b.negated p.1)

beq_self : (b : Bool) → beq b b ≡ true
beq_self true = refl
beq_self false = refl

pub other_literal : (a b : Literal) → (eqb a.letter.0 b.letter.0 && beq a.negated b.negated) ≡ false → ¬ (a ≡ b)
other_literal a b e same =
    let test : Literal → Bool = λ l. eqb a.letter.0 l.letter.0 && beq a.negated l.negated in
    let yes : test a ≡ true = ap₂ ◌&&◌ (eq-eqb a.letter.0 a.letter.0 refl) (beq_self a.negated) in
    let clash : true ≡ false = sym yes ∙ ap test same ∙ e in cc
