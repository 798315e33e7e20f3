-- The letters that inputs name stay named, and each of them is listed.
use Rattle.std.proofs.Common.{◌≡◌, ℕ, ◌<◌, ◌+◌, inl, inr, List, ◌∷◌, ◌++◌, Bool, true, All, Contains, take, length, get_or, set, sym, ap, ◌∙◌, subst, arith, []}
use mathlib.Core.Bool.{false, false≢true}
use Rattle.std.proofs.lemmas.Bool.{cases_eq}
use Rattle.std.proofs.lemmas.List.{get_or-set_other, get_or_append_left, length_push}
use Rattle.std.proofs.lemmas.List.Elements.{All-contains, All-more, All-push, Contains-append_left, Contains-get_or, Contains-push}
use Rattle.cnf_base.specs.declared.literal.Literal.{Literal}
use Rattle.cnf_base.proofs.SameLiteral.{opposite_opposite}
use Rattle.cdcl_trail.specs.Trail.{literals_of}
use Rattle.cdcl_trail.specs.declared.assigned.TrailEntry.{TrailEntry}
use Rattle.cdcl_trail.proofs.Assign.{same_letter}
use Rattle.cdcl_state.specs.Named.{AreListed, AreOf}
use Rattle.cdcl_state.specs.StateValue.{IsSet}

-- a letter came behind the others, with its flag
pub listed_more : (flags : List Bool) (letters : List ℕ) (letter : ℕ) → AreListed flags letters → AreListed (set flags letter true) (letters ++ letter ∷ [])
listed_more flags letters letter listed x is = elim (cases_eq x letter) [
  | inl here ↦ subst (Contains (letters ++ letter ∷ [])) (sym here) (Contains-push letters letter)
  | inr other ↦ Contains-append_left letters (letter ∷ []) x (listed x (sym (get_or-set_other flags letter x true false other) ∙ is))
]

-- what was named stays named
pub of_more : (old new : List ℕ) (clauses : List (List Literal)) → All (Contains new) old → All (AreOf old) clauses → All (AreOf new) clauses
of_more old new clauses kept are k d below i e low = All-contains (Contains new) old (get_or (get_or clauses k d) i e).letter.0 kept (are k d below i e low)

-- an input whose letters are named came behind the others
pub of_push : (old new : List ℕ) (clauses : List (List Literal)) (clause : List Literal) → All (Contains new) old → AreOf new clause → All (AreOf old) clauses
    → All (AreOf new) (clauses ++ clause ∷ [])
of_push old new clauses clause kept there are = All-push (AreOf new) clauses clause (of_more old new clauses kept are) there

-- the last input was taken back
pub of_fewer : (letters : List ℕ) (clauses all : List (List Literal)) (clause : List Literal) → all ≡ clauses ++ clause ∷ [] → All (AreOf letters) all
    → All (AreOf letters) clauses
of_fewer letters clauses all clause is are k d below =
    let e : get_or all k d ≡ get_or clauses k d = ap (λ xs. get_or xs k d) is ∙ get_or_append_left clauses (clause ∷ []) d k below in
    subst (AreOf letters) e (are k d (omega (arith, below, ap length is, length_push clauses clause)))

pub kept_push : (letters : List ℕ) (letter : ℕ) → All (Contains (letters ++ letter ∷ [])) letters
kept_push letters letter k d below = Contains-append_left letters (letter ∷ []) (get_or letters k d) (Contains-get_or letters k d below)

pub kept_both : (one two three : List ℕ) → All (Contains two) one → All (Contains three) two → All (Contains three) one
kept_both one two three first second k d below = All-contains (Contains three) two (get_or one k d) second (first k d below)

-- one letter more of a clause is named
pub of_next : (old new : List ℕ) (clause : List Literal) (k : ℕ) (d : Literal) → k < length clause → All (Contains new) old
    → Contains new (get_or clause k d).letter.0 → AreOf old (take k clause) → AreOf new (take (k + 1) clause)
of_next old new clause k d below kept there are =
    All-more (λ l. Contains new l.letter.0) clause k d below
    (λ i e low. All-contains (Contains new) old (get_or (take k clause) i e).letter.0 kept (are i e low)) there

-- where the literal or its opposite is true, one of each literal of its letter is
pub set_letter : (trail : List TrailEntry) (l m : Literal) → m.letter.0 ≡ l.letter.0 → IsSet trail l → IsSet trail m
set_letter trail l m same set = elim (same_letter m l same) [
  | inl e ↦ subst (IsSet trail) (sym e) set
  | inr e ↦ subst (IsSet trail) (sym e) (elim set [
    | inl there ↦ inr (subst (Contains (literals_of trail)) (sym (opposite_opposite l)) there)
    | inr there ↦ inl there
  ])
]
