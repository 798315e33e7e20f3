-- Which lines the targets stand on, marked from the last line back to the first.
use Rattle.std.proofs.Common.{◌≡◌, ◌↔◌, ℕ, zero, suc, ◌+◌, ◌⊎◌, inl, inr, Bool, true, false, ◌||◌, IsTrue, List, [], ◌∷◌, length, get_or, Contains}
use Rattle.std.proofs.Common.{refl, ap, subst, ◌∙◌, arith}
use mathlib.Core.Bool.{false≢true}
use Rattle.std.proofs.lemmas.List.Elements.{Contains-get_or}
use Rattle.cnf_base.specs.declared.literal.Literal.{Literal}
use Rattle.cnf_base.specs.declared.literal.Hint.{Hint}
use Rattle.cnf_base.specs.declared.literal.Hint.TheVariants.{Clause, Line}
use Rattle.derivation.specs.Steps.{DerivationValue, AreSteps, IsDerivation}
use Rattle.derivation.proofs.Renaming.{Contains-there, Contains-cases, Contains-nil}
use Rattle.log_trim.specs.Kept.{Marks, HasHint, trimmed, new_numbers}
use Rattle.log_trim.specs.Marking.{target, HasTargets, AreNeeded, IsMarkedFrom}
use Rattle.log_trim.proofs.Keeping.{kept_from_few}
use Rattle.log_trim.proofs.Marks.{default_moves, starts, line_visited, line_passed, ended}
use Rattle.completeness.specs.Trimmable.{TrimmedIsThere}
use Rattle.completeness.proofs.Denying.{is_first, first_true, first_is, number_or_not}

-- whether a list has a member, where its members can be told from it
member_or_not : {X : Type 0} (x : X) → ((y : X) → (y ≡ x) ⊎ ¬ (y ≡ x)) → (xs : List X) → Contains xs x ⊎ ¬ Contains xs x
member_or_not x same [] = inr (Contains-nil x)
member_or_not x same (y ∷ xs) = elim (same y) [
  | inl e ↦ inl (0, omega arith, e)
  | inr other ↦ elim (member_or_not x same xs) [
    | inl there ↦ inl (Contains-there y x xs there)
    | inr none ↦ inr (λ c. elim (Contains-cases y x xs c) [ inl e ↦ other e | inr there ↦ none there ])
  ]
]

target_or_not : (targets : List ℕ) (n : ℕ) → Contains targets n ⊎ ¬ Contains targets n
target_or_not targets n = member_or_not n (λ m. number_or_not m n) targets

line_or_not : (n : ℕ) (hint : Hint) → (hint ≡ Line n) ⊎ ¬ (hint ≡ Line n)
line_or_not n (Clause m) = inr (λ e. cc)
line_or_not n (Line m) = elim (number_or_not m n) [ inl e ↦ inl (ap Line e) | inr other ↦ inr (λ e. let same : m ≡ n = cc in other same) ]

hint_or_not : (hints : List Hint) (n : ℕ) → Contains hints (Line n) ⊎ ¬ Contains hints (Line n)
hint_or_not hints n = member_or_not (Line n) (line_or_not n) hints

or_cases : (a b : Bool) → (a || b) ≡ true → (a ≡ true) ⊎ (b ≡ true)
or_cases true b e = inl refl
or_cases false b e = inr e

or_left : (a b : Bool) → a ≡ true → (a || b) ≡ true
or_left true b e = refl
or_left false b e = absurd (false≢true e)

or_right : (a b : Bool) → b ≡ true → (a || b) ≡ true
or_right true b e = refl
or_right false b e = e

module _ (list : List (List Literal)) (log : DerivationValue) (targets : List ℕ) (are : AreSteps list log) where
  is : IsDerivation log
  is = (list, are)

  -- the targets alone
  abbrev first_marks : Marks
  first_marks n = is_first (target_or_not targets n)

  first_needed : AreNeeded log targets first_marks
  first_needed n marked =
      let c = first_true (target_or_not targets n) marked in
      target c.0 c.1 (default_moves targets c.0 0 n c.1 ∙ c.2)

  first_have : HasTargets first_marks targets (length targets)
  first_have j lt = first_is (target_or_not targets (get_or targets j 0)) (Contains-get_or targets j 0 lt)

  -- and the lines that the hints of line k + 1 name
  abbrev more_marks : Marks → ℕ → Marks
  more_marks M k n = M n || is_first (hint_or_not (get_or log.hints k []) n)

  more_adds : (M : Marks) (k n : ℕ) → IsTrue (more_marks M k n) ↔ (IsTrue (M n) ⊎ HasHint log k n)
  more_adds M k n =
      let named = hint_or_not (get_or log.hints k []) n in (
        λ h. elim (or_cases (M n) (is_first named) h) [ inl old ↦ inl old | inr new ↦ inr (first_true named new) ],
        λ h. elim h [ inl old ↦ or_left (M n) (is_first named) old | inr c ↦ or_right (M n) (is_first named) (first_is named c) ],
      )

  -- once c lines are visited
  visited : (c k : ℕ) → k + c ≡ length log.lines → (M : Marks) × IsMarkedFrom log targets k M
  visited zero k e =
      let same : length log.lines ≡ k = omega arith in
      (first_marks, subst (λ n. IsMarkedFrom log targets n first_marks) same (starts log targets first_marks first_needed first_have))
  visited (suc c) k e = let w = visited c (suc k) (omega arith) in go w.0 (w.0 (suc k)) refl w.1
    where
      go : (M : Marks) (b : Bool) → M (suc k) ≡ b → IsMarkedFrom log targets (suc k) M → (N : Marks) × IsMarkedFrom log targets k N
      go M true marked w = (more_marks M k, line_visited log targets k M (more_marks M k) is (omega arith) marked (more_adds M k) w)
      go M false unmarked w = (M, line_passed log targets k M unmarked w)

pub trimmed_is_there : TrimmedIsThere
trimmed_is_there list log targets are =
    let w = visited list log targets are (length log.lines) 0 (omega arith) in
    let done = ended log targets w.0 (list, are) w.1 in (
      trimmed w.0 log,
      new_numbers w.0 log.lines targets,
      w.0,
      record { marks = done.1; closed = done.0; is = refl; targets_are = refl },
      kept_from_few w.0 1 log.lines,
    )
