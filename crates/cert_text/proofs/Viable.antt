-- From each place that the scan can reach some bytes lead to the end of a certificate text.
use Rattle.std.proofs.Common.{◌≡◌, ℕ, zero, suc, ◌+◌, ◌-◌, ◌==◌, List, [], ◌∷◌, ◌++◌, length, Some, inl, refl, ap, ◌∙◌, arith}
use Rattle.std.specs.Prelude.{codes}
use Rattle.std.proofs.lemmas.Bool.{cond-true, cond-false, eq-eqb, ne_eqb}
use Rattle.std.proofs.lemmas.List.{length_push}
use Rattle.ltl_syntax.specs.declared.node.Kind.TheVariants as Kinds
use Rattle.cert_text.specs.Text.{Line, Delete, Certificate}
use Rattle.cert_text.specs.Scan.{Role, OfDepth, OfLiteral, OfHint, OfTarget, OfDelete, Place, AtVersion, AtKind, AtNumber, InNumber, AtPart, AtLiteral, AtHint}
use Rattle.cert_text.specs.Scan.{AtEnd, literal, hint, with_part, with_target, header, step, run}
use Rattle.cert_text.proofs.Places.{IsRole, IsPlace}
use Rattle.cert_text.proofs.Machine.{run_step}

-- some bytes lead from the place to the end
abbrev pub IsViable : Place → Type 0
IsViable p = (rest : List ℕ) × (c : Certificate) × (run ([], p) rest ≡ Some ([], AtEnd c))

-- the number of targets that are wanted behind this one
in_target : (more : ℕ) (c : Certificate) (n : ℕ) → length c.targets + suc more ≡ c.depth + 2 → IsViable (InNumber (OfTarget c) n)
in_target zero c n count = (
  10 ∷ [],
  with_target c n,
  run_step step (
    [],
    InNumber (OfTarget c) n,
  ) ([], AtEnd (with_target c n)) 10 [] (cond-true (length c.targets == c.depth + 1) _ _ (eq-eqb (length c.targets) (c.depth + 1) (omega (arith, count)))),
)
in_target (suc more) c n count =
    let again = in_target more (with_target c n) 1 (omega (arith, count, length_push c.targets n)) in (
      32 ∷ 49 ∷ again.0,
      again.1,
      run_step step ([], InNumber (OfTarget c) n) ([], AtNumber (OfTarget (with_target c n))) 32 (49 ∷ again.0)
          (cond-false (length c.targets == c.depth + 1) _ _ (ne_eqb (length c.targets) (c.depth + 1) (λ h. omega (arith, h, count))))
          ∙ again.2,
    )

at_part : (c : Certificate) → c.targets ≡ [] → IsViable (AtPart c)
at_part c none =
    let again = in_target (c.depth + 1) c 1 (omega (arith, ap length none)) in
    (codes "close 1" ++ again.0, again.1, again.2)

in_number : (role : Role) (n : ℕ) → IsRole role → IsViable (InNumber role n)
in_number (OfDepth version kind) n is =
    let again = at_part (header version kind n) refl in
    (10 ∷ again.0, again.1, again.2)
in_number (OfLiteral c literals negated) n is =
    let again = at_part (with_part c (Line (literals ++ literal negated n ∷ []) [])) is.0.none in
    (codes " 0 0\n" ++ again.0, again.1, again.2)
in_number (OfHint c literals hints negated) n is =
    let again = at_part (with_part c (Line literals (hints ++ hint negated n ∷ []))) is.0.none in
    (codes " 0\n" ++ again.0, again.1, again.2)
in_number (OfTarget c) n is = in_target (c.depth + 1 - length c.targets) c n (omega (arith, is.1))
in_number (OfDelete c lines) n is =
    let again = at_part (with_part c (Delete (lines ++ n ∷ []))) is.0.none in
    (10 ∷ again.0, again.1, again.2)

at_number : (role : Role) → IsRole role → IsViable (AtNumber role)
at_number (OfDepth version kind) is = let again = in_number (OfDepth version kind) 1 is in (49 ∷ again.0, again.1, again.2)
at_number (OfLiteral c literals negated) is = let again = in_number (OfLiteral c literals negated) 1 is in (49 ∷ again.0, again.1, again.2)
at_number (OfHint c literals hints negated) is = let again = in_number (OfHint c literals hints negated) 1 is in (49 ∷ again.0, again.1, again.2)
at_number (OfTarget c) is = let again = in_number (OfTarget c) 1 is in (49 ∷ again.0, again.1, again.2)
at_number (OfDelete c lines) is = let again = in_number (OfDelete c lines) 1 is in (49 ∷ again.0, again.1, again.2)

pub viable : (p : Place) → IsPlace p → IsViable p
viable AtVersion is = let again = at_number (OfDepth 1 Kinds.Infinite) (inl refl) in (codes "1 infinite " ++ again.0, again.1, again.2)
viable (AtKind version) is = let again = at_number (OfDepth version Kinds.Infinite) is in (codes "infinite " ++ again.0, again.1, again.2)
viable (AtNumber role) is = at_number role is
viable (InNumber role n) is = in_number role n is.0
viable (AtPart c) is = at_part c is.none
viable (AtLiteral c literals) is =
    let again = at_part (with_part c (Line literals [])) is.0.none in
    (codes "0 0\n" ++ again.0, again.1, again.2)
viable (AtHint c literals hints) is =
    let again = at_part (with_part c (Line literals hints)) is.0.none in
    (codes "0\n" ++ again.0, again.1, again.2)
viable (AtEnd c) is = ([], c, refl)
