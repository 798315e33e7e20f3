-- How the formula lines of a text are found from its front.
use Rattle.std.proofs.Common.{◌≡◌, ◌∙◌, ℕ, suc, ◌+◌, true, false, List, ◌∷◌, ◌++◌, refl, sym, ap, subst, arith, append_assoc, if◌then◌else◌, []}
use Rattle.batch_run.specs.Lines.{IsFrontLine, is_blank, FormulaLine, formula_lines, AreFormulaLines}
use Rattle.batch_run.specs.Grouping.{Continues}

-- an empty text has none
pub no_line : (number : ℕ) → AreFormulaLines number [] []
no_line number = ([], refl, refl)

-- a text goes on with its rest, and the rest with its own
pub continues_then : (a : ℕ) (s : List ℕ) (b : ℕ) (t : List ℕ) (c : ℕ) (u : List ℕ) (xs ys : List FormulaLine) → Continues a s b t xs → Continues b t c u ys
    → Continues a s c u (xs ++ ys)
continues_then a s b t c u xs ys first second later h = subst (AreFormulaLines a s) (sym (append_assoc xs ys later)) (first (ys ++ later) (second later h))

-- a blank line at the front is passed over
pub blank_passed : (number : ℕ) (text : List ℕ) (next : ℕ) (rest line : List ℕ) → next ≡ number + 1 → IsFrontLine text line rest
    → is_blank line ≡ true → Continues number text next rest []
blank_passed number text next rest line up front blank later (lines, cut, e) =
    let is : next ≡ suc number = omega (arith, up) in (
      line ∷ lines,
      (rest, front, cut),
      e ∙ ap (λ n. formula_lines n lines) is
          ∙ sym (ap (λ b. if b then formula_lines (suc number) lines else (record { number = number; bytes = line } ∷ formula_lines (suc number) lines)) blank),
    )

-- another one is the first formula line
pub line_found : (number : ℕ) (text : List ℕ) (next : ℕ) (rest line : List ℕ) → next ≡ number + 1 → IsFrontLine text line rest → is_blank line ≡ false
    → Continues number text next rest (record { number = number; bytes = line } ∷ [])
line_found number text next rest line up front plain later (lines, cut, e) =
    let is : next ≡ suc number = omega (arith, up) in
    let here : FormulaLine = record { number = number; bytes = line } in (
      line ∷ lines,
      (rest, front, cut),
      ap (λ found. here ∷ found) (e ∙ ap (λ n. formula_lines n lines) is)
          ∙ sym (ap (λ b. if b then formula_lines (suc number) lines else (here ∷ formula_lines (suc number) lines)) plain),
    )

-- blank lines, and then one more
pub blanks_passed : (a : ℕ) (s : List ℕ) (number : ℕ) (text : List ℕ) (next : ℕ) (rest line : List ℕ) → Continues a s number text []
    → next ≡ number + 1 → IsFrontLine text line rest → is_blank line ≡ true → Continues a s next rest []
blanks_passed a s number text next rest line before up front blank =
    continues_then a s number text next rest [] [] before (blank_passed number text next rest line up front blank)

-- blank lines, and then a formula line
pub found_behind : (a : ℕ) (s : List ℕ) (number : ℕ) (text : List ℕ) (next : ℕ) (rest line : List ℕ) (at : ℕ) → at ≡ number → Continues a s number text []
    → next ≡ number + 1 → IsFrontLine text line rest → is_blank line ≡ false
    → Continues a s next rest (record { number = at; bytes = line } ∷ [])
found_behind a s number text next rest line at same before up front plain =
    subst (λ n. Continues a s next rest (record { number = n; bytes = line } ∷ [])) (sym same)
    (continues_then a s number text next rest [] (record { number = number; bytes = line } ∷ []) before (line_found number text next rest line up front plain))
