-- `batch` has an answer.
use Rattle.std.proofs.Common.{◌≡◌, ◌≢◌, ℕ, zero, suc, ◌≤◌, ◌⊎◌, inl, inr, List, [], ◌∷◌, length, Option, Contains, refl, ap, subst, arith}
use Rattle.std.proofs.lemmas.Bool.{cases_lt}
use native.Mathlib.Decide.{dec_le}
use Rattle.ltl_syntax.specs.declared.node.Kind.{Kind}
use Rattle.ltl_syntax.specs.declared.node.Kind.TheVariants as kinds
use Rattle.ltl_syntax.specs.Formula.{Formula}
use Rattle.ltl_syntax.specs.Size.{formula_size}
use Rattle.ltl_parser.specs.Text.{IsAccepted}
use Rattle.ltl_closure.specs.Run.{Verdict, IsVerdict, Sat, Unsat, Undecided}
use Rattle.enc_layout.specs.Letters.{Counts, letters_through}
use Rattle.enc_layout.specs.Clauses.{counts}
use Rattle.enc_layout.proofs.Counting.{counts_few}
use Rattle.unravel.specs.Laws.{VerdictIsThere}
use Rattle.batch_run.specs.declared.answer.LineOutcome.{LineOutcome}
use Rattle.batch_run.specs.declared.answer.LineOutcome.TheVariants as outcomes
use Rattle.batch_run.specs.declared.answer.LineAnswer.{LineAnswer}
use Rattle.batch_run.specs.Lines.{AreLines, FormulaLine, formula_lines}
use Rattle.batch_run.specs.Outcomes.{HasFewLetters, IsBatchLimit, IsOutcome, AreAnswered, AreAnswers}
use Rattle.report.specs.declared.fault.Fault.{Fault}
use Rattle.report.specs.declared.fault.Fault.TheVariants as faults
use Rattle.black_top.specs.Answer.{Answer, refused, batched}
use Rattle.black_top.specs.Batch.{max_batch, IsBatched, too_many, answered}
use Rattle.program_input.specs.Reading.{RefusesPart, too_long, lexical, grammar, many_nodes}
use Rattle.black_top.specs.Solve.{number_of}
use Rattle.core_extract.proofs.Tabled.{small_closure}
use Rattle.program_input.proofs.SomeParts.{EachHasOutcome, accepted_or_refused}

-- ---- lines

pub same_number : (x y : ℕ) → (x ≡ y) ⊎ (x ≢ y)
same_number x y = elim (cases_lt x y) [
  | inl less ↦ inr (λ e. omega (arith, e, less))
  | inr more ↦ elim (cases_lt y x) [
    | inl less ↦ inr (λ e. omega (arith, e, less))
    | inr most ↦ inl (omega (arith, more, most))
  ]
]

no_newline : (x : ℕ) (line : List ℕ) → x ≢ 10 → ¬ Contains line 10 → ¬ Contains (x ∷ line) 10
no_newline x line other none (zero, lt, e) = other e
no_newline x line other none (suc k, lt, e) = none (k, omega arith, e)

one_more : (x : ℕ) (xs : List ℕ) → x ≢ 10 → (lines : List (List ℕ)) → AreLines xs lines → (more : List (List ℕ)) × AreLines (x ∷ xs) more
one_more x xs other [] e = ((x ∷ []) ∷ [], ([], (no_newline x [] other (λ (k, lt, f). absurd (omega arith)), inr (ap (λ l. x ∷ l) e, refl, omega arith)), refl))
one_more x xs other (line ∷ lines) (rest, (none, inl e), more) = ((x ∷ line) ∷ lines, (rest, (no_newline x line other none, inl (ap (λ l. x ∷ l) e)), more))
one_more x xs other (line ∷ lines) (rest, (none, inr (e, r, p)), more) =
    ((x ∷ line) ∷ lines, (rest, (no_newline x line other none, inr (ap (λ l. x ∷ l) e, r, omega arith)), more))

some_lines : (text : List ℕ) → (lines : List (List ℕ)) × AreLines text lines
some_lines [] = ([], refl)
some_lines (x ∷ xs) = let w = some_lines xs in elim (same_number x 10) [
  | inl e ↦ ([] ∷ w.0, (xs, ((λ (k, lt, f). absurd (omega arith)), inl (ap (λ y. y ∷ xs) e)), w.1))
  | inr other ↦ one_more x xs other w.0 w.1
]

-- ---- the limit of a batch

few_at_first : (kind : Kind) (c : Counts) → c.entries ≤ 98306 → c.eventualities ≤ 98306 → letters_through kind c 0 ≤ 1048576
few_at_first kinds.Infinite c few few' = omega (arith, few, few')
few_at_first kinds.Finite c few few' = omega (arith, few, few')

module _ (f : Formula) (kind : Kind) (first : HasFewLetters f kind 0) where
  greatest : (n : ℕ) → (d : ℕ) × IsBatchLimit f kind n d
  greatest zero = (zero, record { below = omega arith; fits = first; greatest = λ e le fits. le })
  greatest (suc n) = elim (dec_le (letters_through kind (counts f) (suc n)) 1048576) [
    | yes fits ↦ (suc n, record { below = omega arith; fits = fits; greatest = λ e le fits'. le })
    | no none ↦
        let w = greatest n in
        let low = w.1.below in (
          w.0,
          record {
            below = omega arith;
            fits = w.1.fits;
            greatest = λ e le fits. elim (cases_lt e (suc n)) [
              | inl lt ↦ w.1.greatest e (omega arith) fits
              | inr ge ↦ let same : e ≡ suc n = omega arith in absurd (none (subst (HasFewLetters f kind) same fits))
            ];
          },
        )
  ]

some_limit : (f : Formula) (kind : Kind) (asked : ℕ) → formula_size f ≤ 16384 → (d : ℕ) × IsBatchLimit f kind asked d
some_limit f kind asked few = let c = counts_few f (small_closure f few) in
    greatest f kind (few_at_first kind (counts f) c.few_entries c.few_eventualities) asked

-- ---- answers

refused_line : (kind : Kind) (asked : ℕ) (line : List ℕ) (fault : Fault) → RefusesPart line fault → (o : LineOutcome) × IsOutcome kind asked line o
refused_line kind asked line fault (too_long h) = (outcomes.Text, h)
refused_line kind asked line fault (lexical byte short h) = (outcomes.Lexical byte, (short, h))
refused_line kind asked line fault (grammar byte short h) = (outcomes.Grammar byte, (short, h))
refused_line kind asked line fault (many_nodes count short h) = (outcomes.Nodes count, (short, h))

module _ (outcome : EachHasOutcome) (verdicts : VerdictIsThere) (kind : Kind) (asked : ℕ) where
  decided_line : (line : List ℕ) (f : Formula) → IsAccepted line f → (o : LineOutcome) × IsOutcome kind asked line o
  decided_line line f read = let limit = some_limit f kind asked read.few in let v = verdicts f kind limit.0 in by limit.0 limit.1 v.0 v.1
    where
      by : (d : ℕ) → IsBatchLimit f kind asked d → (v : Verdict) → IsVerdict f kind d v → (o : LineOutcome) × IsOutcome kind asked line o
      by d limited (Sat k) h = (outcomes.Sat k, (f, read, record { limit = d; limited = limited; decided = h }))
      by d limited (Unsat k) h = (outcomes.Unsat k, (f, read, record { limit = d; limited = limited; decided = h }))
      by d limited (Undecided k) h = (outcomes.Undecided k, (f, read, record { limit = d; limited = limited; decided = h }))

  some_outcome : (line : List ℕ) → (o : LineOutcome) × IsOutcome kind asked line o
  some_outcome line = elim (accepted_or_refused outcome line) [
    | inl (f, read) ↦ decided_line line f read
    | inr (fault, h) ↦ refused_line kind asked line fault h
  ]

  some_answered : (lines : List FormulaLine) → (answers : List LineAnswer) × AreAnswered kind asked lines answers
  some_answered [] = ([], tt)
  some_answered (l ∷ lines) =
      let o = some_outcome l.bytes in
      let w = some_answered lines in
      (record { line = l.number; outcome = o.0 } ∷ w.0, (refl, o.1, w.1))

  some_answers : (text : List ℕ) → (answers : List LineAnswer) × AreAnswers kind asked text answers
  some_answers text =
      let lines = some_lines text in
      let found = formula_lines 1 lines.0 in
      let w = some_answered found in
      (w.0, record { lines = found; found = (lines.0, lines.1, refl); answered = w.1 })

pub some_batched : EachHasOutcome → VerdictIsThere → (kind : Kind) (wanted : Option ℕ) (bytes : List ℕ) → (a : Answer) × IsBatched kind wanted bytes a
some_batched outcome verdicts kind wanted bytes = elim (cases_lt max_batch (length bytes)) [
  | inl many ↦ (refused faults.Batch, too_many many)
  | inr few ↦ let w = some_answers outcome verdicts kind (number_of wanted) bytes in (batched w.0, answered w.0 few w.1)
]
