-- A text is cut into lines in one way, and has one list of answers.
use Rattle.std.proofs.Common.{◌≡◌, ◌∙◌, ℕ, suc, ◌⊎◌, inl, inr, List, [], ◌∷◌, ◌++◌, length, Contains, refl, sym, ap, ap₂, subst, arith, length-append}
use Rattle.std.proofs.lemmas.List.Elements.{Contains-append_right}
use Rattle.ltl_syntax.specs.declared.node.Kind.{Kind}
use Rattle.ltl_syntax.specs.Formula.{Formula}
use Rattle.ltl_parser.specs.Text.{IsAccepted}
use Rattle.formula_reading.specs.declared.reading.FormulaFault.{FormulaFault}
use Rattle.formula_reading.specs.declared.reading.FormulaFault.TheVariants as wrong
use Rattle.formula_reading.specs.Reading.{HasFormulaFault}
use Rattle.ltl_closure.specs.Run.{Verdict, IsVerdict, Sat, Unsat, Undecided}
use Rattle.ltl_run.specs.Laws.{VerdictIsOne}
use Rattle.batch_run.specs.declared.answer.LineOutcome.{LineOutcome}
use Rattle.batch_run.specs.declared.answer.LineOutcome.TheVariants as outcomes
use Rattle.batch_run.specs.declared.answer.LineAnswer.{LineAnswer}
use Rattle.batch_run.specs.Lines.{newline, IsFrontLine, AreLines, FormulaLine, formula_lines}
use Rattle.batch_run.specs.Outcomes.{IsBatchLimit, IsBatchVerdict, IsDecided, refusal_of, IsOutcome, AreAnswered, AreAnswers}

-- ---- lines

has_newline : (line rest : List ℕ) → Contains (line ++ newline ∷ rest) newline
has_newline line rest = Contains-append_right line (newline ∷ rest) newline (0, omega arith, refl)

in_later : (b : ℕ) (line : List ℕ) → ¬ Contains (b ∷ line) newline → ¬ Contains line newline
in_later b line none (k, low, at) = none (suc k, omega (arith, low), at)

-- what stands before the first newline, and behind it
split_one : (l m r s : List ℕ) → ¬ Contains l newline → ¬ Contains m newline → l ++ newline ∷ r ≡ m ++ newline ∷ s → (l ≡ m) × (r ≡ s)
split_one [] [] r s p q e = (refl, cc)
split_one [] (y ∷ m) r s p q e = let h : y ≡ newline = cc in absurd (q (0, omega arith, h))
split_one (x ∷ l) [] r s p q e = let h : x ≡ newline = cc in absurd (p (0, omega arith, h))
split_one (x ∷ l) (y ∷ m) r s p q e =
    let first : x ≡ y = cc in
    let others = split_one l m r s (in_later x l p) (in_later y m q) (cc) in (ap₂ (λ v vs. v ∷ vs) first others.0, others.1)

front_one : (text l m r s : List ℕ) → IsFrontLine text l r → IsFrontLine text m s → (l ≡ m) × (r ≡ s)
front_one text l m r s (p, inl e) (q, inl f) = split_one l m r s p q (sym e ∙ f)
front_one text l m r s (p, inl e) (q, inr (f, g, low)) = absurd (q (subst (λ x. Contains x newline) (sym e ∙ f) (has_newline l r)))
front_one text l m r s (p, inr (f, g, low)) (q, inl e) = absurd (p (subst (λ x. Contains x newline) (sym e ∙ f) (has_newline m s)))
front_one text l m r s (p, inr (e, g, low)) (q, inr (f, h, low')) = (sym e ∙ f, g ∙ sym h)

front_some : (text line rest : List ℕ) → IsFrontLine text line rest → text ≡ [] → ⊥
front_some text line rest (p, inl e) none = let n = ap length (sym none ∙ e) in absurd (omega (arith, n, length-append line (newline ∷ rest)))
front_some text line rest (p, inr (e, g, low)) none = let n = ap length (sym none ∙ e) in absurd (omega (arith, n, low))

pub lines_one : (text : List ℕ) (lines others : List (List ℕ)) → AreLines text lines → AreLines text others → lines ≡ others
lines_one text [] [] h k = refl
lines_one text [] (m ∷ others) h (rest, front, k) = absurd (front_some text m rest front h)
lines_one text (l ∷ lines) [] (rest, front, h) k = absurd (front_some text l rest front k)
lines_one text (l ∷ lines) (m ∷ others) (rest, front, h) (rest', front', k) =
    let same = front_one text l m rest rest' front front' in
    ap₂ (λ v vs. v ∷ vs) same.0 (lines_one rest lines others h (subst (λ t. AreLines t others) (sym same.1) k))

-- ---- outcomes

-- what the crates below say of texts and of verdicts
pub record Below : Type 0 where
  pub one_formula : (text : List ℕ) (f g : Formula) → IsAccepted text f → IsAccepted text g → f ≡ g
  pub one_fault : (text : List ℕ) (a b : FormulaFault) → HasFormulaFault text a → HasFormulaFault text b → a ≡ b
  pub not_both : (text : List ℕ) (fault : FormulaFault) (f : Formula) → HasFormulaFault text fault → IsAccepted text f → ⊥
  pub one_verdict : VerdictIsOne

-- the outcome that a verdict is
abbrev shown : Verdict → LineOutcome
shown (Sat k) = outcomes.Sat k
shown (Unsat k) = outcomes.Unsat k
shown (Undecided k) = outcomes.Undecided k

-- the line has a fault, or it has a verdict
abbrev Comes : Kind → ℕ → List ℕ → LineOutcome → Type 0
Comes kind asked line o =
    ((fault : FormulaFault) × (o ≡ refusal_of fault) × HasFormulaFault line fault) ⊎ ((v : Verdict) × (o ≡ shown v) × IsDecided kind asked line v)

comes : (kind : Kind) (asked : ℕ) (line : List ℕ) (o : LineOutcome) → IsOutcome kind asked line o → Comes kind asked line o
comes kind asked line outcomes.Text h = inl (wrong.Long, refl, h)
comes kind asked line (outcomes.Lexical byte) h = inl (wrong.Lexical byte, refl, h)
comes kind asked line (outcomes.Grammar byte) h = inl (wrong.Grammar byte, refl, h)
comes kind asked line (outcomes.Nodes count) h = inl (wrong.Nodes count, refl, h)
comes kind asked line (outcomes.Sat k) h = inr (Sat k, refl, h)
comes kind asked line (outcomes.Unsat k) h = inr (Unsat k, refl, h)
comes kind asked line (outcomes.Undecided k) h = inr (Undecided k, refl, h)

one_limit : (f : Formula) (kind : Kind) (asked d e : ℕ) → IsBatchLimit f kind asked d → IsBatchLimit f kind asked e → d ≡ e
one_limit f kind asked d e h k =
    let low = k.greatest d h.below h.fits in
    let high = h.greatest e k.below k.fits in
    omega (arith, low, high)

one_verdict_at : (f : Formula) (kind : Kind) (asked : ℕ) → VerdictIsOne → (v w : Verdict) → IsBatchVerdict f kind asked v
    → IsBatchVerdict f kind asked w → v ≡ w
one_verdict_at f kind asked one v w h k =
    one f kind h.limit v w h.decided (subst (λ d. IsVerdict f kind d w) (one_limit f kind asked k.limit h.limit k.limited h.limited) k.decided)

one_comes : (kind : Kind) (asked : ℕ) (line : List ℕ) → Below → (a b : LineOutcome) → Comes kind asked line a → Comes kind asked line b → a ≡ b
one_comes kind asked line laws a b (inl (x, e, h)) (inl (y, e', k)) = e ∙ ap refusal_of (laws.one_fault line x y h k) ∙ sym e'
one_comes kind asked line laws a b (inl (x, e, h)) (inr (w, e', d)) = absurd (laws.not_both line x d.0 h d.1)
one_comes kind asked line laws a b (inr (v, e, d)) (inl (y, e', k)) = absurd (laws.not_both line y d.0 k d.1)
one_comes kind asked line laws a b (inr (v, e, d)) (inr (w, e', d')) =
    let same = laws.one_formula line d'.0 d.0 d'.1 d.1 in
    e ∙ ap shown (one_verdict_at d.0 kind asked laws.one_verdict v w d.2 (subst (λ f. IsBatchVerdict f kind asked w) same d'.2)) ∙ sym e'

-- ---- answers

same_answer : (a b : LineAnswer) → a.line ≡ b.line → a.outcome ≡ b.outcome → a ≡ b
same_answer a b line outcome = ap₂ (λ n o. record { line = n; outcome = o }) line outcome

answered_one : (kind : Kind) (asked : ℕ) → Below → (lines : List FormulaLine) (answers others : List LineAnswer) → AreAnswered kind asked lines answers
    → AreAnswered kind asked lines others → answers ≡ others
answered_one kind asked laws [] [] [] h k = refl
answered_one kind asked laws [] [] (b ∷ others) h k = absurd k
answered_one kind asked laws [] (a ∷ answers) others h k = absurd h
answered_one kind asked laws (l ∷ lines) [] others h k = absurd h
answered_one kind asked laws (l ∷ lines) (a ∷ answers) [] h k = absurd k
answered_one kind asked laws (l ∷ lines) (a ∷ answers) (b ∷ others) (n, h, more) (n', k, more') =
    ap₂ (λ v vs. v ∷ vs)
    (same_answer a b (n ∙ sym n')
    (one_comes kind asked l.bytes laws a.outcome b.outcome (comes kind asked l.bytes a.outcome h) (comes kind asked l.bytes b.outcome k)))
    (answered_one kind asked laws lines answers others more more')

pub answers_one : (kind : Kind) (asked : ℕ) (text : List ℕ) → Below → (answers others : List LineAnswer) → AreAnswers kind asked text answers
    → AreAnswers kind asked text others → answers ≡ others
answers_one kind asked text laws answers others h k =
    let cut = lines_one text k.found.0 h.found.0 k.found.1 h.found.1 in
    let same = k.found.2 ∙ ap (formula_lines 1) cut ∙ sym h.found.2 in
    answered_one kind asked laws h.lines answers others h.answered (subst (λ ls. AreAnswered kind asked ls others) same k.answered)
