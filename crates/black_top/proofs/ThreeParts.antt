-- An input of three parts: it is cut in one way, and how long its parts are.
use Rattle.std.proofs.Common.{◌≡◌, ◌∙◌, ℕ, ◌+◌, ◌≤◌, inl, inr, List, [], ◌∷◌, ◌++◌, length, sym, ap, subst, arith, length-append}
use Rattle.program_input.specs.Parts.{IsSeparator, EndsLine, BeginsLine, IsCut, HasNoSeparator}
use Rattle.black_top.specs.System.{AreParts, HasFewSeparators, part_bytes}
use Rattle.black_top.specs.SystemInner.{AreCut}
use Rattle.black_top.specs.declared.parts.ThreeParts.{ThreeParts as Three}
use Rattle.program_input.proofs.Cutting.{cut_one, cut_or_none}

-- ---- lengths

separator_length : (line : List ℕ) → IsSeparator line → (3 ≤ length line) × (length line ≤ 4)
separator_length line (inl e) = let k = ap length e in (omega (arith, k), omega (arith, k))
separator_length line (inr e) = let k = ap length e in (omega (arith, k), omega (arith, k))

before_length : (before text : List ℕ) → EndsLine before text → (length text ≤ length before) × (length before ≤ length text + 1)
before_length before text (inl (e, f)) = let k = ap length e in let l = ap length f in (omega (arith, k, l), omega (arith, k, l))
before_length before text (inr e) = let k = ap length e ∙ length-append text (10 ∷ []) in (omega (arith, k), omega (arith, k))

after_length : (after text : List ℕ) → BeginsLine after text → (length text ≤ length after) × (length after ≤ length text + 1)
after_length after text (inl (e, f)) = let k = ap length e in let l = ap length f in (omega (arith, k, l), omega (arith, k, l))
after_length after text (inr e) = let k = ap length e ∙ length-append (10 ∷ []) text in (omega (arith, k), omega (arith, k))

-- a cut leaves out a few bytes
pub cut_length : (bytes part second : List ℕ) → IsCut bytes part second
    → (length part + length second + 3 ≤ length bytes) × (length bytes ≤ length part + length second + 6)
cut_length bytes part second h =
    let whole = ap length h.whole ∙ length-append (h.before ++ h.line) h.after in
    let front = length-append h.before h.line in
    let l = separator_length h.line h.separator in
    let b = before_length h.before part h.begins in
    let a = after_length h.after second h.ends in
    (omega (arith, whole, front, l.0, b.0, a.0), omega (arith, whole, front, l.1, b.1, a.1))

pub parts_length : (bytes : List ℕ) (parts : Three) → AreCut bytes parts
    → (part_bytes parts.start.now parts.step.now parts.goal.now ≤ length bytes) × (length bytes ≤ part_bytes parts.start.now parts.step.now parts.goal.now + 12)
parts_length bytes parts h =
    let one = cut_length bytes parts.start.now h.behind h.first in
    let two = cut_length h.behind parts.step.now parts.goal.now h.second in
    (omega (arith, one.0, two.0), omega (arith, one.1, two.1))

-- ---- one cut

-- the parts, and what stands behind the first separator, are one
pub record AreSame (bytes start step goal start' step' goal' : List ℕ) (p : AreParts bytes start step goal)
    (q : AreParts bytes start' step' goal') : Type 0 where
  pub behind : p.behind ≡ q.behind
  pub start_same : start ≡ start'
  pub step_same : step ≡ step'
  pub goal_same : goal ≡ goal'

pub same_parts : (bytes start step goal start' step' goal' : List ℕ) (p : AreParts bytes start step goal) (q : AreParts bytes start' step' goal')
    → AreSame bytes start step goal start' step' goal' p q
same_parts bytes start step goal start' step' goal' p q =
    let one = cut_one bytes start p.behind start' q.behind p.first q.first in
    let two = cut_one p.behind step goal step' goal' p.second (subst (λ b. IsCut b step' goal') (sym one.1) q.second) in
    record { behind = one.1; start_same = one.0; step_same = two.0; goal_same = two.1 }

pub parts_or_few : (bytes start step goal : List ℕ) → AreParts bytes start step goal → HasFewSeparators bytes → ⊥
parts_or_few bytes start step goal p (inl none) = cut_or_none bytes start p.behind p.first none
parts_or_few bytes start step goal p (inr (start', behind, cut, none)) =
    let one = cut_one bytes start p.behind start' behind p.first cut in
    cut_or_none p.behind step goal p.second (subst HasNoSeparator (sym one.1) none)
