-- The text of a batch, and whether all that it says are verdicts.
use Rattle.std.specs.Prelude.{ℕ, Bool, true, false, List, [], ◌∷◌, ◌++◌, codes}
use Rattle.std.specs.Fmt.{decimal}
use Rattle.std.specs.List.{list_all}
use Rattle.batch_run.specs.declared.answer.LineOutcome.{LineOutcome}
use Rattle.batch_run.specs.declared.answer.LineOutcome.TheVariants as outcomes
use Rattle.batch_run.specs.declared.answer.LineAnswer.{LineAnswer}

-- some words and a number, in decimal
abbrev pub worded : List ℕ → ℕ → List ℕ
worded words n = words ++ decimal n

-- what is said of a formula
abbrev pub outcome_text : LineOutcome → List ℕ
outcome_text (outcomes.Sat k) = worded (codes "SAT ") k
outcome_text (outcomes.Unsat k) = worded (codes "UNSAT ") k
outcome_text (outcomes.Undecided d) = worded (codes "UNDECIDED ") d
outcome_text outcomes.Text = codes "limit text 1048576"
outcome_text (outcomes.Lexical byte) = worded (codes "lexical fault at byte ") byte
outcome_text (outcomes.Grammar byte) = worded (codes "grammar fault at byte ") byte
outcome_text (outcomes.Nodes count) = worded (codes "limit nodes 16384 have ") count

-- the number of the line, one space, what is said, and a newline
abbrev pub answer_text : LineAnswer → List ℕ
answer_text a = decimal a.line ++ codes " " ++ outcome_text a.outcome ++ 10 ∷ []

-- the text of each answer, one after another
abbrev pub batch_text : List LineAnswer → List ℕ
batch_text [] = []
batch_text (a ∷ later) = answer_text a ++ batch_text later

-- whether it is a verdict
abbrev pub is_verdict : LineOutcome → Bool
is_verdict (outcomes.Sat k) = true
is_verdict (outcomes.Unsat k) = true
is_verdict (outcomes.Undecided d) = true
is_verdict outcomes.Text = false
is_verdict (outcomes.Lexical byte) = false
is_verdict (outcomes.Grammar byte) = false
is_verdict (outcomes.Nodes count) = false

-- whether each answer is a verdict
abbrev pub is_clean : List LineAnswer → Bool
is_clean answers = list_all (λ a. is_verdict a.outcome) answers
