-- The table of counts.
use Rattle.std.specs.Prelude.{ℕ, ◌==◌, if◌then◌else◌, List, [], ◌++◌, codes}
use Rattle.requirement_answers.specs.declared.counting.Tally.{Tally}
use Rattle.requirement_answers.specs.declared.counting.Counts.{Counts}
use Rattle.requirement_report.specs.Lines.{of_all}

abbrev pub row : List ℕ → Tally → List ℕ
row words t = codes "<tr><td>" ++ (words ++ (codes "</td><td>" ++ (of_all t.good t.all ++ codes "</td></tr>\n")))

-- a question that was not asked is not counted
abbrev pub row_if : List ℕ → Tally → List ℕ
row_if words t = if t.all == 0 then [] else row words t

abbrev pub later_rows : Counts → List ℕ
later_rows c = row_if (codes "possible") c.possible ++ (row_if (codes "follows") c.follows ++ row_if (codes "keeps all") c.keeps)

abbrev pub rows : Counts → List ℕ
rows c = row (codes "met together") c.met ++ (row_if (codes "triggered") c.triggered ++ (row_if (codes "says something new") c.new ++ later_rows c))

abbrev pub table : Counts → List ℕ
table c = codes "<table class=\"counts\">\n" ++ (rows c ++ codes "</table>\n")
