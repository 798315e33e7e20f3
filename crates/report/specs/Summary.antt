-- The text of the summary of a demo, line by line.
use Rattle.std.specs.Prelude.{ℕ, List, ◌++◌, codes}
use Rattle.report.specs.declared.summary.Shown.{Shown}
use Rattle.report.specs.declared.summary.Shown.TheVariants as verdicts
use Rattle.report.specs.declared.summary.Summary.{Summary}
use Rattle.report.specs.Texts.{numbered}

-- the verdict and its depth
abbrev pub shown_text : Shown → List ℕ
shown_text (verdicts.Sat k) = numbered (codes "SAT ") k
shown_text (verdicts.Unsat k) = numbered (codes "UNSAT ") k
shown_text (verdicts.Undecided k) = numbered (codes "UNDECIDED ") k

-- the number of the demo, the counts, and then the verdict
abbrev pub summary_text : Summary → List ℕ
summary_text s =
    numbered (codes "demo ") s.number
    ++ numbered (codes "nodes ") s.nodes
    ++ numbered (codes "entries ") s.entries
    ++ numbered (codes "letters ") s.letters
    ++ shown_text s.verdict
