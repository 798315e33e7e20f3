use Rattle.std.proofs.Common.{◌≡◌, None, length}
use Rattle.cert_text.specs.Live.{IsGoodLine}
use Rattle.log_checker.specs.Values.{letters_in}
use Rattle.log_checker.specs.Judging.{IsFirstBad}
use Rattle.log_checker.proofs.worker.first_bad.Given as goal

abbrev pub invariant-lines : goal.invariant-lines
invariant-lines g l = (length l.assignment ≡ length l.fn.assignment)
    × IsFirstBad (IsGoodLine (g.C.NamedClauses.clauses l.clauses) (letters_in l.fn.assignment) l.view.parts) l.from l.index None
