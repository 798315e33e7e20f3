-- When a report about a document is right.
use Rattle.std.specs.Prelude.{◌≡◌, ℕ, ◌<◌, List, map, Contains, All, ⊤}
use Rattle.lasso_eval.specs.Cells.{cells, max_cells}
use Rattle.ltl_word.specs.Trace.{IsTrace}
use Rattle.requirement_document.specs.Values.{DocumentValue}
use Rattle.requirement_answers.specs.declared.asking.Asking.TheVariants as askings
use Rattle.requirement_answers.specs.declared.findings.Scope.{Scope}
use Rattle.requirement_answers.specs.declared.findings.Report.{Report}
use Rattle.requirement_answers.specs.declared.findings.ReportRefused.{ReportRefused}
use Rattle.requirement_answers.specs.declared.findings.ReportRefused.TheVariants as refusals
use Rattle.requirement_answers.specs.Items.{formula_of, given_numbers}
use Rattle.requirement_answers.specs.Asking.{questions_of}
use Rattle.requirement_answers.specs.Answers.{IsReply, AreConflicts, AreCores, IsOpen}
use Rattle.requirement_answers.specs.Checks.{trace_of, IsCheck, behaviours_of}

-- the conflicts, and what is left without them, of which it is not known that it cannot be met together; the answers to the further questions in their
-- order; and the check of each behaviour
pub record IsReport (d : DocumentValue) (scope : Scope) (r : Report) : Type 0 where
  pub conflicts : AreConflicts d (given_numbers d) r.conflicts.items r.left.items
  pub cores : AreCores d r.conflicts.items r.cores.items
  pub together : IsReply d r.left.items (record { asking = askings.Together; answer = r.together })
  pub settled : IsOpen r.together
  pub asked : map (λ p. p.asking) r.replies.items ≡ questions_of d scope r.left.items
  pub answered : All (IsReply d r.left.items) r.replies.items
  pub recorded : map (λ c. c.behaviour) r.checks.items ≡ behaviours_of d scope
  pub checked : All (IsCheck d) r.checks.items

-- the table of values of one of these items on one of these behaviours would have more cells than the limit
abbrev pub IsRefusedAmong : DocumentValue → List ℕ → List ℕ → ReportRefused → Type 0
IsRefusedAmong d behaviours numbers (refusals.Cells b n) = Contains behaviours b × Contains numbers n × (max_cells < cells (trace_of d b) (formula_of d n))
IsRefusedAmong d behaviours numbers refusals.NoMemory = ⊤

abbrev pub IsRefused : DocumentValue → Scope → ReportRefused → Type 0
IsRefused d scope r = IsRefusedAmong d (behaviours_of d scope) (given_numbers d) r

-- each behaviour has a state, and in its loop where it has one
abbrev pub RecordsTraces : DocumentValue → Type 0
RecordsTraces d = All (λ b. IsTrace b.trace) d.behaviours
