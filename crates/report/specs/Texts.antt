-- The text of each answer, line by line.
use Rattle.std.specs.Prelude.{ℕ, Bool, true, false, List, [], ◌∷◌, ◌++◌, codes, Option, Some, None, Ok}
use Rattle.std.specs.Fmt.{decimal}
use Rattle.std.specs.List.{flat_map}
use Rattle.ltl_word.specs.declared.trace.Trace.{Trace}
use Rattle.ltl_word.specs.Json.{IsReading, trace_text}
use Rattle.cert_check.specs.declared.verdict.Verdict.{Verdict}
use Rattle.cert_check.specs.declared.verdict.Verdict.TheVariants as verdicts
use Rattle.cert_check.specs.declared.verdict.Reason.{Reason}
use Rattle.cert_check.specs.declared.verdict.Reason.TheVariants as reasons
use Rattle.command_words.specs.Usage.{usage_text}
use Rattle.report.specs.declared.fault.Fault.{Fault}
use Rattle.report.specs.declared.fault.Fault.TheVariants as faults

-- a printed formula, and the text of its certificate
pub record Proof : Type 0 where
  pub formula : List ℕ
  pub certificate : List ℕ

-- every line ends with one newline
abbrev pub line : List ℕ → List ℕ
line text = text ++ 10 ∷ []

-- a line that ends with a number, in decimal
abbrev pub numbered : List ℕ → ℕ → List ℕ
numbered text n = line (text ++ decimal n)

-- the text that is printed of the trace reads back as it, so the names of a state stand in it in ascending order, each once
abbrev pub ReadsBack : Trace → Type 0
ReadsBack t = IsReading (trace_text t) (Ok t)

-- SAT at a depth, with a trace
abbrev pub sat_text : ℕ → Trace → List ℕ
sat_text depth trace = numbered (codes "SAT ") depth ++ line (trace_text trace)

-- the line of a core, where one is given
abbrev pub core_text : Option (List ℕ) → List ℕ
core_text None = []
core_text (Some core) = line (codes "core " ++ core)

-- a certificate as it is, where one is given
abbrev pub certificate_text : Option (List ℕ) → List ℕ
certificate_text None = []
certificate_text (Some certificate) = certificate

-- UNSAT at a depth, with a core
abbrev pub unsat_lines : ℕ → Option (List ℕ) → List ℕ
unsat_lines depth core = numbered (codes "UNSAT ") depth ++ core_text core

-- the same with a certificate behind these lines
abbrev pub unsat_text : ℕ → Option (List ℕ) → Option (List ℕ) → List ℕ
unsat_text depth core certificate = unsat_lines depth core ++ certificate_text certificate

-- UNDECIDED up to a depth
abbrev pub undecided_text : ℕ → List ℕ
undecided_text depth = numbered (codes "UNDECIDED ") depth

-- NO PATH at a depth
abbrev pub no_path_text : ℕ → List ℕ
no_path_text depth = numbered (codes "NO PATH ") depth

-- HOLDS at a depth, with a formula
abbrev pub paths_hold_lines : ℕ → List ℕ → List ℕ
paths_hold_lines depth formula = numbered (codes "HOLDS ") depth ++ line (codes "formula " ++ formula)

-- HOLDS at a depth, and where they are given a formula, with its certificate behind these lines
abbrev pub paths_hold_text : ℕ → Option Proof → List ℕ
paths_hold_text depth None = numbered (codes "HOLDS ") depth
paths_hold_text depth (Some proof) = paths_hold_lines depth proof.formula ++ proof.certificate

-- FAILS at a depth, with a path
abbrev pub path_fails_text : ℕ → Trace → List ℕ
path_fails_text depth trace = numbered (codes "FAILS ") depth ++ line (trace_text trace)

-- whether a formula holds on a trace
abbrev pub traced_text : Bool → List ℕ
traced_text true = line (codes "HOLDS")
traced_text false = line (codes "FAILS")

-- whether a formula holds at a state
abbrev pub answer_text : Bool → List ℕ
answer_text true = line (codes "true")
answer_text false = line (codes "false")

-- the same for each of some states
abbrev pub answers_text : List Bool → List ℕ
answers_text answers = flat_map answer_text answers

-- a formula without past operators, and a trace with its new names on the next line
abbrev pub depasted_text : List ℕ → List ℕ
depasted_text formula = line formula

abbrev pub lifted_text : List ℕ → Trace → List ℕ
lifted_text formula trace = line formula ++ line (trace_text trace)

-- why a certificate is rejected
abbrev pub rejected_text : Reason → List ℕ
rejected_text reasons.Kind = line (codes "REJECTED kind")
rejected_text (reasons.Line number) = numbered (codes "REJECTED line ") number
rejected_text (reasons.Target number) = numbered (codes "REJECTED target ") number

-- whether a certificate is lawful
abbrev pub checked_text : Verdict → List ℕ
checked_text verdicts.Verified = line (codes "VERIFIED")
checked_text (verdicts.Rejected reason) = rejected_text reason

-- the line of each refusal
abbrev pub refused_text : Fault → List ℕ
refused_text faults.Usage = usage_text
refused_text faults.NoSeparator = line (codes "no separator line")
refused_text faults.Text = line (codes "limit text 1048576")
refused_text faults.Batch = line (codes "limit batch 16777216")
refused_text (faults.Lexical byte) = numbered (codes "lexical fault at byte ") byte
refused_text (faults.Grammar byte) = numbered (codes "grammar fault at byte ") byte
refused_text (faults.Nodes count) = numbered (codes "limit nodes 16384 have ") count
refused_text (faults.PastNodes count) = numbered (codes "limit depast nodes 16384 have ") count
refused_text (faults.Letters depth) = numbered (codes "limit letters 16777216 greatest depth ") depth
refused_text (faults.Cells count) = numbered (codes "limit cells 67108864 have ") count
refused_text faults.NotJson = line (codes "trace fault: not JSON")
refused_text faults.NotTrace = line (codes "trace fault: not a trace")
refused_text faults.EmptyLoop = line (codes "trace fault: loop is empty")
refused_text faults.EmptyStates = line (codes "trace fault: states is empty")
refused_text faults.SystemStart = line (codes "system fault in start")
refused_text faults.SystemStep = line (codes "system fault in step")
refused_text faults.LooksAhead = line (codes "monitor fault: future operator")
refused_text (faults.State number) = numbered (codes "state fault at line ") number
refused_text (faults.Certificate byte) = numbered (codes "certificate fault at byte ") byte
