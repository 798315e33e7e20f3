-- Words and bytes have an answer.
use Rattle.std.proofs.Common.{◌⊎◌, inl, inr, ℕ, ◌≤◌, List}
use Rattle.ltl_syntax.specs.declared.node.Kind.TheVariants as kinds
use Rattle.ltl_syntax.specs.Formula.{Formula}
use Rattle.ltl_syntax.specs.Print.{text_of as formula_text}
use Rattle.ltl_parser.specs.Text.{ReadsText, IsPrintable}
use Rattle.ltl_word.specs.Laws.{EachIsDecided, EachIsRead}
use Rattle.ltl_run.specs.Laws.{VerdictIsOne}
use Rattle.report.specs.declared.fault.Fault.TheVariants as faults
use Rattle.command_words.specs.Words.{Command, Solve, Check, Trace, Demo, Batch, System, Monitor, Depast, Asks, kind_of, depth_of, core_of}
use Rattle.command_words.specs.Words.{cert_of}
use Rattle.black_top.specs.Answer.{Answer, refused, summary}
use Rattle.black_top.specs.Trace.{IsJudged}
use Rattle.black_top.specs.Check.{IsChecked}
use Rattle.black_top.specs.Monitor.{IsMonitored}
use Rattle.black_top.specs.Demo.{ring, summary_of, IsShown, shown}
use Rattle.black_top.specs.Run.{Answers, not_taken, taken}
use Rattle.black_top.specs.Laws.{AsksLong, AnswerIsThere}
use Rattle.black_top.proofs.RingFormula.{ring_accepted}
use Rattle.program_input.proofs.SomeParts.{EachHasOutcome}
use Rattle.black_top.proofs.Parted.{some_parted}
use Rattle.black_top.proofs.AskedDepth.{solve_shallow, system_shallow}
use Rattle.black_top.proofs.SomeWritten.{WritingLaws}
use Rattle.black_top.proofs.SomeSolved.{SearchLaws, some_solved, some_judged}
use Rattle.black_top.proofs.SomeSystem.{some_system}
use Rattle.black_top.proofs.SomeMonitored.{some_monitored}
use Rattle.black_top.proofs.SomeBatched.{some_batched}
use Rattle.black_top.proofs.SomeChecked.{CheckLaws, some_checked}
use Rattle.black_top.proofs.SomeDepasted.{LiftingLaws, some_depasted}

-- the laws below
pub record ExistenceLaws : Type 0 where
  pub words : (words : List (List ℕ)) → ((c : Command) × Asks words c) ⊎ ((c : Command) → ¬ (Asks words c))
  pub outcome : EachHasOutcome
  pub reads : (f : Formula) → IsPrintable f → ReadsText (formula_text f) f
  pub search : SearchLaws
  pub writing : WritingLaws
  pub one_verdict : VerdictIsOne
  pub trace : EachIsRead
  pub decides : EachIsDecided
  pub check : CheckLaws
  pub lifting : LiftingLaws

module _ (laws : ExistenceLaws) where
  -- ---- `demo`

  some_shown : (n : ℕ) → n ≤ 64 → (a : Answer) × IsShown n a
  some_shown n few =
      let read = ring_accepted n few laws.reads in
      let limit = laws.search.limit (ring n) kinds.Infinite 64 read.few in
      let v = laws.search.verdict (ring n) kinds.Infinite limit.0 in
      (summary (summary_of n v.0), shown limit.0 v.0 limit.1 v.1)

  number_few : (words : List (List ℕ)) (n : ℕ) → Asks words (Demo n) → n ≤ 64
  number_few words n (more, e, (digits, number, is)) = number.to

  -- ---- any command

  some_of : (words : List (List ℕ)) (bytes : List ℕ) (c : Command) → Asks words c → ((a : Answer) × Answers c bytes a) ⊎ AsksLong bytes c
  some_of words bytes (Solve settings) asks =
      some_solved laws.outcome laws.search laws.writing (kind_of settings) (depth_of settings) (core_of settings) (cert_of settings) bytes
      (solve_shallow words settings asks)
  some_of words bytes (Check settings) asks =
      inl (some_parted laws.outcome (IsChecked (kind_of settings)) (some_checked laws.check (kind_of settings)) bytes)
  some_of words bytes Trace asks = inl (some_parted laws.outcome IsJudged (some_judged laws.trace laws.decides) bytes)
  some_of words bytes (Demo n) asks = inl (some_shown n (number_few words n asks))
  some_of words bytes (Batch settings) asks = inl (some_batched laws.outcome laws.search.verdict (kind_of settings) (depth_of settings) bytes)
  some_of words bytes (System settings) asks =
      some_system laws.outcome laws.search laws.writing laws.one_verdict (depth_of settings) (cert_of settings) bytes (system_shallow words settings asks)
  some_of words bytes Monitor asks = inl (some_parted laws.outcome IsMonitored (some_monitored laws.decides) bytes)
  some_of words bytes Depast asks = inl (some_depasted laws.outcome laws.lifting bytes)

  pub answer_there : AnswerIsThere
  answer_there words bytes = elim (laws.words words) [
    | inr none ↦ inl (refused faults.Usage, not_taken none)
    | inl (c, asks) ↦ elim (some_of words bytes c asks) [ inl w ↦ inl (w.0, taken c w.0 asks w.1) | inr long ↦ inr (c, asks, long) ]
  ]
