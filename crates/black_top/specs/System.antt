-- `system`: which answer comes where, and what is promised of it.
use Rattle.std.specs.Prelude.{◌≡◌, ◌⊎◌, ◌+◌, ◌-◌, ◌<◌, ◌≤◌, ℕ, Bool, true, false, List, length, Option, Some, None, IsTrue}
use Rattle.ltl_io.specs.Outside.{Grows}
use Rattle.ltl_syntax.specs.declared.node.Kind.TheVariants as kinds
use Rattle.ltl_syntax.specs.Formula.{Formula}
use Rattle.ltl_syntax.specs.Print.{text_of as printed}
use Rattle.ltl_lexer.specs.Tokens.{IsLexicalFault}
use Rattle.ltl_parser.specs.Text.{ReadsText, IsGrammarFault}
use Rattle.ltl_word.specs.declared.trace.Trace.{Trace}
use Rattle.ltl_word.specs.Holds.{Satisfies}
use Rattle.ltl_word.specs.Propositional.{IsPropositional}
use Rattle.ltl_closure.specs.Run.{Sat, Unsat, Undecided, bound}
use Rattle.enc_layout.specs.Limit.{IsInForce}
use Rattle.unravel.specs.Decision.{IsTraceOfRun}
use Rattle.cert_check.specs.declared.verdict.Verdict.TheVariants as verdicts
use Rattle.cert_check.specs.Lawful.{IsLawfulAt}
use Rattle.system_check.specs.TwoStates.{IsStepForm}
use Rattle.system_check.specs.System.{IsSystem, IsPath, system_of, whole_of}
use Rattle.system_check.specs.Joining.{whole_size}
use Rattle.system_check.specs.Answer.{Says, IsNotRefuted}
use Rattle.report.specs.declared.fault.Fault.{Fault}
use Rattle.report.specs.declared.fault.Fault.TheVariants as faults
use Rattle.report.specs.Texts.{Proof, no_path_text, paths_hold_text, path_fails_text, undecided_text, ReadsBack}
use Rattle.command_words.specs.Words.{Setting, depth_of, cert_of}
use Rattle.report.specs.declared.status.Status.{Status}
use Rattle.report.specs.declared.status.Status.TheVariants as statuses
use Rattle.report.specs.Status.{has_read}
use Rattle.program_input.specs.Parts.{IsCut, HasNoSeparator}
use Rattle.program_input.specs.Taking.{AreLeft, IsTakenWhole}
use Rattle.black_top.specs.Answer.{Answer, refused, no_path, paths_hold, path_fails, undecided, status_of, text_of, checked}
use Rattle.black_top.specs.Reading.{IsParted}
use Rattle.black_top.specs.Solve.{number_of, IsReached, AreFewLetters, IsWritten}
use Rattle.black_top.specs.Check.{IsChecked, with_certificate}

-- ---- the three parts

-- the bytes are cut at their first separator line, and what stands behind it at its own first one
pub record AreParts (bytes start step goal : List ℕ) : Type 0 where
  pub behind : List ℕ
  pub first : IsCut bytes start behind
  pub second : IsCut behind step goal

-- fewer than two separator lines stand in the bytes
abbrev pub HasFewSeparators : List ℕ → Type 0
HasFewSeparators bytes = HasNoSeparator bytes ⊎ ((start behind : List ℕ) × IsCut bytes start behind × HasNoSeparator behind)

-- how many bytes the parts have
abbrev pub part_bytes : List ℕ → List ℕ → List ℕ → ℕ
part_bytes start step goal = length start + length step + length goal

-- the part has a lexical fault, or else a grammar fault. The byte is counted from the start of an input in which the part begins at the place
pub data IsFaulty (part : List ℕ) (place : ℕ) : Fault → Type 0 where
  lexical : (byte : ℕ) → IsLexicalFault part byte → IsFaulty part place (faults.Lexical (place + byte))
  grammar : (byte : ℕ) → IsGrammarFault part byte → IsFaulty part place (faults.Grammar (place + byte))

-- the fault is that of the first part that has one. What ends an input begins as many bytes before its end as it has
pub data HasFault (bytes behind start step goal : List ℕ) (fault : Fault) : Type 0 where
  in_start : IsFaulty start 0 fault → HasFault bytes behind start step goal fault
  in_step : (f : Formula) → ReadsText start f → IsFaulty step (length bytes - length behind) fault → HasFault bytes behind start step goal fault
  in_goal : (f g : Formula) → ReadsText start f → ReadsText step g → IsFaulty goal (length bytes - length goal) fault
      → HasFault bytes behind start step goal fault

-- ---- the answer

-- where a certificate is asked for, the whole formula is printed with one that is lawful, of the depth, and written of a log
abbrev pub ProvesWhole : Bool → Formula → ℕ → Option Proof → Type 0
ProvesWhole false whole k proof = proof ≡ None
ProvesWhole true whole k proof = (text : List ℕ) × (proof ≡ Some (record { formula = printed whole; certificate = text }))
    × IsLawfulAt whole kinds.Infinite k text × IsWritten whole kinds.Infinite k text

-- NO PATH where the system formula is refuted. Else HOLDS where the whole formula is refuted, FAILS where it has an accepted run, with a trace of the run
-- that reads back, and UNDECIDED where its verdict is so
pub data IsDecided (start step goal : Formula) (limit : ℕ) (cert : Bool) : Answer → Type 0 where
  pathless : (k : ℕ) → Says (system_of start step) limit (Unsat k) → IsDecided start step goal limit cert (no_path k)
  kept : (k : ℕ) (proof : Option Proof) → IsNotRefuted (system_of start step) limit → Says (whole_of start step goal) limit (Unsat k)
      → ProvesWhole cert (whole_of start step goal) k proof
      → IsDecided start step goal limit cert (paths_hold k proof)
  broken : (k : ℕ) (t : Trace) → IsNotRefuted (system_of start step) limit → Says (whole_of start step goal) limit (Sat k)
      → IsTraceOfRun (whole_of start step goal) kinds.Infinite k t
      → ReadsBack t → IsDecided start step goal limit cert (path_fails k t)
  undecided_yet : (d : ℕ) → IsNotRefuted (system_of start step) limit → Says (whole_of start step goal) limit (Undecided d)
      → IsDecided start step goal limit cert (undecided d)

-- the answer to three formulas: the whole formula is too large, the start or else the step misses its form, the depth that was asked for has too
-- many letters, or the answer at the limit in force of the whole formula
pub data IsSettled (wanted : Option ℕ) (cert : Bool) (start step goal : Formula) : Answer → Type 0 where
  too_large : 16384 < whole_size start step goal → IsSettled wanted cert start step goal (refused (faults.Nodes (whole_size start step goal)))
  no_start : whole_size start step goal ≤ 16384 → ¬ IsPropositional start → IsSettled wanted cert start step goal (refused faults.SystemStart)
  no_step : whole_size start step goal ≤ 16384 → IsPropositional start → ¬ IsStepForm step → IsSettled wanted cert start step goal (refused faults.SystemStep)
  too_deep : (n limit : ℕ) → whole_size start step goal ≤ 16384 → IsSystem start step → wanted ≡ Some n
      → IsInForce (whole_of start step goal) kinds.Infinite n limit → limit < n
      → IsSettled wanted cert start step goal (refused (faults.Letters limit))
  decided : (limit : ℕ) (answer : Answer) → whole_size start step goal ≤ 16384 → IsSystem start step
      → IsInForce (whole_of start step goal) kinds.Infinite (number_of wanted) limit → IsReached wanted limit
      → IsDecided start step goal limit cert answer → IsSettled wanted cert start step goal answer

-- the answer of `system` to the bytes: too few separators, too many bytes, the first fault, or that to the three formulas
pub data IsSystemAnswer (wanted : Option ℕ) (cert : Bool) (bytes : List ℕ) : Answer → Type 0 where
  unparted : HasFewSeparators bytes → IsSystemAnswer wanted cert bytes (refused faults.NoSeparator)
  too_long : (start step goal : List ℕ) → AreParts bytes start step goal → 1048576 < part_bytes start step goal
      → IsSystemAnswer wanted cert bytes (refused faults.Text)
  faulty : (start step goal : List ℕ) (fault : Fault) (parts : AreParts bytes start step goal)
      → part_bytes start step goal ≤ 1048576 → HasFault bytes parts.behind start step goal fault → IsSystemAnswer wanted cert bytes (refused fault)
  settled : (start step goal : List ℕ) (f g h : Formula) (answer : Answer) → AreParts bytes start step goal
      → part_bytes start step goal ≤ 1048576 → ReadsText start f → ReadsText step g → ReadsText goal h
      → IsSettled wanted cert f g h answer → IsSystemAnswer wanted cert bytes answer

-- ---- what is promised

-- HOLDS was printed, and each path satisfies the goal. Where a certificate is asked for, the whole formula is printed with one that is lawful and written
-- of a log, and `check` verifies it behind the printed formula, unless that is longer than a formula's text may be
pub record PrintsHolds (cert : Bool) (start step goal : Formula) (before after : Option (List ℕ)) : Type 0 where
  pub depth : ℕ
  pub proof : Option Proof
  pub each : (t : Trace) → IsPath start step t → Satisfies t goal
  pub proves : ProvesWhole cert (whole_of start step goal) depth proof
  pub verified : (shown : Proof) → proof ≡ Some shown
      → length shown.formula ≤ 1048576 → IsParted (IsChecked kinds.Infinite) (with_certificate shown.formula shown.certificate) (checked verdicts.Verified)
  pub shows : Grows (paths_hold_text depth proof) before after

-- FAILS was printed with a path that does not satisfy the goal, and what was printed reads back as that path
pub record PrintsFails (start step goal : Formula) (before after : Option (List ℕ)) : Type 0 where
  pub depth : ℕ
  pub trace : Trace
  pub path : IsPath start step trace
  pub fails : ¬ Satisfies trace goal
  pub reads : ReadsBack trace
  pub shows : Grows (path_fails_text depth trace) before after

-- NO PATH was printed, and no trace is a path
pub record PrintsNoPath (start step : Formula) (before after : Option (List ℕ)) : Type 0 where
  pub depth : ℕ
  pub none : (t : Trace) → ¬ IsPath start step t
  pub shows : Grows (no_path_text depth) before after

-- UNDECIDED was printed: so are the system and the goal at the limit in force of the whole formula, and that limit is below its bound
pub record PrintsUndecided (wanted : Option ℕ) (start step goal : Formula) (before after : Option (List ℕ)) : Type 0 where
  pub limit : ℕ
  pub in_force : IsInForce (whole_of start step goal) kinds.Infinite (number_of wanted) limit
  pub unrefuted : IsNotRefuted (system_of start step) limit
  pub verdict : Says (whole_of start step goal) limit (Undecided limit)
  pub below_bound : limit < bound (whole_of start step goal) kinds.Infinite
  pub shows : Grows (undecided_text limit) before after

-- the answer at the limit in force of the whole formula was printed, with its status
pub record PrintsAnswer (wanted : Option ℕ) (cert : Bool) (start step goal : Formula) (before after : Option (List ℕ)) (status : Status) : Type 0 where
  pub limit : ℕ
  pub in_force : IsInForce (whole_of start step goal) kinds.Infinite (number_of wanted) limit
  pub reached : IsReached wanted limit
  pub answer : Answer
  pub decided : IsDecided start step goal limit cert answer
  pub own : status ≡ status_of answer
  pub shows : Grows (text_of answer) before after

-- the bytes are three parts within their limit, which read as the formulas of a system and a goal within theirs
pub record AreSystem (bytes : List ℕ) (f g h : Formula) : Type 0 where
  pub start : List ℕ
  pub step : List ℕ
  pub goal : List ℕ
  pub parts : AreParts bytes start step goal
  pub short : part_bytes start step goal ≤ 1048576
  pub start_reads : ReadsText start f
  pub step_reads : ReadsText step g
  pub goal_reads : ReadsText goal h
  pub few : whole_size f g h ≤ 16384
  pub forms : IsSystem f g

-- what is claimed of the start, the step and the goal that the source had left
abbrev pub OfSystem : Option (List ℕ) → (Formula → Formula → Formula → Type 0) → Type 0
OfSystem rest Claim = (bytes : List ℕ) × AreLeft rest bytes × (f g h : Formula) × AreSystem bytes f g h × Claim f g h

-- what `system` promises of a call: of the rest of the source and the content of the sink, before and after, and of its status.
-- A call is quiet where neither count of faults rose
pub record SystemPromise (settings : List Setting) (IsQuiet : Type 0) (rest left before after : Option (List ℕ)) (status : Status) : Type 0 where
  -- HOLDS is printed only where each path satisfies the goal. With --cert the formula that shows it is printed, with a certificate
  pub when_holds : status ≡ statuses.Good → OfSystem rest (λ f g h. PrintsHolds (cert_of settings) f g h before after)
  -- FAILS is printed only with a path that does not satisfy the goal
  pub when_fails : status ≡ statuses.Negative → OfSystem rest (λ f g h. PrintsFails f g h before after)
  -- NO PATH is printed only where no trace is a path
  pub when_no_path : status ≡ statuses.Unsat → OfSystem rest (λ f g h. PrintsNoPath f g before after)
  -- UNDECIDED is printed only where neither is known at the limit in force of the whole formula, and never where that limit is at least its bound
  pub when_undecided : status ≡ statuses.Undecided → OfSystem rest (λ f g h. PrintsUndecided (depth_of settings) f g h before after)
  -- a system and a goal whose letters are few enough get their answer, or there was no memory
  pub verdict : (bytes : List ℕ) (f g h : Formula) → rest ≡ Some bytes → AreSystem bytes f g h
      → AreFewLetters kinds.Infinite (depth_of settings) (whole_of f g h) → IsQuiet
      → (status ≡ statuses.NoMemory) ⊎ PrintsAnswer (depth_of settings) (cert_of settings) f g h before after status
  -- nothing is left of the source
  pub taken : IsTrue (has_read status) → IsTakenWhole rest left
