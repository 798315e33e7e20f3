-- `depast`: which answer comes where, and what is promised of it.
use Rattle.std.specs.Prelude.{◌≡◌, ◌≤◌, ◌↔◌, ℕ, List, Option, Some, None, Ok, Err, IsTrue, Contains}
use Rattle.ltl_io.specs.Outside.{Grows}
use Rattle.ltl_syntax.specs.declared.node.Kind.{Kind}
use Rattle.ltl_syntax.specs.Formula.{Formula}
use Rattle.ltl_syntax.specs.Print.{text_of}
use Rattle.ltl_syntax.specs.Size.{formula_size}
use Rattle.ltl_parser.specs.Text.{ReadsText, IsAccepted}
use Rattle.ltl_word.specs.declared.trace.Trace.{Trace}
use Rattle.ltl_word.specs.Trace.{IsTrace, IsPosition}
use Rattle.ltl_word.specs.Holds.{Holds, Satisfies}
use Rattle.ltl_word.specs.Json.{IsReading}
use Rattle.ltl_word.specs.declared.json.TraceFault.TheVariants as trace_faults
use Rattle.ltl_run.specs.Laws.{IsSatisfiable}
use Rattle.lasso_eval.specs.Cells.{cells, max_cells, AreTooMany}
use Rattle.depast.specs.Depast.{depast, residue, axioms, letter_for}
use Rattle.depast.specs.Future.{IsFuture}
use Rattle.depast.specs.Lifting.{IsLifted, IsLowered}
use Rattle.depast.specs.Laws.{IsPart}
use Rattle.depast.specs.Removal.{IsTooLarge}
use Rattle.report.specs.declared.fault.Fault.{Fault}
use Rattle.report.specs.declared.fault.Fault.TheVariants as faults
use Rattle.report.specs.Texts.{depasted_text, lifted_text, ReadsBack}
use Rattle.report.specs.declared.status.Status.{Status}
use Rattle.report.specs.declared.status.Status.TheVariants as statuses
use Rattle.report.specs.Status.{has_read}
use Rattle.program_input.specs.Parts.{IsCut, HasNoSeparator}
use Rattle.program_input.specs.Taking.{AreLeft, IsTakenWhole}
use Rattle.black_top.specs.Answer.{Answer, refused, depasted, lifted}
use Rattle.program_input.specs.Reading.{RefusesPart}

-- the input is a formula part alone, or one with a second part behind a separator line
abbrev pub IsSplit : List ℕ → List ℕ → Option (List ℕ) → Type 0
IsSplit bytes part None = HasNoSeparator bytes × (part ≡ bytes)
IsSplit bytes part (Some second) = IsCut bytes part second

-- the answer to the text of a trace: the text is refused, the cells are too many, or the formula without past operators comes and a lifted trace.
-- It reads back
pub data IsRaised (f : Formula) (text : List ℕ) : Answer → Type 0 where
  not_json : IsReading text (Err trace_faults.NotJson) → IsRaised f text (refused faults.NotJson)
  not_trace : IsReading text (Err trace_faults.NotTrace) → IsRaised f text (refused faults.NotTrace)
  empty_loop : IsReading text (Err trace_faults.EmptyLoop) → IsRaised f text (refused faults.EmptyLoop)
  empty_states : IsReading text (Err trace_faults.EmptyStates) → IsRaised f text (refused faults.EmptyStates)
  many_cells : (t : Trace) (count : ℕ) → IsReading text (Ok t) → AreTooMany t f count → IsRaised f text (refused (faults.Cells count))
  raised : (t u : Trace) → IsReading text (Ok t) → cells t f ≤ max_cells → IsLifted f t u → ReadsBack u → IsRaised f text (lifted (depast f) u)

-- and without such a text the formula without past operators comes
abbrev pub IsShownBy : Formula → Option (List ℕ) → Answer → Type 0
IsShownBy f None answer = answer ≡ depasted (depast f)
IsShownBy f (Some text) answer = IsRaised f text answer

-- the answer to an accepted formula: it is too large without past operators, or it is shown
pub data IsWithout (f : Formula) (second : Option (List ℕ)) : Answer → Type 0 where
  too_large : (count : ℕ) → IsTooLarge f count → IsWithout f second (refused (faults.PastNodes count))
  small : (answer : Answer) → formula_size (depast f) ≤ 16384 → IsShownBy f second answer → IsWithout f second answer

-- the printed formula without past operators reads as itself: each new name is one of a formula
abbrev pub IsReadAgain : Formula → Type 0
IsReadAgain f = ReadsText (text_of (depast f)) (depast f)

-- the answer to a formula part, and to a second part where one is there
pub data IsPartAnswer (part : List ℕ) (second : Option (List ℕ)) : Answer → Type 0 where
  unread : (fault : Fault) → RefusesPart part fault → IsPartAnswer part second (refused fault)
  accepted : (f : Formula) (answer : Answer) → IsAccepted part f → IsReadAgain f → IsWithout f second answer → IsPartAnswer part second answer

-- the answer of `depast` to the input
abbrev pub IsDepasted : List ℕ → Answer → Type 0
IsDepasted bytes answer = (part : List ℕ) × (second : Option (List ℕ)) × IsSplit bytes part second × IsPartAnswer part second answer

-- what holds of a formula and the one without past operators: no past operator is left, the one has a trace of a kind exactly where the
-- other has, and without the new names a trace that satisfies the other satisfies the formula
pub record IsSound (f : Formula) : Type 0 where
  pub future : IsFuture (depast f)
  pub same : (kind : Kind) → IsSatisfiable f kind ↔ IsSatisfiable (depast f) kind
  pub back : (u t : Trace) → IsTrace u → IsLowered f u t → Satisfies u (depast f) → Satisfies t f

-- what holds of a trace and a lifted one: the residue of each part of the formula holds where the part does, and each axiom holds. So
-- where the trace satisfies the formula, the lifted one satisfies the formula without past operators
pub record KeepsTruth (f : Formula) (t u : Trace) : Type 0 where
  pub residues : (g : Formula) (number i : ℕ) → IsPart f 0 g number → IsPosition t i → Holds u (residue (letter_for f) number g) i ↔ Holds t g i
  pub each_axiom : (x : Formula) → Contains (axioms (letter_for f) 0 f) x → Satisfies u x
  pub satisfies : Satisfies t f → Satisfies u (depast f)

-- the formula without past operators was printed, and on the next line the lifted trace of the one that was read
pub record PrintsLifted (f : Formula) (text : List ℕ) (before after : Option (List ℕ)) : Type 0 where
  pub given : Trace
  pub read : IsReading text (Ok given)
  pub shown : Trace
  pub is : IsLifted f given shown
  pub reads : ReadsBack shown
  pub kept : KeepsTruth f given shown
  pub printed : Grows (lifted_text (text_of (depast f)) shown) before after

-- the formula without past operators was printed, with a lifted trace where a trace was read
abbrev pub Prints : Formula → Option (List ℕ) → Option (List ℕ) → Option (List ℕ) → Type 0
Prints f None before after = Grows (depasted_text (text_of (depast f))) before after
Prints f (Some text) before after = PrintsLifted f text before after

-- it was so, the formula without past operators is as good as the formula, and its line reads as it
pub record PrintsWithoutPast (f : Formula) (second before after : Option (List ℕ)) : Type 0 where
  pub sound : IsSound f
  pub reads : IsReadAgain f
  pub prints : Prints f second before after

-- what is claimed of the accepted formula, and of the second part that the source had left behind it
pub record OfFormula (rest : Option (List ℕ)) (Claim : Formula → Option (List ℕ) → Type 0) : Type 0 where
  pub bytes : List ℕ
  pub left : AreLeft rest bytes
  pub part : List ℕ
  pub second : Option (List ℕ)
  pub split : IsSplit bytes part second
  pub formula : Formula
  pub accepted : IsAccepted part formula
  pub claim : Claim formula second

-- what `depast` promises of a call: of the rest of the source and the content of the sink, before and after, and of its status
pub record DepastPromise (rest left before after : Option (List ℕ)) (status : Status) : Type 0 where
  -- the status 0 comes only with the formula without past operators, and with the lifted trace of a trace
  pub when_good : status ≡ statuses.Good → OfFormula rest (λ f second. PrintsWithoutPast f second before after)
  -- nothing is left of the source
  pub taken : IsTrue (has_read status) → IsTakenWhole rest left
