-- What holds of a report while it is made.
use Rattle.std.specs.Prelude.{◌≡◌, ℕ, ◌<◌, List, [], ◌∷◌, ◌++◌, map, length, slice_index, All, Contains, Bool, if◌then◌else◌, ⊤, Result, Ok, Err, IsOk}
use Rattle.std.specs.Global.{Vec, Box}
use Rattle.std.specs.declared.alloc.AllocError.{AllocError}
use Rattle.std.specs.List.{flat_map}
use Rattle.std.specs.List.Sorted.{IsStrictlyIncreasing}
use Rattle.ltl_syntax.specs.Table.{tree_at}
use Rattle.lasso_eval.specs.Cells.{cells, max_cells}
use Rattle.ltl_word.specs.declared.trace.Trace.{Trace}
use Rattle.requirement_questions.specs.declared.members.Member.{Member}
use Rattle.requirement_questions.specs.declared.leaving.Because.{Because}
use Rattle.requirement_questions.specs.Formulas.{all_of}
use Rattle.requirement_questions.specs.Members.{places}
use Rattle.requirement_document.specs.Values.{DocumentValue}
use Rattle.requirement_answers.specs.declared.asking.Asking.{Asking}
use Rattle.requirement_answers.specs.declared.asking.Asking.TheVariants as askings
use Rattle.requirement_answers.specs.declared.asking.Reply.{Reply}
use Rattle.requirement_answers.specs.declared.findings.Scope.{Scope}
use Rattle.requirement_answers.specs.declared.findings.Check.{Check}
use Rattle.requirement_answers.specs.Asking.{covers_item, asks_about}
use Rattle.requirement_answers.specs.declared.conflicts.Met.{Met}
use Rattle.requirement_answers.specs.declared.conflicts.Met.TheVariants as mets
use Rattle.requirement_answers.specs.declared.conflicts.Together.{Together}
use Rattle.requirement_answers.specs.declared.findings.Break.{Break}
use Rattle.requirement_answers.specs.declared.findings.ReportRefused.{ReportRefused}
use Rattle.requirement_answers.specs.declared.findings.ReportRefused.TheVariants as refusals
use Rattle.requirement_answers.specs.Items.{formula_of, formulas_of, given_numbers}
use Rattle.requirement_answers.specs.Answers.{IsAnswerTo, IsReply, IsReason, AreConflicts, IsOpen}
use Rattle.requirement_answers.specs.Checks.{trace_of, IsFinding, AreFindings, IsCheckAgainst}

-- a number, where it is one of those that pass
abbrev pub alone_if : Bool → ℕ → List ℕ
alone_if b n = if b then n ∷ [] else []

-- numbers of items, ascending
pub record AreItems (d : DocumentValue) (numbers : List ℕ) : Type 0 where
  pub inside : All (λ n. n < length d.items) numbers
  pub ascend : IsStrictlyIncreasing numbers

-- the item that is asked about is there
abbrev pub IsAbout : DocumentValue → Asking → Type 0
IsAbout d askings.Together = ⊤
IsAbout d (askings.Triggered n) = n < length d.items
IsAbout d (askings.New n) = n < length d.items
IsAbout d (askings.Possible n) = n < length d.items
IsAbout d (askings.Follows n) = n < length d.items

-- a member by the number of the item at its place
abbrev pub renumbered : List ℕ → Member → Member
renumbered numbers m = record { given = slice_index numbers m.given; needed = m.needed }

pub record IsRenumbered (numbers : List ℕ) (before after : Because) : Type 0 where
  pub members : after.members.items ≡ map (renumbered numbers) before.members.items
  pub certificate : after.certificate ≡ before.certificate
  pub table : after.table ≡ before.table
  pub root : after.root ≡ before.root

-- what is left can be met together or that is open, or this is a conflict
abbrev pub IsMet : DocumentValue → List ℕ → Met → Type 0
IsMet d left (mets.Open a) = IsAnswerTo d left [] a × IsOpen a
IsMet d left (mets.Conflict b) = IsReason d left [] b.value × (0 < length b.value.members.items)

pub record IsTogether (d : DocumentValue) (m : Together) : Type 0 where
  pub items : AreItems d m.left.items
  pub conflicts : AreConflicts d (given_numbers d) m.conflicts.items m.left.items
  pub answer : IsAnswerTo d m.left.items [] m.answer
  pub settled : IsOpen m.answer

-- the breaks are those before, and what is found of the item
abbrev pub IsLooked : DocumentValue → Trace → ℕ → List Break → List Break → Type 0
IsLooked d t n before after = (first : List Break) × (after ≡ before ++ first) × IsFinding d t n first

-- the table of values of this item on this behaviour would have too many cells
abbrev pub IsRefusedAt : DocumentValue → ℕ → ℕ → ReportRefused → Type 0
IsRefusedAt d b n (refusals.Cells at item) = (at ≡ b) × (item ≡ n) × (max_cells < cells (trace_of d b) (formula_of d n))
IsRefusedAt d b n refusals.NoMemory = ⊤

-- that of one of these items
abbrev pub IsRefusedFor : DocumentValue → ℕ → List ℕ → ReportRefused → Type 0
IsRefusedFor d b given (refusals.Cells at item) = (at ≡ b) × Contains given item × (max_cells < cells (trace_of d b) (formula_of d item))
IsRefusedFor d b given refusals.NoMemory = ⊤

-- the questions about an item, where the scope covers it
abbrev pub asks_covered : DocumentValue → Scope → List ℕ → ℕ → List Asking
asks_covered d scope left n = if covers_item scope n then asks_about d left n else []

-- the answers to these questions in their order
pub record AreReplies (d : DocumentValue) (left : List ℕ) (asks : List Asking) (replies : List Reply) : Type 0 where
  pub asked : map (λ r. r.asking) replies ≡ asks
  pub answered : All (IsReply d left) replies

-- the formula says that the members of a conflict hold
pub record SaysMembers (d : DocumentValue) (b : Box Because) : Type 0 where
  pub there : b.value.root < length b.value.table.nodes
  pub formula : tree_at b.value.table b.value.root ≡ all_of (formulas_of d (places b.value.members.items))

-- the answers of a piece of the questions, where there was memory for them
abbrev pub of_piece : Result (Vec Reply) AllocError → List Reply
of_piece (Ok v) = v.items
of_piece (Err e) = []

-- the answers of all pieces, one piece after the other
pub record AreJoined (pieces : List (Result (Vec Reply) AllocError)) (found : List Reply) : Type 0 where
  pub whole : All IsOk pieces
  pub joined : found ≡ flat_map of_piece pieces

-- the checks of these behaviours against these items
pub record AreChecks (d : DocumentValue) (numbers behaviours : List ℕ) (checks : List Check) : Type 0 where
  pub recorded : map (λ c. c.behaviour) checks ≡ behaviours
  pub checked : All (IsCheckAgainst d numbers) checks

pub record IsCheckOf (d : DocumentValue) (numbers : List ℕ) (b : ℕ) (c : Check) : Type 0 where
  pub behaviour : c.behaviour ≡ b
  pub found : AreFindings d (trace_of d b) numbers c.breaks.items
