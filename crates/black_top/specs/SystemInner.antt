-- What the private calls of `system` give. No public contract cites this file.
use Rattle.std.specs.Prelude.{◌≡◌, ◌+◌, ◌-◌, ◌<◌, ◌≤◌, ℕ, List, length, Option, Some, None}
use Rattle.ltl_syntax.specs.Formula.{Formula}
use Rattle.ltl_syntax.specs.Size.{formula_size}
use Rattle.ltl_syntax.specs.Table.{tree_at}
use Rattle.ltl_parser.specs.Text.{ReadsText}
use Rattle.report.specs.declared.fault.Fault.{Fault}
use Rattle.report.specs.declared.fault.Fault.TheVariants as faults
use Rattle.black_top.specs.declared.parts.ThreeParts.{ThreeParts}
use Rattle.black_top.specs.declared.commands.system.TableRoot.{TableRoot}
use Rattle.black_top.specs.declared.commands.system.ReadPart.{ReadPart}
use Rattle.black_top.specs.declared.commands.system.PartRead.{PartRead}
use Rattle.black_top.specs.declared.commands.system.PartRead.TheVariants as reads
use Rattle.program_input.specs.Parts.{IsCut}
use Rattle.black_top.specs.System.{IsFaulty}

-- the bytes are cut into these parts, and the step and the goal begin at these places
pub record AreCut (bytes : List ℕ) (parts : ThreeParts) : Type 0 where
  pub behind : List ℕ
  pub first : IsCut bytes parts.start.now behind
  pub second : IsCut behind parts.step.now parts.goal.now
  pub step_place : parts.step_place ≡ length bytes - length behind
  pub goal_place : parts.goal_place ≡ length bytes - length parts.goal.now

-- the places are those of an input whose parts are within their limit
pub record HasSmallPlaces (parts : ThreeParts) : Type 0 where
  pub step : parts.step_place ≤ 1048590
  pub goal : parts.goal_place ≤ 1048590

-- the byte that a fault names, if it names one, is not behind the end of a text within its limit
abbrev pub HasSmallByte : Fault → Type 0
HasSmallByte (faults.Lexical byte) = byte ≤ 1048576
HasSmallByte (faults.Grammar byte) = byte ≤ 1048576
HasSmallByte fault = Unit {0}

-- what a part that begins at the place of an input and is refused is read as: a formula that is too large, or the fault with its byte
-- counted from the start of the input
abbrev pub refused_part : Fault → ℕ → PartRead
refused_part (faults.Nodes count) place = reads.Read (record { size = count; held = None })
refused_part (faults.Lexical byte) place = reads.Faulty (faults.Lexical (place + byte))
refused_part (faults.Grammar byte) place = reads.Faulty (faults.Grammar (place + byte))
refused_part fault place = reads.Faulty fault

-- a table holds the formula under a root, where it is within the limit of nodes, and else there is none
abbrev pub IsHeld : Formula → Option TableRoot → Type 0
IsHeld f None = 16384 < formula_size f
IsHeld f (Some held) = (held.root < length held.table.nodes) × (tree_at held.table held.root ≡ f)

-- the part is the formula, with its size
pub record IsOfFormula (f : Formula) (part : ReadPart) : Type 0 where
  pub size : part.size ≡ formula_size f
  pub small : part.size ≤ 267386880
  pub held : IsHeld f part.held

-- the text reads as the formula of the part
abbrev pub IsRead : List ℕ → ReadPart → Type 0
IsRead text part = (f : Formula) × ReadsText text f × IsOfFormula f part

-- the text that begins at the place of an input reads as the formula of the part, or has a fault
abbrev pub IsPartRead : List ℕ → ℕ → PartRead → Type 0
IsPartRead text place (reads.Read part) = IsRead text part
IsPartRead text place (reads.Faulty fault) = IsFaulty text place fault
