-- What is handed on of the words that are taken.
use Rattle.std.specs.Prelude.{◌≡◌, ◌≤◌, ℕ, List, Option, Some, None}
use Rattle.command_words.specs.declared.table.CommandName.{CommandName}
use Rattle.command_words.specs.declared.table.CommandName.TheVariants as commands
use Rattle.command_words.specs.declared.options.Options.{Options}
use Rattle.command_words.specs.declared.asked.Asked.{Asked}
use Rattle.command_words.specs.declared.asked.Asked.TheVariants as asked
use Rattle.command_words.specs.Table.{stop_of, command_row}
use Rattle.command_words.specs.Words.{Setting, Solve, Check, Trace, Demo, Batch, System, Monitor, Depast, Asks, kind_of, depth_of, cert_of, core_of, workers_of}
use Rattle.command_words.specs.Words.{check_of, steps_of, progress_of}

-- a depth that is asked for is at most 1,000
abbrev pub IsDepth : Option ℕ → Type 0
IsDepth None = Unit {0}
IsDepth (Some n) = n ≤ 1000

-- the workers that are asked for are from 1 to 16
abbrev pub AreWorkers : Option ℕ → Type 0
AreWorkers None = Unit {0}
AreWorkers (Some n) = (1 ≤ n) × (n ≤ 16)

-- the steps that are asked for are from 1 to 999,999,999
abbrev pub IsSteps : Option ℕ → Type 0
IsSteps None = Unit {0}
IsSteps (Some n) = (1 ≤ n) × (n ≤ 999999999)

-- the options are what the settings say
pub record AreOptions (settings : List Setting) (options : Options) : Type 0 where
  pub kind : options.kind ≡ kind_of settings
  pub depth : options.depth ≡ depth_of settings
  pub cert : options.cert ≡ cert_of settings
  pub core : options.core ≡ core_of settings
  pub workers : options.workers ≡ workers_of settings
  pub check : options.check ≡ check_of settings
  pub steps : options.steps ≡ steps_of settings
  pub progress : options.progress ≡ progress_of settings
  pub small : IsDepth options.depth
  pub few : AreWorkers options.workers
  pub counted : IsSteps options.steps

-- which command is asked for
abbrev pub name_asked : Asked → CommandName
name_asked (asked.Solve options) = commands.Solve
name_asked (asked.Check options) = commands.Check
name_asked asked.Trace = commands.Trace
name_asked (asked.Demo n) = commands.Demo
name_asked (asked.Batch options) = commands.Batch
name_asked (asked.System options) = commands.System
name_asked asked.Monitor = commands.Monitor
name_asked asked.Depast = commands.Depast

-- after how many bytes the command reads no further, where it reads
abbrev pub stop_after : Asked → Option ℕ
stop_after command = stop_of (command_row (name_asked command)).reads

-- the words ask for the command
abbrev pub IsAsked : List (List ℕ) → Asked → Type 0
IsAsked words (asked.Solve options) = (settings : List Setting) × Asks words (Solve settings) × AreOptions settings options
IsAsked words (asked.Check options) = (settings : List Setting) × Asks words (Check settings) × AreOptions settings options
IsAsked words asked.Trace = Asks words Trace
IsAsked words (asked.Demo n) = Asks words (Demo n)
IsAsked words (asked.Batch options) = (settings : List Setting) × Asks words (Batch settings) × AreOptions settings options
IsAsked words (asked.System options) = (settings : List Setting) × Asks words (System settings) × AreOptions settings options
IsAsked words asked.Monitor = Asks words Monitor
IsAsked words asked.Depast = Asks words Depast
