-- The table of the commands, of the calls of the second program, and of their options. The usage lines show it, and words are judged by it.
use Rattle.std.specs.Prelude.{ℕ, Bool, List, [], ◌∷◌, codes, Option, Some, None, bytes_eq}
use Rattle.std.specs.List.{list_any}
use Rattle.command_words.specs.declared.table.Range.{Range}
use Rattle.command_words.specs.declared.table.OptionName.{OptionName}
use Rattle.command_words.specs.declared.table.OptionName.TheVariants as names
use Rattle.command_words.specs.declared.table.CommandName.{CommandName}
use Rattle.command_words.specs.declared.table.CommandName.TheVariants as commands
use Rattle.command_words.specs.declared.table.Offering.{Offering}
use Rattle.command_words.specs.declared.table.Offering.TheVariants as offerings

-- an option: its word, and its number where it has one
pub record OptionRow : Type 0 where
  pub word : List ℕ
  pub number : Option Range

-- how far the source is read: not at all, until more than a number of bytes were taken, or to its end
pub data Extent : Type 0 where
  Nothing : Extent
  UpTo : ℕ → Extent
  Whole : Extent

-- after how many bytes a source that is read so far is read no further: no more than 18446744073709551615 are ever there
abbrev pub stop_of : Extent → Option ℕ
stop_of Nothing = None
stop_of (UpTo most) = Some most
stop_of Whole = Some 18446744073709551615

-- a command: its word, its options, its number where it has one, and how far it reads the source
pub record CommandRow : Type 0 where
  pub word : List ℕ
  pub options : List OptionName
  pub number : Option Range
  pub reads : Extent

-- the row of each option. --finite asks about finite traces, --depth is the greatest depth that is gone through, --cert asks for a
-- certificate, --core for a core, --workers says how many workers there are, --check asks whether a certificate is one, --steps says how many
-- steps there are, and --progress asks for notes of what is done
abbrev pub option_row : OptionName → OptionRow
option_row names.Finite = record { word = codes "--finite"; number = None }
option_row names.Depth = record { word = codes "--depth"; number = Some (record { digits = 4; low = 0; high = 1000 }) }
option_row names.Cert = record { word = codes "--cert"; number = None }
option_row names.Core = record { word = codes "--core"; number = None }
option_row names.Workers = record { word = codes "--workers"; number = Some (record { digits = 2; low = 1; high = 16 }) }
option_row names.Check = record { word = codes "--check"; number = None }
option_row names.Steps = record { word = codes "--steps"; number = Some (record { digits = 9; low = 1; high = 999999999 }) }
option_row names.Progress = record { word = codes "--progress"; number = None }

-- the word of an option
abbrev pub option_word : OptionName → List ℕ
option_word option = (option_row option).word

-- the options, in the order in which `clap` is told of them
abbrev pub all_options : List OptionName
all_options = names.Finite ∷ names.Depth ∷ names.Cert ∷ names.Core ∷ names.Workers ∷ names.Check ∷ names.Steps ∷ names.Progress ∷ []

-- whether a formula has a trace. Behind 1,048,576 bytes a text is known to be too long
abbrev pub solve_command : CommandRow
solve_command = record {
  word = codes "solve";
  options = names.Finite ∷ names.Depth ∷ names.Cert ∷ names.Core ∷ names.Workers ∷ [];
  number = None;
  reads = UpTo 1048576;
}

-- whether a certificate is one
abbrev pub check_command : CommandRow
check_command = record {
  word = codes "check";
  options = names.Finite ∷ names.Workers ∷ [];
  number = None;
  reads = Whole;
}

-- whether a formula holds on a trace
abbrev pub trace_command : CommandRow
trace_command = record { word = codes "trace"; options = []; number = None; reads = Whole }

-- what comes of a formula of the program's own, by its size
abbrev pub demo_command : CommandRow
demo_command = record {
  word = codes "demo";
  options = [];
  number = Some (record { digits = 2; low = 2; high = 64 });
  reads = Nothing;
}

-- what each line of a text is, as a formula
abbrev pub batch_command : CommandRow
batch_command = record {
  word = codes "batch";
  options = names.Finite ∷ names.Depth ∷ names.Workers ∷ [];
  number = None;
  reads = UpTo 16777216;
}

-- whether each path of a system satisfies a formula
abbrev pub system_command : CommandRow
system_command = record {
  word = codes "system";
  options = names.Depth ∷ names.Cert ∷ [];
  number = None;
  reads = Whole;
}

-- where a formula about the past holds, state by state
abbrev pub monitor_command : CommandRow
monitor_command = record { word = codes "monitor"; options = []; number = None; reads = Whole }

-- a formula without operators of the past
abbrev pub depast_command : CommandRow
depast_command = record { word = codes "depast"; options = []; number = None; reads = Whole }

-- the row of each command
abbrev pub command_row : CommandName → CommandRow
command_row commands.Solve = solve_command
command_row commands.Check = check_command
command_row commands.Trace = trace_command
command_row commands.Demo = demo_command
command_row commands.Batch = batch_command
command_row commands.System = system_command
command_row commands.Monitor = monitor_command
command_row commands.Depast = depast_command

-- the commands, in the order in which they are shown
abbrev pub all_commands : List CommandName
all_commands = commands.Solve ∷ commands.Check ∷ commands.Trace ∷ commands.Demo ∷ commands.Batch ∷ commands.System ∷ commands.Monitor ∷ commands.Depast ∷ []

-- what the second program takes where it refutes a formula
abbrev pub refute_row : List OptionName
refute_row = names.Finite ∷ names.Cert ∷ names.Steps ∷ names.Progress ∷ []

-- what may stand beside --check
abbrev pub beside_check : List OptionName
beside_check = names.Finite ∷ []

-- what the second program takes where it judges a certificate
abbrev pub verify_row : List OptionName
verify_row = names.Check ∷ beside_check

-- the options of a command, or of a call of the second program
abbrev pub offers_of : Offering → List OptionName
offers_of (offerings.Command name) = (command_row name).options
offers_of offerings.Refute = refute_row
offers_of offerings.Verify = verify_row

-- whether two options are one: their words are
abbrev pub same_option : OptionName → OptionName → Bool
same_option a b = bytes_eq (option_word a) (option_word b)

-- whether the option is offered
abbrev pub has_option : List OptionName → OptionName → Bool
has_option offers option = list_any (λ offer. same_option offer option) offers
