-- What the private calls on words give. No public contract cites this file.
use Rattle.std.specs.Prelude.{◌≡◌, ◌||◌, ℕ, Bool, List, [], ◌∷◌, ◌++◌, Option, Some, None}
use Rattle.command_words.specs.declared.table.Range.{Range}
use Rattle.command_words.specs.declared.table.OptionName.{OptionName}
use Rattle.command_words.specs.declared.table.OptionName.TheVariants as names
use Rattle.command_words.specs.declared.table.CommandName.{CommandName}
use Rattle.command_words.specs.declared.options.Options.{Options}
use Rattle.command_words.specs.declared.options.Seen.{Seen}
use Rattle.command_words.specs.declared.asked.Asked.{Asked}
use Rattle.command_words.specs.declared.asked.Asked.TheVariants as asked
use Rattle.command_words.specs.Table.{CommandRow, option_row, option_word, same_option, solve_command, check_command, demo_command, batch_command}
use Rattle.command_words.specs.Table.{system_command}
use Rattle.command_words.specs.Words.{Setting, Command, IsNumberIn, IsNumberOf, Says, SayAll, Once, SaySettings, SayNumber, name_of, Follow}
use Rattle.command_words.specs.Asked.{AreOptions, name_asked}

-- ---- settings

-- the words say these settings, each once
abbrev pub SayOnce : List Setting → List (List ℕ) → Type 0
SayOnce settings words = SayAll settings words × Once settings

-- the words are settings of options that are offered, whichever
abbrev pub SomeAreSaid : List OptionName → List (List ℕ) → Type 0
SomeAreSaid offers words = (settings : List Setting) × SaySettings offers settings words

-- the words are no settings of options that are offered
abbrev pub NoneAreSaid : List OptionName → List (List ℕ) → Type 0
NoneAreSaid offers words = (settings : List Setting) → ¬ (SaySettings offers settings words)

-- the options are what the words say, whatever they are read as
abbrev pub AreTold : List (List ℕ) → Options → Type 0
AreTold words options = (settings : List Setting) → SayOnce settings words → AreOptions settings options

-- the words are settings of options that are offered, and these options are what they say
abbrev pub AreSaid : List OptionName → List (List ℕ) → Options → Type 0
AreSaid offers words options = (settings : List Setting) × SaySettings offers settings words × AreOptions settings options

-- ---- one option

-- whether the option stood in front
abbrev pub is_seen : Seen → OptionName → Bool
is_seen seen names.Finite = seen.finite
is_seen seen names.Depth = seen.depth
is_seen seen names.Cert = seen.cert
is_seen seen names.Core = seen.core
is_seen seen names.Workers = seen.workers
is_seen seen names.Check = seen.check
is_seen seen names.Steps = seen.steps
is_seen seen names.Progress = seen.progress

-- and the option too
abbrev pub with_seen : Seen → OptionName → Seen
with_seen seen option = record {
  finite = same_option option names.Finite || seen.finite;
  depth = same_option option names.Depth || seen.depth;
  cert = same_option option names.Cert || seen.cert;
  core = same_option option names.Core || seen.core;
  workers = same_option option names.Workers || seen.workers;
  check = same_option option names.Check || seen.check;
  steps = same_option option names.Steps || seen.steps;
  progress = same_option option names.Progress || seen.progress;
}

-- the first words say the option, and these words stand behind it
pub record SaysFirst (words : List (List ℕ)) (option : OptionName) (behind : List (List ℕ)) : Type 0 where
  pub number : Option ℕ
  pub front : List (List ℕ)
  pub whole : words ≡ front ++ behind
  pub says : Says (record { option = option; number = number }) front

-- no first words say an option
abbrev pub SaysNothing : List (List ℕ) → Type 0
SaysNothing words = (setting : Setting) (front behind : List (List ℕ)) → Says setting front → words ≡ front ++ behind → ⊥

-- the texts round a = are an option's word and its number
abbrev pub AreRoundEquals : List ℕ → List ℕ → OptionName → Type 0
AreRoundEquals word digits option = (word ≡ option_word option) × ((n : ℕ) × IsNumberOf (option_row option).number digits n)

-- the words are an option's number, where it has one, and what stands behind it
abbrev pub GoesOn : Option Range → List (List ℕ) → List (List ℕ) → Type 0
GoesOn None words behind = words ≡ behind
GoesOn (Some range) words behind = (digits : List ℕ) × (n : ℕ) × IsNumberIn range digits n × (words ≡ digits ∷ behind)

-- the word is an option's, and the words behind it go on with its number
abbrev pub IsApart : List ℕ → List (List ℕ) → OptionName → List (List ℕ) → Type 0
IsApart word more option behind = (word ≡ option_word option) × GoesOn (option_row option).number more behind

-- ---- the command

-- the words behind the first one say the rest of what is asked for
abbrev pub Tell : List (List ℕ) → Asked → Type 0
Tell words (asked.Solve options) = AreSaid solve_command.options words options
Tell words (asked.Check options) = AreSaid check_command.options words options
Tell words asked.Trace = words ≡ []
Tell words (asked.Demo n) = SayNumber demo_command n words
Tell words (asked.Batch options) = AreSaid batch_command.options words options
Tell words (asked.System options) = AreSaid system_command.options words options
Tell words asked.Monitor = words ≡ []
Tell words asked.Depast = words ≡ []

-- behind the command's word, the words ask for this
abbrev pub Follows : CommandName → List (List ℕ) → Asked → Type 0
Follows command words asked = (name_asked asked ≡ command) × Tell words asked

-- behind the command's word, the words ask for nothing
abbrev pub FollowsNothing : CommandName → List (List ℕ) → Type 0
FollowsNothing name words = (command : Command) → name_of command ≡ name → ¬ (Follow command words)

-- the words are no number of the command
abbrev pub SayNoNumber : CommandRow → List (List ℕ) → Type 0
SayNoNumber row words = (n : ℕ) → ¬ (SayNumber row n words)
