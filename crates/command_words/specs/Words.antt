-- The lists of words that are taken, and what they say.
use Rattle.std.specs.Prelude.{◌≡◌, ◌≢◌, ◌≤◌, ◌⊎◌, ◌++◌, ℕ, List, [], ◌∷◌, length, codes, AllPairs, All, Option, Some, None, is_some, option_and_then, Bool}
use Rattle.std.specs.Prelude.{IsTrue, find, if◌then◌else◌}
use Rattle.std.specs.Str.Parse.{IsNumeral, digits_value}
use Rattle.ltl_syntax.specs.declared.node.Kind.{Kind}
use Rattle.ltl_syntax.specs.declared.node.Kind.TheVariants as kinds
use Rattle.command_words.specs.declared.table.Range.{Range}
use Rattle.command_words.specs.declared.table.OptionName.{OptionName}
use Rattle.command_words.specs.declared.table.OptionName.TheVariants as names
use Rattle.command_words.specs.declared.table.CommandName.{CommandName}
use Rattle.command_words.specs.declared.table.CommandName.TheVariants as commands
use Rattle.command_words.specs.Table.{CommandRow, Nothing, option_row, option_word, command_row, same_option, has_option, solve_command, check_command}
use Rattle.command_words.specs.Table.{demo_command, batch_command, system_command}

-- what one option says: which it is, and its number where it has one
pub record Setting : Type 0 where
  pub option : OptionName
  pub number : Option ℕ

pub data Command : Type 0 where
  Solve : List Setting → Command
  Check : List Setting → Command
  Trace : Command
  Demo : ℕ → Command
  Batch : List Setting → Command
  System : List Setting → Command
  Monitor : Command
  Depast : Command

-- one to `most` decimal digits, whose value is n, from low to high
pub record IsNumber (most low high : ℕ) (digits : List ℕ) (n : ℕ) : Type 0 where
  pub numeral : IsNumeral 10 digits
  pub short : length digits ≤ most
  pub value : digits_value 10 digits ≡ n
  pub from : low ≤ n
  pub to : n ≤ high

-- the digits are a number of the range
abbrev pub IsNumberIn : Range → List ℕ → ℕ → Type 0
IsNumberIn range digits n = IsNumber range.digits range.low range.high digits n

-- the digits are a number of the range, where there is one
abbrev pub IsNumberOf : Option Range → List ℕ → ℕ → Type 0
IsNumberOf None digits n = ⊥
IsNumberOf (Some range) digits n = IsNumberIn range digits n

-- an option with a number is two words, or one word with = between
abbrev pub Joined : List ℕ → List ℕ → List (List ℕ) → Type 0
Joined option digits words = (words ≡ option ∷ digits ∷ []) ⊎ (words ≡ (option ++ codes "=" ++ digits) ∷ [])

-- the word of the option
abbrev pub name : Setting → List ℕ
name setting = option_word setting.option

-- the words say an option of this word: it stands alone where it has no number, and else with this number
abbrev pub SaysOption : List ℕ → Option Range → Option ℕ → List (List ℕ) → Type 0
SaysOption option None None words = words ≡ option ∷ []
SaysOption option (Some range) (Some n) words = (digits : List ℕ) × IsNumberIn range digits n × Joined option digits words
SaysOption option range number words = ⊥

-- the words that say one setting
abbrev pub Says : Setting → List (List ℕ) → Type 0
Says setting words = SaysOption (name setting) (option_row setting.option).number setting.number words

-- the words say these settings, one after another
abbrev pub SayAll : List Setting → List (List ℕ) → Type 0
SayAll [] words = words ≡ []
SayAll (c ∷ cs) words = (front : List (List ℕ)) × (back : List (List ℕ)) × (words ≡ front ++ back) × Says c front × SayAll cs back

-- each option at most once, in any order
abbrev pub Once : List Setting → Type 0
Once settings = AllPairs (λ a b. name a ≢ name b) settings

-- the setting is of an option that is offered
abbrev pub IsAmong : List OptionName → Setting → Type 0
IsAmong offers setting = IsTrue (has_option offers setting.option)

-- which command it is
abbrev pub name_of : Command → CommandName
name_of (Solve settings) = commands.Solve
name_of (Check settings) = commands.Check
name_of Trace = commands.Trace
name_of (Demo n) = commands.Demo
name_of (Batch settings) = commands.Batch
name_of (System settings) = commands.System
name_of Monitor = commands.Monitor
name_of Depast = commands.Depast

-- the row of a command
abbrev pub row_of : Command → CommandRow
row_of command = command_row (name_of command)

-- the first word of a command
abbrev pub command_word : Command → List ℕ
command_word command = (row_of command).word

-- the words are settings of options that are offered
abbrev pub SaySettings : List OptionName → List Setting → List (List ℕ) → Type 0
SaySettings offers settings words = SayAll settings words × Once settings × All (IsAmong offers) settings

-- the words are the command's number
abbrev pub SayNumber : CommandRow → ℕ → List (List ℕ) → Type 0
SayNumber row n words = (digits : List ℕ) × IsNumberOf row.number digits n × (words ≡ digits ∷ [])

-- what stands behind the first word of each command
abbrev pub Follow : Command → List (List ℕ) → Type 0
Follow (Solve settings) words = SaySettings solve_command.options settings words
Follow (Check settings) words = SaySettings check_command.options settings words
Follow Trace words = words ≡ []
Follow (Demo n) words = SayNumber demo_command n words
Follow (Batch settings) words = SaySettings batch_command.options settings words
Follow (System settings) words = SaySettings system_command.options settings words
Follow Monitor words = words ≡ []
Follow Depast words = words ≡ []

-- the words are taken as this command
abbrev pub Asks : List (List ℕ) → Command → Type 0
Asks words command = (more : List (List ℕ)) × (words ≡ command_word command ∷ more) × Follow command more

-- the setting of the option, where it stands there
abbrev pub setting_of : OptionName → List Setting → Option Setting
setting_of option settings = find (λ setting. same_option setting.option option) settings

-- whether the option stands there
abbrev pub stands : OptionName → List Setting → Bool
stands option settings = is_some (setting_of option settings)

-- the number of the option, where it stands there
abbrev pub number_of : OptionName → List Setting → Option ℕ
number_of option settings = option_and_then (λ setting. setting.number) (setting_of option settings)

-- the kind of trace that the settings say: finite where --finite stands there
abbrev pub kind_of : List Setting → Kind
kind_of settings = if stands names.Finite settings then kinds.Finite else kinds.Infinite

-- the depth that the settings say, where one stands there
abbrev pub depth_of : List Setting → Option ℕ
depth_of settings = number_of names.Depth settings

-- whether the settings ask for a certificate
abbrev pub cert_of : List Setting → Bool
cert_of settings = stands names.Cert settings

-- whether the settings ask for a core
abbrev pub core_of : List Setting → Bool
core_of settings = stands names.Core settings

-- how many workers the settings say, where a number stands there
abbrev pub workers_of : List Setting → Option ℕ
workers_of settings = number_of names.Workers settings

-- whether the settings ask for a certificate to be judged
abbrev pub check_of : List Setting → Bool
check_of settings = stands names.Check settings

-- how many steps the settings say, where a number stands there
abbrev pub steps_of : List Setting → Option ℕ
steps_of settings = number_of names.Steps settings

-- whether the settings ask for notes of what is done
abbrev pub progress_of : List Setting → Bool
progress_of settings = stands names.Progress settings

-- the command reads nothing of the source
abbrev pub ReadsNothing : Command → Type 0
ReadsNothing command = (row_of command).reads ≡ Nothing
