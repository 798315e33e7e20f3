-- All options as one command of `clap`.
use Rattle.std.specs.Prelude.{◌≡◌, ℕ, Bool, true, false, List, [], codes, Option, Some, None, map, drop}
use Rattle.clap.specs.Words.{App, Rule, new_rule, first_value, one_text, found_of}
use Rattle.clap.specs.Simple.{Shape, new_shape}
use Rattle.clap.specs.declared.builder.action.ArgAction.TheVariants.{Set, SetTrue}
use Rattle.clap.specs.declared.parser.matches.ArgMatches.{ArgMatches}
use Rattle.command_words.specs.declared.table.Range.{Range}
use Rattle.command_words.specs.declared.table.OptionName.{OptionName}
use Rattle.command_words.specs.Table.{all_options, option_row, option_word}
use Rattle.command_words.specs.Words.{Setting, IsNumberIn, stands, number_of}
use Rattle.command_words.specs.Said.{SayOnce}

-- the name of an option: its word without the hyphens
abbrev pub option_id : OptionName → List ℕ
option_id option = drop 2 (option_word option)

-- an option without a text
abbrev pub flag_rule : List ℕ → Rule
flag_rule id = record (new_rule id) { long = Some id; action = Some SetTrue }

-- an option with a text
abbrev pub value_rule : List ℕ → Rule
value_rule id = record (new_rule id) { long = Some id; action = Some Set }

-- an option, with a text where it has a number
abbrev pub rule_with : Option Range → List ℕ → Rule
rule_with None id = flag_rule id
rule_with (Some range) id = value_rule id

abbrev pub option_rule : OptionName → Rule
option_rule option = rule_with (option_row option).number (option_id option)

-- the options, behind no name of a program, with no flag of `clap`'s own
abbrev pub options_shape : Shape
options_shape = record (new_shape (codes "black")) {
  rules = map option_rule all_options;
  no_binary_name = true;
  disable_help_flag = true;
  disable_version_flag = true;
}

-- closed to most proofs, since its matches written out grow with each option
unfoldable pub options_app : App
options_app = record { top = options_shape; subs = [] }

-- the text of a flag
abbrev pub flag_text : Bool → List ℕ
flag_text true = codes "true"
flag_text false = codes "false"

-- the text is that of the number
abbrev pub IsNumberText : Range → Option (List ℕ) → Option ℕ → Type 0
IsNumberText range None None = Unit {0}
IsNumberText range (Some digits) (Some n) = IsNumberIn range digits n
IsNumberText range text number = ⊥

-- the matches tell of an option what the settings say: whether it stands there, or with which number
abbrev pub TellsOption : OptionName → Option Range → List Setting → ArgMatches → Type 0
TellsOption option None settings m = one_text (found_of m) (option_id option) ≡ Some (flag_text (stands option settings))
TellsOption option (Some range) settings m = IsNumberText range (first_value (found_of m) (option_id option)) (number_of option settings)

-- the matches tell what the words say
abbrev pub AreMatched : List (List ℕ) → ArgMatches → Type 0
AreMatched words m = (settings : List Setting) → SayOnce settings words → (option : OptionName) → TellsOption option (option_row option).number settings m
