-- The usage lines.
use Rattle.std.specs.Prelude.{ℕ, List, [], ◌∷◌, ◌++◌, codes, Option, Some, None}
use Rattle.command_words.specs.declared.table.Range.{Range}
use Rattle.command_words.specs.declared.table.CommandName.{CommandName}
use Rattle.command_words.specs.declared.table.OptionName.{OptionName}
use Rattle.command_words.specs.declared.table.OptionName.TheVariants as names
use Rattle.command_words.specs.Table.{OptionRow, CommandRow, all_commands, command_row, option_row, option_word, refute_row, beside_check}

-- a number's place, where one is taken
abbrev pub number_text : Option Range → List ℕ
number_text None = []
number_text (Some range) = codes " N"

-- an option in brackets
abbrev pub option_text : OptionRow → List ℕ
option_text row = codes " [" ++ row.word ++ number_text row.number ++ codes "]"

-- the options
abbrev pub options_text : List OptionName → List ℕ
options_text [] = []
options_text (option ∷ options) = option_text (option_row option) ++ options_text options

-- the usage line of a command
abbrev pub usage_line : CommandRow → List ℕ
usage_line row = codes "usage: black " ++ row.word ++ options_text row.options ++ number_text row.number ++ codes "\n"

-- the usage lines of these commands
abbrev pub usage_lines : List CommandName → List ℕ
usage_lines [] = []
usage_lines (command ∷ commands) = usage_line (command_row command) ++ usage_lines commands

-- the usage lines of all commands
abbrev pub usage_text : List ℕ
usage_text = usage_lines all_commands

-- a usage line of the second program
abbrev pub refuter_line : List ℕ → List ℕ
refuter_line options = codes "usage: black_refute" ++ options ++ codes "\n"

-- its usage lines: to refute a formula, and to judge a certificate, where --check has to stand
abbrev pub refutation_usage_text : List ℕ
refutation_usage_text = refuter_line (options_text refute_row) ++ refuter_line (codes " " ++ option_word names.Check ++ options_text beside_check)
