-- What the words ask for: a picture, the help or the version, or nothing, where they are not taken.
use Rattle.std.specs.Prelude.{◌≡◌, ℕ, List, [], ◌∷◌, codes, Some, None, option_map}
use Rattle.black_view.specs.declared.words.Request.{Request}
use Rattle.black_view.specs.declared.words.Reading.{Reading}
use Rattle.black_view.specs.declared.words.Asked.{Asked}
use Rattle.black_view.specs.declared.words.Asked.TheVariants as asked
use Rattle.black_view.specs.Words.{Wanted, Said, wanted}

abbrev pub wanted_of : Request → Wanted
wanted_of request = record { svg = request.svg; width = request.width; only = option_map (λ names. names.items) request.only }

abbrev pub said_of : Reading → Said
said_of reading = record { svg = reading.svg; width = reading.width; only = option_map (λ names. names.items) reading.only; waiting = reading.waiting }

-- --help and --version stand alone
abbrev pub AskHelp : List (List ℕ) → Type 0
AskHelp words = words ≡ codes "--help" ∷ []

abbrev pub AskVersion : List (List ℕ) → Type 0
AskVersion words = words ≡ codes "--version" ∷ []

-- the words are not taken
pub record AskNothing (words : List (List ℕ)) : Type 0 where
  pub help : ¬ (AskHelp words)
  pub version : ¬ (AskVersion words)
  pub picture : wanted words ≡ None

abbrev pub IsAsked : List (List ℕ) → Asked → Type 0
IsAsked words (asked.Picture request) = wanted words ≡ Some (wanted_of request)
IsAsked words asked.Help = AskHelp words
IsAsked words asked.Version = AskVersion words
IsAsked words asked.Nothing = AskNothing words
