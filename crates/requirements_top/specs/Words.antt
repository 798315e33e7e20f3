-- The lists of words that are taken, as `clap` reads them, and what they ask for.
use Rattle.std.specs.Prelude.{◌≡◌, ℕ, Bool, true, false, List, [], ◌∷◌, codes, bytes_eq, Option, Some, None}
use Rattle.clap.specs.Words.{App, Shape, fault_of, matches_of}
use Rattle.clap.specs.Simple.{new_shape}
use Rattle.clap.specs.Walk.{first_of}
use Rattle.command_words.specs.declared.table.OptionName.TheVariants as names
use Rattle.command_words.specs.Table.{option_row}
use Rattle.command_words.specs.Words.{IsNumberOf}
use Rattle.command_words.specs.Matching.{flag_rule, value_rule}

-- the options: five without a text, and four with one
abbrev pub words_shape : Shape
words_shape = record (new_shape (codes "black_requirements")) {
  rules = flag_rule (codes "help") ∷ flag_rule (codes "letters") ∷ flag_rule (codes "json") ∷ flag_rule (codes "html") ∷ flag_rule (codes "progress")
      ∷ value_rule (codes "only") ∷ value_rule (codes "cert") ∷ value_rule (codes "steps") ∷ value_rule (codes "workers") ∷ [];
  no_binary_name = true;
  disable_help_flag = true;
  disable_version_flag = true;
}

-- closed to most proofs, since its matches written out grow with each option
unfoldable pub words_app : App
words_app = record { top = words_shape; subs = [] }

-- `clap` finds no fault with the words: each option at most once, with its text behind it or behind `=`, and nothing else
abbrev pub AreTaken : List (List ℕ) → Type 0
AreTaken words = fault_of words_app words ≡ []

-- what the words say: which options without a text stand there, and the texts of the others
pub record Said : Type 0 where
  pub help : Bool
  pub letters : Bool
  pub json : Bool
  pub html : Bool
  pub progress : Bool
  pub only : Option (List ℕ)
  pub cert : Option (List ℕ)
  pub steps : Option (List ℕ)
  pub workers : Option (List ℕ)

-- the text of an option in words that are taken
abbrev pub text_in : List (List ℕ) → List ℕ → Option (List ℕ)
text_in words id = first_of id (matches_of words_app words)

abbrev pub is_true : Option (List ℕ) → Bool
is_true None = false
is_true (Some text) = bytes_eq text (codes "true")

abbrev pub said_in : List (List ℕ) → Said
said_in words = record {
  help = is_true (text_in words (codes "help"));
  letters = is_true (text_in words (codes "letters"));
  json = is_true (text_in words (codes "json"));
  html = is_true (text_in words (codes "html"));
  progress = is_true (text_in words (codes "progress"));
  only = text_in words (codes "only");
  cert = text_in words (codes "cert");
  steps = text_in words (codes "steps");
  workers = text_in words (codes "workers");
}

-- the forms of a report: lines of text, JSON, and a page of HTML
pub data Face : Type 0 where
  Text : Face
  Json : Face
  Page : Face

-- the number of steps for which each question is tried, how many workers answer the questions, and whether a line is written for each
pub record Work : Type 0 where
  pub steps : ℕ
  pub workers : ℕ
  pub progress : Bool

-- a report is asked for in this form, perhaps about one name
pub record Request : Type 0 where
  pub face : Face
  pub only : Option (List ℕ)
  pub work : Work

-- what may be asked of a document: its letters, a report, or the certificate of the first answer about a name that says that there is no trace
pub data Query : Type 0 where
  Letters : Query
  About : Request → Query
  Certificate : List ℕ → Work → Query

-- what may be asked for: the help, or something of a document
pub data Wanted : Type 0 where
  Help : Wanted
  Of : Query → Wanted

-- the steps are the number that is said, and 10,000,000 where none is
abbrev pub AreSteps : Option (List ℕ) → ℕ → Type 0
AreSteps None n = n ≡ 10000000
AreSteps (Some digits) n = IsNumberOf (option_row names.Steps).number digits n

-- the workers are the number that is said, and one where none is
abbrev pub AreWorkers : Option (List ℕ) → ℕ → Type 0
AreWorkers None n = n ≡ 1
AreWorkers (Some digits) n = IsNumberOf (option_row names.Workers).number digits n

-- the form by whether `--json` and `--html` stand there. Both do not
abbrev pub IsFace : Bool → Bool → Face → Type 0
IsFace false false face = face ≡ Text
IsFace true false face = face ≡ Json
IsFace false true face = face ≡ Page
IsFace true true face = ⊥

-- nothing is said of a report, nor of a certificate
pub record IsBare (said : Said) : Type 0 where
  pub json : said.json ≡ false
  pub html : said.html ≡ false
  pub progress : said.progress ≡ false
  pub only : said.only ≡ None
  pub cert : said.cert ≡ None
  pub steps : said.steps ≡ None
  pub workers : said.workers ≡ None

-- what is said asks for the questions to be answered so
pub record AsksFor (said : Said) (work : Work) : Type 0 where
  pub steps : AreSteps said.steps work.steps
  pub workers : AreWorkers said.workers work.workers
  pub progress : said.progress ≡ work.progress

-- what is said asks for this report
pub record Requests (said : Said) (request : Request) : Type 0 where
  pub face : IsFace said.json said.html request.face
  pub only : said.only ≡ request.only
  pub cert : said.cert ≡ None
  pub work : AsksFor said request.work

-- what is said asks for the certificate about this name
pub record Certifies (said : Said) (name : List ℕ) (work : Work) : Type 0 where
  pub json : said.json ≡ false
  pub html : said.html ≡ false
  pub only : said.only ≡ None
  pub cert : said.cert ≡ Some name
  pub so : AsksFor said work

-- `--help` and `--letters` stand alone
abbrev pub Says : Said → Wanted → Type 0
Says said Help = (said.help ≡ true) × (said.letters ≡ false) × IsBare said
Says said (Of Letters) = (said.help ≡ false) × (said.letters ≡ true) × IsBare said
Says said (Of (About request)) = (said.help ≡ false) × (said.letters ≡ false) × Requests said request
Says said (Of (Certificate name work)) = (said.help ≡ false) × (said.letters ≡ false) × Certifies said name work

-- the words ask for this
abbrev pub Asks : List (List ℕ) → Wanted → Type 0
Asks words wanted = AreTaken words × Says (said_in words) wanted

-- they ask for nothing
abbrev pub AskNothing : List (List ℕ) → Type 0
AskNothing words = (wanted : Wanted) → ¬ (Asks words wanted)

-- they ask for nothing of a document
abbrev pub ReadNothing : List (List ℕ) → Type 0
ReadNothing words = (query : Query) → ¬ (Asks words (Of query))

-- whether lines on the progress are asked for
abbrev pub progress_of : Query → Bool
progress_of Letters = false
progress_of (About request) = request.work.progress
progress_of (Certificate name work) = work.progress

-- the words ask for none
abbrev pub AsksNoProgress : List (List ℕ) → Type 0
AsksNoProgress words = (query : Query) → Asks words (Of query) → progress_of query ≡ false
