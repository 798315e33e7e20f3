-- What one call did: the answer to its words and to what the source had left, and how it was printed.
use Rattle.std.specs.Prelude.{◌≡◌, ℕ, List, ◌++◌, codes, Option, Some}
use Rattle.ltl_io.specs.Outside.{Grows, GrowsByFront, TakesWhole}
use Rattle.black_view.specs.declared.status.Status.{Status}
use Rattle.black_view.specs.declared.status.Status.TheVariants as statuses
use Rattle.black_view.specs.declared.words.Request.{Request}
use Rattle.black_view.specs.Words.{wanted}
use Rattle.black_view.specs.Asked.{AskHelp, AskVersion, AskNothing, wanted_of}
use Rattle.black_view.specs.Output.{IsViewed, max_bytes}

abbrev pub version_text : List ℕ
version_text = codes "black_view 1.0\n"

abbrev pub usage_text : List ℕ
usage_text = codes "usage: black_view [--svg] [--width N] [--only LETTERS]\n"

abbrev pub help_text : List ℕ
help_text =
    codes "Draws the trace in what `black solve`, `black system` or `black depast` prints.\n" ++ usage_text
    ++ codes "  --svg           a timing diagram in SVG, in place of text\n  --width N       wrap the text at so many columns, 80 where none are given\n"
    ++ codes "  --only LETTERS  these letters in this order, as in a,b,c\n  --help          this text, where it stands alone\n  --version       the version, where it stands alone\n"

-- what is printed, and the status with it, where the source had `rest` left and has `after`: the source is read to its end, or for more
-- than the limit, and not at all where no picture is asked for
pub data IsAnswer (words : List (List ℕ)) (rest after : Option (List ℕ)) : Status → List ℕ → Type 0 where
  help : AskHelp words → after ≡ rest → IsAnswer words rest after statuses.Good help_text
  version : AskVersion words → after ≡ rest → IsAnswer words rest after statuses.Good version_text
  usage : AskNothing words → after ≡ rest → IsAnswer words rest after statuses.Usage usage_text
  picture : (request : Request) (bytes : List ℕ) (status : Status) (printed : List ℕ) → wanted words ≡ Some (wanted_of request)
      → TakesWhole max_bytes bytes rest after
      → IsViewed request bytes status printed → IsAnswer words rest after status printed

-- an answer was given, and a told content grew by exactly its text
pub record IsAnswered (words : List (List ℕ)) (rest rest' before after : Option (List ℕ)) (status : Status) : Type 0 where
  pub printed : List ℕ
  pub lawful : IsAnswer words rest rest' status printed
  pub grown : Grows printed before after

-- the sink broke off: a told content grew by a front of an answer's text
pub record IsCutOff (words : List (List ℕ)) (rest rest' before after : Option (List ℕ)) : Type 0 where
  pub printed : List ℕ
  pub status : Status
  pub lawful : IsAnswer words rest rest' status printed
  pub front : GrowsByFront printed before after
