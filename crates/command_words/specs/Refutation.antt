-- What the words of the second program ask for.
use Rattle.std.specs.Prelude.{ℕ, List, IsTrue}
use Rattle.command_words.specs.declared.refutation.Refutation.{Refutation}
use Rattle.command_words.specs.declared.refutation.Refutation.TheVariants as refutation
use Rattle.command_words.specs.Table.{refute_row, verify_row}
use Rattle.command_words.specs.Words.{Setting, SaySettings, check_of}
use Rattle.command_words.specs.Asked.{AreOptions}

-- to refute a formula, or to judge a certificate, with these settings
pub data RefutationAsked : Type 0 where
  Refute : List Setting → RefutationAsked
  Verify : List Setting → RefutationAsked

-- the words ask for this: a certificate is judged where --check stands among them
abbrev pub AsksRefutation : List (List ℕ) → RefutationAsked → Type 0
AsksRefutation words (Refute settings) = SaySettings refute_row settings words
AsksRefutation words (Verify settings) = SaySettings verify_row settings words × IsTrue (check_of settings)

-- the words ask for what is handed on
abbrev pub IsRefutationAsked : List (List ℕ) → Refutation → Type 0
IsRefutationAsked words (refutation.Refute options) = (settings : List Setting) × AsksRefutation words (Refute settings) × AreOptions settings options
IsRefutationAsked words (refutation.Check options) = (settings : List Setting) × AsksRefutation words (Verify settings) × AreOptions settings options
