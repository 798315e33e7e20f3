-- What the laws of the texts say.
use Rattle.std.specs.Prelude.{◌≡◌, ℕ, ◌⊎◌, List}
use Rattle.claims.specs.Certificate.{Certificate}
use Rattle.claim_text.specs.Text.{text_of, IsWritable, IsTextOf, IsFault}

-- a text is that of one certificate at most
abbrev pub TextsSayOne : Type 0
TextsSayOne = (bytes : List ℕ) (c d : Certificate) → IsTextOf bytes c → IsTextOf bytes d → c ≡ d

-- bytes are the text of a certificate or have a fault
abbrev pub OthersHaveFaults : Type 0
OthersHaveFaults = (bytes : List ℕ) → ((c : Certificate) × IsTextOf bytes c) ⊎ ((b : ℕ) × IsFault bytes b)

-- and not both
abbrev pub TextsHaveNone : Type 0
TextsHaveNone = (bytes : List ℕ) (c : Certificate) (b : ℕ) → IsTextOf bytes c → ¬ IsFault bytes b

-- they have one fault at most
abbrev pub FaultsAreOne : Type 0
FaultsAreOne = (bytes : List ℕ) (b d : ℕ) → IsFault bytes b → IsFault bytes d → b ≡ d

-- what is written is a text, and is that of nothing else
abbrev pub WrittenIsText : Type 0
WrittenIsText = (c : Certificate) → IsWritable c → IsTextOf (text_of c) c
