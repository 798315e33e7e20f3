-- The scan without what it has read, over several bytes and over a piece of a text.
use Rattle.std.specs.Prelude.{◌≡◌, ℕ, List, [], codes, Some, IfSome}
use Rattle.cert_text.specs.Machine.{run_by}
use Rattle.cert_text.specs.Shape.{Next, small_advance}
use Rattle.cert_text.specs.Skipped.{between}
use Rattle.cert_text.specs.declared.scanning.Head.{Head}
use Rattle.cert_text.specs.declared.scanning.Place.{Place}
use Rattle.cert_text.specs.declared.scanning.Place.TheVariants as places
use Rattle.cert_text.specs.declared.passing.Piece.{Piece}

-- what a byte leads to, and several bytes
abbrev pub small_move : List ℕ × Place → ℕ → Next
small_move t b = small_advance t.0 t.1 b

abbrev pub small_run : List ℕ → Place → List ℕ → Next
small_run left place bytes = run_by small_move (left, place) bytes

-- the bytes from the first one on lead here
abbrev pub LeadsTo : List ℕ → List ℕ → Place → Type 0
LeadsTo bytes left place = small_run (codes "ltlcert ") places.Version bytes ≡ Some (left, place)

-- a piece comes where it says, if it follows a header
abbrev pub IsPassed : List ℕ → Head → Piece → Type 0
IsPassed bytes head piece = IfSome piece.came (λ place. small_run [] (places.Part head) (between bytes piece.from piece.to) ≡ Some ([], place))

-- a head with another count of lines
abbrev pub with_lines : Head → ℕ → Head
with_lines h n = record { version = h.version; kind = h.kind; depth = h.depth; lines = n; targets = h.targets }
