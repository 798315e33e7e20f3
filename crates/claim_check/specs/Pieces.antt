-- The list of a step, part by part, over the entries of a closure.
use Rattle.std.specs.Prelude.{ℕ, suc, Bool, true, false, List, [], ◌∷◌, map, length, slice_index_or}
use Rattle.ltl_syntax.specs.Formula.{Formula}
use Rattle.cnf_base.specs.declared.literal.Literal.{Literal as Signed}
use Rattle.ltl_closure.specs.Norm.{pos_of}
use Rattle.ltl_closure.specs.declared.entry.Entry.{Entry}
use Rattle.ltl_closure.specs.declared.entry.Entry.TheVariants as Is
use Rattle.enc_layout.specs.Letters.{Here, Accepted, EntryAt, below}
use Rattle.enc_layout.specs.Clauses.{Literal, Plus, Minus, Clause, letter_of}
use Rattle.clause_index.specs.ByNumber.{entry_gate}
use Rattle.claims.specs.Between.{number_of}
use Rattle.claim_check.specs.declared.step_list.Piece.{Piece}
use Rattle.claim_check.specs.declared.step_list.Piece.TheVariants as Pieces

-- a literal by the number of its letter, where there are w entries
abbrev pub signed_by : ℕ → Literal → Signed
signed_by w (Plus p) = record { letter = record { 0 = number_of w p }; negated = false }
signed_by w (Minus p) = record { letter = record { 0 = number_of w p }; negated = true }

abbrev pub rows : ℕ → List Clause → List (List Signed)
rows w cs = map (map (signed_by w)) cs

-- the state, or the next one
abbrev pub step_of : Bool → ℕ
step_of false = 0
step_of true = 1

-- what entry number t is at a first state, where it is a yesterday request
abbrev pub start_entry : ℕ → Entry → List Clause
start_entry t (Is.Yesterday a false) = (Minus (Here 0) ∷ Minus (EntryAt 0 t) ∷ []) ∷ []
start_entry t (Is.Yesterday a true) = (Minus (Here 0) ∷ Plus (EntryAt 0 t) ∷ []) ∷ []
start_entry t x = []

-- the link of entry number t, where it is a next request
abbrev pub next_entry : ℕ → Entry → List Clause
next_entry t (Is.Next a w) =
    (Minus (Here 1) ∷ Minus (EntryAt 0 t) ∷ Plus (EntryAt 1 a) ∷ []) ∷ (Minus (Here 1) ∷ Plus (EntryAt 0 t) ∷ Minus (EntryAt 1 a) ∷ []) ∷ []
next_entry t x = []

-- and where it is a yesterday request
abbrev pub yesterday_entry : ℕ → Entry → List Clause
yesterday_entry t (Is.Yesterday a w) =
    (Minus (Here 1) ∷ Minus (EntryAt 1 t) ∷ Plus (EntryAt 0 a) ∷ []) ∷ (Minus (Here 1) ∷ Plus (EntryAt 1 t) ∷ Minus (EntryAt 0 a) ∷ []) ∷ []
yesterday_entry t x = []

-- a last state has no strong next request
abbrev pub last_entry : ℕ → Entry → List Clause
last_entry t (Is.Next a false) = (Minus (Accepted 0) ∷ Minus (EntryAt 0 t) ∷ []) ∷ []
last_entry t x = []

-- what a piece says of entry number t
abbrev pub clauses_of : Piece → ℕ → Entry → List Clause
clauses_of Pieces.Gate t x = entry_gate 0 t x
clauses_of Pieces.NextGate t x = entry_gate 1 t x
clauses_of Pieces.Next t x = next_entry t x
clauses_of Pieces.Yesterday t x = yesterday_entry t x
clauses_of Pieces.Start t x = start_entry t x
clauses_of Pieces.Last t x = last_entry t x

-- and of the entry at place k, and of the first n and of all
abbrev pub piece_at : Piece → List Entry → ℕ → List Clause
piece_at piece entries k = clauses_of piece (suc k) (slice_index_or entries k Is.True)

abbrev pub part_of : Piece → List Entry → List Clause
part_of piece entries = below (length entries) (piece_at piece entries)

-- a first state has the root
abbrev pub root_clauses : Formula → List Clause
root_clauses f = (Minus (Here 0) ∷ Plus (letter_of f 0 (pos_of f)) ∷ []) ∷ []
