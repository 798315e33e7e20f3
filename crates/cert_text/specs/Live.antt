-- Which lines of a certificate may be named where.
use Rattle.std.specs.Prelude.{ℕ, zero, suc, ◌+◌, Bool, false, ◌==◌, List, [], ◌∷◌, slice_get, slice_index_or, Option, None, if◌then◌else◌}
use Rattle.std.specs.List.{list_any}
use Rattle.cnf_base.specs.declared.literal.Literal.{Literal}
use Rattle.cnf_base.specs.declared.literal.Hint.{Hint}
use Rattle.cnf_base.specs.Among.{IsStepAmong}
use Rattle.cert_text.specs.Text.{Part, Line, Delete}

-- the lines' literals, in order
abbrev pub lines_of : List Part → List (List Literal)
lines_of [] = []
lines_of (Line literals hints ∷ parts) = literals ∷ lines_of parts
lines_of (Delete lines ∷ parts) = lines_of parts

-- the lines' hints
abbrev pub hints_of : List Part → List (List Hint)
hints_of [] = []
hints_of (Line literals hints ∷ parts) = hints ∷ hints_of parts
hints_of (Delete lines ∷ parts) = hints_of parts

-- the parts before line k + 1; all where there is no such line
abbrev pub parts_before : List Part → ℕ → List Part
parts_before [] k = []
parts_before (Delete lines ∷ parts) k = Delete lines ∷ parts_before parts k
parts_before (Line literals hints ∷ parts) zero = []
parts_before (Line literals hints ∷ parts) (suc k) = Line literals hints ∷ parts_before parts k

-- the parts behind line k + 1
abbrev pub parts_behind : List Part → ℕ → List Part
parts_behind [] k = []
parts_behind (Delete lines ∷ parts) k = parts_behind parts k
parts_behind (Line literals hints ∷ parts) zero = parts
parts_behind (Line literals hints ∷ parts) (suc k) = parts_behind parts k

-- whether the part is a delete that names line m
abbrev pub deletes : ℕ → Part → Bool
deletes m (Line literals hints) = false
deletes m (Delete lines) = list_any (λ n. n == m) lines

-- whether a delete behind line k + 1 names it
abbrev pub is_deleted : List Part → ℕ → Bool
is_deleted parts k = list_any (deletes (suc k)) (parts_behind parts k)

-- the literals of line m, where it is live behind these parts: it stands among them, and no delete behind it names it
abbrev pub live_line : List Part → ℕ → Option (List Literal)
live_line parts zero = None
live_line parts (suc k) = if is_deleted parts k then None else slice_get (lines_of parts) k

-- the literals of line m, where it is live at line k + 1
abbrev pub live_at : List Part → ℕ → ℕ → Option (List Literal)
live_at parts k m = live_line (parts_before parts k) m

-- line k + 1 is a hinted step over the clauses, the lines that are live at it and the greatest letter
abbrev pub IsGoodLine : List (List Literal) → ℕ → List Part → ℕ → Type 0
IsGoodLine clauses greatest parts k =
    IsStepAmong clauses (live_at parts k) greatest (slice_index_or (lines_of parts) k []) (slice_index_or (hints_of parts) k [])

-- how many lines stand before the first of these parts that deletes line m
abbrev pub lines_until : ℕ → List Part → ℕ
lines_until m [] = 0
lines_until m (Line literals hints ∷ parts) = suc (lines_until m parts)
lines_until m (Delete lines ∷ parts) = if list_any (λ n. n == m) lines then 0 else lines_until m parts

-- the greatest number of a line that is line k + 1 itself or at which that line is live
abbrev pub last_user : List Part → ℕ → ℕ
last_user parts k = suc k + lines_until (suc k) (parts_behind parts k)
