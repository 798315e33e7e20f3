-- How the lines are cut into pieces, what each worker leaves of its piece, and what all workers have together.
use Rattle.std.specs.Prelude.{◌≡◌, ℕ, suc, ◌+◌, ◌-◌, ◌<◌, ◌≤◌, List, [], ◌∷◌, length, slice_index_or, All, Option, Some, None}
use Rattle.cnf_base.specs.declared.literal.Literal.{Literal}
use Rattle.cert_text.specs.Text.{Part}
use Rattle.cert_text.specs.Live.{IsGoodLine}
use Rattle.log_checker.specs.Values.{letters_in}
use Rattle.log_checker.specs.Judging.{IsFirstBad, Piece}
use Rattle.log_checker.specs.declared.lines.Lines.{Lines}
use Rattle.log_checker.specs.declared.lines.Lines.TheVariants.{AllGood, FirstBad}
use Rattle.log_checker.specs.declared.worker.Area.{Area}

-- the line at a place of the cuts
abbrev pub cut_at : List ℕ → ℕ → ℕ
cut_at cuts place = slice_index_or cuts place 0

-- the pieces between the cuts follow one another from the first line, which counts as 0, up to the number of lines; none ends before it begins
pub record AreCuts (cuts : List ℕ) (count : ℕ) : Type 0 where
  pub first : cut_at cuts 0 ≡ 0
  pub order : (piece : ℕ) → suc piece < length cuts → cut_at cuts piece ≤ cut_at cuts (suc piece)
  pub last : cut_at cuts (length cuts - 1) ≡ count

-- a worker leaves the first bad line of the piece of its number
abbrev pub IsJudged : List (List Literal) → List Part → List ℕ → ℕ → Area → Type 0
IsJudged clauses parts cuts piece area =
    IsFirstBad (IsGoodLine clauses (letters_in area.assignment) parts) (cut_at cuts piece) (cut_at cuts (suc piece)) area.first_bad

-- areas keep their number and their letters
pub record KeepSizes (old new : List Area) : Type 0 where
  pub count : length new ≡ length old
  pub each : (i : ℕ) (d : Area) → i < length old → length (slice_index_or new i d).assignment ≡ length (slice_index_or old i d).assignment

-- the pieces as the workers have judged them, where that of the first area has this number
abbrev pub pieces_of : List ℕ → ℕ → List Area → List Piece
pieces_of cuts number [] = []
pieces_of cuts number (area ∷ areas) = record { to = cut_at cuts (suc number); answer = area.first_bad } ∷ pieces_of cuts (suc number) areas

-- the answer by the first bad line, which counts from 0 here
abbrev pub answer_by : Option ℕ → Lines
answer_by None = AllGood
answer_by (Some line) = FirstBad (suc line)

-- a scratch has from 1 to 16 areas over as many letters, and one cut more
pub record IsScratch (letters : ℕ) (areas : List Area) (cuts : List ℕ) : Type 0 where
  pub some : 1 ≤ length areas
  pub few : length areas ≤ 16
  pub sizes : All (λ area. length area.assignment ≡ letters + 1) areas
  pub cut : length cuts ≡ suc (length areas)
