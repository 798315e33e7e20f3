-- What a view of a certificate text keeps of it.
use Rattle.std.specs.Prelude.{◌≡◌, ℕ, suc, ◌+◌, ◌<◌, ◌==◌, ◌&&◌, List, [], ◌∷◌, ◌++◌, length, slice_index_or, if◌then◌else◌}
use Rattle.std.specs.List.{list_any, flat_map}
use Rattle.cert_text.specs.Text.{Part, Line, Delete, Certificate, greatest_u64, IsTextOf, literal_text, part_text, header_text}
use Rattle.cert_text.specs.Live.{lines_of, is_deleted, last_user}
use Rattle.cert_text.specs.Reading.{certificate_in, line_start, literals_end}
use Rattle.cert_text.specs.Items.{item_of, item_line, IsItem}
use Rattle.cert_text.specs.Shape.{form_of}
use Rattle.cert_text.specs.declared.glance.Form.{Form}
use Rattle.cert_text.specs.declared.marks.Span.{Span}

-- the literals of line k + 1
abbrev pub span_of : Certificate → ℕ → Span
span_of c k = record { start = line_start c k; end = literals_end c k }

-- the last user of line k + 1, where it is deleted
abbrev pub end_of : List Part → ℕ → ℕ
end_of parts k = if is_deleted parts k then last_user parts k else greatest_u64

-- where the lines of these parts of the certificate stand, and up to where each may be used
pub record AreMarks (c : Certificate) (parts : List Part) (spans : List Span) (ends : List ℕ) : Type 0 where
  pub span_count : length spans ≡ length (lines_of parts)
  pub end_count : length ends ≡ length (lines_of parts)
  pub each_span : (k : ℕ) (d : Span) → k < length (lines_of parts) → slice_index_or spans k d ≡ span_of c k
  pub each_end : (k d : ℕ) → k < length (lines_of parts) → slice_index_or ends k d ≡ end_of parts k

-- a view keeps to its text
pub record IsView (bytes : List ℕ) (c : Certificate) (form : Form) (spans : List Span) (ends targets : List ℕ) : Type 0 where
  pub is : IsTextOf bytes c
  pub says : form ≡ form_of c
  pub marks : AreMarks c c.parts spans ends
  pub close : targets ≡ c.targets

-- each of these lines that was open is shut at this count now, and the others are as before
pub record IsShut (numbers : List ℕ) (count : ℕ) (old new : List ℕ) : Type 0 where
  pub size : length new ≡ length old
  pub each : (k d : ℕ) → k < length old
      → slice_index_or new k d ≡ (if (slice_index_or old k d == greatest_u64) && list_any (λ n. n == suc k) numbers then count else slice_index_or old k d)

-- a part whose text begins at this byte is noted
abbrev pub IsMarked : Part → ℕ → List Span → List ℕ → List Span → List ℕ → Type 0
IsMarked (Line literals hints) at spans ends new_spans new_ends =
    (new_spans ≡ spans ++ record { start = at; end = at + length (flat_map literal_text literals) } ∷ []) × (new_ends ≡ ends ++ greatest_u64 ∷ [])
IsMarked (Delete lines) at spans ends new_spans new_ends = (new_spans ≡ spans) × IsShut lines (length ends) ends new_ends

-- the bytes spell a part, without the newline
pub record IsPartLine (line : List ℕ) : Type 0 where
  pub part : Part
  pub fits : IsItem (item_of part)
  pub spelled : line ≡ item_line (item_of part)

-- some parts are noted, and the text of the others begins here
pub record IsMarking (bytes : List ℕ) (at : ℕ) (spans : List Span) (ends : List ℕ) : Type 0 where
  pub past : List Part
  pub left : List Part
  pub split : (certificate_in bytes).parts ≡ past ++ left
  pub place : at ≡ length (header_text (certificate_in bytes) ++ flat_map part_text past)
  pub marks : AreMarks (certificate_in bytes) past spans ends
