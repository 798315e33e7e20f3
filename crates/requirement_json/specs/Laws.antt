-- What the laws of the JSON text say.
use Rattle.std.specs.Prelude.{◌≡◌, ℕ, ◌==◌, Bool, false, List}
use Rattle.std.specs.List.{list_any}
use Rattle.requirement_document.specs.Values.{DocumentValue}
use Rattle.requirement_answers.specs.declared.findings.Report.{Report}
use Rattle.requirement_json.specs.Whole.{json_of}
use Rattle.serde_json.specs.Written.{compact_text}

abbrev pub has_newline : List ℕ → Bool
has_newline text = list_any (λ b. b == 10) text

-- whatever newlines the document has in its texts, there is none in the object of a report
abbrev pub IsOnOneLine : Type 0
IsOnOneLine = (d : DocumentValue) (r : Report) (steps : ℕ) → has_newline (compact_text (json_of d r steps)) ≡ false
