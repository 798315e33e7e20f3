-- What is read so far, as it is stored.
use Rattle.std.specs.Prelude.{◌≡◌, ℕ, List, map, length, ⊤}
use Rattle.claim_check.specs.declared.certificate.HintedLines.{HintedLines}
use Rattle.claim_check.specs.Data.{lines_in, layer_in}
use Rattle.claim_text.specs.Text.{IsFault}
use Rattle.claim_text.specs.Scan.{Draft}
use Rattle.claim_text.specs.declared.refused.TextRefused.{TextRefused}
use Rattle.claim_text.specs.declared.refused.TextRefused.TheVariants as refusals
use Rattle.claim_text.specs.declared.draft.Draft.{Draft as Stored}

abbrev pub draft_in : Stored → Draft
draft_in d = record {
  kind = d.kind;
  layers = map layer_in d.layers.items;
  section = d.section;
  layer = layer_in d.layer;
  lines = lines_in d.lines;
  literals = d.literals.items;
  hints = d.hints.items;
  targets = d.targets.items;
  target = d.target;
}

-- each line has its hints
abbrev pub ArePaired : HintedLines → Type 0
ArePaired l = length l.hints ≡ length l.literals

-- a draft is stored
pub record IsDraftOf (s : Stored) (d : Draft) : Type 0 where
  pub paired : ArePaired s.lines
  pub is : draft_in s ≡ d

-- what a refusal says of the bytes
abbrev pub IsRefused : List ℕ → TextRefused → Type 0
IsRefused bytes (refusals.Form b) = IsFault bytes b
IsRefused bytes refusals.NoMemory = ⊤
