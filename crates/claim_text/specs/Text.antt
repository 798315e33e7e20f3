-- The text of a certificate of claims.
use Rattle.std.specs.Prelude.{◌≡◌, ℕ, ◌+◌, ◌<◌, ◌≤◌, List, [], ◌∷◌, ◌++◌, length, All, codes, decimal, Option, Some, None, ⊤}
use Rattle.std.specs.List.{flat_map}
use Rattle.cnf_base.specs.declared.literal.Literal.{Literal}
use Rattle.cert_text.specs.Machine.{Begins, IsFault as IsFaultOf}
use Rattle.cert_text.specs.Text.{IsLiteral, IsHint, IsNumber, kind_text, literal_text, hint_text, target_text}
use Rattle.claims.specs.Certificate.{HintedLine, Layer, Certificate}

-- the greatest number of an eventuality
abbrev pub greatest_u32 : ℕ
greatest_u32 = 4294967295

-- 0 where there is no eventuality, or else one more than its number, which is counted from 0
abbrev pub eventuality_number : Option ℕ → ℕ
eventuality_number None = 0
eventuality_number (Some e) = e + 1

abbrev pub claim_text : List Literal → List ℕ
claim_text literals = codes "c " ++ (flat_map literal_text literals ++ codes "0\n")

abbrev pub line_text : HintedLine → List ℕ
line_text l = flat_map literal_text l.literals ++ (codes "0 " ++ (flat_map hint_text l.hints ++ codes "0\n"))

-- targets behind a word
abbrev pub targets_text : List ℕ → List ℕ → List ℕ
targets_text word targets = word ++ (flat_map target_text targets ++ codes "\n")

abbrev pub layer_text : Layer → List ℕ
layer_text l = codes "layer " ++ (decimal (eventuality_number l.eventuality) ++ (codes "\n" ++ (flat_map claim_text l.claims
    ++ (flat_map line_text l.base_lines ++ (targets_text (codes "base") l.base_targets
    ++ (flat_map line_text l.step_lines ++ targets_text (codes "step") l.step_targets))))))

-- the text of a certificate
abbrev pub text_of : Certificate → List ℕ
text_of c = codes "ltlinv 1 " ++ (kind_text c.kind ++ (codes "\n" ++ (flat_map layer_text c.layers
    ++ (flat_map line_text c.lines ++ targets_text (codes "close") (c.target ∷ [])))))

abbrev pub IsEventuality : Option ℕ → Type 0
IsEventuality None = ⊤
IsEventuality (Some e) = e < greatest_u32

abbrev pub IsLine : HintedLine → Type 0
IsLine l = All IsLiteral l.literals × All IsHint l.hints

-- each claim has a target at the base, and one more where there is an eventuality
abbrev pub base_targets_of : Option ℕ → ℕ → ℕ
base_targets_of None claims = claims
base_targets_of (Some e) claims = claims + claims

abbrev pub base_count : Layer → ℕ
base_count l = base_targets_of l.eventuality (length l.claims)

-- what a layer keeps to before its targets
pub record IsHead (l : Layer) : Type 0 where
  pub eventuality : IsEventuality l.eventuality
  pub claims : All (All IsLiteral) l.claims

-- and up to the targets of its base: there is a claim, and exactly as many targets as said
pub record IsBased (l : Layer) : Type 0 where
  pub head : IsHead l
  pub some : 1 ≤ length l.claims
  pub lines : All IsLine l.base_lines
  pub count : length l.base_targets ≡ base_count l
  pub targets : All IsNumber l.base_targets

-- each claim has one target at the step
pub record IsLayer (l : Layer) : Type 0 where
  pub based : IsBased l
  pub lines : All IsLine l.step_lines
  pub count : length l.step_targets ≡ length l.claims
  pub targets : All IsNumber l.step_targets

-- the certificates that have a text
pub record IsWritable (c : Certificate) : Type 0 where
  pub layers : All IsLayer c.layers
  pub lines : All IsLine c.lines
  pub target : IsNumber c.target

-- the bytes are the text of this certificate
pub record IsTextOf (bytes : List ℕ) (c : Certificate) : Type 0 where
  pub lawful : IsWritable c
  pub spelled : bytes ≡ text_of c

-- some text begins with these bytes
abbrev pub BeginsText : List ℕ → Type 0
BeginsText bytes = Begins IsTextOf bytes

-- the byte of the fault: the least b for which the first b + 1 bytes begin no text, or the length of bytes that begin one and are none
abbrev pub IsFault : List ℕ → ℕ → Type 0
IsFault bytes b = IsFaultOf IsTextOf bytes b
