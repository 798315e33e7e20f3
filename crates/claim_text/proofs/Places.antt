-- The text up to each place, and what is true there.
use Rattle.std.proofs.Common.{◌≡◌, ℕ, ◌<◌, ◌≤◌, ◌⊎◌, Bool, true, false, List, [], ◌∷◌, ◌++◌, length, All, sym, ap, ◌∙◌, append_assoc}
use Rattle.std.specs.Prelude.{codes, decimal, ⊤}
use Rattle.std.specs.List.{flat_map}
use Rattle.ltl_syntax.specs.declared.node.Kind.{Kind}
use Rattle.cnf_base.specs.declared.literal.Literal.{Literal}
use Rattle.cert_text.specs.Text.{IsLiteral, IsHint, IsNumber, kind_text, sign_text, literal_text, hint_text, target_text}
use Rattle.claims.specs.Certificate.{HintedLine, Layer}
use Rattle.claim_text.specs.Text.{eventuality_number, claim_text, line_text, targets_text, layer_text, IsLine, IsHead, IsBased, IsLayer}
use Rattle.claim_text.specs.Scan.{Draft, Scan, blank, greatest_in, wanted}
use Rattle.claim_text.specs.declared.place.Section.{Section}
use Rattle.claim_text.specs.declared.place.Section.TheVariants as sections
use Rattle.claim_text.specs.declared.place.Role.{Role}
use Rattle.claim_text.specs.declared.place.Role.TheVariants as roles
use Rattle.claim_text.specs.declared.place.Place.{Place}
use Rattle.claim_text.specs.declared.place.Place.TheVariants as places
use Rattle.claim_text.specs.declared.place.Act.{Act}
use Rattle.claim_text.specs.declared.place.Act.TheVariants as acts

-- the first line of a layer with its claims
abbrev pub claims_before : Layer → List ℕ → List ℕ
claims_before l rest = codes "layer " ++ (decimal (eventuality_number l.eventuality) ++ (10 ∷ (flat_map claim_text l.claims ++ rest)))

-- what stands before the lines of a section
abbrev pub open_before : Section → Layer → List ℕ → List ℕ
open_before sections.Outside l rest = rest
open_before sections.Base l rest = claims_before l rest
open_before sections.Step l rest = claims_before l (flat_map line_text l.base_lines ++ (codes "base" ++ (flat_map target_text l.base_targets ++ (10 ∷ rest))))

abbrev pub parts_before : Kind → List Layer → Section → Layer → List HintedLine → List ℕ → List ℕ
parts_before kind layers section layer lines rest =
    codes "ltlinv 1 " ++ (kind_text kind ++ (10 ∷ (flat_map layer_text layers ++ open_before section layer (flat_map line_text lines ++ rest))))

abbrev pub draft_before : Draft → List ℕ → List ℕ
draft_before d rest = parts_before d.kind d.layers d.section d.layer d.lines rest

-- the word before the targets
abbrev pub word : Section → List ℕ
word sections.Outside = codes "close"
word sections.Base = codes "base"
word sections.Step = codes "step"

abbrev pub claim_word : Bool → List ℕ
claim_word true = codes "c "
claim_word false = []

abbrev pub literals_before : Bool → Draft → List ℕ → List ℕ
literals_before claim d rest = draft_before d (claim_word claim ++ (flat_map literal_text d.literals ++ rest))

abbrev pub hints_before : Draft → List ℕ → List ℕ
hints_before d rest = draft_before d (flat_map literal_text d.literals ++ (codes "0 " ++ (flat_map hint_text d.hints ++ rest)))

abbrev pub targets_before : Draft → List ℕ → List ℕ
targets_before d rest = draft_before d (word d.section ++ (flat_map target_text d.targets ++ rest))

-- the text before a number
abbrev pub role_before : Role → Draft → List ℕ → List ℕ
role_before roles.Eventuality d rest = draft_before d (codes "layer " ++ rest)
role_before (roles.Literal claim negated) d rest = literals_before claim d (sign_text negated ++ rest)
role_before (roles.Hint negated) d rest = hints_before d (sign_text negated ++ rest)
role_before roles.Target d rest = targets_before d (32 ∷ rest)

-- the text up to a place, with the bytes behind it
abbrev pub before : Place → Draft → List ℕ → List ℕ
before places.Kind d rest = codes "ltlinv 1 " ++ rest
before places.Item d rest = draft_before d rest
before (places.Literal claim) d rest = literals_before claim d rest
before places.Hint d rest = hints_before d rest
before (places.First role) d rest = role_before role d rest
before (places.More role n) d rest = role_before role d (decimal n ++ rest)
before places.End d rest = draft_before d (codes "close " ++ (decimal d.target ++ (10 ∷ rest)))

-- within a number, and a step to there
abbrev pub number_at : Role → Draft → ℕ → Scan
number_at role d n = ([], places.More role n, d)

abbrev pub digits_in : Role → ℕ → List ℕ × Place × Act
digits_in role n = ([], places.More role n, acts.Nothing)

-- what a layer keeps to in a section
abbrev pub IsOpen : Section → Layer → Type 0
IsOpen sections.Outside l = ⊤
IsOpen sections.Base l = IsHead l
IsOpen sections.Step l = IsBased l

-- lines of a base come behind a claim
abbrev pub HasClaims : Section → Layer → Type 0
HasClaims sections.Outside l = ⊤
HasClaims sections.Base l = 1 ≤ length l.claims
HasClaims sections.Step l = ⊤

pub record IsDraft (d : Draft) : Type 0 where
  pub layers : All IsLayer d.layers
  pub lines : All IsLine d.lines
  pub layer : IsOpen d.section d.layer

-- nothing of a line is read
pub record IsClear (d : Draft) : Type 0 where
  pub literals : d.literals ≡ []
  pub hints : d.hints ≡ []
  pub targets : d.targets ≡ []

-- a claim or a line may stand here
abbrev pub MayStand : Bool → Draft → Type 0
MayStand true d = (d.section ≡ sections.Base) × (d.lines ≡ [])
MayStand false d = HasClaims d.section d.layer

pub record AreLiterals (claim : Bool) (d : Draft) : Type 0 where
  pub draft : IsDraft d
  pub literals : All IsLiteral d.literals
  pub hints : d.hints ≡ []
  pub targets : d.targets ≡ []
  pub may : MayStand claim d

pub record AreHints (d : Draft) : Type 0 where
  pub draft : IsDraft d
  pub literals : All IsLiteral d.literals
  pub hints : All IsHint d.hints
  pub targets : d.targets ≡ []
  pub may : HasClaims d.section d.layer

pub record AreTargets (d : Draft) : Type 0 where
  pub draft : IsDraft d
  pub literals : d.literals ≡ []
  pub hints : d.hints ≡ []
  pub targets : All IsNumber d.targets
  pub few : length d.targets < wanted d
  pub may : HasClaims d.section d.layer

pub record IsFresh (d : Draft) : Type 0 where
  pub draft : IsDraft d
  pub clear : IsClear d
  pub section : d.section ≡ sections.Outside
  pub lines : d.lines ≡ []

pub record IsItem (d : Draft) : Type 0 where
  pub draft : IsDraft d
  pub clear : IsClear d
  pub may : HasClaims d.section d.layer ⊎ (d.lines ≡ [])

pub record IsEnd (d : Draft) : Type 0 where
  pub draft : IsDraft d
  pub section : d.section ≡ sections.Outside
  pub target : IsNumber d.target

abbrev pub IsRole : Role → Draft → Type 0
IsRole roles.Eventuality d = IsFresh d
IsRole (roles.Literal claim negated) d = AreLiterals claim d
IsRole (roles.Hint negated) d = AreHints d
IsRole roles.Target d = AreTargets d

abbrev pub IsPlace : Place → Draft → Type 0
IsPlace places.Kind d = d ≡ blank
IsPlace places.Item d = IsItem d
IsPlace (places.Literal claim) d = AreLiterals claim d
IsPlace places.Hint d = AreHints d
IsPlace (places.First role) d = IsRole role d
IsPlace (places.More role n) d = IsRole role d × (1 ≤ n) × (n ≤ greatest_in role)
IsPlace places.End d = IsEnd d

-- the text of a line with the bytes behind it, from its parts
pub claim_is : (ls : List Literal) (rest : List ℕ) → codes "c " ++ (flat_map literal_text ls ++ (48 ∷ 10 ∷ rest)) ≡ claim_text ls ++ rest
claim_is ls rest = ap (λ x. codes "c " ++ x) (sym (append_assoc (flat_map literal_text ls) (codes "0\n") rest))

pub line_is : (l : HintedLine) (rest : List ℕ)
    → flat_map literal_text l.literals ++ (codes "0 " ++ (flat_map hint_text l.hints ++ (48 ∷ 10 ∷ rest))) ≡ line_text l ++ rest
line_is l rest =
    sym (append_assoc (flat_map literal_text l.literals) (codes "0 " ++ (flat_map hint_text l.hints ++ codes "0\n")) rest
    ∙ ap (λ x. flat_map literal_text l.literals ++ (codes "0 " ++ x)) (append_assoc (flat_map hint_text l.hints) (codes "0\n") rest))

pub targets_are : (w ts rest : List ℕ) → w ++ (flat_map target_text ts ++ (10 ∷ rest)) ≡ targets_text w ts ++ rest
targets_are w ts rest =
    sym (append_assoc w (flat_map target_text ts ++ codes "\n") rest ∙ ap (λ x. w ++ x) (append_assoc (flat_map target_text ts) (codes "\n") rest))

-- a layer with the bytes behind it
pub layer_is : (l : Layer) (rest : List ℕ)
    → open_before sections.Step l
    (flat_map line_text l.step_lines ++ (codes "step" ++ (flat_map target_text l.step_targets ++ (10 ∷ rest)))) ≡ layer_text l ++ rest
layer_is l rest =
    ap (λ x. open_before sections.Step l (flat_map line_text l.step_lines ++ x)) (targets_are (codes "step") l.step_targets rest)
    ∙ ap (claims_before l) (ap (λ x. flat_map line_text l.base_lines ++ x) (targets_are (codes "base") l.base_targets step))
    ∙ sym (ap (λ x. codes "layer " ++ x)
    (append_assoc (decimal (eventuality_number l.eventuality)) _ rest
    ∙ ap (λ x. decimal (eventuality_number l.eventuality) ++ (10 ∷ x))
    (append_assoc (flat_map claim_text l.claims) _ rest
    ∙ ap (λ x. flat_map claim_text l.claims ++ x)
    (append_assoc (flat_map line_text l.base_lines) _ rest
    ∙ ap (λ x. flat_map line_text l.base_lines ++ x)
    (append_assoc (targets_text (codes "base") l.base_targets) _ rest
    ∙ ap (λ x. targets_text (codes "base") l.base_targets ++ x)
    (append_assoc (flat_map line_text l.step_lines) (targets_text (codes "step") l.step_targets) rest))))))
  where
    step : List ℕ
    step = flat_map line_text l.step_lines ++ (targets_text (codes "step") l.step_targets ++ rest)
