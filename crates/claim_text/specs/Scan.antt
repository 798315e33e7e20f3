-- One pass over the bytes: a byte is decided upon by the place and by what is read so far, and then acted upon.
use Rattle.std.specs.Prelude.{ℕ, ◌+◌, ◌-◌, ◌*◌, ◌≤◌, ⊤, Bool, true, false, ◌&&◌, ◌==◌, nat_lt, List, [], ◌∷◌, ◌++◌, length, codes, if◌then◌else◌, Option, Some}
use Rattle.std.specs.Prelude.{None}
use Rattle.ltl_syntax.specs.declared.node.Kind.{Kind}
use Rattle.ltl_syntax.specs.declared.node.Kind.TheVariants as Kinds
use Rattle.cnf_base.specs.declared.literal.Literal.{Literal}
use Rattle.cnf_base.specs.declared.literal.Hint.{Hint}
use Rattle.cert_text.specs.Machine.{run_by}
use Rattle.cert_text.specs.Text.{greatest_u64}
use Rattle.cert_text.specs.Scan.{literal, hint}
use Rattle.claims.specs.Certificate.{HintedLine, Layer, Certificate}
use Rattle.claim_text.specs.Text.{greatest_u32, base_count}
use Rattle.claim_text.specs.declared.place.Section.{Section}
use Rattle.claim_text.specs.declared.place.Section.TheVariants as sections
use Rattle.claim_text.specs.declared.place.Role.{Role}
use Rattle.claim_text.specs.declared.place.Role.TheVariants as roles
use Rattle.claim_text.specs.declared.place.Place.{Place}
use Rattle.claim_text.specs.declared.place.Place.TheVariants as places
use Rattle.claim_text.specs.declared.place.Act.{Act}
use Rattle.claim_text.specs.declared.place.Act.TheVariants as acts

-- what is read so far: whole layers, the layer that is open, and the lines, literals, hints and targets of what is open there
pub record Draft : Type 0 where
  pub kind : Kind
  pub layers : List Layer
  pub section : Section
  pub layer : Layer
  pub lines : List HintedLine
  pub literals : List Literal
  pub hints : List Hint
  pub targets : List ℕ
  pub target : ℕ

abbrev pub opened : Option ℕ → Layer
opened e = record { eventuality = e; claims = []; base_lines = []; base_targets = []; step_lines = []; step_targets = [] }

-- outside a layer, and within one
abbrev pub outside : Kind → List Layer → List HintedLine → Draft
outside kind layers lines =
    record { kind = kind; layers = layers; section = sections.Outside; layer = opened None; lines = lines; literals = []; hints = []; targets = []; target = 0 }

abbrev pub within : Kind → List Layer → Section → Layer → List HintedLine → Draft
within kind layers section layer lines =
    record { kind = kind; layers = layers; section = section; layer = layer; lines = lines; literals = []; hints = []; targets = []; target = 0 }

-- nothing is read
abbrev pub blank : Draft
blank = outside Kinds.Infinite [] []

abbrev pub certificate_of : Draft → Certificate
certificate_of d = record { kind = d.kind; layers = d.layers; lines = d.lines; target = d.target }

-- the number of targets that are wanted
abbrev pub wanted_in : Section → Layer → ℕ
wanted_in sections.Outside l = 1
wanted_in sections.Base l = base_count l
wanted_in sections.Step l = length l.claims

abbrev pub wanted : Draft → ℕ
wanted d = wanted_in d.section d.layer

abbrev pub with_claim : Layer → List Literal → Layer
with_claim l c = record {
  eventuality = l.eventuality;
  claims = l.claims ++ c ∷ [];
  base_lines = l.base_lines;
  base_targets = l.base_targets;
  step_lines = l.step_lines;
  step_targets = l.step_targets;
}

abbrev pub with_base : Layer → List HintedLine → List ℕ → Layer
with_base l lines targets = record {
  eventuality = l.eventuality;
  claims = l.claims;
  base_lines = lines;
  base_targets = targets;
  step_lines = l.step_lines;
  step_targets = l.step_targets;
}

abbrev pub with_step : Layer → List HintedLine → List ℕ → Layer
with_step l lines targets = record {
  eventuality = l.eventuality;
  claims = l.claims;
  base_lines = l.base_lines;
  base_targets = l.base_targets;
  step_lines = lines;
  step_targets = targets;
}

-- the lines and targets that are read belong to the section, and the next one begins
abbrev pub closed : Section → Draft → ℕ → Draft
closed sections.Outside d n = record {
  kind = d.kind;
  layers = d.layers;
  section = sections.Outside;
  layer = d.layer;
  lines = d.lines;
  literals = d.literals;
  hints = d.hints;
  targets = d.targets;
  target = n;
}
closed sections.Base d n = record {
  kind = d.kind;
  layers = d.layers;
  section = sections.Step;
  layer = with_base d.layer d.lines (d.targets ++ n ∷ []);
  lines = [];
  literals = d.literals;
  hints = d.hints;
  targets = [];
  target = d.target;
}
closed sections.Step d n = record {
  kind = d.kind;
  layers = d.layers ++ with_step d.layer d.lines (d.targets ++ n ∷ []) ∷ [];
  section = sections.Outside;
  layer = opened None;
  lines = [];
  literals = d.literals;
  hints = d.hints;
  targets = [];
  target = d.target;
}

-- what is read behind a byte
abbrev pub acted : Act → Draft → Draft
acted acts.Nothing d = d
acted (acts.Kind kind) d = outside kind [] []
acted (acts.Layer e) d = record {
  kind = d.kind;
  layers = d.layers;
  section = sections.Base;
  layer = opened e;
  lines = d.lines;
  literals = d.literals;
  hints = d.hints;
  targets = d.targets;
  target = d.target;
}
acted acts.Claim d = record {
  kind = d.kind;
  layers = d.layers;
  section = d.section;
  layer = with_claim d.layer d.literals;
  lines = d.lines;
  literals = [];
  hints = d.hints;
  targets = d.targets;
  target = d.target;
}
acted acts.Line d = record {
  kind = d.kind;
  layers = d.layers;
  section = d.section;
  layer = d.layer;
  lines = d.lines ++ record { literals = d.literals; hints = d.hints } ∷ [];
  literals = [];
  hints = [];
  targets = d.targets;
  target = d.target;
}
acted (acts.Literal l) d = record {
  kind = d.kind;
  layers = d.layers;
  section = d.section;
  layer = d.layer;
  lines = d.lines;
  literals = d.literals ++ l ∷ [];
  hints = d.hints;
  targets = d.targets;
  target = d.target;
}
acted (acts.Hint h) d = record {
  kind = d.kind;
  layers = d.layers;
  section = d.section;
  layer = d.layer;
  lines = d.lines;
  literals = d.literals;
  hints = d.hints ++ h ∷ [];
  targets = d.targets;
  target = d.target;
}
acted (acts.Target n) d = record {
  kind = d.kind;
  layers = d.layers;
  section = d.section;
  layer = d.layer;
  lines = d.lines;
  literals = d.literals;
  hints = d.hints;
  targets = d.targets ++ n ∷ [];
  target = d.target;
}
acted (acts.Last n) d = closed d.section d n

-- the bytes that must come, the place behind them, and the act
abbrev pub Next : Type 0
Next = Option (List ℕ × Place × Act)

abbrev pub greatest_in : Role → ℕ
greatest_in roles.Eventuality = greatest_u32
greatest_in (roles.Literal claim negated) = 16777216
greatest_in (roles.Hint negated) = greatest_u64
greatest_in roles.Target = greatest_u64

-- behind the last target
abbrev pub place_behind : Section → Place
place_behind sections.Outside = places.End
place_behind sections.Base = places.Item
place_behind sections.Step = places.Item

-- the byte behind a number
abbrev pub end_in : Role → ℕ → Draft → ℕ → Next
end_in roles.Eventuality n d b = if b == 10 then Some ([], places.Item, acts.Layer (Some (n - 1))) else None
end_in (roles.Literal claim negated) n d b = if b == 32 then Some ([], places.Literal claim, acts.Literal (literal negated n)) else None
end_in (roles.Hint negated) n d b = if b == 32 then Some ([], places.Hint, acts.Hint (hint negated n)) else None
end_in roles.Target n d b =
    if length d.targets + 1 == wanted d then (if b == 10 then Some ([], place_behind d.section, acts.Last n) else None)
    else (if b == 32 then Some ([], places.First roles.Target, acts.Target n) else None)

-- a digit from 1 to 9 begins a number
abbrev pub first_in : Role → ℕ → Next
first_in role b = if nat_lt 48 b && nat_lt b 58 then Some ([], places.More role (b - 48), acts.Nothing) else None

abbrev pub number_in : Role → ℕ → Next
number_in roles.Eventuality b = if b == 48 then Some (codes "\n", places.Item, acts.Layer None) else first_in roles.Eventuality b
number_in (roles.Literal claim negated) b = first_in (roles.Literal claim negated) b
number_in (roles.Hint negated) b = first_in (roles.Hint negated) b
number_in roles.Target b = first_in roles.Target b

-- the 0 behind the literals of a claim, and of a line
abbrev pub nought_in : Bool → Next
nought_in true = Some (codes "\n", places.Item, acts.Claim)
nought_in false = Some (codes " ", places.Hint, acts.Nothing)

abbrev pub literal_in : Bool → ℕ → Next
literal_in claim b =
    if b == 48 then nought_in claim
    else (if b == 45 then Some ([], places.First (roles.Literal claim true), acts.Nothing)
    else first_in (roles.Literal claim false) b)

abbrev pub hint_in : ℕ → Next
hint_in b =
    if b == 48 then Some (codes "\n", places.Item, acts.Line)
    else (if b == 45 then Some ([], places.First (roles.Hint true), acts.Nothing)
    else first_in (roles.Hint false) b)

-- a layer may come before the lines of the close, a claim before the lines of its base, and these behind a claim
abbrev pub item_in : Section → Draft → ℕ → Next
item_in sections.Outside d b =
    if b == 99 then Some (codes "lose ", places.First roles.Target, acts.Nothing)
    else (if b == 108 then (if length d.lines == 0 then Some (codes "ayer ", places.First roles.Eventuality, acts.Nothing) else None)
    else literal_in false b)
item_in sections.Base d b =
    if b == 99 then (if length d.lines == 0 then Some (codes " ", places.Literal true, acts.Nothing) else None)
    else (if length d.layer.claims == 0 then None
    else (if b == 98 then Some (codes "ase ", places.First roles.Target, acts.Nothing)
    else literal_in false b))
item_in sections.Step d b = if b == 115 then Some (codes "tep ", places.First roles.Target, acts.Nothing) else literal_in false b

abbrev pub more_in : Role → ℕ → Draft → ℕ → Next
more_in role n d b =
    if nat_lt 47 b && nat_lt b 58
    then (if nat_lt (greatest_in role) (10 * n + (b - 48)) then None else Some ([], places.More role (10 * n + (b - 48)), acts.Nothing))
    else end_in role n d b

abbrev pub kind_in : ℕ → Next
kind_in b =
    if b == 105 then Some (codes "nfinite\n", places.Item, acts.Kind Kinds.Infinite)
    else (if b == 102 then Some (codes "inite\n", places.Item, acts.Kind Kinds.Finite) else None)

-- what a byte leads to, and nothing where no text goes on with it
abbrev pub decided : Place → Draft → ℕ → Next
decided places.Kind d b = kind_in b
decided places.Item d b = item_in d.section d b
decided (places.Literal claim) d b = literal_in claim b
decided places.Hint d b = hint_in b
decided (places.First role) d b = number_in role b
decided (places.More role n) d b = more_in role n d b
decided places.End d b = None

-- behind some bytes that must come
abbrev pub advanced : List ℕ → Place → Draft → ℕ → Next
advanced (x ∷ xs) place d b = if b == x then Some (xs, place, acts.Nothing) else None
advanced [] place d b = decided place d b

abbrev pub Scan : Type 0
Scan = List ℕ × Place × Draft

abbrev pub start : Scan
start = (codes "ltlinv 1 ", places.Kind, blank)

abbrev pub moved : Draft → Next → Option Scan
moved d None = None
moved d (Some t) = Some (t.0, t.1, acted t.2 d)

abbrev pub step : Scan → ℕ → Option Scan
step s b = moved s.2 (advanced s.0 s.1 s.2 b)

abbrev pub run : Scan → List ℕ → Option Scan
run s bytes = run_by step s bytes

-- the number that is being read fits its role
abbrev pub IsInRange : Place → Type 0
IsInRange places.Kind = ⊤
IsInRange places.Item = ⊤
IsInRange (places.Literal claim) = ⊤
IsInRange places.Hint = ⊤
IsInRange (places.First role) = ⊤
IsInRange (places.More role n) = (1 ≤ n) × (n ≤ greatest_in role)
IsInRange places.End = ⊤
