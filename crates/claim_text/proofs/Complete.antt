-- The pass reads every text to its end.
use Rattle.std.proofs.Common.{◌≡◌, ℕ, suc, ◌+◌, ◌-◌, ◌<◌, ◌≤◌, ◌==◌, Bool, true, false, List, [], ◌∷◌, ◌++◌, length, get_or, All, Option, Some, None, refl, sym}
use Rattle.std.proofs.Common.{ap, ◌∙◌, arith, append_assoc}
use Rattle.std.specs.Prelude.{codes, decimal}
use Rattle.std.specs.List.{flat_map}
use Rattle.std.proofs.lemmas.Bool.{cond-true, cond-false, eq-eqb, ne_eqb}
use Rattle.std.proofs.lemmas.Fmt.{decimal_digit}
use Rattle.std.proofs.lemmas.List.{append-nil, length_push}
use Rattle.std.proofs.lemmas.List.Elements.{All-nil, All-cons, All-head, All-tail}
use Rattle.ltl_syntax.specs.declared.node.Kind.{Kind}
use Rattle.ltl_syntax.specs.declared.node.Kind.TheVariants as Kinds
use Rattle.cnf_base.specs.declared.literal.Literal.{Literal}
use Rattle.cnf_base.specs.declared.literal.Hint.{Hint}
use Rattle.cnf_base.specs.declared.literal.Hint.TheVariants as hints
use Rattle.cert_text.specs.Text.{IsLiteral, IsNumber, IsHint, kind_text, literal_text, hint_text, target_text}
use Rattle.cert_text.specs.Scan.{literal}
use Rattle.claims.specs.Certificate.{HintedLine, Layer, Certificate}
use Rattle.claim_text.specs.Text.{eventuality_number, claim_text, line_text, targets_text, layer_text, text_of, base_targets_of, base_count, IsEventuality}
use Rattle.claim_text.specs.Text.{IsLine, IsLayer, IsWritable}
use Rattle.claim_text.specs.Scan.{Draft, Scan, outside, within, start, opened, wanted_in, with_base, with_step, closed, acted, greatest_in, place_behind}
use Rattle.claim_text.specs.Scan.{end_in, first_in, nought_in, literal_in, decided, moved, step, run}
use Rattle.claim_text.specs.declared.place.Section.{Section}
use Rattle.claim_text.specs.declared.place.Section.TheVariants as sections
use Rattle.claim_text.specs.declared.place.Role.{Role}
use Rattle.claim_text.specs.declared.place.Role.TheVariants as roles
use Rattle.claim_text.specs.declared.place.Place.{Place}
use Rattle.claim_text.specs.declared.place.Place.TheVariants as places
use Rattle.claim_text.specs.declared.place.Act.TheVariants as acts
use Rattle.cert_text.proofs.Machine.{run_step}
use Rattle.cert_text.proofs.Digits.{first_read, digit_read, digits_read}
use Rattle.claim_text.proofs.Places.{number_at, digits_in, word, HasClaims, claim_is, line_is, layer_is}
use Rattle.claim_text.proofs.Sound.{greatest_fits}

-- a number is read, where its first digit is
first_is : (role : Role) (d : Draft) (b : ℕ) → 48 < b → b < 58 → moved d (first_in role b) ≡ Some (number_at role d (b - 48))
first_is role d b low high = ap (moved d) (first_read (digits_in role) b low high)

number_read : (s : Scan) (role : Role) (d : Draft) → ((b : ℕ) → 48 < b → b < 58 → step s b ≡ Some (number_at role d (b - 48)))
    → (n : ℕ) → 1 ≤ n → n ≤ greatest_in role → (rest : List ℕ) → run s (decimal n ++ rest) ≡ run (number_at role d n) rest
number_read s role d first =
    digits_read step s (number_at role d) (greatest_in role) (greatest_fits role) first
    (λ n b low high few. ap (moved d) (digit_read (digits_in role) (greatest_in role) n b (end_in role n d b) low high few))

-- the place reads a literal or the 0 behind the literals
abbrev AsLiteral : Bool → Place → Draft → Type 0
AsLiteral claim p d = (b : ℕ) → b < 58 → decided p d b ≡ literal_in claim b

abbrev pub with_literals : Draft → List Literal → Draft
with_literals d ls = record {
  kind = d.kind;
  layers = d.layers;
  section = d.section;
  layer = d.layer;
  lines = d.lines;
  literals = ls;
  hints = d.hints;
  targets = d.targets;
  target = d.target;
}

abbrev pub with_hints : Draft → List Hint → Draft
with_hints d hs = record {
  kind = d.kind;
  layers = d.layers;
  section = d.section;
  layer = d.layer;
  lines = d.lines;
  literals = d.literals;
  hints = hs;
  targets = d.targets;
  target = d.target;
}

literal_read : (claim : Bool) (p : Place) (d : Draft) (negated : Bool) (n : ℕ) (rest : List ℕ) → AsLiteral claim p d → 1 ≤ n → n ≤ 16777216
    → run ([], p, d) (literal_text (literal negated n) ++ rest) ≡ run ([], places.Literal claim, with_literals d (d.literals ++ literal negated n ∷ [])) rest
literal_read claim p d true n rest reads low high =
    ap (λ x. run ([], p, d) (45 ∷ x)) (append_assoc (decimal n) (codes " ") rest)
    ∙ run_step step ([], p, d) ([], places.First (roles.Literal claim true), d) 45 (decimal n ++ (32 ∷ rest)) (ap (moved d) (reads 45 (omega arith)))
    ∙ number_read ([], places.First (roles.Literal claim true), d) (roles.Literal claim true) d (first_is (roles.Literal claim true) d) n low high (32 ∷ rest)
literal_read claim p d false n rest reads low high =
    ap (run ([], p, d)) (append_assoc (decimal n) (codes " ") rest)
    ∙ number_read ([], p, d) (roles.Literal claim false) d
    (λ b l h. ap (moved d) (reads b h
    ∙ cond-false (b == 48) _ _ (ne_eqb b 48 (λ e. omega arith))
    ∙ cond-false (b == 45) _ _ (ne_eqb b 45 (λ e. omega arith)))
    ∙ first_is (roles.Literal claim false) d b l h)
    n low high (32 ∷ rest)

-- behind the 0
abbrev behind : Bool → Draft → Scan
behind true d = (codes "\n", places.Item, acted acts.Claim d)
behind false d = (codes " ", places.Hint, d)

nought_read : (claim : Bool) (d : Draft) → moved d (nought_in claim) ≡ Some (behind claim d)
nought_read true d = refl
nought_read false d = refl

literals_read : (more : List Literal) (claim : Bool) (p : Place) (d : Draft) (rest : List ℕ) → AsLiteral claim p d → All IsLiteral more
    → run ([], p, d) (flat_map literal_text more ++ (48 ∷ rest)) ≡ run (behind claim (with_literals d (d.literals ++ more))) rest
literals_read [] claim p d rest reads all =
    run_step step ([], p, d) (behind claim d) 48 rest (ap (moved d) (reads 48 (omega arith)) ∙ nought_read claim d)
    ∙ ap (λ ls. run (behind claim (with_literals d ls)) rest) (sym (append-nil d.literals))
literals_read (l ∷ more) claim p d rest reads all =
    let here = All-head IsLiteral l more all in
    ap (run ([], p, d)) (append_assoc (literal_text l) (flat_map literal_text more) (48 ∷ rest))
    ∙ literal_read claim p d l.negated l.letter.0 (flat_map literal_text more ++ (48 ∷ rest)) reads here.0 here.1
    ∙ literals_read more claim (places.Literal claim) (with_literals d (d.literals ++ l ∷ [])) rest (λ b h. refl) (All-tail IsLiteral l more all)
    ∙ ap (λ ls. run (behind claim (with_literals d ls)) rest) (append_assoc d.literals (l ∷ []) more)

hint_read : (d : Draft) (h : Hint) (rest : List ℕ) → IsHint h
    → run ([], places.Hint, d) (hint_text h ++ rest) ≡ run ([], places.Hint, with_hints d (d.hints ++ h ∷ [])) rest
hint_read d (hints.Line n) rest is =
    ap (λ x. run ([], places.Hint, d) (45 ∷ x)) (append_assoc (decimal n) (codes " ") rest)
    ∙ number_read ([], places.First (roles.Hint true), d) (roles.Hint true) d (first_is (roles.Hint true) d) n is.0 is.1 (32 ∷ rest)
hint_read d (hints.Clause n) rest is =
    ap (run ([], places.Hint, d)) (append_assoc (decimal n) (codes " ") rest)
    ∙ number_read ([], places.Hint, d) (roles.Hint false) d
    (λ b l h. ap (moved d) (cond-false (b == 48) _ _ (ne_eqb b 48 (λ e. omega arith))
    ∙ cond-false (b == 45) _ _ (ne_eqb b 45 (λ e. omega arith)))
    ∙ first_is (roles.Hint false) d b l h)
    n is.0 is.1 (32 ∷ rest)

hints_read : (more : List Hint) (d : Draft) (rest : List ℕ) → All IsHint more
    → run ([], places.Hint, d) (flat_map hint_text more ++ (48 ∷ 10 ∷ rest)) ≡ run ([], places.Item, acted acts.Line (with_hints d (d.hints ++ more))) rest
hints_read [] d rest all = ap (λ hs. run ([], places.Item, acted acts.Line (with_hints d hs)) rest) (sym (append-nil d.hints))
hints_read (h ∷ more) d rest all =
    ap (run ([], places.Hint, d)) (append_assoc (hint_text h) (flat_map hint_text more) (48 ∷ 10 ∷ rest))
    ∙ hint_read d h (flat_map hint_text more ++ (48 ∷ 10 ∷ rest)) (All-head IsHint h more all)
    ∙ hints_read more (with_hints d (d.hints ++ h ∷ [])) rest (All-tail IsHint h more all)
    ∙ ap (λ hs. run ([], places.Item, acted acts.Line (with_hints d hs)) rest) (append_assoc d.hints (h ∷ []) more)

-- a line may come in a section
line_may : (s : Section) (l : Layer) → HasClaims s l → (kind : Kind) (layers : List Layer) (lines : List HintedLine)
    → AsLiteral false places.Item (within kind layers s l lines)
line_may sections.Outside l has kind layers lines b low =
    cond-false (b == 99) _ _ (ne_eqb b 99 (λ e. omega arith)) ∙ cond-false (b == 108) _ _ (ne_eqb b 108 (λ e. omega arith))
line_may sections.Base l has kind layers lines b low =
    cond-false (b == 99) _ _ (ne_eqb b 99 (λ e. omega arith))
    ∙ cond-false (length l.claims == 0) _ _ (ne_eqb (length l.claims) 0 (λ e. omega (arith, has, e)))
    ∙ cond-false (b == 98) _ _ (ne_eqb b 98 (λ e. omega arith))
line_may sections.Step l has kind layers lines b low = cond-false (b == 115) _ _ (ne_eqb b 115 (λ e. omega arith))

line_read : (kind : Kind) (layers : List Layer) (s : Section) (l : Layer) (lines : List HintedLine) (line : HintedLine) (rest : List ℕ)
    → HasClaims s l → IsLine line
    → run ([], places.Item, within kind layers s l lines) (line_text line ++ rest) ≡ run ([], places.Item, within kind layers s l (lines ++ line ∷ [])) rest
line_read kind layers s l lines line rest has is =
    let d = within kind layers s l lines in
    ap (run ([], places.Item, d)) (sym (line_is line rest))
    ∙ literals_read line.literals false places.Item d (32 ∷ (flat_map hint_text line.hints ++ (48 ∷ 10 ∷ rest))) (line_may s l has kind layers lines) is.0
    ∙ hints_read line.hints (with_literals d line.literals) rest is.1

lines_read : (more : List HintedLine) (kind : Kind) (layers : List Layer) (s : Section) (l : Layer) (lines : List HintedLine) (rest : List ℕ)
    → HasClaims s l → All IsLine more
    → run ([], places.Item, within kind layers s l lines) (flat_map line_text more ++ rest) ≡ run ([], places.Item, within kind layers s l (lines ++ more)) rest
lines_read [] kind layers s l lines rest has all = ap (λ ls. run ([], places.Item, within kind layers s l ls) rest) (sym (append-nil lines))
lines_read (line ∷ more) kind layers s l lines rest has all =
    ap (run ([], places.Item, within kind layers s l lines)) (append_assoc (line_text line) (flat_map line_text more) rest)
    ∙ line_read kind layers s l lines line (flat_map line_text more ++ rest) has (All-head IsLine line more all)
    ∙ lines_read more kind layers s l (lines ++ line ∷ []) rest has (All-tail IsLine line more all)
    ∙ ap (λ ls. run ([], places.Item, within kind layers s l ls) rest) (append_assoc lines (line ∷ []) more)

-- claims
abbrev with_claims : Layer → List (List Literal) → Layer
with_claims l cs = record {
  eventuality = l.eventuality;
  claims = cs;
  base_lines = l.base_lines;
  base_targets = l.base_targets;
  step_lines = l.step_lines;
  step_targets = l.step_targets;
}

claim_read : (kind : Kind) (layers : List Layer) (l : Layer) (c : List Literal) (rest : List ℕ) → All IsLiteral c
    → run ([], places.Item, within kind layers sections.Base l [])
    (claim_text c ++ rest) ≡ run ([], places.Item, within kind layers sections.Base (with_claims l (l.claims ++ c ∷ [])) []) rest
claim_read kind layers l c rest is =
    let d = within kind layers sections.Base l [] in
    ap (run ([], places.Item, d)) (sym (claim_is c rest))
    ∙ literals_read c true (places.Literal true) d (10 ∷ rest) (λ b low. refl) is

claims_read : (more : List (List Literal)) (kind : Kind) (layers : List Layer) (l : Layer) (rest : List ℕ) → All (All IsLiteral) more
    → run ([], places.Item, within kind layers sections.Base l [])
    (flat_map claim_text more ++ rest) ≡ run ([], places.Item, within kind layers sections.Base (with_claims l (l.claims ++ more)) []) rest
claims_read [] kind layers l rest all =
    ap (λ cs. run ([], places.Item, within kind layers sections.Base (with_claims l cs) []) rest) (sym (append-nil l.claims))
claims_read (c ∷ more) kind layers l rest all =
    ap (run ([], places.Item, within kind layers sections.Base l [])) (append_assoc (claim_text c) (flat_map claim_text more) rest)
    ∙ claim_read kind layers l c (flat_map claim_text more ++ rest) (All-head (All IsLiteral) c more all)
    ∙ claims_read more kind layers (with_claims l (l.claims ++ c ∷ [])) rest (All-tail (All IsLiteral) c more all)
    ∙ ap (λ cs. run ([], places.Item, within kind layers sections.Base (with_claims l cs) []) rest) (append_assoc l.claims (c ∷ []) more)

-- some targets are read
abbrev pub holding : Kind → List Layer → Section → Layer → List HintedLine → List ℕ → Draft
holding kind layers s l lines targets =
    record { kind = kind; layers = layers; section = s; layer = l; lines = lines; literals = []; hints = []; targets = targets; target = 0 }

-- and all of them
abbrev pub final : Section → Kind → List Layer → Layer → List HintedLine → List ℕ → Draft
final sections.Outside kind layers l lines targets =
    record {
      kind = kind;
      layers = layers;
      section = sections.Outside;
      layer = l;
      lines = lines;
      literals = [];
      hints = [];
      targets = [];
      target = get_or targets 0 0;
    }
final sections.Base kind layers l lines targets = within kind layers sections.Step (with_base l lines targets) []
final sections.Step kind layers l lines targets = outside kind (layers ++ with_step l lines targets ∷ []) []

last_read : (s : Section) (kind : Kind) (layers : List Layer) (l : Layer) (lines : List HintedLine) (ts : List ℕ) (n : ℕ) → length ts + 1 ≡ wanted_in s l
    → closed s (holding kind layers s l lines ts) n ≡ final s kind layers l lines (ts ++ n ∷ [])
last_read sections.Outside kind layers l lines [] n count = refl
last_read sections.Outside kind layers l lines (t ∷ ts) n count = absurd (omega (arith, count))
last_read sections.Base kind layers l lines ts n count = refl
last_read sections.Step kind layers l lines ts n count = refl

targets_read : (more : List ℕ) (s : Section) (kind : Kind) (layers : List Layer) (l : Layer) (lines : List HintedLine) (ts : List ℕ) (n : ℕ) (rest : List ℕ)
    → length ts + suc (length more) ≡ wanted_in s l → All IsNumber more
    → run ([], places.More roles.Target n, holding kind layers s l lines ts)
    (flat_map target_text more ++ (10 ∷ rest)) ≡ run ([], place_behind s, final s kind layers l lines (ts ++ n ∷ more)) rest
targets_read [] s kind layers l lines ts n rest count all =
    let d = holding kind layers s l lines ts in
    let last : length ts + 1 ≡ wanted_in s l = omega (arith, count) in
    run_step step ([], places.More roles.Target n, d) ([], place_behind s, closed s d n) 10 rest
    (ap (moved d) (cond-true (length ts + 1 == wanted_in s l) _ _ (eq-eqb (length ts + 1) (wanted_in s l) last)))
    ∙ ap (λ f. run ([], place_behind s, f) rest) (last_read s kind layers l lines ts n last)
targets_read (m ∷ more) s kind layers l lines ts n rest count all =
    let d = holding kind layers s l lines ts in
    let e = holding kind layers s l lines (ts ++ n ∷ []) in
    let m_is = All-head IsNumber m more all in
    run_step step ([], places.More roles.Target n, d) ([], places.First roles.Target, e) 32 ((decimal m ++ flat_map target_text more) ++ (10 ∷ rest))
    (ap (moved d) (cond-false (length ts + 1 == wanted_in s l) _ _ (ne_eqb (length ts + 1) (wanted_in s l) (λ h. omega (arith, h, count)))))
    ∙ ap (run ([], places.First roles.Target, e)) (append_assoc (decimal m) (flat_map target_text more) (10 ∷ rest))
    ∙ number_read ([], places.First roles.Target, e) roles.Target e (first_is roles.Target e) m m_is.0 m_is.1 (flat_map target_text more ++ (10 ∷ rest))
    ∙ targets_read more s kind layers l lines (ts ++ n ∷ []) m rest (omega (arith, count, length_push ts n)) (All-tail IsNumber m more all)
    ∙ ap (λ x. run ([], place_behind s, final s kind layers l lines x) rest) (append_assoc ts (n ∷ []) (m ∷ more))

-- the word before them
word_read : (s : Section) (kind : Kind) (layers : List Layer) (l : Layer) (lines : List HintedLine) (rest : List ℕ) → HasClaims s l
    → run ([], places.Item, within kind layers s l lines) (word s ++ (32 ∷ rest)) ≡ run ([], places.First roles.Target, within kind layers s l lines) rest
word_read sections.Outside kind layers l lines rest has = refl
word_read sections.Base kind layers l lines rest has =
    let d = within kind layers sections.Base l lines in
    run_step step ([], places.Item, d) (codes "ase ", places.First roles.Target, d) 98 (codes "ase " ++ rest)
    (ap (moved d) (cond-false (length l.claims == 0) _ _ (ne_eqb (length l.claims) 0 (λ e. omega (arith, has, e)))))
word_read sections.Step kind layers l lines rest has = refl

close_read : (s : Section) (targets : List ℕ) (kind : Kind) (layers : List Layer) (l : Layer) (lines : List HintedLine) (rest : List ℕ) → HasClaims s l
    → 1 ≤ wanted_in s l → length targets ≡ wanted_in s l → All IsNumber targets
    → run ([], places.Item, within kind layers s l lines)
    (word s ++ (flat_map target_text targets ++ (10 ∷ rest))) ≡ run ([], place_behind s, final s kind layers l lines targets) rest
close_read s [] kind layers l lines rest has some count all = absurd (omega (arith, some, count))
close_read s (n ∷ more) kind layers l lines rest has some count all =
    let d = within kind layers s l lines in
    let n_is = All-head IsNumber n more all in
    ap (λ x. run ([], places.Item, d) (word s ++ (32 ∷ x))) (append_assoc (decimal n) (flat_map target_text more) (10 ∷ rest))
    ∙ word_read s kind layers l lines (decimal n ++ (flat_map target_text more ++ (10 ∷ rest))) has
    ∙ number_read ([], places.First roles.Target, d) roles.Target d (first_is roles.Target d) n n_is.0 n_is.1 (flat_map target_text more ++ (10 ∷ rest))
    ∙ targets_read more s kind layers l lines [] n rest (omega (arith, count)) (All-tail IsNumber n more all)

-- the first line of a layer
eventuality_read : (e : Option ℕ) (kind : Kind) (layers : List Layer) (rest : List ℕ) → IsEventuality e
    → run ([], places.Item, outside kind layers [])
    (codes "layer " ++ (decimal (eventuality_number e) ++ (10 ∷ rest))) ≡ run ([], places.Item, within kind layers sections.Base (opened e) []) rest
eventuality_read None kind layers rest is =
    ap (λ ds. run ([], places.Item, outside kind layers []) (codes "layer " ++ (ds ++ (10 ∷ rest)))) (decimal_digit 0 (omega arith))
eventuality_read (Some e) kind layers rest is =
    let d = outside kind layers [] in
    let same : e + 1 - 1 ≡ e = omega arith in
    number_read ([], places.First roles.Eventuality, d) roles.Eventuality d
    (λ b l h. ap (moved d) (cond-false (b == 48) _ _ (ne_eqb b 48 (λ f. omega arith))) ∙ first_is roles.Eventuality d b l h) (e + 1) (omega arith)
    (omega (arith, is)) (10 ∷ rest)
    ∙ ap (λ k. run ([], places.Item, within kind layers sections.Base (opened (Some k)) []) rest) same

base_some : (l : Layer) → 1 ≤ length l.claims → 1 ≤ base_count l
base_some l some = go l.eventuality
  where
    go : (e : Option ℕ) → 1 ≤ base_targets_of e (length l.claims)
    go None = some
    go (Some e) = omega (arith, some)

layer_read : (kind : Kind) (layers : List Layer) (l : Layer) (rest : List ℕ) → IsLayer l
    → run ([], places.Item, outside kind layers []) (layer_text l ++ rest) ≡ run ([], places.Item, outside kind (layers ++ l ∷ []) []) rest
layer_read kind layers l rest is =
    let some = is.based.some in
    let claimed : Layer = with_claims (opened l.eventuality) l.claims in
    let based : Layer = with_base claimed l.base_lines l.base_targets in
    let step_on : List ℕ = flat_map line_text l.step_lines ++ (codes "step" ++ (flat_map target_text l.step_targets ++ (10 ∷ rest))) in
    let base_on : List ℕ = flat_map line_text l.base_lines ++ (codes "base" ++ (flat_map target_text l.base_targets ++ (10 ∷ step_on))) in
    ap (run ([], places.Item, outside kind layers [])) (sym (layer_is l rest))
    ∙ eventuality_read l.eventuality kind layers (flat_map claim_text l.claims ++ base_on) is.based.head.eventuality
    ∙ claims_read l.claims kind layers (opened l.eventuality) base_on is.based.head.claims
    ∙ lines_read l.base_lines kind layers sections.Base claimed [] (codes "base" ++ (flat_map target_text l.base_targets ++ (10 ∷ step_on))) some is.based.lines
    ∙ close_read sections.Base l.base_targets kind layers claimed l.base_lines step_on some (base_some l some) is.based.count is.based.targets
    ∙ lines_read l.step_lines kind layers sections.Step based [] (codes "step" ++ (flat_map target_text l.step_targets ++ (10 ∷ rest))) tt is.lines
    ∙ close_read sections.Step l.step_targets kind layers based l.step_lines rest tt some is.count is.targets

layers_read : (more : List Layer) (kind : Kind) (layers : List Layer) (rest : List ℕ) → All IsLayer more
    → run ([], places.Item, outside kind layers []) (flat_map layer_text more ++ rest) ≡ run ([], places.Item, outside kind (layers ++ more) []) rest
layers_read [] kind layers rest all = ap (λ ls. run ([], places.Item, outside kind ls []) rest) (sym (append-nil layers))
layers_read (l ∷ more) kind layers rest all =
    ap (run ([], places.Item, outside kind layers [])) (append_assoc (layer_text l) (flat_map layer_text more) rest)
    ∙ layer_read kind layers l (flat_map layer_text more ++ rest) (All-head IsLayer l more all)
    ∙ layers_read more kind (layers ++ l ∷ []) rest (All-tail IsLayer l more all)
    ∙ ap (λ ls. run ([], places.Item, outside kind ls []) rest) (append_assoc layers (l ∷ []) more)

kind_read : (kind : Kind) (rest : List ℕ) → run start (codes "ltlinv 1 " ++ (kind_text kind ++ (10 ∷ rest))) ≡ run ([], places.Item, outside kind [] []) rest
kind_read Kinds.Infinite rest = refl
kind_read Kinds.Finite rest = refl

-- what is read of a certificate's text
abbrev pub ended : Certificate → Draft
ended c = final sections.Outside c.kind c.layers (opened None) c.lines (c.target ∷ [])

pub whole_read : (c : Certificate) → IsWritable c → run start (text_of c) ≡ Some ([], places.End, ended c)
whole_read c is =
    let close : List ℕ = targets_text (codes "close") (c.target ∷ []) in
    kind_read c.kind (flat_map layer_text c.layers ++ (flat_map line_text c.lines ++ close))
    ∙ layers_read c.layers c.kind [] (flat_map line_text c.lines ++ close) is.layers
    ∙ lines_read c.lines c.kind c.layers sections.Outside (opened None) [] close tt is.lines
    ∙ close_read sections.Outside (c.target ∷ []) c.kind c.layers (opened None) c.lines [] tt (omega arith) refl (one c.target is.target)
  where
    one : (n : ℕ) → IsNumber n → All IsNumber (n ∷ [])
    one n fits = All-cons IsNumber n [] fits (All-nil IsNumber)
