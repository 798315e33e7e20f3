-- The text up to each place of the scan, and what is true there.
use Rattle.std.proofs.Common.{◌≡◌, ℕ, ◌+◌, ◌-◌, ◌*◌, ◌/◌, ◌%◌, ◌<◌, ◌≤◌, ◌⊎◌, List, [], ◌∷◌, ◌++◌, length, All, sym, ap, ◌∙◌, arith, append_assoc}
use Rattle.std.specs.Prelude.{codes, decimal, ⊤}
use Rattle.std.specs.List.{flat_map}
use Rattle.std.proofs.lemmas.Fmt.{decimal_digit, decimal_step}
use Rattle.std.proofs.lemmas.Grind.{flat_map-append}
use Rattle.std.proofs.lemmas.List.{append-nil}
use Rattle.cert_text.specs.Text.{Certificate, greatest_u64, IsLiteral, IsNumber, IsHint, IsBegun, IsCertificate, kind_text, sign_text, literal_text, hint_text}
use Rattle.cert_text.specs.Text.{target_text, part_text, header_text}
use Rattle.cert_text.specs.Scan.{Role, OfDepth, OfLiteral, OfHint, OfTarget, OfDelete, Place, AtVersion, AtKind, AtNumber, InNumber, AtPart, AtLiteral, AtHint}
use Rattle.cert_text.specs.Scan.{AtEnd, Scan, greatest}

-- the header and the parts that are read, and the bytes behind them
abbrev pub header_before : Certificate → List ℕ → List ℕ
header_before c rest = codes "ltlcert " ++ (decimal c.version ++ (codes " " ++ (kind_text c.kind ++ (codes " " ++ (decimal c.depth ++ (10 ∷ rest))))))

abbrev pub parts_before : Certificate → List ℕ → List ℕ
parts_before c rest = header_before c (flat_map part_text c.parts ++ rest)

-- within a number
abbrev pub number_at : Role → ℕ → Scan
number_at role n = ([], InNumber role n)

-- the text before a number
abbrev pub role_before : Role → List ℕ → List ℕ
role_before (OfDepth version kind) rest = codes "ltlcert " ++ (decimal version ++ (codes " " ++ (kind_text kind ++ (32 ∷ rest))))
role_before (OfLiteral c literals negated) rest = parts_before c (flat_map literal_text literals ++ (sign_text negated ++ rest))
role_before (OfHint c literals hints negated) rest =
    parts_before c (flat_map literal_text literals ++ (codes "0 " ++ (flat_map hint_text hints ++ (sign_text negated ++ rest))))
role_before (OfTarget c) rest = parts_before c (codes "close" ++ (flat_map target_text c.targets ++ (32 ∷ rest)))
role_before (OfDelete c lines) rest = parts_before c (codes "d" ++ (flat_map target_text lines ++ (32 ∷ rest)))

-- the text up to a place, with the bytes behind it
abbrev pub before : Place → List ℕ → List ℕ
before AtVersion rest = codes "ltlcert " ++ rest
before (AtKind version) rest = codes "ltlcert " ++ (decimal version ++ (32 ∷ rest))
before (AtNumber role) rest = role_before role rest
before (InNumber role n) rest = role_before role (decimal n ++ rest)
before (AtPart c) rest = parts_before c rest
before (AtLiteral c literals) rest = parts_before c (flat_map literal_text literals ++ rest)
before (AtHint c literals hints) rest = parts_before c (flat_map literal_text literals ++ (codes "0 " ++ (flat_map hint_text hints ++ rest)))
before (AtEnd c) rest = parts_before c (codes "close" ++ (flat_map target_text c.targets ++ (10 ∷ rest)))

-- what is read so far keeps to the rules, and the close is not begun
pub record IsStarted (c : Certificate) : Type 0 where
  pub begun : IsBegun c
  pub none : c.targets ≡ []

abbrev pub IsRole : Role → Type 0
IsRole (OfDepth version kind) = (version ≡ 1) ⊎ (version ≡ 2)
IsRole (OfLiteral c literals negated) = IsStarted c × All IsLiteral literals
IsRole (OfHint c literals hints negated) = IsStarted c × All IsLiteral literals × All IsHint hints
IsRole (OfTarget c) = IsBegun c × (length c.targets < c.depth + 2) × All IsNumber c.targets
IsRole (OfDelete c lines) = IsStarted c × (c.version ≡ 2) × All IsNumber lines

abbrev pub IsPlace : Place → Type 0
IsPlace AtVersion = ⊤
IsPlace (AtKind version) = (version ≡ 1) ⊎ (version ≡ 2)
IsPlace (AtNumber role) = IsRole role
IsPlace (InNumber role n) = IsRole role × (1 ≤ n) × (n ≤ greatest role)
IsPlace (AtPart c) = IsStarted c
IsPlace (AtLiteral c literals) = IsStarted c × All IsLiteral literals
IsPlace (AtHint c literals hints) = IsStarted c × All IsLiteral literals × All IsHint hints
IsPlace (AtEnd c) = IsCertificate c

-- an item is put behind the others
pub flat_more : {X : Type 0} (f : X → List ℕ) (xs : List X) (x : X) (rest : List ℕ) → flat_map f (xs ++ x ∷ []) ++ rest ≡ flat_map f xs ++ (f x ++ rest)
flat_more f xs x rest =
    ap (λ ys. ys ++ rest) (flat_map-append f xs (x ∷ []) ∙ ap (λ ys. flat_map f xs ++ ys) (append-nil (f x))) ∙ append_assoc (flat_map f xs) (f x) rest

-- the first digit, and one more
pub first_text : (b : ℕ) (rest : List ℕ) → 48 < b → b < 58 → b ∷ rest ≡ decimal (b - 48) ++ rest
first_text b rest low high =
    let e : 48 + (b - 48) ≡ b = omega arith in
    sym (ap (λ ds. ds ++ rest) (decimal_digit (b - 48) (omega arith)) ∙ ap (λ x. x ∷ rest) e)

pub digit_text : (n b : ℕ) (rest : List ℕ)
    → 1 ≤ n → 47 < b → b < 58 → 10 * n + (b - 48) ≤ greatest_u64 → decimal n ++ (b ∷ rest) ≡ decimal (10 * n + (b - 48)) ++ rest
digit_text n b rest one low high fits =
    let m : ℕ = 10 * n + (b - 48) in
    let quotient : m / 10 ≡ n = omega arith in
    let digit : 48 + m % 10 ≡ b = omega arith in
    sym (ap (λ ds. ds ++ rest)
    (decimal_step m (omega arith) (omega arith) ∙ ap (λ k. decimal k ++ ((48 + m % 10) ∷ [])) quotient ∙ ap (λ x. decimal n ++ (x ∷ [])) digit)
    ∙ append_assoc (decimal n) (b ∷ []) rest)

-- each number that a role allows is below 2 ^ 64
pub greatest_fits : (role : Role) → greatest role ≤ greatest_u64
greatest_fits (OfDepth version kind) = omega arith
greatest_fits other = omega arith

-- the header with the bytes behind it
pub header_is : (c : Certificate) (rest : List ℕ) → header_before c rest ≡ header_text c ++ rest
header_is c rest =
    ap (λ x. codes "ltlcert " ++ x)
    (ap (λ x. decimal c.version ++ (32 ∷ x))
    (ap (λ x. kind_text c.kind ++ (32 ∷ x)) (sym (append_assoc (decimal c.depth) (codes "\n") rest))
    ∙ sym (append_assoc (kind_text c.kind) (32 ∷ (decimal c.depth ++ codes "\n")) rest))
    ∙ sym (append_assoc (decimal c.version) (32 ∷ (kind_text c.kind ++ (32 ∷ (decimal c.depth ++ codes "\n")))) rest))
