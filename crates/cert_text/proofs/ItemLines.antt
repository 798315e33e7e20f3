-- The line of an item shows by its first byte which it is.
use Rattle.std.proofs.Common.{◌≡◌, ℕ, ◌+◌, ◌-◌, ◌%◌, ◌<◌, ◌≤◌, Bool, true, false, List, [], ◌∷◌, ◌++◌, length, take, drop, get_or, slice_range, All, refl, sym}
use Rattle.std.proofs.Common.{ap, ◌∙◌, arith, append_assoc, length-append}
use Rattle.std.specs.Prelude.{codes, decimal}
use Rattle.std.specs.List.{flat_map}
use Rattle.std.proofs.lemmas.Fmt.{decimal_by_steps, decimal_nonempty}
use Rattle.std.proofs.lemmas.List.{take_at, take_rest, drop_at, get_or_append_left}
use Rattle.std.proofs.lemmas.List.Elements.{All-nil, All-head, All-push}
use Rattle.cnf_base.specs.declared.literal.Literal.{Literal}
use Rattle.cnf_base.specs.declared.literal.Hint.{Hint}
use Rattle.cert_text.specs.declared.item.CertItem.{CertItem}
use Rattle.cert_text.specs.declared.item.CertItem.TheVariants as items
use Rattle.cert_text.specs.Text.{greatest_u64, IsLiteral, IsNumber, sign_text, literal_text, hint_text, target_text}
use Rattle.cert_text.specs.Items.{IsItem, line_text, item_line}
use Rattle.cert_text.proofs.Standing.{middle}
use Rattle.cert_text.proofs.Sound.{apart}

digits_low : (n : ℕ) → n ≤ greatest_u64 → All (λ b. b < 58) (decimal n)
digits_low n few =
    decimal_by_steps (λ m ds. All (λ b. b < 58) ds) (λ m small. All-push (λ b. b < 58) [] (48 + m) (All-nil (λ b. b < 58)) (omega (arith, small)))
    (λ m ds big before. All-push (λ b. b < 58) ds (48 + m % 10) before (omega arith)) n (omega (arith, few))

literal_low : (negated : Bool) (n : ℕ) (more : List ℕ) → n ≤ greatest_u64 → get_or (sign_text negated ++ (decimal n ++ more)) 0 0 < 58
literal_low true n more few = omega arith
literal_low false n more few =
    let some = decimal_nonempty n (omega (arith, few)) in
    let low = digits_low n few 0 0 some in
    omega (arith, low, get_or_append_left (decimal n) more 0 0 some)

-- a line begins with a digit or a sign
pub line_low : (ls : List Literal) (hs : List Hint) → All IsLiteral ls → get_or (line_text ls hs) 0 0 < 58
line_low [] hs all = omega arith
line_low (l ∷ ls) hs all =
    let rest : List ℕ = codes "0 " ++ (flat_map hint_text hs ++ codes "0") in
    let is : line_text (l ∷ ls) hs ≡ sign_text l.negated ++ (decimal l.letter.0 ++ (codes " " ++ (flat_map literal_text ls ++ rest))) =
    append_assoc (literal_text l) (flat_map literal_text ls) rest
    ∙ apart (sign_text l.negated) (decimal l.letter.0) (codes " ") (flat_map literal_text ls ++ rest) in
    let low = literal_low l.negated l.letter.0 (codes " " ++ (flat_map literal_text ls ++ rest))
    (let fits = All-head IsLiteral l ls all in omega (arith, fits)) in
    omega (arith, low, ap (λ x. get_or x 0 0) is)

-- numbers stand behind the first bytes of the line
pub record HasNumbers (line : List ℕ) (item : CertItem) (skip : ℕ) (make : List ℕ → CertItem) : Type 0 where
  pub numbers : List ℕ
  pub fits : All IsNumber numbers
  pub is : item ≡ make numbers
  pub long : skip ≤ length line
  pub slice : take (length line - skip) (drop skip line) ≡ flat_map target_text numbers

pub close_line : (line : List ℕ) (item : CertItem) → IsItem item → line ≡ item_line item → get_or line 0 0 ≡ 99 → HasNumbers line item 5 items.Close
close_line line (items.Line ls hs) fits is first = absurd (let low = line_low ls hs fits.0 in omega (arith, low, first, ap (λ x. get_or x 0 0) is))
close_line line (items.Delete ns) fits is first = absurd (let e : 100 ≡ 99 = sym (ap (λ x. get_or x 0 0) is) ∙ first in omega (arith, e))
close_line line (items.Close ts) fits is first = record {
  numbers = ts;
  fits = fits;
  is = refl;
  long = (let size = length-append (codes "close") (flat_map target_text ts) in omega (arith, size, ap length is));
  slice = take_rest line 5 ∙ ap (drop 5) is ∙ drop_at (codes "close") (flat_map target_text ts) 5 refl;
}

pub delete_line : (line : List ℕ) (item : CertItem) → IsItem item → line ≡ item_line item → get_or line 0 0 ≡ 100 → HasNumbers line item 1 items.Delete
delete_line line (items.Line ls hs) fits is first = absurd (let low = line_low ls hs fits.0 in omega (arith, low, first, ap (λ x. get_or x 0 0) is))
delete_line line (items.Close ts) fits is first = absurd (let e : 99 ≡ 100 = sym (ap (λ x. get_or x 0 0) is) ∙ first in omega (arith, e))
delete_line line (items.Delete ns) fits is first = record {
  numbers = ns;
  fits = fits;
  is = refl;
  long = (let size = length-append (codes "d") (flat_map target_text ns) in omega (arith, size, ap length is));
  slice = take_rest line 1 ∙ ap (drop 1) is ∙ drop_at (codes "d") (flat_map target_text ns) 1 refl;
}

-- the literals and the hints in a line
pub literals_slice : (line : List ℕ) (ls : List Literal) (hs : List Hint) (end : ℕ) → line ≡ line_text ls hs → end ≡ length (flat_map literal_text ls)
    → take end line ≡ flat_map literal_text ls
literals_slice line ls hs end is at = ap (take end) is ∙ take_at (flat_map literal_text ls) (codes "0 " ++ (flat_map hint_text hs ++ codes "0")) end (sym at)

pub hints_slice : (line : List ℕ) (ls : List Literal) (hs : List Hint) (end : ℕ) → line ≡ line_text ls hs → end ≡ length (flat_map literal_text ls)
    → slice_range line (end + 2) (length line - 1) ≡ flat_map hint_text hs
hints_slice line ls hs end is at =
    let l = flat_map literal_text ls in
    let x = flat_map hint_text hs in
    let spelled : line ≡ (l ++ codes "0 ") ++ (x ++ codes "0") = is ∙ sym (append_assoc l (codes "0 ") (x ++ codes "0")) in
    let one = length-append (l ++ codes "0 ") (x ++ codes "0") in
    let two = length-append l (codes "0 ") in
    let three = length-append x (codes "0") in
    ap (λ y. slice_range y (end + 2) (length line - 1)) spelled
    ∙ middle (l ++ codes "0 ") x (codes "0") (end + 2) (length line - 1) (omega (arith, at, two)) (omega (arith, at, one, two, three, ap length spelled))
