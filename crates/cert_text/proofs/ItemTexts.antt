-- The items of a text, one after another.
use Rattle.std.proofs.Common.{◌≡◌, ℕ, ◌+◌, ◌-◌, ◌<◌, ◌≤◌, ◌==◌, ◌⊎◌, inl, inr, Bool, true, false, ◌&&◌, ltb, List, [], ◌∷◌, ◌++◌, length, slice_range, All}
use Rattle.std.proofs.Common.{refl, sym, ap, ap₂, ◌∙◌, subst, arith, append_assoc, length-append}
use Rattle.std.specs.Prelude.{codes, decimal}
use Rattle.std.specs.List.{flat_map, list_all}
use mathlib.Core.Bool.{false≢true}
use Rattle.std.proofs.lemmas.Bool.{cond-false, ne_eqb, ltb-true}
use Rattle.std.proofs.lemmas.Grind.{flat_map-append}
use Rattle.std.proofs.lemmas.List.{append-nil}
use Rattle.std.proofs.lemmas.List.Elements.{All-nil, All-head, All-tail, All-push, All-append}
use Rattle.ltl_syntax.specs.declared.node.Kind.{Kind}
use Rattle.ltl_syntax.specs.declared.node.Kind.TheVariants as Kinds
use Rattle.cnf_base.specs.declared.literal.Literal.{Literal}
use Rattle.cnf_base.specs.declared.literal.Hint.{Hint}
use Rattle.cnf_base.specs.declared.literal.Hint.TheVariants as hints
use Rattle.cert_text.specs.declared.item.CertItem.{CertItem}
use Rattle.cert_text.specs.declared.item.CertItem.TheVariants as items
use Rattle.cert_text.specs.Text.{Part, Line, Delete, Certificate, greatest_u64, IsLiteral, IsHint, IsNumber, IsPart, IsBegun, IsTextOf, sign_text, kind_text}
use Rattle.cert_text.specs.Text.{literal_text, hint_text, target_text, part_text, header_text, close_text}
use Rattle.cert_text.specs.Reading.{certificate_in}
use Rattle.cert_text.specs.Items.{item_of, items_from, items_of, IsItem, item_line, item_text, items_behind, items_at, IsReading}
use Rattle.cert_text.proofs.Slices.{in_text, digits_high}
use Rattle.cert_text.proofs.Sought.{word_of, word_high}
use Rattle.cert_text.proofs.Standing.{middle}

-- the text of the parts and the close is that of the items
pub part_item : (part : Part) → part_text part ≡ item_text (item_of part)
part_item (Line ls hs) =
    ap (λ x. flat_map literal_text ls ++ (codes "0 " ++ x)) (sym (append_assoc (flat_map hint_text hs) (codes "0") (codes "\n")))
    ∙ sym (append_assoc (flat_map literal_text ls) (codes "0 " ++ (flat_map hint_text hs ++ codes "0")) (codes "\n"))
part_item (Delete ns) = refl

items_text : (parts : List Part) (targets : List ℕ) → flat_map part_text parts ++ close_text targets ≡ flat_map item_text (items_from parts targets)
items_text [] targets = sym (append-nil (close_text targets))
items_text (part ∷ parts) targets =
    append_assoc (part_text part) (flat_map part_text parts) (close_text targets) ∙ ap₂ (λ x y. x ++ y) (part_item part) (items_text parts targets)

pub whole_text : (whole : List ℕ) (c : Certificate) → IsTextOf whole c → whole ≡ header_text c ++ flat_map item_text (items_of c)
whole_text whole c is = is.spelled ∙ ap (λ x. header_text c ++ x) (items_text c.parts c.targets)

pub part_fits : (version : ℕ) (part : Part) → IsPart version part → IsItem (item_of part)
part_fits version (Line ls hs) is = is
part_fits version (Delete ns) is = is.2

items_fit : (version : ℕ) (parts : List Part) (targets : List ℕ) → All (IsPart version) parts → All IsNumber targets → All IsItem (items_from parts targets)
items_fit version [] targets all numbers = All-push IsItem [] (items.Close targets) (All-nil IsItem) numbers
items_fit version (part ∷ parts) targets all numbers =
    All-append IsItem (item_of part ∷ []) (items_from parts targets)
    (All-push IsItem [] (item_of part) (All-nil IsItem) (part_fits version part (All-head (IsPart version) part parts all)))
    (items_fit version parts targets (All-tail (IsPart version) part parts all) numbers)

-- no byte of an item's line is a newline
abbrev pub Other : ℕ → Type 0
Other b = b ≡ 10 → ⊥

high_other : (xs : List ℕ) → All (λ b. 44 < b) xs → All Other xs
high_other xs all k d low e = let high = all k d low in omega (arith, high, e)

digits_other : (n : ℕ) → n ≤ greatest_u64 → All Other (decimal n)
digits_other n few k d low e = let high = digits_high n few k d low in omega (arith, high, e)

pub one_other : (b : ℕ) → Other b → All Other (b ∷ [])
one_other b other = All-push Other [] b (All-nil Other) other

cons_other : (b : ℕ) (xs : List ℕ) → Other b → All Other xs → All Other (b ∷ xs)
cons_other b xs other all = All-append Other (b ∷ []) xs (one_other b other) all

pub flat_other : {X : Type 0} (P : X → Type 0) (f : X → List ℕ) (xs : List X) → ((x : X) → P x → All Other (f x)) → All P xs → All Other (flat_map f xs)
flat_other P f [] each all = All-nil Other
flat_other P f (x ∷ xs) each all = All-append Other (f x) (flat_map f xs) (each x (All-head P x xs all)) (flat_other P f xs each (All-tail P x xs all))

literal_other : (l : Literal) → IsLiteral l → All Other (literal_text l)
literal_other l is =
    subst (All Other) (append_assoc (sign_text l.negated) (decimal l.letter.0) (codes " "))
    (All-append Other (word_of l) (codes " ") (high_other (word_of l) (word_high l is)) (one_other 32 (λ e. omega (arith, e))))

number_other : (n : ℕ) → IsNumber n → All Other (decimal n ++ codes " ")
number_other n is = All-append Other (decimal n) (codes " ") (digits_other n is.1) (one_other 32 (λ e. omega (arith, e)))

pub hint_other : (h : Hint) → IsHint h → All Other (hint_text h)
hint_other (hints.Clause n) is = number_other n is
hint_other (hints.Line n) is = cons_other 45 (decimal n ++ codes " ") (λ e. omega (arith, e)) (number_other n is)

target_other : (n : ℕ) → IsNumber n → All Other (target_text n)
target_other n is = cons_other 32 (decimal n) (λ e. omega (arith, e)) (digits_other n is.1)

pub item_other : (item : CertItem) → IsItem item → All Other (item_line item)
item_other (items.Line ls hs) is =
    All-append Other (flat_map literal_text ls) (codes "0 " ++ (flat_map hint_text hs ++ codes "0")) (flat_other IsLiteral literal_text ls literal_other is.0)
    (cons_other 48 (32 ∷ (flat_map hint_text hs ++ codes "0")) (λ e. omega (arith, e))
    (cons_other 32 (flat_map hint_text hs ++ codes "0") (λ e. omega (arith, e))
    (All-append Other (flat_map hint_text hs) (codes "0") (flat_other IsHint hint_text hs hint_other is.1) (one_other 48 (λ e. omega (arith, e))))))
item_other (items.Delete ns) is = cons_other 100 (flat_map target_text ns) (λ e. omega (arith, e)) (flat_other IsNumber target_text ns target_other is)
item_other (items.Close ts) is =
    All-append Other (codes "close") (flat_map target_text ts)
    (cons_other 99 (codes "lose") (λ e. omega (
      arith,
      e,
    )) (cons_other 108 (codes "ose") (λ e. omega (arith, e)) (cons_other 111 (codes "se") (λ e. omega (arith, e))
    (cons_other 115 (codes "e") (λ e. omega (arith, e)) (one_other 101 (λ e. omega (arith, e))))))) (flat_other IsNumber target_text ts target_other is)

-- the header without its newline
abbrev pub header_line : Certificate → List ℕ
header_line c = codes "ltlcert " ++ (decimal c.version ++ (codes " " ++ (kind_text c.kind ++ (codes " " ++ decimal c.depth))))

pub header_split : (c : Certificate) → header_text c ≡ header_line c ++ codes "\n"
header_split c =
    ap (λ x. codes "ltlcert " ++ x)
    (ap (λ x. decimal c.version ++ (32 ∷ x)) (sym (append_assoc (kind_text c.kind) (32 ∷ decimal c.depth) (codes "\n")))
    ∙ sym (append_assoc (decimal c.version) (32 ∷ (kind_text c.kind ++ (32 ∷ decimal c.depth))) (codes "\n")))

both : (x y : Bool) → (x && y) ≡ true → (x ≡ true) × (y ≡ true)
both true y e = (refl, e)
both false y e = absurd (false≢true e)

other_by : (xs : List ℕ) → list_all (λ b. ltb 10 b) xs ≡ true → All Other xs
other_by [] e = All-nil Other
other_by (x ∷ xs) e =
    let f = both (ltb 10 x) (list_all (λ b. ltb 10 b) xs) e in
    let low = ltb-true 10 x f.0 in
    cons_other x xs (λ h. omega (arith, low, h)) (other_by xs f.1)

kind_other : (kind : Kind) → All Other (kind_text kind)
kind_other Kinds.Infinite = other_by (codes "infinite") refl
kind_other Kinds.Finite = other_by (codes "finite") refl

version_few : (version : ℕ) → (version ≡ 1) ⊎ (version ≡ 2) → version ≤ greatest_u64
version_few version is = elim is [
  | inl one ↦ omega (arith, one)
  | inr two ↦ omega (arith, two)
]

pub header_other : (c : Certificate) → IsBegun c → All Other (header_line c)
header_other c is =
    All-append Other (codes "ltlcert ") (decimal c.version ++ (codes " " ++ (kind_text c.kind ++ (codes " " ++ decimal c.depth))))
    (other_by (codes "ltlcert ") refl)
    (All-append Other (decimal c.version) (codes " " ++ (kind_text c.kind ++ (codes " " ++ decimal c.depth)))
    (digits_other c.version (version_few c.version is.version))
    (cons_other 32 (kind_text c.kind ++ (codes " " ++ decimal c.depth)) (λ e. omega (arith, e))
    (All-append Other (kind_text c.kind) (codes " " ++ decimal c.depth) (kind_other c.kind)
    (cons_other 32 (decimal c.depth) (λ e. omega (arith, e)) (digits_other c.depth (let low = is.depth in omega (arith, low)))))))

-- behind the text of some items are the others
behind_none : (items : List CertItem) → items_behind 0 items ≡ items
behind_none [] = refl
behind_none (item ∷ more) = refl

behind_past : (past left : List CertItem) → items_behind (length (flat_map item_text past)) (past ++ left) ≡ left
behind_past [] left = behind_none left
behind_past (item ∷ past) left =
    let n : ℕ = length (flat_map item_text (item ∷ past)) in
    let one = length-append (item_text item) (flat_map item_text past) in
    let two = length-append (item_line item) (codes "\n") in
    let rest : n - length (item_text item) ≡ length (flat_map item_text past) = omega (arith, one) in
    cond-false (n == 0) _ _ (ne_eqb n 0 (λ e. omega (arith, one, two, e))) ∙ ap (λ k. items_behind k (past ++ left)) rest ∙ behind_past past left

pub items_left : (whole : List ℕ) (at : ℕ) (r : IsReading whole at) → items_at whole at ≡ r.left
items_left whole at r =
    let c = r.certificate in
    let one = length-append (header_text c) (flat_map item_text r.past) in
    let past : at - length (header_text c) ≡ length (flat_map item_text r.past) = omega (arith, r.place, one) in
    ap (λ d. items_behind (at - length (header_text d)) (items_of d)) (in_text whole c r.is) ∙ ap₂ items_behind past r.split ∙ behind_past r.past r.left

-- before the first item
pub reading_all : (whole : List ℕ) (c : Certificate) (end : ℕ) → IsTextOf whole c
    → ((before word more : List ℕ) → All Other word → whole ≡ before ++ (word ++ 10 ∷ more) → length before ≡ 0 → end ≡ length word)
    → IsReading whole (end + 1)
reading_all whole c end is found =
    let items : List ℕ = flat_map item_text (items_of c) in
    let spelled : whole ≡ header_line c ++ 10 ∷ items =
    whole_text whole c is ∙ ap (λ x. x ++ items) (header_split c) ∙ append_assoc (header_line c) (codes "\n") items in
    let at = found [] (header_line c) items (header_other c is.lawful.begun) spelled refl in
    let size = length-append (header_line c) (codes "\n") in record {
      certificate = c;
      is = is;
      past = [];
      left = items_of c;
      split = refl;
      place = omega (arith, at, size, ap length (header_split c), ap length (append-nil (header_text c)));
    }

all_behind : (xs ys : List CertItem) → All IsItem (xs ++ ys) → All IsItem ys
all_behind [] ys all = all
all_behind (x ∷ xs) ys all = all_behind xs ys (All-tail IsItem x (xs ++ ys) all)

pub reading_new : (whole : List ℕ) (c : Certificate) (end : ℕ) → IsTextOf whole c
    → ((before word more : List ℕ) → All Other word → whole ≡ before ++ (word ++ 10 ∷ more) → length before ≡ 0 → end ≡ length word)
    → items_at whole (end + 1) ≡ items_of (certificate_in whole)
reading_new whole c end is found =
    let items : List ℕ = flat_map item_text (items_of c) in
    let spelled : whole ≡ header_line c ++ 10 ∷ items =
    whole_text whole c is ∙ ap (λ x. x ++ items) (header_split c) ∙ append_assoc (header_line c) (codes "\n") items in
    let at = found [] (header_line c) items (header_other c is.lawful.begun) spelled refl in
    let size = length-append (header_line c) (codes "\n") in
    let none : (end + 1) - length (header_text (certificate_in whole)) ≡ 0 =
    omega (arith, at, size, ap length (header_split c), ap (λ d. length (header_text d)) (in_text whole c is)) in
    ap (λ n. items_behind n (items_of (certificate_in whole))) none ∙ behind_none (items_of (certificate_in whole))

-- an item begins here
pub record Front (whole : List ℕ) (at : ℕ) : Type 0 where
  pub item : CertItem
  pub others : List CertItem
  pub fits : IsItem item
  pub before : List ℕ
  pub more : List ℕ
  pub spelled : whole ≡ before ++ (item_line item ++ 10 ∷ more)
  pub place : length before ≡ at
  pub left : items_at whole at ≡ item ∷ others
  pub next : IsReading whole (at + length (item_line item) + 1)
  pub left_next : items_at whole (at + length (item_line item) + 1) ≡ others

pub front : (whole : List ℕ) (at : ℕ) → IsReading whole at → at < length whole → Front whole at
front whole at r low = go r.left r.split refl
  where
    go : (left : List CertItem) → items_of r.certificate ≡ r.past ++ left → r.left ≡ left → Front whole at
    go [] split same = absurd (
        let one : whole ≡ header_text r.certificate ++ flat_map item_text r.past =
        whole_text whole r.certificate r.is ∙ ap (λ x. header_text r.certificate ++ flat_map item_text x) (split ∙ append-nil r.past) in
        omega (arith, low, r.place, ap length one))
    go (item ∷ others) split same =
        let c = r.certificate in
        let before : List ℕ = header_text c ++ flat_map item_text r.past in
        let more : List ℕ = flat_map item_text others in
        let spelled : whole ≡ before ++ (item_line item ++ 10 ∷ more) =
        whole_text whole c r.is ∙ ap (λ x. header_text c ++ flat_map item_text x) split
        ∙ ap (λ x. header_text c ++ x) (flat_map-append item_text r.past (item ∷ others))
        ∙ sym (append_assoc (header_text c) (flat_map item_text r.past) (item_text item ++ more))
        ∙ ap (λ x. before ++ x) (append_assoc (item_line item) (codes "\n") more) in
        let grown : flat_map item_text (r.past ++ item ∷ []) ≡ flat_map item_text r.past ++ item_text item =
        flat_map-append item_text r.past (item ∷ []) ∙ ap (λ x. flat_map item_text r.past ++ x) (append-nil (item_text item)) in
        let one = length-append (header_text c) (flat_map item_text r.past) in
        let two = length-append (header_text c) (flat_map item_text (r.past ++ item ∷ [])) in
        let three = length-append (flat_map item_text r.past) (item_text item) in
        let four = length-append (item_line item) (codes "\n") in
        let next : IsReading whole (at + length (item_line item) + 1) = record {
          certificate = c;
          is = r.is;
          past = r.past ++ item ∷ [];
          left = others;
          split = split ∙ sym (append_assoc r.past (item ∷ []) others);
          place = omega (arith, r.place, one, two, three, four, ap length grown);
        } in record {
          item = item;
          others = others;
          fits = fits item others split;
          before = before;
          more = more;
          spelled = spelled;
          place = sym r.place;
          left = items_left whole at r ∙ same;
          next = next;
          left_next = items_left whole (at + length (item_line item) + 1) next;
        }
      where
        fits : (item : CertItem) (others : List CertItem) → items_of r.certificate ≡ r.past ++ item ∷ others → IsItem item
        fits item others split =
            let all = subst (All IsItem) split
            (items_fit r.certificate.version r.certificate.parts r.certificate.targets r.is.lawful.begun.parts r.is.lawful.targets) in
            All-head IsItem item others (all_behind r.past (item ∷ others) all)

-- behind the last one
pub none_left : (whole : List ℕ) (at : ℕ) → IsReading whole at → length whole ≤ at → items_at whole at ≡ []
none_left whole at r end = items_left whole at r ∙ go r.left r.split
  where
    go : (left : List CertItem) → items_of r.certificate ≡ r.past ++ left → left ≡ []
    go [] split = refl
    go (item ∷ others) split = absurd (
        let c = r.certificate in
        let spelled : whole ≡ header_text c ++ (flat_map item_text r.past ++ (item_text item ++ flat_map item_text others)) =
        whole_text whole c r.is ∙ ap (λ x. header_text c ++ flat_map item_text x) split
        ∙ ap (λ x. header_text c ++ x) (flat_map-append item_text r.past (item ∷ others)) in
        let one = length-append (header_text c) (flat_map item_text r.past ++ (item_text item ++ flat_map item_text others)) in
        let two = length-append (flat_map item_text r.past) (item_text item ++ flat_map item_text others) in
        let three = length-append (item_text item) (flat_map item_text others) in
        let four = length-append (item_line item) (codes "\n") in
        let five = length-append (header_text c) (flat_map item_text r.past) in
        omega (arith, end, r.place, ap length spelled, one, two, three, four, five))

-- the item's line, up to its newline
pub front_line : (whole : List ℕ) (at end : ℕ) (f : Front whole at) → end ≡ at + length (item_line f.item) → slice_range whole at end ≡ item_line f.item
front_line whole at end f is = ap (λ y. slice_range y at end) f.spelled ∙ middle f.before (item_line f.item) (10 ∷ f.more) at end (sym f.place) is

-- it is read
pub front_read : (whole : List ℕ) (at end : ℕ) (f : Front whole at) (item : CertItem) → end ≡ at + length (item_line f.item)
    → item ≡ f.item → items_at whole at ≡ item ∷ items_at whole (end + 1)
front_read whole at end f item is same = f.left ∙ ap₂ (λ x xs. x ∷ xs) (sym same) (sym (ap (λ n. items_at whole (n + 1)) is ∙ f.left_next))
