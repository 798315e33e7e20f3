-- What slices of a text say.
use Rattle.std.proofs.Common.{◌≡◌, ℕ, ◌+◌, ◌-◌, ◌*◌, ◌/◌, ◌%◌, ◌^◌, ◌<◌, ◌≤◌, inl, inr, Bool, true, false, List, [], ◌∷◌, ◌++◌, length, take, drop, get_or, All}
use Rattle.std.proofs.Common.{Some, refl, sym, ap, ap₂, ◌∙◌, arith, append_assoc, add-one}
use Rattle.std.specs.Prelude.{codes, decimal}
use Rattle.std.specs.List.{flat_map}
use Rattle.std.proofs.Math.Seq.{take-suc}
use Rattle.std.proofs.lemmas.Bool.{cases_lt, cases_order}
use Rattle.std.proofs.lemmas.Fmt.{decimal_by_steps, decimal_nonempty}
use Rattle.std.proofs.lemmas.List.{append-nil, take_at, take_rest, drop_at, length-append, length_push, get_or_append_left, get_or_at}
use Rattle.std.proofs.lemmas.List.Elements.{All-nil, All-head, All-tail, All-push}
use Rattle.cnf_base.specs.declared.literal.Literal.{Literal}
use Rattle.cnf_base.specs.declared.literal.Hint.{Hint}
use Rattle.cnf_base.specs.declared.literal.Hint.TheVariants as hints
use Rattle.cert_text.specs.Text.{Certificate, greatest_u64, IsLiteral, IsHint, IsNumber, sign_text, literal_text, hint_text, target_text, IsTextOf}
use Rattle.cert_text.specs.Scan.{Scan, AtLiteral, AtHint, run, literal, hint}
use Rattle.cert_text.specs.Reading.{blank, certificate_at, certificate_in, literals_at, literals_in, hints_at, hints_in, numbers_in, numbers_at, AreLiterals}
use Rattle.cert_text.specs.Reading.{AreHints, AreNumbers, EndsNumber, signed_text, IsSigned, value_on}
use Rattle.cert_text.proofs.Sound.{apart}
use Rattle.cert_text.proofs.Complete.{literal_read, hint_read, deletes_read}
use Rattle.cert_text.proofs.Faults.{scan_text}

-- the certificate in a text
pub in_text : (bytes : List ℕ) (c : Certificate) → IsTextOf bytes c → certificate_in bytes ≡ c
in_text bytes c is = ap certificate_at (scan_text bytes c is)

-- the literals in their text
literals_run : (more : List Literal) (ls : List Literal) → All IsLiteral more
    → run ([], AtLiteral blank ls) (flat_map literal_text more) ≡ Some ([], AtLiteral blank (ls ++ more))
literals_run [] ls all = ap (λ x. let s : Scan = ([], AtLiteral blank x) in Some s) (sym (append-nil ls))
literals_run (l ∷ more) ls all =
    let here = All-head IsLiteral l more all in
    literal_read (AtLiteral blank ls) blank ls l.negated l.letter.0 (flat_map literal_text more) (λ b h. refl) here.0 here.1
    ∙ literals_run more (ls ++ l ∷ []) (All-tail IsLiteral l more all)
    ∙ ap (λ x. let s : Scan = ([], AtLiteral blank x) in Some s) (append_assoc ls (l ∷ []) more)

pub literals_are : (ls : List Literal) → All IsLiteral ls → literals_in (flat_map literal_text ls) ≡ ls
literals_are ls all = ap literals_at (literals_run ls [] all)

hints_run : (more : List Hint) (hs : List Hint) → All IsHint more
    → run ([], AtHint blank [] hs) (flat_map hint_text more) ≡ Some ([], AtHint blank [] (hs ++ more))
hints_run [] hs all = ap (λ x. let s : Scan = ([], AtHint blank [] x) in Some s) (sym (append-nil hs))
hints_run (h ∷ more) hs all =
    hint_read blank [] hs h (flat_map hint_text more) (All-head IsHint h more all)
    ∙ hints_run more (hs ++ h ∷ []) (All-tail IsHint h more all)
    ∙ ap (λ x. let s : Scan = ([], AtHint blank [] x) in Some s) (append_assoc hs (h ∷ []) more)

pub hints_are : (hs : List Hint) → All IsHint hs → hints_in (flat_map hint_text hs) ≡ hs
hints_are hs all = ap hints_at (hints_run hs [] all)

-- one digit more
value_push : (n : ℕ) (ds : List ℕ) (b : ℕ) → value_on n (ds ++ b ∷ []) ≡ (value_on n ds * 10 % 2 ^ 64 + (b + 208) % 2 ^ 8) % 2 ^ 64
value_push n [] b = refl
value_push n (d ∷ ds) b = value_push ((n * 10 % 2 ^ 64 + (d + 208) % 2 ^ 8) % 2 ^ 64) ds b

-- the value of a number's digits
value_is : (n : ℕ) → n ≤ greatest_u64 → value_on 0 (decimal n) ≡ n
value_is n few = decimal_by_steps P one more n (omega (arith, few)) few
  where
    P : ℕ → List ℕ → Type 0
    P n ds = n ≤ greatest_u64 → value_on 0 ds ≡ n

    one : (n : ℕ) → n < 10 → P n ((48 + n) ∷ [])
    one n small few = omega (arith, small)

    more : (n : ℕ) (ds : List ℕ) → 10 ≤ n → P (n / 10) ds → P n (ds ++ ((48 + n % 10) ∷ []))
    more n ds big before few =
        let part : value_on 0 ds ≡ n / 10 = before (omega (arith, few)) in
        value_push 0 ds (48 + n % 10) ∙ ap (λ v. (v * 10 % 2 ^ 64 + (48 + n % 10 + 208) % 2 ^ 8) % 2 ^ 64) part ∙ omega (arith, few)

-- no digit is a space
pub digits_high : (n : ℕ) → n ≤ greatest_u64 → All (λ b. 47 < b) (decimal n)
digits_high n few = decimal_by_steps (λ m ds. All (λ b. 47 < b) ds) (λ m small. All-push (λ b. 47 < b) [] (48 + m) (All-nil (λ b. 47 < b)) (omega arith))
    (λ m ds big before. All-push (λ b. 47 < b) ds (48 + m % 10) before (omega arith)) n (omega (arith, few))

-- the number is read up to here
pub record HasPassed (digits : List ℕ) (n len : ℕ) : Type 0 where
  pub within : len ≤ length digits
  pub value : n ≡ value_on 0 (take len digits)
  pub passed : (k : ℕ) → k < len → get_or digits k 0 ≡ 32 → ⊥

pub passed_more : (digits : List ℕ) (value len : ℕ) → HasPassed digits value len → len < length digits → (get_or digits len 0 ≡ 32 → ⊥)
    → HasPassed digits ((value * 10 % 2 ^ 64 + (get_or digits len 0 + 208) % 2 ^ 8) % 2 ^ 64) (len + 1)
passed_more digits value len has low other = record {
  within = omega (arith, low);
  value =
      ap (λ v. (v * 10 % 2 ^ 64 + (get_or digits len 0 + 208) % 2 ^ 8) % 2 ^ 64) has.value
      ∙ sym (value_push 0 (take len digits) (get_or digits len 0))
      ∙ ap (value_on 0) (sym (take-suc digits len 0 low) ∙ ap (λ k. take k digits) (sym (add-one len)));
  passed = λ k below. elim (cases_lt k len)
      [ inl before ↦ has.passed k before | inr at ↦ (let e : k ≡ len = omega (arith, at, below) in λ h. other (ap (λ i. get_or digits i 0) (sym e) ∙ h)) ];
}

-- where it ends
pub number_is : (digits : List ℕ) (value len : ℕ) → HasPassed digits value len → (len < length digits → get_or digits len 0 ≡ 32)
    → (n : ℕ) (more : List ℕ) → n ≤ greatest_u64 → digits ≡ decimal n ++ more → EndsNumber more → (value ≡ n) × (len ≡ length (decimal n))
number_is digits value len has stops n more few is ends =
    let count = length-append (decimal n) more in
    let whole = ap length is in
    let at : len ≡ length (decimal n) = elim (cases_order len (length (decimal n))) [
      | inl e ↦ e
      | inr (inl early) ↦ absurd (
          let space : get_or digits len 0 ≡ 32 = stops (omega (arith, early, count, whole)) in
          let digit = digits_high n few len 0 early in
          let same : get_or digits len 0 ≡ get_or (decimal n) len 0 = ap (λ x. get_or x len 0) is ∙ get_or_append_left (decimal n) more 0 len early in
          omega (arith, digit, space, same))
      | inr (inr late) ↦ absurd (behind more is ends (omega (arith, late, has.within, count, whole)) late)
    ] in
    (has.value ∙ ap (value_on 0) (ap (take len) is ∙ take_at (decimal n) more len (sym at)) ∙ value_is n few, at)
  where
    behind : (more : List ℕ) → digits ≡ decimal n ++ more → EndsNumber more → 0 < length more → length (decimal n) < len → ⊥
    behind [] is ends some late = omega (arith, some)
    behind (b ∷ bytes) is ends some late =
        has.passed (length (decimal n)) late (ap (λ x. get_or x (length (decimal n)) 0) is ∙ get_or_at (decimal n) b bytes 0 (length (decimal n)) refl ∙ ends)

-- the number at the front has a sign exactly where the first byte is one
front_digit : (n : ℕ) (more : List ℕ) → n ≤ greatest_u64 → get_or (decimal n ++ more) 0 0 ≡ 45 → ⊥
front_digit n more few e =
    let some : 0 < length (decimal n) = decimal_nonempty n (omega (arith, few)) in
    let high = digits_high n few 0 0 some in
    let same = get_or_append_left (decimal n) more 0 0 some in
    omega (arith, high, same, e)

pub minus_digits : (bytes : List ℕ) (b : Bool) (n : ℕ) (more : List ℕ) → n ≤ greatest_u64 → bytes ≡ signed_text b n more → get_or bytes 0 0 ≡ 45
    → (true ≡ b) × (take (length bytes - 1) (drop 1 bytes) ≡ decimal n ++ (32 ∷ more))
minus_digits bytes true n more few is front = (refl, take_rest bytes 1 ∙ ap (drop 1) is)
minus_digits bytes false n more few is front = absurd (front_digit n (32 ∷ more) few (sym (ap (λ x. get_or x 0 0) is) ∙ front))

pub plain_digits : (bytes : List ℕ) (b : Bool) (n : ℕ) (more : List ℕ) → n ≤ greatest_u64 → bytes ≡ signed_text b n more → (get_or bytes 0 0 ≡ 45 → ⊥)
    → (false ≡ b) × (bytes ≡ decimal n ++ (32 ∷ more))
plain_digits bytes true n more few is front = absurd (front (ap (λ x. get_or x 0 0) is))
plain_digits bytes false n more few is front = (refl, is)

-- what is behind the space
pub behind_space : (digits ds rest : List ℕ) (len : ℕ) → digits ≡ ds ++ (32 ∷ rest) → len ≡ length ds
    → (len + 1 ≤ length digits) × (take (length digits - (len + 1)) (drop (len + 1) digits) ≡ rest)
behind_space digits ds rest len is at =
    let long : length (ds ++ 32 ∷ []) ≡ len + 1 = omega (arith, at, length_push ds 32) in (
      omega (arith, ap length is, length-append ds (32 ∷ rest), at),
      take_rest digits (len + 1) ∙ ap (drop (len + 1)) (is ∙ sym (append_assoc ds (32 ∷ []) rest)) ∙ drop_at (ds ++ 32 ∷ []) rest (len + 1) long,
    )

-- what is behind a number that has a space before it
pub behind_number : (digits ds rest : List ℕ) (len : ℕ) → digits ≡ ds ++ rest → len ≡ length ds → take (length digits - len) (drop len digits) ≡ rest
behind_number digits ds rest len is at = take_rest digits len ∙ ap (drop len) is ∙ drop_at ds rest len (sym at)

-- a literal is at the front
pub record FrontLiteral (bytes : List ℕ) : Type 0 where
  pub first : Literal
  pub others : List Literal
  pub all : All IsLiteral (first ∷ others)
  pub fits : IsLiteral first
  pub spelled : bytes ≡ signed_text first.negated first.letter.0 (flat_map literal_text others)

pub front_literal : (bytes : List ℕ) → AreLiterals bytes → 0 < length bytes → FrontLiteral bytes
front_literal bytes are some = go are.0 are.1 are.2
  where
    go : (ls : List Literal) → All IsLiteral ls → bytes ≡ flat_map literal_text ls → FrontLiteral bytes
    go [] all is = absurd (omega (arith, some, ap length is))
    go (l ∷ ls) all is = record {
      first = l;
      others = ls;
      all = all;
      fits = All-head IsLiteral l ls all;
      spelled = is ∙ apart (sign_text l.negated) (decimal l.letter.0) (codes " ") (flat_map literal_text ls);
    }

pub signed_literal : (bytes : List ℕ) → FrontLiteral bytes → IsSigned bytes
signed_literal bytes f =
    record { negated = f.first.negated; number = f.first.letter.0; more = flat_map literal_text f.others; fits = omega (arith, f.fits.1); spelled = f.spelled }

pub after_literal : (bytes rest : List ℕ) (f : FrontLiteral bytes) (b : Bool) (n : ℕ)
    → b ≡ f.first.negated → n ≡ f.first.letter.0 → rest ≡ flat_map literal_text f.others
    → AreLiterals rest × (literals_in bytes ≡ literal b n ∷ literals_in rest)
after_literal bytes rest f b n sign value left =
    let tail = All-tail IsLiteral f.first f.others f.all in
    let whole : bytes ≡ flat_map literal_text (f.first ∷ f.others) =
    f.spelled ∙ sym (apart (sign_text f.first.negated) (decimal f.first.letter.0) (codes " ") (flat_map literal_text f.others)) in (
      (f.others, tail, left),
      ap literals_in whole ∙ literals_are (f.first ∷ f.others) f.all
          ∙ ap₂ (λ x xs. x ∷ xs) (ap₂ literal (sym sign) (sym value)) (sym (ap literals_in left ∙ literals_are f.others tail)),
    )

-- a hint is at the front
pub record FrontHint (bytes : List ℕ) : Type 0 where
  pub negated : Bool
  pub number : ℕ
  pub others : List Hint
  pub all : All IsHint (hint negated number ∷ others)
  pub fits : IsNumber number
  pub spelled : bytes ≡ signed_text negated number (flat_map hint_text others)

hint_whole : (negated : Bool) (n : ℕ) (more : List ℕ) → hint_text (hint negated n) ++ more ≡ signed_text negated n more
hint_whole true n more = apart (codes "-") (decimal n) (codes " ") more
hint_whole false n more = append_assoc (decimal n) (codes " ") more

pub front_hint : (bytes : List ℕ) → AreHints bytes → 0 < length bytes → FrontHint bytes
front_hint bytes are some = go are.0 are.1 are.2
  where
    go : (hs : List Hint) → All IsHint hs → bytes ≡ flat_map hint_text hs → FrontHint bytes
    go [] all is = absurd (omega (arith, some, ap length is))
    go (hints.Line n ∷ hs) all is = record {
      negated = true;
      number = n;
      others = hs;
      all = all;
      fits = All-head IsHint (hints.Line n) hs all;
      spelled = is ∙ hint_whole true n (flat_map hint_text hs);
    }
    go (hints.Clause n ∷ hs) all is = record {
      negated = false;
      number = n;
      others = hs;
      all = all;
      fits = All-head IsHint (hints.Clause n) hs all;
      spelled = is ∙ hint_whole false n (flat_map hint_text hs);
    }

pub signed_hint : (bytes : List ℕ) → FrontHint bytes → IsSigned bytes
signed_hint bytes f = record { negated = f.negated; number = f.number; more = flat_map hint_text f.others; fits = f.fits.1; spelled = f.spelled }

pub after_hint : (bytes rest : List ℕ) (f : FrontHint bytes) (b : Bool) (n : ℕ) → b ≡ f.negated → n ≡ f.number → rest ≡ flat_map hint_text f.others
    → AreHints rest × (hints_in bytes ≡ hint b n ∷ hints_in rest)
after_hint bytes rest f b n sign value left =
    let tail = All-tail IsHint (hint f.negated f.number) f.others f.all in
    let whole : bytes ≡ flat_map hint_text (hint f.negated f.number ∷ f.others) =
    f.spelled ∙ sym (hint_whole f.negated f.number (flat_map hint_text f.others)) in (
      (f.others, tail, left),
      ap hints_in whole ∙ hints_are (hint f.negated f.number ∷ f.others) f.all
          ∙ ap₂ (λ x xs. x ∷ xs) (ap₂ hint (sym sign) (sym value)) (sym (ap hints_in left ∙ hints_are f.others tail)),
    )

-- numbers in their text
pub numbers_are : (ns : List ℕ) → All IsNumber ns → numbers_in (flat_map target_text ns) ≡ ns
numbers_are [] all = refl
numbers_are (n ∷ ns) all = ap numbers_at (deletes_read ns blank [] n [] (All-head IsNumber n ns all) (All-tail IsNumber n ns all))

-- a number is at the front
pub record FrontNumber (bytes : List ℕ) : Type 0 where
  pub first : ℕ
  pub others : List ℕ
  pub all : All IsNumber (first ∷ others)
  pub fits : IsNumber first
  pub ends : EndsNumber (flat_map target_text others)
  pub long : 1 ≤ length bytes
  pub spelled : take (length bytes - 1) (drop 1 bytes) ≡ decimal first ++ flat_map target_text others
  pub whole : bytes ≡ flat_map target_text (first ∷ others)

number_ends : (ns : List ℕ) → EndsNumber (flat_map target_text ns)
number_ends [] = tt
number_ends (n ∷ ns) = refl

pub front_number : (bytes : List ℕ) → AreNumbers bytes → 0 < length bytes → FrontNumber bytes
front_number bytes are some = go are.0 are.1 are.2
  where
    go : (ns : List ℕ) → All IsNumber ns → bytes ≡ flat_map target_text ns → FrontNumber bytes
    go [] all is = absurd (omega (arith, some, ap length is))
    go (n ∷ ns) all is = record {
      first = n;
      others = ns;
      all = all;
      fits = All-head IsNumber n ns all;
      ends = number_ends ns;
      long = omega (
        arith,
        some,
      );
      spelled = take_rest bytes 1 ∙ ap (drop 1) is;
      whole = is;
    }

pub after_number : (bytes rest : List ℕ) (f : FrontNumber bytes) (n : ℕ) → n ≡ f.first → rest ≡ flat_map target_text f.others
    → AreNumbers rest × (numbers_in bytes ≡ n ∷ numbers_in rest)
after_number bytes rest f n value left =
    let tail = All-tail IsNumber f.first f.others f.all in (
      (f.others, tail, left),
      ap numbers_in f.whole ∙ numbers_are (f.first ∷ f.others) f.all ∙ ap₂ (λ x xs. x ∷ xs) (sym value) (sym (ap numbers_in left ∙ numbers_are f.others tail)),
    )
