-- Going over short numbers at once leaves the pass at the place where it was.
use Rattle.std.proofs.Common.{◌≡◌, ℕ, suc, ◌+◌, ◌-◌, ◌*◌, ◌^◌, ◌<◌, ◌≤◌, ◌⊎◌, inl, inr, Bool, true, false, List, [], ◌∷◌, ◌++◌, length, take, drop, get_or, map}
use Rattle.std.proofs.Common.{All, Some, refl, sym, ap, ◌∙◌, subst, arith, append_assoc}
use Rattle.std.specs.Prelude.{codes, decimal}
use Rattle.std.specs.List.{flat_map}
use Rattle.std.proofs.Math.Seq.{take-add, take-suc}
use Rattle.std.proofs.Math.Nat.{pow-suc, pow-le-pow_right}
use Rattle.std.proofs.lemmas.List.{append-nil, drop-drop, get_or-drop, get_or-take, length-drop, length-take-le}
use Rattle.std.proofs.lemmas.List.Elements.{All-nil, All-head, All-tail, All-push, All-append}
use Rattle.std.proofs.lemmas.Grind.{flat_map-append}
use Rattle.cnf_base.specs.declared.literal.Literal.{Literal}
use Rattle.cnf_base.specs.declared.literal.Hint.{Hint}
use Rattle.cnf_base.specs.declared.literal.Hint.TheVariants as hints
use Rattle.cert_text.specs.Text.{Certificate, greatest_u64, IsHint, number_of, sign_text, hint_text}
use Rattle.cert_text.specs.Scan.{AtVersion, AtKind, AtNumber, InNumber, AtPart, AtLiteral, AtHint, AtEnd, Scan, literal, hint, start, step, run}
use Rattle.cert_text.specs.Scan as scan
use Rattle.cert_text.specs.Shape.{place_of}
use Rattle.cert_text.specs.Skipped.{between, IsDigit, IsSign, IsShort, AreShort, digits_at}
use Rattle.cert_text.specs.declared.scanning.Place.{Place}
use Rattle.cert_text.proofs.Places.{first_text, digit_text}
use Rattle.cert_text.proofs.Complete.{literal_read, hint_read}
use Rattle.cert_text.proofs.Machine.{run_on}
use Rattle.cert_text.proofs.Forming.{IsAt}

-- two stretches of bytes, one behind the other
between_two : (bytes : List ℕ) (from mid to : ℕ) → from ≤ mid → mid ≤ to → between bytes from to ≡ between bytes from mid ++ between bytes mid to
between_two bytes from mid to low high =
    let apart : to - from ≡ (mid - from) + (to - mid) = omega (arith, low, high) in
    let there : from + (mid - from) ≡ mid = omega (arith, low) in
    ap (λ n. take n (drop from bytes)) apart
    ∙ take-add (mid - from) (to - mid) (drop from bytes)
    ∙ ap (λ xs. take (mid - from) (drop from bytes) ++ take (to - mid) xs) (drop-drop (mid - from) from bytes ∙ ap (λ n. drop n bytes) there)

-- one byte
pub between_one : (bytes : List ℕ) (at : ℕ) → at < length bytes → between bytes at (at + 1) ≡ get_or bytes at 0 ∷ []
between_one bytes at low =
    let one : at + 1 - at ≡ suc 0 = omega arith in
    ap (λ n. take n (drop at bytes)) one
    ∙ take-suc (drop at bytes) 0 0 (omega (arith, length-drop at bytes, low))
    ∙ ap (λ b. b ∷ []) (get_or-drop at bytes 0 0 ∙ ap (λ i. get_or bytes i 0) (omega arith))

-- none
pub between_none : (bytes : List ℕ) (at : ℕ) → between bytes at at ≡ []
between_none bytes at = let none : at - at ≡ 0 = omega arith in ap (λ n. take n (drop at bytes)) none

pub digits_none : (bytes : List ℕ) (at : ℕ) → All IsDigit (between bytes at at)
digits_none bytes at = subst (All IsDigit) (sym (between_none bytes at)) (All-nil IsDigit)

pub digits_more : (bytes : List ℕ) (at end : ℕ) → at ≤ end → end < length bytes → All IsDigit (between bytes at end) → IsDigit (get_or bytes end 0)
    → All IsDigit (between bytes at (end + 1))
digits_more bytes at end low high all is =
    subst (All IsDigit) (sym (between_two bytes at end (end + 1) low (omega arith) ∙ ap (λ xs. between bytes at end ++ xs) (between_one bytes end high)))
    (All-append IsDigit (between bytes at end) (get_or bytes end 0 ∷ []) all (All-push IsDigit [] (get_or bytes end 0) (All-nil IsDigit) is))

-- digits behind a number make a number
on_digits : (ds : List ℕ) (n k : ℕ) → 1 ≤ n → n < 10 ^ k → k + length ds ≤ 19 → All IsDigit ds
    → (m : ℕ) × (1 ≤ m) × (m < 10 ^ (k + length ds)) × (decimal n ++ ds ≡ decimal m)
on_digits [] n k one small few all = (n, one, subst (λ e. n < 10 ^ e) (let e : k ≡ k + 0 = omega arith in e) small, append-nil (decimal n))
on_digits (d ∷ ds) n k one small few all =
    let is = All-head IsDigit d ds all in
    let more : 10 * n + (d - 48) < 10 ^ (suc k) = omega (arith, pow-suc k 10, small, is.1) in
    let fits : 10 * n + (d - 48) ≤ greatest_u64 = omega (arith, more, pow-le-pow_right {n = 10} (omega arith) {i = suc k} {j = 19} (omega (arith, few))) in
    let on = on_digits ds (10 * n + (d - 48)) (suc k) (omega (arith, one)) more (omega (arith, few)) (All-tail IsDigit d ds all) in (
      on.0,
      on.1,
      subst (λ e. on.0 < 10 ^ e) (let e : suc k + length ds ≡ k + length (d ∷ ds) = omega arith in e) on.2,
      digit_text n d ds one (omega (
        arith,
        is.0,
      )) is.1 fits ∙ on.3,
    )

-- digits that do not begin with 0 are a number
of_digits : (ds : List ℕ) → 1 ≤ length ds → length ds ≤ 19 → (get_or ds 0 0 ≡ 48 → ⊥) → All IsDigit ds
    → (m : ℕ) × (1 ≤ m) × (m < 10 ^ (length ds)) × (ds ≡ decimal m)
of_digits [] some few first all = absurd (omega (arith, some))
of_digits (d ∷ ds) some few first all =
    let is = All-head IsDigit d ds all in
    let low : 48 < d = order d is.0 first in
    let on = on_digits ds (d - 48) 1 (omega (arith, low)) (omega (arith, is.1)) (omega (arith, few)) (All-tail IsDigit d ds all) in
    (on.0, on.1, subst (λ e. on.0 < 10 ^ e) (let e : 1 + length ds ≡ length (d ∷ ds) = omega arith in e) on.2, first_text d ds low is.1 ∙ on.3)
  where
    order : (d : ℕ) → 48 ≤ d → (d ≡ 48 → ⊥) → 48 < d
    order d low other = omega (arith, low, other)

-- a number with its sign and its space
spelled : (negated : Bool) (m : ℕ) → flat_map hint_text (hint negated m ∷ []) ≡ sign_text negated ++ (decimal m ++ codes " ")
spelled true m = append-nil (hint_text (hints.Line m))
spelled false m = append-nil (hint_text (hints.Clause m))

value : (negated : Bool) (m : ℕ) → number_of (hint negated m) ≡ m
value true m = refl
value false m = refl

one_short : (negated : Bool) (m most : ℕ) → 1 ≤ m → m < 10 ^ most → IsShort most (hint negated m)
one_short true m most one small = (one, small)
one_short false m most one small = (one, small)

length_between : (bytes : List ℕ) (from to : ℕ) → from ≤ to → to ≤ length bytes → length (between bytes from to) ≡ to - from
length_between bytes from to low high = length-take-le (to - from) (drop from bytes) (omega (arith, length-drop from bytes, high))

head_between : (bytes : List ℕ) (from to : ℕ) → from < to → get_or (between bytes from to) 0 0 ≡ get_or bytes from 0
head_between bytes from to low = get_or-take (to - from) (drop from bytes) 0 0 (omega (arith, low)) ∙ get_or-drop from bytes 0 0
    ∙ ap (λ i. get_or bytes i 0) (let e : from + 0 ≡ from = omega arith in e)

pub number_short : (bytes : List ℕ) (at first_at end most : ℕ) → at ≤ first_at → first_at < end → end < length bytes
    → most ≤ 19 → end - first_at ≤ most → IsSign (between bytes at first_at) → All IsDigit (between bytes first_at end)
    → (get_or bytes first_at 0 ≡ 48 → ⊥) → get_or bytes end 0 ≡ 32 → AreShort most (between bytes at (end + 1))
number_short bytes at first_at end most low mid high limit few sign digits first space =
    let size : length (between bytes first_at end) ≡ end - first_at = length_between bytes first_at end (omega (arith, mid)) (omega (arith, high)) in
    let head : get_or (between bytes first_at end) 0 0 ≡ get_or bytes first_at 0 = head_between bytes first_at end mid in
    let number = of_digits (between bytes first_at end) (omega (arith, size, mid)) (omega (arith, size, few, limit)) (λ e. first (sym head ∙ e)) digits in
    let small : number.0 < 10 ^ most =
    omega (arith, number.2, pow-le-pow_right {n = 10} (omega arith) {i = length (between bytes first_at end)} {j = most} (omega (arith, size, few))) in
    let apart : between bytes at (end + 1) ≡ between bytes at first_at ++ (between bytes first_at end ++ between bytes end (end + 1)) =
    between_two bytes at first_at (end + 1) low (omega (arith, mid))
    ∙ ap (λ xs. between bytes at first_at ++ xs) (between_two bytes first_at end (end + 1) (omega (arith, mid)) (omega arith)) in
    let last : between bytes end (end + 1) ≡ codes " " = between_one bytes end high ∙ ap (λ b. b ∷ []) space in (
      hint sign.0 number.0 ∷ [],
      All-push (IsShort most) [] (hint sign.0 number.0) (All-nil (IsShort most)) (one_short sign.0 number.0 most number.1 small),
      apart ∙ ap (λ xs. xs ++ (between bytes first_at end ++ between bytes end (end + 1))) sign.1
          ∙ ap (λ xs. sign_text sign.0 ++ (xs ++ between bytes end (end + 1))) number.3
          ∙ ap (λ xs. sign_text sign.0 ++ (decimal number.0 ++ xs)) last
          ∙ sym (spelled sign.0 number.0),
    )

pub short_none : (bytes : List ℕ) (at most : ℕ) → AreShort most (between bytes at at)
short_none bytes at most = ([], All-nil (IsShort most), between_none bytes at)

pub short_more : (bytes : List ℕ) (from mid to most : ℕ) → from ≤ mid → mid ≤ to → AreShort most (between bytes from mid) → AreShort most (between bytes mid to)
    → AreShort most (between bytes from to)
short_more bytes from mid to most low high one two = (
  one.0 ++ two.0,
  All-append (IsShort most) one.0 two.0 one.1 two.1,
  between_two bytes from mid to low high ∙ ap (λ xs. xs ++ between bytes mid to) one.2 ∙ ap (λ xs. flat_map hint_text one.0 ++ xs) two.2
      ∙ sym (flat_map-append hint_text one.0 two.0),
)

-- hints of at most 19 digits, and literals of at most 7
hints_on : (more : List Hint) (c : Certificate) (ls : List Literal) (hs : List Hint) → All (IsShort 19) more
    → run ([], AtHint c ls hs) (flat_map hint_text more) ≡ Some ([], AtHint c ls (hs ++ more))
hints_on [] c ls hs all = ap (λ xs. Some ([], AtHint c ls xs)) (sym (append-nil hs))
hints_on (h ∷ more) c ls hs all =
    hint_read c ls hs h (flat_map hint_text more) (fits h (All-head (IsShort 19) h more all))
    ∙ hints_on more c ls (hs ++ h ∷ []) (All-tail (IsShort 19) h more all)
    ∙ ap (λ xs. Some ([], AtHint c ls xs)) (append_assoc hs (h ∷ []) more)
  where
    fits : (h : Hint) → IsShort 19 h → IsHint h
    fits h is = (is.0, omega (arith, is.1))

abbrev literal_of : Hint → Literal
literal_of (hints.Line n) = literal true n
literal_of (hints.Clause n) = literal false n

literals_on : (more : List Hint) (c : Certificate) (ls : List Literal) → All (IsShort 7) more
    → run ([], AtLiteral c ls) (flat_map hint_text more) ≡ Some ([], AtLiteral c (ls ++ map literal_of more))
literals_on [] c ls all = ap (λ xs. Some ([], AtLiteral c xs)) (sym (append-nil ls))
literals_on (hints.Line n ∷ more) c ls all =
    let is = All-head (IsShort 7) (hints.Line n) more all in
    literal_read (AtLiteral c ls) c ls true n (flat_map hint_text more) (λ b low. refl) is.0 (omega (arith, is.1))
    ∙ literals_on more c (ls ++ literal true n ∷ []) (All-tail (IsShort 7) (hints.Line n) more all)
    ∙ ap (λ xs. Some ([], AtLiteral c xs)) (append_assoc ls (literal true n ∷ []) (map literal_of more))
literals_on (hints.Clause n ∷ more) c ls all =
    let is = All-head (IsShort 7) (hints.Clause n) more all in
    literal_read (AtLiteral c ls) c ls false n (flat_map hint_text more) (λ b low. refl) is.0 (omega (arith, is.1))
    ∙ literals_on more c (ls ++ literal false n ∷ []) (All-tail (IsShort 7) (hints.Clause n) more all)
    ∙ ap (λ xs. Some ([], AtLiteral c xs)) (append_assoc ls (literal false n ∷ []) (map literal_of more))

-- no number has no digit
none_short : (more : List Hint) → All (IsShort 0) more → more ≡ []
none_short [] all = refl
none_short (h ∷ more) all = let is = All-head (IsShort 0) h more all in absurd (omega (arith, is.0, is.1))

stays : (p : scan.Place) (more : List Hint) → more ≡ [] → (q : scan.Place) × (place_of q ≡ place_of p) × (run ([], p) (flat_map hint_text more) ≡ Some ([], q))
stays p more none = (p, refl, ap (λ xs. run ([], p) (flat_map hint_text xs)) none)

pub goes_on : (p : scan.Place) (more : List Hint) → All (IsShort (digits_at (place_of p))) more
    → (q : scan.Place) × (place_of q ≡ place_of p) × (run ([], p) (flat_map hint_text more) ≡ Some ([], q))
goes_on AtVersion more all = stays AtVersion more (none_short more all)
goes_on (AtKind version) more all = stays (AtKind version) more (none_short more all)
goes_on (AtNumber role) more all = stays (AtNumber role) more (none_short more all)
goes_on (InNumber role n) more all = stays (InNumber role n) more (none_short more all)
goes_on (AtPart c) more all = stays (AtPart c) more (none_short more all)
goes_on (AtLiteral c ls) more all = (AtLiteral c (ls ++ map literal_of more), refl, literals_on more c ls all)
goes_on (AtHint c ls hs) more all = (AtHint c ls (hs ++ more), refl, hints_on more c ls hs all)
goes_on (AtEnd c) more all = stays (AtEnd c) more (none_short more all)

-- the pass behind short numbers
at_short : (bytes left : List ℕ) (place : Place) (i j : ℕ) → i ≤ j → left ≡ [] → AreShort (digits_at place) (between bytes i j) → IsAt (take i bytes) left place
    → IsAt (take j bytes) left place
at_short bytes left place i j low none short at = go at.scan at.is at.same_left at.same_place
  where
    whole : take j bytes ≡ take i bytes ++ between bytes i j
    whole = let e : j ≡ i + (j - i) = omega (arith, low) in ap (λ n. take n bytes) e ∙ take-add i (j - i) bytes

    go : (s : Scan) → run start (take i bytes) ≡ Some s → left ≡ s.0 → place ≡ place_of s.1 → IsAt (take j bytes) left place
    go (x ∷ xs, p) is l e = let clash : [] ≡ x ∷ xs = sym none ∙ l in cc
    go ([], p) is l e =
        let on = goes_on p short.0 (subst (λ q. All (IsShort (digits_at q)) short.0) e short.1) in
        record {
          scan = ([], on.0);
          is = ap (run start) (whole ∙ ap (λ xs. take i bytes ++ xs) short.2) ∙ run_on step (take i bytes) (flat_map hint_text short.0) start ([], p) is ∙ on.2;
          same_left = none;
          same_place = e ∙ sym on.1;
        }

pub at_behind : (bytes left : List ℕ) (place : Place) (i j : ℕ) → i ≤ j → (j ≡ i) ⊎ ((left ≡ []) × AreShort (digits_at place) (between bytes i j))
    → IsAt (take i bytes) left place → IsAt (take j bytes) left place
at_behind bytes left place i j low (inl same) at = subst (λ n. IsAt (take n bytes) left place) (sym same) at
at_behind bytes left place i j low (inr (none, short)) at = at_short bytes left place i j low none short at
