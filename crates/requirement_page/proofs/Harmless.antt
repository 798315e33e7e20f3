-- Texts in which each `<` begins a mark of the page: a test of that, and texts that are put together.
use Rattle.std.proofs.Common.{◌≡◌, ℕ, zero, suc, ◌%◌, ◌/◌, ◌<◌, ◌⊎◌, Bool, true, false, ◌&&◌, ◌||◌, ◌==◌, if◌then◌else◌, not, List, [], ◌∷◌, ◌++◌, Contains}
use Rattle.std.proofs.Common.{decimal, codes, refl, sym, ap, ap₂, ◌∙◌, subst, arith, inl, inr}
use Rattle.std.specs.Fmt.{digit_glyph, digits_onto, digits}
use Rattle.std.specs.List.{flat_map, list_any}
use Rattle.std.proofs.lemmas.Bool.Decides.{nat_tests}
use Rattle.trace_view.specs.Text.{below}
use Rattle.trace_view.specs.Diagram.{escaped_byte, escaped}
use Rattle.requirement_page.specs.Pictures.{later_lines}
use Rattle.requirement_page.specs.Laws.{marks, HasOnlyMarks}

-- ---- truth values

and_left : (a b : Bool) → a && b ≡ true → a ≡ true
and_left true b e = refl
and_left false b e = e

and_right : (a b : Bool) → a && b ≡ true → b ≡ true
and_right true b e = e
and_right false b e = absurd (cc)

both : (a b : Bool) → a ≡ true → b ≡ true → a && b ≡ true
both a b e f = ap₂ (λ p q. p && q) e f

or_cases : (a b : Bool) → a || b ≡ true → (a ≡ true) ⊎ (b ≡ true)
or_cases true b e = inl refl
or_cases false b e = inr e

or_left : (a b : Bool) → a ≡ true → a || b ≡ true
or_left a b e = ap (λ x. x || b) e

or_right : (a b : Bool) → b ≡ true → a || b ≡ true
or_right true b e = refl
or_right false b e = e

-- ---- members

here : {X : Type 0} (x : X) (xs : List X) → Contains (x ∷ xs) x
here x xs = (zero, omega arith, refl)

later : {X : Type 0} (x : X) (xs : List X) (y : X) → Contains xs y → Contains (x ∷ xs) y
later x xs y (k, lt, e) = (suc k, omega arith, e)

first_or_later : {X : Type 0} (x : X) (xs : List X) (y : X) → Contains (x ∷ xs) y → (x ≡ y) ⊎ Contains xs y
first_or_later x xs y (zero, lt, e) = inl e
first_or_later x xs y (suc k, lt, e) = inr (k, omega arith, e)

no_member : {X : Type 0} (y : X) → Contains [] y → ⊥
no_member y (k, lt, e) = omega arith

-- ---- the test

-- a text begins with a word
abbrev pub begins : List ℕ → List ℕ → Bool
begins [] text = true
begins (m ∷ ms) [] = false
begins (m ∷ ms) (b ∷ bs) = (m == b) && begins ms bs

abbrev pub begins_one : List (List ℕ) → List ℕ → Bool
begins_one ms text = list_any (λ m. begins m text) ms

-- a byte before a text: behind `<` a mark follows
abbrev pub is_marked : Bool → List ℕ → Bool
is_marked true text = begins_one marks text
is_marked false text = true

abbrev pub is_tame : List ℕ → Bool
is_tame [] = true
is_tame (b ∷ bs) = is_marked (b == 60) bs && is_tame bs

pub record Tame (text : List ℕ) : Type 0 where
  pub is : is_tame text ≡ true

-- ---- what passes the test has only marks

begun_rest : (m text : List ℕ) → begins m text ≡ true → (rest : List ℕ) × (text ≡ m ++ rest)
begun_rest [] text e = (text, refl)
begun_rest (m ∷ ms) [] e = absurd (cc)
begun_rest (m ∷ ms) (b ∷ bs) e =
    let found = begun_rest ms bs (and_right (m == b) (begins ms bs) e) in
    let same : m ≡ b = grind (arith, nat_tests, and_left (m == b) (begins ms bs) e) in
    (found.0, ap₂ (λ x xs. x ∷ xs) (sym same) found.1)

begun_one : (ms : List (List ℕ)) (text : List ℕ) → begins_one ms text ≡ true → (mark : List ℕ) × Contains ms mark × ((rest : List ℕ) × (text ≡ mark ++ rest))
begun_one [] text e = absurd (cc)
begun_one (m ∷ ms) text e = elim (or_cases (begins m text) (begins_one ms text) e) [
  | inl h ↦ (m, here m ms, begun_rest m text h)
  | inr h ↦ let found = begun_one ms text h in (found.0, later m ms found.0 found.1, found.2)
]

only_marks : (before after : List ℕ) → is_tame (before ++ 60 ∷ after) ≡ true → (mark : List ℕ) × Contains marks mark × ((rest : List ℕ) × (after
    ≡ mark ++ rest))
only_marks [] after e = begun_one marks after (and_left (begins_one marks after) (is_tame after) e)
only_marks (b ∷ bs) after e = only_marks bs after (and_right (is_marked (b == 60) (bs ++ 60 ∷ after)) (is_tame (bs ++ 60 ∷ after)) e)

pub has_only_marks : (text : List ℕ) → Tame text → HasOnlyMarks text
has_only_marks text t before after e = only_marks before after (subst (λ x. is_tame x ≡ true) e t.is)

-- ---- texts that are put together

begins_more : (m text more : List ℕ) → begins m text ≡ true → begins m (text ++ more) ≡ true
begins_more [] text more e = refl
begins_more (m ∷ ms) [] more e = absurd (cc)
begins_more (m ∷ ms) (b ∷ bs) more e =
    both (m == b) (begins ms (bs ++ more)) (and_left (m == b) (begins ms bs) e) (begins_more ms bs more (and_right (m == b) (begins ms bs) e))

one_more : (ms : List (List ℕ)) (text more : List ℕ) → begins_one ms text ≡ true → begins_one ms (text ++ more) ≡ true
one_more [] text more e = e
one_more (m ∷ ms) text more e = elim (or_cases (begins m text) (begins_one ms text) e) [
  | inl h ↦ or_left (begins m (text ++ more)) (begins_one ms (text ++ more)) (begins_more m text more h)
  | inr h ↦ or_right (begins m (text ++ more)) (begins_one ms (text ++ more)) (one_more ms text more h)
]

marked_more : (b : Bool) (text more : List ℕ) → is_marked b text ≡ true → is_marked b (text ++ more) ≡ true
marked_more true text more e = one_more marks text more e
marked_more false text more e = refl

tame_more : (text more : List ℕ) → is_tame text ≡ true → is_tame more ≡ true → is_tame (text ++ more) ≡ true
tame_more [] more e f = f
tame_more (b ∷ bs) more e f =
    both (is_marked (b == 60) (bs ++ more)) (is_tame (bs ++ more)) (marked_more (b == 60) bs more (and_left (is_marked (b == 60) bs) (is_tame bs) e))
    (tame_more bs more (and_right (is_marked (b == 60) bs) (is_tame bs) e) f)

pub join : {text more : List ℕ} → Tame text → Tame more → Tame (text ++ more)
join {text} {more} t m = record { is = tame_more text more t.is m.is }

pub word : (text : List ℕ) → is_tame text ≡ true → Tame text
word text e = record { is = e }

pub nothing : Tame []
nothing = record { is = refl }

pub each : {X : Type 0} (f : X → List ℕ) → ((x : X) → Tame (f x)) → (xs : List X) → Tame (flat_map f xs)
each f h [] = nothing
each f h (x ∷ xs) = join (h x) (each f h xs)

pub each_below : (n : ℕ) (f : ℕ → List ℕ) → ((k : ℕ) → Tame (f k)) → Tame (below n f)
each_below zero f h = nothing
each_below (suc n) f h = join (each_below n f h) (h n)

pub either : (b : Bool) (text other : List ℕ) → Tame text → Tame other → Tame (if b then text else other)
either true text other t o = t
either false text other t o = o

pub behind_byte : (b : ℕ) (bs : List ℕ) → Tame (b ∷ bs) → Tame bs
behind_byte b bs t = record { is = and_right (is_marked (b == 60) bs) (is_tame bs) t.is }

-- ---- bytes that are no `<`

behind : (b : ℕ) (bs : List ℕ) → (b == 60) ≡ false → Tame bs → Tame (b ∷ bs)
behind b bs e t = record { is = ap₂ (λ p q. is_marked p bs && q) e t.is }

digit_is_none : (d : ℕ) → d < 10 → (digit_glyph false d == 60) ≡ false
digit_is_none d h = grind (arith, nat_tests)

digits_tame : (k n : ℕ) (rest : List ℕ) → Tame rest → Tame (digits_onto k 10 false n rest)
digits_tame zero n rest t = t
digits_tame (suc k) n rest t =
    let one = behind (digit_glyph false (n % 10)) rest (digit_is_none (n % 10) (omega arith)) t in
    either (n / 10 == 0) (digit_glyph false (n % 10) ∷ rest) (digits_onto k 10 false (n / 10) (digit_glyph false (n % 10) ∷ rest)) one
    (digits_tame k (n / 10) (digit_glyph false (n % 10) ∷ rest) one)

pub decimal_tame : (n : ℕ) → Tame (decimal n)
unfolding digits
decimal_tame n = digits_tame 64 n [] nothing

pub number : (text : List ℕ) → is_tame text ≡ true → (n : ℕ) → Tame (text ++ decimal n)
number text e n = join (word text e) (decimal_tame n)

-- ---- what is escaped

no_less : (b : ℕ) (less : Bool) → (b == 60) ≡ less → Tame (if less then codes "&lt;" else if b == 62 then codes "&gt;" else (b ∷ []))
no_less b true e = word (codes "&lt;") refl
no_less b false e = either (b == 62) (codes "&gt;") (b ∷ []) (word (codes "&gt;") refl) (behind b [] e nothing)

pub escaped_byte_tame : (b : ℕ) → Tame (escaped_byte b)
escaped_byte_tame b = either (b == 38) (codes "&amp;") _ (word (codes "&amp;") refl) (no_less b (b == 60) refl)

pub escaped_tame : (text : List ℕ) → Tame (escaped text)
escaped_tame text = each escaped_byte escaped_byte_tame text

-- a text without a byte
abbrev avoids : ℕ → List ℕ → Bool
avoids c [] = true
avoids c (b ∷ bs) = not (b == c) && avoids c bs

avoids_more : (c : ℕ) (text more : List ℕ) → avoids c text ≡ true → avoids c more ≡ true → avoids c (text ++ more) ≡ true
avoids_more c [] more e f = f
avoids_more c (b ∷ bs) more e f =
    both (not (b == c)) (avoids c (bs ++ more)) (and_left (not (b == c)) (avoids c bs) e) (avoids_more c bs more (and_right (not (b == c)) (avoids c bs) e) f)

is_avoided : (c : ℕ) (text : List ℕ) → avoids c text ≡ true → Contains text c → ⊥
is_avoided c [] e m = no_member c m
is_avoided c (b ∷ bs) e m = elim (first_or_later b bs c m) [
  | inl same ↦ let other : not (b == c) ≡ true = and_left (not (b == c)) (avoids c bs) e in grind (arith, nat_tests, other, same)
  | inr among ↦ is_avoided c bs (and_right (not (b == c)) (avoids c bs) e) among
]

neither : (b : ℕ) (less greater : Bool) → (b == 60) ≡ less → (b == 62) ≡ greater
    → (avoids 60 (if less then codes "&lt;" else if greater then codes "&gt;" else (b ∷ [])) ≡ true)
    × (avoids 62 (if less then codes "&lt;" else if greater then codes "&gt;" else (b ∷ [])) ≡ true)
neither b true greater e f = (refl, refl)
neither b false true e f = (refl, refl)
neither b false false e f = (ap (λ t. not t && true) e, ap (λ t. not t && true) f)

either_avoids : (c : ℕ) (b : Bool) (text other : List ℕ) → avoids c text ≡ true → avoids c other ≡ true → avoids c (if b then text else other) ≡ true
either_avoids c true text other e f = e
either_avoids c false text other e f = f

byte_avoids : (b : ℕ) → (avoids 60 (escaped_byte b) ≡ true) × (avoids 62 (escaped_byte b) ≡ true)
byte_avoids b =
    let rest = neither b (b == 60) (b == 62) refl refl in (
      either_avoids 60 (b == 38) (codes "&amp;") _ refl rest.0,
      either_avoids 62 (b == 38) (codes "&amp;") _ refl rest.1,
    )

text_avoids : (text : List ℕ) → (avoids 60 (escaped text) ≡ true) × (avoids 62 (escaped text) ≡ true)
text_avoids [] = (refl, refl)
text_avoids (b ∷ bs) =
    let one = byte_avoids b in
    let rest = text_avoids bs in
    (avoids_more 60 (escaped_byte b) (escaped bs) one.0 rest.0, avoids_more 62 (escaped_byte b) (escaped bs) one.1 rest.1)

pub no_less_there : (text : List ℕ) → Contains (escaped text) 60 → ⊥
no_less_there text = is_avoided 60 (escaped text) (text_avoids text).0

pub no_greater_there : (text : List ℕ) → Contains (escaped text) 62 → ⊥
no_greater_there text = is_avoided 62 (escaped text) (text_avoids text).1

-- ---- what is behind the first line

abbrev pub has_line : List ℕ → Bool
has_line [] = false
has_line (b ∷ bs) = (b == 10) || has_line bs

all_behind : (text : List ℕ) → later_lines true text ≡ text
all_behind [] = refl
all_behind (b ∷ bs) = ap (λ t. b ∷ t) (all_behind bs)

line_more : (text more : List ℕ) → has_line text ≡ true → has_line (text ++ more) ≡ true
line_more [] more e = absurd (cc)
line_more (b ∷ bs) more e = elim (or_cases (b == 10) (has_line bs) e) [
  | inl h ↦ or_left (b == 10) (has_line (bs ++ more)) h
  | inr h ↦ or_right (b == 10) (has_line (bs ++ more)) (line_more bs more h)
]

behind_more : (ended : Bool) (text more : List ℕ) → ended || has_line text ≡ true → later_lines ended (text ++ more) ≡ later_lines ended text ++ more
behind_more true text more e = all_behind (text ++ more) ∙ ap (λ x. x ++ more) (sym (all_behind text))
behind_more false [] more e = absurd (cc)
behind_more false (b ∷ bs) more e = behind_more (b == 10) bs more e

-- a text that has a line, and only marks behind it
pub record Drawn (text : List ℕ) : Type 0 where
  pub line : has_line text ≡ true
  pub behind : Tame (later_lines false text)

pub drawn : (text : List ℕ) → has_line text ≡ true → Tame (later_lines false text) → Drawn text
drawn text e t = record { line = e; behind = t }

pub go_on : {text more : List ℕ} → Drawn text → Tame more → Drawn (text ++ more)
go_on {text} {more} d t = record {
  line = line_more text more d.line;
  behind = subst Tame (sym (behind_more false text more d.line)) (join d.behind t);
}
