-- What a view tells of a line.
use Rattle.std.proofs.Common.{◌≡◌, ℕ, zero, suc, ◌+◌, ◌-◌, ◌<◌, ◌≤◌, ◌==◌, ◌||◌, Bool, true, false, cond, List, [], ◌∷◌, ◌++◌, length, get_or, slice_range, All}
use Rattle.std.proofs.Common.{None, refl, sym, ap, ◌∙◌, arith, append_assoc, length-append}
use Rattle.std.specs.Prelude.{codes, is_some, slice_get}
use Rattle.std.specs.List.{flat_map, list_any}
use mathlib.Core.Bool.{false≢true}
use Rattle.std.proofs.lemmas.Bool.{cond-true, cond-false}
use Rattle.std.proofs.lemmas.Grind.{flat_map-append}
use Rattle.std.proofs.lemmas.List.Elements.{All-head, All-tail, All-append}
use Rattle.cert_text.specs.declared.marks.Span.{Span}
use Rattle.cert_text.specs.Text.{Part, Line, Delete, Certificate, greatest_u64, IsLiteral, IsHint, IsPart, IsTextOf, literal_text, hint_text, part_text}
use Rattle.cert_text.specs.Text.{header_text, close_text}
use Rattle.cert_text.specs.Live.{lines_of, hints_of, parts_before, parts_behind, deletes, is_deleted, live_line, lines_until, last_user}
use Rattle.cert_text.specs.Reading.{literals_end, hints_end}
use Rattle.cert_text.specs.View.{span_of, end_of}
use Rattle.cert_text.proofs.Sound.{line_text}
use Rattle.cert_text.proofs.Standing.{split_line, lines_stand}
use Rattle.cert_text.proofs.Forming.{parts_low}
use Rattle.cert_text.proofs.LiveLines.{count_behind, last_users_stand}
use Rattle.cert_text.proofs.ItemTexts.{Other, flat_other, hint_other, one_other}

-- a line's literals and hints are in range
pub line_fits : (version : ℕ) (parts : List Part) (k : ℕ) → All (IsPart version) parts → k < length (lines_of parts)
    → All IsLiteral (get_or (lines_of parts) k []) × All IsHint (get_or (hints_of parts) k [])
line_fits version [] k all low = absurd (omega (arith, low))
line_fits version (Delete ns ∷ parts) k all low = line_fits version parts k (All-tail (IsPart version) (Delete ns) parts all) low
line_fits version (Line ls hs ∷ parts) zero all low = All-head (IsPart version) (Line ls hs) parts all
line_fits version (Line ls hs ∷ parts) (suc k) all low = line_fits version parts k (All-tail (IsPart version) (Line ls hs) parts all) (omega (arith, low))

-- the text, taken apart at the hints of line k + 1
pub record HintsStand (bytes : List ℕ) (c : Certificate) (k : ℕ) : Type 0 where
  pub before : List ℕ
  pub more : List ℕ
  pub place : length before ≡ literals_end c k + 2
  pub spelled : bytes ≡ before ++ ((flat_map hint_text (get_or (hints_of c.parts) k []) ++ codes "0") ++ 10 ∷ more)

pub hints_stand : (bytes : List ℕ) (c : Certificate) (k : ℕ) → IsTextOf bytes c → k < length (lines_of c.parts) → HintsStand bytes c k
hints_stand bytes c k is low =
    let ls = get_or (lines_of c.parts) k [] in
    let hs = get_or (hints_of c.parts) k [] in
    let h = header_text c in
    let a = flat_map part_text (parts_before c.parts k) in
    let b = flat_map part_text (parts_behind c.parts k) in
    let l = flat_map literal_text ls in
    let x = flat_map hint_text hs in
    let end : List ℕ = b ++ close_text c.targets in
    let split : flat_map part_text c.parts ≡ a ++ (part_text (Line ls hs) ++ b) =
    ap (flat_map part_text) (split_line c.parts k low) ∙ flat_map-append part_text (parts_before c.parts k) (Line ls hs ∷ parts_behind c.parts k) in
    let whole : bytes ≡ h ++ a ++ (l ++ (codes "0 " ++ (x ++ (48 ∷ 10 ∷ end)))) =
    is.spelled
    ∙ ap (λ y. h ++ (y ++ close_text c.targets)) split
    ∙ ap (λ y. h ++ y) (append_assoc a (part_text (Line ls hs) ++ b) (close_text c.targets)
    ∙ ap (λ y. a ++ y) (append_assoc (part_text (Line ls hs)) b (close_text c.targets) ∙ sym (line_text ls hs end)))
    ∙ sym (append_assoc h a (l ++ (codes "0 " ++ (x ++ (48 ∷ 10 ∷ end))))) in
    let one = length-append (h ++ a) (l ++ codes "0 ") in
    let two = length-append l (codes "0 ") in record {
      before = (h ++ a) ++ (l ++ codes "0 ");
      more = end;
      place = omega (arith, one, two);
      spelled =
          whole ∙ ap (λ y. (h ++ a) ++ y) (sym (append_assoc l (codes "0 ") (x ++ (48 ∷ 10 ∷ end))))
          ∙ sym (append_assoc (h ++ a) (l ++ codes "0 ") (x ++ (48 ∷ 10 ∷ end)))
          ∙ ap (λ y. ((h ++ a) ++ (l ++ codes "0 ")) ++ y) (sym (append_assoc x (codes "0") (10 ∷ end)));
    }

-- the newline behind a line's hints, found from where they begin
pub hints_found : (bytes : List ℕ) (c : Certificate) (k end : ℕ) → IsTextOf bytes c → k < length (lines_of c.parts)
    → ((before word more : List ℕ) → All Other word → bytes ≡ before ++ (word ++ 10 ∷ more)
    → length before ≡ literals_end c k + 2 → end ≡ literals_end c k + 2 + length word)
    → end ≡ hints_end c k + 1
hints_found bytes c k end is low found =
    let s = hints_stand bytes c k is low in
    let x = flat_map hint_text (get_or (hints_of c.parts) k []) in
    let other = All-append Other x (codes "0")
    (flat_other IsHint hint_text (get_or (hints_of c.parts) k []) hint_other (line_fits c.version c.parts k is.lawful.begun.parts low).1)
    (one_other 48 (λ e. omega (arith, e))) in
    let at = found s.before (x ++ codes "0") s.more other s.spelled s.place in
    omega (arith, at, length-append x (codes "0"))

pub hints_within : (bytes : List ℕ) (c : Certificate) (k : ℕ) → IsTextOf bytes c → k < length (lines_of c.parts) → literals_end c k + 2 ≤ length bytes
hints_within bytes c k is low =
    let s = hints_stand bytes c k is low in
    omega (arith, s.place, ap length s.spelled, length-append s.before ((flat_map hint_text (get_or (hints_of c.parts) k []) ++ codes "0") ++ 10 ∷ s.more))

-- a line that no delete names is live up to the last one
until_all : (m : ℕ) (parts : List Part) → list_any (deletes m) parts ≡ false → lines_until m parts ≡ length (lines_of parts)
until_all m [] none = refl
until_all m (Line ls hs ∷ parts) none = ap suc (until_all m parts none)
until_all m (Delete ns ∷ parts) none = go (list_any (λ n. n == m) ns) none (until_all m parts)
  where
    go : (b : Bool) → (b || list_any (deletes m) parts) ≡ false → (list_any (deletes m) parts ≡ false → lines_until m parts ≡ length (lines_of parts))
        → cond b 0 (lines_until m parts) ≡ length (lines_of parts)
    go true e all = absurd (false≢true (sym e))
    go false e all = all e

pub count_fits : (bytes : List ℕ) (c : Certificate) → IsTextOf bytes c → length (lines_of c.parts) < length bytes
count_fits bytes c is =
    let low = parts_low c.parts in
    let one = length-append (header_text c) (flat_map part_text c.parts ++ close_text c.targets) in
    let two = length-append (flat_map part_text c.parts) (close_text c.targets) in
    omega (arith, low, one, two, ap length is.spelled)

-- up to where a line may be used
pub end_open : (parts : List Part) (k : ℕ) → length (lines_of parts) < greatest_u64 → k < length (lines_of parts)
    → end_of parts k ≡ greatest_u64 → is_deleted parts k ≡ false
end_open parts k few low at = go (is_deleted parts k) at
  where
    go : (b : Bool) → cond b (last_user parts k) greatest_u64 ≡ greatest_u64 → b ≡ false
    go false e = refl
    go true e = absurd (let stand = last_users_stand parts k low in omega (arith, stand, e, few))

pub end_shut : (parts : List Part) (k : ℕ) → (end_of parts k ≡ greatest_u64 → ⊥) → is_deleted parts k ≡ true
end_shut parts k other = go (is_deleted parts k) other
  where
    go : (b : Bool) → (cond b (last_user parts k) greatest_u64 ≡ greatest_u64 → ⊥) → b ≡ true
    go true o = refl
    go false o = absurd (o refl)

pub user_last : (parts : List Part) (k : ℕ) → k < length (lines_of parts) → is_deleted parts k ≡ false → length (lines_of parts) ≡ last_user parts k
user_last parts k low none = omega (arith, until_all (suc k) (parts_behind parts k) none, count_behind parts k, low)

pub user_end : (parts : List Part) (k : ℕ) → is_deleted parts k ≡ true → end_of parts k ≡ last_user parts k
user_end parts k gone = cond-true (is_deleted parts k) (last_user parts k) greatest_u64 gone

-- it is live at the close exactly where it is never deleted
slice_some : {X : Type 0} (xs : List X) (k : ℕ) → k < length xs → is_some (slice_get xs k) ≡ true
slice_some [] k low = absurd (omega (arith, low))
slice_some (x ∷ xs) zero low = refl
slice_some (x ∷ xs) (suc k) low = slice_some xs k (omega (arith, low))

pub live_open : (parts : List Part) (k : ℕ) → k < length (lines_of parts) → is_deleted parts k ≡ false → is_some (live_line parts (suc k)) ≡ true
live_open parts k low none = ap is_some (cond-false (is_deleted parts k) None (slice_get (lines_of parts) k) none) ∙ slice_some (lines_of parts) k low

pub open_live : (parts : List Part) (k : ℕ) → is_some (live_line parts (suc k)) ≡ true → is_deleted parts k ≡ false
open_live parts k is = go (is_deleted parts k) is
  where
    go : (b : Bool) → is_some (cond b None (slice_get (lines_of parts) k)) ≡ true → b ≡ false
    go false e = refl
    go true e = absurd (false≢true e)

-- the place of a line in a view
pub line_low : (c d : Certificate) (line : ℕ) → c ≡ d → 1 ≤ line → line ≤ length (lines_of d.parts) → line - 1 < length (lines_of c.parts)
line_low c d line same one low = omega (arith, one, low, ap (λ (x : Certificate). length (lines_of x.parts)) same)

-- the literals, where the span of a line is at hand
pub record LiteralsStand (bytes : List ℕ) (c : Certificate) (k : ℕ) (span : Span) : Type 0 where
  pub forward : span.start ≤ span.end
  pub within : span.end ≤ length bytes
  pub fits : All IsLiteral (get_or (lines_of c.parts) k [])
  pub slice : slice_range bytes span.start span.end ≡ flat_map literal_text (get_or (lines_of c.parts) k [])

pub literals_stand : (bytes : List ℕ) (c : Certificate) (k : ℕ) (span : Span) → IsTextOf bytes c → k < length (lines_of c.parts) → span ≡ span_of c k
    → LiteralsStand bytes c k span
literals_stand bytes c k span is low at = record {
  forward = omega (arith, ap (λ (s : Span). s.start) at, ap (λ (s : Span). s.end) at);
  within = omega (arith, ap (λ (s : Span). s.end) at, hints_within bytes c k is low);
  fits = (line_fits c.version c.parts k is.lawful.begun.parts low).0;
  slice = ap (λ (s : Span). slice_range bytes s.start s.end) at ∙ (lines_stand bytes c k is low).0;
}

-- the hints, where the newline behind them is found
pub record HintsFound (bytes : List ℕ) (c : Certificate) (k start end : ℕ) : Type 0 where
  pub forward : start ≤ end - 1
  pub fits : All IsHint (get_or (hints_of c.parts) k [])
  pub slice : slice_range bytes start (end - 1) ≡ flat_map hint_text (get_or (hints_of c.parts) k [])

pub hints_slice : (bytes : List ℕ) (c : Certificate) (k : ℕ) (span : Span) (end : ℕ) → IsTextOf bytes c → k < length (lines_of c.parts) → span ≡ span_of c k
    → ((before word more : List ℕ) → All Other word → bytes ≡ before ++ (word ++ 10 ∷ more) → length before ≡ span.end + 2 → end ≡ span.end + 2 + length word)
    → HintsFound bytes c k (span.end + 2) end
hints_slice bytes c k span end is low at found =
    let behind : span.end ≡ literals_end c k = ap (λ (s : Span). s.end) at in
    let newline = hints_found bytes c k end is low
    (λ before word more other spelled place. (let e = found before word more other spelled (omega (arith, place, behind)) in omega (arith, e, behind))) in
    let stop : end - 1 ≡ hints_end c k = omega (arith, newline) in record {
      forward = omega (arith, newline, behind);
      fits = (line_fits c.version c.parts k is.lawful.begun.parts low).1;
      slice = ap (λ i. slice_range bytes (i + 2) (end - 1)) behind ∙ ap (λ j. slice_range bytes (literals_end c k + 2) j) stop
          ∙ (lines_stand bytes c k is low).1;
    }

pub end_of_open : (parts : List Part) (k : ℕ) → is_deleted parts k ≡ false → end_of parts k ≡ greatest_u64
end_of_open parts k none = cond-false (is_deleted parts k) (last_user parts k) greatest_u64 none
