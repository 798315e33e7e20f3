-- The parts of a text are noted, one after another.
use Rattle.std.proofs.Common.{◌≡◌, ℕ, suc, ◌+◌, ◌-◌, ◌<◌, ◌≤◌, ◌==◌, ◌&&◌, ◌||◌, inl, inr, Bool, true, false, cond, List, [], ◌∷◌, ◌++◌, length, take, drop}
use Rattle.std.proofs.Common.{get_or, slice_range, All, refl, sym, ap, ap₂, ◌∙◌, subst, arith, append_assoc, length-append}
use Rattle.std.specs.Prelude.{codes}
use Rattle.std.specs.List.{flat_map, list_any}
use mathlib.Core.Bool.{false≢true}
use Rattle.std.proofs.Math.Seq.{get_or-append_seam}
use Rattle.std.proofs.lemmas.Bool.{cond-true, cond-false, ne_eqb, cases_lt}
use Rattle.std.proofs.lemmas.Grind.{flat_map-append}
use Rattle.std.proofs.lemmas.List.{append-nil, get_or_append_left, get_or-append-add, get_or_at, length_push, take_rest, drop_at}
use Rattle.std.proofs.lemmas.List.Elements.{All-head, All-tail}
use Rattle.std.proofs.lemmas.List.Folds.{list_any-append}
use Rattle.cnf_base.specs.declared.literal.Literal.{Literal}
use Rattle.cnf_base.specs.declared.literal.Hint.{Hint}
use Rattle.cert_text.specs.declared.marks.Span.{Span}
use Rattle.cert_text.specs.Text.{Part, Line, Delete, Certificate, greatest_u64, IsPart, IsTextOf, IsNumber, literal_text, target_text, part_text, header_text}
use Rattle.cert_text.specs.Text.{close_text}
use Rattle.cert_text.specs.Live.{lines_of, parts_before, parts_behind, deletes, is_deleted, lines_until, last_user}
use Rattle.cert_text.specs.Reading.{certificate_in, numbers_in, line_start}
use Rattle.cert_text.specs.Items.{item_of, items_of, line_text, item_line, item_text, IsItem}
use Rattle.cert_text.specs.View.{span_of, end_of, AreMarks, IsShut, IsMarked, IsPartLine, IsMarking}
use Rattle.cert_text.proofs.LiveLines.{lines_on, behind_on, behind_last, count_behind, last_users_stand}
use Rattle.cert_text.proofs.ItemTexts.{Other, part_item, part_fits, whole_text, header_line, header_split, header_other}
use Rattle.cert_text.proofs.ItemLines.{line_low, delete_line}
use Rattle.cert_text.proofs.Slices.{numbers_are}
use Rattle.cert_text.proofs.Standing.{middle}
use Rattle.cert_text.proofs.Views.{count_fits}

-- up to where a line may be used, with more parts behind
until_past : (m : ℕ) (ps more : List Part) → list_any (deletes m) ps ≡ true → lines_until m (ps ++ more) ≡ lines_until m ps
until_past m [] more gone = absurd (false≢true gone)
until_past m (Line ls hs ∷ ps) more gone = ap suc (until_past m ps more gone)
until_past m (Delete ns ∷ ps) more gone = go (list_any (λ n. n == m) ns) gone (until_past m ps more)
  where
    go : (b : Bool) → (b || list_any (deletes m) ps) ≡ true → (list_any (deletes m) ps ≡ true → lines_until m (ps ++ more) ≡ lines_until m ps)
        → cond b 0 (lines_until m (ps ++ more)) ≡ cond b 0 (lines_until m ps)
    go true e on = refl
    go false e on = on e

until_here : (m : ℕ) (ps : List Part) (ns : List ℕ)
    → list_any (deletes m) ps ≡ false → list_any (λ n. n == m) ns ≡ true → lines_until m (ps ++ Delete ns ∷ []) ≡ length (lines_of ps)
until_here m [] ns none here = cond-true (list_any (λ n. n == m) ns) 0 0 here
until_here m (Line ls hs ∷ ps) ns none here = ap suc (until_here m ps ns none here)
until_here m (Delete ms ∷ ps) ns none here = go (list_any (λ n. n == m) ms) none (λ e. until_here m ps ns e here)
  where
    go : (b : Bool) → (b || list_any (deletes m) ps) ≡ false → (list_any (deletes m) ps ≡ false → lines_until m (ps ++ Delete ns ∷ []) ≡ length (lines_of ps))
        → cond b 0 (lines_until m (ps ++ Delete ns ∷ [])) ≡ length (lines_of ps)
    go true e on = absurd (false≢true (sym e))
    go false e on = on e

or_false : (b : Bool) → (b || false) ≡ b
or_false true = refl
or_false false = refl

end_line : (parts : List Part) (ls : List Literal) (hs : List Hint) (k : ℕ) → k < length (lines_of parts) → end_of (parts ++ Line ls hs ∷ []) k ≡ end_of parts k
end_line parts ls hs k low =
    let ps = parts_behind parts k in
    ap (λ qs. cond (list_any (deletes (suc k)) qs) (suc k + lines_until (suc k) qs) greatest_u64) (behind_on parts (Line ls hs ∷ []) k low)
    ∙ ap (λ b. cond b (suc k + lines_until (suc k) (ps ++ Line ls hs ∷ [])) greatest_u64)
    (list_any-append (deletes (suc k)) ps (Line ls hs ∷ []) ∙ or_false (is_deleted parts k))
    ∙ go (is_deleted parts k) refl
  where
    go : (b : Bool) → is_deleted parts k ≡ b → cond b (suc k + lines_until (suc k) (parts_behind parts k ++ Line ls hs ∷ [])) greatest_u64 ≡ cond b
        (suc k + lines_until (suc k) (parts_behind parts k)) greatest_u64
    go false e = refl
    go true e = ap (λ n. suc k + n) (until_past (suc k) (parts_behind parts k) (Line ls hs ∷ []) e)

end_delete : (parts : List Part) (ns : List ℕ) (k : ℕ) → k < length (lines_of parts) → length (lines_of parts) < greatest_u64
    → end_of (parts ++ Delete ns ∷ []) k ≡ cond ((end_of parts k == greatest_u64) && list_any (λ n. n == suc k) ns) (length (lines_of parts)) (end_of parts k)
end_delete parts ns k low few =
    let ps = parts_behind parts k in
    ap (λ qs. cond (list_any (deletes (suc k)) qs) (suc k + lines_until (suc k) qs) greatest_u64) (behind_on parts (Delete ns ∷ []) k low)
    ∙ ap (λ b. cond b (suc k + lines_until (suc k) (ps ++ Delete ns ∷ [])) greatest_u64)
    (list_any-append (deletes (suc k)) ps (Delete ns ∷ []) ∙ ap (λ b. is_deleted parts k || b) (or_false (list_any (λ n. n == suc k) ns)))
    ∙ go (is_deleted parts k) refl (list_any (λ n. n == suc k) ns) refl
  where
    count : ℕ
    count = length (lines_of parts)

    go : (b : Bool) → is_deleted parts k ≡ b → (t : Bool) → list_any (λ n. n == suc k) ns ≡ t
        → cond (b || t) (suc k + lines_until (suc k) (parts_behind parts k ++ Delete ns ∷ [])) greatest_u64
        ≡ cond ((cond b (last_user parts k) greatest_u64 == greatest_u64) && t) (length (lines_of parts)) (cond b (last_user parts k) greatest_u64)
    go true gone t named =
        ap (λ n. suc k + n) (until_past (suc k) (parts_behind parts k) (Delete ns ∷ []) gone)
        ∙ sym (ap (λ e. cond (e && t) (length (lines_of parts)) (last_user parts k))
        (ne_eqb (last_user parts k) greatest_u64 (λ h. (let stand = last_users_stand parts k low in omega (arith, stand, h, few)))))
    go false gone true named =
        let here = until_here (suc k) (parts_behind parts k) ns gone named in
        omega (arith, here, count_behind parts k, low)
    go false gone false named = refl

-- the part behind the others
before_at : (past left : List Part) (ls : List Literal) (hs : List Hint) → parts_before (past ++ Line ls hs ∷ left) (length (lines_of past)) ≡ past
before_at [] left ls hs = refl
before_at (Delete ns ∷ past) left ls hs = ap (λ ps. Delete ns ∷ ps) (before_at past left ls hs)
before_at (Line l h ∷ past) left ls hs = ap (λ ps. Line l h ∷ ps) (before_at past left ls hs)

line_marked : (c : Certificate) (past left : List Part) (ls : List Literal) (hs : List Hint) (at : ℕ) (spans new_spans : List Span) (ends new_ends : List ℕ)
    → c.parts ≡ past ++ Line ls hs ∷ left → at ≡ length (header_text c ++ flat_map part_text past) → AreMarks c past spans ends
    → IsMarked (Line ls hs) at spans ends new_spans new_ends → AreMarks c (past ++ Line ls hs ∷ []) new_spans new_ends
line_marked c past left ls hs at spans new_spans ends new_ends split place marks is =
    let count : ℕ = length (lines_of past) in
    let span : Span = record { start = at; end = at + length (flat_map literal_text ls) } in
    let grown : length (lines_of (past ++ Line ls hs ∷ [])) ≡ count + 1 = ap length (lines_on past (Line ls hs ∷ [])) ∙ length_push (lines_of past) ls in
    let starts : at ≡ line_start c count =
    place ∙ sym (ap (λ ps. length (header_text c ++ flat_map part_text ps)) (ap (λ ps. parts_before ps count) split ∙ before_at past left ls hs)) in
    let own : get_or (lines_of c.parts) count [] ≡ ls = ap (λ ps. get_or (lines_of ps) count []) split
    ∙ ap (λ x. get_or x count []) (lines_on past (Line ls hs ∷ left)) ∙ get_or-append_seam (lines_of past) ls (lines_of left) [] in
    let is_span : span ≡ span_of c count =
    ap₂ (λ i j. record { start = i; end = j }) starts (ap₂ (λ i xs. i + length (flat_map literal_text xs)) starts (sym own)) in record {
      span_count = omega (arith, ap length is.0, length_push spans span, marks.span_count, grown);
      end_count = omega (arith, ap length is.1, length_push ends greatest_u64, marks.end_count, grown);
      each_span = λ k d low. elim (cases_lt k count) [
        | inl before ↦ ap (λ x. get_or x k d) is.0 ∙ get_or_append_left spans (span ∷ []) d k (omega (arith, before, marks.span_count))
            ∙ marks.each_span k d before
        | inr behind ↦ (
            let e : k ≡ count = omega (arith, low, grown, behind) in
            ap (λ x. get_or x k d) is.0 ∙ get_or_at spans span [] d k (omega (arith, e, marks.span_count)) ∙ is_span ∙ ap (span_of c) (sym e))
      ];
      each_end = λ k d low. elim (cases_lt k count) [
        | inl before ↦ ap (λ x. get_or x k d) is.1 ∙ get_or_append_left ends (greatest_u64 ∷ []) d k (omega (arith, before, marks.end_count))
            ∙ marks.each_end k d before ∙ sym (end_line past ls hs k before)
        | inr behind ↦ (
            let e : k ≡ count = omega (arith, low, grown, behind) in
            let none : parts_behind (past ++ Line ls hs ∷ []) k ≡ [] = ap (parts_behind (past ++ Line ls hs ∷ [])) e ∙ behind_last past ls hs in
            ap (λ x. get_or x k d) is.1 ∙ get_or_at ends greatest_u64 [] d k (omega (arith, e, marks.end_count))
            ∙ sym
            (cond-false (is_deleted (past ++ Line ls hs ∷ []) k) (last_user (past ++ Line ls hs ∷ []) k) greatest_u64 (ap (list_any (deletes (suc k))) none)))
      ];
    }

delete_marked : (c : Certificate) (past : List Part) (ns : List ℕ) (at : ℕ) (spans new_spans : List Span) (ends new_ends : List ℕ)
    → length (lines_of past) < greatest_u64 → AreMarks c past spans ends
    → IsMarked (Delete ns) at spans ends new_spans new_ends → AreMarks c (past ++ Delete ns ∷ []) new_spans new_ends
delete_marked c past ns at spans new_spans ends new_ends few marks is =
    let same : lines_of (past ++ Delete ns ∷ []) ≡ lines_of past = lines_on past (Delete ns ∷ []) ∙ append-nil (lines_of past) in record {
      span_count = ap length is.0 ∙ marks.span_count ∙ sym (ap length same);
      end_count = is.1.size ∙ marks.end_count ∙ sym (ap length same);
      each_span = λ k d low. ap (λ x. get_or x k d) is.0 ∙ marks.each_span k d (omega (arith, low, ap length same));
      each_end = λ k d low.
          (let before : k < length (lines_of past) = omega (arith, low, ap length same) in
          is.1.each k d (omega (arith, before, marks.end_count))
          ∙ ap₂ (λ n x. cond ((x == greatest_u64) && list_any (λ m. m == suc k) ns) n x) marks.end_count (marks.each_end k d before)
          ∙ sym (end_delete past ns k before few));
    }

pub part_marked : (c : Certificate) (past left : List Part) (part : Part) (at : ℕ) (spans new_spans : List Span) (ends new_ends : List ℕ)
    → c.parts ≡ past ++ part ∷ left → at ≡ length (header_text c ++ flat_map part_text past)
    → length (lines_of past) < greatest_u64 → AreMarks c past spans ends
    → IsMarked part at spans ends new_spans new_ends → AreMarks c (past ++ part ∷ []) new_spans new_ends
part_marked c past left (Line ls hs) at spans new_spans ends new_ends split place few marks is =
    line_marked c past left ls hs at spans new_spans ends new_ends split place marks is
part_marked c past left (Delete ns) at spans new_spans ends new_ends split place few marks is =
    delete_marked c past ns at spans new_spans ends new_ends few marks is

-- a line that begins with a `d` is a delete
pub delete_is : (line : List ℕ) (part : Part) (at count : ℕ) (spans : List Span) (ends new_ends got : List ℕ) → IsItem (item_of part)
    → line ≡ item_line (item_of part) → get_or line 0 0 ≡ 100
    → got ≡ numbers_in (take (length line - 1) (drop 1 line)) → count ≡ length ends → IsShut got count ends new_ends
    → IsMarked part at spans ends spans new_ends
delete_is line (Line ls hs) at count spans ends new_ends got fits is first found size shut =
    absurd (let low = line_low ls hs fits.0 in omega (arith, low, first, ap (λ x. get_or x 0 0) is))
delete_is line (Delete ns) at count spans ends new_ends got fits is first found size shut =
    let slice : take (length line - 1) (drop 1 line) ≡ flat_map target_text ns =
    take_rest line 1 ∙ ap (drop 1) is ∙ drop_at (codes "d") (flat_map target_text ns) 1 refl in
    let same : got ≡ ns = found ∙ ap numbers_in slice ∙ numbers_are ns fits in
    (refl, subst (λ n. IsShut ns n ends new_ends) size (subst (λ x. IsShut x count ends new_ends) same shut))

-- and numbers stand in it
pub numbers_stand : (line : List ℕ) (p : IsPartLine line)
    → get_or line 0 0 ≡ 100 → (ns : List ℕ) × All IsNumber ns × (take (length line - 1) (drop 1 line) ≡ flat_map target_text ns)
numbers_stand line p first = let has = delete_line line (item_of p.part) p.fits p.spelled first in (has.numbers, has.fits, has.slice)

-- before the first part
pub marking_start : (bytes : List ℕ) (end : ℕ) (spans : List Span) (ends : List ℕ) → IsTextOf bytes (certificate_in bytes)
    → ((before word more : List ℕ) → All Other word → bytes ≡ before ++ (word ++ 10 ∷ more) → length before ≡ 0 → end ≡ 0 + length word)
    → spans ≡ [] → ends ≡ [] → IsMarking bytes (end + 1) spans ends
marking_start bytes end spans ends is found no_spans no_ends =
    let c = certificate_in bytes in
    let rest : List ℕ = flat_map item_text (items_of c) in
    let spelled : bytes ≡ header_line c ++ 10 ∷ rest =
    whole_text bytes c is ∙ ap (λ x. x ++ rest) (header_split c) ∙ append_assoc (header_line c) (codes "\n") rest in
    let at = found [] (header_line c) rest (header_other c is.lawful.begun) spelled refl in
    let size = length-append (header_line c) (codes "\n") in record {
      past = [];
      left = c.parts;
      split = refl;
      place = omega (arith, at, size, ap length (header_split c), ap length (append-nil (header_text c)));
      marks = record {
        span_count = ap length no_spans;
        end_count = ap length no_ends;
        each_span = λ k d low. absurd (omega (arith, low));
        each_end = λ k d low. absurd (omega (arith, low));
      };
    }

-- the text from here on
marking_text : (bytes : List ℕ) (at : ℕ) (spans : List Span) (ends : List ℕ) → IsTextOf bytes (certificate_in bytes) → (m : IsMarking bytes at spans ends)
    → bytes ≡ (header_text (certificate_in bytes) ++ flat_map part_text m.past) ++ (flat_map part_text m.left ++ close_text (certificate_in bytes).targets)
marking_text bytes at spans ends is m =
    let c = certificate_in bytes in
    is.spelled
    ∙ ap (λ ps. header_text c ++ (flat_map part_text ps ++ close_text c.targets)) m.split
    ∙ ap (λ x. header_text c ++ (x ++ close_text c.targets)) (flat_map-append part_text m.past m.left)
    ∙ ap (λ x. header_text c ++ x) (append_assoc (flat_map part_text m.past) (flat_map part_text m.left) (close_text c.targets))
    ∙ sym (append_assoc (header_text c) (flat_map part_text m.past) (flat_map part_text m.left ++ close_text c.targets))

-- a part begins here
pub record PartFront (bytes : List ℕ) (at : ℕ) (past left : List Part) : Type 0 where
  pub part : Part
  pub others : List Part
  pub split : left ≡ part ∷ others
  pub fits : IsItem (item_of part)
  pub before : List ℕ
  pub more : List ℕ
  pub spelled : bytes ≡ before ++ (item_line (item_of part) ++ 10 ∷ more)
  pub place : length before ≡ at

pub all_behind : (version : ℕ) (xs ys : List Part) → All (IsPart version) (xs ++ ys) → All (IsPart version) ys
all_behind version [] ys all = all
all_behind version (x ∷ xs) ys all = all_behind version xs ys (All-tail (IsPart version) x (xs ++ ys) all)

pub first_at : (xs ys : List ℕ) (at : ℕ) → at ≡ length xs → get_or (xs ++ ys) at 0 ≡ get_or ys 0 0
first_at xs ys at e = ap (λ k. get_or (xs ++ ys) k 0) (e ∙ omega arith) ∙ get_or-append-add xs ys 0 0

pub part_front : (version : ℕ) (bytes before close : List ℕ) (at : ℕ) (past : List Part) (part : Part) (others : List Part) → IsPart version part
    → at ≡ length before
    → bytes ≡ before ++ (flat_map part_text (part ∷ others) ++ close) → PartFront bytes at past (part ∷ others)
part_front version bytes before close at past part others is place text =
    let tail : List ℕ = flat_map part_text others ++ close in record {
      part = part;
      others = others;
      split = refl;
      fits = part_fits version part is;
      before = before;
      more = tail;
      spelled =
          text ∙ ap (λ x. before ++ x) (append_assoc (part_text part) (flat_map part_text others) close ∙ ap (λ x. x ++ tail) (part_item part)
          ∙ append_assoc (item_line (item_of part)) (codes "\n") tail);
      place = sym place;
    }

pub marking_front : (bytes : List ℕ) (at : ℕ) (spans : List Span) (ends : List ℕ) → IsTextOf bytes (certificate_in bytes) → (m : IsMarking bytes at spans ends)
    → (get_or bytes at 0 ≡ 99 → ⊥)
    → PartFront bytes at m.past m.left
marking_front bytes at spans ends is m other = go m.left m.split (marking_text bytes at spans ends is m)
  where
    go : (left : List Part) → (certificate_in bytes).parts ≡ m.past ++ left
        → bytes ≡ (header_text (certificate_in bytes) ++ flat_map part_text m.past) ++ (flat_map part_text left ++ close_text (certificate_in bytes).targets)
        → PartFront bytes at m.past left
    go [] split text = absurd (other (ap (λ x. get_or x at 0) text
        ∙ first_at (header_text (certificate_in bytes) ++ flat_map part_text m.past) (close_text (certificate_in bytes).targets) at m.place))
    go (part ∷ others) split text =
        part_front (certificate_in bytes).version bytes (header_text (certificate_in bytes) ++ flat_map part_text m.past)
        (close_text (certificate_in bytes).targets) at m.past part others
        (All-head (IsPart (certificate_in bytes).version) part others
        (all_behind (certificate_in bytes).version m.past (part ∷ others) (subst (All (IsPart (certificate_in bytes).version)) split is.lawful.begun.parts)))
        m.place text

-- its line, up to the newline
pub part_line : (bytes : List ℕ) (at end : ℕ) (past left : List Part) (f : PartFront bytes at past left) → end ≡ at + length (item_line (item_of f.part))
    → slice_range bytes at end ≡ item_line (item_of f.part)
part_line bytes at end past left f is =
    ap (λ y. slice_range y at end) f.spelled ∙ middle f.before (item_line (item_of f.part)) (10 ∷ f.more) at end (sym f.place) is

pub marking_next : (bytes : List ℕ) (at end : ℕ) (spans new_spans : List Span) (ends new_ends : List ℕ) → IsTextOf bytes (certificate_in bytes)
    → length bytes < 18446744073709551616
    → (m : IsMarking bytes at spans ends) (f : PartFront bytes at m.past m.left) → end ≡ at + length (item_line (item_of f.part))
    → IsMarked f.part at spans ends new_spans new_ends
    → IsMarking bytes (end + 1) new_spans new_ends
marking_next bytes at end spans new_spans ends new_ends is few m f stop marked =
    let c = certificate_in bytes in
    let split : c.parts ≡ m.past ++ f.part ∷ f.others = m.split ∙ ap (λ x. m.past ++ x) f.split in
    let grown : flat_map part_text (m.past ++ f.part ∷ []) ≡ flat_map part_text m.past ++ item_text (item_of f.part) =
    flat_map-append part_text m.past (f.part ∷ []) ∙ ap (λ x. flat_map part_text m.past ++ x) (append-nil (part_text f.part) ∙ part_item f.part) in
    let one = length-append (header_text c) (flat_map part_text m.past) in
    let two = length-append (header_text c) (flat_map part_text (m.past ++ f.part ∷ [])) in
    let three = length-append (flat_map part_text m.past) (item_text (item_of f.part)) in
    let four = length-append (item_line (item_of f.part)) (codes "\n") in
    let lines : lines_of c.parts ≡ lines_of m.past ++ lines_of m.left = ap lines_of m.split ∙ lines_on m.past m.left in
    let low : length (lines_of m.past) < greatest_u64 =
    omega (arith, few, count_fits bytes c is, ap length lines, length-append (lines_of m.past) (lines_of m.left)) in record {
      past = m.past ++ f.part ∷ [];
      left = f.others;
      split = split ∙ sym (append_assoc m.past (f.part ∷ []) f.others);
      place = omega (arith, stop, m.place, one, two, three, four, ap length grown);
      marks = part_marked c m.past f.others f.part at spans new_spans ends new_ends split m.place low m.marks marked;
    }

-- a part does not begin as the close does
pub part_begins : (version : ℕ) (part : Part) (rest : List ℕ) → IsPart version part
    → (0 < length (part_text part)) × (get_or (part_text part ++ rest) 0 0 ≡ 99 → ⊥)
part_begins version (Delete ns) rest is = (omega arith, λ e. (let no : 100 ≡ 99 = e in omega (arith, no)))
part_begins version (Line ls hs) rest is =
    let low = line_low ls hs is.0 in
    let text : part_text (Line ls hs) ≡ line_text ls hs ++ codes "\n" = part_item (Line ls hs) in
    let some : 0 < length (line_text ls hs) = simp length-append (omega arith) in
    let first : get_or (part_text (Line ls hs) ++ rest) 0 0 ≡ get_or (line_text ls hs) 0 0 =
    ap (λ x. get_or (x ++ rest) 0 0) text ∙ ap (λ x. get_or x 0 0) (append_assoc (line_text ls hs) (codes "\n") rest)
    ∙ get_or_append_left (line_text ls hs) (codes "\n" ++ rest) 0 0 some in
    (omega (arith, some, ap length text, length-append (line_text ls hs) (codes "\n")), λ e. omega (arith, e, first, low))

-- at the close
pub marking_end : (bytes : List ℕ) (at : ℕ) (spans : List Span) (ends : List ℕ) → IsTextOf bytes (certificate_in bytes) → IsMarking bytes at spans ends
    → get_or bytes at 0 ≡ 99
    → (at ≡ length (header_text (certificate_in bytes) ++ flat_map part_text (certificate_in bytes).parts)) × AreMarks (certificate_in bytes)
    (certificate_in bytes).parts spans ends
marking_end bytes at spans ends is m first = go m.left m.split (marking_text bytes at spans ends is m)
  where
    go : (left : List Part) → (certificate_in bytes).parts ≡ m.past ++ left
        → bytes ≡ (header_text (certificate_in bytes) ++ flat_map part_text m.past) ++ (flat_map part_text left ++ close_text (certificate_in bytes).targets)
        → (at ≡ length (header_text (certificate_in bytes) ++ flat_map part_text (certificate_in bytes).parts)) × AreMarks (certificate_in bytes)
        (certificate_in bytes).parts spans ends
    go [] split text =
        let whole : m.past ≡ (certificate_in bytes).parts = sym (split ∙ append-nil m.past) in (
          m.place ∙ ap (λ ps. length (header_text (certificate_in bytes) ++ flat_map part_text ps)) whole,
          subst (λ ps. AreMarks (certificate_in bytes) ps spans ends) whole m.marks,
        )
    go (part ∷ others) split text = absurd (
        let version = (certificate_in bytes).version in
        let tail : List ℕ = flat_map part_text others ++ close_text (certificate_in bytes).targets in
        let h : List ℕ = header_text (certificate_in bytes) ++ flat_map part_text m.past in
        let is_part = All-head (IsPart version) part others
        (all_behind version m.past (part ∷ others) (subst (All (IsPart version)) split is.lawful.begun.parts)) in
        let whole : bytes ≡ h ++ (part_text part ++ tail) =
        text ∙ ap (λ x. h ++ x) (append_assoc (part_text part) (flat_map part_text others) (close_text (certificate_in bytes).targets)) in
        (part_begins version part tail is_part).1 (sym (ap (λ x. get_or x at 0) whole ∙ first_at h (part_text part ++ tail) at m.place) ∙ first))

-- the targets, in the close
pub record CloseStands (bytes : List ℕ) (close : ℕ) (targets : List ℕ) : Type 0 where
  pub within : close + 6 ≤ length bytes
  pub fits : All IsNumber targets
  pub slice : slice_range bytes (close + 5) (length bytes - 1) ≡ flat_map target_text targets

pub close_stands : (bytes before targets : List ℕ) (close : ℕ) → All IsNumber targets → bytes ≡ before ++ close_text targets → close ≡ length before
    → CloseStands bytes close targets
close_stands bytes before targets close fits text here =
    let t = flat_map target_text targets in
    let whole : bytes ≡ (before ++ codes "close") ++ (t ++ codes "\n") = text ∙ sym (append_assoc before (codes "close") (t ++ codes "\n")) in
    let one = length-append before (codes "close") in
    let two = length-append (before ++ codes "close") (t ++ codes "\n") in
    let three = length-append t (codes "\n") in record {
      within = omega (arith, here, one, two, three, ap length whole);
      fits = fits;
      slice =
          ap (λ y. slice_range y (close + 5) (length bytes - 1)) whole
          ∙ middle (before ++ codes "close") t (codes "\n") (close + 5) (length bytes - 1) (omega (arith, here, one))
          (omega (arith, here, one, two, three, ap length whole));
    }

pub whole_close_stands : (bytes : List ℕ) (close : ℕ) → IsTextOf bytes (certificate_in bytes)
    → close ≡ length (header_text (certificate_in bytes) ++ flat_map part_text (certificate_in bytes).parts)
    → CloseStands bytes close (certificate_in bytes).targets
whole_close_stands bytes close is place =
    let c = certificate_in bytes in
    close_stands bytes (header_text c ++ flat_map part_text c.parts) c.targets close is.lawful.targets
    (is.spelled ∙ sym (append_assoc (header_text c) (flat_map part_text c.parts) (close_text c.targets))) place
