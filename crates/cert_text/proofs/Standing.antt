-- Where the parts of a text stand.
use Rattle.std.proofs.Common.{◌≡◌, ℕ, zero, suc, ◌+◌, ◌-◌, ◌<◌, List, [], ◌∷◌, ◌++◌, length, take, get_or, slice_range, refl, sym, ap, ◌∙◌, arith, append_assoc}
use Rattle.std.proofs.Common.{length-append}
use Rattle.std.specs.Prelude.{codes}
use Rattle.std.specs.List.{flat_map}
use Rattle.std.proofs.lemmas.Grind.{flat_map-append}
use Rattle.std.proofs.lemmas.List.{take_at, drop_at}
use Rattle.cert_text.specs.Text.{Part, Line, Delete, header_text, close_text, part_text, literal_text, hint_text, target_text}
use Rattle.cert_text.specs.Live.{lines_of, hints_of, parts_before, parts_behind}
use Rattle.cert_text.specs.Reading.{line_start, literals_end, hints_end, targets_start}
use Rattle.cert_text.specs.Laws.{LinesStand, TargetsStand}
use Rattle.cert_text.proofs.Sound.{line_text}

-- the parts, taken apart at line k + 1
pub split_line : (parts : List Part) (k : ℕ) → k < length (lines_of parts)
    → parts ≡ parts_before parts k ++ Line (get_or (lines_of parts) k []) (get_or (hints_of parts) k []) ∷ parts_behind parts k
split_line [] k low = absurd (omega (arith, low))
split_line (Delete ns ∷ parts) k low = ap (λ ps. Delete ns ∷ ps) (split_line parts k low)
split_line (Line ls hs ∷ parts) zero low = refl
split_line (Line ls hs ∷ parts) (suc k) low = ap (λ ps. Line ls hs ∷ ps) (split_line parts k (omega (arith, low)))

-- a part of three
pub middle : (a b c : List ℕ) (from to : ℕ) → from ≡ length a → to ≡ from + length b → slice_range (a ++ (b ++ c)) from to ≡ b
middle a b c from to start end =
    let size : length b ≡ to - from = omega (arith, end) in
    ap (take (to - from)) (drop_at a (b ++ c) from (sym start)) ∙ take_at b c (to - from) size

pub lines_stand : LinesStand
lines_stand bytes c k is low =
    let ls = get_or (lines_of c.parts) k [] in
    let hs = get_or (hints_of c.parts) k [] in
    let h = header_text c in
    let a = flat_map part_text (parts_before c.parts k) in
    let b = flat_map part_text (parts_behind c.parts k) in
    let l = flat_map literal_text ls in
    let x = flat_map hint_text hs in
    let end : List ℕ = b ++ close_text c.targets in
    let split : flat_map part_text c.parts ≡ a ++ (part_text (Line ls hs) ++ b) =
    ap (flat_map part_text) (split_line c.parts k low) ∙ flat_map-append part_text (parts_before c.parts k) (Line ls hs ∷ parts_behind c.parts k) in
    let whole : bytes ≡ h ++ a ++ (l ++ (codes "0 " ++ (x ++ (48 ∷ 10 ∷ end)))) =
    is.spelled
    ∙ ap (λ y. h ++ (y ++ close_text c.targets)) split
    ∙ ap (λ y. h ++ y) (append_assoc a (part_text (Line ls hs) ++ b) (close_text c.targets)
    ∙ ap (λ y. a ++ y) (append_assoc (part_text (Line ls hs)) b (close_text c.targets) ∙ sym (line_text ls hs end)))
    ∙ sym (append_assoc h a (l ++ (codes "0 " ++ (x ++ (48 ∷ 10 ∷ end))))) in
    let second : bytes ≡ h ++ a ++ (l ++ codes "0 ") ++ (x ++ (48 ∷ 10 ∷ end)) =
    whole ∙ ap (λ y. h ++ a ++ y) (sym (append_assoc l (codes "0 ") (x ++ (48 ∷ 10 ∷ end))))
    ∙ sym (append_assoc (h ++ a) (l ++ codes "0 ") (x ++ (48 ∷ 10 ∷ end))) in (
      ap (λ y. slice_range y (line_start c k) (literals_end c k)) whole
          ∙ middle (h ++ a) l (codes "0 " ++ (x ++ (48 ∷ 10 ∷ end))) (line_start c k) (literals_end c k) refl refl,
      ap (λ y. slice_range y (literals_end c k + 2) (hints_end c k)) second
          ∙ middle (h ++ a ++ (l ++ codes "0 ")) x (48 ∷ 10 ∷ end) (literals_end c k + 2) (hints_end c k)
          (omega (arith, length-append (h ++ a) (l ++ codes "0 "), length-append l (codes "0 "))) refl,
    )

pub targets_stand : TargetsStand
targets_stand bytes c is =
    let h = header_text c in
    let a = flat_map part_text c.parts in
    let t = flat_map target_text c.targets in
    let whole : bytes ≡ h ++ a ++ codes "close" ++ (t ++ codes "\n") =
    is.spelled ∙ sym (append_assoc h a (close_text c.targets)) ∙ sym (append_assoc (h ++ a) (codes "close") (t ++ codes "\n")) in
    let one = length-append (h ++ a) (codes "close") in
    let two = length-append (h ++ a ++ codes "close") (t ++ codes "\n") in
    let three = length-append t (codes "\n") in
    ap (λ y. slice_range y (targets_start c) (length bytes - 1)) whole
    ∙ middle (h ++ a ++ codes "close") t (codes "\n") (targets_start c) (length bytes - 1) (omega (arith, one))
    (omega (arith, one, two, three, ap length whole))
