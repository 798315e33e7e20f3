-- What a pass over the bytes has come to.
use Rattle.std.proofs.Common.{◌≡◌, ℕ, ◌+◌, ◌<◌, ◌≤◌, ◌==◌, Bool, true, false, cond, List, [], ◌∷◌, ◌++◌, length, take, get_or, Option, Some, None, refl, sym}
use Rattle.std.proofs.Common.{ap, ap₂, ◌∙◌, subst, arith, add-one, length-append}
use Rattle.std.specs.Prelude.{codes, decimal}
use Rattle.std.specs.List.{flat_map}
use Rattle.std.specs.Option.{option_and_then}
use Rattle.std.proofs.Math.Seq.{take-suc}
use Rattle.std.proofs.lemmas.List.{append-nil}
use Rattle.cert_text.specs.Text.{Part, Line, Delete, Certificate, part_text, IsTextOf, IsFormFault}
use Rattle.cert_text.specs.Live.{lines_of}
use Rattle.cert_text.specs.Scan.{OfDepth, OfLiteral, OfHint, OfTarget, OfDelete, AtVersion, AtKind, AtNumber, InNumber, AtPart, AtLiteral, AtHint, AtEnd, Scan}
use Rattle.cert_text.specs.Scan.{start, step, run}
use Rattle.cert_text.specs.Scan as scan
use Rattle.cert_text.specs.declared.scanning.Head.{Head}
use Rattle.cert_text.specs.declared.scanning.Place.{Place}
use Rattle.cert_text.specs.declared.scanning.Place.TheVariants as places
use Rattle.cert_text.specs.Shape.{Next, head_of, role_of, place_of, small_advance, IsFew, IsInRange, lines_in, lines_at}
use Rattle.cert_text.proofs.Places.{parts_before, role_before, before, IsRole, IsPlace}
use Rattle.cert_text.proofs.Sound.{reads, read_whole}
use Rattle.cert_text.proofs.Machine.{run_on}
use Rattle.cert_text.proofs.Faults.{scans_stop, scans_end}
use Rattle.cert_text.proofs.Shapes.{shaped, same_greatest, place_shape}

-- a line is more than no byte
pub parts_low : (parts : List Part) → length (lines_of parts) ≤ length (flat_map part_text parts)
parts_low [] = omega arith
parts_low (Delete ns ∷ parts) = omega (arith, parts_low parts, length-append (part_text (Delete ns)) (flat_map part_text parts))
parts_low (Line ls hs ∷ parts) = omega (arith, parts_low parts, length-append (part_text (Line ls hs)) (flat_map part_text parts), line_long)
  where
    line_long : 1 ≤ length (part_text (Line ls hs))
    line_long = simp length-append (omega arith)

lines_low : (c : Certificate) (rest : List ℕ) → length (lines_of c.parts) ≤ length (parts_before c rest)
lines_low c rest = let low = parts_low c.parts in simp length-append (omega (arith, low))

role_low : (role : scan.Role) (rest : List ℕ) → lines_in (role_of role) ≤ length (role_before role rest)
role_low (OfDepth version kind) rest = omega arith
role_low (OfLiteral c literals negated) rest = lines_low c _
role_low (OfHint c literals hints negated) rest = lines_low c _
role_low (OfTarget c) rest = lines_low c _
role_low (OfDelete c lines) rest = lines_low c _

place_low : (p : scan.Place) (rest : List ℕ) → lines_at (place_of p) ≤ length (before p rest)
place_low AtVersion rest = omega arith
place_low (AtKind version) rest = omega arith
place_low (AtNumber role) rest = role_low role rest
place_low (InNumber role n) rest = role_low role (decimal n ++ rest)
place_low (AtPart c) rest = lines_low c _
place_low (AtLiteral c literals) rest = lines_low c _
place_low (AtHint c literals hints) rest = lines_low c _
place_low (AtEnd c) rest = lines_low c _

few : (role : scan.Role) → IsRole role → IsFew (role_of role)
few (OfTarget c) is = (is.0.depth, omega (arith, is.1, is.0.depth))
few other is = tt

in_range : (p : scan.Place) → IsPlace p → IsInRange (place_of p)
in_range (InNumber role n) is = (omega (arith, is.2, same_greatest role), few role is.0)
in_range other is = tt

-- the bytes lead to a scan of this shape
pub record IsAt (bytes left : List ℕ) (place : Place) : Type 0 where
  pub scan : Scan
  pub is : run start bytes ≡ Some scan
  pub same_left : left ≡ scan.0
  pub same_place : place ≡ place_of scan.1

pub at_start : IsAt [] (codes "ltlcert ") places.Version
at_start = record { scan = start; is = refl; same_left = refl; same_place = refl }

pub at_range : (bytes left : List ℕ) (place : Place) → IsAt bytes left place → IsInRange place
at_range bytes left place at = subst IsInRange (sym at.same_place) (in_range at.scan.1 (reads bytes at.scan at.is).place)

pub at_lines : (bytes left : List ℕ) (place : Place) → IsAt bytes left place → left ≡ [] → lines_at place ≤ length bytes
at_lines bytes left place at none =
    let text = (reads bytes at.scan at.is).text [] in
    let whole : bytes ≡ before at.scan.1 [] = sym (append-nil bytes) ∙ ap (λ l. bytes ++ (l ++ [])) (sym none ∙ at.same_left) ∙ text in
    omega (arith, ap lines_at at.same_place, place_low at.scan.1 [], ap length whole)

-- the scan and its shape take the same step
pub step_shape : (s : Scan) (b : ℕ) → shaped (step s b) ≡ small_advance s.0 (place_of s.1) b
step_shape ([], p) b = place_shape p b
step_shape (x ∷ xs, p) b = go (b == x)
  where
    go : (t : Bool) → shaped (cond t (Some (xs, p)) None) ≡ cond t (Some (xs, place_of p)) None
    go true = refl
    go false = refl

advanced : (bytes left : List ℕ) (place : Place) (b : ℕ) (at : IsAt bytes left place) → shaped (step at.scan b) ≡ small_advance left place b
advanced bytes left place b at = step_shape at.scan b ∙ ap₂ (λ l p. small_advance l p b) (sym at.same_left) (sym at.same_place)

-- the two parts of an answer
abbrev pub first_of : Next → List ℕ → List ℕ
first_of None l = l
first_of (Some t) l = t.0

abbrev pub second_of : Next → Place → Place
second_of None p = p
second_of (Some t) p = t.1

-- one byte more
pub at_more : (bytes left l : List ℕ) (place p : Place) (b : ℕ) → IsAt bytes left place → small_advance left place b ≡ Some (l, p) → IsAt (bytes ++ b ∷ []) l p
at_more bytes left l place p b at e = go (step at.scan b) refl (advanced bytes left place b at ∙ e)
  where
    go : (o : Option Scan) → step at.scan b ≡ o → shaped o ≡ Some (l, p) → IsAt (bytes ++ b ∷ []) l p
    go None is shape = cc
    go (Some t) is shape = record {
      scan = t;
      is = run_on step bytes (b ∷ []) start at.scan at.is ∙ ap (option_and_then (λ u. run u [])) is;
      same_left = sym (ap (λ o. first_of o l) shape);
      same_place = sym (ap (λ o. second_of o p) shape);
    }

-- at a byte that leads nowhere
pub at_fault : (bytes left : List ℕ) (place : Place) (i : ℕ) → i < length bytes → IsAt (take i bytes) left place
    → small_advance left place (get_or bytes i 0) ≡ None → IsFormFault bytes i
at_fault bytes left place i low at e =
    scans_stop bytes i at.scan low at.is (none (step at.scan (get_or bytes i 0)) (advanced (take i bytes) left place (get_or bytes i 0) at ∙ e))
  where
    none : (o : Option Scan) → shaped o ≡ None → o ≡ None
    none None shape = refl
    none (Some t) shape = cc

pub at_byte : (bytes left l : List ℕ) (place p : Place) (i : ℕ) → i < length bytes → IsAt (take i bytes) left place
    → small_advance left place (get_or bytes i 0) ≡ Some (l, p) → IsAt (take (i + 1) bytes) l p
at_byte bytes left l place p i low at e =
    subst (λ w. IsAt w l p) (sym (take-suc bytes i 0 low) ∙ ap (λ n. take n bytes) (sym (add-one i)))
    (at_more (take i bytes) left l place p (get_or bytes i 0) at e)

-- at the end of a certificate
pub at_end : (bytes left : List ℕ) (place : Place) (h : Head) → IsAt bytes left place → left ≡ [] → place ≡ places.End h
    → (c : Certificate) × IsTextOf bytes c × (h ≡ head_of c)
at_end bytes left place h at none end = go at.scan at.is (sym none ∙ at.same_left) (sym end ∙ at.same_place)
  where
    go : (s : Scan) → run start bytes ≡ Some s → [] ≡ s.0 → places.End h ≡ place_of s.1 → (c : Certificate) × IsTextOf bytes c × (h ≡ head_of c)
    go (x ∷ xs, p) is l e = cc
    go ([], AtVersion) is l e = cc
    go ([], AtKind v) is l e = cc
    go ([], AtNumber r) is l e = cc
    go ([], InNumber r n) is l e = cc
    go ([], AtPart c) is l e = cc
    go ([], AtLiteral c ls) is l e = cc
    go ([], AtHint c ls hs) is l e = cc
    go ([], AtEnd c) is l e = (c, read_whole bytes c is, (let same : h ≡ head_of c = cc in same))

-- anywhere else
pub at_none : (bytes left : List ℕ) (place : Place) → IsAt bytes left place → ((h : Head) → left ≡ [] → place ≡ places.End h → ⊥)
    → IsFormFault bytes (length bytes)
at_none bytes left place at other =
    scans_end bytes at.scan at.is (λ c e. other (head_of c) (at.same_left ∙ ap (λ (s : Scan). s.0) e) (at.same_place ∙ ap (λ (s : Scan). place_of s.1) e))
