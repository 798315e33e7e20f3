-- What a pass over several bytes comes to, without what it has read.
use Rattle.std.proofs.Common.{◌≡◌, ℕ, ◌+◌, ◌-◌, ◌≤◌, ◌⊎◌, inl, inr, List, [], ◌∷◌, ◌++◌, length, take, All, Option, Some, None, refl, sym, ap, ◌∙◌, subst}
use Rattle.std.proofs.Common.{arith}
use Rattle.std.specs.Prelude.{codes}
use Rattle.std.specs.List.{flat_map}
use Rattle.std.specs.Option.{option_and_then}
use Rattle.std.proofs.Math.Seq.{take-add}
use Rattle.cert_text.specs.Text.{hint_text}
use Rattle.cert_text.specs.Scan.{Scan, start, step, run}
use Rattle.cert_text.specs.Scan as scan
use Rattle.cert_text.specs.Shape.{Next, place_of, small_advance, lines_at, IsInRange}
use Rattle.cert_text.specs.Skipped.{between, IsShort, AreShort, digits_at}
use Rattle.cert_text.specs.Passes.{small_move, small_run, LeadsTo}
use Rattle.cert_text.specs.declared.scanning.Place.{Place}
use Rattle.cert_text.specs.declared.scanning.Place.TheVariants as places
use Rattle.cert_text.proofs.Machine.{run_on}
use Rattle.cert_text.proofs.Shapes.{shaped}
use Rattle.cert_text.proofs.Skips.{goes_on}
use Rattle.cert_text.proofs.Forming.{IsAt, step_shape, first_of, second_of, at_range, at_lines}

-- it goes as the scan does
pub run_shaped : (bs : List ℕ) (s : Scan) → shaped (run s bs) ≡ small_run s.0 (place_of s.1) bs
run_shaped [] s = refl
run_shaped (b ∷ bs) s = go (step s b) (step_shape s b) (λ t. run_shaped bs t)
  where
    go : (o : Option Scan) → shaped o ≡ small_advance s.0 (place_of s.1) b → ((t : Scan) → shaped (run t bs) ≡ small_run t.0 (place_of t.1) bs)
        → shaped (option_and_then (λ t. run t bs) o) ≡ option_and_then (λ t. small_run t.0 t.1 bs) (small_advance s.0 (place_of s.1) b)
    go None e again = ap (option_and_then (λ t. small_run t.0 t.1 bs)) e
    go (Some t) e again = again t ∙ ap (option_and_then (λ t. small_run t.0 t.1 bs)) e

pub at_led : (bytes left : List ℕ) (place : Place) → LeadsTo bytes left place → IsAt bytes left place
at_led bytes left place led = go (run start bytes) refl (run_shaped bytes start ∙ led)
  where
    go : (o : Option Scan) → run start bytes ≡ o → shaped o ≡ Some (left, place) → IsAt bytes left place
    go None is shape = cc
    go (Some t) is shape = record {
      scan = t;
      is = is;
      same_left = sym (ap (λ o. first_of o left) shape);
      same_place = sym (ap (λ o. second_of o place) shape);
    }

-- bytes behind others
pub led_more : (before xs left l : List ℕ) (place p : Place) → LeadsTo before left place → small_run left place xs ≡ Some (l, p) → LeadsTo (before ++ xs) l p
led_more before xs left l place p led e = run_on small_move before xs (codes "ltlcert ", places.Version) (left, place) led ∙ e

-- short numbers
short_on : (place : Place) (bytes : List ℕ) (q : scan.Place) → place ≡ place_of q → AreShort (digits_at place) bytes
    → small_run [] place bytes ≡ Some ([], place)
short_on place bytes q is short =
    let on = goes_on q short.0 (subst (λ r. All (IsShort (digits_at r)) short.0) is short.1) in
    ap (small_run [] place) short.2
    ∙ ap (λ r. small_run [] r (flat_map hint_text short.0)) is
    ∙ sym (run_shaped (flat_map hint_text short.0) ([], q))
    ∙ ap shaped on.2
    ∙ ap (λ r. let it : Next = Some ([], r) in it) (on.1 ∙ sym is)

pub run_behind : (bytes before first left : List ℕ) (from place : Place) (i j : ℕ)
    → i ≤ j → (j ≡ i) ⊎ ((left ≡ []) × AreShort (digits_at place) (between bytes i j))
    → LeadsTo before first from → small_run first from (take i bytes) ≡ Some (left, place) → small_run first from (take j bytes) ≡ Some (left, place)
run_behind bytes before first left from place i j low (inl same) led e = ap (λ n. small_run first from (take n bytes)) same ∙ e
run_behind bytes before first left from place i j low (inr (none, short)) led e =
    let at = at_led (before ++ take i bytes) left place (led_more before (take i bytes) first left from place led e) in
    ap (small_run first from) whole
    ∙ run_on small_move (take i bytes) (between bytes i j) (first, from) (left, place) e
    ∙ ap (λ l. small_run l place (between bytes i j)) none
    ∙ short_on place (between bytes i j) at.scan.1 at.same_place short
    ∙ ap (λ l. let it : Next = Some (l, place) in it) (sym none)
  where
    whole : take j bytes ≡ take i bytes ++ between bytes i j
    whole = let e : j ≡ i + (j - i) = omega (arith, low) in ap (λ n. take n bytes) e ∙ take-add i (j - i) bytes

-- numbers are in range, and lines are no more than bytes
pub led_range : (before bytes first left : List ℕ) (from place : Place) → LeadsTo before first from
    → small_run first from bytes ≡ Some (left, place) → IsInRange place
led_range before bytes first left from place led e =
    at_range (before ++ bytes) left place (at_led (before ++ bytes) left place (led_more before bytes first left from place led e))

pub led_lines : (before bytes first left : List ℕ) (from place : Place) → LeadsTo before first from → small_run first from bytes ≡ Some (left, place)
    → left ≡ [] → lines_at place ≤ length (before ++ bytes)
led_lines before bytes first left from place led e =
    at_lines (before ++ bytes) left place (at_led (before ++ bytes) left place (led_more before bytes first left from place led e))
