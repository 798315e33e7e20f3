-- Texts whose lengths differ by more than one are more than one change apart.
use Rattle.std.proofs.Common.{◌≡◌, ℕ, zero, suc, ◌+◌, ◌-◌, ◌<◌, ◌≤◌, ◌==◌, ◌&&◌, min, nat_eq, Bool, true, false, if◌then◌else◌, List, [], ◌∷◌, length, Option}
use Rattle.std.proofs.Common.{Some, None, refl, arith, chars}
use Rattle.std.proofs.lemmas.Int.{clamps}
use Rattle.std.proofs.lemmas.Bool.Decides.{Decides-eqb}
use Rattle.strsim.specs.Edits.{cost_at, swaps_at, osa_row, OsaState, osa_step, osa_from}
use Rattle.strsim.proofs.OsaLemmas.{osa_count}
use Rattle.requirement_report.specs.Slips.{is_mistyped, changes}

-- each entry of a row is no less than how far the two numbers of characters are apart
AreFar : ℕ → (ℕ → ℕ) → Type 0
AreFar n row = (j : ℕ) → (n ≤ row j + j) × (j ≤ row j + n)

-- the same of the row before that one, where there is one
AreFarBefore : Option ℕ → ℕ → (ℕ → ℕ) → Type 0
AreFarBefore None n row = Unit {0}
AreFarBefore (Some p) n row = (j : ℕ) → (n ≤ row j + j + 1) × (j + 1 ≤ row j + n)

if_far : (b : Bool) (n j m swapped : ℕ) → (n ≤ m + j) × (j ≤ m + n) → (n ≤ swapped + j) × (j ≤ swapped + n)
    → (n ≤ (if b then min m swapped else m) + j) × (j ≤ (if b then min m swapped else m) + n)
if_far true n j m swapped p q = (omega (arith, clamps, p.0, q.0), omega (arith, clamps, p.1, q.1))
if_far false n j m swapped p q = p

cell_far : (p : Option ℕ) (x : ℕ) (ys : List ℕ) (two : ℕ → ℕ) (n j m : ℕ) → AreFarBefore p n two → (n + 1 ≤ m + suc j) × (suc j ≤ m + (n + 1))
    → (n + 1 ≤ (if swaps_at p x ys j then min m (two (j - 1) + 1) else m) + suc j)
    × (suc j ≤ (if swaps_at p x ys j then min m (two (j - 1) + 1) else m) + (n + 1))
unfolding AreFarBefore
cell_far None x ys two n j m before far = far
cell_far (Some p) x ys two n zero m before far = far
cell_far (Some p) x ys two n (suc k) m before far =
    let b = before (suc k - 1) in
    if_far (swaps_at (Some p) x ys (suc k)) (n + 1) (suc (suc k)) m (two (suc k - 1) + 1) far (omega (arith, b.0), omega (arith, b.1))

row_far : (p : Option ℕ) (x : ℕ) (ys : List ℕ) (two one : ℕ → ℕ) (n : ℕ) → AreFar n one → AreFarBefore p n two → AreFar (n + 1) (osa_row p x ys two one (n + 1))
unfolding AreFar osa_row
row_far p x ys two one n far before zero = (omega arith, omega arith)
row_far p x ys two one n far before (suc j) =
    let left = row_far p x ys two one n far before j in
    let above = far (suc j) in
    let corner = far j in
    cell_far p x ys two n j (min (osa_row p x ys two one (n + 1) j + 1) (min (one (suc j) + 1) (one j + cost_at nat_eq x ys j))) before
    (omega (arith, clamps, left.0, above.0, corner.0), omega (arith, clamps, left.1, above.1, corner.1))

IsFar : OsaState → Type 0
IsFar s = AreFar s.count s.last_row × AreFarBefore s.last_item s.count s.row_before

table_far : (ys : List ℕ) (s : OsaState) (xs : List ℕ) → IsFar s → IsFar (osa_from ys s xs)
unfolding IsFar AreFar AreFarBefore osa_from
table_far ys s [] far = far
table_far ys s (x ∷ xs) far =
    table_far ys (osa_step ys s x) xs
    (row_far s.last_item x ys s.row_before s.last_row s.count far.0 far.1, λ j. (omega (arith, far.0 j), omega (arith, far.0 j)))

-- no text is made of another in fewer changes than how far their lengths are apart
changes_far : (a b : List ℕ) → (length (chars a) ≤ changes a b + length (chars b)) × (length (chars b) ≤ changes a b + length (chars a))
unfolding IsFar AreFar AreFarBefore
changes_far a b =
    let start : OsaState = record { row_before = λ j. j; last_row = λ j. j; last_item = None; count = 0 } in
    let far = (table_far (chars b) start (chars a) (λ j. (omega arith, omega arith), tt)).0 (length (chars b)) in
    let count = osa_count (chars b) start (chars a) in
    (omega (arith, far.0, count), omega (arith, far.1, count))

not_true : (b : Bool) → (b ≡ true → ⊥) → b ≡ false
not_true true h = absurd (h refl)
not_true false h = refl

neither : (a b c : Bool) → c ≡ false → (a && (b && c)) ≡ false
neither true true c e = e
neither true false c e = refl
neither false b c e = refl

too_far : (a b : List ℕ) → (changes a b ≡ 1 → ⊥) → is_mistyped a b ≡ false
too_far a b h = neither _ _ (changes a b == 1) (not_true (changes a b == 1) (λ e. h ((Decides-eqb (changes a b) 1).0 e)))

pub too_long : (a b : List ℕ) → length (chars a) + 1 < length (chars b) → is_mistyped a b ≡ false
too_long a b lt = too_far a b (λ e. omega (arith, e, lt, (changes_far a b).1))

pub too_short : (a b : List ℕ) → length (chars b) + 1 < length (chars a) → is_mistyped a b ≡ false
too_short a b lt = too_far a b (λ e. omega (arith, e, lt, (changes_far a b).0))
