-- What is fulfilled after a state is what was fulfilled last at a later one.
use Rattle.std.proofs.Common.{◌≡◌, ℕ, zero, suc, ◌≤◌, Bool, true, false, ◌&&◌, ◌||◌, inl, inr, refl, sym, ap, ◌∙◌, arith, if◌then◌else◌}
use Rattle.std.specs.Prelude.{nat_lt}
use Rattle.std.proofs.lemmas.Bool.{cases_lt, lt-ltb, le-ltb}
use Rattle.demand.specs.Values.{value_at}
use Rattle.demand.specs.Rows.{Rows}
use Rattle.demand.specs.Closing.{is_done}
use Rattle.demand.specs.Fulfilment.{last_done}

not_below_zero : (l : ℕ) → nat_lt l 0 ≡ false
not_below_zero l = le-ltb l 0 (omega arith)

if_up_to : (b : Bool) (n x y : ℕ) → x ≤ n → y ≤ n → (if b then x else y) ≤ n
if_up_to true n x y lx ly = lx
if_up_to false n x y lx ly = ly

pub last_up_to : (rows : Rows) (i m : ℕ) → last_done rows i m ≤ i
last_up_to rows zero m = omega arith
last_up_to rows (suc i) m =
    let before = last_up_to rows i m in
    if_up_to (value_at (rows (suc i)).fulfilled m) (suc i) (suc i) (last_done rows i m) (omega arith) (omega arith)

-- a number below one that is at most i is below i + 1
below_next : (l n i : ℕ) → n ≤ i → (nat_lt l (suc i) && nat_lt l n) ≡ nat_lt l n
below_next l n i le = elim (cases_lt l n) [
  | inl less ↦ ap (λ b. b && nat_lt l n) (lt-ltb l (suc i) (omega arith))
  | inr more ↦ ap (λ b. nat_lt l (suc i) && b) (le-ltb l n more) ∙ (off (nat_lt l (suc i)) ∙ sym (le-ltb l n more))
]
  where
    off : (b : Bool) → (b && false) ≡ false
    off true = refl
    off false = refl

by_value : (now : Bool) (l i n : ℕ) → n ≤ i → (nat_lt l (suc i) && (nat_lt l n || now)) ≡ nat_lt l (if now then suc i else n)
by_value true l i n le = all (nat_lt l (suc i)) (nat_lt l n)
  where
    all : (a b : Bool) → (a && (b || true)) ≡ a
    all a b = grind arith
by_value false l i n le = ap (λ b. nat_lt l (suc i) && b) (none (nat_lt l n)) ∙ below_next l n i le
  where
    none : (b : Bool) → (b || false) ≡ b
    none b = grind arith

pub done_last : (rows : Rows) (l i m : ℕ) → is_done rows l i m ≡ nat_lt l (last_done rows i m)
done_last rows l zero m = sym (not_below_zero l)
done_last rows l (suc i) m =
    let now = value_at (rows (suc i)).fulfilled m in
    ap (λ b. nat_lt l (suc i) && (b || now)) (done_last rows l i m) ∙ by_value now l i (last_done rows i m) (last_up_to rows i m)
