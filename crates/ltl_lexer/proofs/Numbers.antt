-- The number at the front of a text.
use Rattle.std.proofs.Common.{◌≡◌, ℕ, zero, suc, ◌+◌, ◌*◌, ◌-◌, ◌/◌, ◌%◌, ◌<◌, ◌≤◌, Bool, true, false, ◌==◌, List, [], ◌∷◌, ◌++◌, length, get_or, arith, refl}
use Rattle.std.proofs.Common.{sym, ap, ap₂, ◌∙◌, subst, inl, inr}
use Rattle.std.specs.Prelude.{Option, Some, None, if◌then◌else◌, nat_le}
use Rattle.std.specs.Char.{is_ascii_digit}
use Rattle.std.specs.Fmt.{decimal}
use Rattle.std.proofs.lemmas.Bool.{cases_lt}
use Rattle.std.proofs.lemmas.Bool.Decides.{nat_tests}
use Rattle.std.proofs.lemmas.Fmt.{decimal_digit, decimal_step}
use Rattle.ltl_lexer.specs.Scanning.{digit_at, three_digits, two_digits, one_digit, front_number}

pub digit_here : (bs : List ℕ) (i : ℕ) → i < length bs → is_ascii_digit (get_or bs i 0) ≡ true → Some (get_or bs i 0 - 48) ≡ digit_at bs i
digit_here [] i lt e = absurd (omega arith)
digit_here (b ∷ bs) zero lt e = ap (λ t. if t then Some (b - 48) else None) (sym e)
digit_here (b ∷ bs) (suc i) lt e = digit_here bs i (omega arith) e

pub no_digit_here : (bs : List ℕ) (i : ℕ) → i < length bs → is_ascii_digit (get_or bs i 0) ≡ false → None ≡ digit_at bs i
no_digit_here [] i lt e = absurd (omega arith)
no_digit_here (b ∷ bs) zero lt e = ap (λ t. if t then Some (b - 48) else None) (sym e)
no_digit_here (b ∷ bs) (suc i) lt e = no_digit_here bs i (omega arith) e

pub no_digit_behind : (bs : List ℕ) (i : ℕ) → length bs ≤ i → None ≡ digit_at bs i
no_digit_behind [] i le = refl
no_digit_behind (b ∷ bs) zero le = absurd (omega arith)
no_digit_behind (b ∷ bs) (suc i) le = no_digit_behind bs i (omega arith)

is_digit : (d : ℕ) → d < 10 → is_ascii_digit (48 + d) ≡ true
is_digit d lt = grind (arith, nat_tests)

digit_is : (d : ℕ) (bs : List ℕ) → d < 10 → digit_at ((48 + d) ∷ bs) 0 ≡ Some d
digit_is d bs lt = ap (λ t. if t then Some (48 + d - 48) else None) (is_digit d lt) ∙ ap Some (omega arith)

digit_front : (text : List ℕ) (d : ℕ) → digit_at text 0 ≡ Some d → (rest : List ℕ) × (text ≡ (48 + d) ∷ rest) × (d < 10)
digit_front [] d e = absurd (cc)
digit_front (b ∷ bs) d e = go (is_ascii_digit b) refl
  where
    go : (t : Bool) → is_ascii_digit b ≡ t → (rest : List ℕ) × (b ∷ bs ≡ (48 + d) ∷ rest) × (d < 10)
    go true h =
        let v : Some (b - 48) ≡ Some d = sym (ap (λ t. if t then Some (b - 48) else None) h) ∙ e in
        let w : b - 48 ≡ d = cc in
        let range : (48 ≤ b) × (b ≤ 57) = (grind (arith, nat_tests), grind (arith, nat_tests)) in
        let l = range.0 in
        let m = range.1 in
        (bs, ap (λ z. z ∷ bs) (omega arith), omega arith)
    go false h = let v : None ≡ Some d = sym (ap (λ t. if t then Some (b - 48) else None) h) ∙ e in absurd (cc)

pub decimal_two : (x y : ℕ) → 0 < x → x < 10 → y < 10 → decimal (10 * x + y) ≡ (48 + x) ∷ (48 + y) ∷ []
decimal_two x y p l m =
    let q : (10 * x + y) / 10 ≡ x = omega arith in
    let r : (10 * x + y) % 10 ≡ y = omega arith in
    decimal_step (10 * x + y) (omega arith) (omega arith) ∙ ap₂ (λ a b. decimal a ++ ((48 + b) ∷ [])) q r ∙ ap (λ z. z ++ ((48 + y) ∷ [])) (decimal_digit x l)

pub decimal_three : (x y z : ℕ) → 0 < x → x < 10 → y < 10 → z < 10 → decimal (100 * x + 10 * y + z) ≡ (48 + x) ∷ (48 + y) ∷ (48 + z) ∷ []
decimal_three x y z p l m n =
    let q : (100 * x + 10 * y + z) / 10 ≡ 10 * x + y = omega arith in
    let r : (100 * x + 10 * y + z) % 10 ≡ z = omega arith in
    decimal_step (100 * x + 10 * y + z) (omega arith) (omega arith) ∙ ap₂ (λ a b. decimal a ++ ((48 + b) ∷ [])) q r
    ∙ ap (λ s. s ++ ((48 + z) ∷ [])) (decimal_two x y p l m)

-- the number stands at the front, and is so long
pub record IsNumber (text : List ℕ) (n len : ℕ) : Type 0 where
  pub rest : List ℕ
  pub small : n ≤ 255
  pub whole : text ≡ decimal n ++ rest
  pub long : len ≡ length (decimal n)

pair_is : (p q : ℕ × ℕ) → Some p ≡ Some q → p ≡ q
pair_is p q e = cc

abbrev pair : ℕ → ℕ → Option (ℕ × ℕ)
pair a m = Some (a, m)

number_at : (text : List ℕ) (a m n len : ℕ) → IsNumber text a m → pair a m ≡ pair n len → IsNumber text n len
number_at text a m n len g e = subst (λ (p : ℕ × ℕ). IsNumber text p.0 p.1) (pair_is (a, m) (n, len) e) g

number_three : (text : List ℕ) (x y : ℕ) (third : Option ℕ) (n len : ℕ) → 0 < x → digit_at text 0 ≡ Some x → digit_at text 1 ≡ Some y
    → digit_at text 2 ≡ third → three_digits x y third ≡ Some (n, len) → IsNumber text n len
number_three text x y None n len p a b c e =
    let f = digit_front text x a in
    let g = digit_front f.0 y (sym (ap (λ z. digit_at z 1) f.1) ∙ b) in
    let d = decimal_two x y p f.2 g.2 in
    number_at text (10 * x + y) 2 n len (record {
      rest = g.0;
      small = let l = f.2 in let m = g.2 in omega arith;
      whole = f.1 ∙ ap (λ z. (48 + x) ∷ z) g.1 ∙ ap (λ z. z ++ g.0) (sym d);
      long = ap length (sym d);
    }) e
number_three text x y (Some z) n len p a b c e = go (nat_le (100 * x + 10 * y + z) 255) refl
  where
    go : (t : Bool) → nat_le (100 * x + 10 * y + z) 255 ≡ t → IsNumber text n len
    go true h =
        let f = digit_front text x a in
        let g = digit_front f.0 y (sym (ap (λ s. digit_at s 1) f.1) ∙ b) in
        let k = digit_front g.0 z (sym (ap (λ s. digit_at s 2) f.1 ∙ ap (λ s. digit_at s 1) g.1) ∙ c) in
        let d = decimal_three x y z p f.2 g.2 k.2 in
        number_at text (100 * x + 10 * y + z) 3 n len (record {
          rest = k.0;
          small = grind (arith, nat_tests);
          whole = f.1 ∙ ap (λ s. (48 + x) ∷ s) g.1 ∙ ap (λ s. (48 + x) ∷ (48 + y) ∷ s) k.1 ∙ ap (λ s. s ++ k.0) (sym d);
          long = ap length (sym d);
        }) (sym (ap (λ t. if t then Some (100 * x + 10 * y + z, 3) else None) h) ∙ e)
    go false h = let v : None ≡ pair n len = sym (ap (λ t. if t then Some (100 * x + 10 * y + z, 3) else None) h) ∙ e in absurd (cc)

number_two : (text : List ℕ) (x : ℕ) (second third : Option ℕ) (n len : ℕ) → digit_at text 0 ≡ Some x
    → digit_at text 1 ≡ second → digit_at text 2 ≡ third → two_digits x second third ≡ Some (n, len) → IsNumber text n len
number_two text x None third n len a b c e =
    let f = digit_front text x a in
    let d = decimal_digit x f.2 in
    number_at text x 1 n len (record {
      rest = f.0;
      small = let l = f.2 in omega arith;
      whole = f.1 ∙ ap (λ z. z ++ f.0) (sym d);
      long = ap length (sym d);
    }) e
number_two text x (Some y) third n len a b c e = go (x == 0) refl
  where
    go : (t : Bool) → (x == 0) ≡ t → IsNumber text n len
    go true h = let v : None ≡ pair n len = sym (ap (λ t. if t then None else three_digits x y third) h) ∙ e in absurd (cc)
    go false h = number_three text x y third n len (grind (arith, nat_tests)) a b c (sym (ap (λ t. if t then None else three_digits x y third) h) ∙ e)

number_one : (text : List ℕ) (first second third : Option ℕ) (n len : ℕ)
    → digit_at text 0 ≡ first → digit_at text 1 ≡ second → digit_at text 2 ≡ third → one_digit first second third ≡ Some (n, len) → IsNumber text n len
number_one text None second third n len a b c e = absurd (cc)
number_one text (Some x) second third n len a b c e = number_two text x second third n len a b c e

pub number_found : (text : List ℕ) (n len : ℕ) → front_number text ≡ Some (n, len) → IsNumber text n len
number_found text n len e = number_one text (digit_at text 0) (digit_at text 1) (digit_at text 2) n len refl refl refl e

-- the number that stands at the front is found, where no digit stands behind it
all_three : (x y z : ℕ) → 0 < x → x < 10 → y < 10 → z < 10 → 100 * x + 10 * y + z ≤ 255 → (rest : List ℕ)
    → front_number (decimal (100 * x + 10 * y + z) ++ rest) ≡ Some (100 * x + 10 * y + z, length (decimal (100 * x + 10 * y + z)))
all_three x y z p l m n s rest =
    let d = decimal_three x y z p l m n in
    let text = (48 + x) ∷ (48 + y) ∷ (48 + z) ∷ rest in
    let some : (x == 0) ≡ false = grind (arith, nat_tests) in
    let small : nat_le (100 * x + 10 * y + z) 255 ≡ true = grind (arith, nat_tests) in
    ap (λ v. front_number (v ++ rest)) d
    ∙ ap (λ t. one_digit t (digit_at text 1) (digit_at text 2)) (digit_is x ((48 + y) ∷ (48 + z) ∷ rest) l)
    ∙ ap (λ t. two_digits x t (digit_at text 2)) (digit_is y ((48 + z) ∷ rest) m)
    ∙ ap (λ t. if t then None else three_digits x y (digit_at text 2)) some
    ∙ ap (λ t. three_digits x y t) (digit_is z rest n)
    ∙ ap (λ t. if t then pair (100 * x + 10 * y + z) 3 else None) small
    ∙ ap (λ k. pair (100 * x + 10 * y + z) k) (ap length (sym d))

all_two : (x y : ℕ) → 0 < x → x < 10 → y < 10 → (rest : List ℕ)
    → digit_at rest 0 ≡ None → front_number (decimal (10 * x + y) ++ rest) ≡ Some (10 * x + y, length (decimal (10 * x + y)))
all_two x y p l m rest none =
    let d = decimal_two x y p l m in
    let text = (48 + x) ∷ (48 + y) ∷ rest in
    let some : (x == 0) ≡ false = grind (arith, nat_tests) in
    ap (λ s. front_number (s ++ rest)) d
    ∙ ap (λ t. one_digit t (digit_at text 1) (digit_at text 2)) (digit_is x ((48 + y) ∷ rest) l)
    ∙ ap (λ t. two_digits x t (digit_at text 2)) (digit_is y rest m)
    ∙ ap (λ t. if t then None else three_digits x y (digit_at text 2)) some
    ∙ ap (λ t. three_digits x y t) none
    ∙ ap (λ k. pair (10 * x + y) k) (ap length (sym d))

all_one : (x : ℕ) → x < 10 → (rest : List ℕ) → digit_at rest 0 ≡ None → front_number (decimal x ++ rest) ≡ Some (x, length (decimal x))
all_one x l rest none =
    let d = decimal_digit x l in
    let text = (48 + x) ∷ rest in
    ap (λ s. front_number (s ++ rest)) d
    ∙ ap (λ t. one_digit t (digit_at text 1) (digit_at text 2)) (digit_is x rest l)
    ∙ ap (λ t. one_digit (Some x) t (digit_at text 2)) none
    ∙ ap (λ k. pair x k) (ap length (sym d))

abbrev IsFound : List ℕ → ℕ → Type 0
IsFound rest n = front_number (decimal n ++ rest) ≡ Some (n, length (decimal n))

pub number_read : (n : ℕ) (rest : List ℕ) → n ≤ 255 → digit_at rest 0 ≡ None → IsFound rest n
number_read n rest s none = elim (cases_lt n 10) [
  | inl l ↦ all_one n l rest none
  | inr g ↦ elim (cases_lt n 100) [
    | inl l ↦
        let e : 10 * (n / 10) + n % 10 ≡ n = omega arith in
        subst (IsFound rest) e (all_two (n / 10) (n % 10) (omega arith) (omega arith) (omega arith) rest none)
    | inr h ↦
        let e : 100 * (n / 100) + 10 * (n / 10 % 10) + n % 10 ≡ n = omega arith in
        subst (IsFound rest) e (all_three (n / 100) (n / 10 % 10) (n % 10) (omega arith) (omega arith) (omega arith) (omega arith) (omega arith) rest)
  ]
]
