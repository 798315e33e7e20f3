-- Numbers, digit by digit: what a digit leads to, and that a number is read whose digits lead on.
use Rattle.std.proofs.Common.{◌≡◌, ℕ, ◌+◌, ◌-◌, ◌*◌, ◌/◌, ◌%◌, ◌<◌, ◌≤◌, ◌==◌, ◌&&◌, Bool, true, false, cond, ltb, List, [], ◌∷◌, ◌++◌, Option, Some, None}
use Rattle.std.proofs.Common.{refl, sym, ap, ◌∙◌, subst, arith, append_assoc}
use Rattle.std.specs.Prelude.{decimal}
use Rattle.std.proofs.lemmas.Bool.{cond-true, cond-false, and_from, and_parts, lt-ltb, le-ltb, ltb-true, ltb-false, eqb-true}
use Rattle.std.proofs.lemmas.Fmt.{decimal_by_steps}
use Rattle.cert_text.specs.Text.{greatest_u64}
use Rattle.cert_text.specs.Machine.{run_by}
use Rattle.cert_text.proofs.Machine.{run_step}

-- what holds of the answer, if there is one
abbrev pub Gives : {X : Type 0} → (X → Type 0) → Option X → Type 0
Gives {X} P o = (t : X) → o ≡ Some t → P t

pub gives_none : {X : Type 0} (P : X → Type 0) → Gives P None
gives_none P t e = cc

pub gives_some : {X : Type 0} (P : X → Type 0) (s : X) → P s → Gives P (Some s)
gives_some P s h t e = let same : s ≡ t = cc in subst P same h

pub gives_if : {X : Type 0} (P : X → Type 0) (b : Bool) (x y : Option X) → (b ≡ true → Gives P x) → (b ≡ false → Gives P y) → Gives P (cond b x y)
gives_if P true x y on off = on refl
gives_if P false x y on off = off refl

-- at one byte, and at the others
pub gives_at : {X : Type 0} (P : ℕ → X → Type 0) (b k : ℕ) (x y : Option X) → Gives (P k) x → Gives (P b) y → Gives (P b) (cond (b == k) x y)
gives_at P b k x y on off = gives_if (P b) (b == k) x y (λ e. subst (λ i. Gives (P i) x) (sym (eqb-true b k e)) on) (λ e. off)

-- a first digit is from 1 to 9
pub gives_first : {X : Type 0} (P : X → Type 0) (number : ℕ → X) (b : ℕ) → (48 < b → b < 58 → P (number (b - 48)))
    → Gives P (cond (ltb 48 b && ltb b 58) (Some (number (b - 48))) None)
gives_first P number b on =
    gives_if P (ltb 48 b && ltb b 58) (Some (number (b - 48))) None
    (λ e. let parts = and_parts (ltb 48 b) (ltb b 58) e in gives_some P (number (b - 48)) (on (ltb-true 48 b parts.0) (ltb-true b 58 parts.1)))
    (λ e. gives_none P)

-- behind a number n comes one more digit, where the number stays within the greatest, or its end
pub gives_digit : {X : Type 0} (P : X → Type 0) (number : ℕ → X) (greatest n b : ℕ) (end : Option X)
    → (47 < b → b < 58 → 10 * n + (b - 48) ≤ greatest → P (number (10 * n + (b - 48)))) → Gives P end
    → Gives P (cond (ltb 47 b && ltb b 58) (cond (ltb greatest (10 * n + (b - 48))) None (Some (number (10 * n + (b - 48))))) end)
gives_digit P number greatest n b end on off =
    gives_if P (ltb 47 b && ltb b 58) _ end
    (λ e.
    let parts = and_parts (ltb 47 b) (ltb b 58) e in
    gives_if P (ltb greatest (10 * n + (b - 48))) None (Some (number (10 * n + (b - 48)))) (λ f. gives_none P)
    (λ f. gives_some P (number (10 * n + (b - 48))) (on (ltb-true 47 b parts.0) (ltb-true b 58 parts.1) (ltb-false greatest (10 * n + (b - 48)) f))))
    (λ e. off)

pub first_read : {X : Type 0} (number : ℕ → X) (b : ℕ) → 48 < b → b < 58 → cond (ltb 48 b && ltb b 58) (Some (number (b - 48))) None ≡ Some (number (b - 48))
first_read number b low high = cond-true (ltb 48 b && ltb b 58) _ _ (and_from (ltb 48 b) (ltb b 58) (lt-ltb 48 b low) (lt-ltb b 58 high))

pub digit_read : {X : Type 0} (number : ℕ → X) (greatest n b : ℕ) (end : Option X) → 47 < b → b < 58 → 10 * n + (b - 48) ≤ greatest
    → cond (ltb 47 b && ltb b 58) (cond (ltb greatest (10 * n + (b - 48))) None (Some (number (10 * n + (b - 48))))) end ≡ Some (number (10 * n + (b - 48)))
digit_read number greatest n b end low high few =
    cond-true (ltb 47 b && ltb b 58) _ _ (and_from (ltb 47 b) (ltb b 58) (lt-ltb 47 b low) (lt-ltb b 58 high))
    ∙ cond-false (ltb greatest (10 * n + (b - 48))) _ _ (le-ltb greatest (10 * n + (b - 48)) few)

-- a number is read, where its first digit is and each digit behind it
pub digits_read : {S : Type 0} (step : S → ℕ → Option S) (s : S) (number : ℕ → S) (greatest : ℕ) → greatest ≤ greatest_u64
    → ((b : ℕ) → 48 < b → b < 58 → step s b ≡ Some (number (b - 48)))
    → ((n b : ℕ) → 47 < b → b < 58 → 10 * n + (b - 48) ≤ greatest → step (number n) b ≡ Some (number (10 * n + (b - 48))))
    → (n : ℕ) → 1 ≤ n → n ≤ greatest → (rest : List ℕ) → run_by step s (decimal n ++ rest) ≡ run_by step (number n) rest
digits_read {S} step s number greatest fits first digit n low high = decimal_by_steps P one more n (omega (arith, high, fits)) low high
  where
    P : ℕ → List ℕ → Type 0
    P n ds = 1 ≤ n → n ≤ greatest → (rest : List ℕ) → run_by step s (ds ++ rest) ≡ run_by step (number n) rest

    one : (n : ℕ) → n < 10 → P n ((48 + n) ∷ [])
    one n small low high rest =
        let e : 48 + n - 48 ≡ n = omega arith in
        run_step step s (number (48 + n - 48)) (48 + n) rest (first (48 + n) (omega arith) (omega arith)) ∙ ap (λ m. run_by step (number m) rest) e

    more : (n : ℕ) (ds : List ℕ) → 10 ≤ n → P (n / 10) ds → P n (ds ++ ((48 + n % 10) ∷ []))
    more n ds big before low high rest =
        let e : 10 * (n / 10) + (48 + n % 10 - 48) ≡ n = omega arith in
        ap (run_by step s) (append_assoc ds ((48 + n % 10) ∷ []) rest)
        ∙ before (omega arith) (omega arith) ((48 + n % 10) ∷ rest)
        ∙ run_step step (number (n / 10)) (number (10 * (n / 10) + (48 + n % 10 - 48))) (48 + n % 10) rest
        (digit (n / 10) (48 + n % 10) (omega arith) (omega arith) (omega arith))
        ∙ ap (λ m. run_by step (number m) rest) e
