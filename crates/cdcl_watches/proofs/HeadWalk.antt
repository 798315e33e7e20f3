-- The heads that a walk over the items finds: one behind the other, after a clause is put behind the others, after the last is taken off,
-- and after items that are no heads change.
use Rattle.std.proofs.Common.{◌≡◌, ◌≢◌, ℕ, zero, suc, ◌+◌, ◌<◌, ◌≤◌, List, [], ◌∷◌, ◌++◌, take, set, length, get_or, refl, sym, ap, ◌∙◌, subst, arith}
use Rattle.cdcl_watches.specs.Heads.{heads_from, heads_of, left_from}

-- items that are all still to come of one clause
heads_skipped : (place : ℕ) (items : List ℕ) → heads_from (length items) place items ≡ []
heads_skipped place [] = refl
heads_skipped place (x ∷ items) = heads_skipped (suc place) items

left_skipped : (items : List ℕ) → left_from (length items) items ≡ 0
left_skipped [] = refl
left_skipped (x ∷ items) = left_skipped items

-- items behind others
heads-append : (skip place : ℕ) (items rest : List ℕ)
    → heads_from skip place (items ++ rest) ≡ heads_from skip place items ++ heads_from (left_from skip items) (place + length items) rest
heads-append skip place [] rest =
    let none : place ≡ place + 0 = omega arith in
    ap (λ p. heads_from skip p rest) none
heads-append zero place (n ∷ items) rest =
    let on : suc place + length items ≡ place + suc (length items) = omega arith in
    ap (λ hs. place ∷ hs)
    (heads-append (suc n) (suc place) items rest ∙ ap (λ p. heads_from (suc n) (suc place) items ++ heads_from (left_from (suc n) items) p rest) on)
heads-append (suc skip) place (x ∷ items) rest =
    let on : suc place + length items ≡ place + suc (length items) = omega arith in
    heads-append skip (suc place) items rest ∙ ap (λ p. heads_from skip (suc place) items ++ heads_from (left_from skip items) p rest) on

left-append : (skip : ℕ) (items rest : List ℕ) → left_from skip (items ++ rest) ≡ left_from (left_from skip items) rest
left-append skip [] rest = refl
left-append zero (n ∷ items) rest = left-append (suc n) items rest
left-append (suc skip) (x ∷ items) rest = left-append skip items rest

-- a clause of n numbers is put behind whole ones
module _ (items row : List ℕ) (n name : ℕ) (whole : left_from 0 items ≡ 0) (len : length row ≡ n) where
  pub heads_more : heads_of (items ++ n ∷ name ∷ row) ≡ heads_of items ++ length items ∷ []
  heads_more =
      let from : 0 + length items ≡ length items = omega arith in
      heads-append 0 0 items (n ∷ name ∷ row)
      ∙ ap (λ k. heads_of items ++ heads_from k (0 + length items) (n ∷ name ∷ row)) whole
      ∙ ap (λ p. heads_of items ++ heads_from 0 p (n ∷ name ∷ row)) from
      ∙ ap (λ k. heads_of items ++ length items ∷ heads_from k (suc (suc (length items))) row) (sym len)
      ∙ ap (λ hs. heads_of items ++ length items ∷ hs) (heads_skipped (suc (suc (length items))) row)

  pub whole_more : left_from 0 (items ++ n ∷ name ∷ row) ≡ 0
  whole_more =
      left-append 0 items (n ∷ name ∷ row) ∙ ap (λ k. left_from k (n ∷ name ∷ row)) whole
      ∙ ap (λ k. left_from k row) (sym len) ∙ left_skipped row

-- no head stands before the first item
heads_low : (skip place : ℕ) (items : List ℕ) (k : ℕ) → k < length (heads_from skip place items) → place ≤ get_or (heads_from skip place items) k 0
heads_low skip place [] k low = absurd (omega (arith, low))
heads_low zero place (n ∷ items) zero low = omega arith
heads_low zero place (n ∷ items) (suc k) low = omega (arith, heads_low (suc n) (suc place) items k (omega (arith, low)))
heads_low (suc skip) place (x ∷ items) k low = omega (arith, heads_low skip (suc place) items k low)

-- the items before the k-th head
heads_cut : (skip place : ℕ) (items : List ℕ) (k e : ℕ) → k < length (heads_from skip place items) → place + e ≡ get_or (heads_from skip place items) k 0
    → (heads_from skip place (take e items) ≡ take k (heads_from skip place items)) × (left_from skip (take e items) ≡ 0)
heads_cut skip place [] k e low is = absurd (omega (arith, low))
heads_cut zero place (n ∷ items) zero zero low is = (refl, refl)
heads_cut zero place (n ∷ items) zero (suc e) low is = absurd (omega (arith, is))
heads_cut zero place (n ∷ items) (suc k) zero low is = absurd (omega (arith, is, heads_low (suc n) (suc place) items k (omega (arith, low))))
heads_cut zero place (n ∷ items) (suc k) (suc e) low is =
    let r = heads_cut (suc n) (suc place) items k e (omega (arith, low)) (omega (arith, is)) in
    (ap (λ hs. place ∷ hs) r.0, r.1)
heads_cut (suc skip) place (x ∷ items) k zero low is = absurd (omega (arith, is, heads_low skip (suc place) items k low))
heads_cut (suc skip) place (x ∷ items) k (suc e) low is = heads_cut skip (suc place) items k e low (omega (arith, is))

pub heads_fewer : (items : List ℕ) (k e : ℕ) → k < length (heads_of items) → e ≡ get_or (heads_of items) k 0
    → (heads_of (take e items) ≡ take k (heads_of items)) × (left_from 0 (take e items) ≡ 0)
heads_fewer items k e low is = heads_cut 0 0 items k e low (omega (arith, is))

-- the first head stands behind the items that are still to come of a clause
head_behind : (skip place : ℕ) (items : List ℕ) → skip < length items
    → (0 < length (heads_from skip place items)) × (get_or (heads_from skip place items) 0 0 ≡ place + skip)
head_behind skip place [] low = absurd (omega (arith, low))
head_behind zero place (n ∷ items) low = (omega arith, omega arith)
head_behind (suc skip) place (x ∷ items) low =
    let r = head_behind skip (suc place) items (omega (arith, low)) in
    (r.0, omega (arith, r.1))

-- the head behind the k-th
head_next : (skip place : ℕ) (items : List ℕ) (k e : ℕ) → k < length (heads_from skip place items) → place + e ≡ get_or (heads_from skip place items) k 0
    → e + 2 + get_or items e 0 < length items
    → (suc k < length (heads_from skip place items)) × (get_or (heads_from skip place items) (suc k) 0 ≡ place + (e + 2 + get_or items e 0))
head_next skip place [] k e low is more = absurd (omega (arith, low))
head_next zero place (n ∷ items) zero zero low is more =
    let r = head_behind (suc n) (suc place) items (omega (arith, more)) in
    (omega (arith, r.0), omega (arith, r.1))
head_next zero place (n ∷ items) zero (suc e) low is more = absurd (omega (arith, is))
head_next zero place (n ∷ items) (suc k) zero low is more = absurd (omega (arith, is, heads_low (suc n) (suc place) items k (omega (arith, low))))
head_next zero place (n ∷ items) (suc k) (suc e) low is more =
    let r = head_next (suc n) (suc place) items k e (omega (arith, low)) (omega (arith, is)) (omega (arith, more)) in
    (omega (arith, r.0), omega (arith, r.1))
head_next (suc skip) place (x ∷ items) k zero low is more = absurd (omega (arith, is, heads_low skip (suc place) items k low))
head_next (suc skip) place (x ∷ items) k (suc e) low is more =
    let r = head_next skip (suc place) items k e low (omega (arith, is)) (omega (arith, more)) in
    (r.0, omega (arith, r.1))

pub heads_next : (items : List ℕ) (k e : ℕ) → k < length (heads_of items) → e ≡ get_or (heads_of items) k 0 → e + 2 + get_or items e 0 < length items
    → (suc k < length (heads_of items)) × (get_or (heads_of items) (suc k) 0 ≡ e + 2 + get_or items e 0)
heads_next items k e low is more =
    let r = head_next 0 0 items k e low (omega (arith, is)) more in
    (r.0, omega (arith, r.1))

-- an item that is no head changes
heads_set : (skip place : ℕ) (items : List ℕ) (p x : ℕ)
    → ((k : ℕ) → k < length (heads_from skip place items) → get_or (heads_from skip place items) k 0 ≢ place + p)
    → (heads_from skip place (set items p x) ≡ heads_from skip place items) × (left_from skip (set items p x) ≡ left_from skip items)
heads_set skip place [] p x differ = (refl, refl)
heads_set zero place (n ∷ items) zero x differ = absurd (differ 0 (omega arith) (omega arith))
heads_set zero place (n ∷ items) (suc p) x differ =
    let r = heads_set (suc n) (suc place) items p x (λ k low e. differ (suc k) (omega (arith, low)) (omega (arith, e))) in
    (ap (λ hs. place ∷ hs) r.0, r.1)
heads_set (suc skip) place (y ∷ items) zero x differ = (refl, refl)
heads_set (suc skip) place (y ∷ items) (suc p) x differ = heads_set skip (suc place) items p x (λ k low e. differ k low (omega (arith, e)))

-- two items change that are no heads
pub heads_two : (items : List ℕ) (p q x y : ℕ) → ((k : ℕ) → k < length (heads_of items) → get_or (heads_of items) k 0 ≢ p)
    → ((k : ℕ) → k < length (heads_of items) → get_or (heads_of items) k 0 ≢ q)
    → (heads_of (set (set items p x) q y) ≡ heads_of items) × (left_from 0 (set (set items p x) q y) ≡ left_from 0 items)
heads_two items p q x y not_p not_q =
    let first = heads_set 0 0 items p x (λ k low e. not_p k low (omega (arith, e))) in
    let still : (k : ℕ) → k < length (heads_of (set items p x)) → get_or (heads_of (set items p x)) k 0 ≢ q =
    subst (λ hs. (k : ℕ) → k < length hs → get_or hs k 0 ≢ q) (sym first.0) not_q in
    let second = heads_set 0 0 (set items p x) q y (λ k low e. still k low (omega (arith, e))) in
    (second.0 ∙ first.0, second.1 ∙ first.1)
