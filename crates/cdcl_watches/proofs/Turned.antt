-- The order in which the literals of a clause stand in the buffer.
use Rattle.std.proofs.Common.{◌≡◌, ◌≢◌, ℕ, zero, suc, ◌+◌, ◌-◌, ◌<◌, ◌≤◌, inl, inr, if◌then◌else◌, List, [], ◌∷◌, ◌++◌, map, take, set, length, get_or, refl}
use Rattle.std.proofs.Common.{sym, ap, ap₂, ◌∙◌, arith, length-set, get_or-set_same, get_or-set_other}
use Rattle.std.specs.List.{swap}
use Rattle.std.proofs.Math.Seq.{take-suc}
use Rattle.std.proofs.lemmas.Bool.{cases_lt, cases_eq, lt-ltb, le-ltb}
use Rattle.std.proofs.lemmas.List.{same_lists, reverse-reverse, length-reverse, get_or-reverse, map-append, get_or-map, length-map, append_assoc}
use Rattle.std.proofs.lemmas.List.Edits.{swap_is}
use Rattle.cdcl_watches.specs.Turned.{turned, turned_place}

-- the first two stay where they are
pub place_near : (len k : ℕ) → k < 2 → turned_place len k ≡ k
place_near len k near = ap (λ b. if b then k else len - k + 1) (lt-ltb k 2 near)

-- and the others are as far from the end as they were behind the first two
pub place_far : (len k : ℕ) → 2 ≤ k → turned_place len k ≡ len - k + 1
place_far len k far = ap (λ b. if b then k else len - k + 1) (le-ltb k 2 far)

pub place_low : (len k : ℕ) → k < len → turned_place len k < len
place_low len k low = elim (cases_lt k 2) [
  | inl near ↦ omega (arith, place_near len k near, low)
  | inr far ↦ omega (arith, place_far len k far, low)
]

-- two stand apart
place_apart : (len k m : ℕ) → k < len → m < len → m ≢ k → turned_place len m ≢ turned_place len k
place_apart len k m k_low m_low apart same = elim (cases_lt k 2) [
  | inl k_near ↦ elim (cases_lt m 2) [
    | inl m_near ↦ apart (omega (arith, place_near len k k_near, place_near len m m_near, same))
    | inr m_far ↦ omega (arith, place_near len k k_near, place_far len m m_far, same)
  ]
  | inr k_far ↦ elim (cases_lt m 2) [
    | inl m_near ↦ omega (arith, place_far len k k_far, place_near len m m_near, same)
    | inr m_far ↦ apart (omega (arith, place_far len k k_far, place_far len m m_far, same))
  ]
]

pub length_turned : {X : Type 0} (xs : List X) → length (turned xs) ≡ length xs
length_turned [] = refl
length_turned (x ∷ []) = refl
length_turned (x ∷ y ∷ rest) = ap (λ n. suc (suc n)) (length-reverse rest)

pub turned_turned : {X : Type 0} (xs : List X) → turned (turned xs) ≡ xs
turned_turned [] = refl
turned_turned (x ∷ []) = refl
turned_turned (x ∷ y ∷ rest) = ap (λ ys. x ∷ y ∷ ys) (reverse-reverse rest)

-- what stands at a place
pub turned_at : {X : Type 0} (xs : List X) (k : ℕ) (d : X) → k < length xs → get_or (turned xs) k d ≡ get_or xs (turned_place (length xs) k) d
turned_at [] k d low = absurd (omega (arith, low))
turned_at (x ∷ []) k d low = ap (λ n. get_or (x ∷ []) n d) (sym (place_near 1 k (omega (arith, low))))
turned_at (x ∷ y ∷ rest) zero d low = refl
turned_at (x ∷ y ∷ rest) (suc zero) d low = refl
turned_at (x ∷ y ∷ rest) (suc (suc k)) d low =
    let back : suc (suc (length rest - 1 - k)) ≡ turned_place (suc (suc (length rest))) (suc (suc k)) =
    omega (arith, low, place_far (suc (suc (length rest))) (suc (suc k)) (omega arith)) in
    get_or-reverse rest k d (omega (arith, low)) ∙ ap (λ n. get_or (x ∷ y ∷ rest) n d) back

-- one is replaced
turned-set : {X : Type 0} (xs : List X) (k : ℕ) (v : X) → k < length xs → turned (set xs (turned_place (length xs) k) v) ≡ set (turned xs) k v
turned-set xs k v k_low =
    let n = length xs in
    let p = turned_place n k in
    let len = length-set xs p v in
    same_lists (turned (set xs p v)) (set (turned xs) k v) (length_turned (set xs p v) ∙ len ∙ sym (length-set (turned xs) k v ∙ length_turned xs))
    (λ m d low.
    let m_low : m < n = omega (arith, low, length_turned (set xs p v), len) in
    turned_at (set xs p v) m d (omega (arith, m_low, len)) ∙ ap (λ l. get_or (set xs p v) (turned_place l m) d) len ∙ elim (cases_eq m k) [
      | inl same ↦
          ap (λ i. get_or (set xs p v) (turned_place n i) d) same ∙ get_or-set_same xs p v d (place_low n k k_low)
          ∙ sym (ap (λ i. get_or (set (turned xs) k v) i d) same ∙ get_or-set_same (turned xs) k v d (omega (arith, k_low, length_turned xs)))
      | inr other ↦
          get_or-set_other xs p (turned_place n m) v d (place_apart n k m k_low m_low other)
          ∙ sym (get_or-set_other (turned xs) k m v d other ∙ turned_at xs m d m_low)
    ])

-- two change places
pub turned-swap : {X : Type 0} (xs : List X) (i j : ℕ) (d : X) → i < length xs → j < length xs
    → turned (swap xs (turned_place (length xs) i) (turned_place (length xs) j)) ≡ swap (turned xs) i j
turned-swap xs i j d i_low j_low =
    let n = length xs in
    let p = turned_place n i in
    let q = turned_place n j in
    let one = set xs p (get_or xs q d) in
    let len : length one ≡ n = length-set xs p (get_or xs q d) in
    ap turned (sym (swap_is xs p q d (place_low n i i_low) (place_low n j j_low)))
    ∙ ap (λ l. turned (set one (turned_place l j) (get_or xs p d))) (sym len)
    ∙ turned-set one j (get_or xs p d) (omega (arith, j_low, len))
    ∙ ap (λ ys. set ys j (get_or xs p d)) (turned-set xs i (get_or xs q d) i_low)
    ∙ ap₂ (λ u v. set (set (turned xs) i u) j v) (sym (turned_at xs j d j_low)) (sym (turned_at xs i d i_low))
    ∙ swap_is (turned xs) i j d (omega (arith, i_low, length_turned xs)) (omega (arith, j_low, length_turned xs))

-- one more of the turned ones is put behind others
pub turned_more : {X Y : Type 0} (f : X → Y) (xs : List X) (old now new : List Y) (k p : ℕ) (y : Y) (d : X) → k < length xs
    → now ≡ old ++ map f (take k (turned xs))
    → p ≡ turned_place (length xs) k → y ≡ f (get_or xs p d) → new ≡ now ++ y ∷ [] → new ≡ old ++ map f (take (k + 1) (turned xs))
turned_more f xs old now new k p y d low now_is p_is y_is new_is =
    let front = take k (turned xs) in
    let one : suc k ≡ k + 1 = omega arith in
    new_is
    ∙ ap₂ (λ zs z. zs ++ z ∷ []) now_is (y_is ∙ ap (λ n. f (get_or xs n d)) p_is ∙ ap f (sym (turned_at xs k d low)))
    ∙ append_assoc old (map f front) (f (get_or (turned xs) k d) ∷ [])
    ∙ ap (λ zs. old ++ zs) (sym (map-append f front (get_or (turned xs) k d ∷ [])))
    ∙ ap (λ zs. old ++ map f zs) (sym (take-suc (turned xs) k d (omega (arith, low, length_turned xs))))
    ∙ ap (λ n. old ++ map f (take n (turned xs))) one

-- what stands at a place of a list that is mapped first
pub turned_map_at : {X Y : Type 0} (f : X → Y) (xs : List X) (k p : ℕ) (d : X) (e : Y) → k < length (turned (map f xs)) → p ≡ turned_place (length xs) k
    → f (get_or xs p d) ≡ get_or (turned (map f xs)) k e
turned_map_at f xs k p d e k_low p_is =
    let len = length-map xs f in
    let low : k < length xs = omega (arith, k_low, length_turned (map f xs), len) in
    ap (λ n. f (get_or xs n d)) p_is
    ∙ sym (get_or-map f xs (turned_place (length xs) k) d e (place_low (length xs) k low))
    ∙ ap (λ n. get_or (map f xs) (turned_place n k) e) (sym len)
    ∙ sym (turned_at (map f xs) k e (omega (arith, low, len)))
