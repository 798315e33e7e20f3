-- The numbers of clauses by their heads.
use Rattle.std.proofs.Common.{◌≡◌, ◌≢◌, ℕ, zero, suc, ◌<◌, nat_eq, if◌then◌else◌, Bool, true, false, inl, inr, List, ◌∷◌, ◌++◌, length, get_or, Contains, []}
use Rattle.std.proofs.Common.{refl, sym, ap, ◌∙◌, arith}
use Rattle.std.proofs.lemmas.Bool.{cases_eq, cases_lt, eq-eqb, eqb-true}
use Rattle.std.proofs.lemmas.List.{get_or_default, get_or_append_left, get_or_at, length_push}
use Rattle.cdcl_watches.specs.Watching.{AreApart}
use Rattle.cdcl_watches.specs.Heads.{number_of}

number_head : (h : ℕ) (heads : List ℕ) (x : ℕ) → h ≡ x → number_of (h ∷ heads) x ≡ 0
number_head h heads x is = ap (λ b. if b then 0 else suc (number_of heads x)) (eq-eqb h x is)

number_tail : (h : ℕ) (heads : List ℕ) (x : ℕ) → h ≢ x → number_of (h ∷ heads) x ≡ suc (number_of heads x)
number_tail h heads x differ = ap (λ b. if b then 0 else suc (number_of heads x)) (go (nat_eq h x) refl)
  where
    go : (b : Bool) → nat_eq h x ≡ b → nat_eq h x ≡ false
    go true is = absurd (differ (eqb-true h x is))
    go false is = is

in_tail : (h : ℕ) (heads : List ℕ) (x : ℕ) → h ≢ x → Contains (h ∷ heads) x → Contains heads x
in_tail h heads x differ (zero, low, is) = absurd (differ is)
in_tail h heads x differ (suc k, low, is) = (k, omega (arith, low), is)

in_whole : (h : ℕ) (heads : List ℕ) (x : ℕ) → Contains heads x → Contains (h ∷ heads) x
in_whole h heads x (k, low, is) = (suc k, omega (arith, low), is)

-- a head stands at its number
pub number_low : (heads : List ℕ) (x : ℕ) → Contains heads x → (number_of heads x < length heads) × (get_or heads (number_of heads x) 0 ≡ x)
number_low [] x (k, low, is) = absurd (omega (arith, low))
number_low (h ∷ heads) x there = elim (cases_eq h x) [
  | inl same ↦ let n = number_head h heads x same in (omega (arith, n), ap (λ m. get_or (h ∷ heads) m 0) n ∙ same)
  | inr differ ↦
      let n = number_tail h heads x differ in
      let rest = number_low heads x (in_tail h heads x differ there) in
      (omega (arith, n, rest.0), ap (λ m. get_or (h ∷ heads) m 0) n ∙ rest.1)
]

-- heads behind it change nothing
pub number_more : (heads ys : List ℕ) (x : ℕ) → Contains heads x → number_of (heads ++ ys) x ≡ number_of heads x
number_more [] ys x (k, low, is) = absurd (omega (arith, low))
number_more (h ∷ heads) ys x there = elim (cases_eq h x) [
  | inl same ↦ number_head h (heads ++ ys) x same ∙ sym (number_head h heads x same)
  | inr differ ↦ number_tail h (heads ++ ys) x differ ∙ ap suc (number_more heads ys x (in_tail h heads x differ there)) ∙ sym (number_tail h heads x differ)
]

-- a new head has the next number
pub number_last : (heads : List ℕ) (x : ℕ) → ¬ Contains heads x → number_of (heads ++ x ∷ []) x ≡ length heads
number_last [] x differ = number_head x [] x refl
number_last (h ∷ heads) x differ =
    number_tail h (heads ++ x ∷ []) x (λ e. differ (zero, omega arith, e)) ∙ ap suc (number_last heads x (λ there. differ (in_whole h heads x there)))

-- a head that was put behind heads that are apart from it
pub head_apart : (heads : List ℕ) (x : ℕ) → AreApart (heads ++ x ∷ []) → ¬ Contains heads x
head_apart heads x apart (k, low, is) =
    apart k (length heads) x low (omega (arith, length_push heads x))
    (get_or_append_left heads (x ∷ []) x k low ∙ is ∙ sym (get_or_at heads x [] x (length heads) refl))

-- of heads that are apart, each stands among them and has the number of its place
pub number_at : (heads : List ℕ) (c : ℕ) → AreApart heads → c < length heads → Contains heads (get_or heads c 0) × (number_of heads (get_or heads c 0) ≡ c)
number_at heads c apart low = (there, same)
  where
    there : Contains heads (get_or heads c 0)
    there = (c, low, get_or_default heads c (get_or heads c 0) 0 low)

    same : number_of heads (get_or heads c 0) ≡ c
    same =
        let r = number_low heads (get_or heads c 0) there in
        elim (cases_lt (number_of heads (get_or heads c 0)) c) [
          | inl less ↦ absurd (apart (number_of heads (get_or heads c 0)) c 0 less low r.1)
          | inr ge ↦ elim (cases_lt c (number_of heads (get_or heads c 0))) [
            | inl more ↦ absurd (apart c (number_of heads (get_or heads c 0)) 0 more r.0 (sym r.1))
            | inr le ↦ omega (arith, ge, le)
          ]
        ]
