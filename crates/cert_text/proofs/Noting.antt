-- Up to where each line is used, as the hints are gone through.
use Rattle.std.proofs.Common.{◌≡◌, ℕ, suc, ◌+◌, ◌-◌, ◌<◌, ◌||◌, inl, inr, Bool, true, false, List, ◌∷◌, ◌++◌, length, take, get_or, refl, []}
use Rattle.std.proofs.Common.{sym, ap, ap₂, ◌∙◌, arith, if◌then◌else◌}
use Rattle.std.proofs.lemmas.Bool.{cases_lt}
use Rattle.std.proofs.lemmas.List.{get_or_append_left, get_or_at, length_push, take_more}
use Rattle.std.proofs.lemmas.List.{length-take-le}
use Rattle.cnf_base.specs.declared.literal.Hint.{Hint}
use Rattle.cert_text.specs.Writing.{uses, last_among, IsNoted}

pub noted_none : (line : ℕ) (old : List ℕ) → IsNoted [] line old old
noted_none line old = record { count = refl; each = λ k low. refl }

or_false : (b : Bool) → (b || false) ≡ b
or_false true = refl
or_false false = refl

-- the numbers from 1
pub record AreNumbered (count : ℕ) (last : List ℕ) : Type 0 where
  pub size : length last ≡ count
  pub each : (k : ℕ) → k < count → get_or last k 0 ≡ suc k

pub numbered_more : (count : ℕ) (last : List ℕ) → AreNumbered count last → AreNumbered (count + 1) (last ++ (count + 1) ∷ [])
numbered_more count last are = record {
  size = length_push last (count + 1) ∙ omega (arith, are.size);
  each = λ k low. elim (cases_lt k count) [
    | inl before ↦ get_or_append_left last ((count + 1) ∷ []) 0 k (omega (arith, before, are.size)) ∙ are.each k before
    | inr at ↦ get_or_at last (count + 1) [] 0 k (omega (arith, at, low, are.size)) ∙ omega (arith, at, low)
  ];
}

-- the hints of the first lines are gone through
pub record AreNoted (hss : List (List Hint)) (count i : ℕ) (last : List ℕ) : Type 0 where
  pub size : length last ≡ count
  pub each : (k : ℕ) → k < count → get_or last k 0 ≡ last_among (suc k) 0 (take i hss) (suc k)

last_push : (m n : ℕ) (hss : List (List Hint)) (hs : List Hint) (last : ℕ)
    → last_among m n (hss ++ hs ∷ []) last ≡ (if uses m hs then suc (n + length hss) else last_among m n hss last)
last_push m n [] hs last = ap (λ x. if uses m hs then suc x else last) (omega arith)
last_push m n (h ∷ hss) hs last =
    let x : ℕ = if uses m h then suc n else last in
    last_push m (suc n) hss hs x ∙ ap (λ y. if uses m hs then suc y else last_among m (suc n) hss x) (omega arith)

pub noted_next : (hss : List (List Hint)) (count i : ℕ) (hs : List Hint) (a b : List ℕ) → i < length hss → hs ≡ get_or hss i [] → AreNoted hss count i a
    → IsNoted hs (i + 1) a b → AreNoted hss count (i + 1) b
noted_next hss count i hs a b low is are noted = record {
  size = noted.count ∙ are.size;
  each = λ k below.
      let front = take_more hss i [] low ∙ ap (λ x. take i hss ++ x ∷ []) (sym is) in
      let size : suc (0 + length (take i hss)) ≡ i + 1 = omega (arith, length-take-le i hss (omega (arith, low))) in
      noted.each k (omega (arith, below, are.size)) ∙ ap₂ (λ x y. if uses (suc k) hs then x else y) (sym size) (are.each k below)
      ∙ sym (ap (λ z. last_among (suc k) 0 z (suc k)) front ∙ last_push (suc k) 0 (take i hss) hs (suc k));
}
