-- Literals and their numbers.
use Rattle.std.proofs.Common.{◌≡◌, ℕ, ◌+◌, ◌*◌, ◌/◌, ◌%◌, nat_eq, Bool, true, false, inl, inr, if◌then◌else◌, List, [], ◌∷◌, map}
use Rattle.std.proofs.Common.{refl, sym, ap, ap₂, ◌∙◌, arith}
use Rattle.std.proofs.lemmas.Bool.{cases_eq}
use Rattle.cnf_base.specs.declared.literal.Literal.{Literal}
use Rattle.cdcl_watches.specs.Watching.{code, literal_of}

-- the number of a literal gives it back
pub literal_code : (l : Literal) → literal_of (code l) ≡ l
literal_code l = go l.negated refl
  where
    make : ℕ → Bool → Literal
    make x n = record { letter = record { 0 = x }; negated = n }

    go : (b : Bool) → l.negated ≡ b → literal_of (code l) ≡ l
    go false is =
        let c : code l ≡ 2 * l.letter.0 = omega (arith, ap (λ n. 2 * l.letter.0 + (if n then 1 else 0)) is) in
        let half : code l / 2 ≡ l.letter.0 = omega (arith, c) in
        let odd : code l % 2 ≡ 0 = omega (arith, c) in
        ap₂ make half (ap (λ n. nat_eq n 1) odd ∙ sym is)
    go true is =
        let c : code l ≡ 2 * l.letter.0 + 1 = ap (λ n. 2 * l.letter.0 + (if n then 1 else 0)) is in
        let half : code l / 2 ≡ l.letter.0 = omega (arith, c) in
        let odd : code l % 2 ≡ 1 = omega (arith, c) in
        ap₂ make half (ap (λ n. nat_eq n 1) odd ∙ sym is)

-- the numbers of literals give them back
pub literals_code : (ls : List Literal) → map literal_of (map code ls) ≡ ls
literals_code [] = refl
literals_code (l ∷ ls) = ap₂ ◌∷◌ (literal_code l) (literals_code ls)

-- and so do the literals of numbers
code_literal : (n : ℕ) → code (literal_of n) ≡ n
code_literal n = elim (cases_eq (n % 2) 1) [
  | inl odd ↦ ap (λ m. 2 * (n / 2) + (if nat_eq m 1 then 1 else 0)) odd ∙ omega (arith, odd)
  | inr off ↦
      let even : n % 2 ≡ 0 = omega (arith, off) in
      ap (λ m. 2 * (n / 2) + (if nat_eq m 1 then 1 else 0)) even ∙ omega (arith, even)
]

pub codes_literal : (ns : List ℕ) → map code (map literal_of ns) ≡ ns
codes_literal [] = refl
codes_literal (n ∷ ns) = ap₂ ◌∷◌ (code_literal n) (codes_literal ns)
