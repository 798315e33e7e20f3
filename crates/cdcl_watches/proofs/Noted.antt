-- Noted places stay heads where a clause is put behind the others, and where there is more room for them; and
-- the clause of a noted head is one of the clauses.
use Rattle.std.proofs.Common.{◌≡◌, ◌≢◌, ℕ, ◌<◌, ◌⊎◌, inl, inr, List, [], ◌∷◌, ◌++◌, set, take, replicate, Contains, length, get_or, refl, sym, ◌∙◌, subst}
use Rattle.std.proofs.Common.{arith, length-take-le}
use Rattle.std.proofs.lemmas.List.Elements.{All-append, All-replicate, All-set, Contains-append_left}
use Rattle.cdcl_watches.specs.Heads.{clauses_at, number_of, AreHeads, AreNoted}
use Rattle.cdcl_watches.proofs.Buffer.{length_clauses}
use Rattle.cdcl_watches.proofs.HeadNumbers.{number_low}

-- there are as many heads and one more
pub noted_pushed : (heads new reasons : List ℕ) (h : ℕ) → new ≡ heads ++ h ∷ [] → AreNoted heads reasons → AreNoted new reasons
noted_pushed heads new reasons h is noted =
    subst (λ hs. AreNoted hs reasons) (sym is)
    (λ k d low. elim (noted k d low) [
      | inl none ↦ inl none
      | inr there ↦ inr (Contains-append_left heads (h ∷ []) (get_or reasons k d) there)
    ])

-- there is room for more letters
pub noted_roomier : (heads reasons new : List ℕ) (n : ℕ) → new ≡ reasons ++ replicate n 4294967295 → AreNoted heads reasons → AreNoted heads new
noted_roomier heads reasons new n is noted =
    subst (AreNoted heads) (sym is)
    (All-append (λ h. (h ≡ 4294967295) ⊎ Contains heads h) reasons (replicate n 4294967295) noted
    (All-replicate (λ h. (h ≡ 4294967295) ⊎ Contains heads h) n 4294967295 (inl refl)))

-- one head is noted
pub noted_set : (heads reasons : List ℕ) (letter h : ℕ) → Contains heads h → AreNoted heads reasons → AreNoted heads (set reasons letter h)
noted_set heads reasons letter h there noted = All-set (λ x. (x ≡ 4294967295) ⊎ Contains heads x) reasons letter h (inr there) noted

-- no place is noted
pub noted_none : (heads reasons new : List ℕ) → new ≡ take 0 reasons → AreNoted heads new
noted_none heads reasons new is = subst (AreNoted heads) (sym is) (λ k d low. absurd (omega (arith, low, length-take-le 0 reasons (omega arith))))

-- what is noted, and is a head at all, is one of the heads
pub noted_head : (heads reasons : List ℕ) (letter h : ℕ) → AreNoted heads reasons → letter < length reasons → h ≡ get_or reasons letter h
    → h ≢ 4294967295 → Contains heads h
noted_head heads reasons letter h noted low is some = elim (noted letter h low) [
  | inl none ↦ absurd (some (is ∙ none))
  | inr there ↦ subst (Contains heads) (sym is) there
]

-- the clause of a head is one of the clauses
pub head_clause : (items heads : List ℕ) (h : ℕ) → AreHeads items heads → Contains heads h → number_of heads h < length (clauses_at items heads)
head_clause items heads h are there = omega (arith, (number_low heads h there).0, length_clauses items heads are)
