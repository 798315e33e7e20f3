-- From assignments to what letters stand for to assignments to their numbers, and back.
use Rattle.std.proofs.Common.{◌≡◌, ℕ, ◌<◌, ◌≤◌, Bool, true, not, ◌||◌, refl, ◌∙◌, sym, ap, ap₂, List, [], ◌∷◌, get_or, map, All}
use Rattle.std.specs.List.{AllByRecursion as Each}
use Rattle.std.proofs.lemmas.List.Elements.{All-from_recursion, recursion_from_All}
use Rattle.ltl_syntax.specs.declared.node.Kind.{Kind}
use Rattle.ltl_syntax.specs.Formula.{Formula}
use Rattle.cnf_base.specs.declared.literal.Literal.{Literal as Signed}
use Rattle.cnf_base.specs.Meaning.{Satisfies, literal_value, clause_value}
use Rattle.enc_layout.specs.Letters.{Meaning, Unpruned, all_letters, letters_through, IsLetter}
use Rattle.enc_layout.specs.Clauses.{Literal, Plus, Minus, Clause, literal_true, clause_true, counts, clauses_through, number_in, signed, signed_clauses}
use Rattle.enc_layout.specs.Clauses.{clause_list}
use Rattle.enc_layout.proofs.Gates.{IsTrueClause}
use Rattle.enc_layout.proofs.Meanings.{less_one}
use Rattle.enc_layout.proofs.Numbers.{number_is, number_within}
use Rattle.enc_layout.proofs.Within.{IsKnown, AreKnown, within}

module _ (f : Formula) (kind : Kind) (w : ℕ → Bool) where
  -- the assignment to what the letters stand for
  abbrev pub by_number : Meaning → Bool
  by_number p = w (number_in f kind p)

  literal_same : (l : Literal) → literal_value w (signed f kind l) ≡ literal_true by_number l
  literal_same (Plus p) = refl
  literal_same (Minus p) = refl

  clause_same : (c : Clause) → clause_value w (map (signed f kind) c) ≡ clause_true by_number c
  clause_same [] = refl
  clause_same (l ∷ ls) = ap₂ ◌||◌ (literal_same l) (clause_same ls)

  to_letters : (cs : List Clause) → Each (λ c. clause_value w c ≡ true) (signed_clauses f kind cs) → Each (IsTrueClause by_number) cs
  to_letters [] h = tt
  to_letters (c ∷ cs) h = (sym (clause_same c) ∙ h.0, to_letters cs h.1)

  to_numbers : (cs : List Clause) → Each (IsTrueClause by_number) cs → Each (λ c. clause_value w c ≡ true) (signed_clauses f kind cs)
  to_numbers [] h = tt
  to_numbers (c ∷ cs) h = (clause_same c ∙ h.0, to_numbers cs h.1)

  -- clauses that are true over the numbers are so over what the letters stand for
  pub clauses_true : (cs : List Clause) → Satisfies w (signed_clauses f kind cs) → Each (IsTrueClause by_number) cs
  clauses_true cs h = to_letters cs (recursion_from_All (λ c. clause_value w c ≡ true) (signed_clauses f kind cs) h)

  pub letters_true : (d : ℕ) → Satisfies w (clause_list f kind d) → Each (IsTrueClause by_number) (clauses_through f kind d)
  letters_true d h = clauses_true (clauses_through f kind d) h

  pub numbers_true : (d : ℕ) → Each (IsTrueClause by_number) (clauses_through f kind d) → Satisfies w (clause_list f kind d)
  numbers_true d h = All-from_recursion (λ c. clause_value w c ≡ true) (clause_list f kind d) (to_numbers (clauses_through f kind d) h)

module _ (f : Formula) (kind : Kind) (d : ℕ) (v : Meaning → Bool) where
  -- the assignment to the numbers
  abbrev pub to_number : ℕ → Bool
  to_number n = v (get_or (all_letters kind (counts f) d) (less_one n) Unpruned)

  pub same_at : (p : Meaning) → IsLetter kind (counts f) d p → by_number f kind to_number p ≡ v p
  same_at p h =
      let s = number_is kind (counts f) d p h in
      ap to_number (sym s.1) ∙ ap v (s.2.is Unpruned)

  literal_at : (l : Literal) → IsKnown f kind d l → literal_true (by_number f kind to_number) l ≡ literal_true v l
  literal_at (Plus p) h = same_at p h
  literal_at (Minus p) h = ap not (same_at p h)

  clause_at : (c : Clause) → AreKnown f kind d c → clause_true (by_number f kind to_number) c ≡ clause_true v c
  clause_at [] h = refl
  clause_at (l ∷ ls) h = ap₂ ◌||◌ (literal_at l h.0) (clause_at ls h.1)

  clauses_at : (cs : List Clause) → Each (AreKnown f kind d) cs → Each (IsTrueClause v) cs → Each (IsTrueClause (by_number f kind to_number)) cs
  clauses_at [] h k = tt
  clauses_at (c ∷ cs) h k = (clause_at c h.0 ∙ k.0, clauses_at cs h.1 k.1)

  pub numbered_true : Each (IsTrueClause v) (clauses_through f kind d) → Satisfies to_number (clause_list f kind d)
  numbered_true h = numbers_true f kind to_number d (clauses_at (clauses_through f kind d) (within f kind d) h)

-- every letter of the list is from 1 to the letters through the depth
letter_range : (f : Formula) (kind : Kind) (d : ℕ) (l : Literal) → IsKnown f kind d l
    → (0 < (signed f kind l).letter.0) × ((signed f kind l).letter.0 ≤ letters_through kind (counts f) d)
letter_range f kind d (Plus p) h = number_within kind (counts f) d p h
letter_range f kind d (Minus p) h = number_within kind (counts f) d p h

abbrev InRange : ℕ → Signed → Type 0
InRange n l = (0 < l.letter.0) × (l.letter.0 ≤ n)

literals_range : (f : Formula) (kind : Kind) (d : ℕ) (c : Clause) → AreKnown f kind d c
    → Each (InRange (letters_through kind (counts f) d)) (map (signed f kind) c)
literals_range f kind d [] h = tt
literals_range f kind d (l ∷ ls) h = (letter_range f kind d l h.0, literals_range f kind d ls h.1)

clauses_range : (f : Formula) (kind : Kind) (d : ℕ) (cs : List Clause) → Each (AreKnown f kind d) cs
    → Each (λ c. All (InRange (letters_through kind (counts f) d)) c) (signed_clauses f kind cs)
clauses_range f kind d [] h = tt
clauses_range f kind d (c ∷ cs) h =
    (All-from_recursion (InRange (letters_through kind (counts f) d)) (map (signed f kind) c) (literals_range f kind d c h.0), clauses_range f kind d cs h.1)

pub list_range : (f : Formula) (kind : Kind) (d : ℕ)
    → All (λ c. All (λ l. (0 < l.letter.0) × (l.letter.0 ≤ letters_through kind (counts f) d)) c) (clause_list f kind d)
list_range f kind d = All-from_recursion (λ c. All (InRange (letters_through kind (counts f) d)) c) (clause_list f kind d)
    (clauses_range f kind d (clauses_through f kind d) (within f kind d))
