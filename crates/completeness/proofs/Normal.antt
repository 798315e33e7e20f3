-- Clauses with the same literals serve as one another in hinted steps; each clause of known letters has those of a part of one list.
use Rattle.std.proofs.Common.{◌≡◌, ◌↔◌, ℕ, zero, suc, ◌⊎◌, inl, inr, Bool, true, false, List, [], ◌∷◌, ◌++◌, map, All, Contains}
use Rattle.std.proofs.Common.{Some, refl, sym, subst, arith}
use Rattle.std.proofs.lemmas.Bool.{cases_lt}
use Rattle.std.proofs.lemmas.List.Elements.{All-contains, Contains-get_or, Contains-append_left, Contains-append_right, Contains-append_cases}
use Rattle.cnf_base.specs.declared.literal.Literal.{Literal}
use Rattle.cnf_base.specs.declared.literal.Hint.{Hint}
use Rattle.cnf_base.specs.declared.literal.Hint.TheVariants.{Clause, Line}
use Rattle.cnf_base.specs.Literal.{opposite}
use Rattle.cnf_base.specs.Known.{IsKnown}
use Rattle.cnf_base.specs.Step.{numbered, Names, Refutes, conflict, propagate, IsHintedStep}
use Rattle.derivation.proofs.Renaming.{Contains-here, Contains-there, Contains-cases, Contains-nil}
use Rattle.completeness.proofs.Denying.{literal_of, has_or_not}

-- ---- clauses with the same literals

abbrev pub AreSame : List Literal → List Literal → Type 0
AreSame c d = (l : Literal) → Contains c l ↔ Contains d l

abbrev pub AreSameLines : List (List Literal) → List (List Literal) → Type 0
AreSameLines lines next = (n : ℕ) (c : List Literal) → numbered lines n ≡ Some c → (d : List Literal) × (numbered next n ≡ Some d) × AreSame c d

pub all_same : (P : Literal → Type 0) (c d : List Literal) → AreSame c d → All P c → All P d
all_same P c d same all k x lt = All-contains P c _ all ((same _).1 (Contains-get_or d k x lt))

same_more : (l : Literal) (c d : List Literal) → AreSame c d → AreSame (l ∷ c) (l ∷ d)
same_more l c d same x = (
  λ h. elim (Contains-cases l x c h) [ inl e ↦ subst (Contains (l ∷ d)) e (Contains-here l d) | inr there ↦ Contains-there l x d ((same x).0 there) ],
  λ h. elim (Contains-cases l x d h) [ inl e ↦ subst (Contains (l ∷ c)) e (Contains-here l c) | inr there ↦ Contains-there l x c ((same x).1 there) ],
)

module _ (list lines next : List (List Literal)) (greatest : ℕ) (lined : AreSameLines lines next) where
  names_same : (hint : Hint) (c : List Literal) → Names list lines greatest hint c → (d : List Literal) × Names list next greatest hint d × AreSame c d
  names_same (Clause n) c names = (c, record { is = names.is; within = λ number e. absurd (cc) }, λ l. (λ h. h, λ h. h))
  names_same (Line n) c names =
      let w = lined n c names.is in
      (w.0, record { is = w.1; within = λ number e. all_same (IsKnown greatest) c w.0 w.2 (names.within n refl) }, w.2)

  refutes_same : {falses : List Literal} {hints : List Hint} (others : List Literal) → AreSame falses others → Refutes list lines greatest falses hints
      → Refutes list next greatest others hints
  refutes_same {falses} others same (conflict {hint = hint} {clause = c} names all_false) =
      let w = names_same hint c names in
      conflict w.1 (all_same (Contains others) c w.0 w.2 (λ k x lt. (same _).0 (all_false k x lt)))
  refutes_same {falses} others same (propagate {hint = hint} {clause = c} {u = u} names unit rest) =
      let w = names_same hint c names in
      propagate w.1 (record {
        there = (w.2 u).0 unit.there;
        not_false = λ h. unit.not_false ((same u).1 h);
        not_true = λ h. unit.not_true ((same (opposite u)).1 h);
        others = all_same (λ l. Contains others l ⊎ (l ≡ u)) c w.0 w.2 (λ k x lt. elim (unit.others k x lt) [ inl h ↦ inl ((same _).0 h) | inr e ↦ inr e ]);
      }) (refutes_same (opposite u ∷ others) (same_more (opposite u) falses others same) rest)

  pub step_same : (c d : List Literal) (hints : List Hint) → AreSame c d → IsHintedStep list lines greatest c hints → IsHintedStep list next greatest d hints
  step_same c d hints same step = record {
    within = all_same (IsKnown greatest) c d same step.within;
    no_pair = λ l a b. step.no_pair l ((same l).1 a) ((same (opposite l)).1 b);
    refutes = refutes_same d same step.refutes;
  }

-- ---- the literals of the letters up to a number, and the parts of a list

abbrev pub literals_to : ℕ → List Literal
literals_to zero = []
literals_to (suc n) = literal_of (suc n) false ∷ literal_of (suc n) true ∷ literals_to n

pub literal_there : (n : ℕ) (l : Literal) → IsKnown n l → Contains (literals_to n) l
literal_there zero l known = let low = known.from_one in let high = known.within in absurd (omega arith)
literal_there (suc n) l known = elim (cases_lt n l.letter.0) [
  | inl more ↦
      let high = known.within in
      let last : suc n ≡ l.letter.0 = omega (arith, more, high) in by l.letter.0 l.negated last
  | inr low ↦
      Contains-there (literal_of (suc n) false) l (literal_of (suc n) true ∷ literals_to n) (Contains-there (literal_of (suc n) true) l (literals_to n)
      (literal_there n l (record { from_one = known.from_one; within = low })))
]
  where
    by : (m : ℕ) (b : Bool) → suc n ≡ m → Contains (literals_to (suc n)) (literal_of m b)
    by m false e = subst (λ k. Contains (literals_to (suc n)) (literal_of k false)) e
        (Contains-here (literal_of (suc n) false) (literal_of (suc n) true ∷ literals_to n))
    by m true e = subst (λ k. Contains (literals_to (suc n)) (literal_of k true)) e
        (Contains-there (literal_of (suc n) false) (literal_of (suc n) true) (literal_of (suc n) true ∷ literals_to n)
        (Contains-here (literal_of (suc n) true) (literals_to n)))

pub literal_known : (n : ℕ) (l : Literal) → Contains (literals_to n) l → IsKnown n l
literal_known zero l c = absurd (Contains-nil l c)
literal_known (suc n) l c = elim (Contains-cases (literal_of (suc n) false) l (literal_of (suc n) true ∷ literals_to n) c) [
  | inl e ↦ subst (IsKnown (suc n)) e (record { from_one = omega arith; within = omega arith })
  | inr more ↦ elim (Contains-cases (literal_of (suc n) true) l (literals_to n) more) [
    | inl e ↦ subst (IsKnown (suc n)) e (record { from_one = omega arith; within = omega arith })
    | inr there ↦ let k = literal_known n l there in let high = k.within in record { from_one = k.from_one; within = omega (arith, high) }
  ]
]

abbrev pub parts : List Literal → List (List Literal)
parts [] = [] ∷ []
parts (x ∷ xs) = parts xs ++ map (λ p. x ∷ p) (parts xs)

map_has : (x : Literal) (ps : List (List Literal)) (p : List Literal) → Contains ps p → Contains (map (λ q. x ∷ q) ps) (x ∷ p)
map_has x [] p c = absurd (Contains-nil p c)
map_has x (q ∷ ps) p c = elim (Contains-cases q p ps c) [
  | inl e ↦ subst (λ r. Contains (map (λ q. x ∷ q) (q ∷ ps)) (x ∷ r)) e (Contains-here (x ∷ q) (map (λ q. x ∷ q) ps))
  | inr there ↦ Contains-there (x ∷ q) (x ∷ p) (map (λ q. x ∷ q) ps) (map_has x ps p there)
]

map_from : (x : Literal) (ps : List (List Literal)) (p : List Literal) → Contains (map (λ q. x ∷ q) ps) p → (q : List Literal) × Contains ps q × (x ∷ q ≡ p)
map_from x [] p c = absurd (Contains-nil p c)
map_from x (q ∷ ps) p c = elim (Contains-cases (x ∷ q) p (map (λ q. x ∷ q) ps) c) [
  | inl e ↦ (q, Contains-here q ps, e)
  | inr there ↦ let w = map_from x ps p there in (w.0, Contains-there q w.0 ps w.1, w.2)
]

pub part_within : (xs p : List Literal) (l : Literal) → Contains (parts xs) p → Contains p l → Contains xs l
part_within [] p l c h = elim (Contains-cases [] p [] c) [
  | inl e ↦ absurd (Contains-nil l (subst (λ q. Contains q l) (sym e) h))
  | inr none ↦ absurd (Contains-nil p none)
]
part_within (x ∷ xs) p l c h = elim (Contains-append_cases (parts xs) (map (λ q. x ∷ q) (parts xs)) p c) [
  | inl left ↦ Contains-there x l xs (part_within xs p l left h)
  | inr right ↦
      let w = map_from x (parts xs) p right in
      elim (Contains-cases x l w.0 (subst (λ q. Contains q l) (sym w.2) h)) [
        | inl e ↦ subst (Contains (x ∷ xs)) e (Contains-here x xs)
        | inr there ↦ Contains-there x l xs (part_within xs w.0 l w.1 there)
      ]
]

-- the literals of the list that the clause has
abbrev pub own_part : List Literal → List Literal → List Literal
own_part c [] = []
own_part c (x ∷ xs) = elim (has_or_not c x) [ inl there ↦ x ∷ own_part c xs | inr none ↦ own_part c xs ]

pub own_is_part : (c xs : List Literal) → Contains (parts xs) (own_part c xs)
own_is_part c [] = Contains-here [] []
own_is_part c (x ∷ xs) = go (has_or_not c x) (own_is_part c xs)
  where
    go : (h : Contains c x ⊎ ¬ Contains c x) → Contains (parts xs) (own_part c xs)
        → Contains (parts xs ++ map (λ p. x ∷ p) (parts xs)) (elim h [ inl there ↦ x ∷ own_part c xs | inr none ↦ own_part c xs ])
    go (inl there) rest = Contains-append_right (parts xs) (map (λ p. x ∷ p) (parts xs)) (x ∷ own_part c xs) (map_has x (parts xs) (own_part c xs) rest)
    go (inr none) rest = Contains-append_left (parts xs) (map (λ p. x ∷ p) (parts xs)) (own_part c xs) rest

own_has : (c xs : List Literal) (l : Literal) → Contains xs l → Contains c l → Contains (own_part c xs) l
own_has c [] l there own = absurd (Contains-nil l there)
own_has c (x ∷ xs) l there own = go (has_or_not c x) (Contains-cases x l xs there) (λ more. own_has c xs l more own)
  where
    go : (h : Contains c x ⊎ ¬ Contains c x) → (x ≡ l) ⊎ Contains xs l → (Contains xs l → Contains (own_part c xs) l)
        → Contains (elim h [ inl there ↦ x ∷ own_part c xs | inr none ↦ own_part c xs ]) l
    go (inl h) (inl e) rest = subst (Contains (x ∷ own_part c xs)) e (Contains-here x (own_part c xs))
    go (inl h) (inr more) rest = Contains-there x l (own_part c xs) (rest more)
    go (inr none) (inl e) rest = absurd (none (subst (Contains c) (sym e) own))
    go (inr none) (inr more) rest = rest more

own_only : (c xs : List Literal) (l : Literal) → Contains (own_part c xs) l → Contains c l
own_only c [] l there = absurd (Contains-nil l there)
own_only c (x ∷ xs) l there = go (has_or_not c x) (own_only c xs l) there
  where
    go : (h : Contains c x ⊎ ¬ Contains c x) → (Contains (own_part c xs) l → Contains c l)
        → Contains (elim h [ inl there ↦ x ∷ own_part c xs | inr none ↦ own_part c xs ]) l → Contains c l
    go (inl h) rest there = elim (Contains-cases x l (own_part c xs) there) [ inl e ↦ subst (Contains c) e h | inr more ↦ rest more ]
    go (inr none) rest there = rest there

pub own_same : (n : ℕ) (c : List Literal) → All (IsKnown n) c → AreSame c (own_part c (literals_to n))
own_same n c known l = (
  λ h. own_has c (literals_to n) l (literal_there n l (All-contains (IsKnown n) c l known h)) h,
  own_only c (literals_to n) l,
)
