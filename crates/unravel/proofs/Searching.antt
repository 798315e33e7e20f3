-- Whether clauses and literals can be true together is decided: only the values of the letters that they have matter, and all of these are tried.
use Rattle.std.proofs.Common.{◌≡◌, ℕ, zero, suc, ◌+◌, ◌<◌, ◌≤◌, inl, inr, Bool, true, false, not, cond, ◌||◌, refl, sym, ◌∙◌, ap, ap₂, arith, List, [], ◌∷◌}
use Rattle.std.proofs.Common.{All}
use Rattle.std.proofs.lemmas.Bool.{cases_Bool}
use Rattle.std.proofs.lemmas.List.Elements.{All-nil, All-cons, All-head, All-tail}
use Rattle.cnf_base.specs.declared.literal.Literal.{Literal}
use Rattle.cnf_base.specs.Meaning.{Satisfies, literal_value, clause_value}
use Rattle.ltl_word.proofs.Search.{×_decided, mapped}
use Rattle.enc_layout.specs.Assigned.{AreSatisfiable}

-- the values agree at the numbers below n
abbrev Agree : ℕ → (ℕ → Bool) → (ℕ → Bool) → Type 0
Agree n v w = (k : ℕ) → k < n → v k ≡ w k

-- b at 0, and the values of v one place on
abbrev put : Bool → (ℕ → Bool) → ℕ → Bool
put b v zero = b
put b v (suc k) = v k

put_agrees : (n : ℕ) (b : Bool) (v w : ℕ → Bool) → Agree n v w → Agree (suc n) (put b v) (put b w)
put_agrees n b v w h zero lt = refl
put_agrees n b v w h (suc k) lt = h k (omega arith)

put_all : (n : ℕ) (v : ℕ → Bool) (b : Bool) → v zero ≡ b → Agree n v (put b (λ k. v (suc k)))
put_all n v b e zero lt = e
put_all n v b e (suc k) lt = refl

-- values with a claim are found, or there are none, where the claim is decided and depends on the values below n only
pub values_decided : (n : ℕ) (P : (ℕ → Bool) → Type 0) → ((v : ℕ → Bool) → Dec (P v))
    → ((v w : ℕ → Bool) → Agree n v w → P v → P w) → Dec ((v : ℕ → Bool) × P v)
values_decided zero P d moved = elim (d (λ k. false)) [
  | yes p ↦ yes ((λ k. false), p)
  | no h ↦ no (λ w. h (moved w.0 (λ k. false) (λ k lt. absurd (omega arith)) w.1))
]
values_decided (suc n) P d moved =
    let front : (b : Bool) → Dec ((v : ℕ → Bool) × P (put b v)) = λ b.
    values_decided n (λ v. P (put b v)) (λ v. d (put b v)) (λ v w h. moved (put b v) (put b w) (put_agrees n b v w h)) in
    elim (front true) [
      | yes p ↦ yes (put true p.0, p.1)
      | no first ↦ elim (front false) [
        | yes p ↦ yes (put false p.0, p.1)
        | no second ↦ no (λ w. elim (cases_Bool (w.0 zero)) [
          | inl e ↦ first ((λ k. w.0 (suc k)), moved w.0 (put true (λ k. w.0 (suc k))) (put_all (suc n) w.0 true e) w.1)
          | inr e ↦ second ((λ k. w.0 (suc k)), moved w.0 (put false (λ k. w.0 (suc k))) (put_all (suc n) w.0 false e) w.1)
        ])
      ]
    ]

-- ---- clauses

all_true : {X : Type 0} (p : X → Bool) (xs : List X) → Dec (All (λ x. p x ≡ true) xs)
all_true p [] = yes (All-nil (λ x. p x ≡ true))
all_true p (x ∷ xs) = elim (cases_Bool (p x)) [
  | inl e ↦ elim (all_true p xs) [
    | yes h ↦ yes (All-cons (λ x. p x ≡ true) x xs e h)
    | no h ↦ no (λ all. h (All-tail (λ x. p x ≡ true) x xs all))
  ]
  | inr e ↦ no (λ all. let t = All-head (λ x. p x ≡ true) x xs all in cc)
]

-- more than the letters of the literals, and than those of the clauses
abbrev reach : List Literal → ℕ
reach [] = 0
reach (l ∷ ls) = suc l.letter.0 + reach ls

abbrev reach_all : List (List Literal) → ℕ
reach_all [] = 0
reach_all (c ∷ cs) = reach c + reach_all cs

module _ (n : ℕ) (v w : ℕ → Bool) (agree : Agree n v w) where
  literal_same : (l : Literal) → l.letter.0 < n → literal_value v l ≡ literal_value w l
  literal_same l lt = ap (λ b. cond l.negated (not b) b) (agree l.letter.0 lt)

  clause_same : (c : List Literal) → reach c ≤ n → clause_value v c ≡ clause_value w c
  clause_same [] le = refl
  clause_same (l ∷ ls) le = ap₂ ◌||◌ (literal_same l (omega arith)) (clause_same ls (omega arith))

  clauses_same : (cs : List (List Literal)) → reach_all cs ≤ n → Satisfies v cs → Satisfies w cs
  clauses_same [] le h = All-nil (λ c. clause_value w c ≡ true)
  clauses_same (c ∷ cs) le h = All-cons (λ c. clause_value w c ≡ true) c cs
      (sym (clause_same c (omega arith)) ∙ All-head (λ c. clause_value v c ≡ true) c cs h)
      (clauses_same cs (omega arith) (All-tail (λ c. clause_value v c ≡ true) c cs h))

  literals_same : (ls : List Literal) → reach ls ≤ n → All (λ l. literal_value v l ≡ true) ls → All (λ l. literal_value w l ≡ true) ls
  literals_same [] le h = All-nil (λ l. literal_value w l ≡ true)
  literals_same (l ∷ ls) le h = All-cons (λ l. literal_value w l ≡ true) l ls
      (sym (literal_same l (omega arith)) ∙ All-head (λ l. literal_value v l ≡ true) l ls h)
      (literals_same ls (omega arith) (All-tail (λ l. literal_value v l ≡ true) l ls h))

pub satisfiable_decided : (clauses : List (List Literal)) (literals : List Literal) → Dec (AreSatisfiable clauses literals)
satisfiable_decided clauses literals =
    mapped (λ w. (w.0, w.1.0, w.1.1)) (λ w. (w.0, (w.1, w.2)))
    (values_decided (reach_all clauses + reach literals) (λ v. Satisfies v clauses × All (λ l. literal_value v l ≡ true) literals)
    (λ v. ×_decided (all_true (clause_value v) clauses) (all_true (literal_value v) literals))
    (λ v w agree h. (clauses_same _ v w agree clauses (omega arith) h.0, literals_same _ v w agree literals (omega arith) h.1)))
