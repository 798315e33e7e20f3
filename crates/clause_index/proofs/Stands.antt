-- Clauses that stand in the list from a number on: so do the parts that they are made of.
use Rattle.std.proofs.Common.{◌≡◌, ℕ, zero, suc, ◌+◌, ◌-◌, ◌<◌, ◌≤◌, arith, ap, subst, ◌∙◌, inl, inr, List, [], ◌++◌, length, get_or, length-append}
use Rattle.std.proofs.lemmas.Bool.{cases_lt}
use Rattle.ltl_syntax.specs.declared.node.Kind.{Kind}
use Rattle.ltl_syntax.specs.Formula.{Formula}
use Rattle.cnf_base.specs.declared.literal.Literal.{Literal as Signed}
use Rattle.cnf_base.specs.Step.{clause_at}
use Rattle.enc_layout.specs.Letters.{below}
use Rattle.enc_layout.specs.Clauses.{Clause, counts, signed_clauses, clause_list}
use Rattle.clause_index.specs.Numbers.{StandFrom}
use Rattle.clause_index.proofs.Rows.{row_left, row_right, row_below, long}

-- the whole list
pub stands_whole : (list : List (List Signed)) → StandFrom list 1 list
stands_whole list = record {
  from_one = omega arith;
  within = omega arith;
  each = λ j lt. let back : 1 + j - 1 ≡ j = omega arith in ap (λ n. get_or list n []) back;
}

piece_within : {X : Type 0} (n : ℕ) (g : ℕ → List X) (k : ℕ) → k < n → length (below k g) + length (g k) ≤ length (below n g)
piece_within zero g k lt = absurd (omega arith)
piece_within (suc n) g k lt = elim (cases_lt k n) [
  | inl before ↦ let ih = piece_within n g k before in let e = length-append (below n g) (g n) in omega arith
  | inr here ↦
      let e : k ≡ n = omega arith in
      let a = length-append (below k g) (g k) in
      subst (λ m. length (below k g) + length (g k) ≤ length (below m g ++ g m)) e (omega arith)
]

module _ (f : Formula) (kind : Kind) (d : ℕ) where
  abbrev pub Stand : ℕ → List Clause → Type 0
  Stand first cs = StandFrom (clause_list f kind d) first (signed_clauses f kind cs)

  abbrev all : List (List Signed)
  all = clause_list f kind d

  pub stands_left : (first : ℕ) (xs ys : List Clause) → Stand first (xs ++ ys) → Stand first xs
  stands_left first xs ys s =
      let a = long kind (counts f) xs in
      let b = long kind (counts f) (xs ++ ys) in
      let c = length-append xs ys in
      let w = s.within in
      record {
        from_one = s.from_one;
        within = omega arith;
        each = λ j lt. s.each j (omega arith) ∙ row_left kind (counts f) xs ys j (omega arith);
      }

  pub stands_right : (first n : ℕ) (xs ys : List Clause) → length xs ≡ n → Stand first (xs ++ ys) → Stand (first + n) ys
  stands_right first n xs ys is s =
      let a = long kind (counts f) ys in
      let b = long kind (counts f) (xs ++ ys) in
      let c = length-append xs ys in
      let w = s.within in
      let o = s.from_one in
      record {
        from_one = omega arith;
        within = omega arith;
        each = λ j lt.
            let at : first + n + j ≡ first + (n + j) = omega arith in
            ap (clause_at all) at ∙ (s.each (n + j) (omega arith) ∙ row_right kind (counts f) xs ys n j is);
      }

  pub stands_below : (first n : ℕ) (g : ℕ → List Clause) (k m : ℕ) → k < n → length (below k g) ≡ m → Stand first (below n g) → Stand (first + m) (g k)
  stands_below first n g k m lt is s =
      let a = long kind (counts f) (g k) in
      let b = long kind (counts f) (below n g) in
      let c = piece_within n g k lt in
      let w = s.within in
      let o = s.from_one in
      record {
        from_one = omega arith;
        within = omega arith;
        each = λ j h.
            let at : first + m + j ≡ first + (m + j) = omega arith in
            ap (clause_at all) at ∙ (s.each (m + j) (omega arith) ∙ row_below kind (counts f) n g k j m lt (omega arith) is);
      }

  pub stands_at : (first other : ℕ) (cs : List Clause) → first ≡ other → Stand first cs → Stand other cs
  stands_at first other cs is s = subst (λ n. Stand n cs) is s
