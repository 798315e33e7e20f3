-- Whole lists and numbers of letters, written out by hand.
use Rattle.std.specs.Prelude.{◌≡◌, ℕ, ◌+◌, true, false, List, [], ◌∷◌}
use Rattle.ltl_syntax.specs.declared.node.Kind.TheVariants as Kinds
use Rattle.ltl_syntax.specs.Formula.{Formula, Name, Const, Letter, Unary, Binary}
use Rattle.ltl_syntax.specs.declared.node.UnaryOp.TheVariants.{Not, Next, WeakNext, Eventually, Always}
use Rattle.ltl_syntax.specs.declared.node.BinaryOp.TheVariants.{And, Implies}
use Rattle.cnf_base.specs.declared.literal.Literal.{Literal as Signed}
use Rattle.enc_layout.specs.Letters.{letters_through}
use Rattle.enc_layout.specs.Clauses.{clause_list, counts}

-- the literal of a letter, and that of its negation
abbrev pub p : ℕ → Signed
p n = record { letter = record { 0 = n }; negated = false }

abbrev pub m : ℕ → Signed
m n = record { letter = record { 0 = n }; negated = true }

pub record WorkedLists : Type 0 where
  -- `wX false`, infinite traces, through depth 1
  pub weak_false : clause_list (Unary WeakNext (Const false)) Kinds.Infinite 1 ≡
      (m 6 ∷ []) ∷ (m 2 ∷ p 7 ∷ []) ∷ (m 3 ∷ p 4 ∷ []) ∷ (m 4 ∷ m 7 ∷ []) ∷ (m 8 ∷ p 2 ∷ []) ∷ (m 12 ∷ [])
      ∷ (m 8 ∷ m 7 ∷ p 12 ∷ []) ∷ (m 8 ∷ p 7 ∷ m 12 ∷ []) ∷ (m 16 ∷ p 7 ∷ p 13 ∷ [])
      ∷ (m 16 ∷ m 7 ∷ m 13 ∷ []) ∷ (m 14 ∷ m 7 ∷ p 13 ∷ []) ∷ (m 14 ∷ p 7 ∷ m 13 ∷ []) ∷ (p 14 ∷ p 16 ∷ [])
      ∷ (m 15 ∷ p 14 ∷ []) ∷ (m 9 ∷ p 10 ∷ p 15 ∷ []) ∷ (m 10 ∷ m 13 ∷ []) ∷ (m 14 ∷ p 11 ∷ []) ∷ (m 1 ∷ m 14 ∷ m 5 ∷ []) ∷ []
  -- `X false`, finite traces, through depth 1
  pub strong_false : clause_list (Unary Next (Const false)) Kinds.Finite 1 ≡
      (m 4 ∷ []) ∷ (m 2 ∷ p 5 ∷ []) ∷ (m 3 ∷ m 5 ∷ []) ∷ (m 6 ∷ p 2 ∷ []) ∷ (m 8 ∷ []) ∷ (m 6 ∷ m 5 ∷ p 8 ∷ []) ∷ (m 6 ∷ p 5 ∷ m 8 ∷ [])
      ∷ (m 11 ∷ p 5 ∷ p 9 ∷ []) ∷ (m 11 ∷ m 5 ∷ m 9 ∷ []) ∷ (m 10 ∷ m 5 ∷ p 9 ∷ []) ∷ (m 10 ∷ p 5 ∷ m 9 ∷ []) ∷ (p 10 ∷ p 11 ∷ [])
      ∷ (m 7 ∷ m 9 ∷ []) ∷ (m 1 ∷ m 10 ∷ []) ∷ []
  -- `false`, infinite traces, through depth 0
  pub just_false : clause_list (Const false) Kinds.Infinite 0 ≡ (m 6 ∷ []) ∷ (m 2 ∷ p 6 ∷ []) ∷ (m 3 ∷ p 4 ∷ []) ∷ []

-- the parts of a token ring: letters `p0`, `p1` and so on, the token goes from a to b, it comes to a again and again, and it is not
-- at a and b together
abbrev pub place : ℕ → Formula
place n = Letter (Name (112 ∷ (48 + n) ∷ []))

abbrev pub goes : ℕ → ℕ → Formula
goes a b = Unary Always (Binary Implies (place a) (Unary Next (place b)))

abbrev pub comes : ℕ → Formula
comes a = Unary Always (Unary Eventually (place a))

abbrev pub apart : ℕ → ℕ → Formula
apart a b = Unary Always (Unary Not (Binary And (place a) (place b)))

-- the parts joined by `&`, to the left
abbrev pub joined : Formula → List Formula → Formula
joined f [] = f
joined f (g ∷ gs) = joined (Binary And f g) gs

-- token rings of four and of two letters
abbrev pub ring_of_four : Formula
ring_of_four =
    joined (place 0)
    (goes 0 1 ∷ goes 1 2 ∷ goes 2 3 ∷ goes 3 0 ∷ comes 0 ∷ comes 1 ∷ comes 2 ∷ comes 3 ∷ apart 0 1 ∷ apart 0 2 ∷ apart 0 3 ∷ apart 1 2
    ∷ apart 1 3 ∷ apart 2 3 ∷ [])

abbrev pub ring_of_two : Formula
ring_of_two = joined (place 0) (goes 0 1 ∷ goes 1 0 ∷ comes 0 ∷ comes 1 ∷ apart 0 1 ∷ [])

-- nine parts `G F p` joined by `&`
abbrev pub nine_promises : Formula
nine_promises = joined (comes 0) (comes 1 ∷ comes 2 ∷ comes 3 ∷ comes 4 ∷ comes 5 ∷ comes 6 ∷ comes 7 ∷ comes 8 ∷ [])

-- how many letters some depths have, and counts from which that follows
pub record WorkedCounts : Type 0 where
  pub letters_false : letters_through Kinds.Infinite (counts (Const false)) 0 ≡ 6
  pub letters_weak : letters_through Kinds.Infinite (counts (Unary WeakNext (Const false))) 1 ≡ 16
  pub letters_strong : letters_through Kinds.Finite (counts (Unary Next (Const false))) 1 ≡ 11
  pub counts_four : counts ring_of_four ≡ record { entries = 74; places = 22; eventualities = 4 }
  pub letters_four : letters_through Kinds.Infinite (counts ring_of_four) 4 ≡ 731
  pub counts_two : counts ring_of_two ≡ record { entries = 30; places = 9; eventualities = 2 }
  pub letters_two : letters_through Kinds.Infinite (counts ring_of_two) 2 ≡ 154
  pub counts_nine : counts nine_promises ≡ record { entries = 55; places = 18; eventualities = 9 }
  -- depth 937 is the last whose letters are within the limit
  pub within_limit : letters_through Kinds.Infinite (counts nine_promises) 937 ≡ 16762999
  pub beyond_limit : letters_through Kinds.Infinite (counts nine_promises) 938 ≡ 16798711
