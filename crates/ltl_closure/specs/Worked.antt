-- Normal forms, closures and bounds, written out by hand.
use Rattle.std.specs.Prelude.{◌≡◌, true, false, List, [], ◌∷◌}
use Rattle.ltl_syntax.specs.declared.node.Kind.TheVariants as Kinds
use Rattle.ltl_syntax.specs.Formula.{Atom, Name, Formula, Const, Letter, Unary, Binary}
use Rattle.ltl_syntax.specs.declared.node.UnaryOp.TheVariants.{Always, Eventually, EventuallyIn, NextTimes, Not, OnceIn, WeakNext}
use Rattle.ltl_syntax.specs.declared.node.BinaryOp.TheVariants.{And, Iff}
use Rattle.ltl_closure.specs.Norm.{Norm, NConst, NLetter, NNotLetter, NAnd, NOr, NNext, NWeakNext, NYesterday, NUntil, NRelease, norm, pos_of}
use Rattle.ltl_closure.specs.Closure.{closure}
use Rattle.ltl_closure.specs.Run.{bound}

abbrev pub p : Atom
p = Name (112 ∷ [])

abbrev pub q : Atom
q = Name (113 ∷ [])

abbrev pub r : Atom
r = Name (114 ∷ [])

abbrev pub until_p : Norm
until_p = NUntil (NConst true) (NLetter p)

-- the two halves of `q <-> r`, and those of its negation
abbrev pub both : Norm
both = NAnd (NLetter q) (NLetter r)

abbrev pub neither : Norm
neither = NAnd (NNotLetter q) (NNotLetter r)

abbrev pub only_q : Norm
only_q = NAnd (NLetter q) (NNotLetter r)

abbrev pub only_r : Norm
only_r = NAnd (NNotLetter q) (NLetter r)

-- the two halves of `p <-> (q <-> r)`
abbrev pub with_p : Norm
with_p = NAnd (NLetter p) (NOr both neither)

abbrev pub without_p : Norm
without_p = NAnd (NNotLetter p) (NOr only_q only_r)

-- the closure of `p <-> (q <-> r)`
abbrev pub nested_entries : List Norm
nested_entries =
    NLetter p ∷ NLetter q ∷ NLetter r ∷ both ∷ NNotLetter q ∷ NNotLetter r ∷ neither ∷ NOr both neither ∷ with_p ∷ NNotLetter p
    ∷ only_q ∷ only_r ∷ NOr only_q only_r ∷ without_p ∷ NOr with_p without_p ∷ []

-- `G F p & G !p`
abbrev pub recurring : Formula
recurring = Binary And (Unary Always (Unary Eventually (Letter p))) (Unary Always (Unary Not (Letter p)))

-- normal forms of bounded operators
pub record WorkedNormalForms : Type 0 where
  -- of `F[1,3] p` and its negation
  pub some : pos_of (Unary (EventuallyIn 1 3) (Letter p)) ≡ NNext (NOr (NLetter p) (NNext (NOr (NLetter p) (NNext (NLetter p)))))
  pub every : norm false (Unary (EventuallyIn 1 3) (Letter p)) ≡ NWeakNext (NAnd (NNotLetter p) (NWeakNext (NAnd (NNotLetter p) (NWeakNext (NNotLetter p)))))
  -- of `O[2,3] p`
  pub once : pos_of (Unary (OnceIn 2 3) (Letter p)) ≡ NYesterday (NYesterday (NOr (NLetter p) (NYesterday (NLetter p))))
  -- the negation of `X[2] p` looks for no position
  pub times : norm false (Unary (NextTimes 2) (Letter p)) ≡ NWeakNext (NWeakNext (NNotLetter p))

pub record WorkedClosures : Type 0 where
  -- of `false` and of `wX false`
  pub constant : closure (Const false) ≡ NConst false ∷ []
  pub weak_next : closure (Unary WeakNext (Const false)) ≡ NConst false ∷ NWeakNext (NConst false) ∷ []
  -- of `p & !p`
  pub literals : closure (Binary And (Letter p) (Unary Not (Letter p))) ≡ NLetter p ∷ NNotLetter p ∷ NAnd (NLetter p) (NNotLetter p) ∷ []
  -- of `G F p`
  pub always_eventually : closure (Unary Always (Unary Eventually (Letter p)))
      ≡ NConst false ∷ NConst true ∷ NLetter p ∷ until_p ∷ NNext until_p ∷ NRelease (NConst false) until_p ∷ NWeakNext (NRelease (NConst false) until_p) ∷ []
  -- both halves of an equivalence share their parts
  pub nested : closure (Binary Iff (Letter p) (Binary Iff (Letter q) (Letter r))) ≡ nested_entries
  -- of `X[2] false`
  pub times : closure (Unary (NextTimes 2) (Const false)) ≡ NConst false ∷ NNext (NConst false) ∷ NNext (NNext (NConst false)) ∷ []

pub record WorkedBounds : Type 0 where
  -- of `G F p & G !p`
  pub infinite : bound recurring Kinds.Infinite ≡ 16
  pub finite : bound recurring Kinds.Finite ≡ 8
  -- of `p`
  pub letter : bound (Letter p) Kinds.Infinite ≡ 1
