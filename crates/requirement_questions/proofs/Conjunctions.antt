-- What the formula says that joins several, how large it is, and that a table builds it one by one.
use Rattle.std.proofs.Common.{◌≡◌, ◌+◌, ◌<◌, ◌≤◌, List, [], ◌∷◌, ◌++◌, length, Some, refl, ap, arith}
use Rattle.std.specs.List.{All}
use Rattle.std.proofs.lemmas.List.Elements.{All-nil, All-cons, All-head, All-tail}
use Rattle.ltl_syntax.specs.declared.node.BinaryOp.TheVariants.{And}
use Rattle.ltl_syntax.specs.Formula.{Formula, Binary}
use Rattle.ltl_syntax.specs.Size.{formula_size}
use Rattle.ltl_word.specs.declared.trace.Trace.{Trace}
use Rattle.ltl_word.specs.Holds.{Satisfies}
use Rattle.requirement_questions.specs.Formulas.{joined_to, all_of}
use Rattle.requirement_questions.specs.Sizing.{steps_of}
use Rattle.requirement_questions.specs.Joining.{with_one, some_of, or_true}

-- ---- what it says

joined_each : (t : Trace) (f : Formula) (gs : List Formula) → Satisfies t (joined_to f gs) → Satisfies t f × All (Satisfies t) gs
joined_each t f [] h = (h, All-nil (Satisfies t))
joined_each t f (g ∷ gs) h = let w = joined_each t (Binary And f g) gs h in (w.0.0, All-cons (Satisfies t) g gs w.0.1 w.1)

each_joined : (t : Trace) (f : Formula) (gs : List Formula) → Satisfies t f → All (Satisfies t) gs → Satisfies t (joined_to f gs)
each_joined t f [] h all = h
each_joined t f (g ∷ gs) h all = each_joined t (Binary And f g) gs (h, All-head (Satisfies t) g gs all) (All-tail (Satisfies t) g gs all)

pub all_says_each : (t : Trace) (fs : List Formula) → Satisfies t (all_of fs) → All (Satisfies t) fs
all_says_each t [] h = All-nil (Satisfies t)
all_says_each t (f ∷ fs) h = let w = joined_each t f fs h in All-cons (Satisfies t) f fs w.0 w.1

pub each_says_all : (t : Trace) (fs : List Formula) → All (Satisfies t) fs → Satisfies t (all_of fs)
each_says_all t [] all = refl
each_says_all t (f ∷ fs) all = each_joined t f fs (All-head (Satisfies t) f fs all) (All-tail (Satisfies t) f fs all)

-- ---- how large it is

joined_size : (f : Formula) (gs : List Formula) → formula_size (joined_to f gs) ≡ formula_size f + steps_of gs
joined_size f [] = omega arith
joined_size f (g ∷ gs) = omega (arith, joined_size (Binary And f g) gs)

pub all_size : (f : Formula) (gs : List Formula) → formula_size (all_of (f ∷ gs)) + 1 ≡ steps_of (f ∷ gs)
all_size f gs = omega (arith, joined_size f gs)

pub steps_append : (xs ys : List Formula) → steps_of (xs ++ ys) ≡ steps_of xs + steps_of ys
steps_append [] ys = omega arith
steps_append (x ∷ xs) ys = omega (arith, steps_append xs ys)

-- it grows with each formula behind a first one
pub all_grows : (xs ys : List Formula) → 0 < length xs → formula_size (all_of xs) ≤ formula_size (all_of (xs ++ ys))
all_grows [] ys some = absurd (omega arith)
all_grows (x ∷ xs) ys some = omega (arith, all_size x xs, all_size x (xs ++ ys), steps_append xs ys)

-- ---- one formula more

joined_more : (f : Formula) (gs : List Formula) (g : Formula) → joined_to f (gs ++ g ∷ []) ≡ Binary And (joined_to f gs) g
joined_more f [] g = refl
joined_more f (x ∷ gs) g = joined_more (Binary And f x) gs g

pub all_more : (fs : List Formula) (g : Formula) → all_of (fs ++ g ∷ []) ≡ with_one (some_of fs) g
all_more [] g = refl
all_more (f ∷ fs) g = joined_more f fs g

pub some_more : (fs : List Formula) (g : Formula) → some_of (fs ++ g ∷ []) ≡ Some (with_one (some_of fs) g)
some_more [] g = refl
some_more (f ∷ fs) g = ap Some (joined_more f fs g)

pub all_or_true : (fs : List Formula) → or_true (some_of fs) ≡ all_of fs
all_or_true [] = refl
all_or_true (f ∷ fs) = refl
