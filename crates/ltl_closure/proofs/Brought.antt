-- What the nodes of a table bring to a closure: at most three entries for each of two signs and each unit of their size, beside the constants.
-- A bounded operator brings at most two for a sign and a unit.
use Rattle.std.proofs.Common.{◌≡◌, ℕ, zero, suc, ◌+◌, ◌*◌, ◌≤◌, inl, inr, Bool, true, false, not, refl, sym, subst, arith, List, [], ◌∷◌, ◌++◌, length}
use Rattle.std.proofs.Common.{length-append, Contains}
use Rattle.std.proofs.lemmas.List.Elements.{Contains-append_left, Contains-append_right, Contains-append_cases}
use Rattle.ltl_syntax.specs.declared.node.BinaryOp.{BinaryOp}
use Rattle.ltl_syntax.specs.declared.node.BinaryOp.TheVariants as two
use Rattle.ltl_syntax.specs.Shape.{Direction, Future, Past, Range, Step, Ever, Exactly, Between, Shape, Negation, Somewhere, Everywhere, shape}
use Rattle.ltl_syntax.specs.Formula.{Atom, Formula, Const, Letter, Unary, Binary}
use Rattle.ltl_syntax.specs.Size.{range_size, shape_size, sizes}
use Rattle.ltl_syntax.specs.Table.{Table, trees_of, tree_at}
use Rattle.ltl_closure.specs.Norm.{Norm, NConst, NLetter, NAnd, NOr, conjunction, disjunction, request, until, times, window, in_range, looking, under, over}
use Rattle.ltl_closure.specs.Norm.{norm, pos_of}
use Rattle.ltl_closure.specs.Closure.{walk}
use Rattle.ltl_closure.proofs.Lists.{Contains-nil, Contains-cons_cases, Contains-here, Contains-there}
use Rattle.ltl_closure.proofs.Entries.{one_of}
use Rattle.ltl_closure.proofs.Made.{IsAmong, AreMade, among_at, all_made, top_size, top_sizes, sizes-trees}

-- an until or its dual, and its request
abbrev span : Bool → Direction → Norm → Norm → List Norm
span s side a b = until s side a b ∷ request s side (until s side a b) ∷ []

-- what a request several times over brings, and what a range does
abbrev times_brings : (Norm → Norm) → ℕ → Norm → List Norm
times_brings N zero c = []
times_brings N (suc n) c = N (times N n c) ∷ times_brings N n c

abbrev window_brings : (Norm → Norm → Norm) → Norm → (Norm → Norm) → ℕ → ℕ → Norm → List Norm
window_brings J z N zero zero c = []
window_brings J z N zero (suc b) c = J c (N (window J z N zero b c)) ∷ N (window J z N zero b c) ∷ window_brings J z N zero b c
window_brings J z N (suc a) (suc b) c = N (window J z N a b c) ∷ window_brings J z N a b c
window_brings J z N (suc a) zero c = []

times_few : (N : Norm → Norm) (n : ℕ) (c : Norm) → length (times_brings N n c) ≤ n
times_few N zero c = omega arith
times_few N (suc n) c = let r = times_few N n c in omega arith

window_few : (J : Norm → Norm → Norm) (z : Norm) (N : Norm → Norm) (a b : ℕ) (c : Norm) → length (window_brings J z N a b c) ≤ 2 * b
window_few J z N zero zero c = omega arith
window_few J z N zero (suc b) c = let r = window_few J z N zero b c in omega arith
window_few J z N (suc a) (suc b) c = let r = window_few J z N a b c in omega arith
window_few J z N (suc a) zero c = omega arith

-- what somewhere or everywhere in a range brings, and an operator over one operand
abbrev looking_brings : Bool → Direction → Range → Norm → List Norm
looking_brings some side Step c = request some side c ∷ []
looking_brings some side Ever c = span some side (NConst some) c
looking_brings some side (Exactly n) c = times_brings (request some side) n c
looking_brings some side (Between a b) c = window_brings (disjunction some) (NConst (not some)) (request some side) a b c

abbrev shape_brings : Bool → Shape → Norm → List Norm
shape_brings s Negation c = []
shape_brings s (Somewhere side range) c = looking_brings s side range c
shape_brings s (Everywhere side range) c = looking_brings (not s) side range c

-- what a tree's topmost operator brings to its normal form, or to that of its negation
abbrev brings : Bool → Formula → List Norm
brings s (Const b) = []
brings s (Letter p) = NLetter p ∷ norm s (Letter p) ∷ []
brings s (Unary op a) = shape_brings s (shape op) (norm (under s (shape op)) a)
brings s (Binary two.And a b) = norm s (Binary two.And a b) ∷ []
brings s (Binary two.Or a b) = norm s (Binary two.Or a b) ∷ []
brings s (Binary two.Implies a b) = norm s (Binary two.Implies a b) ∷ []
brings s (Binary two.Iff a b) = NAnd (norm true a) (norm s b) ∷ NAnd (norm false a) (norm (not s) b) ∷ norm s (Binary two.Iff a b) ∷ []
brings s (Binary two.Until a b) = span s Future (norm s a) (norm s b)
brings s (Binary two.Release a b) = span (not s) Future (norm s a) (norm s b)
brings s (Binary two.WeakUntil a b) = disjunction s (norm s a) (norm s b) ∷ span (not s) Future (norm s b) (disjunction s (norm s a) (norm s b))
brings s (Binary two.StrongRelease a b) = conjunction s (norm s a) (norm s b) ∷ span s Future (norm s b) (conjunction s (norm s a) (norm s b))
brings s (Binary two.Since a b) = span s Past (norm s a) (norm s b)
brings s (Binary two.Trigger a b) = span (not s) Past (norm s a) (norm s b)

looking_few : (some : Bool) (side : Direction) (range : Range) (c : Norm) → length (looking_brings some side range c) ≤ 3 * range_size range
looking_few some side Step c = omega arith
looking_few some side Ever c = omega arith
looking_few some side (Exactly n) c = omega (arith, times_few (request some side) n c)
looking_few some side (Between a b) c = omega (arith, window_few (disjunction some) (NConst (not some)) (request some side) a b c)

shape_few : (s : Bool) (look : Shape) (c : Norm) → length (shape_brings s look c) ≤ 3 * shape_size look
shape_few s Negation c = omega arith
shape_few s (Somewhere side range) c = looking_few s side range c
shape_few s (Everywhere side range) c = looking_few (not s) side range c

brings_few : (s : Bool) (f : Formula) → length (brings s f) ≤ 3 * top_size f
brings_few s (Const b) = omega arith
brings_few s (Letter p) = omega arith
brings_few s (Unary op a) = shape_few s (shape op) _
brings_few s (Binary two.And a b) = omega arith
brings_few s (Binary op a b) = omega arith

-- what trees bring
abbrev all_of : List Formula → List Norm
all_of [] = []
all_of (f ∷ fs) = brings true f ++ (brings false f ++ all_of fs)

all_few : (fs : List Formula) → length (all_of fs) ≤ 6 * top_sizes fs
all_few [] = omega arith
all_few (f ∷ fs) =
    let rest = all_few fs in
    let p = brings_few true f in
    let n = brings_few false f in
    omega (arith, length-append (brings true f) (brings false f ++ all_of fs), length-append (brings false f) (all_of fs))

first_in : (f : Formula) (fs : List Formula) (s : Bool) (e : Norm) → Contains (brings s f) e → Contains (all_of (f ∷ fs)) e
first_in f fs true e c = Contains-append_left (brings true f) (brings false f ++ all_of fs) e c
first_in f fs false e c = Contains-append_right (brings true f) (brings false f ++ all_of fs) e (Contains-append_left (brings false f) (all_of fs) e c)

all_in : (fs : List Formula) (f : Formula) → Contains fs f → (s : Bool) (e : Norm) → Contains (brings s f) e → Contains (all_of fs) e
all_in [] f h s e c = absurd (Contains-nil f h)
all_in (g ∷ fs) f h s e c = elim (Contains-cons_cases g fs f h) [
  | inl i ↦ first_in g fs s e (subst (λ z. Contains (brings s z) e) (sym i) c)
  | inr r ↦ Contains-append_right (brings true g) (brings false g ++ all_of fs) e (Contains-append_right (brings false g) (all_of fs) e (all_in fs f r s e c))
]

-- the constants, and what the trees bring
abbrev pub brought : Table → List Norm
brought t = NConst true ∷ NConst false ∷ all_of (trees_of t)

pub brought_few : (t : Table) → length (brought t) ≤ 2 + 6 * sizes t.nodes
unfolding trees_of
brought_few t = let n = sizes-trees t.names [] t.nodes in let all = all_few (trees_of t) in omega arith

-- the walks over operands, and then over what an operator brings
walk_conjunction : (s : Bool) (a b : Norm) → walk (conjunction s a b) ≡ walk a ++ (walk b ++ conjunction s a b ∷ [])
walk_conjunction true a b = refl
walk_conjunction false a b = refl

walk_request : (some : Bool) (side : Direction) (a : Norm) → walk (request some side a) ≡ walk a ++ request some side a ∷ []
walk_request true Future a = refl
walk_request false Future a = refl
walk_request true Past a = refl
walk_request false Past a = refl

walk_until : (some : Bool) (side : Direction) (a b : Norm) → walk (until some side a b) ≡ walk a ++ (walk b ++ span some side a b)
walk_until true Future a b = refl
walk_until false Future a b = refl
walk_until true Past a b = refl
walk_until false Past a b = refl

-- walks whose entries are all among these
module _ (es : List Norm) (consts : (b : Bool) → Contains es (NConst b)) where
  abbrev AllIn : List Norm → Type 0
  AllIn xs = (e : Norm) → Contains xs e → Contains es e

  abbrev IsIn : Norm → Type 0
  IsIn g = AllIn (walk g)

  both_in : (xs ys : List Norm) → AllIn xs → AllIn ys → AllIn (xs ++ ys)
  both_in xs ys h k e c = elim (Contains-append_cases xs ys e c) [ inl w ↦ h e w | inr w ↦ k e w ]

  single_in : (x : Norm) → Contains es x → AllIn (x ∷ [])
  single_in x h e c = subst (Contains es) (one_of x e c) h

  first : (x : Norm) (xs : List Norm) → AllIn (x ∷ xs) → Contains es x
  first x xs h = h x (Contains-here x xs)

  rest : (x : Norm) (xs : List Norm) → AllIn (x ∷ xs) → AllIn xs
  rest x xs h e c = h e (Contains-there x xs e c)

  const_in : (b : Bool) → IsIn (NConst b)
  const_in b = single_in (NConst b) (consts b)

  letter_in : (s : Bool) (p : Atom) → AllIn (brings s (Letter p)) → IsIn (norm s (Letter p))
  letter_in true p h = rest (NLetter p) (NLetter p ∷ []) h
  letter_in false p h = h

  conjunction_in : (s : Bool) (a b : Norm) → IsIn a → IsIn b → Contains es (conjunction s a b) → IsIn (conjunction s a b)
  conjunction_in s a b ia ib h =
      subst AllIn (sym (walk_conjunction s a b)) (both_in (walk a) (walk b ++ conjunction s a b ∷ []) ia (both_in (walk b) _ ib (single_in _ h)))

  until_in : (some : Bool) (side : Direction) (a b : Norm) → IsIn a → IsIn b → AllIn (span some side a b) → IsIn (until some side a b)
  until_in some side a b ia ib h =
      subst AllIn (sym (walk_until some side a b)) (both_in (walk a) (walk b ++ span some side a b) ia (both_in (walk b) (span some side a b) ib h))

  -- a request over a walk that is among them, and a range
  module _ (some : Bool) (side : Direction) where
    request_in : (a : Norm) → IsIn a → Contains es (request some side a) → IsIn (request some side a)
    request_in a ia h = subst AllIn (sym (walk_request some side a)) (both_in (walk a) (request some side a ∷ []) ia (single_in _ h))

    times_in : (n : ℕ) (c : Norm) → AllIn (times_brings (request some side) n c) → IsIn c → IsIn (times (request some side) n c)
    times_in zero c h ic = ic
    times_in (suc n) c h ic = request_in (times (request some side) n c) (times_in n c (rest _ (times_brings (request some side) n c) h) ic)
        (first _ (times_brings (request some side) n c) h)

    abbrev W : ℕ → ℕ → Norm → Norm
    W = in_range some (request some side)

    abbrev brought_by : ℕ → ℕ → Norm → List Norm
    brought_by = window_brings (disjunction some) (NConst (not some)) (request some side)

    range_in : (a b : ℕ) (c : Norm) → AllIn (brought_by a b c) → IsIn c → IsIn (W a b c)
    range_in zero zero c h ic = ic
    range_in zero (suc b) c h ic =
        let tail = rest _ (request some side (W zero b c) ∷ brought_by zero b c) h in
        conjunction_in (not some) c (request some side (W zero b c)) ic
        (request_in (W zero b c) (range_in zero b c (rest _ (brought_by zero b c) tail) ic) (first _ (brought_by zero b c) tail))
        (first _ (request some side (W zero b c) ∷ brought_by zero b c) h)
    range_in (suc a) (suc b) c h ic =
        request_in (W a b c) (range_in a b c (rest _ (brought_by a b c) h) ic) (first _ (brought_by a b c) h)
    range_in (suc a) zero c h ic = const_in (not some)

    looking_in : (range : Range) (c : Norm) → AllIn (looking_brings some side range c) → IsIn c → IsIn (looking some side range c)
    looking_in Step c h ic = request_in c ic (first _ [] h)
    looking_in Ever c h ic = until_in some side (NConst some) c (const_in some) ic h
    looking_in (Exactly n) c h ic = times_in n c h ic
    looking_in (Between a b) c h ic = range_in a b c h ic

  shape_in : (s : Bool) (look : Shape) (c : Norm) → AllIn (shape_brings s look c) → IsIn c → IsIn (over s look c)
  shape_in s Negation c h ic = ic
  shape_in s (Somewhere side range) c h ic = looking_in s side range c h ic
  shape_in s (Everywhere side range) c h ic = looking_in (not s) side range c h ic

  module _ (s : Bool) (a b : Formula) (ia : (r : Bool) → IsIn (norm r a)) (ib : (r : Bool) → IsIn (norm r b)) where
    abbrev A : Norm
    A = norm s a

    abbrev B : Norm
    B = norm s b

    binary_in : (op : BinaryOp) → AllIn (brings s (Binary op a b)) → IsIn (norm s (Binary op a b))
    binary_in two.And h = conjunction_in s A B (ia s) (ib s) (first _ [] h)
    binary_in two.Or h = conjunction_in (not s) A B (ia s) (ib s) (first _ [] h)
    binary_in two.Implies h = conjunction_in (not s) (norm (not s) a) B (ia (not s)) (ib s) (first _ [] h)
    binary_in two.Iff h =
        let x = NAnd (norm true a) B in
        let y = NAnd (norm false a) (norm (not s) b) in
        conjunction_in false x y (conjunction_in true (norm true a) B (ia true) (ib s) (first x (y ∷ NOr x y ∷ []) h))
        (conjunction_in true (norm false a) (norm (not s) b) (ia false) (ib (not s)) (first y (NOr x y ∷ []) (rest x (y ∷ NOr x y ∷ []) h)))
        (first _ [] (rest y (NOr x y ∷ []) (rest x (y ∷ NOr x y ∷ []) h)))
    binary_in two.Until h = until_in s Future A B (ia s) (ib s) h
    binary_in two.Release h = until_in (not s) Future A B (ia s) (ib s) h
    binary_in two.WeakUntil h = let own = span (not s) Future B (disjunction s A B) in
        until_in (not s) Future B (disjunction s A B) (ib s) (conjunction_in (not s) A B (ia s) (ib s) (first _ own h)) (rest _ own h)
    binary_in two.StrongRelease h = let own = span s Future B (conjunction s A B) in
        until_in s Future B (conjunction s A B) (ib s) (conjunction_in s A B (ia s) (ib s) (first _ own h)) (rest _ own h)
    binary_in two.Since h = until_in s Past A B (ia s) (ib s) h
    binary_in two.Trigger h = until_in (not s) Past A B (ia s) (ib s) h

  -- both normal forms of each tree
  module _ (trees : List Formula) (are : AreMade trees) (there : (f : Formula) → Contains trees f → (s : Bool) → AllIn (brings s f)) where
    trees_in : (f : Formula) → IsAmong trees f → (s : Bool) → IsIn (norm s f)
    trees_in (Const b) h true = const_in b
    trees_in (Const b) h false = const_in (not b)
    trees_in (Letter p) h s = elim h [ inl c ↦ letter_in s p (there (Letter p) c s) | inr e ↦ absurd (cc) ]
    trees_in (Unary op a) h s = elim h [
      | inl c ↦ shape_in s (shape op) _ (there (Unary op a) c s) (trees_in a (are (Unary op a) a c (Contains-here a [])) (under s (shape op)))
      | inr e ↦ absurd (cc)
    ]
    trees_in (Binary op a b) h s = elim h [
      | inl c ↦ binary_in s a b (trees_in a (are (Binary op a b) a c (Contains-here a (b ∷ []))))
          (trees_in b (are (Binary op a b) b c (Contains-there a (b ∷ []) b (Contains-here b [])))) op (there (Binary op a b) c s)
      | inr e ↦ absurd (cc)
    ]

const_brought : (t : Table) (b : Bool) → Contains (brought t) (NConst b)
const_brought t true = Contains-here (NConst true) (NConst false ∷ all_of (trees_of t))
const_brought t false = Contains-there (NConst true) (NConst false ∷ all_of (trees_of t)) (NConst false) (Contains-here (NConst false) (all_of (trees_of t)))

tree_brought : (t : Table) (e : Norm) → Contains (all_of (trees_of t)) e → Contains (brought t) e
tree_brought t e c = Contains-there (NConst true) (NConst false ∷ all_of (trees_of t)) e (Contains-there (NConst false) (all_of (trees_of t)) e c)

-- the entries of each node's normal form are brought
pub walk_brought : (t : Table) (n : ℕ) (e : Norm) → Contains (walk (pos_of (tree_at t n))) e → Contains (brought t) e
walk_brought t n = trees_in (brought t) (const_brought t) (trees_of t) (all_made t) (λ f c s e k. tree_brought t e (all_in (trees_of t) f c s e k))
    (tree_at t n) (among_at (trees_of t) n) true
