-- The letters of a closure are those of its formula, and the trees of a table have plain names.
use Rattle.std.proofs.Common.{◌≡◌, ℕ, zero, suc, ◌<◌, ◌⊎◌, inl, inr, Bool, true, false, not, List, [], ◌∷◌, ◌++◌, length, get_or, Contains, All}
use Rattle.std.proofs.Common.{sym, subst, arith}
use Rattle.std.proofs.lemmas.Bool.{cases_lt}
use Rattle.std.proofs.lemmas.List.{get_or_past}
use Rattle.std.proofs.lemmas.List.Elements.{Contains-append_cases}
use Rattle.ltl_syntax.specs.declared.node.Node.{Node}
use Rattle.ltl_syntax.specs.declared.node.Node.TheVariants as nodes
use Rattle.ltl_syntax.specs.declared.node.BinaryOp.TheVariants as two
use Rattle.ltl_syntax.specs.Shape.{Direction, Future, Past, Range, Step, Ever, Exactly, Between, Shape, Negation, Somewhere, Everywhere, shape}
use Rattle.ltl_syntax.specs.Formula.{Atom, Formula, Const, Letter, Unary, Binary}
use Rattle.ltl_syntax.specs.Table.{Table, IsPlain, IsTable, tree_among, made, trees_after, trees_of, tree_at}
use Rattle.ltl_word.specs.Propositional.{HasLetter}
use Rattle.ltl_closure.specs.Norm.{Norm, NConst, NLetter, NNotLetter, NAnd, NOr, NNext, NWeakNext, NYesterday, NWeakYesterday, NUntil, NRelease, NSince}
use Rattle.ltl_closure.specs.Norm.{NTrigger, formula_of, conjunction, request, until, times, in_range, looking, under, over, norm, pos_of}
use Rattle.ltl_closure.specs.Closure.{walk, closure}
use Rattle.ltl_closure.proofs.Lists.{Contains-nil, Contains-cons_cases}
use Rattle.ltl_closure.proofs.Entries.{Contains-walk}
use Rattle.ltl_run.specs.Plain.{IsPlainLetter, HasPlainNames, IsSmallNode}

module _ (p : Atom) where
  -- the letter stands in the normal form
  abbrev Has : Norm → Type 0
  Has g = HasLetter (formula_of g) p

  not_one : (e : Norm) → Contains (e ∷ []) (NLetter p) → (e ≡ NLetter p → ⊥) → ⊥
  not_one e c h = elim (Contains-cons_cases e [] (NLetter p) c) [ inl i ↦ h i | inr d ↦ Contains-nil (NLetter p) d ]

  not_two : (d e : Norm) → Contains (d ∷ e ∷ []) (NLetter p) → (d ≡ NLetter p → ⊥) → (e ≡ NLetter p → ⊥) → ⊥
  not_two d e c h k = elim (Contains-cons_cases d (e ∷ []) (NLetter p) c) [ inl i ↦ h i | inr w ↦ not_one e w k ]

  letter_is : (q : Atom) (rest : List Norm) → Contains (NLetter q ∷ rest) (NLetter p) → (Contains rest (NLetter p) → ⊥) → q ≡ p
  letter_is q rest c h = elim (Contains-cons_cases (NLetter q) rest (NLetter p) c) [ inl i ↦ cc | inr d ↦ absurd (h d) ]

  -- a walk over one operand or over two, and then over what is no letter
  over_one : (a : Norm) (own : List Norm) → Contains (walk a ++ own) (NLetter p) → (Contains own (NLetter p) → ⊥) → Contains (walk a) (NLetter p)
  over_one a own c h = elim (Contains-append_cases (walk a) own (NLetter p) c) [ inl l ↦ l | inr r ↦ absurd (h r) ]

  over_two : (a b : Norm) (own : List Norm) → Contains (walk a ++ (walk b ++ own)) (NLetter p) → (Contains own (NLetter p) → ⊥)
      → Contains (walk a) (NLetter p) ⊎ Contains (walk b) (NLetter p)
  over_two a b own c h = elim (Contains-append_cases (walk a) (walk b ++ own) (NLetter p) c) [ inl l ↦ inl l | inr r ↦ inr (over_one b own r h) ]

  walked : (g : Norm) → Contains (walk g) (NLetter p) → Has g
  walked (NConst b) c = absurd (not_one (NConst b) c (λ e. cc))
  walked (NLetter q) c = letter_is q [] c (Contains-nil (NLetter p))
  walked (NNotLetter q) c = letter_is q (NNotLetter q ∷ []) c (λ d. not_one (NNotLetter q) d (λ e. cc))
  walked (NNext a) c = walked a (over_one a _ c (λ d. not_one _ d (λ e. cc)))
  walked (NWeakNext a) c = walked a (over_one a _ c (λ d. not_one _ d (λ e. cc)))
  walked (NYesterday a) c = walked a (over_one a _ c (λ d. not_one _ d (λ e. cc)))
  walked (NWeakYesterday a) c = walked a (over_one a _ c (λ d. not_one _ d (λ e. cc)))
  walked (NAnd a b) c = elim (over_two a b _ c (λ d. not_one _ d (λ e. cc))) [ inl l ↦ inl (walked a l) | inr r ↦ inr (walked b r) ]
  walked (NOr a b) c = elim (over_two a b _ c (λ d. not_one _ d (λ e. cc))) [ inl l ↦ inl (walked a l) | inr r ↦ inr (walked b r) ]
  walked (NUntil a b) c = elim (over_two a b _ c (λ d. not_two _ _ d (λ e. cc) (λ e. cc))) [ inl l ↦ inl (walked a l) | inr r ↦ inr (walked b r) ]
  walked (NRelease a b) c = elim (over_two a b _ c (λ d. not_two _ _ d (λ e. cc) (λ e. cc))) [ inl l ↦ inl (walked a l) | inr r ↦ inr (walked b r) ]
  walked (NSince a b) c = elim (over_two a b _ c (λ d. not_two _ _ d (λ e. cc) (λ e. cc))) [ inl l ↦ inl (walked a l) | inr r ↦ inr (walked b r) ]
  walked (NTrigger a b) c = elim (over_two a b _ c (λ d. not_two _ _ d (λ e. cc) (λ e. cc))) [ inl l ↦ inl (walked a l) | inr r ↦ inr (walked b r) ]

  of_conjunction : (s : Bool) (c d : Norm) → Has (conjunction s c d) → Has c ⊎ Has d
  of_conjunction true c d h = h
  of_conjunction false c d h = h

  of_until : (some : Bool) (side : Direction) (c d : Norm) → Has (until some side c d) → Has c ⊎ Has d
  of_until true Future c d h = h
  of_until false Future c d h = h
  of_until true Past c d h = h
  of_until false Past c d h = h

  of_request : (some : Bool) (side : Direction) (c : Norm) → Has (request some side c) → Has c
  of_request true Future c h = h
  of_request false Future c h = h
  of_request true Past c h = h
  of_request false Past c h = h

  -- what looks at a range has no letter but the operand's
  module _ (some : Bool) (side : Direction) where
    of_times : (n : ℕ) (c : Norm) → Has (times (request some side) n c) → Has c
    of_times zero c h = h
    of_times (suc n) c h = of_times n c (of_request some side (times (request some side) n c) h)

    of_range : (m n : ℕ) (c : Norm) → Has (in_range some (request some side) m n c) → Has c
    of_range zero zero c h = h
    of_range zero (suc n) c h = let rest = in_range some (request some side) zero n c in elim (of_conjunction (not some) c (request some side rest) h) [
      | inl l ↦ l
      | inr r ↦ of_range zero n c (of_request some side rest r)
    ]
    of_range (suc m) (suc n) c h = of_range m n c (of_request some side (in_range some (request some side) m n c) h)
    of_range (suc m) zero c h = absurd h

    of_looking : (range : Range) (c : Norm) → Has (looking some side range c) → Has c
    of_looking Step c h = of_request some side c h
    of_looking Ever c h = elim (of_until some side (NConst some) c h) [ inl l ↦ absurd l | inr r ↦ r ]
    of_looking (Exactly n) c h = of_times n c h
    of_looking (Between m n) c h = of_range m n c h

  of_shape : (s : Bool) (look : Shape) (c : Norm) → Has (over s look c) → Has c
  of_shape s Negation c h = h
  of_shape s (Somewhere side range) c h = of_looking s side range c h
  of_shape s (Everywhere side range) c h = of_looking (not s) side range c h

  of_letter : (s : Bool) (q : Atom) → Has (norm s (Letter q)) → q ≡ p
  of_letter true q h = h
  of_letter false q h = h

  of_constant : (s b : Bool) → Has (norm s (Const b)) → ⊥
  of_constant true b h = h
  of_constant false b h = h

  both : {A B C D : Type 0} → (A → C) → (B → D) → A ⊎ B → C ⊎ D
  both f g (inl a) = inl (f a)
  both f g (inr b) = inr (g b)

  one_of : {A B C : Type 0} → (A → C) → (B → C) → A ⊎ B → C
  one_of f g (inl a) = f a
  one_of f g (inr b) = g b

  -- the normal forms of a formula and of its negation have no letter but the formula's
  from_norm : (f : Formula) (s : Bool) → Has (norm s f) → HasLetter f p
  from_norm (Const b) s h = of_constant s b h
  from_norm (Letter q) s h = of_letter s q h
  from_norm (Unary op a) s h = from_norm a (under s (shape op)) (of_shape s (shape op) _ h)
  from_norm (Binary two.And a b) s h = both (from_norm a s) (from_norm b s) (of_conjunction s _ _ h)
  from_norm (Binary two.Or a b) s h = both (from_norm a s) (from_norm b s) (of_conjunction (not s) _ _ h)
  from_norm (Binary two.Implies a b) s h = both (from_norm a (not s)) (from_norm b s) (of_conjunction (not s) _ _ h)
  from_norm (Binary two.Iff a b) s h = one_of (both (from_norm a true) (from_norm b s)) (both (from_norm a false) (from_norm b (not s))) h
  from_norm (Binary two.Until a b) s h = both (from_norm a s) (from_norm b s) (of_until s Future _ _ h)
  from_norm (Binary two.Release a b) s h = both (from_norm a s) (from_norm b s) (of_until (not s) Future _ _ h)
  from_norm (Binary two.WeakUntil a b) s h = one_of (λ r. inr (from_norm b s r))
      (λ r. both (from_norm a s) (from_norm b s) (of_conjunction (not s) _ _ r)) (of_until (not s) Future _ _ h)
  from_norm (Binary two.StrongRelease a b) s h = one_of (λ r. inr (from_norm b s r))
      (λ r. both (from_norm a s) (from_norm b s) (of_conjunction s _ _ r)) (of_until s Future _ _ h)
  from_norm (Binary two.Since a b) s h = both (from_norm a s) (from_norm b s) (of_until s Past _ _ h)
  from_norm (Binary two.Trigger a b) s h = both (from_norm a s) (from_norm b s) (of_until (not s) Past _ _ h)

-- a letter of the closure stands in the formula
pub closure_letter : (f : Formula) (p : Atom) → Contains (closure f) (NLetter p) → HasLetter f p
closure_letter f p c = from_norm p f true (walked p (pos_of f) (Contains-walk f (NLetter p) c))

module _ (names : List (List ℕ)) (plain : (i : ℕ) → i < length names → IsPlain (get_or names i [])) where
  name_plain : (n : ℕ) → IsPlain (get_or names n [])
  name_plain n = elim (cases_lt n (length names)) [
    | inl lt ↦ plain n lt
    | inr ge ↦ subst IsPlain (sym (get_or_past names n [] ge)) tt
  ]

  made_plain : (trees : List Formula) → ((i : ℕ) → HasPlainNames (tree_among trees i)) → (node : Node) → IsSmallNode node
      → HasPlainNames (made names trees node)
  made_plain trees all (nodes.Const b) small p h = absurd h
  made_plain trees all (nodes.Letter n) small p h = subst IsPlainLetter h (name_plain n)
  made_plain trees all (nodes.Fresh n) small p h = subst IsPlainLetter h small
  made_plain trees all (nodes.Unary op a) small p h = all a p h
  made_plain trees all (nodes.Binary op a b) small p h = elim h [ inl l ↦ all a p l | inr r ↦ all b p r ]

  pushed_plain : (trees : List Formula) (f : Formula) → ((i : ℕ) → HasPlainNames (tree_among trees i)) → HasPlainNames f → (i : ℕ)
      → HasPlainNames (tree_among (trees ++ f ∷ []) i)
  pushed_plain [] f all h zero = h
  pushed_plain [] f all h (suc i) = all i
  pushed_plain (g ∷ trees) f all h zero = all zero
  pushed_plain (g ∷ trees) f all h (suc i) = pushed_plain trees f (λ j. all (suc j)) h i

  trees_plain : (trees : List Formula) → ((i : ℕ) → HasPlainNames (tree_among trees i)) → (ns : List Node) → All IsSmallNode ns → (i : ℕ)
      → HasPlainNames (tree_among (trees_after names trees ns) i)
  trees_plain trees all [] small i = all i
  trees_plain trees all (n ∷ ns) small i =
      trees_plain (trees ++ made names trees n ∷ []) (pushed_plain trees (made names trees n) all (made_plain trees all n (small zero n (omega arith)))) ns
      (λ k d lt. small (suc k) d (omega arith)) i

-- the trees of a table have plain names
pub table_plain : (t : Table) (number : ℕ) → IsTable t.nodes t.names → All IsSmallNode t.nodes → HasPlainNames (tree_at t number)
unfolding trees_of
table_plain t number is small = trees_plain t.names is.plain [] (λ i p h. absurd h) t.nodes small number
