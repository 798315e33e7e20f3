-- The loop over the tokens.
use Rattle.std.proofs.Common.{◌≡◌, ℕ, zero, suc, ◌+◌, ◌<◌, ◌≤◌, List, [], ◌∷◌, ◌++◌, length, take, drop, get_or, arith, refl, sym, ap, ◌∙◌, subst}
use Rattle.std.specs.Prelude.{Option, Some, None}
use Rattle.std.proofs.lemmas.List.{get_or-map, length-map, take_more, drop_more, take_all}
use Rattle.std.proofs.Math.ListN.{drop_of_length-le}
use Rattle.ltl_syntax.specs.Table.{Table, tree_at}
use Rattle.ltl_syntax.specs.Size.{sizes}
use Rattle.ltl_lexer.specs.declared.token.Token.{Token}
use Rattle.ltl_parser.specs.declared.stack.Waiting.{Waiting}
use Rattle.ltl_parser.specs.declared.stack.Waiting.TheVariants as waits
use Rattle.ltl_parser.specs.Grammar.{Symbol, Leaf, Prefix, Infix, Open, Close, Reads, walk, Wanted, Operand, Operator}
use Rattle.ltl_parser.specs.Text.{symbol_of, symbols, with_name, names_after, names_of}
use Rattle.ltl_parser.specs.Standing.{parens, IsHeld, IsStopped, frames, to_make, to_weigh, units, Becomes, IsState, Steps, IsTaken, wanted, IsUnderWay}
use Rattle.ltl_parser.specs.Grammar.{weight, node_count}
use Rattle.ltl_parser.proofs.Exists.{no_parens}

pub taken : (s : Wanted) (n : ℕ) (x : Symbol) (rest : List Symbol) → walk s n (x ∷ rest) ≡ None → IsTaken s n x
taken Operand n (Leaf f) rest e = tt
taken Operand n (Prefix op) rest e = tt
taken Operand n Open rest e = tt
taken Operand n (Infix op) rest e = absurd (cc)
taken Operand n Close rest e = absurd (cc)
taken Operator n (Leaf f) rest e = absurd (cc)
taken Operator n (Prefix op) rest e = absurd (cc)
taken Operator n Open rest e = absurd (cc)
taken Operator n (Infix op) rest e = tt
taken Operator zero Close rest e = absurd (cc)
taken Operator (suc n) Close rest e = omega arith

names_after-append : (names : List (List ℕ)) (ss : List Symbol) (x : Symbol) → names_after names (ss ++ x ∷ []) ≡ with_name (names_after names ss) x
names_after-append names [] x = refl
names_after-append names (s ∷ ss) x = names_after-append (with_name names s) ss x

module _ (ss : List Symbol) (i : ℕ) (x : Symbol) (h : drop i ss ≡ x ∷ drop (i + 1) ss) where
  pub way_room : (t : Table) (ws : List Waiting) (a : Option ℕ) → IsUnderWay ss i t ws a
      → node_count ss ≤ 16384 → sizes t.nodes + to_weigh ws + weight x ≤ 16384
  way_room t ws a g le = let r = g.size in let e = ap node_count h in omega arith

  pub way_taken : (t : Table) (ws : List Waiting) (a : Option ℕ) → IsUnderWay ss i t ws a → IsTaken (wanted a) (parens (frames t ws)) x
  way_taken t ws a g = taken (wanted a) (parens (frames t ws)) x (drop (i + 1) ss) (ap (walk (wanted a) (parens (frames t ws))) (sym h) ∙ g.clean)

  pub way_next : (t u : Table) (ws vs : List Waiting) (a b : Option ℕ) → take (i + 1) ss ≡ take i ss ++ x ∷ [] → IsUnderWay ss i t ws a → Steps t ws a x u vs b
      → IsUnderWay ss (i + 1) u vs b
  way_next t u ws vs a b e g s = record {
    state = subst (IsState u vs b) (sym e) (s.state (take i ss) g.state);
    clean = s.goes_on (drop (i + 1) ss) (ap (walk (wanted a) (parens (frames t ws))) (sym h) ∙ g.clean);
    ready = s.ready;
    room = let r = g.room in let k = s.room in let n = ap units h in omega arith;
    size = let r = g.size in let k = s.size in let n = ap node_count h in omega arith;
    names = s.names ∙ ap (λ z. with_name z x) g.names ∙ sym (names_after-append [] (take i ss) x) ∙ ap names_of (sym e);
    few = s.few;
  }

closed : (n : ℕ) → walk Operator n [] ≡ None → n ≡ 0
closed zero e = refl
closed (suc n) e = absurd (cc)

nothing_left : (t : Table) (ws : List Waiting) → IsStopped 0 (frames t ws) → parens (frames t ws) ≡ 0 → (to_make ws ≡ 0) × (to_weigh ws ≡ 0)
nothing_left t [] s e = (refl, refl)
nothing_left t (waits.Paren ∷ ws) s e = absurd (omega arith)
nothing_left t (waits.Prefix op ∷ ws) s e = absurd s
nothing_left t (waits.Infix left op ∷ ws) s e = absurd (omega arith)

-- at the end of the symbols, where what waits on the stack has been applied
module _ (ss : List Symbol) (i : ℕ) (t u : Table) (ws vs : List Waiting) (a b : ℕ) (le : length ss ≤ i) (g : IsUnderWay ss i t ws (Some a))
    (c : Becomes 0 t ws a u vs b) (s : IsStopped 0 (frames u vs)) where
  all : take i ss ≡ ss
  all = take_all i ss le

  none : drop i ss ≡ []
  none = drop_of_length-le ss le

  no_parens_left : parens (frames u vs) ≡ 0
  no_parens_left = c.depth ∙ closed (parens (frames t ws)) (ap (walk Operator (parens (frames t ws))) (sym none) ∙ g.clean)

  pub way_reads : Reads ss (tree_at u b)
  way_reads = no_parens (frames u vs) ss (tree_at u b) (c.held ss (subst (λ z. IsHeld 0 (frames t ws) z (tree_at t a)) all (g.state 0))) s no_parens_left

  pub way_count : length u.nodes ≡ units ss
  way_count =
      let r = g.room in
      let m = c.room in
      let n = ap units none in
      let z = (nothing_left u vs s no_parens_left).0 in
      omega arith

  pub way_size : sizes u.nodes ≡ node_count ss
  way_size =
      let r = g.size in
      let m = c.size in
      let n = ap node_count none in
      let z = (nothing_left u vs s no_parens_left).1 in
      omega arith

  pub way_names : u.names ≡ names_of ss
  way_names = c.names ∙ g.names ∙ ap names_of all

pub next_symbol : (text : List ℕ) (ts : List Token) (i : ℕ) (d : Token) → i < length ts
    → drop i (symbols text ts) ≡ symbol_of text (get_or ts i d) ∷ drop (i + 1) (symbols text ts)
next_symbol text ts i d lt =
    drop_more (symbols text ts) i (symbol_of text d) (let n = length-map ts (symbol_of text) in omega arith)
    ∙ ap (λ z. z ∷ drop (i + 1) (symbols text ts)) (get_or-map (symbol_of text) ts i d (symbol_of text d) lt)

pub taken_symbols : (text : List ℕ) (ts : List Token) (i : ℕ) (d : Token) → i < length ts
    → take (i + 1) (symbols text ts) ≡ take i (symbols text ts) ++ symbol_of text (get_or ts i d) ∷ []
taken_symbols text ts i d lt =
    take_more (symbols text ts) i (symbol_of text d) (let n = length-map ts (symbol_of text) in omega arith)
    ∙ ap (λ z. take i (symbols text ts) ++ z ∷ []) (get_or-map (symbol_of text) ts i d (symbol_of text d) lt)
