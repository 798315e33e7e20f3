-- Readings and faults of small token lists, to see that the definitions say what they should.
use Rattle.std.proofs.Common.{◌≡◌, List, [], ◌∷◌, ◌++◌, refl, arith}
use Rattle.std.specs.Prelude.{Some, None}
use Rattle.ltl_syntax.specs.declared.node.UnaryOp.TheVariants as one
use Rattle.ltl_syntax.specs.declared.node.BinaryOp.TheVariants as two
use Rattle.ltl_syntax.specs.Formula.{Formula, Name, Letter, Unary, Binary}
use Rattle.ltl_parser.specs.Grammar.{Symbol, Leaf, Prefix, Infix, Open, Close, Reads, fault, node_count}
use Rattle.ltl_parser.specs.Text.{names_of}
use Rattle.ltl_parser.specs.Standing.{IsPart}
use Rattle.ltl_parser.proofs.Parts.{leaf_part, prefix_part, enclosed_part, join_part, part_weaker}

abbrev a : Formula
a = Letter (Name (97 ∷ []))

abbrev b : Formula
b = Letter (Name (98 ∷ []))

abbrev c : Formula
c = Letter (Name (99 ∷ []))

abbrev d : Formula
d = Letter (Name (100 ∷ []))

abbrev untils : List Symbol
untils = Leaf a ∷ Infix two.Until ∷ Leaf b ∷ Infix two.Until ∷ Leaf c ∷ []

abbrev conditions : List Symbol
conditions = Leaf a ∷ Infix two.Implies ∷ Leaf b ∷ Infix two.Implies ∷ Leaf c ∷ []

-- a U b U c is a U (b U c)
until_right : IsPart 4 untils (Binary two.Until a (Binary two.Until b c))
until_right = join_part (Leaf a ∷ []) (Leaf b ∷ Infix two.Until ∷ Leaf c ∷ []) a (Binary two.Until b c) two.Until (leaf_part _ a)
    (join_part (Leaf b ∷ []) (Leaf c ∷ []) b c two.Until (leaf_part _ b) (leaf_part _ c))

-- a -> b -> c is a -> (b -> c)
implies_right : IsPart 1 conditions (Binary two.Implies a (Binary two.Implies b c))
implies_right = join_part (Leaf a ∷ []) (Leaf b ∷ Infix two.Implies ∷ Leaf c ∷ []) a (Binary two.Implies b c) two.Implies (leaf_part _ a)
    (join_part (Leaf b ∷ []) (Leaf c ∷ []) b c two.Implies (leaf_part _ b) (leaf_part _ c))

-- a | b | c is (a | b) | c
or_left : Reads (Leaf a ∷ Infix two.Or ∷ Leaf b ∷ Infix two.Or ∷ Leaf c ∷ []) (Binary two.Or (Binary two.Or a b) c)
or_left = (join_part (Leaf a ∷ Infix two.Or ∷ Leaf b ∷ []) (Leaf c ∷ []) (Binary two.Or a b) c two.Or
    (join_part (Leaf a ∷ []) (Leaf b ∷ []) a b two.Or (leaf_part _ a) (leaf_part _ b)) (leaf_part _ c)).reads

-- a U b U c & d | a -> b -> c <-> d is ((((a U (b U c)) & d) | a) -> (b -> c)) <-> d
all_strengths : Reads (untils ++ Infix two.And ∷ Leaf d ∷ Infix two.Or ∷ conditions ++ Infix two.Iff ∷ Leaf d ∷ [])
    (Binary two.Iff (Binary two.Implies (Binary two.Or (Binary two.And (Binary two.Until a (Binary two.Until b c)) d) a) (Binary two.Implies b c)) d)
all_strengths =
    let conjunction = join_part untils (Leaf d ∷ []) _ d two.And (part_weaker 4 3 untils _ (omega arith) until_right) (leaf_part _ d) in
    let disjunction = join_part (untils ++ Infix two.And ∷ Leaf d ∷ []) (Leaf a ∷ []) _ a two.Or (part_weaker 3 2 _ _ (omega arith) conjunction)
    (leaf_part _ a) in
    let inner = join_part (Leaf b ∷ []) (Leaf c ∷ []) b c two.Implies (leaf_part _ b) (leaf_part _ c) in
    let condition = join_part _ (Leaf b ∷ Infix two.Implies ∷ Leaf c ∷ []) _ _ two.Implies disjunction inner in
    (join_part _ (Leaf d ∷ []) _ d two.Iff (part_weaker 1 0 _ _ (omega arith) condition) (leaf_part _ d)).reads

-- !a S b is (!a) S b
negation_first : Reads (Prefix one.Not ∷ Leaf a ∷ Infix two.Since ∷ Leaf b ∷ []) (Binary two.Since (Unary one.Not a) b)
negation_first = (join_part (Prefix one.Not ∷ Leaf a ∷ []) (Leaf b ∷ []) (Unary one.Not a) b two.Since (prefix_part one.Not a (Leaf a ∷ []) (leaf_part _ a) _)
    (leaf_part _ b)).reads

-- G F (a & b)
over_parentheses : Reads (Prefix one.Always ∷ Prefix one.Eventually ∷ Open ∷ Leaf a ∷ Infix two.And ∷ Leaf b ∷ Close ∷ [])
    (Unary one.Always (Unary one.Eventually (Binary two.And a b)))
over_parentheses =
    let inner = join_part (Leaf a ∷ []) (Leaf b ∷ []) a b two.And (leaf_part _ a) (leaf_part _ b) in
    let enclosed = enclosed_part (Leaf a ∷ Infix two.And ∷ Leaf b ∷ []) (Binary two.And a b) 3 inner 5 in
    (prefix_part one.Always _ _ (prefix_part one.Eventually _ _ enclosed 5) 0).reads

-- the empty list; ) a; a b; ( a; a ); a ) b; a &
fault_empty : fault [] ≡ Some 0
fault_empty = refl

fault_close_first : fault (Close ∷ Leaf a ∷ []) ≡ Some 0
fault_close_first = refl

fault_two_operands : fault (Leaf a ∷ Leaf b ∷ []) ≡ Some 1
fault_two_operands = refl

fault_still_open : fault (Open ∷ Leaf a ∷ []) ≡ Some 2
fault_still_open = refl

fault_close_last : fault (Leaf a ∷ Close ∷ []) ≡ Some 1
fault_close_last = refl

fault_close_between : fault (Leaf a ∷ Close ∷ Leaf b ∷ []) ≡ Some 1
fault_close_between = refl

fault_no_operand : fault (Leaf a ∷ Infix two.And ∷ []) ≡ Some 2
fault_no_operand = refl

-- (b <-> X a) & b has no fault, six nodes and two names
abbrev clean : List Symbol
clean = Open ∷ Leaf b ∷ Infix two.Iff ∷ Prefix one.Next ∷ Leaf a ∷ Close ∷ Infix two.And ∷ Leaf b ∷ []

fault_none : fault clean ≡ None
fault_none = refl

nodes_clean : node_count clean ≡ 6
nodes_clean = refl

names_clean : names_of clean ≡ (98 ∷ []) ∷ (97 ∷ []) ∷ []
names_clean = refl

-- X[3] F[0,0] a has no fault, and 3 + 1 + 1 for its size
abbrev bounded : List Symbol
bounded = Prefix (one.NextTimes 3) ∷ Prefix (one.EventuallyIn 0 0) ∷ Leaf a ∷ []

fault_bounded : fault bounded ≡ None
fault_bounded = refl

nodes_bounded : node_count bounded ≡ 5
nodes_bounded = refl
