-- A code of formulas, by which a proof tells them apart. A model whose value holds a formula names it.
use Rattle.std.specs.Prelude.{◌≡◌, ℕ, List}
use Rattle.std.proofs.Common.{ap}
use Rattle.std.specs.Coded.{Coded, coded_bool, coded_list, coded_ℕ}
use base.Stored.{Gv, gnum, gcons}
use Rattle.ltl_syntax.specs.declared.node.UnaryOp.{UnaryOp}
use Rattle.ltl_syntax.specs.declared.node.BinaryOp.{BinaryOp}
use Rattle.ltl_syntax.specs.contracts.node.UnaryOp as unary_op
use Rattle.ltl_syntax.specs.contracts.node.BinaryOp as binary_op
use Rattle.ltl_syntax.specs.Formula.{Atom, Name, Fresh, Formula, Const, Letter, Unary, Binary}

-- the codes of the operators and of names, as std makes them
abbrev pub unary_coded : Coded UnaryOp
unary_coded = unary_op.the_row.coded

abbrev pub binary_coded : Coded BinaryOp
binary_coded = binary_op.the_row.coded

abbrev pub name_coded : Coded (List ℕ)
name_coded = coded_list coded_ℕ

-- a letter's code has a 0 before a name and a 1 before a number
abbrev pub atom_code : Atom → Gv
atom_code (Name bytes) = gcons (gnum 0) (name_coded.code bytes)
atom_code (Fresh n) = gcons (gnum 1) (gnum n)

-- two letters with one code are the same
pub atom_inj : (x y : Atom) → atom_code x ≡ atom_code y → x ≡ y
atom_inj (Name m) (Name n) e = ap Name (name_coded.inj m n (cc))
atom_inj (Fresh m) (Fresh n) e = let f : m ≡ n = cc in ap Fresh f
atom_inj x y e = absurd (cc)

-- a formula's code has a number for its form before the codes of its parts
abbrev pub formula_code : Formula → Gv
formula_code (Const b) = gcons (gnum 0) (coded_bool.code b)
formula_code (Letter p) = gcons (gnum 1) (atom_code p)
formula_code (Unary op a) = gcons (gnum 2) (gcons (unary_coded.code op) (formula_code a))
formula_code (Binary op a b) = gcons (gnum 3) (gcons (binary_coded.code op) (gcons (formula_code a) (formula_code b)))

-- two formulas with one code are the same
pub formula_inj : (x y : Formula) → formula_code x ≡ formula_code y → x ≡ y
formula_inj (Const b) (Const c) e = ap Const (coded_bool.inj b c (cc))
formula_inj (Letter p) (Letter q) e = ap Letter (atom_inj p q (cc))
formula_inj (Unary op a) (Unary op' a') e =
    let o : op ≡ op' = unary_coded.inj op op' (cc) in
    let s : a ≡ a' = formula_inj a a' (cc) in cc
formula_inj (Binary op a b) (Binary op' a' b') e =
    let o : op ≡ op' = binary_coded.inj op op' (cc) in
    let s : a ≡ a' = formula_inj a a' (cc) in
    let t : b ≡ b' = formula_inj b b' (cc) in cc
formula_inj x y e = absurd (cc)

-- the code, with the proof that it tells formulas apart
abbrev pub coded_formula : Coded Formula
coded_formula = record { code = formula_code; inj = formula_inj }
