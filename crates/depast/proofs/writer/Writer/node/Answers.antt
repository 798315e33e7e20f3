use Rattle.std.proofs.Common.{ℕ, ◌∷◌, ◌++◌, List, length, ap, subst, sym, refl, arith}
use Rattle.std.proofs.lemmas.Result.{on_ok_weaker}
use Rattle.ltl_syntax.specs.declared.node.Node.{Node}
use Rattle.ltl_syntax.specs.declared.node.Node.TheVariants as nodes
use Rattle.ltl_syntax.specs.Formula.{Formula, Const, Letter, Fresh}
use Rattle.ltl_syntax.specs.Table.{Table, IsFine, tree_at, trees_of, made}
use Rattle.depast.specs.declared.writer.Writer.{Writer}
use Rattle.depast.specs.Postorder.{operands}
use Rattle.depast.specs.Symbols.{Letters}
use Rattle.depast.specs.Writing.{IsDoneBy, MeansNames, trees_at}
use Rattle.depast.proofs.writer.Writer.node.Goals as goal

-- the node is done, where its operands were
abbrev Does : Writer → Writer → Node → Type 0
Does before after node = (l : Letters) (t : Table) (number : ℕ) (fs : List Formula) → MeansNames l t → IsFine (length t.names) number node
    → IsDoneBy l (trees_at t (operands node) ++ fs) before → IsDoneBy l (made t.names (trees_of t) node ∷ fs) after

pub returns-in-Const : goal.returns-in-Const
returns-in-Const c = on_ok_weaker c.leaf.result (λ h. subst (Does c.args.self.now c.leaf.new.self) (sym c.in-Const.is)
    (λ l t number fs names fine done. h l (Const c.in-Const.value) fs tt (λ s. refl) done)) c.leaf.ensures

pub returns-in-Letter : goal.returns-in-Letter
returns-in-Letter c = on_ok_weaker c.leaf-in-Letter.result (λ h. subst (Does c.args.self.now c.leaf-in-Letter.new.self) (sym c.in-Letter.is)
    (λ l t number fs names fine done. h l (made t.names (trees_of t) (nodes.Letter c.in-Letter.letter)) fs tt (λ s. (
      omega (arith, names.many_are, fine),
      ap (λ f. f ∷ s) (names.each c.in-Letter.letter),
    )) done)) c.leaf-in-Letter.ensures

pub returns-in-Fresh : goal.returns-in-Fresh
returns-in-Fresh c = on_ok_weaker c.leaf-in-Fresh.result (λ h. subst (Does c.args.self.now c.leaf-in-Fresh.new.self) (sym c.in-Fresh.is)
    (λ l t number fs names fine done. h l (Letter (Fresh c.in-Fresh.letter)) fs tt (λ s. refl) done)) c.leaf-in-Fresh.ensures

pub returns-in-Unary : goal.returns-in-Unary
returns-in-Unary c = on_ok_weaker c.unary.result (λ h. subst (Does c.args.self.now c.unary.new.self) (sym c.in-Unary.is)
    (λ l t number fs names fine done. h l (tree_at t c.in-Unary.field-1) fs done)) c.unary.ensures

pub returns-in-Binary : goal.returns-in-Binary
returns-in-Binary c = on_ok_weaker c.binary.result (λ h. subst (Does c.args.self.now c.binary.new.self) (sym c.in-Binary.is)
    (λ l t number fs names fine done. h l (tree_at t c.in-Binary.field-1) (tree_at t c.in-Binary.field-2) fs done)) c.binary.ensures
