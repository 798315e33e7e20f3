use Rattle.std.proofs.Common.{[], ◌∷◌, refl, sym, subst}
use Rattle.std.proofs.lemmas.Result.{on_ok_weaker}
use Rattle.std.proofs.lemmas.Option.{get_or_from_slice_get}
use Rattle.ltl_syntax.specs.declared.node.Node.TheVariants as nodes
use Rattle.ltl_syntax.specs.Formula.{Const, Letter, Fresh, Name}
use Rattle.depast.specs.Symbols.{Reads}
use Rattle.depast.specs.Building.{letters_by, AreBuilt}
use Rattle.depast.proofs.Built.{built_more, unary_built, binary_built, no_child_const, no_child_fresh}
use Rattle.depast.proofs.build.put.Goals as goal

pub returns-in-Const-clause-built : goal.returns-in-Const-clause-built
returns-in-Const-clause-built c = on_ok_weaker c.add.result (λ w fs gs v h.
    subst (λ hs. AreBuilt c.add.new.table hs c.add.new.roots)
    (subst (λ x. Reads (letters_by c.args.source.now c.args.names.now.most) (x ∷ []) fs gs) c.in-Const.is h)
    (built_more c.args.table.now c.add.new.table (nodes.Const c.in-Const.value) (Const c.in-Const.value) fs c.args.roots.now c.add.new.roots w.0 v
    (no_child_const c.in-Const.value c.args.roots.now) refl w.1)) c.add.ensures

pub returns-in-Fresh-clause-built : goal.returns-in-Fresh-clause-built
returns-in-Fresh-clause-built c = on_ok_weaker c.add-in-Fresh.result (λ w fs gs v h.
    subst (λ hs. AreBuilt c.add-in-Fresh.new.table hs c.add-in-Fresh.new.roots)
    (subst (λ x. Reads (letters_by c.args.source.now c.args.names.now.most) (x ∷ []) fs gs) c.in-Fresh.is h)
    (built_more c.args.table.now c.add-in-Fresh.new.table (nodes.Fresh c.in-Fresh.letter) (Letter (Fresh c.in-Fresh.letter))
    fs c.args.roots.now c.add-in-Fresh.new.roots w.0 v (no_child_fresh c.in-Fresh.letter c.args.roots.now) refl w.1)) c.add-in-Fresh.ensures

pub returns-in-Old-clause-built : goal.returns-in-Old-clause-built
returns-in-Old-clause-built c = on_ok_weaker c.add_name.result (λ adds fs gs v h.
    subst (λ hs. AreBuilt c.add_name.new.table hs c.add_name.new.roots)
    (subst (λ x. Reads (letters_by c.args.source.now c.args.names.now.most) (x ∷ []) fs gs) c.in-Old.is h).1
    (subst (λ n. AreBuilt c.add_name.new.table (Letter (Name n) ∷ fs) c.add_name.new.roots)
    (sym (get_or_from_slice_get c.args.source.now.names c.in-Old.letter c.name_of.result.now [] c.name_of.ensures.name)) (adds fs v))) c.add_name.ensures.adds

pub returns-in-Some-clause-built : goal.returns-in-Some-clause-built
returns-in-Some-clause-built c = on_ok_weaker c.add-in-Unary.result (λ w fs gs v h.
    unary_built (letters_by c.args.source.now c.args.names.now.most) c.args.table.now c.add-in-Unary.new.table c.in-Unary.op c.in-Some.a fs gs c.args.roots.now
    c.pop.new.self c.add-in-Unary.new.roots c.in-Some.ensures w.0 w.1 v
    (subst (λ x. Reads (letters_by c.args.source.now c.args.names.now.most) (x ∷ []) fs gs) c.in-Unary.is h)) c.add-in-Unary.ensures

pub returns-in-Some-pop-2-clause-built : goal.returns-in-Some-pop-2-clause-built
returns-in-Some-pop-2-clause-built c = on_ok_weaker c.add-in-Binary.result (λ w fs gs v h.
    binary_built (letters_by c.args.source.now c.args.names.now.most) c.args.table.now c.add-in-Binary.new.table c.in-Binary.op c.in-Some-pop-2.a
    c.in-Some-pop.b fs gs c.args.roots.now c.pop-in-Binary.new.self c.pop-in-Binary-2.new.self
    c.add-in-Binary.new.roots c.in-Some-pop.ensures c.in-Some-pop-2.ensures w.0 w.1 v
    (subst (λ x. Reads (letters_by c.args.source.now c.args.names.now.most) (x ∷ []) fs gs) c.in-Binary.is h)) c.add-in-Binary.ensures
