use Rattle.std.proofs.Common.{◌≤◌, ◌+◌, ◌∷◌, [], length, drop, get_or, sym, subst, arith}
use Rattle.depast.specs.Building.{letters_by, AreBuilt}
use Rattle.depast.proofs.Rows.{blank, split_reads, reads_at, reads_none}
use Rattle.depast.proofs.Built.{may_put, last_built}
use Rattle.depast.proofs.build.build.Goals as goal

pub loop-symbol-init : goal.loop-symbol-init
loop-symbol-init c = (subst (λ t. length t.names ≤ length t.nodes) (sym c.new-table.ensures) (omega arith), λ f h. ([], c.new-roots.ensures, h))

pub put-requires-clause-may : goal.put-requires-clause-may
put-requires-clause-may c =
    let v = c.loop-symbol.invariant.1 c.requires.0 c.requires.1 in
    may_put c.args.source.now c.loop-symbol.table c.args.names.now.most (get_or c.args.row.now c.loop-symbol.symbol-index blank)
    (drop (c.loop-symbol.symbol-index + 1) c.args.row.now) v.0 (c.requires.0 ∷ []) c.loop-symbol.roots v.1
    (reads_at (letters_by c.args.source.now c.args.names.now.most) c.args.row.now c.loop-symbol.symbol-index v.0 (c.requires.0 ∷ [])
    c.loop-symbol-test.true v.2)

pub loop-symbol-preserved : goal.loop-symbol-preserved
loop-symbol-preserved c = (
  c.in_ok-put.ensures.few,
  λ f h.
      let v = c.loop-symbol.invariant.1 f h in
      let w = split_reads (letters_by c.args.source.now c.args.names.now.most) (get_or c.args.row.now c.loop-symbol.symbol-index blank)
      (drop (c.loop-symbol.symbol-index + 1) c.args.row.now) v.0 (f ∷ [])
      (reads_at (letters_by c.args.source.now c.args.names.now.most) c.args.row.now c.loop-symbol.symbol-index v.0 (f ∷ []) c.loop-symbol-test.true v.2) in
      (w.0, c.in_ok-put.ensures.built v.0 w.0 v.1 w.1, w.2),
)

pub returns-clause-tree : goal.returns-clause-tree
returns-clause-tree c f h =
    let v = c.loop-symbol.invariant.1 f h in
    let one = reads_none (letters_by c.args.source.now c.args.names.now.most) c.args.row.now c.loop-symbol.symbol-index v.0 (f ∷ []) (omega arith) v.2 in
    (last_built c.loop-symbol.table f c.loop-symbol.roots c.pop.new.self c.in-Some.root
    (subst (λ fs. AreBuilt c.loop-symbol.table fs c.loop-symbol.roots) one v.1) c.in-Some.ensures).1

pub returns-clause-root : goal.returns-clause-root
returns-clause-root c =
    let v = c.loop-symbol.invariant.1 c.requires.0 c.requires.1 in
    let one = reads_none (letters_by c.args.source.now c.args.names.now.most) c.args.row.now c.loop-symbol.symbol-index v.0 (c.requires.0 ∷ [])
    (omega arith) v.2 in
    (last_built c.loop-symbol.table c.requires.0 c.loop-symbol.roots c.pop.new.self c.in-Some.root
    (subst (λ fs. AreBuilt c.loop-symbol.table fs c.loop-symbol.roots) one v.1) c.in-Some.ensures).0
