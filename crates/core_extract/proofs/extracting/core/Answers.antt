use Rattle.core_extract.specs.Testing.{marked}
use Rattle.core_extract.proofs.Cores.{core_refuted, core_no_trace}
use Rattle.core_extract.proofs.Rounds.{core_of}
use Rattle.ltl_syntax.specs.Table.{tree_at}
use Rattle.core_extract.proofs.extracting.core.Goals as goal

pub returns-clause-core : goal.returns-clause-core
returns-clause-core g c =
    let is = c.in_ok-task.ensures in
    core_of c.in_ok-task.task c.args.table.now c.args.root c.args.asked c.args.kind (tree_at c.in_ok-core.core.0 c.in_ok-core.core.1)
    (marked c.in_ok-marks.marks.items) is.table is.root is.kind is.asked c.in_ok-marks.ensures.reached c.in_ok-core.ensures.tree

pub returns-clause-refuted : goal.returns-clause-refuted
returns-clause-refuted g c =
    let is = c.in_ok-task.ensures in
    let core =
    core_of c.in_ok-task.task c.args.table.now c.args.root c.args.asked c.args.kind (tree_at c.in_ok-core.core.0 c.in_ok-core.core.1)
    (marked c.in_ok-marks.marks.items) is.table is.root is.kind is.asked c.in_ok-marks.ensures.reached c.in_ok-core.ensures.tree in
    core_refuted c.args.kind c.args.asked (tree_at c.args.table.now c.args.root) (tree_at c.in_ok-core.core.0 c.in_ok-core.core.1) c.requires.refuted core

pub returns-clause-none : goal.returns-clause-none
returns-clause-none g c =
    let is = c.in_ok-task.ensures in
    let core =
    core_of c.in_ok-task.task c.args.table.now c.args.root c.args.asked c.args.kind (tree_at c.in_ok-core.core.0 c.in_ok-core.core.1)
    (marked c.in_ok-marks.marks.items) is.table is.root is.kind is.asked c.in_ok-marks.ensures.reached c.in_ok-core.ensures.tree in
    core_no_trace c.args.kind c.args.asked (tree_at c.args.table.now c.args.root) (tree_at c.in_ok-core.core.0 c.in_ok-core.core.1) c.requires.refuted core
