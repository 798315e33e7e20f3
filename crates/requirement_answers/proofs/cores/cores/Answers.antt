use Rattle.std.proofs.Common.{◌≡◌, ◌<◌, List, length, sym, subst}
use Rattle.std.specs.Option.{IfSome}
use Rattle.ltl_syntax.specs.Formula.{Formula}
use Rattle.ltl_syntax.specs.Table.{tree_at}
use Rattle.requirement_questions.specs.Formulas.{all_of}
use Rattle.requirement_questions.specs.Core.{IsCoreOf}
use Rattle.requirement_document.specs.Values.{document_in}
use Rattle.requirement_answers.specs.Inner.{SaysMembers}
use Rattle.requirement_answers.proofs.Told.{is_told, cores_more}
use Rattle.requirement_answers.proofs.cores.cores.Goals as goal

pub core_of-requires : goal.core_of-requires
core_of-requires c =
    let d = document_in c.args.document.now in
    let b = c.index-conflicts-k.result in
    let says : SaysMembers d b = subst (SaysMembers d) (sym c.index-conflicts-k.is) (c.requires c.conflicts.k b c.conflicts-test.true) in
    subst (λ v. v.root < length v.table.nodes) (sym c.deref.ensures) says.there

pub conflicts-preserved : goal.conflicts-preserved
conflicts-preserved c =
    let d = document_in c.args.document.now in
    let b = c.index-conflicts-k.result in
    let core = c.in_ok-core.core in
    let says : SaysMembers d b = subst (SaysMembers d) (sym c.index-conflicts-k.is) (c.requires c.conflicts.k b c.conflicts-test.true) in
    let kind = c.args.document.now.kind in
    let found =
    subst (λ v. IfSome core
    (λ x. (formulas : List Formula) → length formulas ≡ length v.members.items → tree_at v.table v.root ≡ all_of formulas → IsCoreOf kind formulas x.value))
    c.deref.ensures c.in_ok-core.ensures in
    record {
      so_far = cores_more d c.args.conflicts.now c.conflicts.k b c.conflicts.found.items c.push.new.self.items core c.conflicts-test.true c.index-conflicts-k.is
          c.conflicts.invariant.so_far (is_told d b core says found) c.in_ok-push.ensures.items;
    }
