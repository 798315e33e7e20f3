use Rattle.requirement_questions.proofs.Parts.{is_joint}
use Rattle.requirement_questions.proofs.parting.joint.Goals as goal

pub returns : goal.returns
returns c =
    is_joint c.args.table.now c.args.number c.requires c.node.result c.and_children.result c.node.ensures.tree c.node.ensures.below c.and_children.ensures
