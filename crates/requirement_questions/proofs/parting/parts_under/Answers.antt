use Rattle.std.proofs.Common.{◌∷◌, ◌∙◌, [], ap, arith, length, length-append}
use Rattle.requirement_questions.proofs.Parts.{cut_none, cut_more, cut_end}
use Rattle.requirement_questions.proofs.parting.parts_under.Goals as goal

pub joints-init : goal.joints-init
joints-init c = record {
  cut = cut_none c.args.table.now c.args.root c.new-parts.result.items c.new-parts.ensures.items c.requires.there;
  many = omega (arith, ap length c.new-parts.ensures.items);
}

pub joint-requires : goal.joint-requires
joint-requires c = c.joints.invariant.cut.low

pub joints-preserved : goal.joints-preserved
joints-preserved c =
    let parts = c.joints.parts.items in
    let joint = rw c.in-Some.is at c.joint.ensures in
    let pushed = c.in_ok-push.ensures.items in
    let longer = ap length pushed ∙ length-append parts (c.in-Some.right ∷ []) in
    record {
      cut =
          cut_more c.args.table.now c.args.root c.joints.number c.in-Some.left c.in-Some.right parts c.push.new.self.items c.joints.invariant.cut joint pushed;
      many = omega (arith, longer, c.joints.invariant.many);
    }

pub returns : goal.returns
returns c =
    cut_end c.args.table.now c.args.root c.joints.number c.args.count c.joints.parts.items c.push-2.new.self.items c.reverse.new.self.items
    c.joints.invariant.cut
    (omega (arith, c.joints.invariant.many, c.requires.some)) c.in_ok-push-2.ensures.items c.reverse.ensures.items
