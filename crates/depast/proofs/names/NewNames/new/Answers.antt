use Rattle.std.proofs.Common.{◌∙◌, ◌∷◌, ◌++◌, [], ap, arith}
use Rattle.depast.proofs.Prefixes.{one_more, last_one}
use Rattle.depast.proofs.names.NewNames.new.Goals as goal

pub loop-preserved : goal.loop-preserved
loop-preserved c = c.in_ok-push_str.ensures.bytes ∙ (ap (λ xs. xs ++ 95 ∷ []) c.loop.invariant ∙ one_more c.loop.counter)

pub invariant_of-result : goal.invariant_of-result
invariant_of-result c =
    record { begins = c.in_ok-push_str-2.ensures.bytes ∙ (ap (λ xs. xs ++ 95 ∷ 112 ∷ []) c.loop.invariant ∙ last_one c.loop.counter c.args.most (omega arith)) }
