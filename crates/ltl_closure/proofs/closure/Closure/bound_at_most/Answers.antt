use Rattle.std.proofs.Common.{◌≡◌, length, ◌∙◌, ap, arith}
use Rattle.std.proofs.lemmas.List.{length-map}
use Rattle.ltl_syntax.specs.Table.{tree_at}
use Rattle.ltl_closure.specs.Closure.{closure, nexts, yesterdays}
use Rattle.ltl_closure.specs.Entries.{place_in}
use Rattle.ltl_closure.proofs.Bounds.{bound_large}
use Rattle.ltl_closure.proofs.closure.Closure.bound_at_most.Goals as goal

pub returns-then-requests-ge10 : goal.returns-then-requests-ge10
returns-then-requests-ge10 c =
    let f = tree_at c.self.inside.table.now c.self.inside.node in
    let x : length c.self.inside.nexts.items ≡ length (nexts f) = ap length c.self.invariant.nexts ∙ length-map (nexts f) (place_in (closure f)) in
    let y : length c.self.inside.yesterdays.items ≡ length (yesterdays f) =
    ap length c.self.invariant.yesterdays ∙ length-map (yesterdays f) (place_in (closure f)) in
    rw (← c.self.view_is) (λ t. absurd (cc), λ le. absurd (bound_large f c.self.inside.kind c.args.limit (omega arith) c.requires le))
