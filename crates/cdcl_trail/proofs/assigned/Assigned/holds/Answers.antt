use Rattle.std.proofs.Common.{◌≡◌, ◌↔◌, true, Contains, subst}
use Rattle.cdcl_trail.specs.Trail.{literals_of}
use Rattle.cdcl_trail.specs.Assigned.{AssignedValue}
use Rattle.cdcl_trail.proofs.Bridge.{true_value}
use Rattle.cdcl_trail.proofs.assigned.Assigned.holds.Goals as goal

pub returns : goal.returns
returns c =
    let are = c.self.invariant.0 in
    let l = c.args.literal in
    subst (λ (v : AssignedValue). (c.holds.result ≡ true) ↔ Contains (literals_of v.trail) l) c.self.view_is (
      (λ yes. are.on_trail l (c.holds.ensures.0 yes)),
      (λ there. c.holds.ensures.1 (true_value c.self.inside.values c.self.inside.trail are l there)),
    )
