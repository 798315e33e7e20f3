use Rattle.std.proofs.Common.{◌≡◌, ◌+◌, ◌*◌, subst, arith}
use Rattle.std.specs.Prelude.{slice_get, Some}
use Rattle.clause_index.specs.Runs.{plain}
use Rattle.clause_index.proofs.Evenly.{evenly_place, evenly_letter, evenly_at}
use Rattle.clause_index.proofs.run.Run.literal.Goals as goal

pub overflow_mul-result : goal.overflow_mul-result
overflow_mul-result c =
    let lt = evenly_place c.self.inside.first c.self.inside.apart c.self.inside.count c.args.self.now c.args.place c.self.view_is c.requires in
    omega (arith, evenly_letter c.self.inside.first c.self.inside.apart c.self.inside.count c.args.place lt c.self.invariant.1)

pub overflow_add-result : goal.overflow_add-result
overflow_add-result c =
    let lt = evenly_place c.self.inside.first c.self.inside.apart c.self.inside.count c.args.self.now c.args.place c.self.view_is c.requires in
    omega (arith, evenly_letter c.self.inside.first c.self.inside.apart c.self.inside.count c.args.place lt c.self.invariant.1)

pub returns : goal.returns
returns c =
    let lt = evenly_place c.self.inside.first c.self.inside.apart c.self.inside.count c.args.self.now c.args.place c.self.view_is c.requires in
    subst (λ s. slice_get s c.args.place ≡ Some (plain (c.self.inside.first + c.args.place * c.self.inside.apart))) c.self.view_is
    (evenly_at c.self.inside.first c.self.inside.apart c.self.inside.count c.args.place lt)
