use Rattle.std.proofs.Common.{◌<◌, length, get_or, sym, ap, ◌∙◌, subst}
use Rattle.cdcl_watches.specs.Watching.{literal_of, blank}
use Rattle.cdcl_watches.proofs.Turned.{turned_map_at}
use Rattle.cdcl_watches.proofs.clause.Clause.get.Goals as goal

pub returns : goal.returns
returns c =
    c.decode.ensures
    ∙ turned_map_at literal_of c.self.inside.codes.now c.args.place c.place_of-place.result 0 blank
    (subst (λ ls. c.args.place < length ls) (sym c.self.view_is) c.requires) c.place_of-place.ensures
    ∙ ap (λ ls. get_or ls c.args.place blank) c.self.view_is
