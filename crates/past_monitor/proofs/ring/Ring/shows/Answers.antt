use Rattle.past_monitor.proofs.Rings.{shown}
use Rattle.past_monitor.proofs.ring.Ring.shows.Goals as goal

pub returns : goal.returns
returns c =
    shown c.self.inside.room c.self.inside.first c.self.inside.sought c.self.inside.found c.self.inside.values.items _ c.self.invariant c.args.self.now
    c.self.view_is c.args.present
    c.counted.result c.counted.ensures
