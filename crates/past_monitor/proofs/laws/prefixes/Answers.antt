use Rattle.past_monitor.proofs.Prefix.{prefix}
use Rattle.past_monitor.proofs.laws.prefixes.Goals as goal

pub returns : goal.returns
returns c f t later i past at = let s = prefix t later f past in (s.to i at, s.back i at)
