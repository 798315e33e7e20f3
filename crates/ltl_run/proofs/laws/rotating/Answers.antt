use Rattle.ltl_run.proofs.Shorter.{rotating}
use Rattle.ltl_run.proofs.laws.rotating.Goals as goal

pub returns : goal.returns
returns c f k a l i r run closes al li le one = rotating f k r run a i l al li le one closes.one closes.fulfilled
