use Rattle.std.proofs.Common.{refl}
use Rattle.core_extract.proofs.Cores.{tableau_exclusive}
use Rattle.core_extract.proofs.testing.is_refuted.Goals as goal

pub returns-in-Closed : goal.returns-in-Closed
returns-in-Closed c = let told = rw c.in-Closed.is at c.in_ok-found.ensures in (λ e. told, λ h. refl)

pub returns-in-Open : goal.returns-in-Open
returns-in-Open c =
    let told = rw c.in-Open.is at c.in_ok-found.ensures in
    (λ e. cc, λ h. absurd (tableau_exclusive _ _ _ h told))
