use Rattle.std.proofs.Common.{◌≡◌, ◌≤◌, ℕ, ◌<◌, length}
use Rattle.cnf_base.specs.Known.{AreKnown}
use Rattle.log_checker.specs.Values.{letters_in}
use Rattle.claims.specs.Between.{greatest}
use Rattle.claims.specs.Certificate.{layer_at}
use Rattle.claims.specs.Lawful.{IsLawfulLayer, clauses_before, lines_before}
use Rattle.claim_check.specs.Data.{certificate_in}
use Rattle.claim_check.proofs.checking.check.Given as goal

abbrev pub invariant-layers : goal.invariant-layers
invariant-layers l =
    (l.j ≤ length l.certificate.layers.items) × (letters_in l.assignment ≡ greatest l.closure.formula) × AreKnown (greatest l.closure.formula) l.lines
    × (l.clauses ≡ clauses_before l.closure.formula (certificate_in l.certificate) l.j) × (l.lines ≡ lines_before (certificate_in l.certificate) l.j)
    × ((i : ℕ) → i < l.j → IsLawfulLayer l.closure.formula l.kind (clauses_before l.closure.formula (certificate_in l.certificate) i)
    (lines_before (certificate_in l.certificate) i) (layer_at (certificate_in l.certificate) i))
