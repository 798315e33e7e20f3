use Rattle.std.proofs.Common.{◌≡◌, [], ◌++◌, map, drop}
use Rattle.serde_json.specs.View.{view}
use Rattle.requirement_json.specs.Because.{claim_data, lines_behind}
use Rattle.requirement_json.proofs.because.claims_value.Given as goal

abbrev pub invariant-loop-byte : goal.invariant-loop-byte
invariant-loop-byte l =
    map view l.claims.items ++ map claim_data (lines_behind l.line.items (drop l.byte-index l.nevers))
    ≡ map claim_data (lines_behind [] l.nevers)
