-- A letter that is made ready to be compared, apart from how it is stored.
use Rattle.std.specs.Prelude.{string_bytes}
use Rattle.requirement_report.specs.declared.known.Known.{Known}
use Rattle.requirement_report.specs.Slips.{KnownValue}

abbrev pub known_in : Known → KnownValue
known_in k = record { letter = string_bytes k.letter; count = k.count }
