use Rattle.ltl_syntax.specs.Print.{text_of}
use Rattle.ltl_parser.proofs.Printing.{printed_reads}
use Rattle.ltl_parser.proofs.Readings.{one_text_reading, read_is_printable}
use Rattle.ltl_parser.proofs.laws.printed_text.Goals as goal

pub returns-clause-reads : goal.returns-clause-reads
returns-clause-reads c = printed_reads

pub returns-clause-only : goal.returns-clause-only
returns-clause-only c f g p r = one_text_reading (text_of f) f g (printed_reads f p) r

pub returns-clause-printable : goal.returns-clause-printable
returns-clause-printable c = read_is_printable
