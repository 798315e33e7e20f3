use Rattle.std.proofs.Common.{◌≡◌, ◌++◌}
use Rattle.ltl_syntax.specs.Print.{text_of}
use Rattle.claims.specs.Between.{width}
use Rattle.claim_reading.specs.Readable.{entry_formula}
use Rattle.claim_reading.specs.Stack.{works_text, works_size, AreWorks}
use Rattle.claim_reading.proofs.printing.push_entry.Given as goal

abbrev pub invariant-loop-work : goal.invariant-loop-work
invariant-loop-work l = record {
  text : l.out.items ++ works_text l.closure.formula l.stack.items ≡ l.fn.out.items ++ text_of (entry_formula l.closure.formula l.number);
  works : AreWorks (width l.closure.formula) l.stack.items;
}

abbrev pub decreases-loop-work : goal.decreases-loop-work
decreases-loop-work l = works_size l.closure.formula l.stack.items
