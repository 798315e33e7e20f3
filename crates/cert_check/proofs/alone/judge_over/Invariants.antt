use Rattle.std.proofs.Common.{◌≡◌, ◌+◌}
use Rattle.enc_layout.specs.Letters.{letters_through}
use Rattle.enc_layout.specs.Clauses.{counts, clause_list}
use Rattle.cert_text.specs.Reading.{certificate_in}
use Rattle.cert_check.proofs.Walking.{IsWalked}
use Rattle.cert_check.proofs.alone.judge_over.Given as goal

abbrev pub invariant-items : goal.invariant-items
invariant-items g l = record {
  walked : IsWalked (clause_list l.closure.formula l.closure.kind l.form.depth) (letters_through l.closure.kind (counts l.closure.formula) l.form.depth)
      (certificate_in l.bytes) l.item-iterator l.checker;
  line : l.left + l.checker.lines ≡ l.form.lines;
}
