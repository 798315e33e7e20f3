use Rattle.std.proofs.Common.{◌≡◌, ◌+◌, ◌<◌, arith, false, ap, ◌∙◌, length, subst, sym}
use Rattle.log_trim.specs.declared.trimming.KeptLines.{KeptLines}
use Rattle.derivation.specs.Steps.{lines_by}
use Rattle.log_trim.specs.Kept.{AreNumbers, trimmed_to}
use Rattle.log_trim.specs.Marking.{marked}
use Rattle.log_trim.proofs.Steps.{read_at, push_on, pass_on, table_step}
use Rattle.log_trim.proofs.trimming.keep_line.Goals as goal
use Rattle.log_trim.proofs.trimming.keep_line.Goals.{then-index+in_ok-hints+in_ok-push+in_ok-push-2, else-index}

pub returns : goal.returns
returns c =
    let log = c.args.log.now in
    let flags = c.args.flags.now.items in
    let k = c.args.index in
    let lt : k < length flags = omega (arith, c.requires.long, c.requires.line) in
    let kept = c.if-index.kept in
    let lines : lines_by kept.lines kept.hints ≡ trimmed_to (marked flags) log (k + 1) = elim c.if-index.branch [
      | then-index+in_ok-hints+in_ok-push+in_ok-push-2 w ↦
          push_on log flags k c.invariant.ensures c.requires.line c.args.kept.now.lines kept.lines c.args.kept.now.hints kept.hints w.literals.result.now
          w.deref.result.now w.in_ok-hints.hints.items
          (read_at flags k c.index.result.now false lt c.index.ensures ∙ w.if-index.true)
          c.requires.kept.lines_are w.literals.ensures w.deref.ensures.value w.in_ok-hints.ensures
          (ap (λ (x : KeptLines). x.lines) w.kept-is ∙ w.in_ok-push.ensures) (ap (λ (x : KeptLines). x.hints) w.kept-is ∙ w.in_ok-push-2.ensures)
      | else-index w ↦
          subst (λ (x : KeptLines). lines_by x.lines x.hints ≡ trimmed_to (marked flags) log (k + 1)) (sym w.kept-is)
          (pass_on log flags k c.invariant.ensures c.requires.line c.args.kept.now.lines c.args.kept.now.hints
          (read_at flags k c.index.result.now false lt c.index.ensures ∙ w.if-index.false) c.requires.kept.lines_are)
    ] in
    let same : kept.table.items ≡ c.args.kept.now.table.items = elim c.if-index.branch [
      | then-index+in_ok-hints+in_ok-push+in_ok-push-2 w ↦ ap (λ (x : KeptLines). x.table.items) w.kept-is
      | else-index w ↦ ap (λ (x : KeptLines). x.table.items) w.kept-is
    ] in
    record {
      lines_are = lines;
      numbers = table_step log flags k c.invariant.ensures c.requires.line kept.lines kept.hints c.len.result kept.table.items c.push-2.new.self.items
          (subst (AreNumbers (marked flags) log.lines k) (sym same) c.requires.kept.numbers) lines c.len.ensures c.in_ok-push-3.ensures.items;
    }
