use Rattle.std.proofs.Common.{◌==◌, ap, sym, ◌∙◌}
use Rattle.claim_text.proofs.Hinted.{hinted_length}
use Rattle.claim_text.proofs.scanning.has_no_lines.Goals as goal

pub returns : goal.returns
returns c = let l = c.args.draft.now.lines in ap (λ n. n == 0) (c.count.ensures ∙ sym (hinted_length l.literals l.hints))
