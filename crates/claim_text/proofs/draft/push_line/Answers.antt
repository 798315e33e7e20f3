use Rattle.claim_text.proofs.Hinted.{line_pushed}
use Rattle.claim_text.proofs.draft.push_line.Goals as goal

pub returns : goal.returns
returns c = line_pushed _ _ _ _ _ _ c.in_ok-push_clause.ensures c.in_ok-push.ensures c.requires
