use Rattle.std.proofs.Common.{◌≡◌, ◌+◌, ◌∙◌, ap, sym, subst, length}
use Rattle.enc_layout.specs.Clauses.{clause_list}
use Rattle.clause_index.specs.Counts.{before_step}
use Rattle.clause_index.proofs.Listing.{list_long}
use Rattle.clause_index.proofs.indexed.IndexedClauses.count.Goals as goal

pub returns : goal.returns
returns c =
    subst (λ v. c.before-2.result ≡ length (clause_list v.formula v.kind v.depth)) c.self.view_is
    (c.before-2.ensures.size
    ∙ (ap (λ s. before_step s.kind s (c.self.inside.depth + 1)) c.self.invariant.sizes_are
    ∙ sym (list_long c.self.inside.closure.now.formula c.self.inside.closure.now.kind c.self.inside.depth)))
