use Rattle.std.proofs.Common.{suc, IfSome, Contains, map, ap, subst, arith}
use Rattle.cdcl_trail.specs.Entries.{hint_of}
use Rattle.cdcl_watches.specs.Heads.{number_of}
use Rattle.cdcl_watches.proofs.HeadNumbers.{number_low}
use Rattle.cdcl_state.proofs.Copying.{count_at, count_head, first_head}
use Rattle.cdcl_state.proofs.Gathering.{there_none, there_more}
use Rattle.cdcl_state.proofs.gather.mark_watched.Goals as goal

pub heads-init : goal.heads-init
heads-init c =
    let arena = c.args.arena.now in
    record {
      head = (count_head arena.heads 0 c.first-next.result c.invariant.ensures.apart (first_head arena.heads c.first-next.result c.first-next.ensures)).0;
      marked = there_none (map hint_of arena.names) c.args.there.now.items c.requires;
    }

pub heads-preserved : goal.heads-preserved
heads-preserved c =
    let arena = c.args.arena.now in
    let head = c.in-Some.head in
    let n = number_of arena.heads head in
    let low = number_low arena.heads head (subst (λ o. IfSome o (Contains arena.heads)) c.in-Some.is c.heads.invariant.head) in
    record {
      head = (count_head arena.heads (suc n) c.after-next.result c.invariant.ensures.apart c.after-next.ensures).0;
      marked = there_more arena.names c.heads.there.items c.mark.new.there.items n c.name-name.result c.heads.invariant.marked
          (omega (arith, low.0, c.invariant.ensures.paired, c.invariant.ensures.named)) c.name-name.ensures c.mark.ensures;
    }

pub heads-smaller : goal.heads-smaller
heads-smaller c =
    let arena = c.args.arena.now in
    let head = c.in-Some.head in
    let at = count_head arena.heads (suc (number_of arena.heads head)) c.after-next.result c.invariant.ensures.apart c.after-next.ensures in
    let low = number_low arena.heads head (subst (λ o. IfSome o (Contains arena.heads)) c.in-Some.is c.heads.invariant.head) in
    omega (arith, at.1, low.0, ap (count_at arena.heads) c.in-Some.is)
