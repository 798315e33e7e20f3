use Rattle.std.proofs.Common.{suc, IfSome, Contains, refl, sym, ap, ◌∙◌, subst, arith}
use Rattle.cdcl_watches.specs.Heads.{number_of}
use Rattle.cdcl_watches.proofs.HeadNumbers.{number_low}
use Rattle.cdcl_state.specs.Gathered.{IsCopied}
use Rattle.cdcl_state.proofs.Copying.{copied_none, count_at, count_head, first_head}
use Rattle.cdcl_state.proofs.copy.copy.Goals as goal

pub heads-init : goal.heads-init
heads-init c =
    let old = c.args.old.now in
    let at = count_head old.heads 0 c.first-next.result c.invariant.ensures.apart (first_head old.heads c.first-next.result c.first-next.ensures) in
    record {
      head = at.0;
      lists = refl;
      copied = subst (λ n. IsCopied old.clauses old.names n c.args.watches.now) (sym at.1)
          (copied_none old.clauses old.names c.args.watches.now c.requires.clauses c.requires.names);
    }

pub heads-preserved : goal.heads-preserved
heads-preserved c =
    let old = c.args.old.now in
    let head = c.in-Some.head in
    let at = count_head old.heads (suc (number_of old.heads head)) c.after-next.result c.invariant.ensures.apart c.after-next.ensures in
    record {
      head = at.0;
      lists = c.in_ok-copy_clause.ensures.lists ∙ c.heads.invariant.lists;
      copied = subst (λ n. IsCopied old.clauses old.names n c.copy_clause.new.watches) (sym at.1) c.in_ok-copy_clause.ensures.copied;
    }

pub heads-smaller : goal.heads-smaller
heads-smaller c =
    let old = c.args.old.now in
    let head = c.in-Some.head in
    let at = count_head old.heads (suc (number_of old.heads head)) c.after-next.result c.invariant.ensures.apart c.after-next.ensures in
    let low = number_low old.heads head (subst (λ o. IfSome o (Contains old.heads)) c.in-Some.is c.heads.invariant.head) in
    omega (arith, at.1, low.0, ap (count_at old.heads) c.in-Some.is)
