use Rattle.std.proofs.Common.{length, refl, sym, subst, arith}
use Rattle.std.proofs.lemmas.Option.{slice_get_read, slice_get_within}
use Rattle.requirement_certificate.specs.Chosen.{IsCannot, IsOther}
use Rattle.requirement_certificate.proofs.First.{before_more, other_than}
use Rattle.requirement_certificate.proofs.choosing.first_reply.Goals as goal

pub returns-in-Cannot : goal.returns-in-Cannot
returns-in-Cannot c =
    let replies = c.args.report.now.replies.items in
    let reply = c.index.result.now in (
      reply.asking,
      record {
        place = c.replies.place;
        reply = reply;
        there =
            slice_get_read replies (length replies) c.replies.place reply refl (omega (arith, c.len-place-end.ensures, c.replies-test.true)) c.index.ensures;
        question = refl;
        cannot = subst (λ a. IsCannot a c.deref.result.now) (sym c.in-Cannot.is) (sym c.deref.ensures);
        first = c.replies.invariant.before;
      },
    )

pub replies-preserved : goal.replies-preserved
replies-preserved c =
    let replies = c.args.report.now.replies.items in
    let reply = c.index.result.now in
    let there = slice_get_read replies (length replies) c.replies.place reply refl (omega (arith, c.len-place-end.ensures, c.replies-test.true))
    c.index.ensures in
    record {
      before =
          before_more (λ p. IsOther p.answer) replies c.replies.place reply there (other_than reply.answer c.in_default.not-Cannot) c.replies.invariant.before;
    }

pub returns : goal.returns
returns c j reply there =
    c.replies.invariant.before j reply
    (omega (arith, slice_get_within c.args.report.now.replies.items j reply there, c.len-place-end.ensures, c.replies-test.false)) there
