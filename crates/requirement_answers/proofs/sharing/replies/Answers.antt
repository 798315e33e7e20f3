use Rattle.std.proofs.Common.{◌≡◌, ◌+◌, ◌-◌, ◌≤◌, [], take, drop, length, sym, ap, subst, arith}
use Rattle.requirement_document.specs.Values.{document_in}
use Rattle.requirement_answers.specs.Inner.{AreReplies}
use Rattle.requirement_answers.proofs.Shared.{about_part, no_replies, round_more, all_rounds}
use Rattle.requirement_answers.proofs.sharing.replies.Goals as goal

pub rounds-init : goal.rounds-init
rounds-init g c =
    let d = document_in c.args.document.now in
    let left = c.args.left.now in
    record { so_far = subst (AreReplies d left []) (sym c.in_ok-found.ensures.items) (no_replies d left c.args.asks.now) }

pub round-requires-clause-about : goal.round-requires-clause-about
round-requires-clause-about g c κs within =
    let from = c.rounds.from in
    about_part (document_in c.args.document.now) from ((from + c.min-many.result) - from) c.args.asks.now c.requires.about

pub rounds-preserved : goal.rounds-preserved
rounds-preserved g c =
    let d = document_in c.args.document.now in
    let asks = c.args.asks.now in
    let from = c.rounds.from in
    let many = c.min-many.result in
    let same : (from + many) - from ≡ many = omega arith in
    record {
      so_far = round_more d c.args.left.now asks (take ((from + many) - from) (drop from asks)) from many c.rounds.found.items
          c.in_ok-answered.answered.items c.append.new.self.items c.rounds.invariant.so_far (ap (λ n. take n (drop from asks)) same)
          c.in_ok-answered.ensures c.in_ok-append.ensures.items;
    }

pub returns : goal.returns
returns g c =
    let d = document_in c.args.document.now in
    let asks = c.args.asks.now in
    let all : length asks ≤ c.rounds.from = omega (arith, c.rounds-test.false) in
    all_rounds d c.args.left.now asks c.rounds.from c.rounds.found.items all c.rounds.invariant.so_far
