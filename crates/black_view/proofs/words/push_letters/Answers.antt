use Rattle.std.proofs.Common.{Some, None, arith, rules}
use Rattle.std.proofs.lemmas.Str.Pattern.{split_parts}
use Rattle.black_view.proofs.Reading.{letter_more, letter_last}
use Rattle.black_view.proofs.words.push_letters.Goals as goal

pub loop-letter-preserved : goal.loop-letter-preserved
loop-letter-preserved c =
    let parts = split_parts 44 c.loop-letter.rest.now (Some (c.in-Some.letter, c.in-Some.behind)) c.in-Some.ensures.cases (omega arith) in
    let more =
    letter_more _ c.loop-letter.names.items c.push.new.self.items c.loop-letter.rest.now c.in-Some.letter.now c.in_ok-new.field-0 c.in-Some.behind.now
    c.loop-letter.invariant.1 parts.0 parts.1 c.in_ok-new.ensures c.in_ok-push.ensures.items in
    (search rules, more)

pub returns : goal.returns
returns c =
    let none = split_parts 44 c.loop-letter.rest.now None c.in_default.ensures.cases (omega arith) in
    letter_last _ c.loop-letter.names.items c.push-2.new.self.items c.loop-letter.rest.now c.in_ok-new-2.field-0 c.loop-letter.invariant.1 none
    c.in_ok-new-2.ensures c.in_ok-push-2.ensures.items
