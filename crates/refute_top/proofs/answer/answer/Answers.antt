use Rattle.std.proofs.Common.{rules, ◌≤◌, ◌∙◌, List, ℕ, length, map, string_bytes, sym, subst, arith}
use Rattle.ltl_io.specs.Outside.{TakesWhole, LosesAtMost}
use Rattle.command_words.specs.Refutation.{IsRefutationAsked}
use Rattle.program_input.proofs.Leaving.{some_left}
use Rattle.refute_top.specs.Answer.{usage}
use Rattle.refute_top.specs.Run.{not_taken}
use Rattle.refute_top.specs.Inner.{Gives}
use Rattle.refute_top.proofs.Leaving.{given_left, stops, takes, most_lost, lost_before_fault, asks_some}
use Rattle.refute_top.proofs.answer.answer.Goals as goal

pub returns-in_default-clause-given : goal.returns-in_default-clause-given
returns-in_default-clause-given g c =
    let left = some_left (g.S.Source.rest c.args.source.now) in
    let none = rw c.in_default.is at c.in_ok-asked.ensures in
    (usage, record { bytes = left.0; left = left.1; lawful = not_taken none }, c.in_ok-usage.ensures)

pub returns-in_default-clause-left : goal.returns-in_default-clause-left
returns-in_default-clause-left g c asked asks = let none = rw c.in_default.is at c.in_ok-asked.ensures in absurd (none asked asks)

pub returns-in_err-bytes-clause-unread : goal.returns-in_err-bytes-clause-unread
returns-in_err-bytes-clause-unread g c nothing =
    let is : IsRefutationAsked (map string_bytes c.args.words.now) c.in-Some.asked = rw c.in-Some.is at c.in_ok-asked.ensures in
    absurd (asks_some (map string_bytes c.args.words.now) c.in-Some.asked is nothing)

pub returns-in_err-shown-clause-unread : goal.returns-in_err-shown-clause-unread
returns-in_err-shown-clause-unread g c nothing =
    let is : IsRefutationAsked (map string_bytes c.args.words.now) c.in-Some.asked = rw c.in-Some.is at c.in_ok-asked.ensures in
    absurd (asks_some (map string_bytes c.args.words.now) c.in-Some.asked is nothing)

pub returns-clause-unread : goal.returns-clause-unread
returns-clause-unread g c nothing =
    let is : IsRefutationAsked (map string_bytes c.args.words.now) c.in-Some.asked = rw c.in-Some.is at c.in_ok-asked.ensures in
    absurd (asks_some (map string_bytes c.args.words.now) c.in-Some.asked is nothing)

pub returns-in_err-bytes-clause-most : goal.returns-in_err-bytes-clause-most
returns-in_err-bytes-clause-most g c asked asks =
    let is : IsRefutationAsked (map string_bytes c.args.words.now) c.in-Some.asked = rw c.in-Some.is at c.in_ok-asked.ensures in
    let stop = stops c.one_refutation.ensures (map string_bytes c.args.words.now) c.in-Some.asked asked is asks ∙ sym c.stop_after.ensures in
    most_lost asked c.stop_after.result (g.S.Source.rest c.args.source.now) (g.S.Source.rest c.read_whole.new.source) stop c.read_whole.ensures.left

pub returns-in_err-shown-clause-most : goal.returns-in_err-shown-clause-most
returns-in_err-shown-clause-most g c asked asks =
    let is : IsRefutationAsked (map string_bytes c.args.words.now) c.in-Some.asked = rw c.in-Some.is at c.in_ok-asked.ensures in
    let stop = stops c.one_refutation.ensures (map string_bytes c.args.words.now) c.in-Some.asked asked is asks ∙ sym c.stop_after.ensures in
    most_lost asked c.stop_after.result (g.S.Source.rest c.args.source.now) (g.S.Source.rest c.read_whole.new.source) stop c.read_whole.ensures.left

pub returns-clause-most : goal.returns-clause-most
returns-clause-most g c asked asks =
    let is : IsRefutationAsked (map string_bytes c.args.words.now) c.in-Some.asked = rw c.in-Some.is at c.in_ok-asked.ensures in
    let stop = stops c.one_refutation.ensures (map string_bytes c.args.words.now) c.in-Some.asked asked is asks ∙ sym c.stop_after.ensures in
    most_lost asked c.stop_after.result (g.S.Source.rest c.args.source.now) (g.S.Source.rest c.read_whole.new.source) stop c.read_whole.ensures.left

pub returns-in_err-bytes-clause-before_fault : goal.returns-in_err-bytes-clause-before_fault
returns-in_err-bytes-clause-before_fault g c fault asked asks =
    let rest = g.S.Source.rest c.args.source.now in
    let after = g.S.Source.rest c.read_whole.new.source in
    let is : IsRefutationAsked (map string_bytes c.args.words.now) c.in-Some.asked = rw c.in-Some.is at c.in_ok-asked.ensures in
    let stop = stops c.one_refutation.ensures (map string_bytes c.args.words.now) c.in-Some.asked asked is asks ∙ sym c.stop_after.ensures in
    let lost : LosesAtMost c.stop_after.result rest after = search (rules, fault) in
    lost_before_fault asked c.stop_after.result rest after stop lost

pub returns-clause-given : goal.returns-clause-given
returns-clause-given g c =
    let what = c.in-Some.asked in
    let rest = g.S.Source.rest c.args.source.now in
    let after = g.S.Source.rest c.read_whole.new.source in
    let text = c.in_ok-bytes.bytes.items in
    let is : IsRefutationAsked (map string_bytes c.args.words.now) what = rw c.in-Some.is at c.in_ok-asked.ensures in
    let given = c.in_ok-shown.ensures.gives in
    let fits : length text ≤ 18446744073709551615 = omega (arith, c.in_ok-bytes.bytes.ok, c.in_ok-bytes.bytes.small, c.deref.ensures.len) in
    let read = subst (λ n. TakesWhole n text rest after) c.stop_after.ensures c.in_ok-bytes.ensures.bytes in
    let gives : Gives what text given.0 = subst (λ (bytes : List ℕ). Gives what bytes given.0) c.deref.ensures.value given.1 in
    (given.0, given_left (map string_bytes c.args.words.now) rest after what text given.0 is read fits gives, given.2)

pub returns-clause-left : goal.returns-clause-left
returns-clause-left g c asked asks =
    let rest = g.S.Source.rest c.args.source.now in
    let after = g.S.Source.rest c.read_whole.new.source in
    let text = c.in_ok-bytes.bytes.items in
    let is : IsRefutationAsked (map string_bytes c.args.words.now) c.in-Some.asked = rw c.in-Some.is at c.in_ok-asked.ensures in
    let fits : length text ≤ 18446744073709551615 = omega (arith, c.in_ok-bytes.bytes.ok, c.in_ok-bytes.bytes.small, c.deref.ensures.len) in
    let stop = stops c.one_refutation.ensures (map string_bytes c.args.words.now) c.in-Some.asked asked is asks ∙ sym c.stop_after.ensures in
    takes asked c.stop_after.result text rest after stop c.in_ok-bytes.ensures.bytes fits c.in_ok-bytes.ensures.bounded
