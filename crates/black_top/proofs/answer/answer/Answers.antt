use Rattle.std.proofs.Common.{rules, ◌∙◌, ◌≤◌, [], List, ℕ, length, map, string_bytes, sym, subst, arith}
use Rattle.ltl_io.specs.Outside.{LosesAtMost}
use Rattle.report.specs.declared.fault.Fault.TheVariants as faults
use Rattle.black_top.specs.Answer.{refused}
use Rattle.black_top.specs.Run.{not_taken}
use Rattle.command_words.specs.Words.{row_of}
use Rattle.command_words.specs.Asked.{IsAsked}
use Rattle.black_top.specs.Inner.{Gives}
use Rattle.program_input.proofs.Leaving.{some_left}
use Rattle.black_top.proofs.Leaving.{given_left, given_unread, stops, takes, takes_none, lost_before_fault, reads}
use Rattle.black_top.proofs.answer.answer.Goals as goal

pub returns-in_default-clause-given : goal.returns-in_default-clause-given
returns-in_default-clause-given g c =
    let left = some_left (g.S.Source.rest c.args.source.now) in
    let none = rw c.in_default.is at c.in_ok-asked.ensures in
    (refused faults.Usage, record { bytes = left.0; left = left.1; lawful = not_taken none }, c.in_ok-refusal.ensures)

pub returns-in_default-clause-left : goal.returns-in_default-clause-left
returns-in_default-clause-left g c command asks = let none = rw c.in_default.is at c.in_ok-asked.ensures in absurd (none command asks)

pub returns-in_default-stop-clause-given : goal.returns-in_default-stop-clause-given
returns-in_default-stop-clause-given g c =
    let is : IsAsked (map string_bytes c.args.words.now) c.in-Some.asked = rw c.in-Some.is at c.in_ok-asked.ensures in
    let given = c.in_ok-output.ensures in (
      given.0,
      given_unread (map string_bytes c.args.words.now) (g.S.Source.rest c.args.source.now) c.in-Some.asked [] given.0 is
          (sym c.in_default-stop.ensures) given.1,
      given.2,
    )

pub returns-in_default-stop-clause-left : goal.returns-in_default-stop-clause-left
returns-in_default-stop-clause-left g c command asks =
    let is : IsAsked (map string_bytes c.args.words.now) c.in-Some.asked = rw c.in-Some.is at c.in_ok-asked.ensures in
    takes_none (row_of command).reads (g.S.Source.rest c.args.source.now)
    (stops (map string_bytes c.args.words.now) c.in-Some.asked command is asks ∙ sym c.in_default-stop.ensures)

pub returns-in_err-bytes-clause-unread : goal.returns-in_err-bytes-clause-unread
returns-in_err-bytes-clause-unread g c nothing =
    let is : IsAsked (map string_bytes c.args.words.now) c.in-Some.asked = rw c.in-Some.is at c.in_ok-asked.ensures in
    absurd (reads (map string_bytes c.args.words.now) c.in-Some.asked c.in-Some-stop.most is (sym c.in-Some-stop.ensures) nothing)

pub returns-in_err-shown-clause-unread : goal.returns-in_err-shown-clause-unread
returns-in_err-shown-clause-unread g c nothing =
    let is : IsAsked (map string_bytes c.args.words.now) c.in-Some.asked = rw c.in-Some.is at c.in_ok-asked.ensures in
    absurd (reads (map string_bytes c.args.words.now) c.in-Some.asked c.in-Some-stop.most is (sym c.in-Some-stop.ensures) nothing)

pub returns-clause-unread : goal.returns-clause-unread
returns-clause-unread g c nothing =
    let is : IsAsked (map string_bytes c.args.words.now) c.in-Some.asked = rw c.in-Some.is at c.in_ok-asked.ensures in
    absurd (reads (map string_bytes c.args.words.now) c.in-Some.asked c.in-Some-stop.most is (sym c.in-Some-stop.ensures) nothing)

pub returns-clause-given : goal.returns-clause-given
returns-clause-given g c =
    let rest = g.S.Source.rest c.args.source.now in
    let after = g.S.Source.rest c.read_whole.new.source in
    let text = c.in_ok-bytes.bytes.items in
    let is : IsAsked (map string_bytes c.args.words.now) c.in-Some.asked = rw c.in-Some.is at c.in_ok-asked.ensures in
    let given = c.in_ok-shown.ensures in
    let fits : length text ≤ 18446744073709551615 = omega (arith, c.in_ok-bytes.bytes.ok, c.in_ok-bytes.bytes.small, c.deref.ensures.len) in
    let gives : Gives c.in-Some.asked text given.0 = subst (λ (bytes : List ℕ). Gives c.in-Some.asked bytes given.0) c.deref.ensures.value given.1 in (
      given.0,
      given_left (map string_bytes c.args.words.now) rest after c.in-Some.asked c.in-Some-stop.most text given.0 is (sym c.in-Some-stop.ensures)
          c.in_ok-bytes.ensures.bytes fits gives,
      given.2,
    )

pub returns-clause-left : goal.returns-clause-left
returns-clause-left g c command asks =
    let rest = g.S.Source.rest c.args.source.now in
    let after = g.S.Source.rest c.read_whole.new.source in
    let text = c.in_ok-bytes.bytes.items in
    let is : IsAsked (map string_bytes c.args.words.now) c.in-Some.asked = rw c.in-Some.is at c.in_ok-asked.ensures in
    let fits : length text ≤ 18446744073709551615 = omega (arith, c.in_ok-bytes.bytes.ok, c.in_ok-bytes.bytes.small, c.deref.ensures.len) in
    takes (row_of command).reads c.in-Some-stop.most text rest after (stops (map string_bytes c.args.words.now) c.in-Some.asked command is asks
    ∙ sym c.in-Some-stop.ensures) c.in_ok-bytes.ensures.bytes fits c.in_ok-bytes.ensures.bounded

pub returns-in_err-bytes-clause-before_fault : goal.returns-in_err-bytes-clause-before_fault
returns-in_err-bytes-clause-before_fault g c fault command asks =
    let rest = g.S.Source.rest c.args.source.now in
    let after = g.S.Source.rest c.read_whole.new.source in
    let is : IsAsked (map string_bytes c.args.words.now) c.in-Some.asked = rw c.in-Some.is at c.in_ok-asked.ensures in
    let lost : LosesAtMost c.in-Some-stop.most rest after = search (rules, fault) in
    lost_before_fault (row_of command).reads c.in-Some-stop.most rest after
    (stops (map string_bytes c.args.words.now) c.in-Some.asked command is asks ∙ sym c.in-Some-stop.ensures) lost
