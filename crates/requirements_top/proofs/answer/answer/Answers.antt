use Rattle.std.proofs.Common.{map, string_bytes}
use Rattle.report.specs.declared.status.Status.TheVariants as statuses
use Rattle.requirements_top.specs.Words.{Help, Of, Asks, AskNothing}
use Rattle.requirements_top.specs.Texts.{usage_text, help_text}
use Rattle.requirements_top.specs.Answer.{not_taken, helped}
use Rattle.requirements_top.specs.Said.{query_of}
use Rattle.requirements_top.proofs.Leaving.{given_unread, given_words, help_alone}
use Rattle.requirements_top.proofs.Wording.{fit_asked}
use Rattle.requirements_top.proofs.answer.answer.Goals as goal

pub returns-in_ok-usage-in-None-clause-given : goal.returns-in_ok-usage-in-None-clause-given
returns-in_ok-usage-in-None-clause-given g c =
    let words = map string_bytes c.args.words.now in
    let none : AskNothing words = rw c.in-None.is at c.in_ok-asked_for.ensures in
    given_unread words (g.S.Source.rest c.args.source.now) statuses.Usage usage_text c.in_ok-usage-in-None.field-0 (λ bytes. not_taken none)
    c.in_ok-usage-in-None.ensures

pub returns-in_ok-usage-in-None-clause-left : goal.returns-in_ok-usage-in-None-clause-left
returns-in_ok-usage-in-None-clause-left g c query asks =
    let none : AskNothing (map string_bytes c.args.words.now) = rw c.in-None.is at c.in_ok-asked_for.ensures in
    absurd (none (Of query) asks)

pub returns-in_ok-help-in-Some-Help-clause-given : goal.returns-in_ok-help-in-Some-Help-clause-given
returns-in_ok-help-in-Some-Help-clause-given g c =
    let words = map string_bytes c.args.words.now in
    let asks : Asks words Help = rw (c.in-Some-Help.is, c.in-Some-Help.field-0-is) at c.in_ok-asked_for.ensures in
    given_unread words (g.S.Source.rest c.args.source.now) statuses.Good help_text c.in_ok-help-in-Some-Help.field-0 (λ bytes. helped asks)
    c.in_ok-help-in-Some-Help.ensures

pub returns-in_ok-help-in-Some-Help-clause-left : goal.returns-in_ok-help-in-Some-Help-clause-left
returns-in_ok-help-in-Some-Help-clause-left g c query of =
    let words = map string_bytes c.args.words.now in
    let asks : Asks words Help = rw (c.in-Some-Help.is, c.in-Some-Help.field-0-is) at c.in_ok-asked_for.ensures in
    absurd (help_alone words query asks of)

pub read_and_answer-requires-clause-fit : goal.read_and_answer-requires-clause-fit
read_and_answer-requires-clause-fit g c κs lives =
    let words = map string_bytes c.args.words.now in
    let asks : Asks words (Of (query_of c.in-Some-Of.query)) = rw (c.in-Some-Of.is, c.in-Some-Of.field-0-is) at c.in_ok-asked_for.ensures in
    fit_asked words c.in-Some-Of.query asks

pub returns-in-Some-Of-clause-silent : goal.returns-in-Some-Of-clause-silent
returns-in-Some-Of-clause-silent g c quiet =
    let words = map string_bytes c.args.words.now in
    let query = query_of c.in-Some-Of.query in
    let asks : Asks words (Of query) = rw (c.in-Some-Of.is, c.in-Some-Of.field-0-is) at c.in_ok-asked_for.ensures in
    c.read_and_answer.ensures.silent (quiet query asks)

pub returns-in-Some-Of-clause-given : goal.returns-in-Some-Of-clause-given
returns-in-Some-Of-clause-given g c =
    let words = map string_bytes c.args.words.now in
    let query = query_of c.in-Some-Of.query in
    let asks : Asks words (Of query) = rw (c.in-Some-Of.is, c.in-Some-Of.field-0-is) at c.in_ok-asked_for.ensures in
    given_words words query (g.S.Source.rest c.args.source.now) c.read_and_answer.result asks c.read_and_answer.ensures.given

pub returns-in-Some-Of-clause-unread : goal.returns-in-Some-Of-clause-unread
returns-in-Some-Of-clause-unread g c nothing =
    let words = map string_bytes c.args.words.now in
    let query = query_of c.in-Some-Of.query in
    let asks : Asks words (Of query) = rw (c.in-Some-Of.is, c.in-Some-Of.field-0-is) at c.in_ok-asked_for.ensures in
    absurd (nothing query asks)
