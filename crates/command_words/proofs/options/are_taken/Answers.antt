use Rattle.std.proofs.Common.{◌≢◌, ◌∙◌, [], map, string_bytes, sym}
use Rattle.command_words.specs.Table.{offers_of}
use Rattle.command_words.proofs.Saying.{said_at_first, none_behind, repeated_behind, other_behind, said_next, some_words}
use Rattle.command_words.proofs.options.are_taken.Goals as goal
use Rattle.command_words.proofs.options.are_taken.Goals.{then-not-offers_option-via-then-not-offers_option}
use Rattle.command_words.proofs.options.are_taken.Goals.{then-not-offers_option-via-else-not-offers_option+then-is_seen}

pub words-init : goal.words-init
words-init c = said_at_first (offers_of c.args.offering) (map string_bytes c.args.words.now)

pub returns-in_default : goal.returns-in_default
returns-in_default c =
    let some : map string_bytes c.words.rest.now ≢ [] = some_words string_bytes c.words.rest.now c.is_empty.result c.is_empty.ensures c.words-test.true in
    none_behind (offers_of c.args.offering) (map string_bytes c.args.words.now) (map string_bytes c.words.rest.now)
    c.words.seen c.words.invariant some c.in_default.ensures

pub returns-then-not-offers_option : goal.returns-then-not-offers_option
returns-then-not-offers_option c = elim c.then-not-offers_option.branch [
  | then-not-offers_option-via-then-not-offers_option w ↦
      other_behind (offers_of c.args.offering) (map string_bytes c.args.words.now) (map string_bytes c.words.rest.now)
      (map string_bytes c.in-Some.behind.now) c.words.seen c.in-Some.option c.words.invariant c.in-Some.ensures
      (sym c.offers_option.ensures ∙ w.if-not-offers_option.true)
  | then-not-offers_option-via-else-not-offers_option+then-is_seen w ↦
      repeated_behind (offers_of c.args.offering) (map string_bytes c.args.words.now) (map string_bytes c.words.rest.now)
      (map string_bytes c.in-Some.behind.now) c.words.seen c.in-Some.option c.words.invariant c.in-Some.ensures (sym w.is_seen.ensures ∙ w.if-is_seen.true)
]

pub words-preserved : goal.words-preserved
words-preserved c =
    rw c.with_seen-seen.ensures (said_next (offers_of c.args.offering) (map string_bytes c.args.words.now) (map string_bytes c.words.rest.now)
    (map string_bytes c.in-Some.behind.now) c.words.seen
    c.in-Some.option c.words.invariant c.in-Some.ensures (sym c.offers_option.ensures ∙ c.if-not-offers_option.false)
    (sym c.is_seen.ensures ∙ c.if-is_seen.false))
