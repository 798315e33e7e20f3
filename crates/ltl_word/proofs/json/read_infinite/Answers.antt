use Rattle.std.proofs.Common.{◌≡◌, [], ap, sym, ◌∙◌, codes, true≢false}
use Rattle.ltl_word.specs.declared.trace.Trace.TheVariants.{Infinite}
use Rattle.ltl_word.specs.Json.{states_data}
use Rattle.ltl_word.proofs.Parts.{key_is, infinite_value, sets_of_none, sets_of_some}
use Rattle.ltl_word.proofs.json.read_infinite.Goals as goal

pub returns-then-is_empty : goal.returns-then-is_empty
returns-then-is_empty c =
    let read = c.in_ok-loop_part.ensures in
    let read' = c.in_ok-stem.ensures in
    let none : read.0 ≡ [] = sets_of_none read.0 c.in_ok-loop_part.loop_part read.2 (c.is_empty.ensures.0 c.if-is_empty.true) in (
      read'.0,
      infinite_value c.args.members c.next.new.self c.next-2.new.self c.in-Some-Some-None.loop_key.now c.in-Some-Some-None.stem_key.now
          c.in-Some-Some-None.loop_part.now c.in-Some-Some-None.stem.now [] read'.0
          c.in-Some-Some-None.ensures.steps c.in-Some-Some-None.ensures'.steps c.in-Some-Some-None.ensures''.steps.0
          (sym c.as_str.ensures.value ∙ key_is c.as_str.result.now (codes "loop") c.if-ne.ensures)
          (sym c.as_str-else-ne.ensures.value ∙ key_is c.as_str-else-ne.result.now (codes "stem") c.if-ne-2.ensures)
          (read.1 ∙ ap states_data none) read'.1,
    )

pub returns : goal.returns
returns c =
    let read = c.in_ok-loop_part.ensures in
    let read' = c.in_ok-stem.ensures in (
      Infinite read'.0 read.0,
      infinite_value c.args.members c.next.new.self c.next-2.new.self c.in-Some-Some-None.loop_key.now c.in-Some-Some-None.stem_key.now
          c.in-Some-Some-None.loop_part.now c.in-Some-Some-None.stem.now read.0 read'.0
          c.in-Some-Some-None.ensures.steps c.in-Some-Some-None.ensures'.steps c.in-Some-Some-None.ensures''.steps.0
          (sym c.as_str.ensures.value ∙ key_is c.as_str.result.now (codes "loop") c.if-ne.ensures)
          (sym c.as_str-else-ne.ensures.value ∙ key_is c.as_str-else-ne.result.now (codes "stem") c.if-ne-2.ensures)
          read.1 read'.1,
      sets_of_some read.0 c.in_ok-loop_part.loop_part read.2 (λ e. true≢false (sym (c.is_empty.ensures.1 e) ∙ c.if-is_empty.false)),
      (read'.2, read.2),
    )
