use Rattle.std.proofs.Common.{◌≡◌, [], ap, sym, ◌∙◌, codes, true≢false}
use Rattle.ltl_word.specs.declared.trace.Trace.TheVariants.{Finite}
use Rattle.ltl_word.specs.Json.{states_data}
use Rattle.ltl_word.proofs.Parts.{key_is, finite_value, sets_of_none, sets_of_some}
use Rattle.ltl_word.proofs.json.read_finite.Goals as goal

pub returns-then-is_empty : goal.returns-then-is_empty
returns-then-is_empty c =
    let read = c.in_ok-states.ensures in
    let none : read.0 ≡ [] = sets_of_none read.0 c.in_ok-states.states read.2 (c.is_empty.ensures.0 c.if-is_empty.true) in
    finite_value c.args.members c.next.new.self c.in-Some-None.key.now c.in-Some-None.states.now [] c.in-Some-None.ensures.steps c.in-Some-None.ensures'.steps.0
    (sym c.as_str.ensures.value ∙ key_is c.as_str.result.now (codes "states") c.if-ne.ensures) (read.1 ∙ ap states_data none)

pub returns : goal.returns
returns c =
    let read = c.in_ok-states.ensures in (
      Finite read.0,
      finite_value c.args.members c.next.new.self c.in-Some-None.key.now c.in-Some-None.states.now read.0 c.in-Some-None.ensures.steps
          c.in-Some-None.ensures'.steps.0
          (sym c.as_str.ensures.value ∙ key_is c.as_str.result.now (codes "states") c.if-ne.ensures) read.1,
      sets_of_some read.0 c.in_ok-states.states read.2 (λ e. true≢false (sym (c.is_empty.ensures.1 e) ∙ c.if-is_empty.false)),
      read.2,
    )
