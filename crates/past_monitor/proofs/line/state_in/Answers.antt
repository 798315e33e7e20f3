use Rattle.serde_json.specs.Data.{string}
use Rattle.serde_json.specs.View.{view}
use Rattle.ltl_word.proofs.Forms.{no_string, no_array_of}
use Rattle.past_monitor.proofs.line.state_in.Goals as goal

pub returns-in_default-as_str : goal.returns-in_default-as_str
returns-in_default-as_str c =
    no_array_of string (view c.args.value.now) c.in-Some.items.now.items c.deref-item-items.result.now c.loop-item.item-index c.item-item.result
    c.in-Some.ensures c.deref-item-items.ensures.value c.loop-item-test.true c.item-item.is
    (no_string (view c.item-item.result) c.in_default-as_str.ensures)
