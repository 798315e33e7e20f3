use Rattle.std.proofs.Common.{◌≡◌, ◌∙◌, ap, Some}
use Rattle.serde_json.specs.Written.{has_float, compact_text}
use Rattle.serde_json.specs.View.{view}
use Rattle.ltl_word.specs.Json.{trace_data}
use Rattle.ltl_word.proofs.Written.{trace_plain, trace_depth, if_ok_more, if_ok_both}
use Rattle.ltl_word.proofs.trace.Trace.to_json.Goals as goal

pub returns-clause-text : goal.returns-clause-text
returns-clause-text c =
    let is : view c.in_ok-value.value ≡ trace_data c.args.self.now = c.in_ok-value.ensures.value in
    if_ok_more (λ s f. f (ap has_float is ∙ trace_plain c.args.self.now) ∙ ap compact_text is) c.to_vec.result c.to_vec.ensures.text

pub returns-clause-reads_back : goal.returns-clause-reads_back
returns-clause-reads_back c =
    let is : view c.in_ok-value.value ≡ trace_data c.args.self.now = c.in_ok-value.ensures.value in
    if_ok_both (λ s utf8 back good. (c.args.self.now, (utf8, back (rw is (trace_depth c.args.self.now)) ∙ ap Some is), good, c.in_ok-value.ensures.sets))
    c.to_vec.result c.to_vec.ensures.utf8 c.to_vec.ensures.reads_back
