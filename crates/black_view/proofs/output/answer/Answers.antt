use Rattle.std.proofs.Common.{◌∙◌, ap, Err}
use Rattle.std.proofs.lemmas.Result.{IfOk-weaker}
use Rattle.ltl_word.specs.declared.json.TraceFault.TheVariants as faults
use Rattle.black_view.proofs.Printing.{long_as, without_as, refused_as, read_as}
use Rattle.black_view.proofs.output.answer.Goals as goal

pub returns-then-bytes-gt-INPUT_LIMIT : goal.returns-then-bytes-gt-INPUT_LIMIT
returns-then-bytes-gt-INPUT_LIMIT c =
    IfOk-weaker c.shown.result _ _
    (λ out h. long_as c.args.request.now c.args.bytes.now out.status out.text.items c.if-bytes-gt-INPUT_LIMIT.true h) c.shown.ensures

pub returns-in_default : goal.returns-in_default
returns-in_default c =
    IfOk-weaker c.shown-in_default.result _ _
    (λ out h. without_as c.args.request.now c.args.bytes.now out.status out.text.items c.if-bytes-gt-INPUT_LIMIT.false c.in_default.ensures h)
    c.shown-in_default.ensures

pub returns-in-Ok : goal.returns-in-Ok
returns-in-Ok c =
    IfOk-weaker c.drawn.result _ _
    (λ out h. read_as c.args.request.now c.args.bytes.now c.split_at.result.0.now c.split_at.result.1.now c.in-Some.at c.in-Ok.trace c.from_json.result
    out.status out.text.items
    c.if-bytes-gt-INPUT_LIMIT.false c.in-Some.ensures c.split_at.ensures.front c.split_at.ensures.back c.from_json.ensures c.in-Ok.is h) c.drawn.ensures

pub returns-in-Err-NotJson : goal.returns-in-Err-NotJson
returns-in-Err-NotJson c =
    IfOk-weaker c.shown-in-Err-NotJson.result _ _
    (λ out h. refused_as c.args.request.now c.args.bytes.now c.split_at.result.0.now c.split_at.result.1.now c.in-Some.at faults.NotJson c.from_json.result
    out.status out.text.items
    c.if-bytes-gt-INPUT_LIMIT.false c.in-Some.ensures (λ e. cc) c.split_at.ensures.front c.split_at.ensures.back c.from_json.ensures
    (c.in-Err-NotJson.is ∙ ap Err c.in-Err-NotJson.field-0-is) h) c.shown-in-Err-NotJson.ensures

pub returns-in-Err-NotTrace : goal.returns-in-Err-NotTrace
returns-in-Err-NotTrace c =
    IfOk-weaker c.shown-in-Err-NotTrace.result _ _
    (λ out h. refused_as c.args.request.now c.args.bytes.now c.split_at.result.0.now c.split_at.result.1.now c.in-Some.at faults.NotTrace c.from_json.result
    out.status out.text.items
    c.if-bytes-gt-INPUT_LIMIT.false c.in-Some.ensures (λ e. cc) c.split_at.ensures.front c.split_at.ensures.back c.from_json.ensures
    (c.in-Err-NotTrace.is ∙ ap Err c.in-Err-NotTrace.field-0-is) h) c.shown-in-Err-NotTrace.ensures

pub returns-in-Err-EmptyLoop : goal.returns-in-Err-EmptyLoop
returns-in-Err-EmptyLoop c =
    IfOk-weaker c.shown-in-Err-EmptyLoop.result _ _
    (λ out h. refused_as c.args.request.now c.args.bytes.now c.split_at.result.0.now c.split_at.result.1.now c.in-Some.at faults.EmptyLoop c.from_json.result
    out.status out.text.items
    c.if-bytes-gt-INPUT_LIMIT.false c.in-Some.ensures (λ e. cc) c.split_at.ensures.front c.split_at.ensures.back c.from_json.ensures
    (c.in-Err-EmptyLoop.is ∙ ap Err c.in-Err-EmptyLoop.field-0-is) h) c.shown-in-Err-EmptyLoop.ensures

pub returns-in-Err-EmptyStates : goal.returns-in-Err-EmptyStates
returns-in-Err-EmptyStates c =
    IfOk-weaker c.shown-in-Err-EmptyStates.result _ _
    (λ out h. refused_as c.args.request.now c.args.bytes.now c.split_at.result.0.now c.split_at.result.1.now c.in-Some.at faults.EmptyStates c.from_json.result
    out.status out.text.items
    c.if-bytes-gt-INPUT_LIMIT.false c.in-Some.ensures (λ e. cc) c.split_at.ensures.front c.split_at.ensures.back c.from_json.ensures
    (c.in-Err-EmptyStates.is ∙ ap Err c.in-Err-EmptyStates.field-0-is) h) c.shown-in-Err-EmptyStates.ensures
