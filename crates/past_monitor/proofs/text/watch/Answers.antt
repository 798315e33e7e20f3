use Rattle.std.proofs.Common.{◌+◌, sym, subst, ap, Err, Some, ℕ, List, Bool, Option, Bor, Vec, Global}
use Rattle.std.specs.Option.{option_copied}
use Rattle.ltl_syntax.specs.Table.{tree_at}
use Rattle.past_monitor.specs.Text.{lines_of, IsFirstBad, TakesLine}
use Rattle.past_monitor.proofs.Watching.{IsWatching, begun, blank_taken, state_taken, first_bad, refused_line}
use Rattle.past_monitor.proofs.text.watch.Goals.{in-Some-2+in_ok-push, in_default-2}
use Rattle.past_monitor.proofs.text.watch.Goals as goal

pub loop-rest-init : goal.loop-rest-init
loop-rest-init c =
    let f = tree_at c.args.table.now c.args.root in
    subst (λ (xs : List Bool). IsWatching f c.args.text.now (Some c.args.text.now) c.in-Ok.monitor xs 0) (sym c.new-answers.ensures.items)
    (begun f c.args.text.now c.in-Ok.monitor c.in-Ok.ensures.past c.in-Ok.ensures.formula c.in-Ok.ensures.start)

pub returns-in_err-answer-clause-refused : goal.returns-in_err-answer-clause-refused
returns-in_err-answer-clause-refused c =
    let f = tree_at c.args.table.now c.args.root in
    let text = c.args.text.now in
    let number = c.loop-rest.number in
    let is = subst (λ (r : Option (Bor (List ℕ))). IsWatching f text (option_copied r) c.loop-rest.monitor c.loop-rest.answers.items number)
    c.in-Some.is c.loop-rest.invariant in
    refused_line f text c.in_err-answer.field-0.0 c.from_residual.result
    (λ e. c.in_err-answer.ensures.future (ap Err e))
    (λ n e. let bad = c.in_err-answer.ensures.state n (ap Err e) in (
      is.past,
      subst (λ k. IsFirstBad (lines_of text) k) (sym bad.0) (first_bad f text c.in-Some.text.now c.loop-rest.monitor c.loop-rest.answers.items number is
          c.first_line-front.result.line.now (option_copied c.first_line-front.result.rest) c.first_line-front.ensures.lines bad.1),
    ))
    c.from_residual.ensures

pub loop-rest-preserved : goal.loop-rest-preserved
loop-rest-preserved c =
    let f = tree_at c.args.table.now c.args.root in
    let text = c.args.text.now in
    let number = c.loop-rest.number in
    let m = c.loop-rest.monitor in
    let new = c.take_line.new.monitor in
    let line = c.first_line-front.result.line.now in
    let rest = option_copied c.first_line-front.result.rest in
    let is = subst (λ (r : Option (Bor (List ℕ))). IsWatching f text (option_copied r) m c.loop-rest.answers.items number) c.in-Some.is c.loop-rest.invariant in
    elim c.match-branch-2.branch [
      | in-Some-2+in_ok-push w ↦
          let took = subst (TakesLine m line new) w.in-Some-2.is c.in_ok-answer.ensures.ok in
          subst (λ (v : Vec Bool Global). IsWatching f text rest new v.items (number + 1)) (sym w.answers-is)
          (state_taken f text c.in-Some.text.now m c.loop-rest.answers.items number is line rest c.first_line-front.ensures.lines new took.1.0
          w.in-Some-2.answer w.push.new.self.items c.first_line-front.ensures.shorter
          took.0 took.1.1 took.1.2 w.in_ok-push.ensures.items)
      | in_default-2 w ↦
          let took = subst (TakesLine m line new) w.in_default-2.is c.in_ok-answer.ensures.ok in
          subst (λ (v : Vec Bool Global). IsWatching f text rest new v.items (number + 1)) (sym w.answers-is)
          (blank_taken f text c.in-Some.text.now m c.loop-rest.answers.items number is line rest c.first_line-front.ensures.lines new
          c.first_line-front.ensures.shorter took.0 took.1)
    ]
