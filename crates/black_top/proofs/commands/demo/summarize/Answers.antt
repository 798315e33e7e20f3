use Rattle.std.proofs.Common.{◌∙◌, length, ap}
use Rattle.ltl_syntax.specs.declared.node.Kind.TheVariants as kinds
use Rattle.ltl_syntax.specs.Formula.{nodes_in}
use Rattle.report.specs.declared.summary.Summary.{Summary}
use Rattle.black_top.specs.Answer.{summary}
use Rattle.black_top.specs.Demo.{ring, IsShown}
use Rattle.black_top.proofs.Settling.{in_force}
use Rattle.black_top.proofs.Showing.{shown}
use Rattle.black_top.proofs.Summing.{summed}
use Rattle.black_top.proofs.commands.demo.summarize.Goals as goal

pub returns : goal.returns
returns c =
    let n = c.args.number in
    let value = c.in_ok-closure.closure in
    let layout = c.of-layout.result in
    let formula = c.in_ok-closure.ensures.formula ∙ c.requires.ring in
    let kind = c.in_ok-closure.ensures.kind in
    let laid = c.of-layout.ensures.layout in
    let (limit, verdict, force, decided, is) = c.in_ok-verdict.ensures in
    let entries = length c.entries.result.now in
    let about : Summary =
    record { number = n; nodes = c.len.result; entries = entries; letters = c.letters_through.result; verdict = c.in_ok-verdict.verdict } in
    let nodes = c.len.ensures.count ∙ c.requires.nodes ∙ ap nodes_in c.requires.ring in
    let comes = summed n limit c.len.result entries c.letters_through.result c.in_ok-verdict.verdict verdict value layout formula kind laid
    (in_force value (ring n) kinds.Infinite 64 limit formula kind force) decided nodes c.entries.ensures.closure.long c.letters_through.ensures is in
    shown (IsShown n) (summary about) c.summary.result comes c.summary.ensures
