use Rattle.std.proofs.Common.{◌≡◌, ◌+◌, ◌∙◌, arith, sym, subst}
use Rattle.enc_layout.specs.Clauses.{layout_of}
use Rattle.enc_layout.specs.Assigned.{accepted_question, unpruned_question}
use Rattle.enc_layout.specs.Targets.{CloseTableau}
use Rattle.unravel.specs.Depths.{AreRejections}
use Rattle.unravel.proofs.Asking.{refuses_same}
use Rattle.unravel.proofs.Rejections.{rejections_longer, rejections_more, tableau_closes}
use Rattle.unravel.proofs.Verdicts.{within_limit}
use Rattle.unravel.proofs.closing.close.Goals as goal

pub rejection-requires-clause-fits : goal.rejection-requires-clause-fits
rejection-requires-clause-fits c = c.numbering.ensures.lower (layout_of c.args.closure.now) c.loop-state.state c.args.depth
    (within_limit c.loop-state.state c.args.depth c.loop-state-test.true) c.requires.fits

pub rejection-requires-clause-letters : goal.rejection-requires-clause-letters
rejection-requires-clause-letters c = c.loop-state.invariant.letters ∙ c.requires.letters

pub rejection-requires-clause-refused : goal.rejection-requires-clause-refused
rejection-requires-clause-refused c =
    refuses_same c.args.solver.now c.loop-state.solver (accepted_question c.args.closure.now.formula c.args.closure.now.kind c.loop-state.state)
    c.loop-state.invariant.inputs
    (c.requires.refused.accepted c.loop-state.state c.loop-state-test.true)

pub pruning-requires-clause-letters : goal.pruning-requires-clause-letters
pruning-requires-clause-letters c = c.loop-state.invariant.letters ∙ c.requires.letters

pub pruning-requires-clause-refused : goal.pruning-requires-clause-refused
pruning-requires-clause-refused c =
    refuses_same c.args.solver.now c.loop-state.solver (unpruned_question c.args.closure.now.formula c.args.closure.now.kind c.args.depth)
    c.loop-state.invariant.inputs c.requires.refused.unpruned

pub loop-state-preserved : goal.loop-state-preserved
loop-state-preserved c =
    let f = c.args.closure.now.formula in
    let kind = c.args.closure.now.kind in
    let i = c.loop-state.state in
    let items = c.loop-state.targets.items in
    let log = c.rejection.new.solver.log in
    let before = rejections_longer f kind i c.loop-state.solver.log log items c.rejection.ensures.longer c.loop-state.invariant.rejected in
    record {
      upto = omega (arith, c.loop-state-test.true);
      letters = c.rejection.ensures.letters ∙ c.loop-state.invariant.letters;
      inputs = c.rejection.ensures.longer.inputs ∙ c.loop-state.invariant.inputs;
      rejected = subst (AreRejections f kind (i + 1) log.lines) (sym c.in_ok-push.ensures.items)
          (rejections_more f kind i log.lines items before c.in_ok-line.line c.in_ok-line.ensures.line);
    }

pub returns-clause-targets : goal.returns-clause-targets
returns-clause-targets c =
    let f = c.args.closure.now.formula in
    let kind = c.args.closure.now.kind in
    let k = c.args.depth in
    let items = c.loop-state.targets.items in
    let log = c.pruning.new.solver.log in
    let all : c.loop-state.state ≡ k + 1 = omega (arith, c.loop-state-test.false, c.loop-state.invariant.upto) in
    let rejected = subst (λ n. AreRejections f kind n log.lines items) all
    (rejections_longer f kind c.loop-state.state c.loop-state.solver.log log items c.pruning.ensures.longer c.loop-state.invariant.rejected) in
    subst (CloseTableau f kind k log.lines) (sym c.in_ok-push-2.ensures.items)
    (tableau_closes f kind k log.lines items c.in_ok-last.last rejected c.in_ok-last.ensures.line)

pub returns-clause-letters : goal.returns-clause-letters
returns-clause-letters c = c.pruning.ensures.letters ∙ c.loop-state.invariant.letters

pub returns-clause-inputs : goal.returns-clause-inputs
returns-clause-inputs c = c.pruning.ensures.longer.inputs ∙ c.loop-state.invariant.inputs
