use Rattle.std.proofs.Common.{◌≡◌, ◌+◌, ◌-◌, ◌<◌, ◌∙◌, arith, ap, length}
use Rattle.enc_layout.specs.Clauses.{gates_part}
use Rattle.clause_index.specs.Counts.{chain_size}
use Rattle.clause_index.proofs.Sizing.{length-gates_part, length-links_part, length-states}
use Rattle.clause_index.proofs.States.{chain_first, gates_middle, links_last}
use Rattle.clause_index.proofs.state.states.Goals as goal

pub returns-then-index-first : goal.returns-then-index-first
returns-then-index-first c =
    c.chain.ensures ∙ chain_first c.args.layout.now c.args.closure.now.formula c.args.step c.args.index
    (omega (arith, c.if-index-first.true, c.chain-first.ensures))

pub gates-requires-clause-within : goal.gates-requires-clause-within
gates-requires-clause-within c =
    omega (arith, c.if-behind-sizes.true, ap (λ s. s.gates) c.requires.sizes, length-gates_part c.args.closure.now.formula c.args.step)

pub returns-then-behind-sizes : goal.returns-then-behind-sizes
returns-then-behind-sizes c =
    let f = c.args.closure.now.formula in
    let within : c.args.index - c.chain-first.result < length (gates_part f c.args.step) =
    omega (arith, c.if-behind-sizes.true, ap (λ s. s.gates) c.requires.sizes, length-gates_part f c.args.step) in
    let at : chain_size c.args.step + (c.args.index - c.chain-first.result) ≡ c.args.index = omega (arith, c.if-index-first.false, c.chain-first.ensures) in
    c.gates.ensures ∙ gates_middle c.args.layout.now f c.args.step (c.args.index - c.chain-first.result) c.args.index within at

pub links-requires-clause-within : goal.links-requires-clause-within
links-requires-clause-within c =
    let f = c.args.closure.now.formula in
    let kind = c.args.closure.now.kind in
    omega (
      arith,
      c.requires.within,
      c.if-index-first.false,
      c.if-behind-sizes.false,
      c.chain-first.ensures,
      ap (λ s. s.gates) c.requires.sizes,
      length-links_part f kind c.args.step,
      length-states f kind c.args.step,
    )

pub returns : goal.returns
returns c =
    let f = c.args.closure.now.formula in
    let gates = c.args.sizes.gates in
    let at : chain_size c.args.step + (c.args.sizes.gates + (c.args.index - c.chain-first.result - c.args.sizes.gates)) ≡ c.args.index =
    omega (arith, c.if-index-first.false, c.if-behind-sizes.false, c.chain-first.ensures) in
    c.links.ensures ∙ links_last c.args.layout.now f c.args.step gates (c.args.index - c.chain-first.result - gates) c.args.index
    (ap (λ s. s.gates) c.requires.sizes) at
