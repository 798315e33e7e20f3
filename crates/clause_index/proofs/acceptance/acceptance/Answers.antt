use Rattle.std.proofs.Common.{◌≡◌, ◌<◌, ◌∙◌, arith, subst, sym, length}
use Rattle.ltl_syntax.specs.declared.node.Kind.TheVariants as Kinds
use Rattle.enc_layout.specs.Clauses.{acceptance_part}
use Rattle.clause_index.proofs.Sizing.{length-acceptance_part}
use Rattle.clause_index.proofs.Strong.{strong_total}
use Rattle.clause_index.proofs.acceptance.acceptance.Goals as goal

pub finite-requires-clause-within : goal.finite-requires-clause-within
finite-requires-clause-within c =
    let f = c.args.closure.now.formula in
    let kind : c.args.closure.now.kind ≡ Kinds.Finite = sym c.kind.ensures ∙ c.in-Finite.is in
    let within : c.args.index < length (acceptance_part f Kinds.Finite c.args.step) =
    subst (λ k. c.args.index < length (acceptance_part f k c.args.step)) kind c.requires.within in
    omega (arith, within, length-acceptance_part f Kinds.Finite c.args.step, strong_total f)
