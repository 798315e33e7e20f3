use Rattle.std.proofs.Common.{◌++◌, ◌∷◌, [], false, sym, subst}
use Rattle.ltl_syntax.specs.Table.{tree_at}
use Rattle.depast.specs.Sources.{AreSources}
use Rattle.depast.proofs.Sourced.{sources_push, here_source}
use Rattle.depast.proofs.sources.put_here.Goals as goal

pub returns : goal.returns
returns c t root gs under are =
    subst (λ xs. AreSources t root xs (gs ++ tree_at t c.args.number ∷ [])) (sym c.in_ok-push.ensures.items)
    (sources_push t root c.args.sources.now.items gs (record { node = c.args.number; back = 0; beyond = false }) (tree_at t c.args.number) are
    (here_source t root c.args.number under))
