use Rattle.std.proofs.Common.{ap, subst, sym}
use Rattle.std.specs.Option.{option_copied}
use Rattle.ltl_syntax.specs.Table.{tree_at}
use Rattle.black_top.specs.Depast.{IsShownBy, IsRaised}
use Rattle.black_top.proofs.Depasted.{alone_shown}
use Rattle.black_top.proofs.Showing.{shown_as}
use Rattle.black_top.proofs.commands.removal.shown.Goals as goal

pub returns-in-None : goal.returns-in-None
returns-in-None c =
    let kept = c.args.removed.now in
    alone_shown (tree_at c.args.table.now c.args.root) (tree_at kept.table kept.root) (option_copied c.args.second) c.alone.result
    (ap option_copied c.in-None.is) c.requires.removed.tree_is c.alone.ensures

pub returns-in-Some : goal.returns-in-Some
returns-in-Some c =
    let f = tree_at c.args.table.now c.args.root in
    let second = option_copied c.args.second in
    shown_as (IsRaised f c.in-Some.text.now) (IsShownBy f second) c.raised.result
    (λ a h. subst (λ s. IsShownBy f s a) (sym (ap option_copied c.in-Some.is)) h) c.raised.ensures
