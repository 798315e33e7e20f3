use Rattle.std.proofs.Common.{◌∙◌, sym, ap, [], ◌∷◌, ◌++◌}
use Rattle.ltl_closure.proofs.Entering.{enter_known, enter_one, enter_two}
use Rattle.ltl_closure.proofs.shared.Shared.enter.Goals as goal

pub returns-then-not-added : goal.returns-then-not-added
returns-then-not-added c =
    enter_known c.args.self.now.keys.keys c.args.self.now.entries.items c.args.key _ c.in_ok-index.index c.in_ok-index.added c.in_ok-index.ensures.keys
    c.in_ok-index.ensures.added
    c.if-not-added.true c.in_ok-index.ensures.stored

pub returns-in_default : goal.returns-in_default
returns-in_default c =
    enter_one c.args.self.now.keys.keys c.args.self.now.entries.items c.args.key _ c.in_ok-index.index c.in_ok-index.added c.in_ok-index.ensures.keys
    c.in_ok-index.ensures.added
    c.if-not-added.false c.in_ok-index.ensures.index _ (sym c.in_default.ensures) (rw (← c.entry.ensures) c.in_ok-push.ensures.items)

pub returns : goal.returns
returns c =
    enter_two c.args.self.now.keys.keys c.args.self.now.entries.items c.args.key _ c.in_ok-index.index c.in_ok-index.added c.in_ok-index.ensures.keys
    c.in_ok-index.ensures.added
    c.if-not-added.false c.in_ok-index.ensures.index _ _ c.in-Some.request _ (sym c.in-Some.ensures) (rw (← c.entry.ensures) c.in_ok-push.ensures.items)
    (c.in_ok-push-2.ensures.items ∙ ap (λ e. c.push.new.self.items ++ e ∷ []) c.entry-2.ensures) c.in_ok-insert.ensures.keys
