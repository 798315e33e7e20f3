use Rattle.std.proofs.Common.{reverse}
use Rattle.ltl_closure.proofs.Counted.{walking_few}
use Rattle.ltl_closure.proofs.Walks.{keep_at}
use Rattle.ltl_closure.proofs.Steps.{on_ok, const_put, ask_put, join_put, negate_put}
use Rattle.ltl_closure.proofs.walk.Walk.step.Goals as goal

pub returns-in-Const-clause-at : goal.returns-in-Const-clause-at
returns-in-Const-clause-at c =
    on_ok c.put.result c.put.ensures (λ p. const_put c.args.table.now c.args.self.now c.put.new.self c.in-Const.value p (rw c.in-Const.is at c.requires))

pub returns-in-Ask-clause-at : goal.returns-in-Ask-clause-at
returns-in-Ask-clause-at c =
    on_ok c.put-in-Ask.result c.put-in-Ask.ensures (λ p. ask_put c.args.table.now _ c.put-in-Ask.new.self c.in-Ask.request c.pop_number-argument.result p
    (rw (c.in-Ask.is, c.pop_number-argument.ensures) at c.requires))

pub returns-in-Join-clause-at : goal.returns-in-Join-clause-at
returns-in-Join-clause-at c =
    on_ok c.put-in-Join.result c.put-in-Join.ensures
    (λ p. join_put c.args.table.now _ c.put-in-Join.new.self c.in-Join.connective c.pop_number-right.result c.pop_number-left.result p
    (rw (c.in-Join.is, c.pop_number-right.ensures, c.pop_number-left.ensures) at c.requires))

pub returns-in-Negate-clause-at : goal.returns-in-Negate-clause-at
returns-in-Negate-clause-at c =
    on_ok c.put-in-Negate.result c.put-in-Negate.ensures (λ p. negate_put c.args.table.now _ c.put-in-Negate.new.self c.pop_number-letter.result p
    (rw (c.in-Negate.is, c.pop_number-letter.ensures) at c.requires))

pub returns-in-Keep-clause-at : goal.returns-in-Keep-clause-at
returns-in-Keep-clause-at c =
    let top = c.last_number-number.ensures in
    rw top.1 (keep_at c.args.table.now c.args.self.now.root _ _ c.args.self.now.memo (reverse c.args.self.now.work.items)
    c.in-Keep.node c.in-Keep.positive c.last_number-number.result top.0 c.set.new.self
    (rw (c.in-Keep.is, top.1) at c.requires) (c.set.ensures.room _ c.requires.room) c.set.ensures.numbers)

pub put-requires : goal.put-requires
put-requires c = walking_few c.args.table.now c.args.self.now.root c.args.self.now.shared.keys.keys c.args.self.now.shared.entries.items
    (reverse c.args.self.now.numbers.items) c.args.self.now.memo _ c.requires

pub put-requires-in-Ask : goal.put-requires-in-Ask
put-requires-in-Ask c = walking_few c.args.table.now c.args.self.now.root c.args.self.now.shared.keys.keys c.args.self.now.shared.entries.items
    (reverse c.args.self.now.numbers.items) c.args.self.now.memo _ c.requires

pub put-requires-in-Join : goal.put-requires-in-Join
put-requires-in-Join c = walking_few c.args.table.now c.args.self.now.root c.args.self.now.shared.keys.keys c.args.self.now.shared.entries.items
    (reverse c.args.self.now.numbers.items) c.args.self.now.memo _ c.requires

pub put-requires-in-Negate : goal.put-requires-in-Negate
put-requires-in-Negate c = walking_few c.args.table.now c.args.self.now.root c.args.self.now.shared.keys.keys c.args.self.now.shared.entries.items
    (reverse c.args.self.now.numbers.items) c.args.self.now.memo _ c.requires
