use Rattle.std.proofs.Common.{◌≡◌, ◌++◌, ◌∙◌, sym, ap, append_assoc, codes}
use Rattle.ltl_syntax.specs.declared.node.UnaryOp.TheVariants.{Always}
use Rattle.ltl_syntax.specs.declared.node.BinaryOp.TheVariants.{Implies}
use Rattle.ltl_syntax.specs.Formula.{Unary, Binary}
use Rattle.ltl_syntax.specs.Table.{tree_at, trees_of, made}
use Rattle.requirement_report.specs.Lines.{deeper}
use Rattle.requirement_report.specs.Text.{bare, asked_lines}
use Rattle.std.proofs.lemmas.Result.{on_ok_weaker}
use Rattle.requirement_report.proofs.checks.put_asked.Goals as goal

pub returns : goal.returns
returns c =
    let s = c.args.table.now in
    let body = c.in-Unary-Always-default.body in
    let a = c.in-Binary-Implies-default-default.condition in
    let b = c.in-Binary-Implies-default-default.answer in
    let always : tree_at s c.args.root ≡ Unary Always (tree_at s body) =
    c.node.ensures.tree ∙ ap (made s.names (trees_of s)) c.in-Unary-Always-default.is
    ∙ ap (λ op. Unary op (tree_at s body)) c.in-Unary-Always-default.field-0-is in
    let implies : tree_at s body ≡ Binary Implies (tree_at s a) (tree_at s b) =
    c.node-2.ensures.tree ∙ ap (made s.names (trees_of s)) c.in-Binary-Implies-default-default.is
    ∙ ap (λ op. Binary op (tree_at s a) (tree_at s b)) c.in-Binary-Implies-default-default.field-0-is in
    let asked = deeper (codes "asked: " ++ bare (tree_at s a)) in
    let answered = deeper (codes "not answered: " ++ bare (tree_at s b)) in
    let whole : asked_lines (tree_at s c.args.root) ≡ asked ++ answered = ap asked_lines (always ∙ ap (Unary Always) implies) in
    on_ok_weaker c.put_words-2.result (λ e. e ∙ ap (λ t. t ++ answered) c.in_ok-put_words.ensures ∙ append_assoc c.args.out.now.items asked answered
    ∙ ap (λ t. c.args.out.now.items ++ t) (sym whole))
    c.put_words-2.ensures
