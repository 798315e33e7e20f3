use Rattle.std.proofs.Common.{◌≡◌, ◌++◌, ◌∙◌, sym, ap, append_assoc, codes}
use Rattle.std.proofs.lemmas.Result.{on_ok_weaker}
use Rattle.ltl_syntax.specs.declared.node.UnaryOp.TheVariants.{Always}
use Rattle.ltl_syntax.specs.declared.node.BinaryOp.TheVariants.{Implies}
use Rattle.ltl_syntax.specs.Formula.{Unary, Binary}
use Rattle.ltl_syntax.specs.Table.{tree_at, trees_of, made}
use Rattle.requirement_report.specs.Text.{bare}
use Rattle.requirement_page.specs.Marks.{code, paragraph}
use Rattle.requirement_page.specs.Checks.{asked}
use Rattle.requirement_page.proofs.checks.put_asked.Goals as goal

pub returns : goal.returns
returns c =
    let s = c.args.table.now in
    let body = c.in-Unary-Always-default.body in
    let a = c.in-Binary-Implies-default-default.condition in
    let b = c.in-Binary-Implies-default-default.answer in
    let always : tree_at s c.args.root ≡ Unary Always (tree_at s body) =
    c.node.ensures.tree ∙ ap (made s.names (trees_of s)) c.in-Unary-Always-default.is ∙ ap (λ op. Unary op (tree_at s body))
    c.in-Unary-Always-default.field-0-is in
    let implies : tree_at s body ≡ Binary Implies (tree_at s a) (tree_at s b) =
    c.node-2.ensures.tree ∙ ap (made s.names (trees_of s)) c.in-Binary-Implies-default-default.is
    ∙ ap (λ op. Binary op (tree_at s a) (tree_at s b)) c.in-Binary-Implies-default-default.field-0-is in
    let asking = paragraph (codes "asked: " ++ code (bare (tree_at s a))) in
    let answered = paragraph (codes "not answered: " ++ code (bare (tree_at s b))) in
    let whole : asked (tree_at s c.args.root) ≡ asking ++ answered = ap asked (always ∙ ap (Unary Always) implies) in
    on_ok_weaker c.put_words-2.result (λ e. e ∙ ap (λ t. t ++ answered) c.in_ok-put_words.ensures ∙ append_assoc c.args.out.now.items asking answered ∙ ap
    (λ t. c.args.out.now.items ++ t) (sym whole))
    c.put_words-2.ensures
