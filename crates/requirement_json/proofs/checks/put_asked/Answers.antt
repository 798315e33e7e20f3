use Rattle.std.proofs.Common.{◌≡◌, ◌∙◌, ap, ap₂, sym, codes}
use Rattle.std.proofs.lemmas.Result.{on_ok_weaker}
use Rattle.ltl_syntax.specs.declared.node.UnaryOp.TheVariants.{Always}
use Rattle.ltl_syntax.specs.declared.node.BinaryOp.TheVariants.{Implies}
use Rattle.ltl_syntax.specs.Formula.{Unary, Binary}
use Rattle.ltl_syntax.specs.Table.{tree_at, trees_of, made}
use Rattle.serde_json.specs.Data.{string, put}
use Rattle.serde_json.specs.View.{members_view}
use Rattle.requirement_json.specs.Checks.{with_asked}
use Rattle.requirement_json.proofs.checks.put_asked.Goals as goal

pub returns : goal.returns
returns c =
    let s = c.args.table.now in
    let body = c.in-Unary-Always-default.body in
    let a = c.in-Binary-Implies-default-default.condition in
    let b = c.in-Binary-Implies-default-default.answer in
    let always : tree_at s c.args.root ≡ Unary Always (tree_at s body) =
    c.node.ensures.tree ∙ ap (made s.names (trees_of s)) c.in-Unary-Always-default.is
    ∙ ap (λ op. Unary op (tree_at s body)) c.in-Unary-Always-default.field-0-is in
    let implies : tree_at s body ≡ Binary Implies (tree_at s a) (tree_at s b) =
    c.node-2.ensures.tree ∙ ap (made s.names (trees_of s)) c.in-Binary-Implies-default-default.is
    ∙ ap (λ op. Binary op (tree_at s a) (tree_at s b)) c.in-Binary-Implies-default-default.field-0-is in
    let old = members_view c.args.members.now.entries in
    let whole = ap (λ f. with_asked f old) (always ∙ ap (Unary Always) implies) in
    let unanswered = c.in_ok-put_text.ensures ∙ ap (λ t. put (codes "unanswered") (string t) old) (c.deref.ensures.value ∙ c.in_ok-answer.ensures) in
    on_ok_weaker c.put_text-2.result
    (λ e. e ∙ ap₂ (λ t ms. put (codes "asked") (string t) ms) (c.deref-2.ensures.value ∙ c.in_ok-condition.ensures) unanswered ∙ sym whole)
    c.put_text-2.ensures
