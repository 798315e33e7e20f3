use Rattle.std.proofs.Common.{◌≡◌, false, sym, ◌∙◌}
use Rattle.ltl_lexer.specs.Scanning.{passes}
use Rattle.ltl_lexer.proofs.Fronts.{front_some, front_none}
use Rattle.ltl_lexer.proofs.scan.front_char.Goals as goal

pub returns-in-Some : goal.returns-in-Some
returns-in-Some c = front_some c.args.first c.args.text.now c.in-Some.ch c.decode-found.result.1 (sym c.in-Some.is ∙ c.decode-found.ensures.char)
    c.decode-found.ensures.size (sym c.passes.ensures ∙ c.if-passes.true)

pub returns-in_default : goal.returns-in_default
returns-in_default c = front_none c.args.first c.args.text.now (λ x e.
    let found = sym c.in-Some.is ∙ c.decode-found.ensures.char ∙ e in
    let p : passes c.args.first c.in-Some.ch ≡ false = sym c.passes.ensures ∙ c.if-passes.false in
    cc)

pub returns-in_default-2 : goal.returns-in_default-2
returns-in_default-2 c = front_none c.args.first c.args.text.now (λ x e.
    let found = sym c.in_default.is ∙ c.decode-found.ensures.char ∙ e in
    cc)
