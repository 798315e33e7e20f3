use Rattle.std.proofs.Common.{◌≡◌, ◌+◌, ◌-◌, [], get_or, Contains, refl, ap, ◌∙◌, subst, arith}
use Rattle.cnf_base.specs.declared.literal.Hint.TheVariants as hints
use Rattle.cert_text.specs.Writing.{ended_at}
use Rattle.derivation.proofs.Lines.{hint_earlier}
use Rattle.cert_text.proofs.Wholly.{step_written}
use Rattle.cert_text.proofs.writing.push_step.Goals as goal

pub returns : goal.returns
returns c =
    let k = c.args.index in
    let log = c.args.derivation.now in
    let back : k + 1 - 1 ≡ k = omega arith in
    let same_hs = c.hints-hints.ensures ∙ ap (λ i. get_or log.hints i []) back in
    let same_ls = c.literals.ensures ∙ ap (λ i. get_or log.lines i []) back in
    let (list, are) = c.invariant.ensures in
    let paired = are.paired in
    let same_ns = c.in_ok-ended.ensures log.hints k c.requires.last (omega (arith, c.requires.low, paired)) refl same_hs
    (λ m there. (hint_earlier list log are k m c.requires.low (subst (λ x. Contains x (hints.Line m)) same_hs there)).1) in
    step_written c.args.out.now.items c.push_line.new.out.items c.push_delete.new.out.items c.literals.result.now (get_or log.lines k [])
    c.hints-hints.result.now (get_or log.hints k [])
    c.deref.result.now (ended_at log.hints c.args.targets.now (k + 1)) c.in_ok-push_line.ensures c.in_ok-push_delete.ensures same_ls same_hs
    (c.deref.ensures.value ∙ same_ns)
