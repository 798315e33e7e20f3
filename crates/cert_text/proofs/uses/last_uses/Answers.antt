use Rattle.std.proofs.Common.{◌≡◌, ◌+◌, ◌-◌, ◌<◌, [], length, get_or, ap, ◌∙◌, arith}
use Rattle.cert_text.proofs.Noting.{noted_next}
use Rattle.cert_text.proofs.uses.last_uses.Goals as goal

pub loop-index-2-preserved : goal.loop-index-2-preserved
loop-index-2-preserved c =
    let hss = c.args.derivation.now.hints in
    let i = c.loop-index-2.index in
    let low : i < length hss = omega (arith, c.loop-index-2-test.true, c.lines-index-end-2.ensures, c.requires) in
    let back : i + 1 - 1 ≡ i = omega arith in
    noted_next hss (length c.args.derivation.now.lines) i c.hints.result.now c.loop-index-2.last.items c.note_uses.new.last.items low
    (c.hints.ensures ∙ ap (λ k. get_or hss k []) back) c.loop-index-2.invariant c.note_uses.ensures
