use Rattle.std.proofs.Common.{ℕ, ◌-◌, refl, sym, ◌∙◌, arith}
use Rattle.std.proofs.lemmas.Simd.{length-chunk, zip2_of_maps, splat_is_map, length-zip2}
use lib.Lanes.{chunk}
use Rattle.cert_text.proofs.InOrder.{pairs, firsts, seconds, no_nought, empty}
use Rattle.cert_text.proofs.finding.has_no_nought.Goals as goal

pub returns : goal.returns
returns c = λ is.
    let bytes = c.args.bytes.now in
    let before = chunk (c.args.at - 1) 16 bytes in
    let here = chunk c.args.at 16 bytes in
    let room = c.requires.within in
    let long_before = length-chunk (c.args.at - 1) 16 bytes (omega (arith, room)) in
    let same = long_before ∙ sym (length-chunk c.args.at 16 bytes room) in
    let vs = pairs before here in
    let long = length-zip2 (λ a b. (a, b)) before here same ∙ long_before in
    let noughts = zip2_of_maps {Y = ℕ} _ _ _ vs (seconds before here same) (splat_is_map vs 16 48 long) in
    let spaces = zip2_of_maps {Y = ℕ} _ _ _ vs (firsts before here same) (splat_is_map vs 16 32 long) in
    no_nought bytes c.args.at c.requires.some room _ _ (zip2_of_maps _ _ _ vs noughts spaces) (λ a b. refl) (empty _ is)
