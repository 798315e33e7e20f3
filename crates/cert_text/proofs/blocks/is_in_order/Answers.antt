use Rattle.std.proofs.Common.{ℕ, leb, cond, ◌-◌, refl, sym, ◌∙◌, arith}
use Rattle.std.proofs.lemmas.Simd.{length-chunk, zip2_of_maps, splat_is_map, length-zip2}
use lib.Lanes.{chunk}
use Rattle.cert_text.proofs.InOrder.{pairs, firsts, seconds, in_order, full}
use Rattle.cert_text.proofs.blocks.is_in_order.Goals as goal

pub returns : goal.returns
returns c = λ is.
    let bytes = c.args.bytes.now in
    let before = chunk (c.args.at - 1) 16 bytes in
    let here = chunk c.args.at 16 bytes in
    let room = c.requires.within in
    let long_before = length-chunk (c.args.at - 1) 16 bytes (omega (arith, room)) in
    let long_here = length-chunk c.args.at 16 bytes room in
    let same = long_before ∙ sym long_here in
    let vs = pairs before here in
    let long = length-zip2 (λ a b. (a, b)) before here same ∙ long_before in
    let first = firsts before here same in
    let second = seconds before here same in
    let low = zip2_of_maps (λ a b. cond (leb a b) 255 0) _ _ vs (splat_is_map vs 16 49 long) second in
    let digit = zip2_of_maps _ _ _ vs low (zip2_of_maps {Y = ℕ} _ _ _ vs second (splat_is_map vs 16 57 long)) in
    let ends = zip2_of_maps _ _ _ vs (zip2_of_maps {Y = ℕ} _ _ _ vs second (splat_is_map vs 16 48 long))
    (zip2_of_maps {Y = ℕ} _ _ _ vs second (splat_is_map vs 16 32 long)) in
    let behind = zip2_of_maps _ _ _ vs (zip2_of_maps (λ a b. cond (leb a b) 255 0) _ _ vs (splat_is_map vs 16 48 long) first) ends in
    let signs = zip2_of_maps _ _ _ vs (zip2_of_maps {Y = ℕ} _ _ _ vs second (splat_is_map vs 16 45 long))
    (zip2_of_maps {Y = ℕ} _ _ _ vs first (splat_is_map vs 16 32 long)) in
    in_order bytes c.args.at c.requires.some room c.type_inv.bytes _ _ (zip2_of_maps _ _ _ vs digit (zip2_of_maps _ _ _ vs behind signs))
    (λ a b. refl) (full _ is)
