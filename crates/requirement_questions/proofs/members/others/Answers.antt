use Rattle.std.proofs.Common.{◌≡◌, ◌∙◌, ◌+◌, ◌-◌, ◌++◌, length, take, drop, ap, ap₂, arith}
use Rattle.std.proofs.lemmas.List.{take_rest}
use Rattle.requirement_questions.proofs.LeftOut.{without_some_is}
use Rattle.requirement_questions.proofs.members.others.Goals as goal

pub returns : goal.returns
returns c =
    let k = c.args.first in
    let n = c.args.end in
    let ms = c.args.members.now in
    let one : c.extend_from_slice.new.self.items ≡ c.new-rest.result.items ++ take k ms = c.in_ok-extend_from_slice.ensures.items in
    let two : c.extend_from_slice-2.new.self.items ≡ c.extend_from_slice.new.self.items ++ take (length ms - n) (drop n ms) =
    c.in_ok-extend_from_slice-2.ensures.items in
    let front = one ∙ ap (λ xs. xs ++ take k ms) c.new-rest.ensures.items in
    let back : n ≡ k + (n - k) = omega (arith, c.requires.order) in
    let rest = take_rest ms n ∙ ap (λ m. drop m ms) back in
    two ∙ (ap₂ (λ xs ys. xs ++ ys) front rest ∙ without_some_is k (n - k) ms)
