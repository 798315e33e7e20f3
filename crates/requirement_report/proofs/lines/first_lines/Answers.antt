use Rattle.std.proofs.Common.{◌≡◌, ℕ, List, [], ◌∷◌, ◌++◌, drop, refl, sym, ap, ◌∙◌}
use Rattle.std.proofs.lemmas.List.{append-nil}
use Rattle.requirement_report.specs.Lines.{first_lines}
use Rattle.requirement_report.proofs.lines.first_lines.Goals as goal

none_left : (n : ℕ) (text : List ℕ) → n ≡ 0 → first_lines n text ≡ []
none_left n [] e = refl
none_left n (b ∷ bs) e = ap (λ k. first_lines k (b ∷ bs)) e

pub returns-then-left-eq0 : goal.returns-then-left-eq0
returns-then-left-eq0 c =
    let rest = drop c.loop-byte.byte-index c.args.text.now in
    sym (append-nil c.loop-byte.lines.items) ∙ ap (λ t. c.loop-byte.lines.items ++ t) (sym (none_left c.loop-byte.left rest c.if-left-eq0.true))
    ∙ c.loop-byte.invariant
