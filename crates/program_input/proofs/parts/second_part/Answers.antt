use Rattle.std.proofs.Common.{◌∙◌, ◌++◌, ◌∷◌, [], inl, inr, ap, sym, codes, arith}
use Rattle.program_input.proofs.Cutting.{IsStart, tail_is, stripped, told_second, told_second_return}
use Rattle.program_input.proofs.parts.second_part.Goals.{else-start-gt0-via-then-start-gt0+else-bytes-start-ne10, else-start-gt0-via-else-start-gt0}
use Rattle.program_input.proofs.parts.second_part.Goals as goal

pub returns-in-Some : goal.returns-in-Some
returns-in-Some c =
    let bytes = c.args.bytes.now in
    let start = c.args.start in
    let at : IsStart bytes start = elim c.else-start-gt0.branch [
      | else-start-gt0-via-then-start-gt0+else-bytes-start-ne10 w ↦ inr (w.if-start-gt0.true, w.if-bytes-start-ne10.false)
      | else-start-gt0-via-else-start-gt0 w ↦ inl (omega (arith, w.if-start-gt0.false))
    ] in
    let told = c.in_ok-behind.ensures.cases in
    let dashes = sym (tail_is bytes start) ∙ stripped _ (codes "---") c.in_ok-behind.behind.now 3 told.0 told.1 in
    let back = c.in-Some.ensures.cases in
    let return = stripped c.in_ok-behind.behind.now (13 ∷ []) c.in-Some.behind.now 1 back.0 back.1 in
    told_second_return (λ s. s.now) c.next_line.result bytes start c.in-Some.behind.now c.requires at (dashes ∙ ap (λ b. codes "---" ++ b) return)
    c.next_line.ensures

pub returns-in-None : goal.returns-in-None
returns-in-None c =
    let bytes = c.args.bytes.now in
    let start = c.args.start in
    let at : IsStart bytes start = elim c.else-start-gt0.branch [
      | else-start-gt0-via-then-start-gt0+else-bytes-start-ne10 w ↦ inr (w.if-start-gt0.true, w.if-bytes-start-ne10.false)
      | else-start-gt0-via-else-start-gt0 w ↦ inl (omega (arith, w.if-start-gt0.false))
    ] in
    let told = c.in_ok-behind.ensures.cases in
    let dashes = sym (tail_is bytes start) ∙ stripped _ (codes "---") c.in_ok-behind.behind.now 3 told.0 told.1 in
    told_second (λ s. s.now)
    c.next_line-in-None.result bytes start c.in_ok-behind.behind.now c.requires at dashes c.in-None.ensures.cases c.next_line-in-None.ensures
