use Rattle.std.proofs.Common.{◌≡◌, ℕ, ◌-◌, ◌<◌, inl, inr, get_or, ◌∙◌, subst, arith}
use Rattle.std.proofs.lemmas.List.{get_or_default, length-set}
use Rattle.cdcl_analyze.specs.Waiting.{IsWaiting}
use Rattle.cdcl_analyze.proofs.Bits.{left}
use Rattle.cdcl_analyze.proofs.waiting.Waiting.pop.Goals as goal

pub returns-then-place-end : goal.returns-then-place-end
returns-then-place-end c =
    let words = c.down.self-inside.words.items in
    let last = c.len-last.result - 1 in
    let bit = c.highest_bit-bit.result in
    let word = c.index-word.result.now in
    let is : word ≡ get_or words last 0 = c.index-word.ensures ∙ get_or_default words last word 0 (omega arith) in
    let go = left words last bit word (omega arith) c.highest_bit-bit.ensures.within is c.highest_bit-bit.ensures.low c.highest_bit-bit.ensures.high in
    let waits = subst (λ ws. (p : ℕ) → p < c.args.end → IsWaiting ws p → IsWaiting words p) c.self.view_is c.down.invariant.kept in
    record {
      low = omega arith;
      before = λ p below there. rw c.without_bit.ensures (go p (waits p below there));
    }

pub down-preserved : goal.down-preserved
down-preserved c =
    let words = c.down.self-inside.words.items in
    let last = c.len-last.result - 1 in
    let bit = c.highest_bit-bit.result in
    let word = c.index-word.result.now in
    let is : word ≡ get_or words last 0 = c.index-word.ensures ∙ get_or_default words last word 0 (omega arith) in
    let go = left words last bit word (omega arith) c.highest_bit-bit.ensures.within is c.highest_bit-bit.ensures.low c.highest_bit-bit.ensures.high in
    record {
      kept = λ p below there. elim (go p (c.down.invariant.kept p below there)) [
        | inl top ↦ absurd (omega (arith, top, below))
        | inr rest ↦ rw c.without_bit.ensures rest.1
      ];
      few = omega (arith, length-set words last c.without_bit.result, c.down.invariant.few);
    }
