use Rattle.std.proofs.Common.{◌≡◌, ◌+◌, ◌-◌, ◌<◌, ◌≤◌, ◌⊎◌, inl, inr, take, get_or, length, refl, sym, ap, subst, arith}
use Rattle.std.proofs.lemmas.List.Elements.{All-set}
use Rattle.cdcl_analyze.specs.Marks.{MarksValue, outcome_of, IsFrom, with_outcomes, with_consequences}
use Rattle.cdcl_analyze.specs.contracts.marks.Marks.{the_view}
use Rattle.cdcl_analyze.proofs.Back.{from_later, IsBack, back_one, back_other, back_others, back_unknown, kept_first, shorter_length, shorter_length_back}
use Rattle.cdcl_analyze.proofs.Back.{last_letter, shorter_first}
use Rattle.cdcl_analyze.proofs.marks.Marks.take_back.Goals as goal

pub back-preserved-then-letter-len : goal.back-preserved-then-letter-len
back-preserved-then-letter-len c =
    let here = c.back.invariant in
    let start = c.self.inside.consequences.items in
    let now = c.back.self-inside.consequences.items in
    let shorter = c.truncate.new.self.items in
    let some : 0 < length now = omega arith in
    let last_is : c.len-last.result ≡ length now = omega arith in
    let cut : shorter ≡ take (length now - 1) now = subst (λ n. shorter ≡ take (n - 1) now) last_is c.truncate.ensures.items in
    let first = shorter_length_back start now shorter here.consequences some here.back.few cut in
    let letter = last_letter start now shorter here.consequences some here.back.few cut c.index.result.now
    (subst (λ n. c.index.result.now ≡ get_or now (n - 1) c.index.result.now) last_is c.index.ensures) in
    let below : c.index.result.now.letter < length c.back.self-inside.outcomes.items = omega arith in
    record {
      back = back_one c.self.inside.outcomes.items start (length shorter) c.back.self-inside.outcomes.items
          (subst (λ n. IsBack c.self.inside.outcomes.items start n c.back.self-inside.outcomes.items) first here.back) c.index.result.now.letter letter below;
      consequences = shorter_first start now shorter here.consequences some here.back.few cut;
      low = inl (omega (arith, shorter_length start now shorter here.consequences some here.back.few cut));
      bound = All-set (λ o. o ≤ c.back.self-inside.stamp + 1) c.back.self-inside.outcomes.items c.index.result.now.letter 0 (omega arith) here.bound;
      stamps = here.stamps;
      stamp = here.stamp;
      waiting = here.waiting;
      levels = here.levels;
    }

pub back-preserved : goal.back-preserved
back-preserved c =
    let here = c.back.invariant in
    let start = c.self.inside.consequences.items in
    let now = c.back.self-inside.consequences.items in
    let shorter = c.truncate.new.self.items in
    let some : 0 < length now = omega arith in
    let last_is : c.len-last.result ≡ length now = omega arith in
    let cut : shorter ≡ take (length now - 1) now = subst (λ n. shorter ≡ take (n - 1) now) last_is c.truncate.ensures.items in
    let first = shorter_length_back start now shorter here.consequences some here.back.few cut in
    let letter = last_letter start now shorter here.consequences some here.back.few cut c.index.result.now
    (subst (λ n. c.index.result.now ≡ get_or now (n - 1) c.index.result.now) last_is c.index.ensures) in
    record {
      back = back_other c.self.inside.outcomes.items start (length shorter) c.back.self-inside.outcomes.items
          (subst (λ n. IsBack c.self.inside.outcomes.items start n c.back.self-inside.outcomes.items) first here.back) (omega (arith, letter));
      consequences = shorter_first start now shorter here.consequences some here.back.few cut;
      low = inl (omega (arith, shorter_length start now shorter here.consequences some here.back.few cut));
      bound = here.bound;
      stamps = here.stamps;
      stamp = here.stamp;
      waiting = here.waiting;
      levels = here.levels;
    }

pub returns-clause-rest : goal.returns-clause-rest
returns-clause-rest c =
    let here = c.back.invariant in
    let start = c.self.inside.consequences.items in
    let now = c.back.self-inside.consequences.items in
    let kept = kept_first start now c.args.count here.consequences (omega arith) here.low in
    subst (λ (s : MarksValue). the_view c.back.self-inside ≡ with_consequences (with_outcomes s c.back.self-inside.outcomes.items)
    (take c.args.count s.consequences)) c.self.view_is
    (rw (here.stamps, here.stamp, here.waiting, here.levels, kept) refl)

pub returns-clause-others : goal.returns-clause-others
returns-clause-others c = λ x.
    let here = c.back.invariant in
    let now = c.back.self-inside.consequences.items in
    let old = the_view c.self.inside in
    let new = the_view c.back.self-inside in
    let low : (c.args.count ≤ length now) ⊎ (length old.consequences ≤ length now) =
    elim here.low [ inl high ↦ inl high | inr all ↦ inr (omega (arith, ap length all)) ] in
    subst (λ (s : MarksValue). (outcome_of new x ≡ outcome_of s x) ⊎ IsFrom s c.args.count x) c.self.view_is
    (elim (back_others old new (length now) here.back here.stamp x) [
      | inl e ↦ inl e
      | inr from ↦ inr (from_later old (length now) c.args.count low x from)
    ])

pub returns-clause-unknown : goal.returns-clause-unknown
returns-clause-unknown c = λ x from.
    let now = c.back.self-inside.consequences.items in
    let old = the_view c.self.inside in
    let new = the_view c.back.self-inside in
    let there = subst (λ (s : MarksValue). IsFrom s c.args.count x) (sym c.self.view_is) from in
    back_unknown old new (length now) c.back.invariant.back x (from_later old c.args.count (length now) (inl (omega arith)) x there)
