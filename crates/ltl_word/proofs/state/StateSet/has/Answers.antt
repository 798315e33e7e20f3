use Rattle.std.proofs.Common.{◌≡◌, rules, refl}
use Rattle.std.proofs.lemmas.Fn.{answers_by}
use Rattle.std.specs.Cmp.Lexicographic.{slice_cmp}
use Rattle.std.specs.Ordering.{nat_cmp}
use Rattle.ltl_word.proofs.Lookup.{found_or_not}
use Rattle.ltl_word.proofs.state.StateSet.has.Goals as goal

pub returns : goal.returns
returns c =
    let facts = c.binary_search_by.ensures in
    let by_name = facts.position (λ y. slice_cmp nat_cmp y c.args.name.now)
    (answers_by _ _ (λ f. f.0.now ≡ c.args.name.now) (λ f a r g called same. (search rules, search rules)) _ refl) in
    rw (← c.self.view_is, ← c.deref.ensures.value, c.is_ok.ensures.value)
    (found_or_not c.deref.result.now (rw c.deref.ensures.value c.self.invariant) c.args.name.now c.binary_search_by.result facts.bound by_name)
