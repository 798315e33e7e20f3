use Rattle.std.proofs.Common.{◌↔◌, [], ◌∷◌, All, Contains}
use Rattle.cert_check.proofs.targets.are_among.Given as goal

abbrev pub invariant-literals : goal.invariant-literals
invariant-literals l = record {
  can : (goal.iterator-literals).can_next l.literal-iterator;
  finite : (goal.iterator-literals).is_finite l.literal-iterator;
  same : All (Contains (l.first ∷ l.second ∷ [])) l.literal-iterator ↔ All (Contains (l.first ∷ l.second ∷ [])) l.fn.literals;
}
