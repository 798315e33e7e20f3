-- What may be named has only letters from 1 to the greatest.
use Rattle.std.proofs.Common.{ℕ, zero, suc, ◌<◌, arith, List, map, get_or, All}
use Rattle.std.proofs.lemmas.List.Elements.{All-nil, All-append, All-map}
use Rattle.ltl_syntax.specs.Formula.{Formula}
use Rattle.cnf_base.specs.declared.literal.Literal.{Literal}
use Rattle.cnf_base.specs.Known.{IsKnown, AreKnown}
use Rattle.enc_layout.specs.Letters.{below}
use Rattle.claims.specs.Between.{width, greatest, step_list}
use Rattle.claims.specs.Certificate.{Layer, Certificate, layer_at, at_next, next_claims, both_claims}
use Rattle.claims.specs.Laws.{NamedAreKnown, NextAreKnown}
use Rattle.claims.proofs.Ranging.{letters_known}

module _ (f : Formula) where
  abbrev Known : List Literal → Type 0
  Known clause = All (IsKnown (greatest f)) clause

  own_known : (layer : Layer) → AreKnown (width f) layer.claims → AreKnown (greatest f) layer.claims
  own_known layer known k d lt i e less = let l = known k d lt i e less in record { from_one = l.from_one; within = let h = l.within in omega arith }

  next_known : (layer : Layer) → AreKnown (width f) layer.claims → AreKnown (greatest f) (next_claims (width f) layer)
  next_known layer known = All-map Known (map (at_next (width f))) layer.claims (λ k d lt.
      All-map (IsKnown (greatest f)) (at_next (width f)) (get_or layer.claims k d) (λ i e less.
      let l = known k d lt i e less in
      let one = l.from_one in
      let most = l.within in
      record { from_one = omega (arith, one); within = omega (arith, most) }))

  claims_known : (c : Certificate) (j : ℕ) → ((i : ℕ) → i < j → AreKnown (width f) (layer_at c i).claims)
      → AreKnown (greatest f) (below j (λ i. both_claims (width f) (layer_at c i)))
  claims_known c zero known = All-nil Known
  claims_known c (suc j) known =
      let layer = layer_at c j in
      let it = known j (omega arith) in
      All-append Known (below j (λ i. both_claims (width f) (layer_at c i))) (both_claims (width f) layer) (claims_known c j (λ i lt. known i (omega arith)))
      (All-append Known (next_claims (width f) layer) layer.claims (next_known layer it) (own_known layer it))

pub named_known : NamedAreKnown
named_known f c j known = All-append (Known f) (step_list f) (below j (λ i. both_claims (width f) (layer_at c i))) (letters_known f) (claims_known f c j known)

pub opened_known : NextAreKnown
opened_known f layer known = next_known f layer known
