-- A clause's literals, each once.
use Rattle.std.proofs.Common.{◌≡◌, ℕ, ◌<◌, ◌≤◌, ◌+◌, ◌⊎◌, inl, inr, List, take, All, Contains, length, get_or, sym, ap, ◌∙◌, subst, arith}
use Rattle.std.proofs.lemmas.List.{take_more, take_all, get_or_default}
use Rattle.std.proofs.lemmas.List.Elements.{All-push, All-weaker, All-contains, All-contains_itself, Contains-get_or}
use Rattle.cnf_base.specs.declared.literal.Literal.{Literal}
use Rattle.cdcl_watches.specs.Watching.{blank}
use Rattle.std.specs.List.{swap}
use Rattle.cdcl_watches.proofs.Moves.{all_swapped, contains_swapped}
use Rattle.cdcl_propagate.specs.Visit.{HaveSame}
use Rattle.cdcl_propagate.specs.Units.{IsOne}

module _ (clause old new : List Literal) (i : ℕ) (low : i < length clause) (kept : All (Contains new) old) where
  pub distinct_there : Contains new (get_or clause i blank) → All (Contains old) (take i clause) → All (Contains new) (take (i + 1) clause)
  distinct_there here there =
      subst (All (Contains new)) (sym (take_more clause i blank low))
      (All-push (Contains new) (take i clause) (get_or clause i blank)
      (All-weaker (Contains old) (Contains new) (λ l h. All-contains (Contains new) old l kept h) (take i clause) there) here)

  pub distinct_back : All (λ l. Contains old l ⊎ (l ≡ get_or clause i blank)) new → All (Contains clause) old → All (Contains clause) new
  distinct_back only back =
      All-weaker (λ l. Contains old l ⊎ (l ≡ get_or clause i blank)) (Contains clause)
      (λ l h. elim h [ inl o ↦ All-contains (Contains clause) old l back o | inr e ↦ subst (Contains clause) (sym e) (Contains-get_or clause i blank low) ])
      new only

pub distinct_whole : (clause out : List Literal) (i : ℕ) → length clause ≤ i → All (Contains out) (take i clause) → All (Contains clause) out
    → HaveSame clause out
distinct_whole clause out i all there back = record { there = subst (All (Contains out)) (take_all i clause all) there; back = back }

-- fewer than two literals are one, or none
pub one_short : (clause r : List Literal) → HaveSame clause r → length r < 2 → IsOne clause
one_short clause r same few l m l_in m_in =
    let l_r = All-contains (Contains r) clause l same.there l_in in
    let m_r = All-contains (Contains r) clause m same.there m_in in
    let at : l_r.0 ≡ m_r.0 = omega (arith, l_r.1, m_r.1, few) in
    sym l_r.2 ∙ get_or_default r l_r.0 l m l_r.1 ∙ ap (λ n. get_or r n m) at ∙ m_r.2

-- two literals of the clause in each other's place
module _ (clause out : List Literal) (a b : ℕ) (a_in : a < length out) (b_in : b < length out) where
  pub same_swapped : HaveSame clause out → HaveSame clause (swap out a b)
  same_swapped same = record {
    there = All-weaker (Contains out) (Contains (swap out a b)) (λ l h. contains_swapped out a b l a_in b_in h) clause same.there;
    back = all_swapped (Contains clause) out a b a_in b_in same.back;
  }

pub same_itself : (clause : List Literal) → HaveSame clause clause
same_itself clause = record { there = All-contains_itself clause; back = All-contains_itself clause }

pub same_again : (a b c : List Literal) → HaveSame a b → HaveSame b c → HaveSame a c
same_again a b c one two = record {
  there = All-weaker (Contains b) (Contains c) (λ l h. All-contains (Contains c) b l two.there h) a one.there;
  back = All-weaker (Contains b) (Contains a) (λ l h. All-contains (Contains a) b l one.back h) c two.back;
}
