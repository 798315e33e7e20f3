-- The loop that copies marked nodes in the order of their numbers: one node, marked or not, and what it comes to.
use Rattle.std.proofs.Common.{◌≡◌, ◌≢◌, ℕ, suc, ◌+◌, ◌<◌, ◌≤◌, ◌⊎◌, ◌↔◌, inl, inr, ◌&&◌, ltb, cond, Bool, true, false, IsTrue, IsFalse, List, [], ◌∷◌, ◌++◌}
use Rattle.std.proofs.Common.{length, get_or, slice_get, Some, refl, sym, ap, subst, ◌∙◌, arith, add-one}
use Rattle.std.proofs.lemmas.Bool.Decides.{nat_tests}
use Rattle.std.proofs.lemmas.Option.{get_or_from_slice_get}
use Rattle.std.proofs.lemmas.List.{get_or_read}
use Rattle.std.proofs.Math.ListN.{get_or-append}
use Rattle.std.proofs.Math.Seq.{get_or-append_seam}
use Rattle.ltl_syntax.specs.declared.node.Node.{Node}
use Rattle.ltl_syntax.specs.declared.node.Node.TheVariants as nodes
use Rattle.ltl_syntax.specs.Size.{sizes, node_size, formula_size, HasOrder}
use Rattle.ltl_syntax.specs.Table.{Table, tree_at, IsTable, IsRoot, MayFollow, Pushes}
use Rattle.ltl_syntax.specs.Under.{IsUnder, Here, Below, size_at}
use Rattle.ltl_syntax.proofs.Distinct.{child_before}
use Rattle.ltl_syntax.proofs.Under.{under_low}
use Rattle.formula_copy.specs.Part.{Marks, sum_below, marked_size}
use Rattle.formula_copy.specs.Copy.{Numbers, numbers_in, done, moved, IsMoved, IsCopyOfNode, StandsOnRoots, IsCopied, IsCopyOf, IsNode, IsNext}
use Rattle.formula_copy.specs.Copy.{HasGrown}
use Rattle.formula_copy.proofs.Pushed.{pushed_size, pushed_length}
use Rattle.formula_copy.proofs.Sums.{equal_or_not, sum_grows, size_under}
use Rattle.formula_copy.proofs.CopySteps.{stands, may_follow, names_stay, goes_on, ends}

below_true : (n k : ℕ) → n < k → ltb n k ≡ true
below_true n k h = grind (arith, nat_tests)

true_below : (n k : ℕ) → ltb n k ≡ true → n < k
true_below n k h = grind (arith, nat_tests)

both_true : (a b : Bool) → (a && b) ≡ true → (a ≡ true) × (b ≡ true)
both_true true b e = (refl, e)
both_true false b e = absurd (cc)

true_both : (a b : Bool) → a ≡ true → b ≡ true → (a && b) ≡ true
true_both true b e d = d
true_both false b e d = absurd (cc)

-- ---- which nodes are copied

is_done : (M : Marks) (k n : ℕ) → n < k → IsTrue (M n) → IsTrue (done M k n)
is_done M k n lt h = true_both (ltb n k) (M n) (below_true n k lt) h

done_is : (M : Marks) (k n : ℕ) → IsTrue (done M k n) → (n < k) × IsTrue (M n)
done_is M k n h = let w = both_true (ltb n k) (M n) h in (true_below n k w.0, w.1)

not_done : (M : Marks) (k : ℕ) → IsFalse (done M k k)
not_done M k = go (done M k k) refl
  where
    go : (b : Bool) → done M k k ≡ b → IsFalse b
    go true e = absurd (omega (arith, (done_is M k k e).0))
    go false e = refl

done_more : (M : Marks) (k n : ℕ) → IsTrue (M k) → IsTrue (done M (suc k) n) ↔ (IsTrue (done M k n) ⊎ (n ≡ k))
done_more M k n at = (
  λ h. let w = done_is M (suc k) n h in elim (equal_or_not n k) [ inl e ↦ inr e | inr ne ↦ inl (is_done M k n (omega (arith, w.0)) w.1) ],
  λ h. elim h [
    | inl before ↦ let w = done_is M k n before in is_done M (suc k) n (omega (arith, w.0)) w.1
    | inr e ↦ is_done M (suc k) n (omega arith) (subst (λ m. IsTrue (M m)) (sym e) at)
  ],
)

-- the loop's facts at the same nodes and numbers
same_copied : (s old t : Table) (D D' : Marks) (new new' : Numbers) → ((n : ℕ) → IsTrue (D' n) ↔ IsTrue (D n)) → ((n : ℕ) → IsTrue (D n) → new' n ≡ new n)
    → IsCopied s D new old t → IsCopied s D' new' old t
same_copied s old t D D' new new' same e w = record {
  size = w.size;
  there = λ j d. let h = w.there j ((same j).0 d) in let q = e j ((same j).0 d) in omega (arith, h, q);
  behind = λ j d. let h = w.behind j ((same j).0 d) in let q = e j ((same j).0 d) in omega (arith, h, q);
  apart = λ i j di dj ne eq. w.apart i j ((same i).0 di) ((same j).0 dj) ne (sym (e i ((same i).0 di)) ∙ (eq ∙ e j ((same j).0 dj)));
  tree = λ j d. ap (tree_at t) (e j ((same j).0 d)) ∙ w.tree j ((same j).0 d);
  root = λ j d un. subst (IsRoot t) (sym (e j ((same j).0 d))) (w.root j ((same j).0 d) (λ i node di. un i node ((same i).1 di)));
  below = λ a i node d. w.below a i node ((same i).0 d);
  others = w.others;
  roots = w.roots;
}

module _ (list : List ℕ) (k number : ℕ) (count : length list ≡ k) where
  new_number : numbers_in (list ++ number ∷ []) k ≡ number
  new_number = ap (λ n. get_or (list ++ number ∷ []) n 0) (sym count) ∙ get_or-append_seam list number [] 0

  old_number : (n : ℕ) → n < k → numbers_in (list ++ number ∷ []) n ≡ numbers_in list n
  old_number n lt = get_or-append list (number ∷ []) 0 n (omega (arith, count))

-- ---- one node

module _ (s old t : Table) (root k : ℕ) (M : Marks) (list : List ℕ)
    (under : (n : ℕ) → IsTrue (M n) ↔ IsUnder s root n) (w : IsCopied s (done M k) (numbers_in list) old t) where
  pub skipped : (number : ℕ) (next : List ℕ) → M k ≡ false → length list ≡ k → next ≡ list ++ number ∷ [] → IsCopied s (done M (k + 1)) (numbers_in next) old t
  skipped number next none count e =
      subst (λ l. IsCopied s (done M (k + 1)) (numbers_in l) old t) (sym e)
      (rw (add-one k) (same_copied s old t (done M k) (done M (suc k)) (numbers_in list) (numbers_in (list ++ number ∷ [])) same
      (λ n d. old_number list k number count n (done_is M k n d).0) w))
    where
      not_k : (n : ℕ) → IsTrue (M n) → n ≢ k
      not_k n h eq = let f : M n ≡ false = ap M eq ∙ none in absurd (cc)

      same : (n : ℕ) → IsTrue (done M (suc k) n) ↔ IsTrue (done M k n)
      same n = (
        λ h. let d = done_is M (suc k) n h in let ne = not_k n d.1 in is_done M k n (omega (arith, d.0)) d.1,
        λ h. let d = done_is M k n h in is_done M (suc k) n (omega (arith, d.0)) d.1,
      )

  module _ (node : Node) (table : IsTable s.nodes s.names) (is : IsNode s k node) (at : M k ≡ true) where
    next_node : IsNext (done M k) k node
    next_node = record {
      children = λ a child. is_done M k a (child_before s table k node is.is a child) ((under a).1 (Below k a node ((under k).0 at) is.is child));
      new = not_done M k;
    }

    pub stands_on : StandsOnRoots t (numbers_in list) node
    stands_on = stands s old t (done M k) (numbers_in list) w k k node table is next_node

    pub copied_on : (t' : Table) (number : ℕ) (next : List ℕ) → IsCopyOfNode s (numbers_in list) node t t' number
        → length list ≡ k → next ≡ list ++ number ∷ [] → IsCopied s (done M (k + 1)) (numbers_in next) old t'
    copied_on t' number next copy count e =
        let kept = names_stay s old t (done M k) (numbers_in list) w copy.middle copy.keeps in
        let long : length copy.middle.nodes ≡ length t.nodes = ap length copy.keeps.nodes in
        subst (λ l. IsCopied s (done M (k + 1)) (numbers_in l) old t') (sym e)
        (rw (add-one k) (goes_on s old copy.middle (done M k) (numbers_in list) kept k copy.letter t' (done M (suc k)) (numbers_in (list ++ number ∷ []))
        node table is next_node copy.named copy.pushed record {
          done = λ n. done_more M k n at;
          here = new_number list k number count ∙ (copy.number_is ∙ sym long);
          others = λ n d. old_number list k number count n (done_is M k n d).0;
        }))

-- the copied root
pub copied : (s old t : Table) (root k number : ℕ) (M : Marks) (list : List ℕ) → IsTable s.nodes s.names → root < length s.nodes
    → ((n : ℕ) → IsTrue (M n) ↔ IsUnder s root n) → suc root ≤ k → length list ≡ k → number ≡ get_or list root number
    → IsCopied s (done M k) (numbers_in list) old t → IsCopyOf s root old t number
copied s old t root k number M list table there under high count read w =
    let d = is_done M k root (omega arith) ((under root).1 (Here root refl)) in
    let e = ends s old t (done M k) (numbers_in list) root w d (λ n h. under_low s table root there n ((under n).0 (done_is M k n h).1)) in
    let same : numbers_in list root ≡ number = sym (get_or_read list root number (omega (arith, count)) read 0) in
    record {
      behind = let h = w.behind root d in omega (arith, h, same);
      is_root = subst (IsRoot t) same e.0;
      tree = ap (tree_at t) (sym same) ∙ e.1;
      size = w.size;
      others = w.others;
      roots = w.roots;
    }

-- ---- how much it takes

same_size : (new : Numbers) (letter : ℕ) (node : Node) → node_size (moved new letter node) ≡ node_size node
same_size new letter (nodes.Const b) = refl
same_size new letter other = refl

pub may_put : (s t t' : Table) (new : Numbers) (node copy : Node) → StandsOnRoots t new node → HasOrder node → IsMoved s new node t t' copy → MayFollow t' copy
may_put s t t' new node copy roots order m = subst (MayFollow t') (sym m.is) (may_follow s t t' new m.letter node roots order m.named m.keeps)

pub moved_size : (s t t' : Table) (new : Numbers) (node copy : Node) → IsMoved s new node t t' copy → node_size copy ≡ node_size node
moved_size s t t' new node copy m = ap node_size m.is ∙ same_size new m.letter node

pub grown_node : (s t t' t'' : Table) (new : Numbers) (node copy : Node) → IsMoved s new node t t' copy → length t.names ≤ length t.nodes → Pushes t' copy t''
    → HasGrown t t'' (node_size node)
grown_node s t t' t'' new node copy m few p =
    let long : length t'.nodes ≡ length t.nodes = ap length m.keeps.nodes in
    let size : sizes t'.nodes ≡ sizes t.nodes = ap sizes m.keeps.nodes in
    let names : length t''.names ≡ length t'.names = ap length p.names in
    record {
      sizes = omega (arith, pushed_size p, size, moved_size s t t' new node copy m);
      names = omega (arith, pushed_length p, long, names, m.keeps.names, few);
    }

module _ (s : Table) (root k : ℕ) (M : Marks) where
  here_size : (node : Node) → slice_get s.nodes k ≡ Some node → M k ≡ true → marked_size s M k ≡ node_size node
  here_size node is at = ap (λ b. cond b (size_at s k) 0) at ∙ ap node_size (get_or_from_slice_get s.nodes k node (nodes.Const false) is)

  pub grown_on : (old t t' : Table) (node : Node) → slice_get s.nodes k ≡ Some node → M k ≡ true → HasGrown old t (sum_below (marked_size s M) k)
      → HasGrown t t' (node_size node) → HasGrown old t' (sum_below (marked_size s M) (k + 1))
  grown_on old t t' node is at before more = rw (add-one k) (let r : HasGrown old t' (sum_below (marked_size s M) (suc k)) = record {
    sizes = omega (arith, before.sizes, more.sizes, here_size node is at);
    names = more.names;
  } in r)

  pub grown_skip : (old t : Table) → M k ≡ false → HasGrown old t (sum_below (marked_size s M) k) → HasGrown old t (sum_below (marked_size s M) (k + 1))
  grown_skip old t none before =
      let zero_size : marked_size s M k ≡ 0 = ap (λ b. cond b (size_at s k) 0) none in
      rw (add-one k)
      (let r : HasGrown old t (sum_below (marked_size s M) (suc k)) = record { sizes = omega (arith, before.sizes, zero_size); names = before.names } in r)

  pub room_for : (old t : Table) (node : Node) (size : ℕ) → IsTable s.nodes s.names → root < length s.nodes
      → ((n : ℕ) → IsTrue (M n) ↔ IsUnder s root n) → k < suc root → slice_get s.nodes k ≡ Some node
      → M k ≡ true → size ≡ formula_size (tree_at s root) → sizes old.nodes + size ≤ 16384
      → HasGrown old t (sum_below (marked_size s M) k) → sizes t.nodes + node_size node ≤ 16384
  room_for old t node size table there under low is at e room before =
      let part = sum_grows (marked_size s M) (suc k) (suc root) low in
      omega (arith, before.sizes, here_size node is at, size_under s table root there M under, part, e, room)

  pub grown_all : (old t : Table) (size : ℕ) → IsTable s.nodes s.names → root < length s.nodes → ((n : ℕ) → IsTrue (M n) ↔ IsUnder s root n) → k ≡ suc root
      → size ≡ formula_size (tree_at s root) → HasGrown old t (sum_below (marked_size s M) k) → HasGrown old t size
  grown_all old t size table there under end e is =
      subst (HasGrown old t) (ap (sum_below (marked_size s M)) end ∙ (size_under s table root there M under ∙ sym e)) is
