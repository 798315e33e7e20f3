-- How a replacement goes on: marks, nodes with fresh letters written over them, and the table that they make.
use Rattle.std.proofs.Common.{◌≡◌, ℕ, zero, suc, ◌+◌, ◌<◌, ◌≤◌, ◌⊎◌, inl, inr, subst, ap, arith, sym, refl, ◌∙◌, Bool, true, false, ◌&&◌, lt-ltb, List, [], ◌∷◌}
use Rattle.std.proofs.Common.{◌++◌, length, get_or, slice_get, Some, take, set, All, Contains}
use Rattle.std.proofs.lemmas.Bool.{cases_lt, cases_order}
use Rattle.ltl_syntax.specs.declared.node.Node.{Node}
use Rattle.ltl_syntax.specs.declared.node.Node.TheVariants as nodes
use Rattle.ltl_syntax.specs.Size.{sizes, node_size}
use Rattle.ltl_syntax.specs.Table.{Table, IsTable, MayFollow, Names, tree_at}
use Rattle.ltl_syntax.specs.Replacement.{Places, AreApart, rep}
use Rattle.ltl_syntax.specs.Flat.{count_in, order_at, places_of}
use Rattle.ltl_syntax.specs.Cutting.{AreMarked, marked_places, AreFreshOrSame, AreCut, AreDistinct}
use Rattle.ltl_syntax.proofs.Sizes.{some_node_size}
use Rattle.ltl_syntax.proofs.Overwriting.{may_follow, one_if, counts_one, counts_none, count_more, overwriting_replaces}
use Rattle.ltl_syntax.proofs.Places.{one_set}
use Rattle.ltl_syntax.proofs.Marking.{same_places}
use Rattle.ltl_syntax.proofs.Distinct.{order_low, order_distinct}
use Rattle.std.proofs.lemmas.List.Elements.{Contains-get_or}
use Rattle.std.proofs.lemmas.List.{length-set, get_or-take, length-take-le}
use Rattle.std.proofs.lemmas.Option.{slice_get_within, get_or_from_slice_get}

-- ---- a list with one member written over

set_here : (xs : List Node) (k : ℕ) (x : Node) → k < length xs → slice_get (set xs k x) k ≡ Some x
set_here [] k x lt = absurd (omega arith)
set_here (y ∷ ys) zero x lt = refl
set_here (y ∷ ys) (suc k) x lt = set_here ys k x (omega arith)

set_there : (xs : List Node) (k i : ℕ) (x : Node) → (i ≡ k → ⊥) → slice_get (set xs k x) i ≡ slice_get xs i
set_there [] k i x differ = refl
set_there (y ∷ ys) zero zero x differ = absurd (differ refl)
set_there (y ∷ ys) zero (suc i) x differ = refl
set_there (y ∷ ys) (suc k) zero x differ = refl
set_there (y ∷ ys) (suc k) (suc i) x differ = set_there ys k i x (λ e. differ (ap suc e))

-- ---- nodes with fresh letters written over some

module _ (order : List ℕ) (P : Places) (old : List Node) where
  pub cut_none : AreCut order P 0 old old
  cut_none = record {
    each = (refl, λ i lt. inr refl);
    cut = λ n lt p. absurd (omega arith);
    kept = λ number lt none. refl;
  }

  module _ (k : ℕ) (new : List Node) (h : AreCut order P k old new) where
    -- at a place that is not in P nothing is written
    pub cut_on : P k ≡ false → AreCut order P (k + 1) old new
    cut_on e = record {
      each = h.each;
      cut = λ n lt p. elim (cases_lt n k) [
        | inl before ↦ h.cut n before p
        | inr here ↦ let same : n ≡ k = omega arith in let x : P n ≡ false = ap P same ∙ e in cc
      ];
      kept = λ number lt none. h.kept number lt (λ n before p same. none n (omega arith) p same);
    }

    -- at a place of P a fresh letter is written
    module _ (distinct : AreDistinct order) (low : k < length order) (within : get_or order k 0 < length old) where
      abbrev new' : List Node
      new' = set new (get_or order k 0) (nodes.Fresh (count_in P 0 k))

      here : slice_get new' (get_or order k 0) ≡ Some (nodes.Fresh (count_in P 0 k))
      here = let e = h.each.0 in set_here new (get_or order k 0) (nodes.Fresh (count_in P 0 k)) (omega arith)

      there : (i : ℕ) → (i ≡ get_or order k 0 → ⊥) → slice_get new' i ≡ slice_get new i
      there i differ = set_there new (get_or order k 0) i (nodes.Fresh (count_in P 0 k)) differ

      apart : (i : ℕ) → (i < get_or order k 0) ⊎ (get_or order k 0 < i) → i ≡ get_or order k 0 → ⊥
      apart i (inl l) e = omega arith
      apart i (inr r) e = omega arith

      pub cut_more : P k ≡ true → AreCut order P (k + 1) old new'
      cut_more e = record {
        each = (
          length-set new (get_or order k 0) (nodes.Fresh (count_in P 0 k)) ∙ h.each.0,
          λ i lt. elim (cases_order i (get_or order k 0)) [
            | inl same ↦ inl (count_in P 0 k, subst (λ m. slice_get new' m ≡ Some (nodes.Fresh (count_in P 0 k))) (sym same) here)
            | inr other ↦ elim (h.each.1 i lt) [
              | inl w ↦ inl (w.0, there i (apart i other) ∙ w.1)
              | inr e ↦ inr (there i (apart i other) ∙ e)
            ]
          ],
        );
        cut = λ n lt p. elim (cases_lt n k) [
          | inl before ↦ there (get_or order n 0) (distinct n k before low) ∙ h.cut n before p
          | inr at ↦ let same : n ≡ k = omega arith in subst (λ m. slice_get new' (get_or order m 0) ≡ Some (nodes.Fresh (count_in P 0 m))) (sym same) here
        ];
        kept = λ number lt none. there number (λ same. none k (omega arith) e (sym same)) ∙ h.kept number lt (λ n before p same. none n (omega arith) p same);
      }

-- ---- the table that such nodes make

sizes_less : (old new : List Node) → AreFreshOrSame old new → sizes new ≤ sizes old
sizes_less [] [] h = omega arith
sizes_less [] (y ∷ ys) h = let e = h.0 in absurd (omega arith)
sizes_less (x ∷ xs) [] h = let e = h.0 in absurd (omega arith)
sizes_less (x ∷ xs) (y ∷ ys) h =
    let rest = sizes_less xs ys ((let e = h.0 in omega arith), λ i lt. h.1 (suc i) (omega arith)) in
    let some = some_node_size x in
    elim (h.1 zero (omega arith)) [
      | inl w ↦ let e : y ≡ nodes.Fresh w.0 = cc in let d = ap node_size e in omega arith
      | inr same ↦ let e : y ≡ x = cc in let d = ap node_size e in omega arith
    ]

sizes_to : (ns : List Node) (k : ℕ) (node : Node) → slice_get ns k ≡ Some node → sizes (take k ns) + node_size node ≤ sizes ns
sizes_to [] k node e = absurd (cc)
sizes_to (n ∷ ns) zero node e = let is : n ≡ node = cc in let d = ap node_size is in omega arith
sizes_to (n ∷ ns) (suc k) node e = let i = sizes_to ns k node e in omega arith

get_taken : (ns : List Node) (k i : ℕ) → i < k → slice_get (take k ns) i ≡ slice_get ns i
get_taken [] zero i lt = refl
get_taken [] (suc k) i lt = refl
get_taken (n ∷ ns) zero i lt = absurd (omega arith)
get_taken (n ∷ ns) (suc k) zero lt = refl
get_taken (n ∷ ns) (suc k) (suc i) lt = get_taken ns k i (omega arith)

long_taken : (ns : List Node) (k : ℕ) → k ≤ length ns → length (take k ns) ≡ k
long_taken ns zero lt = refl
long_taken [] (suc k) lt = absurd (omega arith)
long_taken (n ∷ ns) (suc k) lt = ap suc (long_taken ns k (omega arith))

-- the next of the nodes may follow those before it, and there is room for it
pub node_follows : (t u : Table) (new : List Node) (k : ℕ) (node : Node) → IsTable t.nodes t.names → AreFreshOrSame t.nodes new
    → u.names ≡ t.names → u.nodes ≡ take k new → slice_get new k ≡ Some node
    → MayFollow u node × (sizes u.nodes + node_size node ≤ 16384)
node_follows t u new k node is h names so_far e =
    let low = slice_get_within new k node e in
    let long : length u.nodes ≡ k = ap length so_far ∙ long_taken new k (omega arith) in (
      follows long low,
      (let d = ap sizes so_far in let some = sizes_to new k node e in let all = sizes_less t.nodes new h in let room = is.small in omega arith),
    )
  where
    fresh_follows : (n : ℕ) (node : Node) → node ≡ nodes.Fresh n → MayFollow u node
    fresh_follows n node e = subst (MayFollow u) (sym e) tt

    follows : length u.nodes ≡ k → k < length new → MayFollow u node
    follows long low = elim (h.1 k (let d = h.0 in omega arith)) [
      | inl w ↦ fresh_follows w.0 node (cc)
      | inr same ↦ may_follow t u is names (λ i lt.
          let here : slice_get u.nodes i ≡ slice_get new i = ap (λ ns. slice_get ns i) so_far ∙ get_taken new k i (omega arith) in
          elim (h.1 i (let d = h.0 in omega arith)) [
            | inl w ↦ inl (w.0, here ∙ w.1)
            | inr e' ↦ inr (here ∙ e')
          ]) node (ap (slice_get t.nodes) long ∙ (sym same ∙ e))
    ]

-- ---- the members before a place, with one more

pub take_next : {X : Type 0} (xs : List X) (k : ℕ) (x : X) → slice_get xs k ≡ Some x → take (k + 1) xs ≡ take k xs ++ x ∷ []
take_next [] k x e = absurd (cc)
take_next (y ∷ ys) zero x e = let is : y ≡ x = cc in ap (λ z. z ∷ []) is
take_next (y ∷ ys) (suc k) x e = let one : suc k + 1 ≡ suc (k + 1) = omega arith in ap (λ m. take m (y ∷ ys)) one ∙ ap (λ zs. y ∷ zs) (take_next ys k x e)

default_free : {X : Type 0} (xs : List X) (n : ℕ) (d e : X) → n < length xs → get_or xs n d ≡ get_or xs n e
default_free [] n d e lt = absurd (omega arith)
default_free (x ∷ xs) zero d e lt = refl
default_free (x ∷ xs) (suc n) d e lt = default_free xs n d e (omega arith)

-- ---- a place with its mark

pub marked_at : (order : List ℕ) (marks : List Bool) (k x : ℕ) (b : Bool) → k < length order → x ≡ get_or order k x → x < length marks → b ≡ get_or marks x b
    → marked_places order marks k ≡ b
marked_at order marks k x b low number within mark =
    let here : get_or order k 0 ≡ x = default_free order k 0 x low ∙ sym number in
    ap (λ c. c && get_or marks (get_or order k 0) false) (lt-ltb k (length order) low)
    ∙ (ap (λ i. get_or marks i false) here ∙ (default_free marks x false b within ∙ sym mark))

module _ (order : List ℕ) (marks : List Bool) (old new : List Node) (k x next : ℕ) (low : k < length order) (number : x ≡ get_or order k x)
    (long : length marks ≡ length old) (within : get_or order k x < length old)
    (h : AreCut order (marked_places order marks) k old new) (counted : next ≡ count_in (marked_places order marks) 0 k) where
  at_place : get_or order k 0 ≡ x
  at_place = default_free order k 0 x low ∙ sym number

  marks_within : x < length marks
  marks_within = omega arith

  more : count_in (marked_places order marks) 0 (k + 1) ≡ count_in (marked_places order marks) 0 k + one_if (marked_places order marks k)
  more = let one : k + 1 ≡ suc k = omega arith in let here : 0 + k ≡ k = omega arith in
      ap (count_in (marked_places order marks) 0) one
      ∙ (count_more (marked_places order marks) 0 k ∙ ap (λ m. count_in (marked_places order marks) 0 k + one_if (marked_places order marks m)) here)

  pub unmarked : (b : Bool) → b ≡ get_or marks x b
      → b ≡ false → AreCut order (marked_places order marks) (k + 1) old new × (next ≡ count_in (marked_places order marks) 0 (k + 1))
  unmarked b mark e =
      let p : marked_places order marks k ≡ false = marked_at order marks k x b low number marks_within mark ∙ e in (
        cut_on order (marked_places order marks) old k new h p,
        (let m = more in let c = counts_none (marked_places order marks) k p in omega (arith, m, c, counted)),
      )

  pub written : (b : Bool) → b ≡ get_or marks x b → b ≡ true → AreDistinct order
      → AreCut order (marked_places order marks) (k + 1) old (set new x (nodes.Fresh next)) × (next + 1 ≡ count_in (marked_places order marks) 0 (k + 1))
  written b mark e distinct =
      let p : marked_places order marks k ≡ true = marked_at order marks k x b low number marks_within mark ∙ e in
      let there : get_or order k 0 < length old = omega (arith, at_place, number) in
      let cut = cut_more order (marked_places order marks) old k new h distinct low there p in (
        subst (λ i. AreCut order (marked_places order marks) (k + 1) old (set new i (nodes.Fresh next))) at_place
            (subst (λ m. AreCut order (marked_places order marks) (k + 1) old (set new (get_or order k 0) (nodes.Fresh m))) (sym counted) cut),
        (let m = more in let c = counts_one (marked_places order marks) k p in omega (arith, m, c, counted)),
      )

-- ---- names in their order

pub name_follows : (old new : Table) (names : List (List ℕ)) (k number : ℕ) (text : List ℕ)
    → ((i j : ℕ) → i < j → j < length names → get_or names i [] ≡ get_or names j [] → ⊥)
    → slice_get names k ≡ Some text → Names old text number new → old.nodes ≡ [] → old.names ≡ take k names
    → (new.nodes ≡ []) × (new.names ≡ take (k + 1) names)
name_follows old new names k number text distinct e h nodes so_far =
    let low = slice_get_within names k text e in
    let long : length old.names ≡ k = ap length so_far ∙ length-take-le k names (omega arith) in
    let added = h.added (λ i lt same. distinct i k (omega arith) low (
    sym (get_or-take k names i [] (omega arith)) ∙ (ap (λ ns. get_or ns i []) (sym so_far) ∙ (same ∙ sym (get_or_from_slice_get names k text [] e))))) in
    (h.nodes ∙ nodes, added.1 ∙ (ap (λ ns. ns ++ text ∷ []) so_far ∙ sym (take_next names k text e)))

-- ---- the whole

pub order_within : (t : Table) (root : ℕ) (order : List ℕ) (ns : List Node) → IsTable t.nodes t.names → root < length t.nodes → order ≡ order_at t root
    → ns ≡ t.nodes → All (λ number. number < length ns) order
order_within t root order ns is lt same nodes k d low =
    let member : Contains (order_at t root) (get_or order k d) = subst (λ xs. Contains xs (get_or order k d)) same (Contains-get_or order k d low) in
    let i = order_low t is root lt (get_or order k d) member in
    let e = ap length nodes in omega arith

pub order_apart : (t : Table) (root : ℕ) (order : List ℕ) → IsTable t.nodes t.names → root < length t.nodes → order ≡ order_at t root → AreDistinct order
order_apart t root order is lt same = subst AreDistinct (sym same) (order_distinct t is root lt)

pub replaced_tree : (t u : Table) (root : ℕ) (order numbers : List ℕ) (marks : List Bool) (ns ns' : List Node) → IsTable t.nodes t.names
    → IsTable u.nodes u.names → root < length t.nodes → order ≡ order_at t root → ns ≡ t.nodes
    → AreMarked numbers marks → AreCut order (marked_places order marks) (length order) ns ns'
    → u.nodes ≡ ns' → u.names ≡ t.names → AreApart (tree_at t root) (places_of t root numbers)
    → tree_at u root ≡ rep (tree_at t root) (places_of t root numbers)
replaced_tree t u root order numbers marks ns ns' is is' lt same old marked cut new names apart =
    let P = marked_places (order_at t root) marks in
    let one : marked_places (order_at t root) marks ≡ places_of t root numbers =
    one_set P (places_of t root numbers) (same_places t root numbers marks marked) in
    let here : AreCut (order_at t root) P (length (order_at t root)) ns ns' = subst (λ xs. AreCut xs (marked_places xs marks) (length xs) ns ns') same cut in
    let there : AreCut (order_at t root) P (length (order_at t root)) t.nodes u.nodes =
    subst (λ ms. AreCut (order_at t root) P (length (order_at t root)) t.nodes ms) (sym new)
    (subst (λ ms. AreCut (order_at t root) P (length (order_at t root)) ms ns') old here) in
    overwriting_replaces t u is is' root lt P (subst (AreApart (tree_at t root)) (sym one) apart) (record { names = names; cut = there.cut; kept = there.kept })
    ∙ ap (rep (tree_at t root)) one
