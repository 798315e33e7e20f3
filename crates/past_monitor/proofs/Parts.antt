-- A step of the parts: their values are those of their formulas, and what they keep is right for one state more.
use Rattle.std.proofs.Common.{◌≡◌, ℕ, zero, suc, ◌-◌, ◌<◌, ◌≤◌, inl, inr, ◌↔◌, refl, sym, subst, ap, ap₂, ◌∙◌, arith, set, length-set, Bool, false, List, []}
use Rattle.std.proofs.Common.{◌∷◌, ◌++◌, length, take, slice_index_or, Contains, IsTrue}
use Rattle.std.proofs.Math.ListN.{get_or-map}
use Rattle.std.proofs.lemmas.Bool.{cases_lt}
use Rattle.std.proofs.lemmas.List.{length-map, same_lists, get_or-set_other, get_or-set_same}
use Rattle.std.proofs.lemmas.List.{get_or-map as get_or-map-within}
use Rattle.ltl_syntax.specs.declared.node.UnaryOp.{UnaryOp}
use Rattle.ltl_syntax.specs.declared.node.BinaryOp.{BinaryOp}
use Rattle.ltl_syntax.specs.declared.node.BinaryOp.TheVariants as two
use Rattle.ltl_syntax.specs.declared.node.Node.{Node}
use Rattle.ltl_syntax.specs.declared.node.Node.TheVariants as nodes
use Rattle.ltl_syntax.specs.Formula.{Name, Fresh, Formula, Const, Letter, Unary, Binary}
use Rattle.ltl_syntax.specs.Table.{made, trees_after}
use Rattle.ltl_syntax.specs.Roots.{HasChildrenBelow}
use Rattle.ltl_word.specs.declared.trace.Trace.TheVariants.{Finite}
use Rattle.ltl_word.specs.Trace.{Names}
use Rattle.ltl_word.specs.Claims.{Claim}
use Rattle.ltl_word.specs.Holds.{Holds, name_of}
use Rattle.past_monitor.specs.declared.part.Part.{Part}
use Rattle.past_monitor.specs.Past.{IsPast}
use Rattle.past_monitor.specs.Kept.{AreKept, reach₁, reach₂, watched₁}
use Rattle.past_monitor.specs.Monitor.{MonitorValue, formula_at, StandAbove, AreAll, StandsFor, IsStep}
use Rattle.past_monitor.specs.Ring.{RingValue, taken}
use Rattle.past_monitor.specs.Part.{no_ring, ring₁, ring₂, ring_of, value₁, value₂, value_at, IsValue, joining₁, joining, IsNamed, IsPart, part_at, nodes_of}
use Rattle.past_monitor.specs.Part.{kept_of, rooms_of, formulas_of, AreParts, HaveChildrenBelow, part_after, AreSteppedTo, AreStepped, IsMonitor}
use Rattle.past_monitor.proofs.Trees.{made_at, length-formulas}
use Rattle.past_monitor.proofs.Values.{one_right, two_right, joins_right, kept_next, past_watched}

-- an operator's ring has room for as many values as are kept
room₂ : (op : BinaryOp) (values : List Bool) → (ring₂ op values).room ≡ reach₂ op
room₂ two.And values = refl
room₂ op values = refl

-- an operator's new ring has no values
pub no_values₂ : (op : BinaryOp) → (ring₂ op []).values ≡ []
no_values₂ two.And = refl
no_values₂ op = refl

-- after a value more it is the ring of its node
taken₂ : (op : BinaryOp) (values : List Bool) (x : Bool) → taken (ring₂ op values) x ≡ ring₂ op (taken (ring₂ op values) x).values
taken₂ two.And values x = refl
taken₂ op values x = refl

ring_taken : (node : Node) (values : List Bool) (x : Bool) → taken (ring_of node values) x ≡ ring_of node (taken (ring_of node values) x).values
ring_taken (nodes.Binary op a b) values x = taken₂ op values x
ring_taken other values x = refl

at_end : (t : List Names) (state : Names) → slice_index_or (t ++ state ∷ []) (length t) [] ≡ state
at_end [] state = refl
at_end (x ∷ t) state = at_end t state

-- formulas at the states t followed by one
module _ (names : List (List ℕ)) (trees : List Formula) (t : List Names) (state : Names) where
  abbrev U : Formula → Claim
  U = Holds (Finite (t ++ state ∷ []))

  -- the values below a place are those of the formulas there
  abbrev pub AreTold : ℕ → List Bool → Type 0
  AreTold n values = (j : ℕ) → j < n → IsTrue (value_at values j) ↔ U (formula_at trees j) (length t)

  same_value : (v w : Bool) (P : Type 0) → v ≡ w → IsTrue w ↔ P → IsTrue v ↔ P
  same_value v w P e h = subst (λ x. IsTrue x ↔ P) (sym e) h

  letter_right : (name bytes : List ℕ) (v : Bool) → name ≡ bytes → IsTrue v ↔ Contains state name
      → IsTrue v ↔ Contains (slice_index_or (t ++ state ∷ []) (length t) []) bytes
  letter_right name bytes v e h = subst (λ s. IsTrue v ↔ Contains s bytes) (sym (at_end t state)) (subst (λ b. IsTrue v ↔ Contains state b) e h)

  pub node_right : (i : ℕ) (node : Node) (name : List ℕ) (kept values : List Bool) (v : Bool) → HasChildrenBelow i node → IsNamed names node name
      → IsPast (made names trees node)
      → AreKept t (made names trees node) kept → IsValue state values node name (ring_of node kept) v → AreTold i values
      → IsTrue v ↔ U (made names trees node) (length t)
  node_right i (nodes.Const b) name kept values v below named past are is told = same_value v b (IsTrue b) is (λ h. h, λ h. h)
  node_right i (nodes.Letter m) name kept values v below named past are is told = letter_right name (slice_index_or names m []) v named is
  node_right i (nodes.Fresh m) name kept values v below named past are is told = letter_right name (name_of (Fresh m)) v named is
  node_right i (nodes.Unary op a) name kept values v below named past are is told =
      same_value v (value₁ op (ring₁ op kept) (value_at values a)) (U (Unary op (formula_at trees a)) (length t)) is
      (one_right t state op (formula_at trees a) kept (value_at values a) past are (told a below))
  node_right i (nodes.Binary op a b) name kept values v below named past are is told =
      same_value v (value₂ op (ring₂ op kept) (value_at values a) (value_at values b)) (U (Binary op (formula_at trees a) (formula_at trees b)) (length t)) is
      (two_right t state op (formula_at trees a) (formula_at trees b) kept (value_at values a) (value_at values b) past are (told a below.0) (told b below.1))

  -- what is kept after the state
  next_one : (op : UnaryOp) (f : Formula) (kept : List Bool) (v w : Bool) → IsPast (Unary op f) → AreKept t (Unary op f) kept → IsTrue v ↔ U f (length t)
      → IsTrue w ↔ U (Unary op f) (length t)
      → AreKept (t ++ state ∷ []) (Unary op f) (take (ring₁ op kept).room (joining₁ op v w ∷ kept))
  next_one op f kept v w past are r s =
      kept_next t state (watched₁ op f) (past_watched op f past) (reach₁ op) kept are (joining₁ op v w) (joins_right t state op f v w r s)

  next_two : (op : BinaryOp) (f g : Formula) (kept : List Bool) (w : Bool) → IsPast (Binary op f g) → AreKept t (Binary op f g) kept
      → IsTrue w ↔ U (Binary op f g) (length t)
      → AreKept (t ++ state ∷ []) (Binary op f g) (take (ring₂ op kept).room (w ∷ kept))
  next_two op f g kept w past are s =
      subst (λ k. AreKept (t ++ state ∷ []) (Binary op f g) (take k (w ∷ kept))) (sym (room₂ op kept))
      (kept_next t state (Binary op f g) past (reach₂ op) kept are w s)

  pub node_kept : (i : ℕ) (node : Node) (kept values : List Bool) (v : Bool) → HasChildrenBelow i node → IsPast (made names trees node)
      → AreKept t (made names trees node) kept → IsTrue v ↔ U (made names trees node) (length t) → AreTold i values
      → AreKept (t ++ state ∷ []) (made names trees node) (take (ring_of node kept).room (joining values node v ∷ kept))
  node_kept i (nodes.Const b) kept values v below past are right told = kept_next t state (Const b) past 0 kept are v right
  node_kept i (nodes.Letter m) kept values v below past are right told = kept_next t state (Letter (Name (slice_index_or names m []))) past 0 kept are v right
  node_kept i (nodes.Fresh m) kept values v below past are right told = kept_next t state (Letter (Fresh m)) past 0 kept are v right
  node_kept i (nodes.Unary op a) kept values v below past are right told =
      next_one op (formula_at trees a) kept (value_at values a) v past are (told a below) right
  node_kept i (nodes.Binary op a b) kept values v below past are right told = next_two op (formula_at trees a) (formula_at trees b) kept v past are right

-- ---- the loop

-- the value of a node depends on the values before its place alone
same_is : (state : Names) (values values' : List Bool) (i : ℕ) (node : Node) (name : List ℕ) (r : RingValue) (v : Bool) → HasChildrenBelow i node
    → ((j : ℕ) → j < i → value_at values' j ≡ value_at values j)
    → IsValue state values node name r v → IsValue state values' node name r v
same_is state values values' i (nodes.Unary op a) name r v below same is = is ∙ ap (value₁ op r) (sym (same a below))
same_is state values values' i (nodes.Binary op a b) name r v below same is = is ∙ ap₂ (value₂ op r) (sym (same a below.0)) (sym (same b below.1))
same_is state values values' i other name r v below same is = is

same_joining : (values values' : List Bool) (i : ℕ) (node : Node) (v : Bool) → HasChildrenBelow i node
    → ((j : ℕ) → j < i → value_at values' j ≡ value_at values j) → joining values node v ≡ joining values' node v
same_joining values values' i (nodes.Unary op a) v below same = ap (λ x. joining₁ op x v) (sym (same a below))
same_joining values values' i other v below same = refl

pub begun : (state : Names) (parts : List Part) (values : List Bool) → length values ≡ length parts → AreSteppedTo 0 state parts parts values
begun state parts values long = record {
  long = refl;
  long_values = long;
  right = λ i lt. absurd (omega arith);
  after = λ i lt. absurd (omega arith);
  rest = λ i le. refl;
}

-- one part more
pub stepped : (state : Names) (old now now' : List Part) (values values' : List Bool) (n : ℕ) (p : Part) (v : Bool) → HaveChildrenBelow old → n < length old
    → AreSteppedTo n state old now values
    → IsValue state values (part_at now n).node (part_at now n).name (part_at now n).kept v → p ≡ part_after values v (part_at now n) → now' ≡ set now n p
    → values' ≡ set values n v
    → AreSteppedTo (suc n) state old now' values'
stepped state old now now' values values' n p v below low is valued taken' e f =
    let here : part_at now n ≡ part_at old n = is.rest n (omega arith) in
    let others : (j : ℕ) → (j ≡ n → ⊥) → value_at values' j ≡ value_at values j =
    λ j other. ap (λ vs. value_at vs j) f ∙ get_or-set_other values n j v false other in
    let at : value_at values' n ≡ v = ap (λ vs. value_at vs n) f ∙ get_or-set_same values n v false (omega (arith, is.long_values)) in
    let other_parts : (j : ℕ) → (j ≡ n → ⊥) → part_at now' j ≡ part_at now j =
    λ j other. ap (λ ps. part_at ps j) e ∙ get_or-set_other now n j p (record { node = nodes.Const false; name = []; kept = no_ring [] }) other in
    let part : part_at now' n ≡ p =
    ap (λ ps. part_at ps n) e ∙ get_or-set_same now n p (record { node = nodes.Const false; name = []; kept = no_ring [] }) (omega (arith, is.long)) in
    let before : (i : ℕ) → i ≤ n → (j : ℕ) → j < i → value_at values' j ≡ value_at values j = λ i le j lt. others j (λ e'. absurd (omega arith)) in
    record {
      long = ap length e ∙ (length-set now n p ∙ is.long);
      long_values = ap length f ∙ (length-set values n v ∙ is.long_values);
      right = λ i lt. elim (cases_lt i n) [
        | inl less ↦
            let q = part_at old i in
            subst (IsValue state values' q.node q.name q.kept) (sym (others i (λ e'. absurd (omega arith))))
            (same_is state values values' i q.node q.name q.kept (value_at values i) (below i (omega arith)) (before i (omega arith)) (is.right i less))
        | inr ge ↦
            let eq : n ≡ i = omega arith in
            let q = part_at old n in
            let now_q : IsValue state values q.node q.name q.kept v = subst (λ (x : Part). IsValue state values x.node x.name x.kept v) here valued in
            let then_q : IsValue state values' q.node q.name q.kept (value_at values' n) = subst (IsValue state values' q.node q.name q.kept) (sym at)
            (same_is state values values' n q.node q.name q.kept v (below n low) (before n (omega arith)) now_q) in
            subst (λ k. IsValue state values' (part_at old k).node (part_at old k).name (part_at old k).kept (value_at values' k)) eq then_q
      ];
      after = λ i lt. elim (cases_lt i n) [
        | inl less ↦
            let q = part_at old i in
            other_parts i (λ e'. absurd (omega arith)) ∙ (is.after i less
            ∙ (ap (λ x. part_after values x q) (sym (others i (λ e'. absurd (omega arith)))) ∙ ap (λ x. record q { kept = taken q.kept x })
            (same_joining values values' i q.node (value_at values' i) (below i (omega arith)) (before i (omega arith)))))
        | inr ge ↦
            let eq : n ≡ i = omega arith in
            let q = part_at old n in
            let then_q : part_at now' n ≡ part_after values' (value_at values' n) q =
            part ∙ (taken' ∙ (ap (part_after values v) here ∙ (ap (λ x. part_after values x q) (sym at) ∙ ap (λ x. record q { kept = taken q.kept x })
            (same_joining values values' n q.node (value_at values' n) (below n low) (before n (omega arith)))))) in
            subst (λ k. part_at now' k ≡ part_after values' (value_at values' k) (part_at old k)) eq then_q
      ];
      rest = λ i le. other_parts i (λ e'. absurd (omega arith)) ∙ is.rest i (omega arith);
    }

-- ---- the whole step

module _ (names : List (List ℕ)) (parts new : List Part) (values : List Bool) (state : Names) (are : AreParts names parts)
    (is : AreStepped state parts new values) where
  abbrev trees : List Formula
  trees = formulas_of names parts

  pub all_below : HaveChildrenBelow parts
  all_below i lt = (are.each i lt).below

  same_nodes : nodes_of new ≡ nodes_of parts
  same_nodes =
      let m = length-map new (λ (p : Part). p.node) in
      let n = length-map parts (λ (p : Part). p.node) in
      same_lists (nodes_of new) (nodes_of parts) (omega (arith, is.long)) (λ k d lt.
      let a = get_or-map-within (λ (p : Part). p.node) new k (record { node = nodes.Const false; name = []; kept = no_ring [] }) d (omega arith) in
      let b = get_or-map-within (λ (p : Part). p.node) parts k (record { node = nodes.Const false; name = []; kept = no_ring [] }) d (omega (arith, is.long)) in
      a ∙ (ap (λ (p : Part). p.node) (is.after k (omega (arith, is.long))) ∙ sym b))

  pub same_trees : formulas_of names new ≡ formulas_of names parts
  same_trees = ap (trees_after names []) same_nodes

  pub new_parts : AreParts names new
  new_parts = record {
    each = λ i lt.
        let low : i < length parts = omega (arith, is.long) in
        let p = part_at parts i in
        let fine = are.each i low in
        let x = joining values p.node (value_at values i) in
        let ring : taken p.kept x ≡ ring_of p.node (taken p.kept x).values =
        subst (λ r. taken r x ≡ ring_of p.node (taken r x).values) (sym fine.ring) (ring_taken p.node p.kept.values x) in
        subst (IsPart names i) (sym (is.after i low)) (record { below = fine.below; named = fine.named; ring = ring });
    past = λ i lt. subst (λ fs. IsPast (formula_at fs i)) (sym same_trees) (are.past i (omega (arith, is.long)));
  }

  module _ (t : List Names) (stands : (i : ℕ) → i < length parts → AreKept t (formula_at (formulas_of names parts) i) (part_at parts i).kept.values) where
    -- the value of a part where those before it are right
    one_told : (i : ℕ) → i < length parts → AreTold names (formulas_of names parts) t state i values
        → IsTrue (value_at values i) ↔ Holds (Finite (t ++ state ∷ [])) (formula_at (formulas_of names parts) i) (length t)
    one_told i low told =
        let p = part_at parts i in
        let fine = are.each i low in
        let made' = made_at names parts all_below i low in
        subst (λ f. IsTrue (value_at values i) ↔ Holds (Finite (t ++ state ∷ [])) f (length t)) (sym made')
        (node_right names (formulas_of names parts) t state i p.node p.name p.kept.values values (value_at values i) fine.below fine.named
        (subst IsPast made' (are.past i low)) (subst (λ f. AreKept t f p.kept.values) made' (stands i low))
        (subst (λ r. IsValue state values p.node p.name r (value_at values i)) fine.ring (is.right i low)) told)

    pub all_told : (m : ℕ) → m ≤ length parts → AreTold names (formulas_of names parts) t state m values
    all_told zero le j lt = absurd (omega arith)
    all_told (suc m) le j lt =
        let before = all_told m (omega arith) in
        elim (cases_lt j m) [
          | inl less ↦ before j less
          | inr ge ↦ let eq : m ≡ j = omega arith in
              subst (λ k. IsTrue (value_at values k) ↔ Holds (Finite (t ++ state ∷ [])) (formula_at (formulas_of names parts) k) (length t)) eq
              (one_told m (omega arith) before)
        ]

    pub still_stands : (i : ℕ) → i < length new → AreKept (t ++ state ∷ []) (formula_at (formulas_of names new) i) (part_at new i).kept.values
    still_stands i lt =
        let low : i < length parts = omega (arith, is.long) in
        let p = part_at parts i in
        let fine = are.each i low in
        let made' = made_at names parts all_below i low in
        let told = all_told i (omega arith) in
        let x = joining values p.node (value_at values i) in
        let room : (ring_of p.node p.kept.values).room ≡ p.kept.room = sym (ap (λ (r : RingValue). r.room) fine.ring) in
        let kept = node_kept names (formulas_of names parts) t state i p.node p.kept.values values (value_at values i) fine.below
        (subst IsPast made' (are.past i low)) (subst (λ f. AreKept t f p.kept.values) made' (stands i low))
        (subst (λ f. IsTrue (value_at values i) ↔ Holds (Finite (t ++ state ∷ [])) f (length t)) made' (one_told i low told)) told in
        let kept' : AreKept (t ++ state ∷ []) (formula_at (formulas_of names parts) i) (take p.kept.room (x ∷ p.kept.values)) =
        subst (λ f. AreKept (t ++ state ∷ []) f (take p.kept.room (x ∷ p.kept.values))) (sym made')
        (subst (λ k. AreKept (t ++ state ∷ []) (made names (formulas_of names parts) p.node) (take k (x ∷ p.kept.values))) room kept) in
        let after : (part_at new i).kept.values ≡ take p.kept.room (x ∷ p.kept.values) = ap (λ (q : Part). q.kept.values) (is.after i low) in
        subst (λ fs. AreKept (t ++ state ∷ []) (formula_at fs i) (part_at new i).kept.values) (sym same_trees)
        (subst (AreKept (t ++ state ∷ []) (formula_at (formulas_of names parts) i)) (sym after) kept')

-- ---- what contracts see

abbrev pub value_of : List (List ℕ) → List Part → List ℕ → MonitorValue
value_of names parts rooms = record { formulas = formulas_of names parts; kept = kept_of parts; rooms = rooms }

kept_at : (parts : List Part) (i : ℕ) → slice_index_or (kept_of parts) i [] ≡ (part_at parts i).kept.values
kept_at parts i = get_or-map (λ (p : Part). p.kept.values) parts i (record { node = nodes.Const false; name = []; kept = no_ring [] })

pub stands_seen : (names : List (List ℕ)) (parts : List Part) (rooms : List ℕ) (t : List Names)
    → ((i : ℕ) → i < length parts → AreKept t (formula_at (formulas_of names parts) i) (part_at parts i).kept.values) → StandsFor (value_of names parts rooms) t
stands_seen names parts rooms t h i lt =
    subst (AreKept t (formula_at (formulas_of names parts) i)) (sym (kept_at parts i)) (h i (omega (arith, length-formulas names parts)))

pub seen_stands : (names : List (List ℕ)) (parts : List Part) (rooms : List ℕ) (t : List Names) → StandsFor (value_of names parts rooms) t → (i : ℕ)
    → i < length parts → AreKept t (formula_at (formulas_of names parts) i) (part_at parts i).kept.values
seen_stands names parts rooms t h i lt =
    subst (AreKept t (formula_at (formulas_of names parts) i)) (kept_at parts i) (h i (omega (arith, length-formulas names parts)))

-- a step of the parts is a step of the monitor, with the last value as its answer
pub is_step : (names : List (List ℕ)) (parts new : List Part) (rooms rooms' : List ℕ) (values : List Bool) (state : Names) (old : MonitorValue) (answer : Bool)
    → value_of names parts rooms ≡ old → 0 < length parts
    → AreParts names parts → AreStepped state parts new values → answer ≡ value_at values (length values - 1)
    → IsStep old state answer (value_of names new rooms')
is_step names parts new rooms rooms' values state old answer seen some are is last =
    subst (λ m. IsStep m state answer (value_of names new rooms')) seen (record {
      formulas = same_trees names parts new values state are is;
      stands = λ t h. stands_seen names new rooms' (t ++ state ∷ []) (still_stands names parts new values state are is t (seen_stands names parts rooms t h));
      right = λ t h.
          let told = all_told names parts new values state are is t (seen_stands names parts rooms t h) (length parts) (omega arith)
          (length parts - 1) (omega arith) in
          let place : length parts - 1 ≡ length (formulas_of names parts) - 1 = omega (arith, length-formulas names parts) in
          let place' : length values - 1 ≡ length parts - 1 = omega (arith, is.long_values) in
          let answered : value_at values (length parts - 1) ≡ answer = sym (last ∙ ap (value_at values) place') in
          subst (λ k. IsTrue answer ↔ Holds (Finite (t ++ state ∷ [])) (formula_at (formulas_of names parts) k) (length t)) place
          (subst (λ v. IsTrue v ↔ Holds (Finite (t ++ state ∷ [])) (formula_at (formulas_of names parts) (length parts - 1)) (length t)) answered told);
    })

-- each ring has the room that it had
pub same_rooms : (parts new : List Part) (values : List Bool) (state : Names) → AreStepped state parts new values → rooms_of new ≡ rooms_of parts
same_rooms parts new values state is =
    let blank : Part = record { node = nodes.Const false; name = []; kept = no_ring [] } in
    let m = length-map new (λ (p : Part). p.kept.room) in
    let n = length-map parts (λ (p : Part). p.kept.room) in
    same_lists (rooms_of new) (rooms_of parts) (omega (arith, is.long)) (λ k d lt.
    let a = get_or-map-within (λ (p : Part). p.kept.room) new k blank d (omega arith) in
    let b = get_or-map-within (λ (p : Part). p.kept.room) parts k blank d (omega (arith, is.long)) in
    a ∙ (ap (λ (p : Part). p.kept.room) (is.after k (omega (arith, is.long))) ∙ sym b))

pub still_monitor : (names : List (List ℕ)) (parts new : List Part) (values values' : List Bool) (state : Names) → IsMonitor names parts values
    → AreStepped state parts new values' → IsMonitor names new values'
still_monitor names parts new values values' state was is = record {
  some = omega (arith, was.some, is.long);
  long = is.long_values ∙ sym is.long;
  parts_are = new_parts names parts new values' state was.parts_are is;
}

-- ---- the operands of each formula stand before it

above : (names : List (List ℕ)) (formulas : List Formula) (i : ℕ) (node : Node) → HasChildrenBelow i node → StandAbove formulas i (made names formulas node)
above names formulas i (nodes.Unary op a) below = (a, below, refl)
above names formulas i (nodes.Binary op a b) below = ((a, below.0, refl), (b, below.1, refl))
above names formulas i other below = tt

pub all_there : (names : List (List ℕ)) (parts : List Part) → 0 < length parts → AreParts names parts → AreAll (formulas_of names parts)
all_there names parts some are =
    let count = length-formulas names parts in
    let below : HaveChildrenBelow parts = λ i lt. (are.each i lt).below in (
      omega (arith, count),
      λ i lt. let low : i < length parts = omega (arith, count) in
          subst (StandAbove (formulas_of names parts) i) (sym (made_at names parts below i low))
          (above names (formulas_of names parts) i (part_at parts i).node (below i low)),
    )
