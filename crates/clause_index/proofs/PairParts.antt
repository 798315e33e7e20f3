-- The parts of a pair stand in the list under their numbers.
use Rattle.std.proofs.Common.{◌≡◌, ℕ, suc, ◌+◌, ◌*◌, ◌<◌, ◌≤◌, refl, arith, ap, sym, subst, ◌∙◌, List, [], ◌∷◌, ◌++◌, length}
use Rattle.ltl_syntax.specs.declared.node.Kind.{Kind}
use Rattle.ltl_syntax.specs.declared.node.Kind.TheVariants as Kinds
use Rattle.ltl_syntax.specs.Formula.{Formula}
use Rattle.cnf_base.specs.declared.literal.Literal.{Literal as Signed}
use Rattle.ltl_closure.specs.Closure.{eventualities}
use Rattle.ltl_closure.specs.Entries.{ClosureValue}
use Rattle.enc_layout.proofs.Counting.{length-carried}
use Rattle.enc_layout.specs.Letters.{Unpruned, Equal, LoopTo, Differs, below}
use Rattle.enc_layout.specs.Clauses.{Clause, Plus, Minus, counts, carried, place_clauses, equal_clause, fulfilled_clauses, loop_clause, closing_clauses}
use Rattle.enc_layout.specs.Clauses.{pair_clauses, seen_clauses, new_clauses, pruned_clause, pruning_part, signed_clauses, clause_list}
use Rattle.clause_index.specs.declared.sizes.Sizes.{Sizes}
use Rattle.clause_index.specs.declared.place.StepSection.TheVariants as sections
use Rattle.clause_index.specs.declared.numbers.Numbers.{Numbers}
use Rattle.clause_index.specs.declared.numbers.PairPart.{PairPart}
use Rattle.clause_index.specs.declared.numbers.PairPart.TheVariants as parts
use Rattle.clause_index.specs.Counts.{sizes_of, place_count, pair_size, before_step, fulfilled_size}
use Rattle.clause_index.specs.Sections.{before_section}
use Rattle.clause_index.specs.PairParts.{IsPart, part_clauses, part_size, before_pair, before_part}
use Rattle.clause_index.specs.Numbers.{AreNumbersOf}
use Rattle.clause_index.proofs.Stands.{Stand, stands_left, stands_right, stands_below, stands_at}
use Rattle.clause_index.proofs.Sizing.{length-even, length-places, fulfilled_long, pair_far, seen_long, all_seen_long, pruned_long}
use Rattle.clause_index.proofs.Listing.{number_behind, section_stands}

part_long : (f : Formula) (kind : Kind) (i l : ℕ) (part : PairPart) → l < i → length (part_clauses f kind i l part) ≡ part_size kind (sizes_of f kind) i l part
part_long f kind i l (parts.Place q) lt = refl
part_long f kind i l parts.Equal lt = refl
part_long f kind i l (parts.Fulfilment m) lt = fulfilled_long f i l m lt
part_long f kind i l parts.Loop lt =
    let a = length-even 1 (length (eventualities f)) (λ m. loop_clause f i l m ∷ []) (λ m some. refl) in
    omega arith
part_long f kind i l parts.Seen lt = seen_long f i l
part_long f Kinds.Infinite i l parts.Prune lt = pruned_long f i l
part_long f Kinds.Finite i l parts.Prune lt = refl

module _ (f : Formula) (d i l : ℕ) (le : i ≤ d) (lt : l < i) where
  abbrev e : ℕ
  e = length (eventualities f)

  abbrev places : List Clause
  places = below (length (carried f)) (place_clauses f i l)

  abbrev fulfilments : List Clause
  fulfilments = below (length (eventualities f)) (fulfilled_clauses f i l)

  abbrev loops : List Clause
  loops = (Minus (LoopTo l i) ∷ Plus (Equal l i) ∷ []) ∷ below (length (eventualities f)) (λ m. loop_clause f i l m ∷ [])

  abbrev news : ℕ → List Clause
  news j = below (length (eventualities f)) (new_clauses f i j) ++ pruned_clause f i j ∷ []

  abbrev prunes : ℕ → List Clause
  prunes j = (Minus Unpruned ∷ Minus (Equal j i) ∷ []) ∷ []

  module _ (kind : Kind) where
    -- the number of the first clause of a part, and of the pair
    abbrev at : PairPart → ℕ
    at part = number_behind f kind i (before_part kind (sizes_of f kind) i l part)

    abbrev pair : ℕ
    pair = number_behind f kind i (before_pair kind (sizes_of f kind) i l)

    abbrev closing : List Clause
    closing = closing_clauses f kind i l

    pair_stands : Stand f kind d pair (pair_clauses f kind i l)
    pair_stands =
        let n = number_behind f kind i (before_section kind (sizes_of f kind) i sections.Pairs) in
        let size = pair_size kind (sizes_of f kind) in
        let far = length-even size l (pair_clauses f kind i) (λ k h. pair_far f kind i k (omega arith)) in
        stands_at f kind d (n + l * size) pair (pair_clauses f kind i l) (omega arith)
        (stands_below f kind d n i (pair_clauses f kind i) l (l * size) lt far (section_stands f kind d i le sections.Pairs))

    place_stands : (q : ℕ) → q < length (carried f) → Stand f kind d (at (parts.Place q)) (place_clauses f i l q)
    place_stands q h =
        let before = length-even 4 q (place_clauses f i l) (λ k some. refl) in
        stands_at f kind d (pair + q * 4) (at (parts.Place q)) (place_clauses f i l q) (omega arith)
        (stands_below f kind d pair (length (carried f)) (place_clauses f i l) q (q * 4) h before
        (stands_left f kind d pair places (equal_clause f i l ∷ closing) pair_stands))

    behind_stands : Stand f kind d (at parts.Equal) (equal_clause f i l ∷ closing)
    behind_stands =
        let n = length (carried f) * 4 in
        stands_at f kind d (pair + n) (at parts.Equal) (equal_clause f i l ∷ closing) (omega (arith, length-carried f))
        (stands_right f kind d pair n places (equal_clause f i l ∷ closing) (length-places f i l) pair_stands)

    closing_stands : Stand f kind d (at parts.Equal + 1) closing
    closing_stands = stands_right f kind d (at parts.Equal) 1 (equal_clause f i l ∷ []) closing refl behind_stands

    -- the clauses of pruning
    abbrev pruning : ℕ
    pruning = number_behind f kind i (before_section kind (sizes_of f kind) i sections.Pruning)

  abbrev I : Kind
  I = Kinds.Infinite

  part_stands : (kind : Kind) (part : PairPart) → IsPart f kind part
      → Stand f kind d (number_behind f kind i (before_part kind (sizes_of f kind) i l part)) (part_clauses f kind i l part)
  part_stands kind (parts.Place q) h = place_stands kind q h
  part_stands kind parts.Equal h = stands_left f kind d (at kind parts.Equal) (equal_clause f i l ∷ []) (closing_clauses f kind i l) (behind_stands kind)
  part_stands Kinds.Infinite (parts.Fulfilment m) h =
      let n = at I parts.Equal + 1 in
      let size = fulfilled_size i l in
      let before = length-even size m (fulfilled_clauses f i l) (λ k some. fulfilled_long f i l k lt) in
      stands_at f I d (n + m * size) (at I (parts.Fulfilment m)) (fulfilled_clauses f i l m) (omega arith)
      (stands_below f I d n e (fulfilled_clauses f i l) m (m * size) h before (stands_left f I d n fulfilments loops (closing_stands I)))
  part_stands Kinds.Infinite parts.Loop h =
      let n = at I parts.Equal + 1 in
      let size = fulfilled_size i l in
      let before = length-even size e (fulfilled_clauses f i l) (λ k some. fulfilled_long f i l k lt) in
      stands_at f I d (n + e * size) (at I parts.Loop) loops (omega arith) (stands_right f I d n (e * size) fulfilments loops before (closing_stands I))
  part_stands Kinds.Infinite parts.Seen h =
      let before = length-even (1 + e) l (seen_clauses f i) (λ k some. seen_long f i k) in
      stands_at f I d (pruning I + l * (1 + e)) (at I parts.Seen) (seen_clauses f i l) (omega arith)
      (stands_below f I d (pruning I) i (seen_clauses f i) l (l * (1 + e)) lt before
      (stands_left f I d (pruning I) (below i (seen_clauses f i)) (below i news) (section_stands f I d i le sections.Pruning)))
  part_stands Kinds.Infinite parts.Prune h =
      let n = pruning I + i * (1 + e) in
      let before = length-even (1 + 3 * e) l news (λ k some. pruned_long f i k) in
      stands_at f I d (n + l * (1 + 3 * e)) (at I parts.Prune) (news l) (omega arith)
      (stands_below f I d n i news l (l * (1 + 3 * e)) lt before
      (stands_right f I d (pruning I) (i * (1 + e)) (below i (seen_clauses f i)) (below i news) (all_seen_long f i)
      (section_stands f I d i le sections.Pruning)))
  part_stands Kinds.Finite (parts.Fulfilment m) h = elim h [ ]
  part_stands Kinds.Finite parts.Loop h = elim h [ ]
  part_stands Kinds.Finite parts.Seen h = elim h [ ]
  part_stands Kinds.Finite parts.Prune h =
      let before = length-even 1 l prunes (λ k some. refl) in
      stands_at f Kinds.Finite d (pruning Kinds.Finite + l * 1) (at Kinds.Finite parts.Prune) (prunes l) (omega arith)
      (stands_below f Kinds.Finite d (pruning Kinds.Finite) i prunes l (l * 1) lt before (section_stands f Kinds.Finite d i le sections.Pruning))

-- the numbers of a part
pub part_numbers_are : (c : ClosureValue) (s : Sizes) → s ≡ sizes_of c.formula c.kind → (d i l : ℕ) (part : PairPart) (n : Numbers)
    → i ≤ d → l < i → IsPart c.formula c.kind part
    → n.first ≡ 1 + (before_step s.kind s i + before_part s.kind s i l part) → n.count ≡ part_size s.kind s i l part
    → AreNumbersOf (record { formula = c.formula; kind = c.kind; depth = d }) n (part_clauses c.formula c.kind i l part)
part_numbers_are c s is d i l part n le lt known first count =
    let f = c.formula in
    let kind = c.kind in
    let at = first ∙ ap (λ z. 1 + (before_step z.kind z i + before_part z.kind z i l part)) is in
    record {
      count = count ∙ (ap (λ z. part_size z.kind z i l part) is ∙ sym (part_long f kind i l part lt));
      stand = subst (λ m. Stand f kind d m (part_clauses f kind i l part)) (sym at) (part_stands f d i l le lt kind part known);
    }
