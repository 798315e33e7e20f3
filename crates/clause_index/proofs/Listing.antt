-- The clause of a number, and where it stands.
use Rattle.std.proofs.Common.{◌≡◌, ℕ, suc, ◌+◌, ◌-◌, ◌<◌, ◌≤◌, arith, ap, sym, subst, ◌∙◌, List, ◌++◌, length, map, add-one}
use Rattle.std.proofs.lemmas.List.{length-map}
use Rattle.ltl_syntax.specs.declared.node.Kind.{Kind}
use Rattle.ltl_syntax.specs.Formula.{Formula}
use Rattle.cnf_base.specs.declared.literal.Literal.{Literal as Signed}
use Rattle.cnf_base.specs.Step.{clause_at}
use Rattle.ltl_closure.specs.Closure.{closure as closure_of, nexts, yesterdays, eventualities}
use Rattle.ltl_closure.specs.Entries.{ClosureValue, AreEntries}
use Rattle.ltl_closure.specs.declared.entry.Entry.{Entry}
use Rattle.enc_layout.specs.Letters.{LayoutValue}
use Rattle.enc_layout.specs.Clauses.{Clause, layout_of, state_clauses, gates_part, pairs_part, acceptance_part, pruning_part, step_clauses, clauses_through}
use Rattle.enc_layout.specs.Clauses.{literal_in, counts, signed_clauses, clause_list, is_strong_next}
use Rattle.clause_index.specs.declared.sizes.Sizes.{Sizes}
use Rattle.clause_index.specs.declared.place.StepSection.{StepSection}
use Rattle.clause_index.specs.declared.place.StepSection.TheVariants as sections
use Rattle.clause_index.specs.declared.numbers.Numbers.{Numbers}
use Rattle.clause_index.specs.Rows.{row_at}
use Rattle.clause_index.specs.Counts.{sizes_of, state_size, pairs_size, accept_size, before_step}
use Rattle.clause_index.specs.Sections.{section_clauses, section_size, before_section}
use Rattle.clause_index.specs.Numbers.{AreNumbersOf}
use Rattle.clause_index.specs.ByNumber.{gates_before, strong_before}
use Rattle.clause_index.proofs.Stands.{Stand, stands_whole, stands_left, stands_right, stands_below, stands_at}
use Rattle.clause_index.proofs.Gates.{gates_total}
use Rattle.clause_index.proofs.Strong.{strong_total}
use Rattle.std.specs.Prelude.{filter}
use Rattle.clause_index.proofs.Sizing.{step_states, length-states, length-pairs_part, length-acceptance_part, length-pruning_part, length-steps}

-- how many clauses there are
pub list_long : (f : Formula) (kind : Kind) (d : ℕ) → length (clause_list f kind d) ≡ before_step kind (sizes_of f kind) (d + 1)
list_long f kind d =
    length-map (clauses_through f kind d) (map (literal_in kind (counts f)))
    ∙ (length-steps f kind (suc d) ∙ ap (before_step kind (sizes_of f kind)) (sym (add-one d)))

pub section_long : (f : Formula) (kind : Kind) (i : ℕ) (s : StepSection) → length (section_clauses f kind i s) ≡ section_size kind (sizes_of f kind) i s
section_long f kind i sections.States = length-states f kind i
section_long f kind i sections.Pairs = length-pairs_part f kind i
section_long f kind i sections.Acceptance = length-acceptance_part f kind i
section_long f kind i sections.Pruning = length-pruning_part f kind i

-- the number of the first clause behind the first n of step i
abbrev pub number_behind : Formula → Kind → ℕ → ℕ → ℕ
number_behind f kind i n = 1 + (before_step kind (sizes_of f kind) i + n)

-- the clauses of a step and of its sections stand in the list from these numbers on
module _ (f : Formula) (kind : Kind) (d i : ℕ) (le : i ≤ d) where
  abbrev s : Sizes
  s = sizes_of f kind

  abbrev last : List Clause
  last = acceptance_part f kind i ++ pruning_part f kind i

  abbrev late : List Clause
  late = pairs_part f kind i ++ (acceptance_part f kind i ++ pruning_part f kind i)

  abbrev first : ℕ
  first = 1 + before_step kind (sizes_of f kind) i

  both_stand : Stand f kind d first (state_clauses f i ++ late)
  both_stand =
      subst (Stand f kind d first) (step_states f kind i)
      (stands_below f kind d 1 (suc d) (step_clauses f kind) i (before_step kind s i) (omega arith) (length-steps f kind i)
      (stands_whole (clause_list f kind d)))

  late_stand : Stand f kind d (first + state_size s i) late
  late_stand = stands_right f kind d first (state_size s i) (state_clauses f i) late (length-states f kind i) both_stand

  last_stand : Stand f kind d (first + state_size s i + pairs_size kind s i) last
  last_stand = stands_right f kind d (first + state_size s i) (pairs_size kind s i) (pairs_part f kind i) last (length-pairs_part f kind i) late_stand

  abbrev at : StepSection → ℕ
  at t = number_behind f kind i (before_section kind (sizes_of f kind) i t)

  pub section_stands : (t : StepSection) → Stand f kind d (number_behind f kind i (before_section kind (sizes_of f kind) i t)) (section_clauses f kind i t)
  section_stands sections.States =
      stands_at f kind d first (at sections.States) (state_clauses f i) (omega arith) (stands_left f kind d first (state_clauses f i) late both_stand)
  section_stands sections.Pairs =
      let n = first + state_size s i in
      stands_at f kind d n (at sections.Pairs) (pairs_part f kind i) (omega arith) (stands_left f kind d n (pairs_part f kind i) last late_stand)
  section_stands sections.Acceptance =
      let n = first + state_size s i + pairs_size kind s i in
      stands_at f kind d n (at sections.Acceptance) (acceptance_part f kind i) (omega arith)
      (stands_left f kind d n (acceptance_part f kind i) (pruning_part f kind i) last_stand)
  section_stands sections.Pruning =
      let n = first + state_size s i + pairs_size kind s i in
      let e = accept_size kind s in
      stands_at f kind d (n + e) (at sections.Pruning) (pruning_part f kind i) (omega arith)
      (stands_right f kind d n e (acceptance_part f kind i) (pruning_part f kind i) (length-acceptance_part f kind i) last_stand)

pub section_within : (f : Formula) (kind : Kind) (i : ℕ) (t : StepSection) (k : ℕ) (s : Sizes) → s ≡ sizes_of f kind → k < section_size s.kind s i t
    → k < length (section_clauses f kind i t)
section_within f kind i t k s is lt =
    let within : k < section_size kind (sizes_of f kind) i t = subst (λ z. k < section_size z.kind z i t) is lt in
    omega (arith, within, section_long f kind i t)

-- the clause at a place is that of its number
pub list_row : (layout : LayoutValue) (c : ClosureValue) → layout ≡ layout_of c → (s : Sizes) → s ≡ sizes_of c.formula c.kind
    → (d i : ℕ) (t : StepSection) (k number : ℕ) → 1 ≤ number → i ≤ d → k < section_size s.kind s i t
    → before_step s.kind s i + (before_section s.kind s i t + k) ≡ number - 1
    → row_at layout (section_clauses c.formula c.kind i t) k ≡ clause_at (clause_list c.formula c.kind d) number
list_row layout c own s is d i t k number from le lt at =
    let f = c.formula in
    let kind = c.kind in
    let inside = section_within f kind i t k s is lt in
    let place : before_step c.kind (sizes_of c.formula c.kind) i + (before_section c.kind (sizes_of c.formula c.kind) i t + k) ≡ number - 1 =
    subst (λ z. before_step z.kind z i + (before_section z.kind z i t + k) ≡ number - 1) is at in
    let long : length (signed_clauses c.formula c.kind (section_clauses c.formula c.kind i t)) ≡ length (section_clauses c.formula c.kind i t) =
    length-map (section_clauses f kind i t) (map (literal_in kind (counts f))) in
    let here : number_behind c.formula c.kind i (before_section c.kind (sizes_of c.formula c.kind) i t) + k ≡ number = omega arith in
    ap (λ l. row_at l (section_clauses f kind i t) k) own
    ∙ sym ((section_stands f kind d i le t).each k (omega (arith, inside, long)))
    ∙ ap (clause_at (clause_list f kind d)) here

-- the numbers of a section
pub section_numbers_are : (c : ClosureValue) (s : Sizes) → s ≡ sizes_of c.formula c.kind → (d i : ℕ) (t : StepSection) (n : Numbers) → i ≤ d
    → n.first ≡ 1 + (before_step s.kind s i + before_section s.kind s i t) → n.count ≡ section_size s.kind s i t
    → AreNumbersOf (record { formula = c.formula; kind = c.kind; depth = d }) n (section_clauses c.formula c.kind i t)
section_numbers_are c s is d i t n le first count =
    let f = c.formula in
    let kind = c.kind in
    let at = first ∙ ap (λ z. 1 + (before_step z.kind z i + before_section z.kind z i t)) is in
    record {
      count = count ∙ (ap (λ z. section_size z.kind z i t) is ∙ sym (section_long f kind i t));
      stand = subst (λ m. Stand f kind d m (section_clauses f kind i t)) (sym at) (section_stands f kind d i le t);
    }

-- the sizes that are counted are those of the formula
pub sizes_made : (c : ClosureValue) (entries : List Entry) → AreEntries c.names c.formula entries → (kind : Kind) (g x y e s : ℕ) → kind ≡ c.kind
    → g ≡ gates_before entries (length entries) → x ≡ length (nexts c.formula) → y ≡ length (yesterdays c.formula) → e ≡ length (eventualities c.formula)
    → s ≡ strong_before (nexts c.formula) (length (nexts c.formula))
    → ◌≡◌ {A = Sizes} (record { kind = kind; gates = g; nexts = x; yesterdays = y; eventualities = e; strong = s }) (sizes_of c.formula c.kind)
sizes_made c entries are kind g x y e s ki gi xi yi ei si =
    let gates : g ≡ length (gates_part c.formula 0) = gi ∙ sym (gates_total c.names c.formula entries are 0) in
    let strong : s ≡ length (filter is_strong_next (closure_of c.formula)) = si ∙ sym (strong_total c.formula) in
    cc

pub list_within : (f : Formula) (kind : Kind) (d number : ℕ) (s : Sizes) → s ≡ sizes_of f kind → 1 ≤ number → number ≤ length (clause_list f kind d)
    → number - 1 < before_step s.kind s (d + 1)
list_within f kind d number s is from le = subst (λ z. number - 1 < before_step z.kind z (d + 1)) (sym is) (omega (arith, list_long f kind d))
