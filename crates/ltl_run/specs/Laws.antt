-- What the laws of runs say. They are stated for both kinds of trace.
use Rattle.std.specs.Prelude.{◌≡◌, ℕ, ◌+◌, ◌-◌, ◌*◌, ◌<◌, ◌≤◌, ◌↔◌, Bool, false, List, length, All}
use Rattle.ltl_syntax.specs.declared.node.Kind.{Kind}
use Rattle.ltl_syntax.specs.declared.node.Kind.TheVariants as Kinds
use Rattle.ltl_syntax.specs.Formula.{Formula, HasNoFresh}
use Rattle.ltl_syntax.specs.Table.{Table, IsTable, tree_at}
use Rattle.ltl_word.specs.declared.trace.Trace.{Trace}
use Rattle.ltl_word.specs.declared.trace.Trace.TheVariants.{Infinite}
use Rattle.ltl_word.specs.Trace.{Names, IsTrace, IsOfKind, IsPosition}
use Rattle.ltl_word.specs.Holds.{Holds, Satisfies}
use Rattle.ltl_word.specs.Depth.{past_depth}
use Rattle.ltl_closure.specs.Norm.{Norm, times, chain, disjunction, in_range, formula_of, norm, pos_of}
use Rattle.ltl_closure.specs.Closure.{eventualities}
use Rattle.ltl_closure.specs.Run.{States, IsRun, IsAccepted, IsPrunedAt, IsUnpruned, HasAccepted, Verdict, IsVerdict, Sat, Unsat, Undecided, bound, carry}
use Rattle.ltl_closure.specs.Run.{spliced, rotated}
use Rattle.ltl_run.specs.declared.run_state.Close.{Close}
use Rattle.ltl_run.specs.TraceOf.{ClosesTo, Accepts, GivesTrace}
use Rattle.ltl_run.specs.Plain.{HasPlainNames, IsSmallNode}
use Rattle.ltl_run.specs.Repeated.{HaveCarry}
use Rattle.ltl_run.specs.Extension.{IsGiven, IsExtension}
use Rattle.ltl_syntax.specs.Replacement.{Places, rep}

-- the normal form of a formula holds at the positions where the formula does
abbrev pub NormalFormAgrees : Type 0
NormalFormAgrees = (t : Trace) (f : Formula) (i : ℕ) → IsTrace t → IsPosition t i → Holds t (formula_of (pos_of f)) i ↔ Holds t f i

-- the normal form of its negation holds at the positions where the formula does not
abbrev pub NegationAgrees : Type 0
NegationAgrees = (t : Trace) (f : Formula) (i : ℕ) → IsTrace t → IsPosition t i → Holds t (formula_of (norm false f)) i ↔ (Holds t f i → ⊥)

-- a bounded operator whose first number is not above its second is iterates of a request over a chain of disjunctions, or of conjunctions
abbrev pub RangesAreIterated : Type 0
RangesAreIterated = (some : Bool) (N : Norm → Norm) (a b : ℕ) (c : Norm) → a ≤ b
    → in_range some N a b c ≡ times N a (chain (disjunction some) N (b - a) c)

-- the trace of a run that a rule accepts is one of the run's kind and satisfies the formula
abbrev pub RunsSatisfy : Type 0
RunsSatisfy = (f : Formula) (kind : Kind) (k : ℕ) (r : States) (close : Close) (t : Trace) → IsRun f k r → Accepts close f r k kind → GivesTrace f r k close t
    → IsTrace t × IsOfKind t kind × Satisfies t f

-- a run is accepted where one of the three rules accepts it
abbrev pub RulesAccept : Type 0
RulesAccept = (f : Formula) (kind : Kind) (k : ℕ) (r : States) → IsAccepted f r k kind ↔ ((close : Close) × Accepts close f r k kind)

-- a lasso with a stem of s and a loop of p states that satisfies a formula with past operators nested h deep gives a run that closes from s
-- + h p + p to s + h p
abbrev pub LassosRun : Type 0
LassosRun = (f : Formula) (stem loop_part : List Names) → 0 < length loop_part → Satisfies (Infinite stem loop_part) f
    → (r : States) × IsRun f (length stem + past_depth f * length loop_part + length loop_part) r
    × ClosesTo f r (length stem + past_depth f * length loop_part) (length stem + past_depth f * length loop_part + length loop_part)

-- a trace that satisfies the formula gives an accepted run
abbrev pub TracesRun : Type 0
TracesRun = (f : Formula) (kind : Kind) (t : Trace) → IsTrace t → IsOfKind t kind → Satisfies t f → (k : ℕ) × HasAccepted f kind k

-- where states j < i have one carry, the states j+1 to i can be cut out of a run, and the last state keeps its carry
abbrev pub RunsAreCut : Type 0
RunsAreCut = (f : Formula) (k j i : ℕ) (r : States) → IsRun f k r → j < i → i ≤ k → carry f (r j) ≡ carry f (r i)
    → IsRun f (j + (k - i)) (spliced r j r i) × (carry f (spliced r j r i (j + (k - i))) ≡ carry f (r k))

-- where a run closes to a state l between a and i, which have one carry, the states 0 to a, i+1 to k and l+1 to i are a run that closes to a
abbrev pub RunsAreRotated : Type 0
RunsAreRotated = (f : Formula) (k a l i : ℕ) (r : States) → IsRun f k r → ClosesTo f r l k → a < l → l < i → i ≤ k → carry f (r a) ≡ carry f (r i)
    → IsRun f (a + (k - l)) (rotated r a i k l) × ClosesTo f (rotated r a i k l) a (a + (k - l))

-- an accepted run that is pruned gives a shorter accepted one
abbrev pub PrunedRunsShorten : Type 0
PrunedRunsShorten = (f : Formula) (kind : Kind) (k i : ℕ) (r : States) → IsRun f k r → IsAccepted f r k kind → i ≤ k → IsPrunedAt f r i kind
    → (m : ℕ) × (m < k) × HasAccepted f kind m

-- an accepted run of least length has no pruned state
abbrev pub LeastRunsAreUnpruned : Type 0
LeastRunsAreUnpruned = (f : Formula) (kind : Kind) (k : ℕ) (r : States) → IsRun f k r → IsAccepted f r k kind → ((m : ℕ) → m < k → HasAccepted f kind m → ⊥)
    → IsUnpruned f r k kind

-- where there is an accepted run, there is one that is no longer and has no pruned state
abbrev pub HaveUnpruned : Type 0
HaveUnpruned =
    (f : Formula) (kind : Kind) (k : ℕ) → HasAccepted f kind k → (m : ℕ) × (m ≤ k) × (r : States) × IsRun f m r × IsAccepted f r m kind × IsUnpruned f r m kind

-- no trace of the kind satisfies a formula whose verdict is UNSAT
abbrev pub UnsatIsSound : Type 0
UnsatIsSound = (f : Formula) (kind : Kind) (limit k : ℕ) (t : Trace) → IsVerdict f kind limit (Unsat k) → IsTrace t → IsOfKind t kind → Satisfies t f → ⊥

-- at a limit of at least the bound the verdict is not UNDECIDED
abbrev pub BoundSettles : Type 0
BoundSettles = (f : Formula) (kind : Kind) (limit k : ℕ) → bound f kind ≤ limit → IsVerdict f kind limit (Undecided k) → ⊥

-- at such a limit the verdict is SAT where a trace of the kind satisfies the formula
abbrev pub BoundFinds : Type 0
BoundFinds = (f : Formula) (kind : Kind) (limit : ℕ) (v : Verdict) (t : Trace) → bound f kind ≤ limit → IsVerdict f kind limit v → IsTrace t
    → IsOfKind t kind → Satisfies t f
    → (k : ℕ) × (v ≡ Sat k)

-- at each limit a formula has at most one verdict
abbrev pub VerdictIsOne : Type 0
VerdictIsOne = (f : Formula) (kind : Kind) (limit : ℕ) (v w : Verdict) → IsVerdict f kind limit v → IsVerdict f kind limit w → v ≡ w

-- the formula of a table's node has plain names
abbrev pub TreesHavePlainNames : Type 0
TreesHavePlainNames = (t : Table) (number : ℕ) → IsTable t.nodes t.names → All IsSmallNode t.nodes → HasPlainNames (tree_at t number)

-- an accepted run has a trace
abbrev pub AcceptedRunsHaveTraces : Type 0
AcceptedRunsHaveTraces =
    (f : Formula) (kind : Kind) (k : ℕ) (r : States) (close : Close) → HasPlainNames f → Accepts close f r k kind → (t : Trace) × GivesTrace f r k close t

-- a trace of the kind satisfies the formula
abbrev pub IsSatisfiable : Formula → Kind → Type 0
IsSatisfiable f kind = (t : Trace) × IsTrace t × IsOfKind t kind × Satisfies t f

-- where the verdict is SAT, a trace of the kind satisfies the formula
abbrev pub SatIsSound : Type 0
SatIsSound = (f : Formula) (kind : Kind) (limit k : ℕ) → HasPlainNames f → IsVerdict f kind limit (Sat k) → IsSatisfiable f kind

-- at a limit of at least the bound the verdict is SAT exactly where a trace of the kind satisfies the formula
abbrev pub SatIsExact : Type 0
SatIsExact = (f : Formula) (kind : Kind) (limit : ℕ) (v : Verdict) → HasPlainNames f → bound f kind ≤ limit → IsVerdict f kind limit v
    → ((k : ℕ) × (v ≡ Sat k)) ↔ IsSatisfiable f kind

-- in an unpruned run none of whose fronts is accepted, a carry comes at most once more often than there are eventualities
abbrev pub CarriesAreFew : Type 0
CarriesAreFew = (f : Formula) (k : ℕ) (r : States) → IsRun f k r → ((i : ℕ) → i ≤ k → IsAccepted f r i Kinds.Infinite → ⊥) → IsUnpruned f r k Kinds.Infinite
    → (c : List Bool) (states : List ℕ) → HaveCarry f r k c states → length states ≤ length (eventualities f) + 1

-- in the finite kind it comes once
abbrev pub CarriesComeOnce : Type 0
CarriesComeOnce =
    (f : Formula) (k : ℕ) (r : States) → IsUnpruned f r k Kinds.Finite → (c : List Bool) (states : List ℕ) → HaveCarry f r k c states → length states ≤ 1

-- no trace of the kind satisfies the formula
abbrev pub HasNoTrace : Kind → Formula → Type 0
HasNoTrace kind f = (t : Trace) → IsTrace t → IsOfKind t kind → Satisfies t f → ⊥

-- each trace has an extension, which is a trace of its kind
abbrev pub TracesExtend : Type 0
TracesExtend = (f : Formula) (P : Places) (t : Trace) → IsGiven f → IsTrace t → (u : Trace) × IsTrace u × ((kind : Kind) → IsOfKind t kind → IsOfKind u kind)
    × IsExtension f P t u

-- on an extension the formula with its occurrences replaced holds where the formula holds on the trace
abbrev pub ExtensionsAgree : Type 0
ExtensionsAgree = (f : Formula) (P : Places) (t u : Trace) (i : ℕ) → IsGiven f → IsExtension f P t u → IsPosition t i → Holds u (rep f P) i ↔ Holds t f i

-- where the formula with occurrences replaced has no trace of a kind, the formula has none
abbrev pub ReplacingRefutes : Type 0
ReplacingRefutes = (f : Formula) (P : Places) (kind : Kind) → IsGiven f → HasNoTrace kind (rep f P) → HasNoTrace kind f

-- a tree of a table is such a formula where it has no fresh letter
abbrev pub TreesAreGiven : Type 0
TreesAreGiven = (t : Table) (root : ℕ) → IsTable t.nodes t.names → root < length t.nodes → HasNoFresh (tree_at t root) → IsGiven (tree_at t root)
