-- The walk over nodes and signs: what each piece of work does to the kept part of the closure, and what a walk has reached.
use Rattle.std.specs.Prelude.{◌≡◌, ℕ, zero, suc, ◌+◌, ◌*◌, ◌<◌, ◌≤◌, ◌⊎◌, Bool, true, false, not, List, [], ◌∷◌, ◌++◌, length, map, slice_index_or, Contains}
use Rattle.ltl_syntax.specs.declared.node.UnaryOp.{UnaryOp}
use Rattle.ltl_syntax.specs.declared.node.BinaryOp.{BinaryOp}
use Rattle.ltl_syntax.specs.declared.node.BinaryOp.TheVariants as two
use Rattle.ltl_syntax.specs.Shape.{Direction, Future, Past, Range, Step, Ever, Exactly, Between, Shape, Negation, Somewhere, Everywhere, shape}
use Rattle.ltl_syntax.specs.Formula.{Atom, Formula, Const, Letter, Unary, Binary}
use Rattle.ltl_syntax.specs.Table.{Table, tree_at}
use Rattle.ltl_syntax.specs.Size.{sizes}
use Rattle.ltl_closure.specs.Norm.{Norm, NConst, NLetter, NNotLetter, norm, pos_of}
use Rattle.ltl_closure.specs.Closure.{walk, with_new}
use Rattle.ltl_closure.specs.Entries.{place_in}
use Rattle.ltl_closure.specs.Keys.{asking, joined, own, AreShared, AreDistinct}
use Rattle.ltl_closure.specs.declared.entry.Entry.{Entry}
use Rattle.ltl_closure.specs.declared.key.Request.{Request}
use Rattle.ltl_closure.specs.declared.key.Request.TheVariants as asks
use Rattle.ltl_closure.specs.declared.key.Connective.{Connective}
use Rattle.ltl_closure.specs.declared.key.Connective.TheVariants as joins
use Rattle.ltl_closure.specs.declared.key.Key.{Key}
use Rattle.ltl_closure.specs.declared.plan.Work.{Work}
use Rattle.ltl_closure.specs.declared.plan.Work.TheVariants as works
use Rattle.ltl_closure.specs.declared.memo.Memo.{Memo}

-- the kept part of the closure, and the normal forms whose numbers wait, the last first
pub record Progress : Type 0 where
  pub kept : List Norm
  pub values : List Norm

-- the normal form is walked, and its number waits
abbrev pub reached : Norm → Progress → Progress
reached g p = record { kept = with_new p.kept (walk g); values = g ∷ p.values }

abbrev pub ask_step : Request → List Norm → List Norm → Progress
ask_step r kept [] = record { kept = kept; values = [] }
ask_step r kept (a ∷ vs) = record { kept = with_new kept (own (asking r a)); values = asking r a ∷ vs }

abbrev pub join_step : Connective → List Norm → List Norm → Progress
join_step c kept [] = record { kept = kept; values = [] }
join_step c kept (b ∷ []) = record { kept = kept; values = b ∷ [] }
join_step c kept (b ∷ a ∷ vs) = record { kept = with_new kept (own (joined c a b)); values = joined c a b ∷ vs }

-- the negation of a letter
abbrev pub negated : Norm → Norm
negated (NLetter p) = NNotLetter p
negated e = e

abbrev pub negate_step : List Norm → List Norm → Progress
negate_step kept [] = record { kept = kept; values = [] }
negate_step kept (a ∷ vs) = record { kept = with_new kept (own (negated a)); values = negated a ∷ vs }

-- what a piece of work does
abbrev pub step : Table → Work → Progress → Progress
step t (works.Visit n s) p = reached (norm s (tree_at t n)) p
step t (works.Const b) p = record { kept = with_new p.kept (own (NConst b)); values = NConst b ∷ p.values }
step t (works.Ask r) p = ask_step r p.kept p.values
step t (works.Join c) p = join_step c p.kept p.values
step t works.Negate p = negate_step p.kept p.values
step t (works.Keep n s) p = p

abbrev pub run : Table → List Work → Progress → Progress
run t [] p = p
run t (w ∷ ws) p = run t ws (step t w p)

-- a piece of work finds its operands
abbrev pub HasOne : List Norm → Type 0
HasOne [] = ⊥
HasOne (a ∷ vs) = Unit {0}

abbrev pub HasTwo : List Norm → Type 0
HasTwo [] = ⊥
HasTwo (b ∷ []) = ⊥
HasTwo (b ∷ a ∷ vs) = Unit {0}

abbrev pub HasLetter : List Norm → Type 0
HasLetter [] = ⊥
HasLetter (a ∷ vs) = (p : Atom) × (a ≡ NLetter p)

abbrev pub TopIs : Norm → List Norm → Type 0
TopIs g [] = ⊥
TopIs g (v ∷ vs) = v ≡ g

abbrev pub IsReady : Table → Work → Progress → Type 0
IsReady t (works.Visit n s) p = n < length t.nodes
IsReady t (works.Const b) p = Unit {0}
IsReady t (works.Ask r) p = HasOne p.values
IsReady t (works.Join c) p = HasTwo p.values
IsReady t works.Negate p = HasLetter p.values
IsReady t (works.Keep n s) p = (n < length t.nodes) × TopIs (norm s (tree_at t n)) p.values

abbrev pub AreReady : Table → List Work → Progress → Type 0
AreReady t [] p = Unit {0}
AreReady t (w ∷ ws) p = IsReady t w p × AreReady t ws (step t w p)

-- what there is to do for a request several times over, and for a range
abbrev pub times_plan : Request → Bool → ℕ → ℕ → List Work
times_plan r s n zero = works.Visit n s ∷ []
times_plan r s n (suc k) = times_plan r s n k ++ works.Ask r ∷ []

abbrev pub window_plan : Connective → Bool → Request → Bool → ℕ → ℕ → ℕ → List Work
window_plan c z r s n zero zero = works.Visit n s ∷ []
window_plan c z r s n zero (suc b) = works.Visit n s ∷ ((window_plan c z r s n zero b ++ works.Ask r ∷ []) ++ works.Join c ∷ [])
window_plan c z r s n (suc a) (suc b) = window_plan c z r s n a b ++ works.Ask r ∷ []
window_plan c z r s n (suc a) zero = works.Const z ∷ []

-- for a request once, and for some or all positions on one side
abbrev pub request_plan : Request → Bool → ℕ → List Work
request_plan r s n = works.Visit n s ∷ works.Ask r ∷ []

abbrev pub span_plan : Bool → Connective → Bool → ℕ → List Work
span_plan some c s n = works.Const some ∷ works.Visit n s ∷ works.Join c ∷ []

-- the operators of keys, and their duals with `false`
abbrev pub conjunction_key : Bool → Connective
conjunction_key true = joins.And
conjunction_key false = joins.Or

abbrev pub request_key : Bool → Direction → Request
request_key true Future = asks.Next
request_key false Future = asks.WeakNext
request_key true Past = asks.Yesterday
request_key false Past = asks.WeakYesterday

abbrev pub until_key : Bool → Direction → Connective
until_key true Future = joins.Until
until_key false Future = joins.Release
until_key true Past = joins.Since
until_key false Past = joins.Trigger

abbrev pub range_plan : Bool → Request → Bool → ℕ → ℕ → ℕ → List Work
range_plan some r s n a b = window_plan (conjunction_key (not some)) (not some) r s n a b

-- somewhere in a range, and with `false` everywhere
abbrev pub looking_plan : Bool → Direction → Range → Bool → ℕ → List Work
looking_plan some side Step s a = request_plan (request_key some side) s a
looking_plan some side Ever s a = span_plan some (until_key some side) s a
looking_plan some side (Exactly n) s a = times_plan (request_key some side) s a n
looking_plan some side (Between m n) s a = range_plan some (request_key some side) s a m n

-- what there is to do for an operator. Its negation has the dual operator, over the operand's negation
abbrev pub shape_plan : Bool → Shape → ℕ → List Work
shape_plan s Negation a = works.Visit a (not s) ∷ []
shape_plan s (Somewhere side range) a = looking_plan s side range s a
shape_plan s (Everywhere side range) a = looking_plan (not s) side range s a

abbrev pub unary_plan : Bool → UnaryOp → ℕ → List Work
unary_plan s op a = shape_plan s (shape op) a

abbrev pub connective_of : Bool → BinaryOp → Connective
connective_of s two.And = conjunction_key s
connective_of s two.Or = conjunction_key (not s)
connective_of s two.Implies = conjunction_key (not s)
connective_of s two.Iff = joins.Or
connective_of s two.Until = until_key s Future
connective_of s two.Release = until_key (not s) Future
connective_of s two.WeakUntil = until_key (not s) Future
connective_of s two.StrongRelease = until_key s Future
connective_of s two.Since = until_key s Past
connective_of s two.Trigger = until_key (not s) Past

-- two visits and their connective, and two connectives where the second operand is walked twice
abbrev pub pair_plan : Connective → Bool → Bool → ℕ → ℕ → List Work
pair_plan c s r a b = works.Visit a s ∷ works.Visit b r ∷ works.Join c ∷ []

abbrev pub nested_plan : Connective → Connective → Bool → ℕ → ℕ → List Work
nested_plan inner outer s a b = works.Visit b s ∷ works.Visit a s ∷ works.Visit b s ∷ works.Join inner ∷ works.Join outer ∷ []

abbrev pub binary_plan : Bool → BinaryOp → ℕ → ℕ → List Work
binary_plan s two.Implies a b = pair_plan (connective_of s two.Implies) (not s) s a b
binary_plan s two.Iff a b = pair_plan joins.And true s a b ++ (pair_plan joins.And false (not s) a b ++ works.Join (connective_of s two.Iff) ∷ [])
binary_plan s two.WeakUntil a b = nested_plan (conjunction_key (not s)) (connective_of s two.WeakUntil) s a b
binary_plan s two.StrongRelease a b = nested_plan (conjunction_key s) (connective_of s two.StrongRelease) s a b
binary_plan s op a b = pair_plan (connective_of s op) s s a b

-- the most steps that a range takes over an operand that takes d, and that an operator takes
abbrev pub window_cost : ℕ → ℕ → ℕ → ℕ
window_cost zero zero d = d
window_cost zero (suc b) d = d + window_cost zero b d + 2
window_cost (suc a) (suc b) d = window_cost a b d + 1
window_cost (suc a) zero d = 1

abbrev pub range_cost : Range → ℕ → ℕ
range_cost Step d = d
range_cost Ever d = d
range_cost (Exactly n) d = d + n
range_cost (Between m n) d = window_cost m n d

abbrev pub shape_cost : Shape → ℕ → ℕ
shape_cost Negation d = d + 4
shape_cost (Somewhere side range) d = range_cost range d + 4
shape_cost (Everywhere side range) d = range_cost range d + 4

-- the most steps that a tree takes, were nothing shared
abbrev pub cost : Formula → ℕ
cost (Const b) = 1
cost (Letter p) = 2
cost (Unary op a) = shape_cost (shape op) (cost a)
cost (Binary op a b) = 2 * cost a + 2 * cost b + 6

abbrev pub weight : Table → Work → ℕ
weight t (works.Visit n s) = cost (tree_at t n)
weight t (works.Const b) = 1
weight t (works.Ask r) = 1
weight t (works.Join c) = 1
weight t works.Negate = 1
weight t (works.Keep n s) = 1

abbrev pub weights : Table → List Work → ℕ
weights t [] = 0
weights t (w ∷ ws) = weight t w + weights t ws

-- the number that is known of a node and a sign, or 0
abbrev pub memo_at : Memo → ℕ → Bool → ℕ
memo_at m n true = slice_index_or m.positive.items n 0
memo_at m n false = slice_index_or m.negative.items n 0

abbrev pub HasRoom : Memo → ℕ → Type 0
HasRoom m nodes = (length m.positive.items ≡ nodes) × (length m.negative.items ≡ nodes)

abbrev pub IsWithin : Memo → ℕ → Type 0
IsWithin m n = (n < length m.positive.items) × (n < length m.negative.items)

-- a number that is known is the right one
abbrev pub IsKnown : Table → List Norm → Memo → Type 0
IsKnown t kept memo =
    (n : ℕ) (s : Bool) → n < length t.nodes → (memo_at memo n s ≡ 0)
    ⊎ (Contains kept (norm s (tree_at t n)) × (memo_at memo n s ≡ place_in kept (norm s (tree_at t n))))

-- a walk from the root's tree: the waiting numbers, the last first, are those of normal forms that are there, and the work that is
-- left ends with the root's normal form
pub record IsWalking (t : Table) (root : ℕ) (stored : List Key) (entries : List Entry) (numbers : List ℕ) (memo : Memo) (todo : List Work) : Type 0 where
  pub progress : Progress
  pub distinct : AreDistinct t.names
  pub shared : AreShared t.names progress.kept stored entries
  pub few : sizes t.nodes ≤ 16384
  pub there : (v : Norm) → Contains progress.values v → Contains progress.kept v
  pub waiting : numbers ≡ map (place_in progress.kept) progress.values
  pub room : HasRoom memo (length t.nodes)
  pub known : IsKnown t progress.kept memo
  pub ready : AreReady t todo progress
  pub ends : run t todo progress ≡ reached (pos_of (tree_at t root)) (record { kept = []; values = [] })
