-- Conflicts: each has a member, so what is left grows less; and how they follow one another.
use Rattle.std.proofs.Common.{◌≡◌, ◌∙◌, ℕ, zero, suc, ◌<◌, ◌≤◌, Bool, true, false, not, ◌||◌, List, [], ◌∷◌, ◌++◌, length, refl, ap, subst, arith, Contains}
use Rattle.std.proofs.Common.{cond}
use Rattle.std.specs.Global.{Box}
use Rattle.std.specs.List.{All, filter}
use Rattle.std.proofs.lemmas.Bool.{eq-eqb}
use Rattle.std.proofs.lemmas.List.Sums.{count_by-le-length, length-filter}
use Rattle.std.proofs.lemmas.List.Elements.{All-nil, All-head}
use Rattle.ltl_syntax.specs.declared.node.Kind.{Kind}
use Rattle.ltl_syntax.specs.declared.node.Kind.TheVariants as Kinds
use Rattle.ltl_word.specs.declared.trace.Trace.{Trace}
use Rattle.ltl_word.specs.declared.trace.Trace.TheVariants as traces
use Rattle.ltl_word.specs.Holds.{Satisfies}
use Rattle.requirement_questions.specs.declared.members.Member.{Member}
use Rattle.requirement_questions.specs.declared.leaving.Because.{Because}
use Rattle.requirement_questions.specs.Formulas.{SatisfiesEach, NoneSatisfies}
use Rattle.requirement_questions.specs.Members.{places}
use Rattle.requirement_document.specs.Values.{DocumentValue}
use Rattle.requirement_answers.specs.Items.{formulas_of, is_among, without}
use Rattle.requirement_answers.specs.Answers.{IsReason, AreConflicts}

-- ---- a trace of each kind, of one state in which nothing is true

abbrev one_state : Kind → Trace
one_state Kinds.Infinite = traces.Infinite [] ([] ∷ [])
one_state Kinds.Finite = traces.Finite ([] ∷ [])

satisfies_nothing : (kind : Kind) → SatisfiesEach kind [] (one_state kind)
satisfies_nothing Kinds.Infinite = record { trace = omega arith; of_kind = tt; each = All-nil (Satisfies (one_state Kinds.Infinite)) }
satisfies_nothing Kinds.Finite = record { trace = omega arith; of_kind = tt; each = All-nil (Satisfies (one_state Kinds.Finite)) }

some_member : (d : DocumentValue) (ms : List Member) → NoneSatisfies d.kind (formulas_of d (places ms) ++ []) → 0 < length ms
some_member d [] none = absurd (none (one_state d.kind) (satisfies_nothing d.kind))
some_member d (m ∷ ms) none = omega arith

-- where nothing is asked, items that cannot be met are some
pub has_member : (d : DocumentValue) (given : List ℕ) (b : Because) → IsReason d given [] b → 0 < length b.members.items
has_member d given b w = some_member d b.members.items w.none

-- ---- less is left

kept_few : (p : ℕ → Bool) (xs : List ℕ) → length (filter p xs) ≤ length xs
kept_few p xs = omega (arith, length-filter p xs, count_by-le-length p xs)

drops : (p : ℕ → Bool) (xs : List ℕ) (x : ℕ) → Contains xs x → p x ≡ false → length (filter p xs) < length xs
drops p [] x (k, lt, e) out = absurd (omega (arith, lt))
drops p (y ∷ xs) x (zero, lt, e) out = by (p y) (ap p e ∙ out) where
  by : (b : Bool) → b ≡ false → length (cond b (y ∷ filter p xs) (filter p xs)) < suc (length xs)
  by true out = absurd (cc)
  by false out = omega (arith, kept_few p xs)
drops p (y ∷ xs) x (suc k, lt, e) out = by (p y) (drops p xs x (k, omega (arith, lt), e) out) where
  by : (b : Bool) → length (filter p xs) < length xs → length (cond b (y ∷ filter p xs) (filter p xs)) < suc (length xs)
  by true less = omega (arith, less)
  by false less = omega (arith, less)

less_without : (ms : List Member) (left : List ℕ) → 0 < length ms → All (Contains left) (places ms) → length (without (places ms) left) < length left
less_without [] left some all = absurd (omega (arith, some))
less_without (m ∷ ms) left some all =
    let here : is_among (places (m ∷ ms)) m.given ≡ true = ap (λ b. b || is_among (places ms) m.given) (eq-eqb m.given m.given refl) in
    drops (λ n. not (is_among (places (m ∷ ms)) n)) left m.given (All-head (Contains left) m.given (places ms) all) (ap not here)

pub less_left : (d : DocumentValue) (left : List ℕ) (b : Because) → IsReason d left [] b → 0 < length b.members.items
    → length (without (places b.members.items) left) < length left
less_left d left b w some = less_without b.members.items left some w.among

-- ---- one conflict more

pub conflicts_more : (d : DocumentValue) (given left : List ℕ) (found : List (Box Because)) (b : Box Because) → AreConflicts d given found left
    → IsReason d left [] b.value → 0 < length b.value.members.items
    → AreConflicts d given (found ++ b ∷ []) (without (places b.value.members.items) left)
conflicts_more d given left [] b same w some = (subst (λ xs. IsReason d xs [] b.value) same w, some, ap (without (places b.value.members.items)) same)
conflicts_more d given left (x ∷ found) b before w some =
    (before.0, before.1, conflicts_more d (without (places x.value.members.items) given) left found b before.2 w some)
