-- A closure has at most as many entries as its nodes bring by their sizes, and a walk has no more on its way.
use Rattle.std.proofs.Common.{◌≡◌, ℕ, ◌+◌, ◌≤◌, inl, inr, Bool, true, false, IsTrue, refl, ◌∙◌, ap, subst, arith, List, [], ◌∷◌, ◌++◌, length, length-append}
use Rattle.std.proofs.Common.{Contains, if◌then◌else◌}
use Rattle.std.proofs.lemmas.List.{length-map}
use Rattle.std.proofs.lemmas.List.Elements.{Contains-append_left, Contains-push}
use Rattle.ltl_syntax.specs.Table.{Table, tree_at}
use Rattle.ltl_syntax.specs.Size.{sizes}
use Rattle.ltl_closure.specs.Norm.{Norm, NConst, norm, pos_of}
use Rattle.ltl_closure.specs.Closure.{closure, walk, with_new, added, holds_entry}
use Rattle.ltl_closure.specs.Keys.{asking, joined, own, key_of}
use Rattle.ltl_closure.specs.Plan.{Progress, negated, step, run, IsWalking}
use Rattle.ltl_closure.specs.declared.entry.Entry.{Entry}
use Rattle.ltl_closure.specs.declared.key.Key.{Key}
use Rattle.ltl_closure.specs.declared.plan.Work.{Work}
use Rattle.ltl_closure.specs.declared.plan.Work.TheVariants as works
use Rattle.ltl_closure.specs.declared.memo.Memo.{Memo}
use Rattle.ltl_closure.proofs.Lists.{Contains-nil, Contains-cons_cases, Contains-here, Contains-there}
use Rattle.ltl_closure.proofs.Entries.{holds_entry_is}
use Rattle.ltl_closure.proofs.Again.{holds_entry_of}
use Rattle.ltl_closure.proofs.Brought.{brought, brought_few, walk_brought}
use Rattle.ltl_closure.proofs.Sharing.{stand_length}

-- how many of the list are not there yet
abbrev absent : Bool → ℕ
absent true = 0
absent false = 1

abbrev missing : List Norm → List Norm → ℕ
missing kept [] = 0
missing kept (e ∷ es) = absent (holds_entry kept e) + missing kept es

absent_less : (b c : Bool) → (IsTrue b → IsTrue c) → absent c ≤ absent b
absent_less true c h = let e : c ≡ true = h refl in rw e (omega arith)
absent_less false true h = omega arith
absent_less false false h = omega arith

held : (kept : List Norm) (x e : Norm) → IsTrue (holds_entry kept e) → IsTrue (holds_entry (kept ++ x ∷ []) e)
held kept x e h = holds_entry_of (kept ++ x ∷ []) e (Contains-append_left kept (x ∷ []) e (holds_entry_is kept e h))

missing_less : (kept : List Norm) (x : Norm) (es : List Norm) → missing (kept ++ x ∷ []) es ≤ missing kept es
missing_less kept x [] = omega arith
missing_less kept x (e ∷ es) =
    let rest = missing_less kept x es in
    let one = absent_less (holds_entry kept e) (holds_entry (kept ++ x ∷ []) e) (held kept x e) in
    omega arith

-- an entry that comes is missing no more
missing_one : (kept : List Norm) (x : Norm) (es : List Norm) → holds_entry kept x ≡ false → Contains es x → missing (kept ++ x ∷ []) es + 1 ≤ missing kept es
missing_one kept x [] new h = absurd (Contains-nil x h)
missing_one kept x (e ∷ es) new h = elim (Contains-cons_cases e es x h) [
  | inl i ↦
      let before : holds_entry kept e ≡ false = rw i new in
      let after : holds_entry (kept ++ x ∷ []) e ≡ true = rw i (holds_entry_of (kept ++ x ∷ []) x (Contains-push kept x)) in
      let rest = missing_less kept x es in
      rw (before, after) (omega arith)
  | inr r ↦
      let rest = missing_one kept x es new r in
      let one = absent_less (holds_entry kept e) (holds_entry (kept ++ x ∷ []) e) (held kept x e) in
      omega arith
]

added_few : (kept : List Norm) (x : Norm) (es : List Norm) → Contains es x → length (added kept x) + missing (added kept x) es ≤ length kept + missing kept es
added_few kept x es h = by (holds_entry kept x) refl
  where
    by : (b : Bool)
        → holds_entry kept x ≡ b → length (if b then kept else kept ++ x ∷ []) + missing (if b then kept else kept ++ x ∷ []) es ≤ length kept + missing kept es
    by true e = omega arith
    by false e = let one = missing_one kept x es e h in omega (arith, length-append kept (x ∷ []))

with_new_few : (kept xs es : List Norm) → ((e : Norm) → Contains xs e → Contains es e)
    → length (with_new kept xs) + missing (with_new kept xs) es ≤ length kept + missing kept es
with_new_few kept [] es h = omega arith
with_new_few kept (x ∷ xs) es h =
    let rest = with_new_few (added kept x) xs es (λ e c. h e (Contains-there x xs e c)) in
    let one = added_few kept x es (h x (Contains-here x xs)) in
    omega arith

missing_all : (es : List Norm) → missing [] es ≤ length es
missing_all [] = omega arith
missing_all (e ∷ es) = let rest = missing_all es in omega arith

pub closure_few : (t : Table) (n : ℕ) → sizes t.nodes ≤ 16384 → length (closure (tree_at t n)) ≤ 98306
closure_few t n few =
    let all = with_new_few [] (walk (pos_of (tree_at t n))) (brought t) (walk_brought t n) in
    let none = missing_all (brought t) in
    let count = brought_few t in
    omega arith

-- what is kept only grows
added_grows : (kept : List Norm) (x : Norm) → length kept ≤ length (added kept x)
added_grows kept x = by (holds_entry kept x)
  where
    by : (b : Bool) → length kept ≤ length (if b then kept else kept ++ x ∷ [])
    by true = omega arith
    by false = omega (arith, length-append kept (x ∷ []))

with_new_grows : (kept xs : List Norm) → length kept ≤ length (with_new kept xs)
with_new_grows kept [] = omega arith
with_new_grows kept (x ∷ xs) =
    let one = added_grows kept x in
    let rest = with_new_grows (added kept x) xs in
    omega arith

step_grows : (t : Table) (w : Work) (kept values : List Norm) → length kept ≤ length (step t w (record { kept = kept; values = values })).kept
step_grows t (works.Visit n s) kept values = with_new_grows kept (walk (norm s (tree_at t n)))
step_grows t (works.Const b) kept values = with_new_grows kept (own (NConst b))
step_grows t (works.Ask r) kept [] = omega arith
step_grows t (works.Ask r) kept (a ∷ vs) = with_new_grows kept (own (asking r a))
step_grows t (works.Join c) kept [] = omega arith
step_grows t (works.Join c) kept (b ∷ []) = omega arith
step_grows t (works.Join c) kept (b ∷ a ∷ vs) = with_new_grows kept (own (joined c a b))
step_grows t works.Negate kept [] = omega arith
step_grows t works.Negate kept (a ∷ vs) = with_new_grows kept (own (negated a))
step_grows t (works.Keep n s) kept values = omega arith

run_grows : (t : Table) (ws : List Work) (p : Progress) → length p.kept ≤ length (run t ws p).kept
run_grows t [] p = omega arith
run_grows t (w ∷ ws) p =
    let one = step_grows t w p.kept p.values in
    let rest = run_grows t ws (step t w p) in
    omega arith

-- on its way a walk has no more keys than its closure has entries
pub walking_few : (t : Table) (root : ℕ) (ks : List Key) (xs : List Entry) (numbers : List ℕ) (memo : Memo) (todo : List Work)
    → IsWalking t root ks xs numbers memo todo → length ks ≤ 98306
walking_few t root ks xs numbers memo todo w =
    let all = closure_few t root w.few in
    let ends : (run t todo w.progress).kept ≡ closure (tree_at t root) = ap (λ p. let q : Progress = p in q.kept) w.ends in
    let grown : length w.progress.kept ≤ length (closure (tree_at t root)) =
    subst (λ l. length w.progress.kept ≤ length l) ends (run_grows t todo w.progress) in
    let keys : length ks ≡ length xs = ap length w.shared.keys ∙ length-map xs key_of in
    let same = stand_length t.names w.progress.kept w.progress.kept xs w.shared.each in
    omega arith
