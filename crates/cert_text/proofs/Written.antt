-- What is written reads again, and each line that is named there is live.
use Rattle.std.proofs.Common.{◌≡◌, ℕ, zero, suc, ◌+◌, ◌<◌, ◌≤◌, ◌==◌, ◌||◌, ◌&&◌, inr, Bool, true, false, not, List, [], ◌∷◌, ◌++◌, length, take, get_or}
use Rattle.std.proofs.Common.{filter, All, Contains, Some, refl, sym, ap, ◌∙◌, subst, arith, if◌then◌else◌}
use Rattle.std.specs.List.{list_any}
use Rattle.std.proofs.lemmas.Bool.{eq-eqb, ne_eqb, and_left, and_right, cond_both}
use Rattle.std.proofs.lemmas.List.Elements.{All-nil, All-cons, All-head, All-tail, All-push, All-filter}
use Rattle.std.proofs.lemmas.Option.{slice_get_within}
use Rattle.std.proofs.lemmas.List.Folds.{list_any_at}
use mathlib.Core.Bool.{false≢true}
use Rattle.ltl_syntax.specs.declared.node.Kind.{Kind}
use Rattle.cnf_base.specs.declared.literal.Literal.{Literal}
use Rattle.cnf_base.specs.declared.literal.Hint.{Hint}
use Rattle.cnf_base.specs.declared.literal.Hint.TheVariants as hints
use Rattle.cnf_base.specs.Step.{numbered, named, Refutes, conflict, propagate, IsHintedStep}
use Rattle.cnf_base.specs.Among.{IsStepAmong}
use Rattle.cnf_base.proofs.Among.{step_to, step_left}
use Rattle.cert_text.specs.Text.{Part, Line, Delete, greatest_u64, IsLiteral, IsNumber, IsHint, IsPart, IsCertificate}
use Rattle.cert_text.specs.Live.{lines_of, hints_of, parts_before, deletes, live_line, live_at, IsGoodLine}
use Rattle.cert_text.specs.Writing.{is_line, uses, last_among, last_use, numbers_to, ended_at, delete_of, parts_from, written}
use Rattle.cert_text.proofs.LiveLines.{lines_before, live_undeleted}

-- a delete has no lines
lines_delete : (ns : List ℕ) (parts : List Part) → lines_of (delete_of ns ++ parts) ≡ lines_of parts
lines_delete [] parts = refl
lines_delete (n ∷ ns) parts = refl

hints_delete : (ns : List ℕ) (parts : List Part) → hints_of (delete_of ns ++ parts) ≡ hints_of parts
hints_delete [] parts = refl
hints_delete (n ∷ ns) parts = refl

before_delete : (ns : List ℕ) (parts : List Part) (k : ℕ) → parts_before (delete_of ns ++ parts) k ≡ delete_of ns ++ parts_before parts k
before_delete [] parts k = refl
before_delete (n ∷ ns) parts k = refl

-- the lines and hints that are written
pub written_lines : (hss : List (List Hint)) (targets : List ℕ) (n : ℕ) (ls : List (List Literal)) (hs : List (List Hint)) → length hs ≡ length ls
    → lines_of (parts_from hss targets n ls hs) ≡ ls
written_lines hss targets n [] hs paired = refl
written_lines hss targets n (l ∷ ls) [] paired = absurd (omega (arith, paired))
written_lines hss targets n (l ∷ ls) (h ∷ hs) paired =
    ap (λ x. l ∷ x)
    (lines_delete (ended_at hss targets (suc n)) (parts_from hss targets (suc n) ls hs) ∙ written_lines hss targets (suc n) ls hs (omega (arith, paired)))

pub written_hints : (hss : List (List Hint)) (targets : List ℕ) (n : ℕ) (ls : List (List Literal)) (hs : List (List Hint)) → length hs ≡ length ls
    → hints_of (parts_from hss targets n ls hs) ≡ hs
written_hints hss targets n [] [] paired = refl
written_hints hss targets n [] (h ∷ hs) paired = absurd (omega (arith, paired))
written_hints hss targets n (l ∷ ls) [] paired = absurd (omega (arith, paired))
written_hints hss targets n (l ∷ ls) (h ∷ hs) paired =
    ap (λ x. h ∷ x)
    (hints_delete (ended_at hss targets (suc n)) (parts_from hss targets (suc n) ls hs) ∙ written_hints hss targets (suc n) ls hs (omega (arith, paired)))

-- a number that does not pass is not kept
not_kept : (p : ℕ → Bool) (m : ℕ) (xs : List ℕ) → p m ≡ false → list_any (λ n. n == m) (filter p xs) ≡ false
not_kept p m [] e = refl
not_kept p m (x ∷ xs) e = go (p x) refl (not_kept p m xs e)
  where
    go : (b : Bool) → p x ≡ b → list_any (λ n. n == m) (filter p xs) ≡ false → list_any (λ n. n == m) (if b then x ∷ filter p xs else filter p xs) ≡ false
    go false is rest = rest
    go true is rest =
        let other : (x == m) ≡ false = ne_eqb x m (λ same. false≢true (sym e ∙ sym (ap p same) ∙ is)) in
        ap (λ b. b || list_any (λ n. n == m) (filter p xs)) other ∙ rest

-- nothing deletes line m in what is written where nothing ends it
any_delete : (m : ℕ) (ns : List ℕ) (parts : List Part)
    → list_any (λ n. n == m) ns ≡ false → list_any (deletes m) parts ≡ false → list_any (deletes m) (delete_of ns ++ parts) ≡ false
any_delete m [] parts none rest = rest
any_delete m (n ∷ ns) parts none rest = ap (λ b. b || list_any (deletes m) parts) none ∙ rest

pub kept_before : (hss : List (List Hint)) (targets : List ℕ) (m n : ℕ) (ls : List (List Literal)) (hs : List (List Hint)) (k : ℕ)
    → ((i : ℕ) → n < i → i ≤ n + k → list_any (λ x. x == m) (ended_at hss targets i) ≡ false)
    → list_any (deletes m) (parts_before (parts_from hss targets n ls hs) k) ≡ false
kept_before hss targets m n [] hs k none = refl
kept_before hss targets m n (l ∷ ls) [] k none = refl
kept_before hss targets m n (l ∷ ls) (h ∷ hs) zero none = refl
kept_before hss targets m n (l ∷ ls) (h ∷ hs) (suc k) none =
    let here : List ℕ = ended_at hss targets (suc n) in
    let rest : List Part = parts_from hss targets (suc n) ls hs in
    ap (list_any (deletes m)) (before_delete here rest k)
    ∙ any_delete m here (parts_before rest k) (none (suc n) (omega arith) (omega arith))
    (kept_before hss targets m (suc n) ls hs k (λ i low high. none i (omega (arith, low)) (omega (arith, high))))

pub kept_whole : (hss : List (List Hint)) (targets : List ℕ) (m n : ℕ) (ls : List (List Literal)) (hs : List (List Hint))
    → ((i : ℕ) → list_any (λ x. x == m) (ended_at hss targets i) ≡ false) → list_any (deletes m) (parts_from hss targets n ls hs) ≡ false
kept_whole hss targets m n [] hs none = refl
kept_whole hss targets m n (l ∷ ls) [] none = refl
kept_whole hss targets m n (l ∷ ls) (h ∷ hs) none =
    any_delete m (ended_at hss targets (suc n)) (parts_from hss targets (suc n) ls hs) (none (suc n)) (kept_whole hss targets m (suc n) ls hs none)

-- the last use is no earlier than any use
last_low : (m n : ℕ) (hss : List (List Hint)) (last : ℕ) → last ≤ n → last ≤ last_among m n hss last
last_low m n [] last le = omega arith
last_low m n (hs ∷ hss) last le =
    cond_both (uses m hs) (suc n) last (λ x. last ≤ last_among m (suc n) hss x) (λ _. omega (arith, le, last_low m (suc n) hss (suc n) (omega arith)))
    (λ _. last_low m (suc n) hss last (omega (arith, le)))

used_by : (m n : ℕ) (hss : List (List Hint)) (last j : ℕ) → j < length hss → uses m (get_or hss j []) ≡ true → n + suc j ≤ last_among m n hss last
used_by m n [] last j low it = absurd (omega (arith, low))
used_by m n (hs ∷ hss) last zero low it =
    subst (λ b. n + 1 ≤ last_among m (suc n) hss (if b then suc n else last)) (sym it) (omega (arith, last_low m (suc n) hss (suc n) (omega arith)))
used_by m n (hs ∷ hss) last (suc j) low it = omega (arith, used_by m (suc n) hss (if uses m hs then suc n else last) j (omega (arith, low)) it)

-- a line that names line m stands at or before its last use
pub use_is_before : (hss : List (List Hint)) (m j : ℕ) → j < length hss → Contains (get_or hss j []) (hints.Line m) → suc j ≤ last_use hss m
use_is_before hss m j low there =
    let hs = get_or hss j [] in
    let here : is_line m (get_or hs there.0 (hints.Line m)) ≡ true = ap (is_line m) there.2 ∙ eq-eqb m m refl in
    omega (arith, used_by m 0 hss m j low (list_any_at (is_line m) hs there.0 (hints.Line m) there.1 here))

module _ (hss : List (List Hint)) (targets : List ℕ) (ls : List (List Literal)) (paired : length hss ≡ length ls) where
  -- a line that is named by a hint is live there
  pub hint_is_live : (k m : ℕ) → k < length ls → Contains (get_or hss k []) (hints.Line m)
      → live_at (parts_from hss targets 0 ls hss) k m ≡ numbered (take k ls) m
  hint_is_live k m low there =
      let parts = parts_from hss targets 0 ls hss in
      let late = use_is_before hss m k (omega (arith, paired, low)) there in
      let test : ℕ → ℕ → Bool = λ i x. not (list_any (λ t. t == x) targets) && (last_use hss x == i) in
      let none : list_any (deletes m) (parts_before parts k) ≡ false =
      kept_before hss targets m 0 ls hss k (λ i _ high. not_kept (test i) m (numbers_to i)
      (and_right (not (list_any (λ t. t == m) targets)) (last_use hss m == i) (ne_eqb (last_use hss m) i (λ e. omega (arith, e, high, late))))) in
      live_undeleted (parts_before parts k) m none ∙ ap (λ x. numbered x m) (lines_before parts k ∙ ap (take k) (written_lines hss targets 0 ls hss paired))

  -- a target is live at the close
  pub target_is_live : (t : ℕ) → Contains targets t → live_line (parts_from hss targets 0 ls hss) t ≡ numbered ls t
  target_is_live t there =
      let parts = parts_from hss targets 0 ls hss in
      let is : list_any (λ x. x == t) targets ≡ true = list_any_at (λ x. x == t) targets there.0 t there.1 (eq-eqb (get_or targets there.0 t) t there.2) in
      let test : ℕ → ℕ → Bool = λ i x. not (list_any (λ y. y == x) targets) && (last_use hss x == i) in
      live_undeleted parts t (kept_whole hss targets t 0 ls hss
      (λ i. not_kept (test i) t (numbers_to i) (and_left (not (list_any (λ y. y == t) targets)) (last_use hss t == i) (ap not is))))
      ∙ ap (λ x. numbered x t) (written_lines hss targets 0 ls hss paired)

  -- a line that is a hinted step over the earlier lines is one over those that are live at it
  pub written_good : (clauses : List (List Literal)) (greatest k : ℕ) → k < length ls
      → IsHintedStep clauses (take k ls) greatest (get_or ls k []) (get_or hss k [])
      → IsGoodLine clauses greatest (parts_from hss targets 0 ls hss) k
  written_good clauses greatest k low step =
      let parts = parts_from hss targets 0 ls hss in
      subst (λ x. IsGoodLineOf x (hints_of parts)) (sym (written_lines hss targets 0 ls hss paired))
      (subst (λ x. IsGoodLineOf ls x) (sym (written_hints hss targets 0 ls hss paired))
      (step_left clauses (numbered (take k ls)) (live_at parts k) greatest (get_or ls k []) (get_or hss k [])
      (step_to clauses (take k ls) greatest (get_or ls k []) (get_or hss k []) step) (λ m there. hint_is_live k m low there)))
    where
      IsGoodLineOf : List (List Literal) → List (List Hint) → Type 0
      IsGoodLineOf x y = IsStepAmong clauses (live_at (parts_from hss targets 0 ls hss) k) greatest (get_or x k []) (get_or y k [])

-- the numbers up to n
numbers_fit : (n greatest : ℕ) → n ≤ greatest → All (λ i. (1 ≤ i) × (i ≤ greatest)) (numbers_to n)
numbers_fit zero greatest le = All-nil (λ i. (1 ≤ i) × (i ≤ greatest))
numbers_fit (suc n) greatest le = All-push (λ i. (1 ≤ i) × (i ≤ greatest)) (numbers_to n) (suc n) (numbers_fit n greatest (omega (arith, le))) (omega arith, le)

delete_fits : (ns : List ℕ) (parts : List Part) → All IsNumber ns → All (IsPart 2) parts → All (IsPart 2) (delete_of ns ++ parts)
delete_fits [] parts all rest = rest
delete_fits (n ∷ ns) parts all rest = All-cons (IsPart 2) (Delete (n ∷ ns)) parts (refl, omega arith, all) rest

-- each part that is written is one of version 2
parts_fit : (hss : List (List Hint)) (targets : List ℕ) (n : ℕ) (ls : List (List Literal)) (hs : List (List Hint))
    → n + length ls ≤ greatest_u64 → All (All IsLiteral) ls → All (All IsHint) hs
    → All (IsPart 2) (parts_from hss targets n ls hs)
parts_fit hss targets n [] hs few literals hints = All-nil (IsPart 2)
parts_fit hss targets n (l ∷ ls) [] few literals hints = All-nil (IsPart 2)
parts_fit hss targets n (l ∷ ls) (h ∷ hs) few literals hints =
    let test : ℕ → Bool = λ m. not (list_any (λ t. t == m) targets) && (last_use hss m == suc n) in
    All-cons (IsPart 2) (Line l h) (delete_of (ended_at hss targets (suc n)) ++ parts_from hss targets (suc n) ls hs)
    (All-head (All IsLiteral) l ls literals, All-head (All IsHint) h hs hints)
    (delete_fits (ended_at hss targets (suc n)) (parts_from hss targets (suc n) ls hs)
    (All-filter test IsNumber (numbers_to (suc n)) (numbers_fit (suc n) greatest_u64 (omega (arith, few))))
    (parts_fit hss targets (suc n) ls hs (omega (arith, few)) (All-tail (All IsLiteral) l ls literals) (All-tail (All IsHint) h hs hints)))

-- what is written is a certificate text, so it is the text of this certificate alone
pub written_is : (kind : Kind) (depth : ℕ) (ls : List (List Literal)) (hss : List (List Hint)) (targets : List ℕ)
    → depth ≤ 1000 → length targets ≡ depth + 2 → All IsNumber targets → All (All IsLiteral) ls → All (All IsHint) hss → length ls ≤ greatest_u64
    → IsCertificate (written kind depth ls hss targets)
written_is kind depth ls hss targets shallow count numbers literals hints few = record {
  begun = record { version = inr refl; depth = shallow; parts = parts_fit hss targets 0 ls hss (omega (arith, few)) literals hints };
  count = count;
  targets = numbers;
}

numbered_range : (clauses : List (List Literal)) (n : ℕ) (clause : List Literal) → numbered clauses n ≡ Some clause → (1 ≤ n) × (n ≤ length clauses)
numbered_range clauses zero clause is = cc
numbered_range clauses (suc n) clause is = (omega arith, omega (arith, slice_get_within clauses n clause is))

hint_range : (clauses lines : List (List Literal)) (hint : Hint) (clause : List Literal)
    → length clauses ≤ greatest_u64 → length lines ≤ greatest_u64 → named clauses lines hint ≡ Some clause → IsHint hint
hint_range clauses lines (hints.Clause n) clause a b is = let r = numbered_range clauses n clause is in (r.0, omega (arith, r.1, a))
hint_range clauses lines (hints.Line n) clause a b is = let r = numbered_range lines n clause is in (r.0, omega (arith, r.1, b))

-- the hints of a hinted step are numbers that the text can have
pub hints_fit : (clauses lines : List (List Literal)) (greatest : ℕ) {falses : List Literal} {hs : List Hint}
    → length clauses ≤ greatest_u64 → length lines ≤ greatest_u64
    → Refutes clauses lines greatest falses hs → All IsHint hs
hints_fit clauses lines greatest a b (conflict {hint = hint} {clause = clause} names all_false) =
    All-cons IsHint hint [] (hint_range clauses lines hint clause a b names.is) (All-nil IsHint)
hints_fit clauses lines greatest a b (propagate {hint = hint} {hints = hs} {clause = clause} names unit rest) =
    All-cons IsHint hint hs (hint_range clauses lines hint clause a b names.is) (hints_fit clauses lines greatest a b rest)
