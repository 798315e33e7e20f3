-- The watched clauses that come over as they are.
use Rattle.std.proofs.Common.{◌≡◌, ℕ, suc, ◌<◌, ◌≤◌, ◌⊎◌, inl, inr, false, List, [], ◌∷◌, ◌++◌, Option, Some, None, MatchOption, IfSome, All, Contains, map}
use Rattle.std.proofs.Common.{length, replicate, get_or, sym, ap, ◌∙◌, subst, arith}
use Rattle.std.proofs.Math.ListN.{get_or-map}
use Rattle.std.proofs.lemmas.Bool.{cases_lt}
use Rattle.std.proofs.lemmas.List.{map-append, length-map, length-replicate, get_or_append_left, get_or_at, get_or_default, length_push}
use mathlib.Core.Bool.{false≢true}
use Rattle.cnf_base.specs.declared.literal.Literal.{Literal}
use Rattle.cnf_base.specs.declared.literal.Hint.{Hint}
use Rattle.cnf_base.specs.declared.literal.Hint.TheVariants.{Clause, Line}
use Rattle.cnf_base.specs.Step.{named}
use Rattle.clause_log.specs.LogValue.{LogValue}
use Rattle.cdcl_trail.specs.Entries.{hint_of}
use Rattle.cdcl_watches.specs.Watching.{WatchValue, IsWatching, AreApart, clause_of, code, with_clause}
use Rattle.cdcl_watches.specs.Heads.{ArenaValue, number_of}
use Rattle.cdcl_watches.proofs.HeadNumbers.{number_at, number_low}
use Rattle.cdcl_propagate.specs.Visit.{HaveSame, IsStored, names_of, blank_hint}
use Rattle.cdcl_propagate.specs.Units.{IsOne}
use Rattle.cdcl_state.specs.State.{IsListed, AreLong}
use Rattle.cdcl_state.specs.Gathered.{MayCome, IsCopied, IsCarried, IsGathered}
use Rattle.cdcl_state.proofs.States.{long_clause}
use Rattle.cdcl_state.proofs.Attach.{listed_more, listed_last}

-- a name as a hint
pub name_at : (names : List ℕ) (c : ℕ) → get_or (map hint_of names) c blank_hint ≡ hint_of (get_or names c 0)
name_at names c = get_or-map hint_of names c 0

-- the clause of a head may come where all may
pub come_at : (lists : ℕ) (old : ArenaValue) (head : ℕ) → Contains old.heads head → length old.heads ≡ length old.clauses → All (MayCome lists) old.clauses
    → MayCome lists (clause_of old.clauses (number_of old.heads head))
come_at lists old head there paired come = let low = number_low old.heads head there in come (number_of old.heads head) [] (omega (arith, low.0, paired))

-- no clause yet
pub copied_none : (clauses : List (List Literal)) (names : List ℕ) (w : WatchValue) → w.clauses ≡ [] → w.names ≡ [] → IsCopied clauses names 0 w
copied_none clauses names w no_clauses no_names = record {
  paired = ap length no_names ∙ sym (ap length no_clauses);
  from_old = λ c low. absurd (omega (arith, low, ap length no_clauses));
  inputs = λ n at. absurd (omega (arith, at.1));
}

module _ (clauses : List (List Literal)) (names : List ℕ) (c name : ℕ) (w : WatchValue) (copied : IsCopied clauses names c w)
    (name_is : name ≡ get_or names c 0) where
  here : hint_of name ≡ get_or (map hint_of names) c blank_hint
  here = ap hint_of name_is ∙ sym (name_at names c)

  -- a line is left out
  pub copied_left : ((n : ℕ) → ¬ (hint_of name ≡ Clause n)) → IsCopied clauses names (suc c) w
  copied_left not_input = record {
    paired = copied.paired;
    from_old = copied.from_old;
    inputs = λ n at. elim (cases_lt at.0 c) [
      | inl low ↦ copied.inputs n (at.0, low, at.2)
      | inr high ↦
          let same : at.0 ≡ c = omega (arith, at.1, high) in
          absurd (not_input n (here ∙ ap (λ k. get_or (map hint_of names) k blank_hint) (sym same) ∙ at.2))
    ];
  }

  -- a clause comes over
  pub copied_more : (v : WatchValue) → c < length clauses → v ≡ with_clause w (clause_of clauses c) name → IsCopied clauses names (suc c) v
  copied_more v known is =
      let r = clause_of clauses c in
      let names_are : names_of (with_clause w r name) ≡ names_of w ++ hint_of name ∷ [] = map-append hint_of w.names (name ∷ []) in
      subst (IsCopied clauses names (suc c)) (sym is) (record {
        paired = omega (arith, copied.paired, length_push w.names name, length_push w.clauses r);
        from_old = λ k below. elim (cases_lt k (length w.clauses)) [
          | inl low ↦
              let from = copied.from_old k low in (
                from.0,
                from.1,
                get_or_append_left w.clauses (r ∷ []) [] k low ∙ from.2,
                get_or_append_left w.names (name ∷ []) 0 k (omega (arith, low, copied.paired)) ∙ from.3,
              )
          | inr high ↦
              let last : length w.clauses ≡ k = omega (arith, below, high, length_push w.clauses r) in
              (c, known, get_or_at w.clauses r [] [] k last, get_or_at w.names name [] 0 k (copied.paired ∙ last) ∙ name_is)
        ];
        inputs = λ n at. subst (λ ns. IsListed ns (Clause n)) (sym names_are) (elim (cases_lt at.0 c) [
          | inl low ↦ listed_more (names_of w) (hint_of name) (Clause n) (copied.inputs n (at.0, low, at.2))
          | inr high ↦
              let same : at.0 ≡ c = omega (arith, at.1, high) in
              listed_last (names_of w) (hint_of name) (Clause n) (sym (here ∙ ap (λ k. get_or (map hint_of names) k blank_hint) (sym same) ∙ at.2))
        ]);
      })

-- the lists, each emptied, are as many
pub emptied_lists : (old w : WatchValue) → w ≡ record { clauses = []; lists = replicate (length old.lists) []; names = [] } → length w.lists ≡ length old.lists
emptied_lists old w is = ap (λ (w : WatchValue). length w.lists) is ∙ length-replicate (length old.lists) []

-- how many clauses stand before the one of the head, or in all, where no head is left
abbrev pub count_at : List ℕ → Option ℕ → ℕ
count_at heads None = length heads
count_at heads (Some head) = number_of heads head

-- the head at a place, if there is one
pub count_head : (heads : List ℕ) (c : ℕ) (next : Option ℕ) → AreApart heads
    → MatchOption next (c ≡ length heads) (λ head. (c < length heads) × (head ≡ get_or heads c 0)) → IfSome next (Contains heads) × (count_at heads next ≡ c)
count_head heads c None apart is = (tt, sym is)
count_head heads c (Some head) apart is =
    let at = number_at heads c apart is.0 in
    (subst (Contains heads) (sym is.1) at.0, ap (number_of heads) is.1 ∙ at.1)

pub first_head : (heads : List ℕ) (next : Option ℕ) → MatchOption next (heads ≡ []) (λ head. (0 < length heads) × (head ≡ get_or heads 0 0))
    → MatchOption next (0 ≡ length heads) (λ head. (0 < length heads) × (head ≡ get_or heads 0 0))
first_head heads None is = sym (ap length is)
first_head heads (Some head) is = is

-- what was copied of the log's clauses is the log's
pub gathered_copied : (log : LogValue) (old v : WatchValue) → IsStored log.inputs log.lines old.clauses (names_of old)
    → AreLong log.inputs log.lines (names_of old)
    → IsCopied old.clauses old.names (length old.clauses) v → IsGathered (IsCarried false (names_of old)) log v
gathered_copied log old v stored long copied = record {
  stored = record {
    paired = length-map v.names hint_of ∙ copied.paired;
    from_log = λ c known.
        let from = copied.from_old c known in
        let told = stored.from_log from.0 from.1 in
        (told.0, ap (named log.inputs log.lines) (same_name c known) ∙ told.1, subst (HaveSame told.0) (sym from.2) told.2);
  };
  long = λ c clause known is.
      let known_c : c < length v.clauses = omega (arith, known, copied.paired, length-map v.names hint_of) in
      let from = copied.from_old c known_c in
      long from.0 clause (omega (arith, from.1, stored.paired)) (ap (named log.inputs log.lines) (sym (same_name c known_c)) ∙ is);
  held = held;
}
  where
    same_name : (c : ℕ) (known : c < length v.clauses) → get_or (names_of v) c blank_hint ≡ get_or (names_of old) (copied.from_old c known).0 blank_hint
    same_name c known = let from = copied.from_old c known in name_at v.names c ∙ ap hint_of from.3 ∙ sym (name_at old.names from.0)

    held : (hint : Hint) (clause : List Literal) → IsCarried false (names_of old) hint → named log.inputs log.lines hint ≡ Some clause
        → IsListed (names_of v) hint ⊎ IsOne clause
    held (Clause n) clause met is = inl (copied.inputs n (met.0, omega (arith, met.1, stored.paired), met.2))
    held (Line n) clause met is = absurd (false≢true met)

-- a clause that is watched may come
pub may_come : (lists : ℕ) (old : WatchValue) → IsWatching old.clauses old.lists → length old.lists ≡ lists → All (λ clause. 2 ≤ length clause) old.clauses
    → All (MayCome lists) old.clauses
may_come lists old watching size long c d known =
    let same : get_or old.clauses c d ≡ clause_of old.clauses c = get_or_default old.clauses c d [] known in
    subst (MayCome lists) (sym same) (record {
      long = long c [] known;
      apart = watching.apart c known;
      fits = subst (λ n. All (λ l. code l < n) (clause_of old.clauses c)) size (watching.fits c known);
    })

-- no clause that is watched is short
pub all_long : (log : LogValue) (old : WatchValue) → IsStored log.inputs log.lines old.clauses (names_of old) → AreLong log.inputs log.lines (names_of old)
    → All (λ clause. 2 ≤ length clause) old.clauses
all_long log old stored long c d known =
    let same : get_or old.clauses c d ≡ clause_of old.clauses c = get_or_default old.clauses c d [] known in
    subst (λ clause. 2 ≤ length clause) (sym same) (long_clause log.inputs log.lines old.clauses (names_of old) stored long c known)
