-- A clause is put behind the others by a name with its two watchers.
use Rattle.std.proofs.Common.{◌≡◌, ℕ, suc, ◌<◌, ◌≤◌, List, [], ◌∷◌, ◌++◌, set, All, Contains, length, get_or, sym, ap, ap₂, ◌∙◌, subst, arith}
use Rattle.std.proofs.lemmas.List.{get_or_at, length_push}
use Rattle.std.proofs.lemmas.List.Elements.{Contains-push, Contains-get_or}
use Rattle.cnf_base.specs.declared.literal.Literal.{Literal}
use Rattle.cdcl_watches.specs.declared.watcher.Watcher.{Watcher}
use Rattle.cdcl_watches.specs.Watching.{code, AreApart, IsWatching, WatchValue, with_watch, with_clause, blank}
use Rattle.cdcl_watches.specs.Watchers.{nobody, clause_number, numbers, blocker_of, IsBlocking, AreBlockers, AreWatchers, IsLinked}
use Rattle.cdcl_watches.proofs.Added.{added_watching}
use Rattle.cdcl_watches.proofs.Numbers.{numbers_push}
use Rattle.cdcl_watches.specs.Heads.{ArenaValue, number_of}
use Rattle.cdcl_watches.proofs.HeadNumbers.{number_last, head_apart}
use Rattle.cdcl_watches.proofs.Blockers.{blockers_push, blockers_more, numbers_longer, blockers_longer}

module _ (heads : List ℕ) (none : clause_number heads nobody ≡ 0) (clauses : List (List Literal)) (lists half whole : List (List Watcher)) (r : List Literal)
    (one two : Watcher)
    (one_is : clause_number heads one ≡ length clauses) (two_is : clause_number heads two ≡ length clauses)
    (first : half ≡ set lists (code (get_or r 0 blank)) (get_or lists (code (get_or r 0 blank)) [] ++ one ∷ []))
    (second : whole ≡ set half (code (get_or r 1 blank)) (get_or half (code (get_or r 1 blank)) [] ++ two ∷ [])) where
  half_numbers : numbers heads half ≡ with_watch (numbers heads lists) (get_or r 0 blank) (length clauses)
  half_numbers =
      ap (numbers heads) first ∙ numbers_push heads none lists (code (get_or r 0 blank)) one ∙ ap (with_watch (numbers heads lists) (get_or r 0 blank)) one_is

  pub added_lists : numbers heads whole ≡ with_watch (with_watch (numbers heads lists) (get_or r 0 blank) (length clauses)) (get_or r 1 blank) (length clauses)
  added_lists = ap (numbers heads) second ∙ numbers_push heads none half (code (get_or r 1 blank)) two
      ∙ ap₂ (λ ns n. with_watch ns (get_or r 1 blank) n) half_numbers two_is

  -- a literal of the clause blocks it
  blocks : (w : Watcher) → clause_number heads w ≡ length clauses → Contains heads w.head → Contains r (blocker_of w) → IsBlocking heads (clauses ++ r ∷ []) w
  blocks w is stands there = record {
    stands = stands;
    blocks = subst (λ x. Contains x (blocker_of w)) (sym (get_or_at clauses r [] [] (clause_number heads w) (sym is))) there;
  }

  pub added_watchers : AreWatchers heads clauses lists → Contains heads one.head → Contains heads two.head
      → Contains r (blocker_of one) → Contains r (blocker_of two) → 2 ≤ length r → AreApart r → All (λ l. code l < length (numbers heads lists)) r
      → AreWatchers heads (clauses ++ r ∷ []) whole
  added_watchers are stands_one stands_two in_one in_two long apart fits =
      let more = clauses ++ r ∷ [] in
      record {
        none = none;
        watching = subst (IsWatching more) (sym added_lists) (added_watching clauses (numbers heads lists) r are.watching long apart fits);
        blockers = subst (AreBlockers heads more) (sym second) (blockers_push heads more half (code (get_or r 1 blank))
            (subst (AreBlockers heads more) (sym first) (blockers_push heads more lists (code (get_or r 0 blank))
            (blockers_more heads clauses lists r are.blockers) one (blocks one one_is stands_one in_one)))
            two (blocks two two_is stands_two in_two));
      }

-- a clause is put behind the others with a head of its own
module _ (heads : List ℕ) (h : ℕ) (none : clause_number (heads ++ h ∷ []) nobody ≡ 0) (apart : AreApart (heads ++ h ∷ [])) (clauses : List (List Literal))
    (lists half whole : List (List Watcher)) (r : List Literal) (one two : Watcher)
    (paired : length (heads ++ h ∷ []) ≡ length (clauses ++ r ∷ [])) (one_is : one.head ≡ h) (two_is : two.head ≡ h)
    (first : half ≡ set lists (code (get_or r 0 blank)) (get_or lists (code (get_or r 0 blank)) [] ++ one ∷ []))
    (second : whole ≡ set half (code (get_or r 1 blank)) (get_or half (code (get_or r 1 blank)) [] ++ two ∷ [])) (are : AreWatchers heads clauses lists) where
  next : number_of (heads ++ h ∷ []) h ≡ length clauses
  next = number_last heads h (head_apart heads h apart) ∙ omega (arith, paired, length_push heads h, length_push clauses r)

  longer : numbers (heads ++ h ∷ []) lists ≡ numbers heads lists
  longer = numbers_longer heads (h ∷ []) clauses lists are.blockers

  pub stored_is : (names : List ℕ) (name : ℕ)
      → (let v : WatchValue = record { clauses = clauses ++ r ∷ []; lists = numbers (heads ++ h ∷ []) whole; names = names ++ name ∷ [] } in v)
      ≡ with_clause (record { clauses = clauses; lists = numbers heads lists; names = names }) r name
  stored_is names name =
      ap (λ ls. let v : WatchValue = record { clauses = clauses ++ r ∷ []; lists = ls; names = names ++ name ∷ [] } in v)
      (added_lists (heads ++ h ∷ []) none clauses lists half whole r one two (ap (number_of (heads ++ h ∷ [])) one_is ∙ next)
      (ap (number_of (heads ++ h ∷ [])) two_is ∙ next) first second)
      ∙ ap (λ ls. with_clause (let v : WatchValue = record { clauses = clauses; lists = ls; names = names } in v) r name) longer

  pub stored_watchers : Contains r (blocker_of one) → Contains r (blocker_of two) → 2 ≤ length r → AreApart r
      → All (λ l. code l < length (numbers heads lists)) r → AreWatchers (heads ++ h ∷ []) (clauses ++ r ∷ []) whole
  stored_watchers in_one in_two long distinct fits =
      let stands : Contains (heads ++ h ∷ []) h = Contains-push heads h in
      added_watchers (heads ++ h ∷ []) none clauses lists half whole r one two (ap (number_of (heads ++ h ∷ [])) one_is ∙ next)
      (ap (number_of (heads ++ h ∷ [])) two_is ∙ next) first second
      (record {
        none = none;
        watching = subst (IsWatching clauses) (sym longer) are.watching;
        blockers = blockers_longer heads (h ∷ []) clauses lists are.blockers;
      })
      (subst (Contains (heads ++ h ∷ [])) (sym one_is) stands) (subst (Contains (heads ++ h ∷ [])) (sym two_is) stands) in_one in_two long distinct
      (subst (λ ls. All (λ l. code l < length ls) r) (sym longer) fits)

-- the clause that was put there is the last
module _ (a before : ArenaValue) (r : List Literal) (h name : ℕ) (paired : length before.heads ≡ length before.clauses) (apart : AreApart before.heads)
    (pushed : before ≡ record { clauses = a.clauses ++ r ∷ []; heads = a.heads ++ h ∷ []; names = a.names ++ name ∷ [] }) where
  pub last_number : suc (number_of before.heads h) ≡ length before.clauses
  last_number =
      let at : number_of before.heads h ≡ length a.heads =
      ap (λ (v : ArenaValue). number_of v.heads h) pushed
      ∙ number_last a.heads h (head_apart a.heads h (subst (λ (v : ArenaValue). AreApart v.heads) pushed apart)) in
      omega (arith, at, ap (λ (v : ArenaValue). length v.heads) pushed, length_push a.heads h, paired)

  -- and where its first two literals watch it
  module _ (none : number_of before.heads 0 ≡ 0) (now : ArenaValue) (same : now ≡ before) (lists after : List (List Watcher)) (x y : Literal)
      (x_is : x ≡ get_or r 0 blank) (y_is : y ≡ get_or r 1 blank)
      (linked : IsLinked lists after h x y) (are : AreWatchers a.heads a.clauses lists) where
    own : IsLinked lists after h (get_or r 0 blank) (get_or r 1 blank)
    own = subst (λ z. IsLinked lists after h z (get_or r 1 blank)) x_is (subst (IsLinked lists after h x) y_is linked)

    pub linked_watchers : 2 ≤ length r → AreApart r → All (λ l. code l < length (numbers a.heads lists)) r → AreWatchers now.heads now.clauses after
    linked_watchers long distinct fits =
        subst (λ (v : ArenaValue). AreWatchers v.heads v.clauses after) (sym (same ∙ pushed))
        (stored_watchers a.heads h (subst (λ (v : ArenaValue). number_of v.heads 0 ≡ 0) pushed none) (subst (λ (v : ArenaValue). AreApart v.heads) pushed apart)
        a.clauses lists own.half after r own.one own.two
        (subst (λ (v : ArenaValue). length v.heads ≡ length v.clauses) pushed paired) own.one_head own.two_head own.first own.second are
        (subst (Contains r) (sym own.one_blocker) (Contains-get_or r 1 blank (omega (
          arith,
          long,
        )))) (subst (Contains r) (sym own.two_blocker) (Contains-get_or r 0 blank (omega (arith, long)))) long distinct fits)

    pub linked_value : (let v : WatchValue = record { clauses = now.clauses; lists = numbers now.heads after; names = now.names } in v)
        ≡ with_clause (record { clauses = a.clauses; lists = numbers a.heads lists; names = a.names }) r name
    linked_value =
        ap (λ (v : ArenaValue). let u : WatchValue = record { clauses = v.clauses; lists = numbers v.heads after; names = v.names } in u) (same ∙ pushed)
        ∙ stored_is a.heads h (subst (λ (v : ArenaValue). number_of v.heads 0 ≡ 0) pushed none) (subst (λ (v : ArenaValue). AreApart v.heads) pushed apart)
        a.clauses lists own.half after r own.one own.two
        (subst (λ (v : ArenaValue). length v.heads ≡ length v.clauses) pushed paired) own.one_head own.two_head own.first own.second are a.names name
