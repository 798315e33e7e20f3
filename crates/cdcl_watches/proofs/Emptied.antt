-- No clauses, and as many lists as before, all empty.
use Rattle.std.proofs.Common.{◌≡◌, ℕ, zero, suc, ◌≤◌, ◌^◌, inl, List, [], ◌∷◌, replicate, length, get_or, All, Contains, refl, sym, ap, ap₂, ◌∙◌, subst, arith}
use Rattle.std.proofs.lemmas.List.{get_or_default, length-map, length-replicate}
use Rattle.std.proofs.lemmas.List.Elements.{All-nil}
use Rattle.cdcl_watches.specs.declared.watcher.Watcher.{Watcher}
use Rattle.cdcl_watches.specs.declared.span.Span.{Span}
use Rattle.cdcl_watches.specs.Watching.{code, AreApart, IsWatching, WatchValue}
use Rattle.cdcl_watches.specs.Watchers.{numbers, IsBlocking, AreWatchers}
use Rattle.cdcl_watches.specs.Heads.{ArenaValue}
use Rattle.cdcl_watches.specs.Pool.{nowhere, content, contents, room_of, span_at, AreClear, IsSpan, AreBlocks, IsPool}

-- a list that has no block is empty
nowhere_lists : (pool : List Watcher) (n : ℕ) → contents pool (replicate n nowhere) ≡ replicate n []
nowhere_lists pool zero = refl
nowhere_lists pool (suc n) = ap (λ ls. [] ∷ ls) (nowhere_lists pool n)

nowhere_at : (n k : ℕ) → span_at (replicate n nowhere) k ≡ nowhere
nowhere_at zero k = refl
nowhere_at (suc n) zero = refl
nowhere_at (suc n) (suc k) = nowhere_at n k

pub emptied_call : (pool new : List Watcher) (spans : List Span) → contents new (replicate (length spans) nowhere) ≡ replicate (length (contents pool spans)) []
emptied_call pool new spans = nowhere_lists new (length spans) ∙ ap (λ n. replicate n []) (sym (length-map spans (content pool)))

-- lists without blocks keep clear of one another
nowhere_blocks : (n : ℕ) → AreBlocks 0 (replicate n nowhere) []
nowhere_blocks n = record {
  each = λ k low. subst (IsSpan 0) (sym (nowhere_at n k)) (record { inside = omega arith; fits = omega arith; classed = omega arith });
  apart = λ j k low low_k off. subst
      (λ (p : Span). AreClear p.from (room_of p.class) (span_at (replicate n nowhere) k).from (room_of (span_at (replicate n nowhere) k).class))
      (sym (nowhere_at n j))
      (subst (λ (q : Span). AreClear 0 0 q.from (room_of q.class)) (sym (nowhere_at n k)) (inl (omega arith)));
  inside = λ c i low. absurd (omega (arith, low));
  between = λ k c i low low_i. absurd (omega (arith, low_i));
  spares = λ c i d j low low_j off. absurd (omega (arith, low));
}

pub emptied_pool : (n : ℕ) → n ≤ 2 ^ 32 → IsPool [] (replicate n nowhere) []
emptied_pool n few = record {
  blocks = nowhere_blocks n;
  few = omega arith;
  few_lists = omega (arith, length-replicate n nowhere, few);
}

-- what is read of empty lists
empty_at : {X : Type 0} (n k : ℕ) → get_or (replicate n (let none : List X = [] in none)) k [] ≡ []
empty_at zero k = refl
empty_at (suc n) zero = refl
empty_at {X} (suc n) (suc k) = empty_at {X = X} n k

numbers_empty : (heads : List ℕ) (n : ℕ) → numbers heads (replicate n []) ≡ replicate n []
numbers_empty heads zero = refl
numbers_empty heads (suc n) = ap (λ ls. [] ∷ ls) (numbers_empty heads n)

empty_watching : (n : ℕ) → IsWatching [] (replicate n [])
empty_watching n = record {
  apart = λ c low. absurd (omega (arith, low));
  fits = λ c low. absurd (omega (arith, low));
  watched = λ c l low _. absurd (omega (arith, low));
  only = λ c l there. let in_none = subst (λ ls. Contains ls c) (empty_at {X = ℕ} n (code l)) there in absurd (omega (arith, in_none.1));
  once = λ l. subst AreApart (sym (empty_at {X = ℕ} n (code l))) (λ j k d earlier low. absurd (omega (arith, low)));
}

-- nothing watches where there are no clauses
empty_watchers : (n : ℕ) → AreWatchers [] [] (replicate n [])
empty_watchers n = record {
  none = refl;
  watching = subst (IsWatching []) (sym (numbers_empty [] n)) (empty_watching n);
  blockers =
      λ k d low. subst (All (IsBlocking [] [])) (sym (get_or_default (replicate n []) k d [] low ∙ empty_at {X = Watcher} n k)) (All-nil (IsBlocking [] []));
}

module _ (a : ArenaValue) (lists : List (List Watcher)) (n : ℕ) (a_is : a ≡ record { clauses = []; heads = []; names = [] })
    (lists_is : lists ≡ replicate n []) where
  pub emptied_watchers : AreWatchers a.heads a.clauses lists
  emptied_watchers = subst (λ (v : ArenaValue). AreWatchers v.heads v.clauses lists) (sym a_is) (subst (AreWatchers [] []) (sym lists_is) (empty_watchers n))

  pub emptied_value : (m : ℕ) → n ≡ m → (let v : WatchValue = record { clauses = a.clauses; lists = numbers a.heads lists; names = a.names } in v)
      ≡ record { clauses = []; lists = replicate m []; names = [] }
  emptied_value m m_is =
      ap₂ (λ (v : ArenaValue) ls. let w : WatchValue = record { clauses = v.clauses; lists = numbers v.heads ls; names = v.names } in w) a_is lists_is
      ∙ ap (λ ls. let w : WatchValue = record { clauses = []; lists = ls; names = [] } in w) (numbers_empty [] n ∙ ap (λ k. replicate k []) m_is)
