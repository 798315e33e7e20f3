-- A walk along a list: what is next, and what it leaves where the next one stays or is taken off.
use Rattle.std.proofs.Common.{◌≡◌, ◌≢◌, ℕ, ◌<◌, ◌≤◌, ◌+◌, List, [], ◌∷◌, ◌++◌, set, Contains, length, get_or, refl, sym, ap, ◌∙◌, subst, arith, length-set}
use Rattle.std.proofs.Common.{get_or-set_same, get_or-set_other}
use Rattle.std.specs.List.{remove, swap}
use Rattle.std.proofs.lemmas.List.{get_or_default}
use Rattle.std.proofs.lemmas.List.Elements.{Contains-get_or}
use Rattle.cnf_base.specs.declared.literal.Literal.{Literal}
use Rattle.cdcl_watches.specs.declared.watcher.Watcher.{Watcher}
use Rattle.cdcl_watches.specs.Watching.{code, list_of, clause_of, blank, IsWatch, WatchValue}
use Rattle.cdcl_watches.specs.Heads.{ArenaValue, number_of}
use Rattle.cdcl_watches.specs.Watchers.{nobody, blocker_of, clause_number, numbers, IsBlocking, AreWatchers}
use Rattle.cdcl_watches.specs.Watchers.{ListWalk, row_of, next_of, closed, IsWalked, walked}
use Rattle.cdcl_watches.proofs.Moves.{code_same}
use Rattle.cdcl_watches.proofs.Gap.{gap_length, read_behind, closed_at, closed_put, closed_grown, closed_push}
use Rattle.cdcl_watches.proofs.Numbers.{length_numbers, number_at, length_at, numbers_refreshed}
use Rattle.cdcl_watches.proofs.Blockers.{blocking_list}
use Rattle.cdcl_watches.proofs.Kept.{blocking_from, refreshed_watchers}
use Rattle.cdcl_watches.proofs.Rewatched.{moved_is, moved_watchers}

-- the number of the clause of a head, and its literals
abbrev pub number_in : ListWalk → ℕ → ℕ
number_in w head = number_of w.arena.heads head

abbrev pub clause_in : ListWalk → ℕ → List Literal
clause_in w head = clause_of w.arena.clauses (number_in w head)

-- its list in which the watcher stays, and the walk behind that
abbrev pub row_with : ListWalk → Watcher → List Watcher
row_with w v = set (row_of w) w.at.kept v

abbrev pub stayed : ListWalk → Watcher → ListWalk
stayed w v = record w { lists = set w.lists (code w.literal) (row_with w v); at = record { kept = w.at.kept + 1; next = w.at.next + 1 } }

-- the walk in these lists, and behind the next watcher, which is taken off
abbrev pub among : ListWalk → List (List Watcher) → ListWalk
among w lists = record w { lists = lists }

abbrev pub left : ListWalk → List (List Watcher) → ListWalk
left w lists = record w { lists = lists; at = record { kept = w.at.kept; next = w.at.next + 1 } }

module _ {w : ListWalk} (is : IsWalked w) (there : w.at.next < length (row_of w)) where
  -- the next watcher, where the gap is closed
  pub next_low : w.at.kept < length (get_or (closed w) (code w.literal) [])
  next_low = omega (
    arith,
    ap length (closed_at w.lists (code w.literal) w.at.kept w.at.next is.known is.order is.inside),
    gap_length (row_of w) w.at.kept w.at.next is.order is.inside,
    is.order,
    there,
  )

  pub next_read : get_or (get_or (closed w) (code w.literal) []) w.at.kept nobody ≡ next_of w
  next_read = ap (λ ws. get_or ws w.at.kept nobody) (closed_at w.lists (code w.literal) w.at.kept w.at.next is.known is.order is.inside)
      ∙ read_behind (row_of w) w.at.kept w.at.next is.order is.inside nobody

  pub next_blocking : IsBlocking w.arena.heads w.arena.clauses (next_of w)
  next_blocking = subst (IsBlocking w.arena.heads w.arena.clauses) next_read
      (blocking_list w.arena.heads w.arena.clauses (closed w) (code w.literal) is.watchers.blockers w.at.kept nobody next_low)

  -- its clause
  pub next_listed : w.at.kept < length (list_of (walked w).lists w.literal)
  next_listed = omega (arith, next_low, length_at w.arena.heads is.watchers.none (closed w) (code w.literal))

  pub next_number : get_or (list_of (walked w).lists w.literal) w.at.kept 0 ≡ clause_number w.arena.heads (next_of w)
  next_number = number_at w.arena.heads is.watchers.none (closed w) (code w.literal) w.at.kept ∙ ap (clause_number w.arena.heads) next_read

  module _ {head : ℕ} (head_is : head ≡ (next_of w).head) where
    pub next_standing : Contains w.arena.heads head
    next_standing = subst (Contains w.arena.heads) (sym head_is) next_blocking.stands

    pub next_is : get_or (list_of (walked w).lists w.literal) w.at.kept 0 ≡ number_in w head
    next_is = next_number ∙ ap (number_of w.arena.heads) (sym head_is)

    pub next_watched : (number_in w head < length w.arena.clauses) × IsWatch (clause_in w head) w.literal
    next_watched =
        is.watchers.watching.only (number_in w head) w.literal (subst (Contains (list_of (walked w).lists w.literal)) next_is
        (Contains-get_or (list_of (walked w).lists w.literal) w.at.kept 0 next_listed))

    pub next_long : 2 ≤ length (clause_in w head)
    next_long = next_watched.1.1.long

    -- its first literal is a blocker, and is among the known ones
    module _ {first : Literal} (first_is : first ≡ get_or (clause_in w head) 0 first) where
      first_read : first ≡ get_or (clause_in w head) 0 blank
      first_read = first_is ∙ get_or_default (clause_in w head) 0 first blank (omega (arith, next_long))

      pub first_blocking : (v : Watcher) → v.head ≡ head → blocker_of v ≡ first → IsBlocking w.arena.heads w.arena.clauses v
      first_blocking v v_is blocker_is =
          blocking_from w.arena.heads w.arena.clauses (clause_in w head) head 0 first v v_is blocker_is first_read refl (omega (arith, next_long)) next_standing

      pub first_fits : code first < length (closed w)
      first_fits =
          omega (
            arith,
            subst (λ m. code m < length (numbers w.arena.heads (closed w))) (sym first_read)
                (is.watchers.watching.fits (number_in w head) next_watched.0 0 blank (omega (arith, next_long))),
            length_numbers w.arena.heads is.watchers.none (closed w),
          )

  -- it stays, with this blocker
  module _ (v : Watcher) (head_is : v.head ≡ (next_of w).head) (blocking : IsBlocking w.arena.heads w.arena.clauses v) where
    named : clause_number w.arena.heads v ≡ clause_number w.arena.heads (get_or (get_or (closed w) (code w.literal) []) w.at.kept nobody)
    named = ap (number_of w.arena.heads) head_is ∙ ap (clause_number w.arena.heads) (sym next_read)

    stayed_lists : closed (stayed w v) ≡ set (closed w) (code w.literal) (set (get_or (closed w) (code w.literal) []) w.at.kept v)
    stayed_lists = closed_put w.lists (code w.literal) w.at.kept w.at.next is.known is.order is.inside v there

    pub stayed_length : length (row_of (stayed w v)) ≡ length (row_of w)
    stayed_length = ap length (get_or-set_same w.lists (code w.literal) (row_with w v) [] is.known) ∙ length-set (row_of w) w.at.kept v

    pub stayed_walked : IsWalked (stayed w v)
    stayed_walked = record {
      known = omega (arith, is.known, length-set w.lists (code w.literal) (row_with w v));
      order = omega (arith, is.order);
      inside = omega (arith, there, stayed_length);
      watchers = subst (AreWatchers w.arena.heads w.arena.clauses) (sym stayed_lists)
          (refreshed_watchers w.arena.heads w.arena.clauses (closed w) (code w.literal) w.at.kept v named blocking is.watchers);
    }

    pub stayed_same : walked (stayed w v) ≡ walked w
    stayed_same =
        ap (λ ns. let u : WatchValue = record { clauses = w.arena.clauses; lists = ns; names = w.arena.names } in u)
        (ap (numbers w.arena.heads) stayed_lists ∙ numbers_refreshed w.arena.heads is.watchers.none (closed w) (code w.literal) w.at.kept v named)

  -- its clause is watched by another literal, and it is taken off
  module _ {head : ℕ} (head_is : head ≡ (next_of w).head) {other : Literal} {j : ℕ} (high : 2 ≤ j) (within : j < length (clause_in w head))
      (second_is : w.literal ≡ get_or (clause_in w head) 1 w.literal) (other_is : other ≡ get_or (clause_in w head) j other) where
    pub apart_codes : code other ≢ code w.literal
    apart_codes e =
        let other_at : other ≡ get_or (clause_in w head) j w.literal = other_is ∙ get_or_default (clause_in w head) j other w.literal within in
        is.watchers.watching.apart (number_in w head) (next_watched head_is).0 1 j w.literal (omega arith) within
        (sym second_is ∙ sym (code_same other w.literal e) ∙ other_at)

    module _ (v : Watcher) (v_is : v.head ≡ head) (mid : List (List Watcher))
        (pushed : mid ≡ set w.lists (code other) (get_or w.lists (code other) [] ++ v ∷ [])) where
      same_row : row_of (among w mid) ≡ row_of w
      same_row = ap (λ ls. get_or ls (code w.literal) []) pushed
          ∙ get_or-set_other w.lists (code other) (code w.literal) (get_or w.lists (code other) [] ++ v ∷ []) [] (λ e. apart_codes (sym e))

      pub left_length : length (row_of (left w mid)) ≡ length (row_of w)
      left_length = ap length same_row

      still_known : code w.literal < length mid
      still_known = omega (arith, is.known, ap length pushed, length-set w.lists (code other) (get_or w.lists (code other) [] ++ v ∷ []))

      before : closed (among w mid) ≡ set (closed w) (code other) (get_or (closed w) (code other) [] ++ v ∷ [])
      before = ap (λ ls. closed (among w ls)) pushed
          ∙ closed_push w.lists (code w.literal) w.at.kept w.at.next is.known is.order is.inside (code other) v apart_codes

      after : closed (left w mid) ≡ set (closed (among w mid)) (code w.literal) (remove (get_or (closed (among w mid)) (code w.literal) []) w.at.kept)
      after = closed_grown mid (code w.literal) w.at.kept w.at.next still_known is.order (omega (arith, left_length, is.inside))

      pub left_lists : (walked (left w mid)).lists ≡ set (set (walked w).lists (code other) (list_of (walked w).lists other ++ number_in w head ∷ []))
          (code w.literal) (remove (list_of (walked w).lists w.literal) w.at.kept)
      left_lists =
          moved_is w.arena.heads w.arena.clauses (closed w) (closed (among w mid)) (closed (left w mid)) (number_in w head) w.literal other w.at.kept j v
          is.watchers (next_watched head_is).0 high within second_is other_is next_listed (ap (number_of w.arena.heads) v_is) before after

      module _ (blocking : IsBlocking w.arena.heads w.arena.clauses v) (new : ArenaValue) (heads_are : new.heads ≡ w.arena.heads)
          (clauses_are : new.clauses ≡ set w.arena.clauses (number_in w head) (swap (clause_in w head) 1 j)) where
        pub left_walked : IsWalked (record (left w mid) { arena = new })
        left_walked = record {
          known = still_known;
          order = omega (arith, is.order);
          inside = omega (arith, left_length, there);
          watchers = subst (λ hs. AreWatchers hs new.clauses (closed (left w mid))) (sym heads_are)
              (subst (λ cs. AreWatchers w.arena.heads cs (closed (left w mid))) (sym clauses_are)
              (moved_watchers w.arena.heads w.arena.clauses (closed w) (closed (among w mid)) (closed (left w mid)) (number_in w head) w.literal other
              w.at.kept j v is.watchers (next_watched head_is).0 high within second_is other_is next_listed (ap (number_of w.arena.heads) v_is) before after
              (next_is head_is) blocking));
        }
