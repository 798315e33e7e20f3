-- A clause is put behind the others, and what was put behind a list is taken off.
use Rattle.std.proofs.Common.{◌≡◌, ◌≢◌, ℕ, zero, suc, ◌<◌, ◌≤◌, ◌+◌, ◌-◌, inl, inr, List, [], ◌∷◌, ◌++◌, take, set, All, Contains, length, get_or, refl, sym}
use Rattle.std.proofs.Common.{ap, ◌∙◌, subst, arith, length-set, length-append, get_or-set_same}
use Rattle.std.proofs.lemmas.Bool.{cases_lt}
use Rattle.std.proofs.lemmas.List.{take_at, length_push, set-set, set-get_or, get_or_append_left, get_or-append_right, get_or_past}
use Rattle.cnf_base.specs.declared.literal.Literal.{Literal}
use Rattle.cdcl_watches.specs.Watching.{code, list_of, AreApart, IsWatching, with_watch, blank}
use Rattle.cdcl_watches.proofs.Moves.{list_other}
use Rattle.cdcl_watches.proofs.Adds.{add_watching, grown_long}

-- a list without what was put behind it
pub take_pushed : {X : Type 0} (xs : List X) (x : X) → take (length (xs ++ x ∷ []) - 1) (xs ++ x ∷ []) ≡ xs
take_pushed xs x = take_at xs (x ∷ []) (length (xs ++ x ∷ []) - 1) (omega (arith, length_push xs x))

-- what was put behind one of the lists, taken off
pub unpushed : {X : Type 0} (lists : List (List X)) (k : ℕ) (x : X) → k < length lists
    → (let more = set lists k (get_or lists k [] ++ x ∷ []) in set more k (take (length (get_or more k []) - 1) (get_or more k []))) ≡ lists
unpushed lists k x known =
    let pushed = get_or lists k [] ++ x ∷ [] in
    let more = set lists k pushed in
    ap (λ xs. set more k (take (length xs - 1) xs)) (get_or-set_same lists k pushed [] known)
    ∙ ap (set more k) (take_pushed (get_or lists k []) x)
    ∙ set-set lists k pushed (get_or lists k [])
    ∙ set-get_or lists k []

pub unpushed_is : {X : Type 0} (lists before new : List (List X)) (k : ℕ) (x : X) → k < length lists → before ≡ set lists k (get_or lists k [] ++ x ∷ [])
    → new ≡ set before k (take (length (get_or before k []) - 1) (get_or before k [])) → new ≡ lists
unpushed_is lists before new k x known pushed is =
    is ∙ ap (λ ls. set ls k (take (length (get_or ls k []) - 1) (get_or ls k []))) pushed ∙ unpushed lists k x known

-- the rule holds with the new clause
pub added_watching : (clauses : List (List Literal)) (lists : List (List ℕ)) (r : List Literal) → IsWatching clauses lists → 2 ≤ length r → AreApart r
    → All (λ l. code l < length lists) r
    → IsWatching (clauses ++ r ∷ []) (with_watch (with_watch lists (get_or r 0 blank) (length clauses)) (get_or r 1 blank) (length clauses))
added_watching clauses lists r watching long apart fits =
    let n = length clauses in
    let a = get_or r 0 blank in
    let b = get_or r 1 blank in
    let grown = list_of lists a ++ n ∷ [] in
    let half = set lists (code a) grown in
    let differ : b ≢ a = λ e. apart 0 1 blank (omega arith) (omega arith) (sym e) in
    let other : list_of half b ≡ list_of lists b = list_other lists a b grown differ in
    let len = length-set lists (code a) grown in
    subst (IsWatching (clauses ++ r ∷ [])) (ap (λ xs. set half (code b) (xs ++ n ∷ [])) (sym other))
    (add_watching clauses lists (set half (code b) (list_of lists b ++ n ∷ [])) r watching apart fits
    (length-set half (code b) (list_of lists b ++ n ∷ []) ∙ len)
    (grown_long lists r n a b long apart refl refl fits))

-- what was pushed was popped
pub take_back_is : {X : Type 0} (xs before new : List X) (x : X) → new ≡ take (length before - 1) before → before ≡ xs ++ x ∷ [] → new ≡ xs
take_back_is xs before new x is same = is ∙ ap (λ ys. take (length ys - 1) ys) same ∙ take_pushed xs x

-- two empty lists more watch nothing
pub letter_watching : (clauses : List (List Literal)) (lists : List (List ℕ)) → IsWatching clauses lists → IsWatching clauses (lists ++ [] ∷ [] ∷ [])
letter_watching clauses lists watching =
    let more = lists ++ [] ∷ [] ∷ [] in
    let longer : length more ≡ length lists + 2 = length-append lists ([] ∷ [] ∷ []) in
    let same : (l : Literal) → list_of more l ≡ list_of lists l = λ l. elim (cases_lt (code l) (length lists)) [
      | inl low ↦ get_or_append_left lists ([] ∷ [] ∷ []) [] (code l) low
      | inr high ↦ past (code l) high
    ] in
    record {
      apart = watching.apart;
      fits = λ c low i d below. omega (arith, watching.fits c low i d below, longer);
      watched = λ c l low watch. subst (λ ls. Contains ls c) (sym (same l)) (watching.watched c l low watch);
      only = λ c l there. watching.only c l (subst (λ ls. Contains ls c) (same l) there);
      once = λ l. subst AreApart (sym (same l)) (watching.once l);
    }
  where
    two : List (List ℕ)
    two = [] ∷ [] ∷ []

    empties : (k : ℕ) → get_or two k [] ≡ []
    empties zero = refl
    empties (suc zero) = refl
    empties (suc (suc k)) = refl

    past : (k : ℕ) → length lists ≤ k → get_or (lists ++ [] ∷ [] ∷ []) k [] ≡ get_or lists k []
    past k high = get_or-append_right lists ([] ∷ [] ∷ []) (length lists) k [] refl high ∙ empties (k - length lists) ∙ sym (get_or_past lists k [] high)
