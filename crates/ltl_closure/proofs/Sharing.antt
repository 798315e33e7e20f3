-- Entering a key: what is there stays, and what is new goes last, with its request.
use Rattle.std.proofs.Common.{◌≡◌, ℕ, zero, suc, ◌+◌, ◌<◌, ◌≤◌, ◌⊎◌, inl, inr, Bool, true, false, IsTrue, refl, sym, subst, ◌∙◌, ap, ap₂, arith, List, [], ◌∷◌}
use Rattle.std.proofs.Common.{◌++◌, length, map, get_or, slice_get, Some, None, Contains, if◌then◌else◌, length-append, append_assoc}
use Rattle.std.proofs.lemmas.List.{map-append, length-map}
use Rattle.std.proofs.lemmas.List.Elements.{Contains-get_or, Contains-append_left, Contains-append_right, Contains-append_cases, Contains-push_cases}
use Rattle.std.proofs.lemmas.List.Elements.{Contains-push}
use Rattle.ltl_closure.specs.Norm.{Norm, NConst, NLetter, NNotLetter, NAnd, NOr, NNext, NWeakNext, NYesterday, NWeakYesterday, NUntil, NRelease, NSince}
use Rattle.ltl_closure.specs.Norm.{NTrigger}
use Rattle.ltl_closure.specs.Closure.{with_new, added, holds_entry}
use Rattle.ltl_closure.specs.Entries.{place_in, StandsAmong}
use Rattle.ltl_closure.specs.Keys.{asking, entry_of, asking_entry, joined_entry, key_of, request_of, operands, requests, needs, own, IsKey, AllStand}
use Rattle.ltl_closure.specs.Keys.{HasOperands, AreShared, IsEntered, AreDistinct}
use Rattle.ltl_closure.specs.declared.entry.Entry.{Entry}
use Rattle.ltl_closure.specs.declared.key.Request.{Request}
use Rattle.ltl_closure.specs.declared.key.Request.TheVariants as asks
use Rattle.ltl_closure.specs.declared.key.Connective.{Connective}
use Rattle.ltl_closure.specs.declared.key.Connective.TheVariants as joins
use Rattle.ltl_closure.specs.declared.key.Key.{Key}
use Rattle.ltl_closure.specs.declared.key.Key.TheVariants as keys
use Rattle.ltl_syntax.specs.Formula.{Name, Fresh}
use Rattle.ltl_closure.proofs.Lists.{Contains-nil, Contains-cons_cases, Contains-here, Contains-there}
use Rattle.ltl_closure.proofs.Entries.{holds_entry_is, one_of}
use Rattle.ltl_closure.proofs.Again.{holds_entry_of, with_new_known}
use Rattle.ltl_closure.proofs.Places.{place_within, place_left, place_new, placed_push}
use Rattle.ltl_closure.proofs.Keyed.{decode, stands_key, one_key, still_stands, entry_stands}

-- lists that stand for one another
module _ (names : List (List ℕ)) (kept : List Norm) where
  pub stand_length : (gs : List Norm) (xs : List Entry) → AllStand names kept gs xs → length xs ≡ length gs
  stand_length [] [] a = refl
  stand_length [] (x ∷ xs) a = absurd a
  stand_length (g ∷ gs) [] a = absurd a
  stand_length (g ∷ gs) (x ∷ xs) a = ap suc (stand_length gs xs a.1)

  stand_append : (gs : List Norm) (xs : List Entry) (hs : List Norm) (ys : List Entry) → AllStand names kept gs xs → AllStand names kept hs ys
      → AllStand names kept (gs ++ hs) (xs ++ ys)
  stand_append [] [] hs ys a b = b
  stand_append [] (x ∷ xs) hs ys a b = absurd a
  stand_append (g ∷ gs) [] hs ys a b = absurd a
  stand_append (g ∷ gs) (x ∷ xs) hs ys a b = (a.0, stand_append gs xs hs ys a.1 b)

  stand_longer : (more : List Norm) (gs : List Norm) (xs : List Entry) → ((e d : Norm) → Contains gs e → Contains (needs e) d → Contains kept d)
      → AllStand names kept gs xs → AllStand names (kept ++ more) gs xs
  stand_longer more [] [] c a = a
  stand_longer more [] (x ∷ xs) c a = a
  stand_longer more (g ∷ gs) [] c a = a
  stand_longer more (g ∷ gs) (x ∷ xs) c a =
      (still_stands names kept more g x (λ d h. c g d (Contains-here g gs) h) a.0, stand_longer more gs xs (λ e d h k. c e d (Contains-there g gs e h) k) a.1)

  -- what stands at a place
  pub stand_at : (gs : List Norm) (xs : List Entry) (i : ℕ) (d : Norm) (y : Entry) → AllStand names kept gs xs → i < length gs
      → StandsAmong names kept (get_or gs i d) (get_or xs i y)
  stand_at [] xs i d y a lt = absurd (omega arith)
  stand_at (g ∷ gs) [] i d y a lt = absurd a
  stand_at (g ∷ gs) (x ∷ xs) zero d y a lt = a.0
  stand_at (g ∷ gs) (x ∷ xs) (suc i) d y a lt = stand_at gs xs i d y a.1 (omega arith)

  key_at : (gs : List Norm) (xs : List Entry) (i : ℕ) (key : Key) (d : Norm) → AllStand names kept gs xs → slice_get (map key_of xs) i ≡ Some key
      → (i < length gs) × IsKey names kept (get_or gs i d) key
  key_at [] [] i key d a e = absurd (cc)
  key_at [] (x ∷ xs) i key d a e = absurd a
  key_at (g ∷ gs) [] i key d a e = absurd a
  key_at (g ∷ gs) (x ∷ xs) zero key d a e =
      let is : key_of x ≡ key = cc in
      (omega arith, subst (IsKey names kept g) is (stands_key names kept g x a.0))
  key_at (g ∷ gs) (x ∷ xs) (suc i) key d a e = let r = key_at gs xs i key d a.1 e in let lt = r.0 in (omega arith, r.1)

  key_there : (gs : List Norm) (xs : List Entry) (g : Norm) → AllStand names kept gs xs → Contains gs g
      → (k : Key) × IsKey names kept g k × Contains (map key_of xs) k
  key_there [] xs g a h = absurd (Contains-nil g h)
  key_there (e ∷ gs) [] g a h = absurd a
  key_there (e ∷ gs) (x ∷ xs) g a h = elim (Contains-cons_cases e gs g h) [
    | inl i ↦ (key_of x, subst (λ z. IsKey names kept z (key_of x)) i (stands_key names kept e x a.0), Contains-here (key_of x) (map key_of xs))
    | inr c ↦ let r = key_there gs xs g a.1 c in (r.0, r.1, Contains-there (key_of x) (map key_of xs) r.0 r.2)
  ]

  key_from : (gs : List Norm) (xs : List Entry) (k : Key) → AllStand names kept gs xs → Contains (map key_of xs) k
      → (g : Norm) × Contains gs g × IsKey names kept g k
  key_from [] [] k a h = absurd (Contains-nil k h)
  key_from [] (x ∷ xs) k a h = absurd a
  key_from (g ∷ gs) [] k a h = absurd a
  key_from (g ∷ gs) (x ∷ xs) k a h = elim (Contains-cons_cases (key_of x) (map key_of xs) k h) [
    | inl i ↦ (g, Contains-here g gs, subst (IsKey names kept g) i (stands_key names kept g x a.0))
    | inr c ↦ let r = key_from gs xs k a.1 c in (r.0, Contains-there g gs r.0 r.1, r.2)
  ]

  -- a request's argument is there before it
  asks_operand : (g : Norm) (r : Request) (n : ℕ) → HasOperands kept g → IsKey names kept g (keys.Asks r n) → n ≤ length kept
  asks_operand (NNext a) r n has is = let e : n ≡ place_in kept a = cc in let le = place_within kept a (has a (Contains-here a [])) in omega arith
  asks_operand (NWeakNext a) r n has is = let e : n ≡ place_in kept a = cc in let le = place_within kept a (has a (Contains-here a [])) in omega arith
  asks_operand (NYesterday a) r n has is = let e : n ≡ place_in kept a = cc in let le = place_within kept a (has a (Contains-here a [])) in omega arith
  asks_operand (NWeakYesterday a) r n has is = let e : n ≡ place_in kept a = cc in let le = place_within kept a (has a (Contains-here a [])) in omega arith
  asks_operand (NLetter (Name bytes)) r n has (m, is, lt, name) = absurd (cc)
  asks_operand (NLetter (Fresh m)) r n has is = absurd (cc)
  asks_operand g r n has is = absurd (cc)

  -- the request that the key tells of
  key_requests : (g : Norm) (key : Key) → IsKey names kept g key
      → ((request_of key ≡ None) × (requests g ≡ [])) ⊎ ((r : Request) × (request_of key ≡ Some r) × (requests g ≡ asking r g ∷ []))
  key_requests (NConst b) key is = inl (ap request_of is, refl)
  key_requests (NLetter (Name bytes)) key (n, is, lt, name) = inl (ap request_of is, refl)
  key_requests (NLetter (Fresh n)) key is = inl (ap request_of is, refl)
  key_requests (NNotLetter p) key is = inl (ap request_of is, refl)
  key_requests (NAnd a b) key is = inl (ap request_of is, refl)
  key_requests (NOr a b) key is = inl (ap request_of is, refl)
  key_requests (NNext a) key is = inl (ap request_of is, refl)
  key_requests (NWeakNext a) key is = inl (ap request_of is, refl)
  key_requests (NYesterday a) key is = inl (ap request_of is, refl)
  key_requests (NWeakYesterday a) key is = inl (ap request_of is, refl)
  key_requests (NUntil a b) key is = inr (asks.Next, ap request_of is, refl)
  key_requests (NRelease a b) key is = inr (asks.WeakNext, ap request_of is, refl)
  key_requests (NSince a b) key is = inr (asks.Yesterday, ap request_of is, refl)
  key_requests (NTrigger a b) key is = inr (asks.WeakYesterday, ap request_of is, refl)

pub key_request : (names : List (List ℕ)) (kept : List Norm) (g : Norm) (key : Key) (r : Request) → IsKey names kept g key → request_of key ≡ Some r
    → requests g ≡ asking r g ∷ []
key_request names kept g key r is e = elim (key_requests names kept g key is) [
  | inl w ↦ absurd (let n = w.0 in cc)
  | inr w ↦ let n = w.1 in let same : w.0 ≡ r = cc in subst (λ q. requests g ≡ asking q g ∷ []) same w.2
]

false_of : (b : Bool) → (IsTrue b → ⊥) → b ≡ false
false_of true h = absurd (h refl)
false_of false h = refl

added_new : (kept : List Norm) (g : Norm) → holds_entry kept g ≡ false → added kept g ≡ kept ++ g ∷ []
added_new kept g e = ap (λ b. if b then kept else kept ++ g ∷ []) e

-- no request is what it asks for
asking_other : (r : Request) (g : Norm) → requests g ≡ asking r g ∷ [] → g ≡ asking r g → ⊥
asking_other asks.Next (NUntil a b) e i = cc
asking_other asks.WeakNext (NRelease a b) e i = cc
asking_other asks.Yesterday (NSince a b) e i = cc
asking_other asks.WeakYesterday (NTrigger a b) e i = cc
asking_other r g e i = cc

asking_needs : (r : Request) (g : Norm) → needs (asking r g) ≡ g ∷ []
asking_needs asks.Next g = refl
asking_needs other g = refl

asking_stands : (names : List (List ℕ)) (kept : List Norm) (r : Request) (g : Norm) (n : ℕ)
    → place_in kept g ≡ n → StandsAmong names kept (asking r g) (asking_entry r n)
asking_stands names kept asks.Next g n e = rw e refl
asking_stands names kept other g n e = rw e refl

asking_key : (r : Request) (n : ℕ) → key_of (asking_entry r n) ≡ keys.Asks r n
asking_key asks.Next n = refl
asking_key other n = refl

joined_key : (op : Connective) (a b r : ℕ) → key_of (joined_entry op a b r) ≡ keys.Joins op a b
joined_key joins.And a b r = refl
joined_key other a b r = refl

key_entry : (k : Key) (n : ℕ) → key_of (entry_of k n) ≡ k
key_entry (keys.Const true) n = refl
key_entry (keys.Asks r m) n = asking_key r m
key_entry (keys.Joins op a b) n = joined_key op a b (n + 1)
key_entry other n = refl

module _ (names : List (List ℕ)) (kept : List Norm) (ks : List Key) (xs : List Entry) (g : Norm) (key : Key)
    (distinct : AreDistinct names) (shared : AreShared names kept ks xs) (has : HasOperands kept g) (is : IsKey names kept g key) where
  operands_there : (e : Norm) → Contains kept e → HasOperands kept e
  operands_there e h d c = shared.closed e d h (Contains-append_left (operands e) (requests e) d c)

  -- the member at the place where the key is
  found_at : (i : ℕ) → slice_get ks i ≡ Some key → (i < length kept) × (get_or kept i (NConst false) ≡ g)
  found_at i e =
      let w = key_at names kept kept xs i key (NConst false) shared.each (subst (λ l. slice_get l i ≡ Some key) shared.keys e) in
      let there : Contains kept (get_or kept i (NConst false)) = Contains-get_or kept i (NConst false) w.0 in
      (w.0, sym (decode names kept _ key (operands_there _ there) w.1) ∙ decode names kept g key has is)

  pub known : (i : ℕ) → slice_get ks i ≡ Some key → IsEntered names kept g ks xs (suc i)
  known i e =
      let w = found_at i e in
      let there : Contains kept g = subst (Contains kept) w.1 (Contains-get_or kept i (NConst false) w.0) in
      let same : with_new kept (own g) ≡ kept = with_new_known kept (own g) (λ d c. elim (Contains-cons_cases g (requests g) d c) [
        | inl here ↦ subst (Contains kept) here there
        | inr r ↦ shared.closed g d there (right_of d r)
      ]) in record {
        shared = rw same shared;
        there = rw same there;
        place = rw (same, ← w.1) (sym (shared.placed i (NConst false) w.0));
      }
    where
      right_of : (d : Norm) → Contains (requests g) d → Contains (needs g) d
      right_of d r = Contains-append_right (operands g) (requests g) d r

  same_length : length ks ≡ length kept
  same_length = ap length shared.keys ∙ length-map xs key_of ∙ stand_length names kept kept xs shared.each

  extend : (more : List Norm) (ys : List Entry) → AllStand names (kept ++ more) more ys
      → ((e d : Norm) → Contains (kept ++ more) e → Contains (needs e) d → Contains (kept ++ more) d)
      → ((k : ℕ) (d : Norm) → k < length (kept ++ more) → place_in (kept ++ more) (get_or (kept ++ more) k d) ≡ suc k)
      → AreShared names (kept ++ more) (ks ++ map key_of ys) (xs ++ ys)
  extend more ys stand closed placed = record {
    keys = ap (λ l. l ++ map key_of ys) shared.keys ∙ sym (map-append key_of xs ys);
    each = stand_append names (kept ++ more) kept xs more ys (stand_longer names kept more kept xs shared.closed shared.each) stand;
    closed = closed;
    placed = placed;
  }

  module _ (fresh : Contains ks key → ⊥) where
    absent : holds_entry kept g ≡ false
    absent = false_of (holds_entry kept g) (λ t.
        let w = key_there names kept kept xs g shared.each (holds_entry_is kept g t) in
        fresh (rw shared.keys (subst (Contains (map key_of xs)) (one_key names kept g w.0 key distinct w.1 is) w.2)))

    place_here : (more : List Norm) → place_in (kept ++ g ∷ more) g ≡ suc (length ks)
    place_here more =
        let e : kept ++ g ∷ more ≡ (kept ++ g ∷ []) ++ more = sym (append_assoc kept (g ∷ []) more) in
        rw e (place_left (kept ++ g ∷ []) more g (Contains-push kept g) ∙ place_new kept g absent ∙ ap suc (sym same_length))

    pub fresh_one : request_of key ≡ None → IsEntered names kept g (ks ++ key ∷ []) (xs ++ entry_of key (suc (length ks)) ∷ []) (suc (length ks))
    fresh_one none = elim (key_requests names kept g key is) [
      | inr w ↦ absurd (let e = w.1 in cc)
      | inl w ↦
          let grown : with_new kept (own g) ≡ kept ++ g ∷ [] = ap (λ l. with_new (added kept g) l) w.1 ∙ added_new kept g absent in
          let stands = entry_stands names kept (g ∷ []) g key (suc (length ks)) has is (λ q c. absurd (Contains-nil q (subst (λ l. Contains l q) w.1 c))) in
          let made = extend (g ∷ []) (entry_of key (suc (length ks)) ∷ []) (stands, tt) (closed_one w.1) (placed_push kept g absent shared.placed) in
          record {
            shared = rw grown
                (subst (λ k. AreShared names (kept ++ g ∷ []) (ks ++ k ∷ []) (xs ++ entry_of key (suc (length ks)) ∷ []))
                (key_entry key (suc (length ks))) made);
            there = rw grown (Contains-push kept g);
            place = rw grown (sym (place_here []));
          }
    ]
      where
        closed_one : requests g ≡ [] → (e d : Norm) → Contains (kept ++ g ∷ []) e → Contains (needs e) d → Contains (kept ++ g ∷ []) d
        closed_one none e d h k = elim (Contains-push_cases kept g e h) [
          | inl old ↦ Contains-append_left kept (g ∷ []) d (shared.closed e d old k)
          | inr here ↦ elim (Contains-append_cases (operands g) (requests g) d (subst (λ z. Contains (needs z) d) (sym here) k)) [
            | inl o ↦ Contains-append_left kept (g ∷ []) d (has d o)
            | inr r ↦ absurd (Contains-nil d (subst (λ l. Contains l d) none r))
          ]
        ]

    module _ (r : Request) (asked : requests g ≡ asking r g ∷ []) where
      unasked : holds_entry (kept ++ g ∷ []) (asking r g) ≡ false
      unasked = false_of _ (λ t. elim (Contains-push_cases kept g (asking r g) (holds_entry_is (kept ++ g ∷ []) (asking r g) t)) [
        | inl old ↦ clash (holds_entry_of kept g (shared.closed (asking r g) g old (rw (asking_needs r g) (Contains-here g [])))) absent
        | inr same ↦ asking_other r g asked same
      ])
        where
          clash : {b : Bool} → IsTrue b → b ≡ false → ⊥
          clash t f = cc

      place_next : place_in (kept ++ g ∷ asking r g ∷ []) (asking r g) ≡ suc (length ks) + 1
      place_next =
          let e : kept ++ g ∷ asking r g ∷ [] ≡ (kept ++ g ∷ []) ++ asking r g ∷ [] = sym (append_assoc kept (g ∷ []) (asking r g ∷ [])) in
          rw e (place_new (kept ++ g ∷ []) (asking r g) unasked ∙ omega (arith, length-append kept (g ∷ []), same_length))

      closed_two : (e d : Norm) → Contains (kept ++ g ∷ asking r g ∷ []) e → Contains (needs e) d → Contains (kept ++ g ∷ asking r g ∷ []) d
      closed_two e d h k = elim (Contains-append_cases kept (g ∷ asking r g ∷ []) e h) [
        | inl old ↦ Contains-append_left kept (g ∷ asking r g ∷ []) d (shared.closed e d old k)
        | inr new ↦ elim (Contains-cons_cases g (asking r g ∷ []) e new) [
          | inl here ↦ elim (Contains-append_cases (operands g) (requests g) d (subst (λ z. Contains (needs z) d) (sym here) k)) [
            | inl o ↦ Contains-append_left kept (g ∷ asking r g ∷ []) d (has d o)
            | inr q ↦ Contains-append_right kept (g ∷ asking r g ∷ []) d (Contains-there g (asking r g ∷ []) d (subst (λ l. Contains l d) asked q))
          ]
          | inr q ↦
              let e : asking r g ≡ e = one_of (asking r g) e q in
              let n : Contains (g ∷ []) d = subst (λ l. Contains l d) (asking_needs r g) (subst (λ z. Contains (needs z) d) (sym e) k) in
              Contains-append_right kept (g ∷ asking r g ∷ []) d (subst (Contains (g ∷ asking r g ∷ [])) (one_of g d n) (Contains-here g (asking r g ∷ [])))
        ]
      ]

      placed_two : (k : ℕ) (d : Norm) → k < length (kept ++ g ∷ asking r g ∷ [])
          → place_in (kept ++ g ∷ asking r g ∷ []) (get_or (kept ++ g ∷ asking r g ∷ []) k d) ≡ suc k
      placed_two =
          let e : kept ++ g ∷ asking r g ∷ [] ≡ (kept ++ g ∷ []) ++ asking r g ∷ [] = sym (append_assoc kept (g ∷ []) (asking r g ∷ [])) in
          rw e (placed_push (kept ++ g ∷ []) (asking r g) unasked (placed_push kept g absent shared.placed))

      two_shared : IsEntered names kept g (ks ++ key_of (entry_of key (suc (length ks))) ∷ key_of (asking_entry r (suc (length ks))) ∷ [])
          (xs ++ entry_of key (suc (length ks)) ∷ asking_entry r (suc (length ks)) ∷ []) (suc (length ks))
      two_shared =
          let grown : with_new kept (own g) ≡ kept ++ g ∷ asking r g ∷ [] =
          ap (λ l. with_new (added kept g) l) asked ∙ ap (λ l. added l (asking r g)) (added_new kept g absent) ∙ added_new (kept ++ g ∷ []) (asking r g) unasked
          ∙ append_assoc kept (g ∷ []) (asking r g ∷ []) in
          let first = entry_stands names kept (g ∷ asking r g ∷ []) g key (suc (length ks)) has is
          (λ q c. ap (place_in (kept ++ g ∷ asking r g ∷ [])) (sym (one_of (asking r g) q (subst (λ l. Contains l q) asked c))) ∙ place_next) in
          let second = asking_stands names (kept ++ g ∷ asking r g ∷ []) r g (suc (length ks)) (place_here (asking r g ∷ [])) in
          let made = extend (g ∷ asking r g ∷ []) (entry_of key (suc (length ks)) ∷ asking_entry r (suc (length ks)) ∷ []) (first, (second, tt))
          closed_two placed_two in
          record {
            shared = rw grown made;
            there = rw grown (Contains-append_right kept (g ∷ asking r g ∷ []) g (Contains-here g (asking r g ∷ [])));
            place = rw grown (sym (place_here (asking r g ∷ [])));
          }

      pub fresh_two : IsEntered names kept g ((ks ++ key ∷ []) ++ keys.Asks r (suc (length ks)) ∷ [])
          ((xs ++ entry_of key (suc (length ks)) ∷ []) ++ asking_entry r (suc (length ks)) ∷ []) (suc (length ks))
      fresh_two =
          rw (
            append_assoc ks (key ∷ []) (keys.Asks r (suc (length ks)) ∷ []),
            append_assoc xs (entry_of key (suc (length ks)) ∷ []) (asking_entry r (suc (length ks)) ∷ []),
          )
          (subst (λ l. IsEntered names kept g (ks ++ l) (xs ++ entry_of key (suc (length ks)) ∷ asking_entry r (suc (length ks)) ∷ []) (suc (length ks)))
          (ap₂ (λ k l. k ∷ l ∷ []) (key_entry key (suc (length ks))) (asking_key r (suc (length ks)))) two_shared)

    -- the key of the request is not there
    pub request_fresh : (r : Request) → request_of key ≡ Some r → Contains (ks ++ key ∷ []) (keys.Asks r (suc (length ks))) → ⊥
    request_fresh r asked h = elim (Contains-push_cases ks key (keys.Asks r (suc (length ks))) h) [
      | inr here ↦ absurd (let e : request_of (keys.Asks r (suc (length ks))) ≡ Some r = ap request_of (sym here) ∙ asked in cc)
      | inl old ↦
          let w = key_from names kept kept xs (keys.Asks r (suc (length ks))) shared.each
          (subst (λ l. Contains l (keys.Asks r (suc (length ks)))) shared.keys old) in
          let le = asks_operand names kept w.0 r (suc (length ks)) (operands_there w.0 w.1) w.2 in
          let e = same_length in
          absurd (omega arith)
    ]
