-- A key and the entry of a number are those of one normal form only.
use Rattle.std.proofs.Common.{◌≡◌, ℕ, ◌+◌, ◌-◌, ◌<◌, inl, inr, true, false, refl, sym, ◌∙◌, ap, ap₂, arith, List, [], ◌∷◌, ◌++◌, length, get_or, Contains}
use Rattle.std.proofs.lemmas.Bool.{cases_lt}
use Rattle.ltl_syntax.specs.Formula.{Name, Fresh}
use Rattle.ltl_closure.specs.Norm.{Norm, NConst, NLetter, NNotLetter, NAnd, NOr, NNext, NWeakNext, NYesterday, NWeakYesterday, NUntil, NRelease, NSince}
use Rattle.ltl_closure.specs.Norm.{NTrigger}
use Rattle.ltl_closure.specs.Entries.{place_in, StandsAmong}
use Rattle.ltl_closure.specs.Keys.{asking, joined, entry_of, key_of, operands, requests, needs, IsKey, HasOperands, AreDistinct}
use Rattle.ltl_closure.specs.declared.entry.Entry.{Entry}
use Rattle.ltl_closure.specs.declared.entry.Entry.TheVariants as Is
use Rattle.ltl_closure.specs.declared.key.Key.{Key}
use Rattle.ltl_closure.specs.declared.key.Key.TheVariants as keys
use Rattle.ltl_closure.proofs.Lists.{Contains-here, Contains-there}
use Rattle.ltl_closure.proofs.Places.{entry_place, place_left}

abbrev pub at : List Norm → ℕ → Norm
at kept n = get_or kept (n - 1) (NConst false)

abbrev negated : Norm → Norm
negated (NLetter p) = NNotLetter p
negated e = e

-- the normal form of a key
abbrev pub decoded : List (List ℕ) → List Norm → Key → Norm
decoded names kept (keys.Const b) = NConst b
decoded names kept (keys.Letter n) = NLetter (Name (get_or names n []))
decoded names kept (keys.Fresh n) = NLetter (Fresh n)
decoded names kept (keys.NotLetter n) = negated (at kept n)
decoded names kept (keys.Asks r n) = asking r (at kept n)
decoded names kept (keys.Joins op m n) = joined op (at kept m) (at kept n)

at_place : (kept : List Norm) (e : Norm) → Contains kept e → at kept (place_in kept e) ≡ e
at_place kept e h = entry_place kept e (NConst false) h

module _ (kept : List Norm) (g : Norm) (a b : Norm) (rest : List Norm) (xs : List Norm) (has : (d : Norm) → Contains xs d → Contains kept d) where
  pub first : xs ≡ a ∷ rest → Contains kept a
  first e = has a (rw e (Contains-here a rest))

  pub second : xs ≡ a ∷ b ∷ rest → Contains kept b
  second e = has b (rw e (Contains-there a (b ∷ rest) b (Contains-here b rest)))

module _ (names : List (List ℕ)) (kept : List Norm) where
  one : (g a : Norm) → operands g ≡ a ∷ [] → HasOperands kept g → at kept (place_in kept a) ≡ a
  one g a e has = at_place kept a (first kept g a a [] (operands g) has e)

  two : (g a b : Norm) → operands g ≡ a ∷ b ∷ [] → HasOperands kept g → (at kept (place_in kept a) ≡ a) × (at kept (place_in kept b) ≡ b)
  two g a b e has = (at_place kept a (first kept g a b (b ∷ []) (operands g) has e), at_place kept b (second kept g a b [] (operands g) has e))

  -- the key tells the normal form
  pub decode : (g : Norm) (key : Key) → HasOperands kept g → IsKey names kept g key → decoded names kept key ≡ g
  decode (NConst b) key has is = ap (decoded names kept) is
  decode (NLetter (Name bytes)) key has (n, is, lt, name) = ap (decoded names kept) is ∙ ap (λ x. NLetter (Name x)) name
  decode (NLetter (Fresh n)) key has is = ap (decoded names kept) is
  decode (NNotLetter p) key has is = ap (decoded names kept) is ∙ ap negated (one (NNotLetter p) (NLetter p) refl has)
  decode (NAnd a b) key has is = let w = two (NAnd a b) a b refl has in ap (decoded names kept) is ∙ ap₂ NAnd w.0 w.1
  decode (NOr a b) key has is = let w = two (NOr a b) a b refl has in ap (decoded names kept) is ∙ ap₂ NOr w.0 w.1
  decode (NNext a) key has is = ap (decoded names kept) is ∙ ap NNext (one (NNext a) a refl has)
  decode (NWeakNext a) key has is = ap (decoded names kept) is ∙ ap NWeakNext (one (NWeakNext a) a refl has)
  decode (NYesterday a) key has is = ap (decoded names kept) is ∙ ap NYesterday (one (NYesterday a) a refl has)
  decode (NWeakYesterday a) key has is = ap (decoded names kept) is ∙ ap NWeakYesterday (one (NWeakYesterday a) a refl has)
  decode (NUntil a b) key has is = let w = two (NUntil a b) a b refl has in ap (decoded names kept) is ∙ ap₂ NUntil w.0 w.1
  decode (NRelease a b) key has is = let w = two (NRelease a b) a b refl has in ap (decoded names kept) is ∙ ap₂ NRelease w.0 w.1
  decode (NSince a b) key has is = let w = two (NSince a b) a b refl has in ap (decoded names kept) is ∙ ap₂ NSince w.0 w.1
  decode (NTrigger a b) key has is = let w = two (NTrigger a b) a b refl has in ap (decoded names kept) is ∙ ap₂ NTrigger w.0 w.1

  -- an entry that stands for it has its key
  pub stands_key : (g : Norm) (x : Entry) → StandsAmong names kept g x → IsKey names kept g (key_of x)
  stands_key (NConst true) x is = ap key_of is
  stands_key (NConst false) x is = ap key_of is
  stands_key (NLetter (Name bytes)) x (n, is, lt, name) = (n, ap key_of is, lt, name)
  stands_key (NLetter (Fresh n)) x is = ap key_of is
  stands_key (NNotLetter p) x is = ap key_of is
  stands_key (NAnd a b) x is = ap key_of is
  stands_key (NOr a b) x is = ap key_of is
  stands_key (NNext a) x is = ap key_of is
  stands_key (NWeakNext a) x is = ap key_of is
  stands_key (NYesterday a) x is = ap key_of is
  stands_key (NWeakYesterday a) x is = ap key_of is
  stands_key (NUntil a b) x is = ap key_of is
  stands_key (NRelease a b) x is = ap key_of is
  stands_key (NSince a b) x is = ap key_of is
  stands_key (NTrigger a b) x is = ap key_of is

  same_number : (m n : ℕ) → AreDistinct names → m < length names → n < length names → get_or names m [] ≡ get_or names n [] → m ≡ n
  same_number m n distinct a b e = elim (cases_lt m n) [
    | inl lt ↦ absurd (distinct m n lt b e)
    | inr le ↦ elim (cases_lt n m) [
      | inl lt ↦ absurd (distinct n m lt a (sym e))
      | inr ge ↦ omega arith
    ]
  ]

  -- it has one key
  pub one_key : (g : Norm) (k l : Key) → AreDistinct names → IsKey names kept g k → IsKey names kept g l → k ≡ l
  one_key (NConst b) k l distinct h i = h ∙ sym i
  one_key (NLetter (Name bytes)) k l distinct (m, h, lt, name) (n, i, lt', name') =
      h ∙ ap keys.Letter (same_number m n distinct lt lt' (name ∙ sym name')) ∙ sym i
  one_key (NLetter (Fresh n)) k l distinct h i = h ∙ sym i
  one_key (NNotLetter p) k l distinct h i = h ∙ sym i
  one_key (NAnd a b) k l distinct h i = h ∙ sym i
  one_key (NOr a b) k l distinct h i = h ∙ sym i
  one_key (NNext a) k l distinct h i = h ∙ sym i
  one_key (NWeakNext a) k l distinct h i = h ∙ sym i
  one_key (NYesterday a) k l distinct h i = h ∙ sym i
  one_key (NWeakYesterday a) k l distinct h i = h ∙ sym i
  one_key (NUntil a b) k l distinct h i = h ∙ sym i
  one_key (NRelease a b) k l distinct h i = h ∙ sym i
  one_key (NSince a b) k l distinct h i = h ∙ sym i
  one_key (NTrigger a b) k l distinct h i = h ∙ sym i

  -- numbers stay when members are added
  module _ (more : List Norm) where
    left : (g a b : Norm) (rest : List Norm) → ((d : Norm) → Contains (needs g) d → Contains kept d)
        → needs g ≡ a ∷ rest → place_in (kept ++ more) a ≡ place_in kept a
    left g a b rest has e = place_left kept more a (first kept g a b rest (needs g) has e)

    right : (g a b : Norm) (rest : List Norm) → ((d : Norm) → Contains (needs g) d → Contains kept d)
        → needs g ≡ a ∷ b ∷ rest → place_in (kept ++ more) b ≡ place_in kept b
    right g a b rest has e = place_left kept more b (second kept g a b rest (needs g) has e)

    last : (g a b q : Norm) → ((d : Norm) → Contains (needs g) d → Contains kept d) → needs g ≡ a ∷ b ∷ q ∷ [] → place_in (kept ++ more) q ≡ place_in kept q
    last g a b q has e = place_left kept more q (has q (rw e (Contains-there a (b ∷ q ∷ []) q (Contains-there b (q ∷ []) q (Contains-here q [])))))

    pub still_stands : (g : Norm) (x : Entry) → ((d : Norm) → Contains (needs g) d → Contains kept d) → StandsAmong names kept g x
        → StandsAmong names (kept ++ more) g x
    still_stands (NConst true) x has is = is
    still_stands (NConst false) x has is = is
    still_stands (NLetter (Name bytes)) x has is = is
    still_stands (NLetter (Fresh n)) x has is = is
    still_stands (NNotLetter p) x has is = rw (left (NNotLetter p) (NLetter p) (NLetter p) [] has refl) is
    still_stands (NAnd a b) x has is = rw (left (NAnd a b) a b (b ∷ []) has refl, right (NAnd a b) a b [] has refl) is
    still_stands (NOr a b) x has is = rw (left (NOr a b) a b (b ∷ []) has refl, right (NOr a b) a b [] has refl) is
    still_stands (NNext a) x has is = rw (left (NNext a) a a [] has refl) is
    still_stands (NWeakNext a) x has is = rw (left (NWeakNext a) a a [] has refl) is
    still_stands (NYesterday a) x has is = rw (left (NYesterday a) a a [] has refl) is
    still_stands (NWeakYesterday a) x has is = rw (left (NWeakYesterday a) a a [] has refl) is
    still_stands (NUntil a b) x has is = rw (left (NUntil a b) a b _ has refl, right (NUntil a b) a b _ has refl, last (NUntil a b) a b _ has refl) is
    still_stands (NRelease a b) x has is = rw (left (NRelease a b) a b _ has refl, right (NRelease a b) a b _ has refl, last (NRelease a b) a b _ has refl) is
    still_stands (NSince a b) x has is = rw (left (NSince a b) a b _ has refl, right (NSince a b) a b _ has refl, last (NSince a b) a b _ has refl) is
    still_stands (NTrigger a b) x has is = rw (left (NTrigger a b) a b _ has refl, right (NTrigger a b) a b _ has refl, last (NTrigger a b) a b _ has refl) is

    fst : (g a b : Norm) (rest : List Norm) → HasOperands kept g → operands g ≡ a ∷ rest → place_in (kept ++ more) a ≡ place_in kept a
    fst g a b rest has e = place_left kept more a (first kept g a b rest (operands g) has e)

    snd : (g a b : Norm) (rest : List Norm) → HasOperands kept g → operands g ≡ a ∷ b ∷ rest → place_in (kept ++ more) b ≡ place_in kept b
    snd g a b rest has e = place_left kept more b (second kept g a b rest (operands g) has e)

    -- the entry of its key and its number stands for it, where its request comes next
    pub entry_stands : (g : Norm) (key : Key) (number : ℕ) → HasOperands kept g → IsKey names kept g key
        → ((q : Norm) → Contains (requests g) q → place_in (kept ++ more) q ≡ number + 1) → StandsAmong names (kept ++ more) g (entry_of key number)
    entry_stands (NConst true) key n has is next = ap (λ k. entry_of k n) is
    entry_stands (NConst false) key n has is next = ap (λ k. entry_of k n) is
    entry_stands (NLetter (Name bytes)) key n has (m, is, lt, name) next = (m, ap (λ k. entry_of k n) is, lt, name)
    entry_stands (NLetter (Fresh m)) key n has is next = ap (λ k. entry_of k n) is
    entry_stands (NNotLetter p) key n has is next = ap (λ k. entry_of k n) is ∙ ap Is.NotLetter (sym (fst (NNotLetter p) (NLetter p) (NLetter p) [] has refl))
    entry_stands (NAnd a b) key n has is next =
        ap (λ k. entry_of k n) is ∙ ap₂ Is.And (sym (fst (NAnd a b) a b (b ∷ []) has refl)) (sym (snd (NAnd a b) a b [] has refl))
    entry_stands (NOr a b) key n has is next =
        ap (λ k. entry_of k n) is ∙ ap₂ Is.Or (sym (fst (NOr a b) a b (b ∷ []) has refl)) (sym (snd (NOr a b) a b [] has refl))
    entry_stands (NNext a) key n has is next = ap (λ k. entry_of k n) is ∙ ap (λ m. Is.Next m false) (sym (fst (NNext a) a a [] has refl))
    entry_stands (NWeakNext a) key n has is next = ap (λ k. entry_of k n) is ∙ ap (λ m. Is.Next m true) (sym (fst (NWeakNext a) a a [] has refl))
    entry_stands (NYesterday a) key n has is next = ap (λ k. entry_of k n) is ∙ ap (λ m. Is.Yesterday m false) (sym (fst (NYesterday a) a a [] has refl))
    entry_stands (NWeakYesterday a) key n has is next = ap (λ k. entry_of k n) is ∙ ap (λ m. Is.Yesterday m true) (sym (fst (NWeakYesterday a) a a [] has refl))
    entry_stands (NUntil a b) key n has is next =
        rw (next (NNext (NUntil a b)) (Contains-here _ []), fst (NUntil a b) a b (b ∷ []) has refl, snd (NUntil a b) a b [] has refl)
        (ap (λ k. entry_of k n) is)
    entry_stands (NRelease a b) key n has is next =
        rw (next (NWeakNext (NRelease a b)) (Contains-here _ []), fst (NRelease a b) a b (b ∷ []) has refl, snd (NRelease a b) a b [] has refl)
        (ap (λ k. entry_of k n) is)
    entry_stands (NSince a b) key n has is next =
        rw (next (NYesterday (NSince a b)) (Contains-here _ []), fst (NSince a b) a b (b ∷ []) has refl, snd (NSince a b) a b [] has refl)
        (ap (λ k. entry_of k n) is)
    entry_stands (NTrigger a b) key n has is next =
        rw (next (NWeakYesterday (NTrigger a b)) (Contains-here _ []), fst (NTrigger a b) a b (b ∷ []) has refl, snd (NTrigger a b) a b [] has refl)
        (ap (λ k. entry_of k n) is)
