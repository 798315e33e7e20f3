-- What a shared table needs of the walk: a part that is there adds nothing, and parts are walked one after the other.
use Rattle.std.proofs.Common.{◌≡◌, inl, inr, subst, ap, sym, refl, ◌∙◌, List, [], ◌∷◌, ◌++◌, Contains, IsTrue}
use Rattle.std.proofs.lemmas.Bool.{or_left, or_right, cond-true}
use Rattle.std.proofs.lemmas.List.Elements.{Contains-append_cases}
use mathlib.Core.Bool.{Bool-discrete}
use Rattle.ltl_closure.specs.Decide.{number_decided, name_decided, is_yes}
use Rattle.ltl_syntax.specs.Formula.{Atom-discrete}
use Rattle.ltl_closure.specs.Norm.{Norm, NConst, NLetter, NNotLetter, NAnd, NOr, NNext, NWeakNext, NYesterday, NWeakYesterday, NUntil, NRelease, NSince}
use Rattle.ltl_closure.specs.Norm.{NTrigger, Norm-discrete}
use Rattle.ltl_closure.specs.Closure.{walk, with_new, added, holds_entry, same}
use Rattle.ltl_closure.proofs.Lists.{Contains-nil, Contains-cons_cases, Contains-here, Contains-there}
use Rattle.ltl_closure.specs.Keys.{needs}

pub with_new-append : (kept xs ys : List Norm) → with_new kept (xs ++ ys) ≡ with_new (with_new kept xs) ys
with_new-append kept [] ys = refl
with_new-append kept (x ∷ xs) ys = with_new-append (added kept x) xs ys

is_yes_of : {P : Type 0} (d : Dec P) → P → IsTrue (is_yes d)
is_yes_of (yes p) q = refl
is_yes_of (no h) q = absurd (h q)

pub same_self : (a b : Norm) → a ≡ b → IsTrue (same a b)
same_self a b e = is_yes_of (Norm-discrete Bool-discrete (Atom-discrete name_decided number_decided) a b) e

pub holds_entry_of : (xs : List Norm) (e : Norm) → Contains xs e → IsTrue (holds_entry xs e)
holds_entry_of [] e c = absurd (Contains-nil e c)
holds_entry_of (x ∷ xs) e c = elim (Contains-cons_cases x xs e c) [
  | inl i ↦ or_left (same x e) (holds_entry xs e) (same_self x e i)
  | inr d ↦ or_right (same x e) (holds_entry xs e) (holds_entry_of xs e d)
]

-- what is there adds nothing
pub with_new_known : (kept xs : List Norm) → ((e : Norm) → Contains xs e → Contains kept e) → with_new kept xs ≡ kept
with_new_known kept [] h = refl
with_new_known kept (x ∷ xs) h =
    let e : added kept x ≡ kept = cond-true _ _ _ (holds_entry_of kept x (h x (Contains-here x xs))) in
    ap (λ k. with_new k xs) e ∙ with_new_known kept xs (λ d c. h d (Contains-there x xs d c))

-- where the list has with each entry what it needs, it has the walk of each of its entries
module _ (kept : List Norm) (closed : (e d : Norm) → Contains kept e → Contains (needs e) d → Contains kept d) where
  one : (a g : Norm) (rest : List Norm) → needs g ≡ a ∷ rest → Contains kept g → Contains kept a
  one a g rest n c = closed g a c (subst (λ z. Contains z a) (sym n) (Contains-here a rest))

  two : (a b g : Norm) (rest : List Norm) → needs g ≡ a ∷ b ∷ rest → Contains kept g → Contains kept b
  two a b g rest n c = closed g b c (subst (λ z. Contains z b) (sym n) (Contains-there a (b ∷ rest) b (Contains-here b rest)))

  three : (a b q g : Norm) → needs g ≡ a ∷ b ∷ q ∷ [] → Contains kept g → Contains kept q
  three a b q g n c = closed g q c (subst (λ z. Contains z q) (sym n) (Contains-there a (b ∷ q ∷ []) q (Contains-there b (q ∷ []) q (Contains-here q []))))

  Has : List Norm → Type 0
  Has xs = (e : Norm) → Contains xs e → Contains kept e

  has_nil : Has []
  unfolding Has
  has_nil e c = absurd (Contains-nil e c)

  has_cons : (x : Norm) (xs : List Norm) → Contains kept x → Has xs → Has (x ∷ xs)
  unfolding Has
  has_cons x xs h t e c = elim (Contains-cons_cases x xs e c) [ inl i ↦ subst (Contains kept) i h | inr d ↦ t e d ]

  has_append : (xs ys : List Norm) → Has xs → Has ys → Has (xs ++ ys)
  unfolding Has
  has_append xs ys a b e c = elim (Contains-append_cases xs ys e c) [ inl l ↦ a e l | inr r ↦ b e r ]

  walk_has : (g : Norm) → Contains kept g → Has (walk g)
  walk_has (NConst b) c = has_cons _ [] c has_nil
  walk_has (NLetter p) c = has_cons _ [] c has_nil
  walk_has (NNotLetter p) c = has_cons _ (NNotLetter p ∷ []) (one (NLetter p) (NNotLetter p) [] refl c) (has_cons _ [] c has_nil)
  walk_has (NAnd a b) c = has_append (walk a) _ (walk_has a (one a (NAnd a b) _ refl c))
      (has_append (walk b) (NAnd a b ∷ []) (walk_has b (two a b (NAnd a b) _ refl c)) (has_cons _ [] c has_nil))
  walk_has (NOr a b) c = has_append (walk a) _ (walk_has a (one a (NOr a b) _ refl c))
      (has_append (walk b) (NOr a b ∷ []) (walk_has b (two a b (NOr a b) _ refl c)) (has_cons _ [] c has_nil))
  walk_has (NNext a) c = has_append (walk a) (NNext a ∷ []) (walk_has a (one a (NNext a) _ refl c)) (has_cons _ [] c has_nil)
  walk_has (NWeakNext a) c = has_append (walk a) (NWeakNext a ∷ []) (walk_has a (one a (NWeakNext a) _ refl c)) (has_cons _ [] c has_nil)
  walk_has (NYesterday a) c = has_append (walk a) (NYesterday a ∷ []) (walk_has a (one a (NYesterday a) _ refl c)) (has_cons _ [] c has_nil)
  walk_has (NWeakYesterday a) c = has_append (walk a) (NWeakYesterday a ∷ []) (walk_has a (one a (NWeakYesterday a) _ refl c)) (has_cons _ [] c has_nil)
  walk_has (NUntil a b) c = has_append (walk a)
      _ (walk_has a (one a (NUntil a b) _ refl c)) (has_append (walk b) (NUntil a b ∷ NNext (NUntil a b) ∷ []) (walk_has b (two a b (NUntil a b) _ refl c))
      (has_cons _ (NNext (NUntil a b) ∷ []) c (has_cons _ [] (three a b (NNext (NUntil a b)) (NUntil a b) refl c) has_nil)))
  walk_has (NRelease a b) c = has_append (walk a) _ (walk_has a (one a (NRelease a b) _ refl c))
      (has_append (walk b) (NRelease a b ∷ NWeakNext (NRelease a b) ∷ []) (walk_has b (two a b (NRelease a b) _ refl c))
      (has_cons _ (NWeakNext (NRelease a b) ∷ []) c (has_cons _ [] (three a b (NWeakNext (NRelease a b)) (NRelease a b) refl c) has_nil)))
  walk_has (NSince a b) c = has_append (walk a)
      _ (walk_has a (one a (NSince a b) _ refl c)) (has_append (walk b) (NSince a b ∷ NYesterday (NSince a b) ∷ []) (walk_has b (two a b (NSince a b) _ refl c))
      (has_cons _ (NYesterday (NSince a b) ∷ []) c (has_cons _ [] (three a b (NYesterday (NSince a b)) (NSince a b) refl c) has_nil)))
  walk_has (NTrigger a b) c = has_append (walk a) _ (walk_has a (one a (NTrigger a b) _ refl c))
      (has_append (walk b) (NTrigger a b ∷ NWeakYesterday (NTrigger a b) ∷ []) (walk_has b (two a b (NTrigger a b) _ refl c))
      (has_cons _ (NWeakYesterday (NTrigger a b) ∷ []) c (has_cons _ [] (three a b (NWeakYesterday (NTrigger a b)) (NTrigger a b) refl c) has_nil)))

  -- an entry that is there is not walked again
  pub walk_again : (g : Norm) → Contains kept g → with_new kept (walk g) ≡ kept
  unfolding Has
  walk_again g c = with_new_known kept (walk g) (walk_has g c)
