-- The entries of a closure: with an entry its children and its request are there.
use Rattle.std.proofs.Common.{◌≡◌, ◌⊎◌, inl, inr, subst, sym, refl, List, [], ◌∷◌, ◌++◌, Contains, Bool, true, false, IsTrue, if◌then◌else◌}
use Rattle.std.proofs.lemmas.List.Elements.{Contains-append_left, Contains-append_right, Contains-append_cases, Contains-push_cases, Contains-push}
use Rattle.std.proofs.lemmas.Bool.{or_cases}
use mathlib.Core.Bool.{Bool-discrete}
use Rattle.ltl_closure.specs.Decide.{number_decided, name_decided, is_yes}
use Rattle.ltl_syntax.specs.Formula.{Formula, Atom-discrete}
use Rattle.ltl_closure.specs.Norm.{Norm, NConst, NLetter, NNotLetter, NAnd, NOr, NNext, NWeakNext, NYesterday, NWeakYesterday, NUntil, NRelease, NSince}
use Rattle.ltl_closure.specs.Norm.{NTrigger, Norm-discrete, pos_of}
use Rattle.ltl_closure.specs.Closure.{closure, walk, with_new, holds_entry, same, added}
use Rattle.ltl_closure.specs.Keys.{needs}
use Rattle.ltl_closure.proofs.Lists.{Contains-nil, Contains-cons_cases, Contains-here, Contains-there}

yes_holds : {P : Type 0} (d : Dec P) → IsTrue (is_yes d) → P
yes_holds (yes p) e = p
yes_holds (no h) e = cc

pub same_is : (a b : Norm) → IsTrue (same a b) → a ≡ b
same_is a b e = yes_holds (Norm-discrete Bool-discrete (Atom-discrete name_decided number_decided) a b) e

pub holds_entry_is : (xs : List Norm) (e : Norm) → IsTrue (holds_entry xs e) → Contains xs e
holds_entry_is [] e h = cc
holds_entry_is (x ∷ xs) e h = elim (or_cases (same x e) (holds_entry xs e) h) [
  | inl s ↦ let i : x ≡ e = same_is x e s in subst (λ z. Contains (z ∷ xs) e) (sym i) (Contains-here e xs)
  | inr r ↦ Contains-there x xs e (holds_entry_is xs e r)
]

-- one step keeps what is there, and has the new entry
step_keeps : (b : Bool) (kept : List Norm) (x e : Norm) → Contains kept e → Contains (if b then kept else kept ++ x ∷ []) e
step_keeps true kept x e h = h
step_keeps false kept x e h = Contains-append_left kept (x ∷ []) e h

step_has : (b : Bool) (kept : List Norm) (x : Norm) → (IsTrue b → Contains kept x) → Contains (if b then kept else kept ++ x ∷ []) x
step_has true kept x h = h refl
step_has false kept x h = Contains-push kept x

step_from : (b : Bool) (kept : List Norm) (x e : Norm) → Contains (if b then kept else kept ++ x ∷ []) e → Contains kept e ⊎ (x ≡ e)
step_from true kept x e h = inl h
step_from false kept x e h = Contains-push_cases kept x e h

pub with_new_keeps : (kept xs : List Norm) (e : Norm) → Contains kept e → Contains (with_new kept xs) e
with_new_keeps kept [] e h = h
with_new_keeps kept (x ∷ xs) e h = with_new_keeps (added kept x) xs e (step_keeps (holds_entry kept x) kept x e h)

with_new_has : (kept xs : List Norm) (e : Norm) → Contains xs e → Contains (with_new kept xs) e
with_new_has kept [] e h = absurd (Contains-nil e h)
with_new_has kept (x ∷ xs) e h = elim (Contains-cons_cases x xs e h) [
  | inl i ↦ with_new_keeps (added kept x) xs e (subst (Contains (added kept x)) i (step_has (holds_entry kept x) kept x (holds_entry_is kept x)))
  | inr r ↦ with_new_has (added kept x) xs e r
]

with_new_from : (kept xs : List Norm) (e : Norm) → Contains (with_new kept xs) e → Contains kept e ⊎ Contains xs e
with_new_from kept [] e h = inl h
with_new_from kept (x ∷ xs) e h = elim (with_new_from (added kept x) xs e h) [
  | inl k ↦ elim (step_from (holds_entry kept x) kept x e k) [
    | inl w ↦ inl w
    | inr i ↦ inr (subst (Contains (x ∷ xs)) i (Contains-here x xs))
  ]
  | inr r ↦ inr (Contains-there x xs e r)
]

pub Contains-closure : (f : Formula) (e : Norm) → Contains (walk (pos_of f)) e → Contains (closure f) e
Contains-closure f e h = with_new_has [] (walk (pos_of f)) e h

pub Contains-walk : (f : Formula) (e : Norm) → Contains (closure f) e → Contains (walk (pos_of f)) e
Contains-walk f e h = elim (with_new_from [] (walk (pos_of f)) e h) [ inl n ↦ absurd (Contains-nil e n) | inr w ↦ w ]

pub one_of : {X : Type 0} (y x : X) → Contains (y ∷ []) x → y ≡ x
one_of y x h = elim (Contains-cons_cases y [] x h) [ inl i ↦ i | inr n ↦ absurd (Contains-nil x n) ]

front : (xs ys zs : List Norm) (e : Norm) → Contains xs e → Contains (xs ++ (ys ++ zs)) e
front xs ys zs e h = Contains-append_left xs (ys ++ zs) e h

middle : (xs ys zs : List Norm) (e : Norm) → Contains ys e → Contains (xs ++ (ys ++ zs)) e
middle xs ys zs e h = Contains-append_right xs (ys ++ zs) e (Contains-append_left ys zs e h)

back : (xs ys zs : List Norm) (e : Norm) → Contains zs e → Contains (xs ++ (ys ++ zs)) e
back xs ys zs e h = Contains-append_right xs (ys ++ zs) e (Contains-append_right ys zs e h)

three : (xs ys zs : List Norm) (e : Norm) → Contains (xs ++ (ys ++ zs)) e → Contains xs e ⊎ (Contains ys e ⊎ Contains zs e)
three xs ys zs e h = elim (Contains-append_cases xs (ys ++ zs) e h) [ inl a ↦ inl a | inr r ↦ inr (Contains-append_cases ys zs e r) ]

pub walk_self : (g : Norm) → Contains (walk g) g
walk_self (NConst b) = Contains-here (NConst b) []
walk_self (NLetter p) = Contains-here (NLetter p) []
walk_self (NNotLetter p) = Contains-there (NLetter p) (NNotLetter p ∷ []) _ (Contains-here (NNotLetter p) [])
walk_self (NAnd a b) = back (walk a) (walk b) (NAnd a b ∷ []) _ (Contains-here (NAnd a b) [])
walk_self (NOr a b) = back (walk a) (walk b) (NOr a b ∷ []) _ (Contains-here (NOr a b) [])
walk_self (NNext a) = Contains-push (walk a) (NNext a)
walk_self (NWeakNext a) = Contains-push (walk a) (NWeakNext a)
walk_self (NYesterday a) = Contains-push (walk a) (NYesterday a)
walk_self (NWeakYesterday a) = Contains-push (walk a) (NWeakYesterday a)
walk_self (NUntil a b) = back (walk a) (walk b) (NUntil a b ∷ NNext (NUntil a b) ∷ []) _ (Contains-here (NUntil a b) (NNext (NUntil a b) ∷ []))
walk_self (NRelease a b) =
    back (walk a) (walk b) (NRelease a b ∷ NWeakNext (NRelease a b) ∷ []) _ (Contains-here (NRelease a b) (NWeakNext (NRelease a b) ∷ []))
walk_self (NSince a b) = back (walk a) (walk b) (NSince a b ∷ NYesterday (NSince a b) ∷ []) _ (Contains-here (NSince a b) (NYesterday (NSince a b) ∷ []))
walk_self (NTrigger a b) =
    back (walk a) (walk b) (NTrigger a b ∷ NWeakYesterday (NTrigger a b) ∷ []) _ (Contains-here (NTrigger a b) (NWeakYesterday (NTrigger a b) ∷ []))

-- with each member what it needs
abbrev IsClosed : List Norm → Type 0
IsClosed xs = (e d : Norm) → Contains xs e → Contains (needs e) d → Contains xs d

unary_closed : (a g : Norm) → (needs g ≡ a ∷ []) → Contains (walk a) a → IsClosed (walk a) → IsClosed (walk a ++ g ∷ [])
unary_closed a g n self ih e d h k = elim (Contains-push_cases (walk a) g e h) [
  | inl w ↦ Contains-append_left (walk a) (g ∷ []) d (ih e d w k)
  | inr i ↦
      let q : Contains (a ∷ []) d = subst (λ z. Contains z d) n (subst (λ z. Contains (needs z) d) (sym i) k) in
      Contains-append_left (walk a) (g ∷ []) d (subst (Contains (walk a)) (one_of a d q) self)
]

binary_closed : (a b g : Norm) → (needs g ≡ a ∷ b ∷ []) → Contains (walk a) a → Contains (walk b) b → IsClosed (walk a) → IsClosed (walk b)
    → IsClosed (walk a ++ (walk b ++ g ∷ []))
binary_closed a b g n self_a self_b ia ib e d h k = elim (three (walk a) (walk b) (g ∷ []) e h) [
  | inl w ↦ front (walk a) (walk b) _ d (ia e d w k)
  | inr r ↦ elim r [
    | inl w ↦ middle (walk a) (walk b) _ d (ib e d w k)
    | inr w ↦
        let i : g ≡ e = one_of g e w in
        let q : Contains (a ∷ b ∷ []) d = subst (λ z. Contains z d) n (subst (λ z. Contains (needs z) d) (sym i) k) in
        elim (Contains-cons_cases a (b ∷ []) d q) [
          | inl s ↦ front (walk a) (walk b) _ d (subst (Contains (walk a)) s self_a)
          | inr s ↦ middle (walk a) (walk b) _ d (subst (Contains (walk b)) (one_of b d s) self_b)
        ]
  ]
]

requesting_closed : (a b g q : Norm) → (needs g ≡ a ∷ b ∷ q ∷ []) → (needs q ≡ g ∷ []) → Contains (walk a) a → Contains (walk b) b → IsClosed (walk a)
    → IsClosed (walk b) → IsClosed (walk a ++ (walk b ++ g ∷ q ∷ []))
requesting_closed a b g q n m self_a self_b ia ib e d h k = elim (three (walk a) (walk b) (g ∷ q ∷ []) e h) [
  | inl w ↦ front (walk a) (walk b) _ d (ia e d w k)
  | inr r ↦ elim r [
    | inl w ↦ middle (walk a) (walk b) _ d (ib e d w k)
    | inr w ↦ elim (Contains-cons_cases g (q ∷ []) e w) [
      | inl i ↦
          let v : Contains (a ∷ b ∷ q ∷ []) d = subst (λ z. Contains z d) n (subst (λ z. Contains (needs z) d) (sym i) k) in
          elim (Contains-cons_cases a (b ∷ q ∷ []) d v) [
            | inl s ↦ front (walk a) (walk b) _ d (subst (Contains (walk a)) s self_a)
            | inr s ↦ elim (Contains-cons_cases b (q ∷ []) d s) [
              | inl u ↦ middle (walk a) (walk b) _ d (subst (Contains (walk b)) u self_b)
              | inr u ↦ back (walk a) (walk b) _ d (Contains-there g (q ∷ []) d u)
            ]
          ]
      | inr i ↦
          let v : Contains (g ∷ []) d = subst (λ z. Contains z d) m (subst (λ z. Contains (needs z) d) (sym (one_of q e i)) k) in
          back (walk a) (walk b) _ d (subst (Contains (g ∷ q ∷ [])) (one_of g d v) (Contains-here g (q ∷ [])))
    ]
  ]
]

literal_closed : (l g : Norm) → needs l ≡ [] → needs g ≡ l ∷ [] → IsClosed (l ∷ g ∷ [])
literal_closed l g n m e d h k = elim (Contains-cons_cases l (g ∷ []) e h) [
  | inl i ↦ absurd (Contains-nil d (subst (λ z. Contains z d) n (subst (λ z. Contains (needs z) d) (sym i) k)))
  | inr i ↦
      let v : Contains (l ∷ []) d = subst (λ z. Contains z d) m (subst (λ z. Contains (needs z) d) (sym (one_of g e i)) k) in
      subst (Contains (l ∷ g ∷ [])) (one_of l d v) (Contains-here l (g ∷ []))
]

leaf_closed : (l : Norm) → needs l ≡ [] → IsClosed (l ∷ [])
leaf_closed l n e d h k = absurd (Contains-nil d (subst (λ z. Contains z d) n (subst (λ z. Contains (needs z) d) (sym (one_of l e h)) k)))

pub walk_closed : (g : Norm) → (e d : Norm) → Contains (walk g) e → Contains (needs e) d → Contains (walk g) d
walk_closed (NConst b) = leaf_closed (NConst b) refl
walk_closed (NLetter p) = leaf_closed (NLetter p) refl
walk_closed (NNotLetter p) = literal_closed (NLetter p) (NNotLetter p) refl refl
walk_closed (NAnd a b) = binary_closed a b _ refl (walk_self a) (walk_self b) (walk_closed a) (walk_closed b)
walk_closed (NOr a b) = binary_closed a b _ refl (walk_self a) (walk_self b) (walk_closed a) (walk_closed b)
walk_closed (NNext a) = unary_closed a _ refl (walk_self a) (walk_closed a)
walk_closed (NWeakNext a) = unary_closed a _ refl (walk_self a) (walk_closed a)
walk_closed (NYesterday a) = unary_closed a _ refl (walk_self a) (walk_closed a)
walk_closed (NWeakYesterday a) = unary_closed a _ refl (walk_self a) (walk_closed a)
walk_closed (NUntil a b) = requesting_closed a b _ _ refl refl (walk_self a) (walk_self b) (walk_closed a) (walk_closed b)
walk_closed (NRelease a b) = requesting_closed a b _ _ refl refl (walk_self a) (walk_self b) (walk_closed a) (walk_closed b)
walk_closed (NSince a b) = requesting_closed a b _ _ refl refl (walk_self a) (walk_self b) (walk_closed a) (walk_closed b)
walk_closed (NTrigger a b) = requesting_closed a b _ _ refl refl (walk_self a) (walk_self b) (walk_closed a) (walk_closed b)

pub closure_closed : (f : Formula) (e d : Norm) → Contains (closure f) e → Contains (needs e) d → Contains (closure f) d
closure_closed f e d h k = Contains-closure f d (walk_closed (pos_of f) e d (Contains-walk f e h) k)

pub closure_root : (f : Formula) → Contains (closure f) (pos_of f)
closure_root f = Contains-closure f (pos_of f) (walk_self (pos_of f))
