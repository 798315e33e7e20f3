-- In a closure the operands of an entry come before it.
use Rattle.std.proofs.Common.{◌≡◌, ◌<◌, Bool, true, false, inl, inr, refl, sym, subst, ◌∙◌, arith, List, [], ◌∷◌, ◌++◌, Contains, if◌then◌else◌}
use Rattle.std.proofs.lemmas.List.Elements.{Contains-append_left, Contains-push, Contains-push_cases}
use Rattle.ltl_syntax.specs.Formula.{Formula}
use Rattle.ltl_closure.specs.Norm.{Norm, NConst, NLetter, NNotLetter, NAnd, NOr, NNext, NWeakNext, NYesterday, NWeakYesterday, NUntil, NRelease, NSince}
use Rattle.ltl_closure.specs.Norm.{NTrigger, pos_of}
use Rattle.ltl_closure.specs.Closure.{closure, walk, with_new, added, holds_entry}
use Rattle.ltl_closure.specs.Entries.{place_in}
use Rattle.ltl_closure.proofs.Lists.{Contains-nil, Contains-cons_cases}
use Rattle.ltl_closure.proofs.Entries.{holds_entry_is, with_new_keeps, one_of}
use Rattle.ltl_closure.proofs.Again.{with_new-append}
use Rattle.ltl_closure.proofs.Places.{place_within, place_left, place_new}

-- what an entry is made of
abbrev pub operands : Norm → List Norm
operands (NConst b) = []
operands (NLetter p) = []
operands (NNotLetter p) = NLetter p ∷ []
operands (NAnd a b) = a ∷ b ∷ []
operands (NOr a b) = a ∷ b ∷ []
operands (NNext a) = a ∷ []
operands (NWeakNext a) = a ∷ []
operands (NYesterday a) = a ∷ []
operands (NWeakYesterday a) = a ∷ []
operands (NUntil a b) = a ∷ b ∷ []
operands (NRelease a b) = a ∷ b ∷ []
operands (NSince a b) = a ∷ b ∷ []
operands (NTrigger a b) = a ∷ b ∷ []

abbrev pub IsOrdered : List Norm → Type 0
IsOrdered xs = (e d : Norm) → Contains xs e → Contains (operands e) d → Contains xs d × (place_in xs d < place_in xs e)

-- and an entry is there
abbrev Ends : List Norm → Norm → Type 0
Ends xs g = IsOrdered xs × Contains xs g

added_has : (xs : List Norm) (x : Norm) → Contains (added xs x) x
added_has xs x = go (holds_entry xs x) refl
  where
    go : (b : Bool) → holds_entry xs x ≡ b → Contains (if b then xs else xs ++ x ∷ []) x
    go true is = holds_entry_is xs x is
    go false is = Contains-push xs x

added_ordered : (xs : List Norm) (x : Norm) → IsOrdered xs → ((d : Norm) → Contains (operands x) d → Contains xs d) → IsOrdered (added xs x)
added_ordered xs x o has = go (holds_entry xs x) refl
  where
    go : (b : Bool) → holds_entry xs x ≡ b → IsOrdered (if b then xs else xs ++ x ∷ [])
    go true is = o
    go false is = λ e d c h. elim (Contains-push_cases xs x e c) [
      | inl m ↦
          let w = o e d m h in
          let less = w.1 in (
            Contains-append_left xs (x ∷ []) d w.0,
            omega (arith, less, place_left xs (x ∷ []) d w.0, place_left xs (x ∷ []) e m),
          )
      | inr i ↦
          let k : Contains xs d = has d (subst (λ z. Contains (operands z) d) (sym i) h) in (
            Contains-append_left xs (x ∷ []) d k,
            subst (λ z. place_in (xs ++ x ∷ []) d < place_in (xs ++ x ∷ []) z) i
                (omega (arith, place_left xs (x ∷ []) d k, place_new xs x is, place_within xs d k)),
          )
    ]

-- with an entry of no operand, of one that is there, and of two
leaf_ends : (xs : List Norm) (g : Norm) → operands g ≡ [] → IsOrdered xs → Ends (added xs g) g
leaf_ends xs g n o = (added_ordered xs g o (λ d h. absurd (Contains-nil d (subst (λ z. Contains z d) n h))), added_has xs g)

unary_ends : (xs : List Norm) (a g : Norm) → operands g ≡ a ∷ [] → Ends xs a → Ends (added xs g) g
unary_ends xs a g n w =
    (added_ordered xs g w.0 (λ d h. subst (Contains xs) (one_of a d (subst (λ z. Contains z d) n h)) w.1), added_has xs g)

binary_ends : (xs : List Norm) (a b g : Norm) → operands g ≡ a ∷ b ∷ [] → Contains xs a → Ends xs b → Ends (added xs g) g
binary_ends xs a b g n m w = (added_ordered xs g w.0 each, added_has xs g)
  where
    each : (d : Norm) → Contains (operands g) d → Contains xs d
    each d h = elim (Contains-cons_cases a (b ∷ []) d (subst (λ z. Contains z d) n h)) [
      | inl i ↦ subst (Contains xs) i m
      | inr r ↦ subst (Contains xs) (one_of b d r) w.1
    ]

-- what a walk leaves behind
abbrev Walks : Norm → Type 0
Walks g = (xs : List Norm) → IsOrdered xs → Ends (with_new xs (walk g)) g

unary_walks : (a g : Norm) → operands g ≡ a ∷ [] → Walks a → (xs : List Norm) → IsOrdered xs → Ends (with_new xs (walk a ++ g ∷ [])) g
unary_walks a g n w xs o =
    subst (λ ys. Ends ys g) (sym (with_new-append xs (walk a) (g ∷ []))) (unary_ends (with_new xs (walk a)) a g n (w xs o))

-- both operands, and then the entries zs
both_walk : (a b : Norm) → Walks a → Walks b → (xs zs : List Norm) → IsOrdered xs → (ys : List Norm) × Contains ys a × Ends ys b
    × (with_new ys zs ≡ with_new xs (walk a ++ (walk b ++ zs)))
both_walk a b wa wb xs zs o =
    let first = with_new xs (walk a) in
    let one = wa xs o in (
      with_new first (walk b),
      with_new_keeps first (walk b) a one.1,
      wb first one.0,
      sym (with_new-append xs (walk a) (walk b ++ zs) ∙ with_new-append first (walk b) zs),
    )

binary_walks : (a b g : Norm) → operands g ≡ a ∷ b ∷ [] → Walks a → Walks b → (xs : List Norm) → IsOrdered xs
    → Ends (with_new xs (walk a ++ (walk b ++ g ∷ []))) g
binary_walks a b g n wa wb xs o =
    let w = both_walk a b wa wb xs (g ∷ []) o in
    subst (λ ys. Ends ys g) w.3 (binary_ends w.0 a b g n w.1 w.2)

requesting_walks : (a b g q : Norm) → operands g ≡ a ∷ b ∷ [] → operands q ≡ g ∷ [] → Walks a → Walks b → (xs : List Norm) → IsOrdered xs
    → Ends (with_new xs (walk a ++ (walk b ++ g ∷ q ∷ []))) g
requesting_walks a b g q n m wa wb xs o =
    let w = both_walk a b wa wb xs (g ∷ q ∷ []) o in
    let one = binary_ends w.0 a b g n w.1 w.2 in
    let two = unary_ends (added w.0 g) g q m one in
    subst (λ ys. Ends ys g) w.3 (two.0, with_new_keeps (added w.0 g) (q ∷ []) g one.1)

walk_ordered : (g : Norm) → Walks g
walk_ordered (NConst b) = λ xs o. leaf_ends xs (NConst b) refl o
walk_ordered (NLetter p) = λ xs o. leaf_ends xs (NLetter p) refl o
walk_ordered (NNotLetter p) = λ xs o. unary_ends (added xs (NLetter p)) (NLetter p) (NNotLetter p) refl (leaf_ends xs (NLetter p) refl o)
walk_ordered (NAnd a b) = binary_walks a b _ refl (walk_ordered a) (walk_ordered b)
walk_ordered (NOr a b) = binary_walks a b _ refl (walk_ordered a) (walk_ordered b)
walk_ordered (NNext a) = unary_walks a _ refl (walk_ordered a)
walk_ordered (NWeakNext a) = unary_walks a _ refl (walk_ordered a)
walk_ordered (NYesterday a) = unary_walks a _ refl (walk_ordered a)
walk_ordered (NWeakYesterday a) = unary_walks a _ refl (walk_ordered a)
walk_ordered (NUntil a b) = requesting_walks a b _ _ refl refl (walk_ordered a) (walk_ordered b)
walk_ordered (NRelease a b) = requesting_walks a b _ _ refl refl (walk_ordered a) (walk_ordered b)
walk_ordered (NSince a b) = requesting_walks a b _ _ refl refl (walk_ordered a) (walk_ordered b)
walk_ordered (NTrigger a b) = requesting_walks a b _ _ refl refl (walk_ordered a) (walk_ordered b)

pub closure_ordered : (f : Formula) → IsOrdered (closure f)
closure_ordered f = (walk_ordered (pos_of f) [] (λ e d c h. absurd (Contains-nil e c))).0
