-- Behind the header a pass goes as it would with more lines before it.
use Rattle.std.proofs.Common.{◌≡◌, ℕ, ◌+◌, ◌-◌, ◌*◌, ◌==◌, ◌&&◌, Bool, true, false, cond, ltb, List, [], ◌∷◌, Some, None, refl, sym, ap, ◌∙◌, arith}
use Rattle.std.specs.Prelude.{codes, ⊤}
use Rattle.std.specs.Option.{option_and_then}
use Rattle.cert_text.specs.Shape.{Next, greatest_in, with_line, end_in, first_in, literal_in, number_in, small_step, small_advance}
use Rattle.cert_text.specs.Passes.{small_run, with_lines}
use Rattle.cert_text.specs.declared.scanning.Head.{Head}
use Rattle.cert_text.specs.declared.scanning.Role.{Role}
use Rattle.cert_text.specs.declared.scanning.Role.TheVariants as roles
use Rattle.cert_text.specs.declared.scanning.Place.{Place}
use Rattle.cert_text.specs.declared.scanning.Place.TheVariants as places

-- with this number of lines more
abbrev pub more_lines : ℕ → Head → Head
more_lines k h = with_lines h (k + h.lines)

abbrev later_role : ℕ → Role → Role
later_role k (roles.Depth version kind) = roles.Depth version kind
later_role k (roles.Literal h) = roles.Literal (more_lines k h)
later_role k (roles.Hint h) = roles.Hint (more_lines k h)
later_role k (roles.Target h) = roles.Target (more_lines k h)
later_role k (roles.Delete h) = roles.Delete (more_lines k h)

abbrev pub later_place : ℕ → Place → Place
later_place k places.Version = places.Version
later_place k (places.Kind version) = places.Kind version
later_place k (places.First role) = places.First (later_role k role)
later_place k (places.More role n) = places.More (later_role k role) n
later_place k (places.Part h) = places.Part (more_lines k h)
later_place k (places.Literal h) = places.Literal (more_lines k h)
later_place k (places.Hint h) = places.Hint (more_lines k h)
later_place k (places.End h) = places.End (more_lines k h)

abbrev pub later_next : ℕ → Next → Next
later_next k None = None
later_next k (Some t) = Some (t.0, later_place k t.1)

-- behind the header
abbrev IsBehindRole : Role → Type 0
IsBehindRole (roles.Depth version kind) = ⊥
IsBehindRole (roles.Literal h) = ⊤
IsBehindRole (roles.Hint h) = ⊤
IsBehindRole (roles.Target h) = ⊤
IsBehindRole (roles.Delete h) = ⊤

abbrev pub IsBehind : Place → Type 0
IsBehind places.Version = ⊥
IsBehind (places.Kind version) = ⊥
IsBehind (places.First role) = IsBehindRole role
IsBehind (places.More role n) = IsBehindRole role
IsBehind (places.Part h) = ⊤
IsBehind (places.Literal h) = ⊤
IsBehind (places.Hint h) = ⊤
IsBehind (places.End h) = ⊤

abbrev IsBehindNext : Next → Type 0
IsBehindNext None = ⊤
IsBehindNext (Some t) = IsBehind t.1

-- a step and the one with more lines before it
abbrev IsLater : ℕ → Next → Next → Type 0
IsLater k x u = (u ≡ later_next k x) × IsBehindNext x

both : (k : ℕ) (b : Bool) (x y u v : Next) → IsLater k x u → IsLater k y v → IsLater k (cond b x y) (cond b u v)
both k true x y u v e f = e
both k false x y u v e f = f

end_later : (k : ℕ) (role : Role) (n b : ℕ) → IsBehindRole role → IsLater k (end_in role n b) (end_in (later_role k role) n b)
end_later k (roles.Depth version kind) n b behind = absurd behind
end_later k (roles.Literal h) n b behind = both k (b == 32) _ _ _ _ (refl, tt) (refl, tt)
end_later k (roles.Hint h) n b behind = both k (b == 32) _ _ _ _ (refl, tt) (refl, tt)
end_later k (roles.Target h) n b behind =
    both k (h.targets == h.depth + 1) _ _ _ _ (both k (b == 10) _ _ _ _ (refl, tt) (refl, tt)) (both k (b == 32) _ _ _ _ (refl, tt) (refl, tt))
end_later k (roles.Delete h) n b behind = both k (b == 32) _ _ _ _ (refl, tt) (both k (b == 10) _ _ _ _ (refl, tt) (refl, tt))

first_later : (k : ℕ) (role : Role) (b : ℕ) → IsBehindRole role → IsLater k (first_in role b) (first_in (later_role k role) b)
first_later k role b behind = both k (ltb 48 b && ltb b 58) _ _ _ _ (refl, behind) (refl, tt)

literal_later : (k : ℕ) (h : Head) (b : ℕ) → IsLater k (literal_in h b) (literal_in (more_lines k h) b)
literal_later k h b = both k (b == 48) _ _ _ _ (refl, tt) (both k (b == 45) _ _ _ _ (refl, tt) (first_later k (roles.Literal h) b tt))

number_later : (k : ℕ) (role : Role) (b : ℕ) → IsBehindRole role → IsLater k (number_in role b) (number_in (later_role k role) b)
number_later k (roles.Depth version kind) b behind = absurd behind
number_later k (roles.Literal h) b behind = first_later k (roles.Literal h) b tt
number_later k (roles.Hint h) b behind = first_later k (roles.Hint h) b tt
number_later k (roles.Target h) b behind = first_later k (roles.Target h) b tt
number_later k (roles.Delete h) b behind = first_later k (roles.Delete h) b tt

same_greatest : (k : ℕ) (role : Role) → greatest_in role ≡ greatest_in (later_role k role)
same_greatest k (roles.Depth version kind) = refl
same_greatest k other = refl

digit_later : (k : ℕ) (role : Role) (m : ℕ) → IsBehindRole role
    → IsLater k (cond (ltb (greatest_in role) m) None (Some ([], places.More role m)))
    (cond (ltb (greatest_in (later_role k role)) m) None (Some ([], places.More (later_role k role) m)))
digit_later k role m behind =
    let under = both k (ltb (greatest_in role) m) None (Some ([], places.More role m)) None (Some ([], places.More (later_role k role) m)) (refl, tt)
    (refl, behind) in (
      ap (λ g. let it : Next = cond (ltb g m) None (Some ([], places.More (later_role k role) m)) in it) (sym (same_greatest k role)) ∙ under.0,
      under.1,
    )

line_later : (k : ℕ) (h : Head) → with_line (more_lines k h) ≡ more_lines k (with_line h)
line_later k h = let e : k + h.lines + 1 ≡ k + (h.lines + 1) = omega arith in ap (with_lines h) e

step_later : (k : ℕ) (place : Place) (b : ℕ) → IsBehind place → IsLater k (small_step place b) (small_step (later_place k place) b)
step_later k places.Version b behind = absurd behind
step_later k (places.Kind version) b behind = absurd behind
step_later k (places.First role) b behind = number_later k role b behind
step_later k (places.More role n) b behind =
    both k (ltb 47 b && ltb b 58) _ _ _ _ (digit_later k role (10 * n + (b - 48)) behind) (end_later k role n b behind)
step_later k (places.Part h) b behind =
    both k (b == 99) _ _ _ _ (refl, tt) (both k (b == 100) _ _ _ _ (both k (h.version == 2) _ _ _ _ (refl, tt) (refl, tt)) (literal_later k h b))
step_later k (places.Literal h) b behind = literal_later k h b
step_later k (places.Hint h) b behind =
    both k (b == 48) _ _ _ _ (ap (λ g. let it : Next = Some (codes "\n", places.Part g) in it) (line_later k h), tt)
    (both k (b == 45) _ _ _ _ (refl, tt) (first_later k (roles.Hint h) b tt))
step_later k (places.End h) b behind = (refl, tt)

advance_later : (k : ℕ) (left : List ℕ) (place : Place) (b : ℕ) → IsBehind place
    → IsLater k (small_advance left place b) (small_advance left (later_place k place) b)
advance_later k [] place b behind = step_later k place b behind
advance_later k (x ∷ xs) place b behind = both k (b == x) _ _ _ _ (refl, behind) (refl, tt)

pub run_later : (k : ℕ) (bs left : List ℕ) (place : Place) → IsBehind place → small_run left (later_place k place) bs ≡ later_next k (small_run left place bs)
run_later k [] left place behind = refl
run_later k (b ∷ bs) left place behind =
    let one = advance_later k left place b behind in
    ap (option_and_then (λ t. small_run t.0 t.1 bs)) one.0 ∙ go (small_advance left place b) one.1 (λ l p is. run_later k bs l p is)
  where
    go : (x : Next) → IsBehindNext x → ((l : List ℕ) (p : Place) → IsBehind p → small_run l (later_place k p) bs ≡ later_next k (small_run l p bs))
        → option_and_then (λ t. small_run t.0 t.1 bs) (later_next k x) ≡ later_next k (option_and_then (λ t. small_run t.0 t.1 bs) x)
    go None is again = refl
    go (Some t) is again = again t.0 t.1 is
