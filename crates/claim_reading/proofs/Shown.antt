-- The entries of a closure are nodes over earlier entries.
use Rattle.std.proofs.Common.{◌≡◌, ℕ, suc, ◌-◌, ◌<◌, Bool, true, false, refl, sym, ap, subst, ◌∙◌, arith, List, [], ◌∷◌, length, get_or, Contains}
use Rattle.std.proofs.Common.{if◌then◌else◌}
use Rattle.std.proofs.lemmas.List.Elements.{Contains-get_or}
use Rattle.ltl_syntax.specs.Formula.{Name, Fresh, Formula, Const, Letter, Unary, Binary}
use Rattle.ltl_syntax.specs.declared.node.UnaryOp.{UnaryOp}
use Rattle.ltl_syntax.specs.declared.node.UnaryOp.TheVariants as one
use Rattle.ltl_syntax.specs.declared.node.BinaryOp.{BinaryOp}
use Rattle.ltl_syntax.specs.declared.node.BinaryOp.TheVariants as two
use Rattle.ltl_syntax.specs.declared.node.Node.{Node}
use Rattle.ltl_syntax.specs.declared.node.Node.TheVariants as nodes
use Rattle.ltl_closure.specs.Norm.{Norm, NConst, NLetter, NNotLetter, NAnd, NOr, NNext, NWeakNext, NYesterday, NWeakYesterday, NUntil, NRelease, NSince}
use Rattle.ltl_closure.specs.Norm.{NTrigger}
use Rattle.ltl_closure.specs.Closure.{closure}
use Rattle.ltl_closure.specs.Entries.{place_in, StandsAmong, AreEntries, IsNumber, entry_at}
use Rattle.ltl_closure.specs.declared.entry.Entry.{Entry}
use Rattle.ltl_closure.proofs.Lists.{Contains-here, Contains-there}
use Rattle.ltl_closure.proofs.Places.{place_from_one, place_within, entry_place, closure_placed}
use Rattle.claim_reading.specs.Readable.{is_true, is_false, readable, entry_formula}
use Rattle.claim_reading.specs.Shown.{is_true_entry, is_false_entry, node_by, shown, HasLeft, HasNoNumbers, IsBefore, IsNodeOf}
use Rattle.claim_reading.proofs.Ordering.{operands, closure_ordered}

-- an entry is a constant where the normal form is
abbrev Alike : Norm → Entry → Type 0
Alike e x = (is_true_entry x ≡ is_true e) × (is_false_entry x ≡ is_false e)

alike : (names : List (List ℕ)) (kept : List Norm) (e : Norm) (x : Entry) → StandsAmong names kept e x → Alike e x
alike names kept (NConst true) x s = subst (Alike (NConst true)) (sym s) (refl, refl)
alike names kept (NConst false) x s = subst (Alike (NConst false)) (sym s) (refl, refl)
alike names kept (NLetter (Name b)) x s = subst (Alike (NLetter (Name b))) (sym s.1) (refl, refl)
alike names kept (NLetter (Fresh n)) x s = subst (Alike (NLetter (Fresh n))) (sym s) (refl, refl)
alike names kept (NNotLetter p) x s = subst (Alike (NNotLetter p)) (sym s) (refl, refl)
alike names kept (NAnd a b) x s = subst (Alike (NAnd a b)) (sym s) (refl, refl)
alike names kept (NOr a b) x s = subst (Alike (NOr a b)) (sym s) (refl, refl)
alike names kept (NNext a) x s = subst (Alike (NNext a)) (sym s) (refl, refl)
alike names kept (NWeakNext a) x s = subst (Alike (NWeakNext a)) (sym s) (refl, refl)
alike names kept (NYesterday a) x s = subst (Alike (NYesterday a)) (sym s) (refl, refl)
alike names kept (NWeakYesterday a) x s = subst (Alike (NWeakYesterday a)) (sym s) (refl, refl)
alike names kept (NUntil a b) x s = subst (Alike (NUntil a b)) (sym s) (refl, refl)
alike names kept (NRelease a b) x s = subst (Alike (NRelease a b)) (sym s) (refl, refl)
alike names kept (NSince a b) x s = subst (Alike (NSince a b)) (sym s) (refl, refl)
alike names kept (NTrigger a b) x s = subst (Alike (NTrigger a b)) (sym s) (refl, refl)

module _ (names : List (List ℕ)) (f : Formula) (entries : List Entry) (are : AreEntries names f entries) where
  -- the number of a member
  abbrev place : Norm → ℕ
  place e = place_in (closure f) e

  constant_at : (a : Norm) → Contains (closure f) a → Alike a (entry_at entries (place a))
  constant_at a m =
      let low = place_from_one (closure f) a in
      let high = place_within (closure f) a m in
      alike names (closure f) a (entry_at entries (place a))
      (subst (λ e. StandsAmong names (closure f) e (entry_at entries (place a))) (entry_place (closure f) a (NConst false) m)
      (are.each (place a - 1) (omega arith)))

  module _ (t : ℕ) where
    -- the node is a formula over entries before t
    abbrev Shows : Formula → Node → Type 0
    Shows g node = (g ≡ shown names f node) × IsBefore (length names) t node

    record IsChild (d : Norm) : Type 0 where
      there : Contains (closure f) d
      formula : readable d ≡ entry_formula f (place d)
      some : 0 < place d
      less : place d < t

    child : (e d : Norm) → Contains (closure f) e → place e ≡ t → Contains (operands e) d → IsChild d
    child e d m is h =
        let w = closure_ordered f e d m h in
        record {
          there = w.0;
          formula = ap readable (sym (entry_place (closure f) d (NConst false) w.0));
          some = place_from_one (closure f) d;
          less = subst (λ n. place d < n) is w.1;
        }

    single : (op : UnaryOp) (d : Norm) → HasNoNumbers op → IsChild d → Shows (Unary op (readable d)) (nodes.Unary op (place d))
    single op d plain c = (ap (Unary op) c.formula, (c.some, c.less, plain))

    double : (op : BinaryOp) (a b : Norm) → IsChild a → IsChild b → Shows (Binary op (readable a) (readable b)) (nodes.Binary op (place a) (place b))
    double op a b c d =
        (ap (λ g. Binary op g (readable b)) c.formula ∙ ap (Binary op (entry_formula f (place a))) d.formula, (c.some, c.less, d.some, d.less))

    -- one of two, by the same test
    either : (b c : Bool) → c ≡ b → (g h : Formula) (n m : Node) → Shows g n → Shows h m → Shows (if b then g else h) (if c then n else m)
    either true c e g h n m x y = subst (λ z. Shows g (if z then n else m)) (sym e) x
    either false c e g h n m x y = subst (λ z. Shows h (if z then n else m)) (sym e) y

    left : (g a : Norm) (rest : List Norm) → operands g ≡ a ∷ rest → Contains (closure f) g → place g ≡ t → IsChild a
    left g a rest n m is = child g a m is (subst (λ z. Contains z a) (sym n) (Contains-here a rest))

    right : (g a b : Norm) → operands g ≡ a ∷ b ∷ [] → Contains (closure f) g → place g ≡ t → IsChild b
    right g a b n m is = child g b m is (subst (λ z. Contains z b) (sym n) (Contains-there a (b ∷ []) b (Contains-here b [])))

    shows : (e : Norm) (x : Entry) → Contains (closure f) e → place e ≡ t → StandsAmong names (closure f) e x → Shows (readable e) (node_by entries x)
    shows (NConst true) x m is s = subst (λ y. Shows (Const true) (node_by entries y)) (sym s) (refl, tt)
    shows (NConst false) x m is s = subst (λ y. Shows (Const false) (node_by entries y)) (sym s) (refl, tt)
    shows (NLetter (Name bytes)) x m is s =
        subst (λ y. Shows (Letter (Name bytes)) (node_by entries y)) (sym s.1) (ap (λ b. Letter (Name b)) (sym s.3), s.2)
    shows (NLetter (Fresh n)) x m is s = subst (λ y. Shows (Letter (Fresh n)) (node_by entries y)) (sym s) (refl, tt)
    shows (NNotLetter p) x m is s =
        subst (λ y. Shows (readable (NNotLetter p)) (node_by entries y)) (sym s) (single one.Not (NLetter p) tt (left _ (NLetter p) [] refl m is))
    shows (NAnd a b) x m is s =
        subst (λ y. Shows (readable (NAnd a b)) (node_by entries y)) (sym s) (double two.And a b (left _ a _ refl m is) (right _ a b refl m is))
    shows (NOr a b) x m is s =
        subst (λ y. Shows (readable (NOr a b)) (node_by entries y)) (sym s) (double two.Or a b (left _ a _ refl m is) (right _ a b refl m is))
    shows (NNext a) x m is s = subst (λ y. Shows (readable (NNext a)) (node_by entries y)) (sym s) (single one.Next a tt (left _ a _ refl m is))
    shows (NWeakNext a) x m is s =
        subst (λ y. Shows (readable (NWeakNext a)) (node_by entries y)) (sym s) (single one.WeakNext a tt (left _ a _ refl m is))
    shows (NYesterday a) x m is s =
        subst (λ y. Shows (readable (NYesterday a)) (node_by entries y)) (sym s) (single one.Yesterday a tt (left _ a _ refl m is))
    shows (NWeakYesterday a) x m is s =
        subst (λ y. Shows (readable (NWeakYesterday a)) (node_by entries y)) (sym s) (single one.WeakYesterday a tt (left _ a _ refl m is))
    shows (NUntil a b) x m is s =
        let c = left (NUntil a b) a (b ∷ []) refl m is in
        let d = right (NUntil a b) a b refl m is in
        subst (λ y. Shows (readable (NUntil a b)) (node_by entries y)) (sym s)
        (either (is_true a) (is_true_entry (entry_at entries (place a))) (constant_at a c.there).0 _ _ _ _
        (single one.Eventually b tt d) (double two.Until a b c d))
    shows (NRelease a b) x m is s =
        let c = left (NRelease a b) a (b ∷ []) refl m is in
        let d = right (NRelease a b) a b refl m is in
        subst (λ y. Shows (readable (NRelease a b)) (node_by entries y)) (sym s)
        (either (is_false a) (is_false_entry (entry_at entries (place a))) (constant_at a c.there).1 _ _ _ _
        (single one.Always b tt d) (double two.Release a b c d))
    shows (NSince a b) x m is s =
        let c = left (NSince a b) a (b ∷ []) refl m is in
        let d = right (NSince a b) a b refl m is in
        subst (λ y. Shows (readable (NSince a b)) (node_by entries y)) (sym s)
        (either (is_true a) (is_true_entry (entry_at entries (place a))) (constant_at a c.there).0 _ _ _ _
        (single one.Once b tt d) (double two.Since a b c d))
    shows (NTrigger a b) x m is s =
        let c = left (NTrigger a b) a (b ∷ []) refl m is in
        let d = right (NTrigger a b) a b refl m is in
        subst (λ y. Shows (readable (NTrigger a b)) (node_by entries y)) (sym s)
        (either (is_false a) (is_false_entry (entry_at entries (place a))) (constant_at a c.there).1 _ _ _ _
        (single one.Historically b tt d) (double two.Trigger a b c d))

  pub node_is : (t : ℕ) → IsNumber (length (closure f)) t → IsNodeOf names f t (node_by entries (entry_at entries t))
  node_is t (low, high) =
      let lt : t - 1 < length (closure f) = omega arith in
      let up : suc (t - 1) ≡ t = omega arith in
      let e = get_or (closure f) (t - 1) (NConst false) in
      let w = shows t e (entry_at entries t) (Contains-get_or (closure f) (t - 1) (NConst false) lt) (closure_placed f (t - 1) (NConst false) lt ∙ up)
      (are.each (t - 1) lt) in
      record { formula = w.0; before = w.1 }

  -- the left operand is an entry too
  left_in : (a : Norm) → Contains (closure f) a → IsNumber (length (closure f)) (place a)
  left_in a m = (place_from_one (closure f) a, place_within (closure f) a m)

  lefts : (t : ℕ) (e : Norm) (x : Entry) → Contains (closure f) e → place e ≡ t → StandsAmong names (closure f) e x → HasLeft (length (closure f)) x
  lefts t (NConst true) x m is s = subst (HasLeft (length (closure f))) (sym s) tt
  lefts t (NConst false) x m is s = subst (HasLeft (length (closure f))) (sym s) tt
  lefts t (NLetter (Name bytes)) x m is s = subst (HasLeft (length (closure f))) (sym s.1) tt
  lefts t (NLetter (Fresh n)) x m is s = subst (HasLeft (length (closure f))) (sym s) tt
  lefts t (NUntil a b) x m is s =
      subst (HasLeft (length (closure f))) (sym s) (left_in a (closure_ordered f (NUntil a b) a m (Contains-here a (b ∷ []))).0)
  lefts t (NRelease a b) x m is s =
      subst (HasLeft (length (closure f))) (sym s) (left_in a (closure_ordered f (NRelease a b) a m (Contains-here a (b ∷ []))).0)
  lefts t (NSince a b) x m is s =
      subst (HasLeft (length (closure f))) (sym s) (left_in a (closure_ordered f (NSince a b) a m (Contains-here a (b ∷ []))).0)
  lefts t (NTrigger a b) x m is s =
      subst (HasLeft (length (closure f))) (sym s) (left_in a (closure_ordered f (NTrigger a b) a m (Contains-here a (b ∷ []))).0)
  lefts t _ x m is s = subst (HasLeft (length (closure f))) (sym s) tt

  pub left_is : (t : ℕ) → IsNumber (length (closure f)) t → HasLeft (length entries) (entry_at entries t)
  left_is t (low, high) =
      let lt : t - 1 < length (closure f) = omega arith in
      let e = get_or (closure f) (t - 1) (NConst false) in
      subst (λ w. HasLeft w (entry_at entries t)) (sym are.long)
      (lefts t e (entry_at entries t) (Contains-get_or (closure f) (t - 1) (NConst false) lt)
      (let up : suc (t - 1) ≡ t = omega arith in closure_placed f (t - 1) (NConst false) lt ∙ up) (are.each (t - 1) lt))
