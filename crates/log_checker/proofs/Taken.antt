-- What the checker keeps are the live lines.
use Rattle.std.proofs.Common.{◌≡◌, ℕ, zero, suc, ◌<◌, ◌≤◌, ◌==◌, Bool, true, false, not, cond, List, [], ◌∷◌, ◌++◌, length, filter, All, Option, Some, None}
use Rattle.std.proofs.Common.{refl, sym, ap, ap₂, ◌∙◌, subst, arith, append_assoc, if◌then◌else◌}
use Rattle.std.specs.List.{list_any}
use Rattle.std.proofs.lemmas.Bool.{cond-false, eqb-true, eqb-false, eq-eqb, ne_eqb}
use Rattle.std.proofs.lemmas.List.{append-nil, length_push}
use Rattle.std.proofs.lemmas.List.Elements.{All-nil, All-push, All-filter, All-weaker, All-head, All-tail}
use Rattle.cnf_base.specs.declared.literal.Literal.{Literal}
use Rattle.cert_text.specs.Text.{Part, Line, Delete}
use Rattle.cert_text.specs.Live.{lines_of, live_line}
use Rattle.log_checker.specs.Judging.{LiveLine, Checker, fresh, is_named, with_part, after, found}
use Rattle.cert_text.proofs.LiveLines.{lines_on, live_with_line, live_with_delete}

-- the checker has taken these parts
pub record HasTaken (parts : List Part) (c : Checker) : Type 0 where
  pub lines : c.lines ≡ length (lines_of parts)
  pub known : All (λ l. l.number ≤ c.lines) c.live
  pub live : (m : ℕ) → found c.live m ≡ live_line parts m

-- nothing is found past the numbers
found_none : (ls : List LiveLine) (n m : ℕ) → All (λ l. l.number ≤ n) ls → n < m → found ls m ≡ None
found_none [] n m known high = refl
found_none (l ∷ ls) n m known high =
    cond-false (l.number == m) (Some l.literals) (found ls m)
    (ne_eqb l.number m (λ e. omega (arith, e, high, All-head (λ (x : LiveLine). x.number ≤ n) l ls known)))
    ∙ found_none ls n m (All-tail (λ (x : LiveLine). x.number ≤ n) l ls known) high

-- a line behind the others
found_push : (ls : List LiveLine) (n : ℕ) (literals : List Literal) (m : ℕ) → All (λ l. l.number ≤ n) ls
    → found (ls ++ record { number = suc n; literals = literals } ∷ []) m ≡ (if m == suc n then Some literals else found ls m)
found_push [] n literals m known = ap (λ b. cond b (Some literals) None) (turned (suc n) m)
  where
    turned : (a b : ℕ) → (a == b) ≡ (b == a)
    turned a b = go (a == b) refl
      where
        go : (t : Bool) → (a == b) ≡ t → (a == b) ≡ (b == a)
        go true e = e ∙ sym (eq-eqb b a (sym (eqb-true a b e)))
        go false e = e ∙ sym (ne_eqb b a (λ h. eqb-false a b e (sym h)))
found_push (l ∷ ls) n literals m known = go (l.number == m) refl (found_push ls n literals m (All-tail (λ (x : LiveLine). x.number ≤ n) l ls known))
  where
    new : LiveLine
    new = record { number = suc n; literals = literals }

    go : (b : Bool) → (l.number == m) ≡ b → found (ls ++ new ∷ []) m ≡ (if m == suc n then Some literals else found ls m)
        → cond b (Some l.literals) (found (ls ++ new ∷ []) m) ≡ (if m == suc n then Some literals else (if b then Some l.literals else found ls m))
    go true e rest = sym (cond-false (m == suc n) (Some literals) (Some l.literals)
        (ne_eqb m (suc n) (λ h. omega (arith, h, eqb-true l.number m e, All-head (λ (x : LiveLine). x.number ≤ n) l ls known))))
    go false e rest = rest

-- the lines that are not named
found_filter : (ls : List LiveLine) (ns : List ℕ) (m : ℕ)
    → found (filter (λ l. not (is_named ns l)) ls) m ≡ (if list_any (λ n. n == m) ns then None else found ls m)
found_filter [] ns m = none (list_any (λ n. n == m) ns)
  where
    none : (b : Bool) → ◌≡◌ {A = Option (List Literal)} None (cond b None None)
    none true = refl
    none false = refl
found_filter (l ∷ ls) ns m = go (is_named ns l) refl (l.number == m) refl (found_filter ls ns m)
  where
    keeps : LiveLine → Bool
    keeps x = not (is_named ns x)

    same : (b : Bool) → l.number ≡ m → is_named ns l ≡ b → list_any (λ n. n == m) ns ≡ b
    same b e is = ap (λ i. list_any (λ n. n == i) ns) (sym e) ∙ is

    go : (a : Bool) → is_named ns l ≡ a → (b : Bool)
        → (l.number == m) ≡ b → found (filter (λ x. not (is_named ns x)) ls) m ≡ (if list_any (λ n. n == m) ns then None else found ls m)
        → found (cond (not a) (l ∷ filter (λ x. not (is_named ns x)) ls) (filter (λ x. not (is_named ns x)) ls))
        m ≡ (if list_any (λ n. n == m) ns then None else (cond b (Some l.literals) (found ls m)))
    go true is true e rest = rest ∙ ap (λ t. cond t None (found ls m)) (same true (eqb-true l.number m e) is)
        ∙ sym (ap (λ t. cond t None (Some l.literals)) (same true (eqb-true l.number m e) is))
    go true is false e rest = rest
    go false is true e rest = ap (λ t. cond t (Some l.literals) (found (filter (λ x. not (is_named ns x)) ls) m)) e
        ∙ sym (ap (λ t. cond t None (Some l.literals)) (same false (eqb-true l.number m e) is))
    go false is false e rest = ap (λ t. cond t (Some l.literals) (found (filter (λ x. not (is_named ns x)) ls) m)) e ∙ rest

pub taken_part : (parts : List Part) (c : Checker) (p : Part) → HasTaken parts c → HasTaken (parts ++ p ∷ []) (with_part c p)
taken_part parts c (Line ls hs) has = record {
  lines = omega (arith, has.lines, ap length (lines_on parts (Line ls hs ∷ [])), length_push (lines_of parts) ls);
  known = All-push (λ l. l.number ≤ suc c.lines) c.live (record { number = suc c.lines; literals = ls })
      (All-weaker (λ l. l.number ≤ c.lines) (λ l. l.number ≤ suc c.lines) (λ l h. omega (arith, h)) c.live has.known) (omega arith);
  live = λ m. found_push c.live c.lines ls m has.known ∙ ap₂ (λ n o. if m == suc n then Some ls else o) has.lines (has.live m)
      ∙ sym (live_with_line parts ls hs m);
}
taken_part parts c (Delete ns) has = record {
  lines = has.lines ∙ sym (ap length (lines_on parts (Delete ns ∷ []) ∙ append-nil (lines_of parts)));
  known = All-filter (λ l. not (is_named ns l)) (λ l. l.number ≤ c.lines) c.live has.known;
  live = λ m. found_filter c.live ns m ∙ ap (λ o. if list_any (λ n. n == m) ns then None else o) (has.live m) ∙ sym (live_with_delete parts ns m);
}

taken_more : (more parts : List Part) (c : Checker) → HasTaken parts c → HasTaken (parts ++ more) (after c more)
taken_more [] parts c has = subst (λ ps. HasTaken ps c) (sym (append-nil parts)) has
taken_more (p ∷ more) parts c has = subst (λ ps. HasTaken ps (after (with_part c p) more)) (append_assoc parts (p ∷ []) more)
    (taken_more more (parts ++ p ∷ []) (with_part c p) (taken_part parts c p has))

-- after any parts the checker keeps the lines that are live behind them
pub taken : (letters : ℕ) (parts : List Part) → HasTaken parts (after (fresh letters) parts)
taken letters parts = taken_more parts [] (fresh letters) (record { lines = refl; known = All-nil (λ l. l.number ≤ 0); live = none })
  where
    none : (m : ℕ) → found [] m ≡ live_line [] m
    none zero = refl
    none (suc k) = refl
