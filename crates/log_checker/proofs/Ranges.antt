-- The first bad place does not depend on how a range is cut.
use Rattle.std.proofs.Common.{◌≡◌, ℕ, zero, suc, ◌≤◌, inl, inr, Bool, true, false, length, get_or, take, Contains, is_some, IsTrue, ◌&&◌, List, [], ◌∷◌, Option}
use Rattle.std.proofs.Common.{Some, None, refl, sym, ap, ◌∙◌, subst, arith}
use Rattle.std.proofs.lemmas.Bool.{cases_lt, cases_eq, cases_order}
use Rattle.log_checker.specs.Judging.{IsFirstBad, Piece, AreAnswered, end_of, prefer, first_answer}
use Rattle.std.specs.Bool.{Decides}
use mathlib.Core.Bool.{false≢true}
use Rattle.std.specs.List.{list_all}
use Rattle.std.proofs.lemmas.Bool.Decides.{Decides-and, Decides-by_and}
use Rattle.std.proofs.lemmas.List.Elements.{All-contains, Contains-get_or}
use Rattle.cnf_base.specs.declared.literal.Literal.{Literal}
use Rattle.cnf_base.specs.declared.literal.Hint.{Hint}
use Rattle.cnf_base.specs.declared.literal.Hint.TheVariants as hints
use Rattle.cnf_base.proofs.Deciding.{is_hinted_step, Decides-hinted_step}
use Rattle.cert_text.specs.Text.{Part}
use Rattle.cert_text.proofs.LiveLines.{good_lines_are_live}
use Rattle.cert_text.specs.Live.{lines_of, hints_of, live_at, IsGoodLine}
use Rattle.log_checker.specs.Laws.{CutsAgree, FirstBadIsThere}

end_above : (Good : ℕ → Type 0) (from : ℕ) (pieces : List Piece) → AreAnswered Good from pieces → from ≤ end_of from pieces
end_above Good from [] all = omega arith
end_above Good from (p ∷ ps) all = omega (arith, all.0, end_above Good p.to ps all.2)

-- two ranges, one behind the other
joined : (Good : ℕ → Type 0) (from middle to : ℕ) (a b : Option ℕ) → from ≤ middle → middle ≤ to → IsFirstBad Good from middle a → IsFirstBad Good middle to b
    → IsFirstBad Good from to (prefer a b)
joined Good from middle to (Some n) b low high one two = (one.0, omega (arith, one.1, high), one.2, one.3)
joined Good from middle to None None low high one two =
    λ k above below. elim (cases_lt k middle) [ inl first ↦ one k above first | inr second ↦ two k second below ]
joined Good from middle to None (Some n) low high one two =
    (omega (arith, low, two.0), two.1, two.2, λ k above below. elim (cases_lt k middle) [ inl first ↦ one k above first | inr second ↦ two.3 k second below ])

pub pieces_answer : (Good : ℕ → Type 0) (from : ℕ) (pieces : List Piece) → AreAnswered Good from pieces
    → IsFirstBad Good from (end_of from pieces) (first_answer pieces)
pieces_answer Good from [] all = λ k above below. absurd (omega (arith, above, below))
pieces_answer Good from (p ∷ ps) all =
    joined Good from p.to (end_of p.to ps) p.answer (first_answer ps) all.0 (end_above Good p.to ps all.2) all.1 (pieces_answer Good p.to ps all.2)

-- a range has one first bad place
pub one_first : (Good : ℕ → Type 0) (from to : ℕ) (a b : Option ℕ) → IsFirstBad Good from to a → IsFirstBad Good from to b → a ≡ b
one_first Good from to None None one two = refl
one_first Good from to None (Some m) one two = absurd (two.2 (one m two.0 two.1))
one_first Good from to (Some n) None one two = absurd (one.2 (two n one.0 one.1))
one_first Good from to (Some n) (Some m) one two = elim (cases_order n m) [
  | inl same ↦ ap (λ k. Some k) same
  | inr (inl less) ↦ absurd (one.2 (two.3 n one.0 less))
  | inr (inr more) ↦ absurd (two.2 (one.3 m two.0 more))
]

pub cuts_agree : CutsAgree
cuts_agree clauses greatest parts pieces answer all end is =
    let Good = IsGoodLine clauses greatest parts in
    one_first Good 0 (end_of 0 pieces) (first_answer pieces) answer (pieces_answer Good 0 pieces all) (subst (λ n. IsFirstBad Good 0 n answer) (sym end) is)

-- the first bad place of the first n
first_of : (good : ℕ → Bool) (Good : ℕ → Type 0) → ((k : ℕ) → Decides (good k) (Good k)) → (n : ℕ) → (answer : Option ℕ) × IsFirstBad Good 0 n answer
first_of good Good each zero = (None, λ k above below. absurd (omega (arith, below)))
first_of good Good each (suc n) = go (first_of good Good each n) (good n) refl
  where
    go : (answer : Option ℕ) × IsFirstBad Good 0 n answer → (b : Bool) → good n ≡ b → (answer : Option ℕ) × IsFirstBad Good 0 (suc n) answer
    go (Some k, is) b e = (Some k, (is.0, omega (arith, is.1), is.2, is.3))
    go (None, is) true e =
        (None, λ k above below. elim (cases_eq k n) [ inl at ↦ subst Good (sym at) ((each n).0 e) | inr other ↦ is k above (omega (arith, other, below)) ])
    go (None, is) false e = (Some n, (omega arith, omega arith, (λ h. false≢true (sym e ∙ (each n).1 h)), is))

-- whether each line that the hints name is live
abbrev is_live : List Part → ℕ → Hint → Bool
is_live parts k (hints.Clause n) = true
is_live parts k (hints.Line n) = is_some (live_at parts k n)

IsLive : List Part → ℕ → Hint → Type 0
IsLive parts k h = (m : ℕ) → h ≡ hints.Line m → IsTrue (is_some (live_at parts k m))

Decides-live : (parts : List Part) (k : ℕ) (h : Hint) → Decides (is_live parts k h) (IsLive parts k h)
unfolding IsLive
Decides-live parts k (hints.Clause n) = (λ e m at. cc, λ live. refl)
Decides-live parts k (hints.Line n) = (
  λ e m at. let same : n ≡ m = cc in subst (λ i. IsTrue (is_some (live_at parts k i))) same e,
  λ live. live n refl,
)

is_good : List (List Literal) → ℕ → List Part → ℕ → Bool
is_good clauses greatest parts k =
    is_hinted_step clauses (take k (lines_of parts)) greatest (get_or (lines_of parts) k []) (get_or (hints_of parts) k [])
    && list_all (is_live parts k) (get_or (hints_of parts) k [])

Decides-good : (clauses : List (List Literal)) (greatest : ℕ) (parts : List Part) (k : ℕ)
    → Decides (is_good clauses greatest parts k) (IsGoodLine clauses greatest parts k)
unfolding is_good IsLive
Decides-good clauses greatest parts k =
    let ls = take k (lines_of parts) in
    let clause = get_or (lines_of parts) k [] in
    let hs = get_or (hints_of parts) k [] in
    let both = Decides-and (is_hinted_step clauses ls greatest clause hs) (list_all (is_live parts k) hs) (Decides-hinted_step clauses ls greatest clause hs)
    (Decides-by_and (is_live parts k) (IsLive parts k) (list_all (is_live parts k)) (Decides-live parts k) refl (λ _ _. refl) hs) in
    let same = good_lines_are_live clauses greatest parts k in (
      λ e. let p = both.0 e in same.1 (p.0, λ m there. All-contains (IsLive parts k) hs (hints.Line m) p.1 there m refl),
      λ good. let p = same.0 good in both.1 (p.0, λ i d low m at. p.1 m (subst (λ h. Contains hs h) at (Contains-get_or hs i d low))),
    )

pub first_bad_is_there : FirstBadIsThere
first_bad_is_there clauses greatest parts =
    first_of (is_good clauses greatest parts) (IsGoodLine clauses greatest parts) (Decides-good clauses greatest parts) (length (lines_of parts))
