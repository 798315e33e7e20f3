-- A text that a loop builds, one piece in each turn.
use Rattle.std.proofs.Common.{◌≡◌, ℕ, ◌+◌, ◌-◌, ◌≤◌, List, [], ◌∷◌, ◌++◌, ap, sym, subst, ◌∙◌, append_assoc, add-one, arith}
use Rattle.trace_view.specs.Text.{below, between, line}
use Rattle.trace_view.specs.Diagram.{worded, escaped}
use Rattle.trace_view.specs.Names.{shown}

below_more : (k : ℕ) (g : ℕ → List ℕ) → below (k + 1) g ≡ below k g ++ g k
below_more k g = ap (λ n. below n g) (add-one k)

-- the next piece
pub piece_behind : (old text new : List ℕ) (k : ℕ) (g : ℕ → List ℕ) → text ≡ old ++ below k g → new ≡ text ++ g k → new ≡ old ++ below (k + 1) g
piece_behind old text new k g before is =
    is ∙ ap (λ t. t ++ g k) before ∙ append_assoc old (below k g) (g k) ∙ ap (λ t. old ++ t) (sym (below_more k g))

-- the next piece, where they begin with the one of another number
pub piece_from : (old text new : List ℕ) (from i : ℕ) (g : ℕ → List ℕ) → from ≤ i → text ≡ old ++ between from i g → new ≡ text ++ g i
    → new ≡ old ++ between from (i + 1) g
piece_from old text new from i g le before is =
    let here : from + (i - from) ≡ i = omega arith in
    let count : (i - from) + 1 ≡ i + 1 - from = omega arith in
    subst (λ n. new ≡ old ++ below n (λ k. g (from + k))) count
    (piece_behind old text new (i - from) (λ k. g (from + k)) before (subst (λ n. new ≡ text ++ g n) (sym here) is))

-- no piece yet
pub none_from : (from : ℕ) (g : ℕ → List ℕ) → between from from g ≡ []
none_from from g = let none : from - from ≡ 0 = omega arith in ap (λ n. below n (λ k. g (from + k))) none

-- a line's label stands before its pieces
same : (label : List ℕ) (at : ℕ → List ℕ) (from to : ℕ) → label ++ (between from to at ++ 10 ∷ []) ≡ line label at from to
same label at from to = sym (append_assoc label (between from to at) (10 ∷ []))

-- a line: its label, its pieces up to the last, and a newline
pub line_closed : (old first last new label : List ℕ) (at : ℕ → List ℕ) (from to i : ℕ)
    → to ≤ i → i ≤ to → first ≡ old ++ label → last ≡ first ++ between from i at → new ≡ last ++ 10 ∷ []
    → new ≡ old ++ line label at from to
line_closed old first last new label at from to i le ge begins goes ends =
    let end : i ≡ to = omega arith in
    let pieces : last ≡ (old ++ label) ++ between from to at =
    subst (λ n. last ≡ (old ++ label) ++ between from n at) end (goes ∙ ap (λ t. t ++ between from i at) begins) in
    ends ∙ (ap (λ t. t ++ 10 ∷ []) pieces ∙ (append_assoc (old ++ label) (between from to at) (10 ∷ [])
    ∙ (append_assoc old label (between from to at ++ 10 ∷ []) ∙ ap (λ t. old ++ t) (same label at from to))))

-- ---- piece by piece

-- a text that grew by a piece
pub record Grew (old new piece : List ℕ) : Type 0 where
  pub is : new ≡ old ++ piece

-- by the first piece, and by one more
pub begun : {first : List ℕ} (old piece : List ℕ) → first ≡ old ++ piece → Grew old first piece
begun old piece e = record { is = e }

pub next : {old first last before : List ℕ} (piece : List ℕ) → Grew old first before → last ≡ first ++ piece → Grew old last (before ++ piece)
next {old} {first} {last} {before} piece g f = record { is = f ∙ (ap (λ t. t ++ piece) g.is ∙ append_assoc old before piece) }

-- some words and a number, which has another name
pub begun_number : {first : List ℕ} {n m : ℕ} (old words : List ℕ) → n ≡ m → first ≡ old ++ worded words n → Grew old first (worded words m)
begun_number {first} old words e f = record { is = subst (λ k. first ≡ old ++ worded words k) e f }

pub next_number : {old first last before : List ℕ} {n m : ℕ} (words : List ℕ) → Grew old first before → n ≡ m → last ≡ first ++ worded words n
    → Grew old last (before ++ worded words m)
next_number {first = first} {last = last} words g e f = next (worded words _) g (subst (λ k. last ≡ first ++ worded words k) e f)

-- the pieces of a loop up to the last
pub next_below : {old first last before : List ℕ} (g : ℕ → List ℕ) (i n : ℕ) → Grew old first before → n ≤ i → i ≤ n → last ≡ first ++ below i g
    → Grew old last (before ++ below n g)
next_below {first = first} {last = last} g i n grew le ge f = let end : i ≡ n = omega arith in
    next (below n g) grew (subst (λ k. last ≡ first ++ below k g) end f)

-- a name that is shown, escaped
pub next_name : {old first last before : List ℕ} (text name : List ℕ) → Grew old first before → text ≡ shown name → last ≡ first ++ escaped text
    → Grew old last (before ++ escaped (shown name))
next_name {first = first} {last = last} text name g e f = next (escaped (shown name)) g (subst (λ t. last ≡ first ++ escaped t) e f)

-- a text that was empty is the piece
pub from_nothing : {old new piece : List ℕ} → old ≡ [] → Grew old new piece → new ≡ piece
from_nothing {old} {new} {piece} none g = g.is ∙ ap (λ t. t ++ piece) none
