-- The 0 behind literals is the first that stands behind a space, or at the front.
use Rattle.std.proofs.Common.{◌≡◌, ℕ, suc, ◌+◌, ◌-◌, ◌<◌, ◌≤◌, inl, inr, List, [], ◌∷◌, ◌++◌, length, get_or, All, refl, sym, ap, ◌∙◌, arith, length-append}
use Rattle.std.specs.List.{flat_map}
use Rattle.std.proofs.Math.Seq.{get_or-append_seam}
use Rattle.std.proofs.lemmas.Bool.{cases_lt, cases_order}
use Rattle.std.proofs.lemmas.List.{get_or_append_left, get_or-append-add}
use Rattle.std.proofs.lemmas.List.Elements.{All-head, All-tail}
use Rattle.cnf_base.specs.declared.literal.Literal.{Literal}
use Rattle.cert_text.specs.Text.{IsLiteral, literal_text}
use Rattle.cert_text.specs.Skipped.{HasNoNought}
use Rattle.cert_text.proofs.Sought.{word_of, word_high, word_first, word_spelled}

pub none_more : (bytes : List ℕ) (from mid to : ℕ) → HasNoNought bytes from mid → HasNoNought bytes mid to → HasNoNought bytes from to
none_more bytes from mid to one two k low high = elim (cases_lt k mid) [ inl early ↦ one k low early | inr late ↦ two k late high ]

-- the text of literals, and what stands behind it
abbrev text : List Literal → List ℕ → List ℕ
text ls more = flat_map literal_text ls ++ 48 ∷ more

size_more : (l : Literal) (ls : List Literal) → length (flat_map literal_text (l ∷ ls)) ≡ length (word_of l) + 1 + length (flat_map literal_text ls)
size_more l ls =
    let whole = ap length (word_spelled l ls []) in
    let a = length-append (flat_map literal_text (l ∷ ls)) (48 ∷ []) in
    let b = length-append (word_of l) (32 ∷ text ls []) in
    let c = length-append (flat_map literal_text ls) (48 ∷ []) in
    omega (arith, whole, a, b, c)

-- behind the first literal the text of the others goes on
text_behind : (l : Literal) (ls : List Literal) (more : List ℕ) (j : ℕ) → get_or (text (l ∷ ls) more) (length (word_of l) + 1 + j) 0 ≡ get_or (text ls more) j 0
text_behind l ls more j =
    let e : length (word_of l) + 1 + j ≡ length (word_of l) + suc j = omega arith in
    ap (λ xs. get_or xs (length (word_of l) + 1 + j) 0) (word_spelled l ls more) ∙ ap (λ i. get_or (word_of l ++ 32 ∷ text ls more) i 0) e
    ∙ get_or-append-add (word_of l) (32 ∷ text ls more) (suc j) 0

-- literals end with a space
ends_with_space : (l : Literal) (ls : List Literal) (more : List ℕ) → get_or (text (l ∷ ls) more) (length (flat_map literal_text (l ∷ ls)) - 1) 0 ≡ 32
ends_with_space l [] more =
    let e : length (flat_map literal_text (l ∷ [])) - 1 ≡ length (word_of l) = omega (arith, size_more l []) in
    ap (λ i. get_or (text (l ∷ []) more) i 0) e ∙ ap (λ xs. get_or xs (length (word_of l)) 0) (word_spelled l [] more)
    ∙ get_or-append_seam (word_of l) 32 (text [] more) 0
ends_with_space l (m ∷ ls) more =
    let some : 1 ≤ length (flat_map literal_text (m ∷ ls)) = omega (arith, size_more m ls) in
    let e : length (flat_map literal_text (l ∷ m ∷ ls)) - 1 ≡ length (word_of l) + 1 + (length (flat_map literal_text (m ∷ ls)) - 1) =
    omega (arith, size_more l (m ∷ ls), some) in
    ap (λ i. get_or (text (l ∷ m ∷ ls) more) i 0) e ∙ text_behind l (m ∷ ls) more (length (flat_map literal_text (m ∷ ls)) - 1) ∙ ends_with_space m ls more

-- no literal begins with a 0
first_of_others : (ls : List Literal) (more : List ℕ) → All IsLiteral ls → 1 ≤ length (flat_map literal_text ls) → get_or (text ls more) 0 0 ≡ 48 → ⊥
first_of_others [] more all some e = absurd (omega (arith, some))
first_of_others (m ∷ ls) more all some e =
    word_first m (32 ∷ text ls more) (All-head IsLiteral m ls all) (ap (λ xs. get_or xs 0 0) (sym (word_spelled m ls more)) ∙ e)

no_nought_inside : (ls : List Literal) (more : List ℕ) → All IsLiteral ls → (k : ℕ) → 1 ≤ k → k < length (flat_map literal_text ls)
    → get_or (text ls more) k 0 ≡ 48 → get_or (text ls more) (k - 1) 0 ≡ 32 → ⊥
no_nought_inside [] more all k some low nought space = absurd (omega (arith, low))
no_nought_inside (l ∷ ls) more all k some low nought space =
    elim (cases_order (k - 1) (length (word_of l))) [
      | inl at ↦ first_of_others ls more (All-tail IsLiteral l ls all) (omega (arith, size_more l ls, low, some, at))
          (sym (text_behind l ls more 0) ∙ ap (λ i. get_or (text (l ∷ ls) more) i 0) (omega (arith, at, some)) ∙ nought)
      | inr (inl before) ↦
          let high = word_high l (All-head IsLiteral l ls all) (k - 1) 0 before in
          let there : get_or (text (l ∷ ls) more) (k - 1) 0 ≡ get_or (word_of l) (k - 1) 0 =
          ap (λ xs. get_or xs (k - 1) 0) (word_spelled l ls more) ∙ get_or_append_left (word_of l) (32 ∷ text ls more) 0 (k - 1) before in
          omega (arith, high, there, space)
      | inr (inr behind) ↦
          let j : ℕ = k - (length (word_of l) + 1) in
          let here : length (word_of l) + 1 + j ≡ k = omega (arith, behind, some) in
          let last : length (word_of l) + 1 + (j - 1) ≡ k - 1 = omega (arith, behind, some) in
          no_nought_inside ls more (All-tail IsLiteral l ls all) j (omega (arith, behind, some)) (omega (arith, size_more l ls, low, behind))
          (sym (text_behind l ls more j) ∙ ap (λ i. get_or (text (l ∷ ls) more) i 0) here ∙ nought)
          (sym (text_behind l ls more (j - 1)) ∙ ap (λ i. get_or (text (l ∷ ls) more) i 0) last ∙ space)
    ]

-- the first 0 behind a space
pub nought_is : (line : List ℕ) (ls : List Literal) (more : List ℕ) (end : ℕ) → All IsLiteral ls
    → line ≡ flat_map literal_text ls ++ 48 ∷ more → (get_or line 0 0 ≡ 48 → ⊥) → 1 ≤ end → HasNoNought line 1 end
    → (end < length line → (get_or line end 0 ≡ 48) × (get_or line (end - 1) 0 ≡ 32)) → end ≡ length (flat_map literal_text ls)
nought_is line [] more end all is other some none stops = absurd (other (ap (λ xs. get_or xs 0 0) is))
nought_is line (l ∷ ls) more end all is other some none stops =
    let size : ℕ = length (flat_map literal_text (l ∷ ls)) in
    let long : length line ≡ size + length (48 ∷ more) = ap length is ∙ length-append (flat_map literal_text (l ∷ ls)) (48 ∷ more) in
    let read : (k : ℕ) → get_or line k 0 ≡ get_or (text (l ∷ ls) more) k 0 = λ k. ap (λ xs. get_or xs k 0) is in
    elim (cases_order end size) [
      | inl same ↦ same
      | inr (inl early) ↦
          let at = stops (omega (arith, early, long)) in
          absurd (no_nought_inside (l ∷ ls) more all end some early (sym (read end) ∙ at.0) (sym (read (end - 1)) ∙ at.1))
      | inr (inr late) ↦
          absurd (none size (omega (
            arith,
            size_more l ls,
          )) late (read size ∙ get_or-append_seam (flat_map literal_text (l ∷ ls)) 48 more 0) (read (size - 1) ∙ ends_with_space l ls more))
    ]

-- a line that begins with a 0 has no literals
pub nought_first : (line : List ℕ) (ls : List Literal) (more : List ℕ) → All IsLiteral ls
    → line ≡ flat_map literal_text ls ++ 48 ∷ more → get_or line 0 0 ≡ 48 → 0 ≡ length (flat_map literal_text ls)
nought_first line [] more all is first = refl
nought_first line (l ∷ ls) more all is first =
    absurd (first_of_others (l ∷ ls) more all (omega (arith, size_more l ls)) (ap (λ xs. get_or xs 0 0) (sym is) ∙ first))
