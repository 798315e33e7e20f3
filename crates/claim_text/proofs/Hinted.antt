-- Lines beside their hints.
use Rattle.std.proofs.Common.{◌≡◌, ℕ, zero, suc, ◌+◌, ◌-◌, ◌<◌, ◌≤◌, List, [], ◌∷◌, ◌++◌, length, take, get_or, refl, sym, ap, ap₂, ◌∙◌, arith, append_assoc}
use Rattle.std.proofs.Common.{add-one}
use Rattle.std.specs.List.{flat_map}
use Rattle.std.proofs.lemmas.Grind.{flat_map-append}
use Rattle.std.proofs.lemmas.List.{append-nil, length_push, take_all}
use Rattle.cnf_base.specs.declared.literal.Literal.{Literal}
use Rattle.cnf_base.specs.declared.literal.Hint.{Hint}
use Rattle.claims.specs.Certificate.{HintedLine}
use Rattle.claim_check.specs.Data.{hinted}
use Rattle.claim_text.specs.Text.{line_text}

pub hinted_length : (cs : List (List Literal)) (hs : List (List Hint)) → length (hinted cs hs) ≡ length cs
hinted_length [] hs = refl
hinted_length (c ∷ cs) [] = ap suc (hinted_length cs [])
hinted_length (c ∷ cs) (h ∷ hs) = ap suc (hinted_length cs hs)

pub hinted_push : (cs : List (List Literal)) (hs : List (List Hint)) (c : List Literal) (h : List Hint) → length hs ≡ length cs
    → hinted (cs ++ c ∷ []) (hs ++ h ∷ []) ≡ hinted cs hs ++ record { literals = c; hints = h } ∷ []
hinted_push [] [] c h same = refl
hinted_push [] (x ∷ hs) c h same = absurd (omega (arith, same))
hinted_push (x ∷ cs) [] c h same = absurd (omega (arith, same))
hinted_push (x ∷ cs) (y ∷ hs) c h same = ap (λ ls. record { literals = x; hints = y } ∷ ls) (hinted_push cs hs c h (omega (arith, same)))

pub line_pushed : (cs ds : List (List Literal)) (hs is : List (List Hint)) (c : List Literal) (h : List Hint)
    → ds ≡ cs ++ c ∷ [] → is ≡ hs ++ h ∷ [] → length hs ≡ length cs
    → (length is ≡ length ds) × (hinted ds is ≡ hinted cs hs ++ record { literals = c; hints = h } ∷ [])
line_pushed cs ds hs is c h e f same =
    (ap length f ∙ omega (arith, same, length_push hs h, length_push cs c) ∙ sym (ap length e), ap₂ hinted e f ∙ hinted_push cs hs c h same)

-- the first lines, and one more
hinted_take : (cs : List (List Literal)) (hs : List (List Hint)) (k : ℕ) → k < length cs
    → take (suc k) (hinted cs hs) ≡ take k (hinted cs hs) ++ record { literals = get_or cs k []; hints = get_or hs k [] } ∷ []
hinted_take [] hs k low = absurd (omega (arith, low))
hinted_take (c ∷ cs) [] zero low = refl
hinted_take (c ∷ cs) [] (suc k) low = ap (λ ls. record { literals = c; hints = [] } ∷ ls) (hinted_take cs [] k (omega (arith, low)))
hinted_take (c ∷ cs) (h ∷ hs) zero low = refl
hinted_take (c ∷ cs) (h ∷ hs) (suc k) low = ap (λ ls. record { literals = c; hints = h } ∷ ls) (hinted_take cs hs k (omega (arith, low)))

pub lines_written : (old now next : List ℕ) (cs : List (List Literal)) (hs : List (List Hint)) (k : ℕ) (c : List Literal) (h : List Hint) → k < length cs
    → now ≡ old ++ flat_map line_text (take k (hinted cs hs)) → c ≡ get_or cs (k + 1 - 1) [] → h ≡ get_or hs k []
    → next ≡ now ++ line_text (record { literals = c; hints = h })
    → next ≡ old ++ flat_map line_text (take (k + 1) (hinted cs hs))
lines_written old now next cs hs k c h low before literals hints written =
    let line : HintedLine = record { literals = get_or cs k []; hints = get_or hs k [] } in
    let index : k + 1 - 1 ≡ k = omega arith in
    written
    ∙ ap₂ (λ x (l : HintedLine). x ++ line_text l) before
    (ap₂ (λ x y. let l : HintedLine = record { literals = x; hints = y } in l) (literals ∙ ap (λ i. get_or cs i []) index) hints)
    ∙ append_assoc old (flat_map line_text (take k (hinted cs hs))) (line_text line)
    ∙ ap (λ x. old ++ x)
    (ap (λ x. flat_map line_text (take k (hinted cs hs)) ++ x) (sym (append-nil (line_text line)))
    ∙ sym (flat_map-append line_text (take k (hinted cs hs)) (line ∷ []))
    ∙ ap (flat_map line_text) (sym (hinted_take cs hs k low) ∙ ap (λ n. take n (hinted cs hs)) (sym (add-one k))))

pub all_written : (old now : List ℕ) (cs : List (List Literal)) (hs : List (List Hint)) (k : ℕ) → length cs ≤ k
    → now ≡ old ++ flat_map line_text (take k (hinted cs hs)) → now ≡ old ++ flat_map line_text (hinted cs hs)
all_written old now cs hs k high before =
    before ∙ ap (λ ls. old ++ flat_map line_text ls) (take_all k (hinted cs hs) (omega (arith, high, hinted_length cs hs)))
