-- The text of what is joined from left to right.
use Rattle.std.proofs.Common.{◌≡◌, ℕ, zero, suc, refl, sym, ap, ◌∙◌, List, [], ◌∷◌, ◌++◌, length, append_assoc, replicate}
use Rattle.std.specs.List.{flat_map}
use Rattle.std.proofs.lemmas.List.{append-nil}
use Rattle.std.proofs.lemmas.List.Concat.{flat_map-cons}
use Rattle.ltl_syntax.specs.Formula.{Binary}
use Rattle.ltl_syntax.specs.declared.node.BinaryOp.TheVariants.{And}
use Rattle.ltl_syntax.specs.Print.{text_of}
use Rattle.claim_reading.specs.Laws.{closed, LinesAreTexts}

pushed : (n x : ℕ) (xs : List ℕ) → replicate n x ++ x ∷ xs ≡ x ∷ (replicate n x ++ xs)
pushed zero x xs = refl
pushed (suc n) x xs = ap (λ ys. x ∷ ys) (pushed n x xs)

pub lines_are_texts : LinesAreTexts
lines_are_texts g [] = sym (append-nil (text_of g))
lines_are_texts g (h ∷ more) =
    let front = replicate (length more) 40 in
    let rest = flat_map closed more in
    let both : text_of (Binary And g h) ++ rest ≡ 40 ∷ (text_of g ++ (closed h ++ rest)) = simp append_assoc in
    lines_are_texts (Binary And g h) more ∙ (ap (λ xs. front ++ xs) both ∙ (pushed (length more) 40 (text_of g ++ (closed h ++ rest))
    ∙ ap (λ xs. 40 ∷ (front ++ (text_of g ++ xs))) (sym (flat_map-cons closed h more))))
