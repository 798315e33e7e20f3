-- Where the tokens of a text stand: each is a part of the text, and there are no more of them than bytes.
use Rattle.std.proofs.Common.{◌≡◌, ℕ, zero, suc, ◌+◌, ◌-◌, ◌<◌, ◌≤◌, List, [], ◌∷◌, ◌++◌, length, take, drop, get_or, arith, refl, sym, ap, ap₂, ◌∙◌, subst}
use Rattle.std.proofs.Common.{append_assoc, length-append}
use Rattle.std.specs.Prelude.{Option, slice_range}
use Rattle.std.specs.List.{All}
use Rattle.std.proofs.lemmas.List.{take_at, drop_at}
use Rattle.ltl_lexer.specs.declared.token.Token.{Token}
use Rattle.ltl_lexer.specs.Tokens.{Spells, IsPartOf, AreTokens}
use Rattle.ltl_lexer.proofs.Words.{spelling_not_empty}

-- the part of a text between what stands before it and what stands behind it
pub between : (before bytes rest : List ℕ) → slice_range (before ++ (bytes ++ rest)) (length before) (length before + length bytes) ≡ bytes
between before bytes rest =
    let n : length before + length bytes - length before ≡ length bytes = omega arith in
    ap (λ z. take z (drop (length before) (before ++ (bytes ++ rest)))) n ∙ ap (take (length bytes)) (drop_at before (bytes ++ rest) (length before) refl)
    ∙ take_at bytes rest (length bytes) refl

parts_from : (ts : List Token) (before text : List ℕ) (f : Option ℕ) → AreTokens (length before) text ts f → (i : ℕ) (d : Token) → i < length ts
    → IsPartOf (before ++ text) (get_or ts i d)
parts_from [] before text f a i d lt = absurd (omega arith)
parts_from (t ∷ ts) before text f a zero d lt =
    let n = a.1 in
    let e : before ++ text ≡ (before ++ n.white) ++ (n.bytes ++ a.0) = ap (λ z. before ++ z) n.whole ∙ sym (append_assoc before n.white (n.bytes ++ a.0)) in
    let s : t.start ≡ length (before ++ n.white) = n.start ∙ sym (length-append before n.white) in
    let k : t.end ≡ length (before ++ n.white) + length n.bytes = n.end ∙ ap (λ z. z + length n.bytes) s in
    let l = ap length e ∙ length-append (before ++ n.white) (n.bytes ++ a.0) in
    let m = length-append n.bytes a.0 in
    let p = spelling_not_empty n.bytes t.kind n.longest.spells in
    let b : slice_range (before ++ text) t.start t.end ≡ n.bytes =
    ap (λ z. slice_range z t.start t.end) e ∙ ap₂ (slice_range ((before ++ n.white) ++ (n.bytes ++ a.0))) s k ∙ between (before ++ n.white) n.bytes a.0 in
    record {
      order = omega arith;
      within = omega arith;
      spells = subst (λ z. Spells z t.kind) (sym b) n.longest.spells;
    }
parts_from (t ∷ ts) before text f a (suc i) d lt =
    let n = a.1 in
    let e : before ++ text ≡ ((before ++ n.white) ++ n.bytes) ++ a.0 =
    ap (λ z. before ++ z) n.whole ∙ sym (append_assoc before n.white (n.bytes ++ a.0)) ∙ sym (append_assoc (before ++ n.white) n.bytes a.0) in
    let k : t.end ≡ length ((before ++ n.white) ++ n.bytes) = n.end ∙ ap (λ z. z + length n.bytes) n.start
    ∙ ap (λ z. z + length n.bytes) (sym (length-append before n.white)) ∙ sym (length-append (before ++ n.white) n.bytes) in
    subst (λ z. IsPartOf z (get_or ts i d)) (sym e)
    (parts_from ts ((before ++ n.white) ++ n.bytes) a.0 f (subst (λ z. AreTokens z a.0 ts f) k a.2) i d (omega arith))

pub parts_of_text : (text : List ℕ) (ts : List Token) (f : Option ℕ) → AreTokens 0 text ts f → All (IsPartOf text) ts
parts_of_text text ts f a i d lt = parts_from ts [] text f a i d lt

pub no_more_tokens : (place : ℕ) (text : List ℕ) (ts : List Token) (f : Option ℕ) → AreTokens place text ts f → length ts ≤ length text
no_more_tokens place text [] f a = omega arith
no_more_tokens place text (t ∷ ts) f a =
    let n = a.1 in
    let r = no_more_tokens t.end a.0 ts f a.2 in
    let p = spelling_not_empty n.bytes t.kind n.longest.spells in
    let e = ap length n.whole ∙ length-append n.white (n.bytes ++ a.0) in
    let m = length-append n.bytes a.0 in
    omega arith
