-- What the cursor finds.
use Rattle.std.proofs.Common.{◌≡◌, ℕ, ◌+◌, ◌-◌, ◌<◌, ◌≤◌, false, List, ◌∷◌, ◌++◌, length, take, drop, get_or, arith, sym, ap, ◌∙◌, subst, length-append}
use Rattle.std.specs.Prelude.{Option}
use Rattle.std.proofs.lemmas.List.{take-append-drop, length-take-le, take_all, length-drop, drop_more}
use Rattle.std.proofs.Math.Seq.{drop-drop}
use Rattle.ltl_lexer.specs.declared.token.Token.{Token}
use Rattle.ltl_lexer.specs.Tokens.{is_white, AreWhite, BeginsNone, BeginsNoWhite, IsNext, IsLexFault, AreTokens}
use Rattle.ltl_lexer.proofs.Words.{spelling_not_empty}

pub fault_found : (place : ℕ) (rest : List ℕ) (n : ℕ) → n < length rest → AreWhite (take n rest) → is_white (get_or rest n 0) ≡ false → BeginsNone (drop n rest)
    → IsLexFault place rest (place + n)
fault_found place rest n lt w b none = record {
  white = take n rest;
  rest = drop n rest;
  whole = sym (take-append-drop n rest);
  blank = w;
  faulty = subst BeginsNoWhite (sym (drop_more rest n 0 lt)) b;
  none = none;
  at = let l = length-take-le n rest (omega arith) in omega arith;
}

rest_is : (text : List ℕ) (place : ℕ) → take (length text - place) (drop place text) ≡ drop place text
rest_is text place = take_all (length text - place) (drop place text) (let l = length-drop place text in omega arith)

pub fault_at_place : (text : List ℕ) (place n : ℕ) → n ≤ length (take (length text - place) (drop place text))
    → AreWhite (take n (take (length text - place) (drop place text)))
    → (n < length (take (length text - place) (drop place text)) → is_white (get_or (take (length text - place) (drop place text)) n 0) ≡ false)
    → (place + n ≡ length text → ⊥) → place ≤ length text
    → BeginsNone (take (length text - (place + n)) (drop (place + n) text)) → IsLexFault place (drop place text) (place + n)
fault_at_place text place n within w b ne le none =
    let r = rest_is text place in
    let l = length-drop place text in
    let m = ap length r in
    let d : drop (place + n) text ≡ drop n (drop place text) = sym (drop-drop n place text) in
    fault_found place (drop place text) n (omega arith) (subst (λ z. AreWhite (take n z)) r w)
    (subst (λ z. is_white (get_or z n 0) ≡ false) r (b (omega arith))) (subst BeginsNone (rest_is text (place + n) ∙ d) none)

pub next_shorter : (place : ℕ) (text : List ℕ) (t : Token) (rest : List ℕ) → IsNext place text t rest → length rest < length text
next_shorter place text t rest g =
    let p = spelling_not_empty g.bytes t.kind g.longest.spells in
    let e = ap length g.whole ∙ length-append g.white (g.bytes ++ rest) in
    let m = length-append g.bytes rest in
    omega arith

pub one_more : (place next : ℕ) (text rest : List ℕ) (t : Token) → IsNext place text t rest → next ≡ t.end → (ts : List Token) (f : Option ℕ)
    → AreTokens next rest ts f → AreTokens place text (t ∷ ts) f
one_more place next text rest t g e ts f a = (rest, g, subst (λ z. AreTokens z rest ts f) e a)
