-- Characters and words at the front of a text.
use Rattle.std.proofs.Common.{◌≡◌, ℕ, zero, suc, ◌+◌, ◌-◌, ◌<◌, ◌≤◌, Bool, true, false, ◌&&◌, List, [], ◌∷◌, ◌++◌, length, take, drop, arith, refl, sym, ap}
use Rattle.std.proofs.Common.{ap₂, ◌∙◌, subst, append_assoc, length-append}
use Rattle.std.specs.Prelude.{Some, encode_utf8, encode_utf8_all}
use Rattle.std.specs.Str.{all_scalars}
use Rattle.std.specs.List.{list_all}
use Rattle.std.specs.Char.{IsScalar}
use Rattle.std.proofs.lemmas.Bool.{and_parts}
use Rattle.std.proofs.lemmas.List.{append-nil, take_at, take_all, length-drop}
use Rattle.std.proofs.lemmas.List.Folds.{list_all-append}
use Rattle.std.proofs.Math.Seq.{take-add}
use Rattle.std.proofs.lemmas.Str.{encode_same, encodes-append, length-encode, len_utf8_bounds}
use Rattle.unicode_ident.specs.Ident.{is_xid_continue}
use Rattle.bstr.specs.Utf8.{Decoded, decoded}
use Rattle.bstr.proofs.lemmas.EncodeLemmas.{decoded-encode}
use Rattle.bstr.proofs.lemmas.SoundLemmas.{SpellsChar-decoded}
use Rattle.ltl_lexer.specs.Tokens.{IsWord}
use Rattle.ltl_lexer.specs.Scanning.{passes, FrontChar, EndsWord}

wide : (c : ℕ) → 0 < length (encode_utf8 c)
wide c = let e = length-encode c in let b = len_utf8_bounds c in omega arith

pub front_some : (first : Bool) (text : List ℕ) (ch size : ℕ) → Some ch ≡ (decoded text).char → size ≡ (decoded text).size
    → passes first ch ≡ true → FrontChar first text size
front_some first text ch size e n p =
    let s = SpellsChar-decoded text ch (sym e) in
    let w = wide ch in record {
      char = λ pos. (ch, s.scalar, p, s.bytes ∙ ap (λ z. encode_utf8 ch ++ drop z text) (sym n), s.width ∙ sym n);
      none = λ z. let k = s.width in absurd (omega arith);
    }

pub front_none : (first : Bool) (text : List ℕ) → ((c : ℕ) → (decoded text).char ≡ Some c → passes first c ≡ false) → FrontChar first text 0
front_none first text h = record {
  char = λ pos. absurd (omega arith);
  none = λ z c rest s e. h c (ap (λ (x : Decoded). x.char) (ap decoded e ∙ decoded-encode c rest s));
}

char_taken : (text : List ℕ) (c size : ℕ) → text ≡ encode_utf8 c ++ drop size text → length (encode_utf8 c) ≡ size → take size text ≡ encode_utf8 c
char_taken text c size e n = ap (take size) e ∙ take_at (encode_utf8 c) (drop size text) size n

char_within : (text : List ℕ) (c size : ℕ) → text ≡ encode_utf8 c ++ drop size text → length (encode_utf8 c) ≡ size → size ≤ length text
char_within text c size e n = let l = ap length e ∙ length-append (encode_utf8 c) (drop size text) in omega arith

pub front_within : (first : Bool) (text : List ℕ) (size : ℕ) → FrontChar first text size → size ≤ length text
front_within first text zero g = omega arith
front_within first text (suc n) g = let w = g.char (omega arith) in char_within text w.0 (suc n) w.3 w.4

pub word_begins : (text : List ℕ) (size : ℕ) → FrontChar true text size → 0 < size → IsWord (take size text)
word_begins text size g pos =
    let w = g.char pos in record {
      first = w.0;
      others = [];
      starts = w.2;
      continues = refl;
      characters = ap (λ z. z && true) w.1;
      spelled = append-nil (encode_utf8 w.0) ∙ sym (char_taken text w.0 size w.3 w.4);
    }

scalars-append : (cs ds : List ℕ) → all_scalars cs ≡ true → all_scalars ds ≡ true → all_scalars (cs ++ ds) ≡ true
scalars-append [] ds p q = q
scalars-append (c ∷ cs) ds p q = let w = and_parts _ (all_scalars cs) p in ap₂ (λ x y. x && y) w.0 (scalars-append cs ds w.1 q)

word_more : (word : List ℕ) (c : ℕ) → IsWord word → is_xid_continue c ≡ true → IsScalar c → IsWord (word ++ encode_utf8 c)
word_more word c w p s = record {
  first = w.first;
  others = w.others ++ c ∷ [];
  starts = w.starts;
  continues = list_all-append is_xid_continue w.others (c ∷ []) ∙ ap₂ (λ x y. x && y) w.continues (ap (λ z. z && true) p);
  characters = scalars-append (w.first ∷ w.others) (c ∷ []) w.characters (ap (λ z. z && true) s);
  spelled = encodes-append (w.first ∷ w.others) (c ∷ []) ∙ ap₂ (λ x y. x ++ y) w.spelled (append-nil (encode_utf8 c));
}

take_more_of : (text : List ℕ) (m n : ℕ) → m ≤ length text → take (m + n) text ≡ take m text ++ take n (drop m text)
take_more_of text m n le = take-add m n text

pub word_longer : (text : List ℕ) (len size : ℕ) → len ≤ length text → IsWord (take len text) → FrontChar false (drop len text) size
    → 0 < size → IsWord (take (len + size) text)
word_longer text len size le w g pos =
    let k = g.char pos in
    subst IsWord (ap (λ z. take len text ++ z) (sym (char_taken (drop len text) k.0 size k.3 k.4)) ∙ sym (take_more_of text len size le))
    (word_more (take len text) k.0 w k.2 k.1)

-- where some characters begin others, these are the first of them
front_chars : (cs ds more : List ℕ) → encode_utf8_all cs ++ more ≡ encode_utf8_all ds → (es : List ℕ) × (ds ≡ cs ++ es) × (more ≡ encode_utf8_all es)
front_chars [] ds more e = (ds, refl, e)
front_chars (c ∷ cs) [] more e =
    let w = wide c in
    let l = ap length e in
    let m = length-append (encode_utf8 c ++ encode_utf8_all cs) more in
    let n = length-append (encode_utf8 c) (encode_utf8_all cs) in
    absurd (omega arith)
front_chars (c ∷ cs) (d ∷ ds) more e =
    let s = encode_same c d (encode_utf8_all cs ++ more) (encode_utf8_all ds) (sym (append_assoc (encode_utf8 c) (encode_utf8_all cs) more) ∙ e) in
    let r = front_chars cs ds more s.1 in
    (r.0, ap₂ (λ x y. x ∷ y) (sym s.0) r.1, r.2)

pub word_ends : (word rest : List ℕ) → IsWord word → FrontChar false rest 0 → EndsWord word rest
word_ends word rest w g more after e pos v =
    let f = front_chars (w.first ∷ w.others) (v.first ∷ v.others) more (ap (λ z. z ++ more) w.spelled ∙ sym v.spelled) in
    go f.0 f.1 f.2
  where
    go : (es : List ℕ) → v.first ∷ v.others ≡ (w.first ∷ w.others) ++ es → more ≡ encode_utf8_all es → ⊥
    go [] a b = let l = ap length b in absurd (omega arith)
    go (d ∷ es) a b =
        let o : v.others ≡ w.others ++ d ∷ es = cc in
        let p = and_parts (list_all is_xid_continue w.others) (list_all is_xid_continue (d ∷ es))
        (sym (list_all-append is_xid_continue w.others (d ∷ es)) ∙ ap (list_all is_xid_continue) (sym o) ∙ v.continues) in
        let q : is_xid_continue d ≡ true = (and_parts (is_xid_continue d) (list_all is_xid_continue es) p.1).0 in
        let s : IsScalar d = scalar_in (w.first ∷ w.others) d es (ap all_scalars (sym a) ∙ v.characters) in
        let n = g.none refl d (encode_utf8_all es ++ after) s (e ∙ ap (λ z. z ++ after) b ∙ append_assoc (encode_utf8 d) (encode_utf8_all es) after) in
        cc
      where
        scalar_in : (cs : List ℕ) (d : ℕ) (es : List ℕ) → all_scalars (cs ++ d ∷ es) ≡ true → IsScalar d
        scalar_in [] d es h = (and_parts _ (all_scalars es) h).0
        scalar_in (c ∷ cs) d es h = scalar_in cs d es (and_parts _ (all_scalars (cs ++ d ∷ es)) h).1

pub none_ends : (text : List ℕ) → FrontChar true text 0 → EndsWord [] text
none_ends text g more after e pos v =
    let s = (and_parts _ (all_scalars v.others) v.characters).0 in
    let n = g.none refl v.first (encode_utf8_all v.others ++ after) s
    (e ∙ ap (λ z. z ++ after) (sym v.spelled) ∙ append_assoc (encode_utf8 v.first) (encode_utf8_all v.others) after) in
    let p = v.starts in
    cc

pub no_word : IsWord [] → ⊥
no_word w = let e = ap length w.spelled in let l = length-append (encode_utf8 w.first) (encode_utf8_all w.others) in let p = wide w.first in
    absurd (omega arith)

pub rest_taken : (first : Bool) (text : List ℕ) (k size : ℕ) → FrontChar first (take (length text - k) (drop k text)) size → FrontChar first (drop k text) size
rest_taken first text k size g = subst (λ z. FrontChar first z size) (take_all (length text - k) (drop k text) (let l = length-drop k text in omega arith)) g
