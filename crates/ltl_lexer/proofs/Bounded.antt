-- The bounded operator at the front of a text.
use Rattle.std.proofs.Common.{◌≡◌, ℕ, ◌+◌, ◌≤◌, Bool, true, false, ◌&&◌, ◌==◌, List, [], ◌∷◌, ◌++◌, length, drop, arith, refl, sym, ap, ◌∙◌, subst}
use Rattle.std.proofs.Common.{append_assoc, length-append}
use Rattle.std.specs.Prelude.{Option, Some, None, if◌then◌else◌, nat_le}
use Rattle.std.specs.Fmt.{decimal}
use Rattle.std.proofs.lemmas.Bool.{and_parts}
use Rattle.std.proofs.lemmas.Bool.Decides.{nat_tests}
use Rattle.std.proofs.lemmas.List.{drop_at}
use borrow.Author.Tests.{eqb-true}
use Rattle.ltl_lexer.specs.declared.token.UnaryWord.{UnaryWord}
use Rattle.ltl_lexer.specs.declared.token.UnaryWord.TheVariants as unary
use Rattle.ltl_lexer.specs.Tokens.{IsBounded}
use Rattle.ltl_lexer.specs.Scanning.{begins, front_number, closed_times, front_times, closed_range, second_number, front_range, with_times, with_range}
use Rattle.ltl_lexer.specs.Scanning.{front_bounded}
use Rattle.ltl_lexer.proofs.Numbers.{number_found, number_read}

pub pick : (Q A : Type 0) (t : Bool) (x r z : A) → (t ≡ true → x ≡ z → Q) → (t ≡ false → r ≡ z → Q) → (if t then x else r) ≡ z → Q
pick Q A true x r z f g e = f refl e
pick Q A false x r z f g e = g refl e

-- what stands between brackets
abbrev pub times_bytes : ℕ → List ℕ
times_bytes n = 91 ∷ (decimal n ++ 93 ∷ [])

abbrev pub range_bytes : ℕ → ℕ → List ℕ
range_bytes a b = 91 ∷ (decimal a ++ 44 ∷ (decimal b ++ 93 ∷ []))

-- the bytes of two numbers, as they are joined from the left
flat : (a b : ℕ) → 91 ∷ (((decimal a ++ 44 ∷ []) ++ decimal b) ++ 93 ∷ []) ≡ range_bytes a b
flat a b = ap (λ z. 91 ∷ z) (append_assoc (decimal a ++ 44 ∷ []) (decimal b) (93 ∷ []) ∙ append_assoc (decimal a) (44 ∷ []) (decimal b ++ 93 ∷ []))

pub record AreTimes (text : List ℕ) (n len : ℕ) : Type 0 where
  pub rest : List ℕ
  pub small : n ≤ 255
  pub whole : text ≡ times_bytes n ++ rest
  pub long : len ≡ length (times_bytes n)

pub record AreRange (text : List ℕ) (a b len : ℕ) : Type 0 where
  pub rest : List ℕ
  pub order : a ≤ b
  pub small : b ≤ 255
  pub whole : text ≡ range_bytes a b ++ rest
  pub long : len ≡ length (range_bytes a b)

begins_with : (text : List ℕ) (k : ℕ) → begins text k ≡ true → (rest : List ℕ) × (text ≡ k ∷ rest)
begins_with [] k e = absurd (cc)
begins_with (b ∷ bs) k e = (bs, ap (λ z. z ∷ bs) (eqb-true b k e))

behind : (text front rest : List ℕ) (len : ℕ) → text ≡ front ++ rest → len ≡ length front → drop len text ≡ rest
behind text front rest len e l = ap (drop len) e ∙ drop_at front rest len (sym l)

abbrev two : ℕ → ℕ → Option (ℕ × ℕ)
two a m = Some (a, m)

abbrev three : ℕ → ℕ → ℕ → Option (ℕ × ℕ × ℕ)
three a b m = Some (a, b, m)

two_is : (p q : ℕ × ℕ) → Some p ≡ Some q → p ≡ q
two_is p q e = cc

three_is : (p q : ℕ × ℕ × ℕ) → Some p ≡ Some q → p ≡ q
three_is p q e = cc

times_at : (text : List ℕ) (a m n len : ℕ) → AreTimes text a m → two a m ≡ two n len → AreTimes text n len
times_at text a m n len g e = subst (λ (p : ℕ × ℕ). AreTimes text p.0 p.1) (two_is (a, m) (n, len) e) g

range_at : (text : List ℕ) (a b m c d len : ℕ) → AreRange text a b m → three a b m ≡ three c d len → AreRange text c d len
range_at text a b m c d len g e = subst (λ (p : ℕ × ℕ × ℕ). AreRange text p.0 p.1 p.2) (three_is (a, b, m) (c, d, len) e) g

times_closed : (bs : List ℕ) (r : Option (ℕ × ℕ)) (n len : ℕ) → front_number bs ≡ r → closed_times bs r ≡ two n len → AreTimes (91 ∷ bs) n len
times_closed bs None n len h = λ e. absurd (cc)
times_closed bs (Some r) n len h = pick (AreTimes (91 ∷ bs) n len) (Option (ℕ × ℕ)) (begins (drop r.1 bs) 93) (Some (r.0, r.1 + 2)) None (two n len) (λ t e.
    let f = number_found bs r.0 r.1 h in
    let g = begins_with (drop r.1 bs) 93 t in
    let k : f.rest ≡ 93 ∷ g.0 = sym (behind bs (decimal r.0) f.rest r.1 f.whole f.long) ∙ g.1 in
    times_at (91 ∷ bs) r.0 (r.1 + 2) n len (record {
      rest = g.0;
      small = f.small;
      whole = ap (λ z. 91 ∷ z) (f.whole ∙ ap (λ z. decimal r.0 ++ z) k ∙ sym (append_assoc (decimal r.0) (93 ∷ []) g.0));
      long = let l = f.long in let m = length-append (decimal r.0) (93 ∷ []) in omega arith;
    }) e) (λ t e. absurd (cc))

times_found : (text : List ℕ) (n len : ℕ) → front_times text ≡ two n len → AreTimes text n len
times_found [] n len = λ e. absurd (cc)
times_found (b ∷ bs) n len = pick (AreTimes (b ∷ bs) n len) (Option (ℕ × ℕ)) (b == 91) (closed_times bs (front_number bs)) None (two n len)
    (λ t e. subst (λ z. AreTimes (z ∷ bs) n len) (sym (eqb-true b 91 t)) (times_closed bs (front_number bs) n len refl e)) (λ t e. absurd (cc))

range_closed : (bs rest : List ℕ) (a m : ℕ) (r : Option (ℕ × ℕ)) (c d len : ℕ) → bs ≡ decimal a ++ 44 ∷ rest → m ≡ length (decimal a)
    → front_number rest ≡ r → closed_range bs a m r ≡ three c d len → AreRange (91 ∷ bs) c d len
range_closed bs rest a m None c d len w l h = λ e. absurd (cc)
range_closed bs rest a m (Some r) c d len w l h = pick (AreRange (91 ∷ bs) c d len) (Option (ℕ × ℕ × ℕ)) (nat_le a r.0 && begins (drop (m + 1 + r.1) bs) 93)
    (Some (a, r.0, m + r.1 + 3)) None (three c d len) (λ t e.
    let f = number_found rest r.0 r.1 h in
    let p = and_parts (nat_le a r.0) (begins (drop (m + 1 + r.1) bs) 93) t in
    let g = begins_with (drop (m + 1 + r.1) bs) 93 p.1 in
    let front = decimal a ++ 44 ∷ decimal r.0 in
    let v : bs ≡ front ++ f.rest = w ∙ ap (λ z. decimal a ++ 44 ∷ z) f.whole ∙ sym (append_assoc (decimal a) (44 ∷ decimal r.0) f.rest) in
    let n : m + 1 + r.1 ≡ length front = let o = length-append (decimal a) (44 ∷ decimal r.0) in let q = f.long in omega arith in
    let k : f.rest ≡ 93 ∷ g.0 = sym (behind bs front f.rest (m + 1 + r.1) v n) ∙ g.1 in
    let le : a ≤ r.0 = let x = p.0 in grind (arith, nat_tests) in
    range_at (91 ∷ bs) a r.0 (m + r.1 + 3) c d len (record {
      rest = g.0;
      order = le;
      small = f.small;
      whole = ap (λ z. 91 ∷ z) (w ∙ ap (λ z. decimal a ++ 44 ∷ z) (f.whole ∙ ap (λ z. decimal r.0 ++ z) k ∙ sym (append_assoc (decimal r.0) (93 ∷ []) g.0))
          ∙ sym (append_assoc (decimal a) (44 ∷ (decimal r.0 ++ 93 ∷ [])) g.0));
      long =
          let q = f.long in
          let o = length-append (decimal a) (44 ∷ (decimal r.0 ++ 93 ∷ [])) in
          let s = length-append (decimal r.0) (93 ∷ []) in
          omega arith;
    }) e) (λ t e. absurd (cc))

range_second : (bs : List ℕ) (r : Option (ℕ × ℕ)) (c d len : ℕ) → front_number bs ≡ r → second_number bs r ≡ three c d len → AreRange (91 ∷ bs) c d len
range_second bs None c d len h = λ e. absurd (cc)
range_second bs (Some r) c d len h = pick (AreRange (91 ∷ bs) c d len) (Option (ℕ × ℕ × ℕ)) (begins (drop r.1 bs) 44)
    (closed_range bs r.0 r.1 (front_number (drop (r.1 + 1) bs))) None (three c d len) (λ t e.
    let f = number_found bs r.0 r.1 h in
    let g = begins_with (drop r.1 bs) 44 t in
    let k : f.rest ≡ 44 ∷ g.0 = sym (behind bs (decimal r.0) f.rest r.1 f.whole f.long) ∙ g.1 in
    let w : bs ≡ decimal r.0 ++ 44 ∷ g.0 = f.whole ∙ ap (λ z. decimal r.0 ++ z) k in
    let v : bs ≡ (decimal r.0 ++ 44 ∷ []) ++ g.0 = w ∙ sym (append_assoc (decimal r.0) (44 ∷ []) g.0) in
    let n : r.1 + 1 ≡ length (decimal r.0 ++ 44 ∷ []) = let o = length-append (decimal r.0) (44 ∷ []) in let q = f.long in omega arith in
    let x : front_number g.0 ≡ front_number (drop (r.1 + 1) bs) = ap front_number (sym (behind bs (decimal r.0 ++ 44 ∷ []) g.0 (r.1 + 1) v n)) in
    range_closed bs g.0 r.0 r.1 (front_number (drop (r.1 + 1) bs)) c d len w f.long x e) (λ t e. absurd (cc))

range_found : (text : List ℕ) (c d len : ℕ) → front_range text ≡ three c d len → AreRange text c d len
range_found [] c d len = λ e. absurd (cc)
range_found (b ∷ bs) c d len = pick (AreRange (b ∷ bs) c d len) (Option (ℕ × ℕ × ℕ)) (b == 91) (second_number bs (front_number bs)) None (three c d len)
    (λ t e. subst (λ z. AreRange (z ∷ bs) c d len) (sym (eqb-true b 91 t)) (range_second bs (front_number bs) c d len refl e)) (λ t e. absurd (cc))

-- what stands behind a number between brackets is no digit
times_read : (n : ℕ) (rest : List ℕ) → n ≤ 255 → front_times (times_bytes n ++ rest) ≡ two n (length (times_bytes n))
times_read n rest s =
    let bs = (decimal n ++ 93 ∷ []) ++ rest in
    let e : bs ≡ decimal n ++ 93 ∷ rest = append_assoc (decimal n) (93 ∷ []) rest in
    let f : front_number bs ≡ two n (length (decimal n)) = ap front_number e ∙ number_read n (93 ∷ rest) s refl in
    let d : drop (length (decimal n)) bs ≡ 93 ∷ rest = behind bs (decimal n) (93 ∷ rest) (length (decimal n)) e refl in
    let l : length (decimal n) + 2 ≡ length (times_bytes n) = let m = length-append (decimal n) (93 ∷ []) in omega arith in
    ap (closed_times bs) f
    ∙ ap (λ z. if begins z 93 then two n (length (decimal n) + 2) else None) d
    ∙ ap (λ z. two n z) l

range_read : (a b : ℕ) (rest : List ℕ) → a ≤ b → b ≤ 255 → front_range (range_bytes a b ++ rest) ≡ three a b (length (range_bytes a b))
range_read a b rest o s =
    let inner = decimal b ++ 93 ∷ [] in
    let bs = (decimal a ++ 44 ∷ inner) ++ rest in
    let k = length (decimal a) in
    let m = length (decimal b) in
    let g : inner ++ rest ≡ decimal b ++ 93 ∷ rest = append_assoc (decimal b) (93 ∷ []) rest in
    let e : bs ≡ decimal a ++ 44 ∷ (decimal b ++ 93 ∷ rest) = append_assoc (decimal a) (44 ∷ inner) rest ∙ ap (λ z. decimal a ++ 44 ∷ z) g in
    let e2 : bs ≡ (decimal a ++ 44 ∷ []) ++ (decimal b ++ 93 ∷ rest) = e ∙ sym (append_assoc (decimal a) (44 ∷ []) (decimal b ++ 93 ∷ rest)) in
    let e3 : bs ≡ (decimal a ++ 44 ∷ decimal b) ++ 93 ∷ rest = e ∙ sym (append_assoc (decimal a) (44 ∷ decimal b) (93 ∷ rest)) in
    let f : front_number bs ≡ two a k = ap front_number e ∙ number_read a (44 ∷ (decimal b ++ 93 ∷ rest)) (omega arith) refl in
    let d : drop k bs ≡ 44 ∷ (decimal b ++ 93 ∷ rest) = behind bs (decimal a) (44 ∷ (decimal b ++ 93 ∷ rest)) k e refl in
    let d2 : drop (k + 1) bs ≡ decimal b ++ 93 ∷ rest =
    behind bs (decimal a ++ 44 ∷ []) (decimal b ++ 93 ∷ rest) (k + 1) e2 (sym (length-append (decimal a) (44 ∷ []))) in
    let d3 : drop (k + 1 + m) bs ≡ 93 ∷ rest =
    behind bs (decimal a ++ 44 ∷ decimal b) (93 ∷ rest) (k + 1 + m) e3 (let q = length-append (decimal a) (44 ∷ decimal b) in omega arith) in
    let h : front_number (drop (k + 1) bs) ≡ two b m = ap front_number d2 ∙ number_read b (93 ∷ rest) s refl in
    let le : nat_le a b ≡ true = grind (arith, nat_tests) in
    let l : k + m + 3 ≡ length (range_bytes a b) = let p = length-append (decimal a) (44 ∷ inner) in
    let q = length-append (decimal b) (93 ∷ []) in omega arith in
    ap (second_number bs) f
    ∙ ap (λ z. if begins z 44 then closed_range bs a k (front_number (drop (k + 1) bs)) else None) d
    ∙ ap (closed_range bs a k) h
    ∙ ap (λ z. if z && begins (drop (k + 1 + m) bs) 93 then three a b (k + m + 3) else None) le
    ∙ ap (λ z. if begins z 93 then three a b (k + m + 3) else None) d3
    ∙ ap (λ z. three a b z) l

-- a bounded operator is a letter and what stands between brackets
abbrev pub found : UnaryWord → ℕ → Option (UnaryWord × ℕ)
found word len = Some (word, len)

-- a bounded operator that stands at the front is found
pub bounded_read : (word : UnaryWord) (bytes rest : List ℕ) → IsBounded bytes word → front_bounded (bytes ++ rest) ≡ found word (length bytes)
bounded_read unary.X bytes rest g = absurd g
bounded_read unary.WX bytes rest g = absurd g
bounded_read unary.F bytes rest g = absurd g
bounded_read unary.G bytes rest g = absurd g
bounded_read unary.Y bytes rest g = absurd g
bounded_read unary.Z bytes rest g = absurd g
bounded_read unary.O bytes rest g = absurd g
bounded_read unary.H bytes rest g = absurd g
bounded_read (unary.XTimes n) bytes rest g = ap (λ z. front_bounded (z ++ rest)) g.1 ∙ ap (with_times unary.XTimes) (times_read n rest g.0)
    ∙ ap (λ z. found (unary.XTimes n) z) (let l = ap length g.1 in omega arith)
bounded_read (unary.YTimes n) bytes rest g = ap (λ z. front_bounded (z ++ rest)) g.1 ∙ ap (with_times unary.YTimes) (times_read n rest g.0)
    ∙ ap (λ z. found (unary.YTimes n) z) (let l = ap length g.1 in omega arith)
bounded_read (unary.FIn a b) bytes rest g = let e = g.2 ∙ ap (λ z. 70 ∷ z) (flat a b) in ap (λ z. front_bounded (z ++ rest)) e
    ∙ ap (with_range unary.FIn) (range_read a b rest g.0 g.1) ∙ ap (λ z. found (unary.FIn a b) z) (let l = ap length e in omega arith)
bounded_read (unary.GIn a b) bytes rest g = let e = g.2 ∙ ap (λ z. 71 ∷ z) (flat a b) in ap (λ z. front_bounded (z ++ rest)) e
    ∙ ap (with_range unary.GIn) (range_read a b rest g.0 g.1) ∙ ap (λ z. found (unary.GIn a b) z) (let l = ap length e in omega arith)
bounded_read (unary.OIn a b) bytes rest g = let e = g.2 ∙ ap (λ z. 79 ∷ z) (flat a b) in ap (λ z. front_bounded (z ++ rest)) e
    ∙ ap (with_range unary.OIn) (range_read a b rest g.0 g.1) ∙ ap (λ z. found (unary.OIn a b) z) (let l = ap length e in omega arith)
bounded_read (unary.HIn a b) bytes rest g = let e = g.2 ∙ ap (λ z. 72 ∷ z) (flat a b) in ap (λ z. front_bounded (z ++ rest)) e
    ∙ ap (with_range unary.HIn) (range_read a b rest g.0 g.1) ∙ ap (λ z. found (unary.HIn a b) z) (let l = ap length e in omega arith)

-- what is found is a bounded operator
pub record IsFront (text : List ℕ) (word : UnaryWord) (len : ℕ) : Type 0 where
  pub bytes : List ℕ
  pub rest : List ℕ
  pub whole : text ≡ bytes ++ rest
  pub long : len ≡ length bytes
  pub bounded : IsBounded bytes word

found_is : (p q : UnaryWord × ℕ) → Some p ≡ Some q → p ≡ q
found_is p q e = cc

pub found_same : (v w : UnaryWord) (m n : ℕ) → found v m ≡ found w n → (v ≡ w) × (m ≡ n)
found_same v w m n e = let p = found_is (v, m) (w, n) e in (ap (λ (z : UnaryWord × ℕ). z.0) p, ap (λ (z : UnaryWord × ℕ). z.1) p)

front_at : (text : List ℕ) (v : UnaryWord) (m : ℕ) (w : UnaryWord) (n : ℕ) → IsFront text v m → found v m ≡ found w n → IsFront text w n
front_at text v m w n g e = subst (λ (p : UnaryWord × ℕ). IsFront text p.0 p.1) (found_is (v, m) (w, n) e) g

with_letter : (b : ℕ) (op : ℕ → UnaryWord) → ((n : ℕ) (bytes : List ℕ) → n ≤ 255 → bytes ≡ b ∷ times_bytes n → IsBounded bytes (op n))
    → (bs : List ℕ) (r : Option (ℕ × ℕ)) (w : UnaryWord) (n : ℕ) → front_times bs ≡ r → with_times op r ≡ found w n → IsFront (b ∷ bs) w n
with_letter b op is bs None w n h e = absurd (cc)
with_letter b op is bs (Some r) w n h e =
    let f = times_found bs r.0 r.1 h in
    front_at (b ∷ bs) (op r.0) (r.1 + 1) w n (record {
      bytes = b ∷ times_bytes r.0;
      rest = f.rest;
      whole = ap (λ z. b ∷ z) f.whole;
      long = let l = f.long in omega arith;
      bounded = is r.0 (b ∷ times_bytes r.0) f.small refl;
    }) e

with_letters : (b : ℕ) (op : ℕ → ℕ → UnaryWord) → ((c d : ℕ) (bytes : List ℕ) → c ≤ d → d ≤ 255 → bytes ≡ b ∷ range_bytes c d → IsBounded bytes (op c d))
    → (bs : List ℕ) (r : Option (ℕ × ℕ × ℕ)) (w : UnaryWord) (n : ℕ) → front_range bs ≡ r → with_range op r ≡ found w n → IsFront (b ∷ bs) w n
with_letters b op is bs None w n h e = absurd (cc)
with_letters b op is bs (Some r) w n h e =
    let f = range_found bs r.0 r.1 r.2 h in
    front_at (b ∷ bs) (op r.0 r.1) (r.2 + 1) w n (record {
      bytes = b ∷ range_bytes r.0 r.1;
      rest = f.rest;
      whole = ap (λ z. b ∷ z) f.whole;
      long = let l = f.long in omega arith;
      bounded = is r.0 r.1 (b ∷ range_bytes r.0 r.1) f.order f.small refl;
    }) e

letter_is : (b k : ℕ) (bs : List ℕ) (w : UnaryWord) (n : ℕ) → (b == k) ≡ true → IsFront (k ∷ bs) w n → IsFront (b ∷ bs) w n
letter_is b k bs w n t g = subst (λ z. IsFront (z ∷ bs) w n) (sym (eqb-true b k t)) g

pub bounded_found : (text : List ℕ) (w : UnaryWord) (n : ℕ) → front_bounded text ≡ found w n → IsFront text w n
bounded_found [] w n = λ e. absurd (cc)
bounded_found (b ∷ bs) w n =
    pick (IsFront (b ∷ bs) w n) (Option (UnaryWord × ℕ)) (b == 88) (with_times unary.XTimes (front_times bs)) _ (found w n)
    (λ t e. letter_is b 88 bs w n t (with_letter 88 unary.XTimes (λ m bytes s i. (s, i)) bs (front_times bs) w n refl e))
    (λ f1. pick (IsFront (b ∷ bs) w n) (Option (UnaryWord × ℕ)) (b == 89) (with_times unary.YTimes (front_times bs)) _ (found w n)
    (λ t e. letter_is b 89 bs w n t (with_letter 89 unary.YTimes (λ m bytes s i. (s, i)) bs (front_times bs) w n refl e))
    (λ f2. pick (IsFront (b ∷ bs) w n) (Option (UnaryWord × ℕ)) (b == 70) (with_range unary.FIn (front_range bs)) _ (found w n) (λ t e. letter_is b 70 bs w n t
    (with_letters 70 unary.FIn (λ c d bytes o s i. (o, s, i ∙ ap (λ z. 70 ∷ z) (sym (flat c d)))) bs (front_range bs) w n refl e))
    (λ f3. pick (IsFront (b ∷ bs) w n) (Option (UnaryWord × ℕ)) (b == 71) (with_range unary.GIn (front_range bs)) _ (found w n) (λ t e. letter_is b 71 bs w n t
    (with_letters 71 unary.GIn (λ c d bytes o s i. (o, s, i ∙ ap (λ z. 71 ∷ z) (sym (flat c d)))) bs (front_range bs) w n refl e))
    (λ f4. pick (IsFront (b ∷ bs) w n) (Option (UnaryWord × ℕ)) (b == 79) (with_range unary.OIn (front_range bs)) _ (found w n) (λ t e. letter_is b 79 bs w n t
    (with_letters 79 unary.OIn (λ c d bytes o s i. (o, s, i ∙ ap (λ z. 79 ∷ z) (sym (flat c d)))) bs (front_range bs) w n refl e))
    (λ f5. pick (IsFront (b ∷ bs) w n) (Option (UnaryWord × ℕ)) (b == 72) (with_range unary.HIn (front_range bs)) None (found w n) (λ t e.
    letter_is b 72 bs w n t (with_letters 72 unary.HIn (λ c d bytes o s i. (o, s, i ∙ ap (λ z. 72 ∷ z) (sym (flat c d)))) bs (front_range bs) w n refl e))
    (λ f6 e. absurd (cc)))))))
