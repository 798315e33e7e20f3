-- The cut of an input at its first separator line.
use Rattle.std.proofs.Common.{◌≡◌, ◌≢◌, ◌∙◌, ℕ, suc, ◌+◌, ◌-◌, ◌<◌, ◌≤◌, ◌⊎◌, inl, inr, true, false, List, [], ◌∷◌, ◌++◌, length, take, drop, get_or, codes}
use Rattle.std.proofs.Common.{refl, sym, ap, ap₂, subst, arith, length-append, length-drop, append_assoc, nat_eq, Option, Some, None, MatchOption}
use Rattle.std.specs.Cmp.Lexicographic.{pointwise, same_text, other_text}
use Rattle.std.proofs.lemmas.List.{append_cancel_left, append_cancel_right, length-take-le, take-append-drop}
use Rattle.std.proofs.Math.Seq.{take-append_seam, drop-append_seam, take-suc, take-length}
use Rattle.program_input.specs.Parts.{newline, IsSeparator, EndsLine, BeginsLine, IsLine, HasNoSeparator, IsCut}
use Rattle.program_input.specs.Inner.{OpensSecond, OpensNothing}

-- ---- an input is cut in one way

-- two separator lines with what is behind them are one
line_one : (l a s m b t : List ℕ) → IsSeparator l → IsSeparator m → BeginsLine a s → BeginsLine b t → l ++ a ≡ m ++ b → a ≡ b
line_one l a s m b t (inl e) (inl f) p q h = let g : codes "---" ++ a ≡ codes "---" ++ b = ap (λ x. x ++ a) (sym e) ∙ h ∙ ap (λ x. x ++ b) f in
    append_cancel_left (codes "---") a b g
line_one l a s m b t (inr e) (inr f) p q h = let g : (codes "---" ++ 13 ∷ []) ++ a ≡ (codes "---" ++ 13 ∷ []) ++ b =
    ap (λ x. x ++ a) (sym e) ∙ h ∙ ap (λ x. x ++ b) f in append_cancel_left (codes "---" ++ 13 ∷ []) a b g
line_one l a s m b t (inl e) (inr f) p q h =
    let g : codes "---" ++ a ≡ codes "---" ++ (13 ∷ b) = ap (λ x. x ++ a) (sym e) ∙ h ∙ ap (λ x. x ++ b) f in
    absurd (not_return a s b p (append_cancel_left (codes "---") a (13 ∷ b) g)) where
      not_return : (a s b : List ℕ) → BeginsLine a s → a ≡ 13 ∷ b → ⊥
      not_return a s b (inl (e, f)) g = let k : [] ≡ 13 ∷ b = sym e ∙ g in cc
      not_return a s b (inr e) g = let k : 10 ∷ s ≡ 13 ∷ b = sym e ∙ g in cc
line_one l a s m b t (inr e) (inl f) p q h =
    let g : codes "---" ++ (13 ∷ a) ≡ codes "---" ++ b = ap (λ x. x ++ a) (sym e) ∙ h ∙ ap (λ x. x ++ b) f in
    absurd (not_return b t a q (sym (append_cancel_left (codes "---") (13 ∷ a) b g))) where
      not_return : (a s b : List ℕ) → BeginsLine a s → a ≡ 13 ∷ b → ⊥
      not_return a s b (inl (e, f)) g = let k : [] ≡ 13 ∷ b = sym e ∙ g in cc
      not_return a s b (inr e) g = let k : 10 ∷ s ≡ 13 ∷ b = sym e ∙ g in cc

begins_one : (a s t : List ℕ) → BeginsLine a s → BeginsLine a t → s ≡ t
begins_one a s t (inl (e, f)) (inl (g, h)) = f ∙ sym h
begins_one a s t (inl (e, f)) (inr g) = let k : [] ≡ 10 ∷ t = sym e ∙ g in absurd (cc)
begins_one a s t (inr e) (inl (g, h)) = let k : [] ≡ 10 ∷ s = sym g ∙ e in absurd (cc)
begins_one a s t (inr e) (inr g) = let k : 10 ∷ s ≡ 10 ∷ t = sym e ∙ g in cc

ends_one : (b s t : List ℕ) → EndsLine b s → EndsLine b t → s ≡ t
ends_one b s t (inl (e, f)) (inl (g, h)) = f ∙ sym h
ends_one b s t (inl (e, f)) (inr g) = let k = ap length (sym e ∙ g) in absurd (omega (arith, k, length-append t newline))
ends_one b s t (inr e) (inl (g, h)) = let k = ap length (sym g ∙ e) in absurd (omega (arith, k, length-append s newline))
ends_one b s t (inr e) (inr g) = append_cancel_right s t newline (sym e ∙ g)

-- fronts of one list that are equally long
front_one : (b c x y : List ℕ) → length b ≡ length c → b ++ x ≡ c ++ y → (b ≡ c) × (x ≡ y)
front_one [] [] x y n e = (refl, e)
front_one [] (c ∷ cs) x y n e = absurd (omega (arith, n))
front_one (b ∷ bs) [] x y n e = absurd (omega (arith, n))
front_one (b ∷ bs) (c ∷ cs) x y n e =
    let r = front_one bs cs x y (omega (arith, n)) (cc) in
    let h : b ≡ c = cc in (ap₂ (λ v vs. v ∷ vs) h r.0, r.1)

pub cut_one : (bytes part second part' second' : List ℕ) → IsCut bytes part second → IsCut bytes part' second' → (part ≡ part') × (second ≡ second')
cut_one bytes part second part' second' h k =
    let low = h.first k.before k.line k.after
    (record { text = part'; second = second'; whole = k.whole; separator = k.separator; begins = k.begins; ends = k.ends }) in
    let high = k.first h.before h.line h.after
    (record { text = part; second = second; whole = h.whole; separator = h.separator; begins = h.begins; ends = h.ends }) in
    let e = sym (append_assoc h.before h.line h.after) ∙ sym h.whole ∙ k.whole ∙ append_assoc k.before k.line k.after in
    let f = front_one h.before k.before (h.line ++ h.after) (k.line ++ k.after) (omega (arith, low, high)) e in
    let a = line_one h.line h.after second k.line k.after second' h.separator k.separator h.ends k.ends f.1 in (
      ends_one h.before part part' h.begins (subst (λ b. EndsLine b part') (sym f.0) k.begins),
      begins_one h.after second second' h.ends (subst (λ b. BeginsLine b second') (sym a) k.ends),
    )

pub cut_or_none : (bytes part second : List ℕ) → IsCut bytes part second → HasNoSeparator bytes → ⊥
cut_or_none bytes part second h none =
    none h.before h.line h.after (record { text = part; second = second; whole = h.whole; separator = h.separator; begins = h.begins; ends = h.ends })

-- ---- the pass over the bytes

separator_long : (line : List ℕ) → IsSeparator line → 3 ≤ length line
separator_long line (inl e) = let k = ap length e in omega (arith, k)
separator_long line (inr e) = let k = ap length e in omega (arith, k)

-- a separator line begins before the end
pub line_inside : (bytes b l a : List ℕ) → IsLine bytes b l a → length b < length bytes
line_inside bytes b l a h =
    let e = ap length h.whole in
    let long = separator_long l h.separator in
    omega (arith, e, long, length-append (b ++ l) a, length-append b l)

-- nothing begins at a place, and so all separator lines begin later
pub later : (bytes : List ℕ) (start : ℕ) → ((b l a : List ℕ) → IsLine bytes b l a → start ≤ length b) → OpensNothing bytes start
    → (b l a : List ℕ) → IsLine bytes b l a → start + 1 ≤ length b
later bytes start below none b l a h =
    let low = below b l a h in
    let other : length b ≢ start = λ e. none h.second
    (record { before = b; line = l; after = a; text = h.text; place = e; whole = h.whole; separator = h.separator; begins = h.begins; ends = h.ends }) in
    omega (arith, low, other)

pub none_at_all : (bytes : List ℕ) (start : ℕ) → length bytes ≤ start → ((b l a : List ℕ) → IsLine bytes b l a → start ≤ length b) → HasNoSeparator bytes
none_at_all bytes start end below b l a h = let low = below b l a h in let high = line_inside bytes b l a h in absurd (omega (arith, end, low, high))

-- what stands before the separator, without one newline
formula_is : (before text rest : List ℕ) → EndsLine before text → take (length before - 1) (before ++ rest) ≡ text
formula_is before text rest (inl (e, f)) = ap (λ b. take (length b - 1) (b ++ rest)) e ∙ sym f
formula_is before text rest (inr e) =
    let n : length (text ++ newline) - 1 ≡ length text = omega (arith, length-append text newline) in
    ap (λ b. take (length b - 1) (b ++ rest)) e ∙ ap (λ k. take k ((text ++ newline) ++ rest)) n
    ∙ ap (λ x. take (length text) x) (append_assoc text newline rest) ∙ take-append_seam text (newline ++ rest)

pub first_cut : (bytes : List ℕ) (start : ℕ) (formula second : List ℕ) → ((b l a : List ℕ) → IsLine bytes b l a → start ≤ length b)
    → OpensSecond bytes start second
    → formula ≡ take (start - 1) bytes → IsCut bytes formula second
first_cut bytes start formula second below h e =
    let whole = h.whole ∙ append_assoc h.before h.line h.after in
    let f = ap (λ n. take (n - 1) bytes) (sym h.place) ∙ ap (λ x. take (length h.before - 1) x) whole
    ∙ formula_is h.before h.text (h.line ++ h.after) h.begins in
    record {
      before = h.before;
      line = h.line;
      after = h.after;
      whole = h.whole;
      separator = h.separator;
      begins = subst (EndsLine h.before) (sym (e ∙ f)) h.begins;
      ends = h.ends;
      first = λ b l a k. let low = below b l a k in omega (arith, low, h.place);
    }

-- ---- a separator line at a place

pub opens_drop : (bytes : List ℕ) (start : ℕ) (second : List ℕ) (h : OpensSecond bytes start second) → drop start bytes ≡ h.line ++ h.after
opens_drop bytes start second h =
    ap (λ n. drop n bytes) (sym h.place) ∙ ap (λ x. drop (length h.before) x) (h.whole ∙ append_assoc h.before h.line h.after)
    ∙ drop-append_seam h.before (h.line ++ h.after)

opened : (bytes : List ℕ) (start : ℕ) (line after text second : List ℕ) → start ≤ length bytes → EndsLine (take start bytes) text
    → drop start bytes ≡ line ++ after → IsSeparator line → BeginsLine after second
    → OpensSecond bytes start second
opened bytes start line after text second low begins e separator ends = record {
  before = take start bytes;
  line = line;
  after = after;
  text = text;
  place = length-take-le start bytes low;
  whole = sym (take-append-drop start bytes) ∙ ap (λ x. take start bytes ++ x) e ∙ sym (append_assoc (take start bytes) line after);
  separator = separator;
  begins = begins;
  ends = ends;
}

-- a place behind a newline, or the first
abbrev pub IsStart : List ℕ → ℕ → Type 0
IsStart bytes start = (start ≡ 0) ⊎ ((0 < start) × (get_or bytes (start - 1) 0 ≡ 10))

starts_text : (bytes : List ℕ) (start : ℕ) → start ≤ length bytes → IsStart bytes start → (text : List ℕ) × EndsLine (take start bytes) text
starts_text bytes start low (inl e) = ([], inl (ap (λ n. take n bytes) e, refl))
starts_text bytes start low (inr (more, e)) =
    let n : start ≡ suc (start - 1) = omega (arith, more) in (
      take (start - 1) bytes,
      inr (ap (λ k. take k bytes) n ∙ take-suc bytes (start - 1) 0 (omega (arith, low, more)) ∙ ap (λ b. take (start - 1) bytes ++ b ∷ []) e),
    )

pub plain_opens : (bytes : List ℕ) (start : ℕ) (after second : List ℕ) → start ≤ length bytes → IsStart bytes start
    → drop start bytes ≡ codes "---" ++ after → BeginsLine after second → OpensSecond bytes start second
plain_opens bytes start after second low at e ends = let t = starts_text bytes start low at in
    opened bytes start (codes "---") after t.0 second low t.1 e (inl refl) ends

pub return_opens : (bytes : List ℕ) (start : ℕ) (after second : List ℕ) → start ≤ length bytes → IsStart bytes start
    → drop start bytes ≡ codes "---" ++ 13 ∷ after → BeginsLine after second → OpensSecond bytes start second
return_opens bytes start after second low at e ends = let t = starts_text bytes start low at in
    opened bytes start (codes "---" ++ 13 ∷ []) after t.0 second low t.1 e (inr refl) ends

-- where no line ends behind them, without a carriage return and with one
pub no_end : (bytes : List ℕ) (start : ℕ) (after : List ℕ)
    → drop start bytes ≡ codes "---" ++ after → take 1 after ≢ 13 ∷ [] → ((text : List ℕ) → ¬ (BeginsLine after text)) → OpensNothing bytes start
no_end bytes start after e other none second h = elim h.separator [
  | inl f ↦ none second (subst (λ a. BeginsLine a second)
      (append_cancel_left (codes "---") h.after after (ap (λ l. l ++ h.after) (sym f) ∙ sym (opens_drop bytes start second h) ∙ e)) h.ends)
  | inr f ↦ other (ap (take 1) (append_cancel_left (codes "---") after (13 ∷ h.after) (sym e ∙ opens_drop bytes start second h ∙ ap (λ l. l ++ h.after) f)))
]

pub no_end_return : (bytes : List ℕ) (start : ℕ) (after : List ℕ) → drop start bytes ≡ codes "---" ++ 13 ∷ after → ((text : List ℕ) → ¬ (BeginsLine after text))
    → OpensNothing bytes start
no_end_return bytes start after e none second h = elim h.separator [
  | inl f ↦ return_ends h.after second after h.ends
      (append_cancel_left (codes "---") h.after (13 ∷ after) (ap (λ l. l ++ h.after) (sym f) ∙ sym (opens_drop bytes start second h) ∙ e))
  | inr f ↦ none second (subst (λ a. BeginsLine a second)
      (append_cancel_left (codes "---" ++ 13 ∷ []) h.after after (ap (λ l. l ++ h.after) (sym f) ∙ sym (opens_drop bytes start second h) ∙ e)) h.ends)
] where
  return_ends : (a s b : List ℕ) → BeginsLine a s → a ≡ 13 ∷ b → ⊥
  return_ends a s b (inl (e, f)) g = let k : [] ≡ 13 ∷ b = sym e ∙ g in cc
  return_ends a s b (inr e) g = let k : 10 ∷ s ≡ 13 ∷ b = sym e ∙ g in cc

-- what a test of the bytes at a place has told
pub tail_is : (bytes : List ℕ) (start : ℕ) → take (length bytes - start) (drop start bytes) ≡ drop start bytes
tail_is bytes start = ap (λ n. take n (drop start bytes)) (sym (length-drop start bytes)) ∙ take-length (drop start bytes)

pub stripped : (bytes prefix behind : List ℕ) (n : ℕ) → pointwise nat_eq (take n bytes) prefix ≡ true → behind ≡ drop n bytes → bytes ≡ prefix ++ behind
stripped bytes prefix behind n h e =
    sym (take-append-drop n bytes) ∙ ap (λ x. x ++ drop n bytes) (same_text (take n bytes) prefix (sym h)) ∙ ap (λ x. prefix ++ x) (sym e)

pub told_second : {A : Type 0} (now : A → List ℕ) (r : Option A) (bytes : List ℕ) (start : ℕ) (behind : List ℕ) → start ≤ length bytes → IsStart bytes start
    → drop start bytes ≡ codes "---" ++ behind → pointwise nat_eq (take 1 behind) (13 ∷ []) ≡ false
    → MatchOption r ((text : List ℕ) → ¬ (BeginsLine behind text)) (λ text. BeginsLine behind (now text))
    → MatchOption r (OpensNothing bytes start) (λ second. OpensSecond bytes start (now second))
told_second now None bytes start behind low at e other h = no_end bytes start behind e (other_text (take 1 behind) (13 ∷ []) (sym other)) h
told_second now (Some x) bytes start behind low at e other h = plain_opens bytes start behind (now x) low at e h

pub told_second_return : {A : Type 0} (now : A → List ℕ) (r : Option A) (bytes : List ℕ) (start : ℕ) (behind : List ℕ) → start ≤ length bytes
    → IsStart bytes start
    → drop start bytes ≡ codes "---" ++ 13 ∷ behind
    → MatchOption r ((text : List ℕ) → ¬ (BeginsLine behind text)) (λ text. BeginsLine behind (now text))
    → MatchOption r (OpensNothing bytes start) (λ second. OpensSecond bytes start (now second))
told_second_return now None bytes start behind low at e h = no_end_return bytes start behind e h
told_second_return now (Some x) bytes start behind low at e h = return_opens bytes start behind (now x) low at e h
