-- Texts that a machine reads byte by byte: each says one thing, and other bytes have one fault.
use Rattle.std.proofs.Common.{◌≡◌, ℕ, suc, ◌+◌, ◌<◌, ◌≤◌, ◌==◌, ◌⊎◌, inl, inr, ◌&&◌, Bool, true, false, not, is_some, ltb, List, [], ◌∷◌, ◌++◌, length, take}
use Rattle.std.proofs.Common.{drop, get_or, Option, Some, None, refl, sym, ap, ◌∙◌, subst, arith, append_assoc, add-one}
use Rattle.std.specs.Option.{option_and_then}
use Rattle.std.proofs.lemmas.Bool.{eq-eqb, ne_eqb, ltb-true, and_parts, cases_eq, cases_order}
use Rattle.std.proofs.lemmas.Option.{option_and_then_some}
use Rattle.std.proofs.lemmas.List.{append-nil, take-append-drop, take-take, take_all, length-drop, get_or-drop}
use Rattle.std.proofs.Math.Seq.{take-suc}
use mathlib.Core.Bool.{false≢true}
use Rattle.cert_text.specs.Machine.{run_by, Begins, IsFault}

-- the first byte is read
pub run_step : {S : Type 0} (step : S → ℕ → Option S) (s t : S) (b : ℕ) (rest : List ℕ) → step s b ≡ Some t → run_by step s (b ∷ rest) ≡ run_by step t rest
run_step step s t b rest e = ap (option_and_then (λ u. run_by step u rest)) e

-- the bytes behind others
pub run_on : {S : Type 0} (step : S → ℕ → Option S) (xs ys : List ℕ) (s t : S) → run_by step s xs ≡ Some t → run_by step s (xs ++ ys) ≡ run_by step t ys
run_on step [] ys s t e = let same : s ≡ t = cc in ap (λ u. run_by step u ys) same
run_on step (x ∷ xs) ys s t e =
    option_and_then_some (λ u. run_by step u xs) (step s x) t e
    (λ u is again. run_step step s u x (xs ++ ys) is ∙ run_on step xs ys u t again)

pub run_front : {S : Type 0} (step : S → ℕ → Option S) (xs ys : List ℕ) (s t : S) → run_by step s (xs ++ ys) ≡ Some t → (u : S) × (run_by step s xs ≡ Some u)
run_front step [] ys s t e = (s, refl)
run_front step (x ∷ xs) ys s t e =
    option_and_then_some (λ u. run_by step u (xs ++ ys)) (step s x) t e
    (λ u is again. let found = run_front step xs ys u t again in (found.0, run_step step s u x xs is ∙ found.1))

-- one byte more
pub run_more : {S : Type 0} (step : S → ℕ → Option S) (first s t : S) (bytes : List ℕ) (i : ℕ) → i < length bytes
    → run_by step first (take i bytes) ≡ Some s → step s (get_or bytes i 0) ≡ Some t → run_by step first (take (i + 1) bytes) ≡ Some t
run_more step first s t bytes i low e more =
    ap (λ n. run_by step first (take n bytes)) (add-one i)
    ∙ ap (run_by step first) (take-suc bytes i 0 low)
    ∙ run_on step (take i bytes) (get_or bytes i 0 ∷ []) first s e
    ∙ run_step step s t (get_or bytes i 0) [] more

-- what each step keeps is kept
pub run_keeps : {S : Type 0} (step : S → ℕ → Option S) (P : List ℕ → S → Type 0)
    → ((bytes : List ℕ) (s t : S) (b : ℕ) → P bytes s → step s b ≡ Some t → P (bytes ++ b ∷ []) t)
    → (more bytes : List ℕ) (s t : S) → P bytes s → run_by step s more ≡ Some t → P (bytes ++ more) t
run_keeps step P one [] bytes s t has e = let same : s ≡ t = cc in subst (P (bytes ++ [])) same (subst (λ w. P w s) (sym (append-nil bytes)) has)
run_keeps step P one (b ∷ more) bytes s t has e =
    option_and_then_some (λ u. run_by step u more) (step s b) t e
    (λ u is again. subst (λ w. P w t) (append_assoc bytes (b ∷ []) more) (run_keeps step P one more (bytes ++ b ∷ []) u t (one bytes s u b has is) again))

-- how the pass over some bytes ends
abbrev Ends : {S : Type 0} → (S → ℕ → Option S) → List ℕ → S → Type 0
Ends {S} step bytes s = ((t : S) × (run_by step s bytes ≡ Some t))
    ⊎ ((b : ℕ) × (t : S) × (b < length bytes) × (run_by step s (take b bytes) ≡ Some t) × (step t (get_or bytes b 0) ≡ None))

ends : {S : Type 0} (step : S → ℕ → Option S) (bytes : List ℕ) (s : S) → Ends step bytes s
ends step [] s = inl (s, refl)
ends {S} step (x ∷ bytes) s = go (step s x) refl (λ t. ends step bytes t)
  where
    go : (o : Option S) → step s x ≡ o → ((t : S) → Ends step bytes t) → Ends step (x ∷ bytes) s
    go None is again = inr (0, s, omega arith, refl, is)
    go (Some t) is again = elim (again t) [
      | inl on ↦ inl (on.0, run_step step s t x bytes is ∙ on.1)
      | inr off ↦ inr (suc off.0, off.1, omega (arith, off.2), run_step step s t x (take off.0 bytes) is ∙ off.3, off.4)
    ]

-- the beginning of a beginning
begins_front : {C : Type 0} (IsText : List ℕ → C → Type 0) (xs ys : List ℕ) → Begins IsText (xs ++ ys) → Begins IsText xs
begins_front IsText xs ys begins = record {
  rest = ys ++ begins.rest;
  whole = begins.whole;
  is = subst (λ w. IsText w begins.whole) (append_assoc xs ys begins.rest) begins.is;
}

begins_take : {C : Type 0} (IsText : List ℕ → C → Type 0) (bytes : List ℕ) (k b : ℕ) → k ≤ b → Begins IsText (take b bytes) → Begins IsText (take k bytes)
begins_take IsText bytes k b le begins =
    subst (Begins IsText) (take-take k b bytes le)
    (begins_front IsText (take k (take b bytes)) (drop k (take b bytes)) (subst (Begins IsText) (sym (take-append-drop k (take b bytes))) begins))

begins_all : {C : Type 0} (IsText : List ℕ → C → Type 0) (bytes : List ℕ) (k : ℕ) → k ≤ length bytes → Begins IsText bytes → Begins IsText (take k bytes)
begins_all IsText bytes k le begins =
    begins_take IsText bytes k (length bytes) le (subst (Begins IsText) (sym (take_all (length bytes) bytes (omega arith))) begins)

text_begins : {C : Type 0} (IsText : List ℕ → C → Type 0) (bytes : List ℕ) (c : C) → IsText bytes c → Begins IsText bytes
text_begins IsText bytes c is = record { rest = []; whole = c; is = subst (λ w. IsText w c) (sym (append-nil bytes)) is }

-- bytes have one fault, and a text has none
pub one_fault : {C : Type 0} (IsText : List ℕ → C → Type 0) (bytes : List ℕ) (b d : ℕ) → IsFault IsText bytes b → IsFault IsText bytes d → b ≡ d
one_fault IsText bytes b d one two = elim (cases_order b d) [
  | inl same ↦ same
  | inr (inl less) ↦ absurd (one.stops (omega (arith, less, two.within)) (two.begins (suc b) (omega (arith, less))))
  | inr (inr more) ↦ absurd (two.stops (omega (arith, more, one.within)) (one.begins (suc d) (omega (arith, more))))
]

pub no_fault : {C : Type 0} (IsText : List ℕ → C → Type 0) (bytes : List ℕ) (c : C) (b : ℕ) → IsText bytes c → ¬ IsFault IsText bytes b
no_fault IsText bytes c b is fault = elim (cases_eq b (length bytes)) [
  | inl at ↦ fault.none at c is
  | inr before ↦ fault.stops (omega (arith, before, fault.within))
      (begins_all IsText bytes (suc b) (omega (arith, before, fault.within)) (text_begins IsText bytes c is))
]

-- a machine reads each text and nothing else to an end at which it says what the text says, and from wherever it comes some bytes lead to an end
pub record Machine {S C : Type 0} (IsText : List ℕ → C → Type 0) (step : S → ℕ → Option S) (start : S) (said : S → Option C) : Type 0 where
  pub reads : (bytes : List ℕ) (c : C) → IsText bytes c → (s : S) × (run_by step start bytes ≡ Some s) × (said s ≡ Some c)
  pub whole : (bytes : List ℕ) (s : S) (c : C) → run_by step start bytes ≡ Some s → said s ≡ Some c → IsText bytes c
  pub viable : (bytes : List ℕ) (s : S) → run_by step start bytes ≡ Some s
      → (rest : List ℕ) × (t : S) × (c : C) × (run_by step s rest ≡ Some t) × (said t ≡ Some c)

-- it goes on exactly where some text does
pub begins_from : {S C : Type 0} {IsText : List ℕ → C → Type 0} {step : S → ℕ → Option S} {start : S} {said : S → Option C} → Machine IsText step start said
    → (bytes : List ℕ) (s : S) → run_by step start bytes ≡ Some s → Begins IsText bytes
begins_from {S} {C} {IsText} {step} {start} {said} machine bytes s e =
    let way = machine.viable bytes s e in
    record { rest = way.0; whole = way.2; is = machine.whole (bytes ++ way.0) way.1 way.2 (run_on step bytes way.0 start s e ∙ way.3) way.4 }

pub begins_to : {S C : Type 0} {IsText : List ℕ → C → Type 0} {step : S → ℕ → Option S} {start : S} {said : S → Option C} → Machine IsText step start said
    → (bytes : List ℕ) → Begins IsText bytes → (s : S) × (run_by step start bytes ≡ Some s)
begins_to {S} {C} {IsText} {step} {start} {said} machine bytes begins =
    let text = machine.reads (bytes ++ begins.rest) begins.whole begins.is in
    run_front step bytes begins.rest start text.0 text.1

-- a text says one thing
pub says_one : {S C : Type 0} {IsText : List ℕ → C → Type 0} {step : S → ℕ → Option S} {start : S} {said : S → Option C} → Machine IsText step start said
    → (bytes : List ℕ) (c d : C) → IsText bytes c → IsText bytes d → c ≡ d
says_one {S} {C} {IsText} {step} {start} {said} machine bytes c d one two =
    let first = machine.reads bytes c one in
    let second = machine.reads bytes d two in
    let same : first.0 ≡ second.0 = some_same first.0 second.0 (sym first.1 ∙ second.1) in
    some_same c d (sym first.2 ∙ ap said same ∙ second.2)
  where
    some_same : {X : Type 0} (x y : X) → Some x ≡ Some y → x ≡ y
    some_same x y e = cc

-- a byte that leads nowhere is the fault
pub fault_at : {S C : Type 0} {IsText : List ℕ → C → Type 0} {step : S → ℕ → Option S} {start : S} {said : S → Option C} → Machine IsText step start said
    → (bytes : List ℕ) (b : ℕ) (s : S) → b < length bytes → run_by step start (take b bytes) ≡ Some s → step s (get_or bytes b 0) ≡ None
    → IsFault IsText bytes b
fault_at {S} {C} {IsText} {step} {start} {said} machine bytes b s below e stopped = record {
  within = omega (arith, below);
  begins = λ k le. begins_take IsText bytes k b le (begins_from machine (take b bytes) s e);
  stops = λ _ begins.
      let found = begins_to machine (take (suc b) bytes) begins in
      let split : take (suc b) bytes ≡ take b bytes ++ get_or bytes b 0 ∷ [] = take-suc bytes b 0 below in
      let one : run_by step s (get_or bytes b 0 ∷ []) ≡ Some found.0 =
      sym (run_on step (take b bytes) (get_or bytes b 0 ∷ []) start s e) ∙ sym (ap (run_by step start) split) ∙ found.1 in
      let none : run_by step s (get_or bytes b 0 ∷ []) ≡ None = ap (option_and_then (λ u. run_by step u [])) stopped in
      let clash : None ≡ Some found.0 = sym none ∙ one in
      cc;
  none = λ at. absurd (omega (arith, at, below));
}

-- where it goes on to the end of bytes that are no text, their length is
pub fault_end : {S C : Type 0} {IsText : List ℕ → C → Type 0} {step : S → ℕ → Option S} {start : S} {said : S → Option C} → Machine IsText step start said
    → (bytes : List ℕ) (s : S) → run_by step start bytes ≡ Some s → ((c : C) → said s ≡ Some c → ⊥) → IsFault IsText bytes (length bytes)
fault_end {S} {C} {IsText} {step} {start} {said} machine bytes s e other = record {
  within = omega arith;
  begins = λ k le. begins_all IsText bytes k le (begins_from machine bytes s e);
  stops = λ below. absurd (omega (arith, below));
  none = λ _ c is.
      let text = machine.reads bytes c is in
      let same : s ≡ text.0 = some_same s text.0 (sym e ∙ text.1) in
      other c (ap said same ∙ text.2);
}
  where
    some_same : (x y : S) → Some x ≡ Some y → x ≡ y
    some_same x y e = cc

pub text_or_fault : {S C : Type 0} {IsText : List ℕ → C → Type 0} {step : S → ℕ → Option S} {start : S} {said : S → Option C} → Machine IsText step start said
    → (bytes : List ℕ) → ((c : C) × IsText bytes c) ⊎ ((b : ℕ) × IsFault IsText bytes b)
text_or_fault {S} {C} {IsText} {step} {start} {said} machine bytes = elim (ends step bytes start) [
  | inl on ↦ at on.0 on.1 (said on.0) refl
  | inr off ↦ inr (off.0, fault_at machine bytes off.0 off.1 off.2 off.3 off.4)
]
  where
    at : (s : S) → run_by step start bytes ≡ Some s → (o : Option C) → said s ≡ o → ((c : C) × IsText bytes c) ⊎ ((b : ℕ) × IsFault IsText bytes b)
    at s e None is = inr (length bytes, fault_end machine bytes s e (λ c f. let clash : None ≡ Some c = sym is ∙ f in cc))
    at s e (Some c) is = inl (c, machine.whole bytes s c e is)

-- whether the bytes lead to this place and no further, computed
abbrev pub stops_at : {S C : Type 0} → (S → ℕ → Option S) → (S → Option C) → Option S → List ℕ → Bool
stops_at step said None rest = false
stops_at step said (Some s) [] = not (is_some (said s))
stops_at step said (Some s) (b ∷ rest) = not (is_some (step s b))

pub fault_is : {S C : Type 0} {IsText : List ℕ → C → Type 0} {step : S → ℕ → Option S} {start : S} {said : S → Option C} → Machine IsText step start said
    → (bytes : List ℕ) (b : ℕ) → (ltb b (length bytes + 1) && stops_at step said (run_by step start (take b bytes)) (drop b bytes)) ≡ true
    → IsFault IsText bytes b
fault_is {S} {C} {IsText} {step} {start} {said} machine bytes b e =
    let parts = and_parts (ltb b (length bytes + 1)) (stops_at step said (run_by step start (take b bytes)) (drop b bytes)) e in
    go (run_by step start (take b bytes)) (drop b bytes) refl refl (ltb-true b (length bytes + 1) parts.0) parts.1
  where
    none : {X : Type 0} (o : Option X) → not (is_some o) ≡ true → o ≡ None
    none None e = refl
    none (Some t) e = absurd (false≢true e)

    go : (o : Option S) (rest : List ℕ) → run_by step start (take b bytes) ≡ o → drop b bytes ≡ rest → b < length bytes + 1
        → stops_at step said o rest ≡ true → IsFault IsText bytes b
    go None rest is left low e = absurd (false≢true e)
    go (Some s) [] is left low e =
        let at : length bytes ≡ b = omega (arith, length-drop b bytes, ap length left, low) in
        let whole : run_by step start bytes ≡ Some s = sym (ap (run_by step start) (take_all b bytes (omega (arith, at)))) ∙ is in
        subst (IsFault IsText bytes) at (fault_end machine bytes s whole (λ c f. let clash : None ≡ Some c = sym (none (said s) e) ∙ f in cc))
    go (Some s) (x ∷ rest) is left low e =
        let inside : b < length bytes = omega (arith, length-drop b bytes, ap length left) in
        let here : get_or bytes b 0 ≡ x = ap (λ i. get_or bytes i 0) (omega arith) ∙ sym (get_or-drop b bytes 0 0) ∙ ap (λ l. get_or l 0 0) left in
        fault_at machine bytes b s inside is (ap (step s) here ∙ none (step s x) e)

-- nothing is left exactly where the length is 0
pub left_none : (left : List ℕ) (b : Bool) → b ≡ (length left == 0) → b ≡ true → left ≡ []
left_none [] b e f = refl
left_none (x ∷ left) b e f = absurd (false≢true (sym (ne_eqb (suc (length left)) 0 (λ h. omega (arith, h))) ∙ sym e ∙ f))

pub left_some : (left : List ℕ) (b : Bool) → b ≡ (length left == 0) → b ≡ false → left ≡ [] → ⊥
left_some left b e f none = false≢true (sym f ∙ e ∙ eq-eqb (length left) 0 (ap length none))
