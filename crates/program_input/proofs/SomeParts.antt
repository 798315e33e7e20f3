-- Each input is cut at a separator line or has none, and each formula part is accepted or refused.
use Rattle.std.proofs.Common.{◌≡◌, ◌≢◌, ◌∙◌, ℕ, zero, suc, ◌+◌, ◌-◌, ◌<◌, ◌≤◌, ◌⊎◌, inl, inr, Bool, true, false, List, [], ◌∷◌, ◌++◌, length, take, drop}
use Rattle.std.proofs.Common.{get_or, codes, refl, sym, ap, subst, arith, length-append, append_assoc}
use Rattle.std.specs.Str.{bytes_eq}
use Rattle.std.proofs.lemmas.Bool.{cases_lt}
use Rattle.std.proofs.lemmas.List.{take-append-drop}
use Rattle.std.proofs.lemmas.Slice.Eq.{bytes_eq-Decides}
use Rattle.ltl_syntax.specs.Formula.{Formula}
use Rattle.ltl_parser.specs.Text.{IsAccepted}
use Rattle.formula_reading.proofs.OneReading.{accepted_or_fault}
use Rattle.report.specs.declared.fault.Fault.{Fault}
use Rattle.report.specs.declared.fault.Fault.TheVariants as faults
use Rattle.program_input.specs.Parts.{newline, EndsLine, BeginsLine, IsLine, HasNoSeparator, IsCut}
use Rattle.program_input.specs.Inner.{OpensSecond, OpensNothing}
use Rattle.program_input.specs.Reading.{refusal_of, RefusesPart, IsParted, uncut, unread, accepted}
use Rattle.program_input.proofs.Refusing.{refuses_part}
use Rattle.program_input.proofs.Cutting.{IsStart, later, none_at_all, first_cut, opens_drop, plain_opens, return_opens, no_end, no_end_return}
pub use Rattle.formula_reading.proofs.OneReading.{EachHasOutcome}

-- ---- the cut

same_bytes : (x y : List ℕ) → (x ≡ y) ⊎ (x ≢ y)
same_bytes x y = by (bytes_eq x y) refl
  where
    by : (t : Bool) → bytes_eq x y ≡ t → (x ≡ y) ⊎ (x ≢ y)
    by true e = inl ((bytes_eq-Decides x y).0 e)
    by false e = inr (λ s. let there : bytes_eq x y ≡ true = (bytes_eq-Decides x y).1 s in cc)

begins_or_not : (after : List ℕ) → ((text : List ℕ) × BeginsLine after text) ⊎ ((text : List ℕ) → ¬ (BeginsLine after text))
begins_or_not [] = inl ([], inl (refl, refl))
begins_or_not (x ∷ xs) = elim (same_bytes (x ∷ []) newline) [
  | inl e ↦ inl (xs, inr (ap (λ l. l ++ xs) e))
  | inr n ↦ inr (none n)
] where
  none : x ∷ [] ≢ newline → (text : List ℕ) → ¬ (BeginsLine (x ∷ xs) text)
  none n text (inl (e, f)) = cc
  none n text (inr e) = n (ap (take 1) e)

newline_there : (text rest : List ℕ) → get_or ((text ++ newline) ++ rest) (length text) 0 ≡ 10
newline_there [] rest = refl
newline_there (x ∷ xs) rest = newline_there xs rest

no_start : (bytes : List ℕ) (start : ℕ) → 0 < start → get_or bytes (start - 1) 0 ≢ 10 → OpensNothing bytes start
no_start bytes start more other second h = by h.begins
  where
    by : EndsLine h.before h.text → ⊥
    by (inl (e, f)) = let n = ap length e in let p = h.place in omega arith
    by (inr e) =
        let n = ap length e in
        let p = h.place in
        let whole : bytes ≡ (h.text ++ newline) ++ (h.line ++ h.after) =
        h.whole ∙ append_assoc h.before h.line h.after ∙ ap (λ b. b ++ (h.line ++ h.after)) e in
        let at : length h.text ≡ start - 1 = omega (arith, length-append h.text newline) in
        other (ap (λ b. get_or b (start - 1) 0) whole
        ∙ subst (λ i. get_or ((h.text ++ newline) ++ (h.line ++ h.after)) i 0 ≡ 10) at (newline_there h.text (h.line ++ h.after)))

start_or_not : (bytes : List ℕ) (start : ℕ) → IsStart bytes start ⊎ OpensNothing bytes start
start_or_not bytes start = elim (cases_lt 0 start) [
  | inr none ↦ inl (inl (omega arith))
  | inl more ↦ elim (same_bytes (get_or bytes (start - 1) 0 ∷ []) newline) [
    | inl e ↦ inl (inr (more, ap (λ l. get_or l 0 0) e))
    | inr n ↦ inr (no_start bytes start more (λ e. n (ap (λ x. x ∷ []) e)))
  ]
]

no_dashes : (bytes : List ℕ) (start : ℕ) → take 3 (drop start bytes) ≢ codes "---" → OpensNothing bytes start
no_dashes bytes start other second h = elim h.separator [
  | inl e ↦ other (ap (take 3) (opens_drop bytes start second h ∙ ap (λ l. l ++ h.after) e))
  | inr e ↦ other (ap (take 3) (opens_drop bytes start second h ∙ ap (λ l. l ++ h.after) e))
]

abbrev IsTold : List ℕ → ℕ → Type 0
IsTold bytes start = ((second : List ℕ) × OpensSecond bytes start second) ⊎ OpensNothing bytes start

behind_dashes : (bytes : List ℕ) (start : ℕ) (after : List ℕ) → start ≤ length bytes → IsStart bytes start
    → drop start bytes ≡ codes "---" ++ after → IsTold bytes start
behind_dashes bytes start after low at e = elim (same_bytes (take 1 after) (13 ∷ [])) [
  | inl is ↦
      let whole : drop start bytes ≡ codes "---" ++ 13 ∷ drop 1 after =
      e ∙ ap (λ a. codes "---" ++ a) (sym (take-append-drop 1 after) ∙ ap (λ l. l ++ drop 1 after) is) in
      elim (begins_or_not (drop 1 after)) [
        | inl w ↦ inl (w.0, return_opens bytes start (drop 1 after) w.0 low at whole w.1)
        | inr none ↦ inr (no_end_return bytes start (drop 1 after) whole none)
      ]
  | inr other ↦ elim (begins_or_not after) [
    | inl w ↦ inl (w.0, plain_opens bytes start after w.0 low at e w.1)
    | inr none ↦ inr (no_end bytes start after e other none)
  ]
]

-- a separator line begins there, or none does
opens_or_not : (bytes : List ℕ) (start : ℕ) → start ≤ length bytes → IsTold bytes start
opens_or_not bytes start low = elim (start_or_not bytes start) [
  | inr none ↦ inr none
  | inl at ↦ elim (same_bytes (take 3 (drop start bytes)) (codes "---")) [
    | inl e ↦
        behind_dashes bytes start (drop 3 (drop start bytes)) low at (sym (take-append-drop 3 (drop start bytes)) ∙ ap (λ l. l ++ drop 3 (drop start bytes)) e)
    | inr other ↦ inr (no_dashes bytes start other)
  ]
]

abbrev pub IsCutOrNot : List ℕ → Type 0
IsCutOrNot bytes = ((part : List ℕ) × (second : List ℕ) × IsCut bytes part second) ⊎ HasNoSeparator bytes

cut_from : (bytes : List ℕ) (n start : ℕ) → start + n ≡ length bytes → ((b l a : List ℕ) → IsLine bytes b l a → start ≤ length b) → IsCutOrNot bytes
cut_from bytes zero start e below = inr (none_at_all bytes start (omega arith) below)
cut_from bytes (suc n) start e below = elim (opens_or_not bytes start (omega arith)) [
  | inl w ↦ inl (take (start - 1) bytes, w.0, first_cut bytes start (take (start - 1) bytes) w.0 below w.1 refl)
  | inr none ↦ cut_from bytes n (start + 1) (omega arith) (later bytes start below none)
]

pub cut_or_not : (bytes : List ℕ) → IsCutOrNot bytes
cut_or_not bytes = cut_from bytes (length bytes) 0 (omega arith) (λ b l a h. omega arith)

-- ---- the formula part

pub accepted_or_refused : EachHasOutcome → (part : List ℕ) → ((f : Formula) × IsAccepted part f) ⊎ ((fault : Fault) × RefusesPart part fault)
accepted_or_refused outcome part = elim (accepted_or_fault outcome part) [
  | inl read ↦ inl read
  | inr own ↦ inr (refusal_of own.0, refuses_part part own.0 own.1)
]

-- an accepted formula and a second part have an answer
abbrev pub HasSome : (Answer : Type 0) → (Formula → List ℕ → Answer → Type 0) → Type 0
HasSome Answer Claim = (part second : List ℕ) (f : Formula) → IsAccepted part f → (a : Answer) × Claim f second a

pub some_parted : EachHasOutcome → (Answer : Type 0) (refused : Fault → Answer) (Claim : Formula → List ℕ → Answer → Type 0) → HasSome Answer Claim
    → (bytes : List ℕ) → (a : Answer) × IsParted Answer refused Claim bytes a
some_parted outcome Answer refused Claim some bytes = elim (cut_or_not bytes) [
  | inr none ↦ (refused faults.NoSeparator, uncut none)
  | inl (part, second, cut) ↦ elim (accepted_or_refused outcome part) [
    | inl (f, read) ↦ let w = some part second f read in (w.0, accepted part second f w.0 cut read w.1)
    | inr (fault, h) ↦ (refused fault, unread part second fault cut h)
  ]
]
