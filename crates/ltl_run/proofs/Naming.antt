-- The names that the code collects are those of the closure's letters, and no two letters have one name.
use Rattle.std.proofs.Common.{◌≡◌, ℕ, zero, suc, ◌-◌, ◌<◌, true, false, List, [], ◌∷◌, ◌++◌, length, get_or, filter, map, Option, Some, None, Contains, All}
use Rattle.std.proofs.Common.{refl, sym, ◌∙◌, ap, subst, arith}
use Rattle.std.specs.Fmt.{decimal}
use Rattle.std.proofs.lemmas.Fmt.{decimal_injective}
use Rattle.std.proofs.lemmas.List.{append_cancel_right}
use Rattle.std.proofs.lemmas.List.Elements.{All-get_or}
use Rattle.ltl_syntax.specs.Formula.{Atom, Name, Fresh, Formula}
use Rattle.ltl_syntax.specs.Table.{IsPlain}
use Rattle.ltl_word.specs.Trace.{Names}
use Rattle.ltl_word.specs.Holds.{name_of}
use Rattle.ltl_closure.specs.Norm.{Norm, NConst, NLetter, NNotLetter, NAnd, NOr, NNext, NWeakNext, NYesterday, NWeakYesterday, NUntil, NRelease, NSince}
use Rattle.ltl_closure.specs.Norm.{NTrigger}
use Rattle.ltl_closure.specs.Closure.{closure}
use Rattle.ltl_closure.specs.Entries.{place_in, StandsAmong, AreEntries}
use Rattle.ltl_closure.specs.declared.entry.Entry.{Entry}
use Rattle.ltl_closure.specs.declared.entry.Entry.TheVariants as Is
use Rattle.ltl_closure.proofs.Places.{entry_place, place_within, place_from_one}
use Rattle.ltl_run.specs.Plain.{IsPlainLetter}
use Rattle.ltl_run.specs.States.{is_letter, letters}
use Rattle.ltl_run.specs.Shown.{entry_name, name_before, entry_names, IsSmall}

-- the name of a letter of the normal form
abbrev pub letter_name : Norm → Option (List ℕ)
letter_name (NLetter p) = Some (name_of p)
letter_name e = None

-- and its bytes, where it is one
abbrev pub the_name : Norm → List ℕ
the_name (NLetter p) = name_of p
the_name e = []

module _ (known : Names) (kept : List Norm) where
  stands_name : (e : Norm) (x : Entry) → StandsAmong known kept e x → entry_name known x ≡ letter_name e
  stands_name (NConst true) x h = ap (entry_name known) h
  stands_name (NConst false) x h = ap (entry_name known) h
  stands_name (NLetter (Name bytes)) x h = ap (entry_name known) h.1 ∙ ap Some h.3
  stands_name (NLetter (Fresh n)) x h = ap (entry_name known) h
  stands_name (NNotLetter p) x h = ap (entry_name known) h
  stands_name (NAnd a b) x h = ap (entry_name known) h
  stands_name (NOr a b) x h = ap (entry_name known) h
  stands_name (NNext a) x h = ap (entry_name known) h
  stands_name (NWeakNext a) x h = ap (entry_name known) h
  stands_name (NYesterday a) x h = ap (entry_name known) h
  stands_name (NWeakYesterday a) x h = ap (entry_name known) h
  stands_name (NUntil a b) x h = ap (entry_name known) h
  stands_name (NRelease a b) x h = ap (entry_name known) h
  stands_name (NSince a b) x h = ap (entry_name known) h
  stands_name (NTrigger a b) x h = ap (entry_name known) h

  one_more : (e : Norm) (rest : List Norm) (names : Names) → names ≡ map the_name (filter is_letter rest)
      → name_before (letter_name e) names ≡ map the_name (filter is_letter (e ∷ rest))
  one_more (NLetter p) rest names h = ap (λ ns. name_of p ∷ ns) h
  one_more other rest names h = h

  names_agree : (es : List Norm) (xs : List Entry) → length xs ≡ length es
      → ((k : ℕ) → k < length es → StandsAmong known kept (get_or es k (NConst false)) (get_or xs k Is.True))
      → entry_names known xs ≡ map the_name (filter is_letter es)
  names_agree [] [] n h = refl
  names_agree [] (x ∷ xs) n h = absurd (omega arith)
  names_agree (e ∷ es) [] n h = absurd (omega arith)
  names_agree (e ∷ es) (x ∷ xs) n h =
      ap (λ o. name_before o (entry_names known xs)) (stands_name e x (h zero (omega arith)))
      ∙ one_more e es (entry_names known xs) (names_agree es xs (omega arith) (λ k lt. h (suc k) (omega arith)))

brace_not_plain : (bytes rest : List ℕ) → IsPlain bytes → bytes ≡ 123 ∷ rest → ⊥
brace_not_plain [] rest h e = cc
brace_not_plain (b ∷ bytes) rest h e = h (cc)

same_digits : (m n : ℕ) → name_of (Fresh m) ≡ name_of (Fresh n) → decimal m ≡ decimal n
same_digits m n e = append_cancel_right (decimal m) (decimal n) (125 ∷ []) (tails (decimal m ++ 125 ∷ []) (decimal n ++ 125 ∷ []) e)
  where
    tails : (xs ys : List ℕ) → 123 ∷ xs ≡ 123 ∷ ys → xs ≡ ys
    tails xs ys e = cc

-- two letters with one name are one
pub one_name : (p q : Atom) → IsPlainLetter p → IsPlainLetter q → name_of p ≡ name_of q → p ≡ q
one_name (Name a) (Name b) h k e = ap Name e
one_name (Name a) (Fresh n) h k e = absurd (brace_not_plain a _ h e)
one_name (Fresh m) (Name b) h k e = absurd (brace_not_plain b _ k (sym e))
one_name (Fresh m) (Fresh n) h k e = ap Fresh (decimal_injective m n (omega arith) (omega arith) (same_digits m n e))

module _ (known : Names) (f : Formula) (entries : List Entry) (are : AreEntries known f entries) where
  pub letter_names_are : entry_names known entries ≡ map the_name (letters f)
  letter_names_are = names_agree known (closure f) (closure f) entries are.long are.each

  module _ (plain : (i : ℕ) → i < length known → IsPlain (get_or known i [])) (small : All IsSmall entries) where
    letter_told : (p : Atom) (x : Entry) → StandsAmong known (closure f) (NLetter p) x → IsSmall x → IsPlainLetter p
    letter_told (Name bytes) x h s = subst IsPlain h.3 (plain h.0 h.2)
    letter_told (Fresh n) x h s = subst IsSmall h s

    told : (p : Atom) → Contains (closure f) (NLetter p) → IsPlainLetter p
    told p c =
        let k = place_in (closure f) (NLetter p) - 1 in
        let lt : place_in (closure f) (NLetter p) - 1 < length (closure f) =
        omega (arith, place_within (closure f) (NLetter p) c, place_from_one (closure f) (NLetter p)) in
        let n = are.long in
        letter_told p _ (subst (λ e. StandsAmong known (closure f) e (get_or entries (place_in (closure f) (NLetter p) - 1) Is.True))
        (entry_place (closure f) (NLetter p) (NConst false) c) (are.each (place_in (closure f) (NLetter p) - 1) lt))
        (All-get_or IsSmall entries (place_in (closure f) (NLetter p) - 1) Is.True (omega arith) small)

    -- two letters of the closure with one name are one
    pub letters_differ : (p q : Atom) → Contains (closure f) (NLetter p) → Contains (closure f) (NLetter q) → name_of p ≡ name_of q → p ≡ q
    letters_differ p q c d e = one_name p q (told p c) (told q d) e
