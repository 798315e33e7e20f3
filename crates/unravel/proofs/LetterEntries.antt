-- The letters among the entries are those of the closure.
use Rattle.std.proofs.Common.{◌≡◌, ℕ, ◌+◌, ◌<◌, true, false, arith, ap, sym, ◌∙◌, List, [], ◌∷◌, ◌++◌, length, take, get_or, cond}
use Rattle.std.specs.Prelude.{filter}
use Rattle.std.proofs.lemmas.List.{append-nil, map-append, get_or_default}
use Rattle.std.proofs.lemmas.List.Elements.{filter_more}
use Rattle.ltl_syntax.specs.Formula.{Formula, Name, Fresh}
use Rattle.ltl_closure.specs.Norm.{Norm, NConst, NLetter}
use Rattle.ltl_closure.specs.Closure.{closure}
use Rattle.ltl_closure.specs.Entries.{place_in, StandsAmong, AreEntries, numbers_of}
use Rattle.ltl_closure.specs.declared.entry.Entry.{Entry}
use Rattle.ltl_closure.specs.declared.entry.Entry.TheVariants as Is
use Rattle.ltl_closure.proofs.Places.{closure_placed}
use Rattle.ltl_run.specs.States.{is_letter}
use Rattle.unravel.specs.Values.{is_letter_entry}

-- an entry is a letter where what it stands for is one
same_letter : (names : List (List ℕ)) (kept : List Norm) (e : Norm) (x : Entry) → StandsAmong names kept e x → is_letter_entry x ≡ is_letter e
same_letter names kept (NConst true) x is = ap is_letter_entry is
same_letter names kept (NConst false) x is = ap is_letter_entry is
same_letter names kept (NLetter (Name bytes)) x is = ap is_letter_entry is.1
same_letter names kept (NLetter (Fresh n)) x is = ap is_letter_entry is
same_letter names kept e x is = ap is_letter_entry is

module _ (names : List (List ℕ)) (f : Formula) (entries : List Entry) (are : AreEntries names f entries) where
  -- the numbers of the letters among the first i members
  abbrev pub first_letters : ℕ → List ℕ
  first_letters i = numbers_of f (filter is_letter (take i (closure f)))

  module _ (i : ℕ) (d : Entry) (lt : i < length entries) where
    inside : i < length (closure f)
    inside = let e = are.long in omega arith

    is_one : is_letter_entry (get_or entries i d) ≡ is_letter (get_or (closure f) i (NConst false))
    is_one =
        ap is_letter_entry (get_or_default entries i d Is.True lt)
        ∙ same_letter names (closure f) (get_or (closure f) i (NConst false)) (get_or entries i Is.True) (are.each i inside)

    next : first_letters (i + 1) ≡ first_letters i ++ numbers_of f
        (cond (is_letter (get_or (closure f) i (NConst false))) (get_or (closure f) i (NConst false) ∷ []) [])
    next =
        ap (numbers_of f) (filter_more is_letter (closure f) i (NConst false) inside)
        ∙ map-append (place_in (closure f)) (filter is_letter (take i (closure f)))
        (cond (is_letter (get_or (closure f) i (NConst false))) (get_or (closure f) i (NConst false) ∷ []) [])

    pub letters_without : is_letter_entry (get_or entries i d) ≡ false → first_letters i ≡ first_letters (i + 1)
    letters_without e = sym (next ∙ ap (λ b. first_letters i ++ numbers_of f (cond b (get_or (closure f) i (NConst false) ∷ []) [])) (sym is_one ∙ e)
        ∙ append-nil (first_letters i))

    pub letters_with : is_letter_entry (get_or entries i d) ≡ true → first_letters i ++ (i + 1) ∷ [] ≡ first_letters (i + 1)
    letters_with e =
        let at : place_in (closure f) (get_or (closure f) i (NConst false)) ≡ i + 1 = closure_placed f i (NConst false) inside ∙ omega arith in
        sym (next ∙ ap (λ b. first_letters i ++ numbers_of f (cond b (get_or (closure f) i (NConst false) ∷ []) [])) (sym is_one ∙ e)
        ∙ ap (λ n. first_letters i ++ n ∷ []) at)
