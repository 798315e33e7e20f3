-- The states that the code collects show the run.
use Rattle.std.proofs.Common.{◌≡◌, ℕ, suc, ◌-◌, ◌<◌, ◌≤◌, false, List, [], length, get_or, map, Some, None, slice_get, Contains, All, IsTrue, refl, sym, ◌∙◌}
use Rattle.std.proofs.Common.{ap, subst, arith, ◌⊎◌, inl, inr}
use Rattle.std.proofs.lemmas.List.{get_or-map, length-map}
use Rattle.std.proofs.lemmas.List.Elements.{Contains-get_or}
use Rattle.std.proofs.lemmas.Option.{slice_get_cases}
use Rattle.ltl_syntax.specs.Formula.{Atom, Formula}
use Rattle.ltl_syntax.specs.Table.{IsPlain}
use Rattle.ltl_word.specs.Trace.{Names}
use Rattle.ltl_word.specs.Holds.{name_of}
use Rattle.ltl_closure.specs.Norm.{Norm, NConst, NLetter, NNotLetter, NAnd, NOr, NNext, NWeakNext, NYesterday, NWeakYesterday, NUntil, NRelease, NSince}
use Rattle.ltl_closure.specs.Norm.{NTrigger}
use Rattle.ltl_closure.specs.Closure.{closure}
use Rattle.ltl_closure.specs.Entries.{place_in, AreEntries}
use Rattle.ltl_closure.specs.declared.entry.Entry.{Entry}
use Rattle.ltl_closure.proofs.Lists.{Contains-filter, Contains-from_filter}
use Rattle.ltl_closure.proofs.Places.{entry_place, place_within, place_from_one}
use Rattle.ltl_run.specs.declared.run_state.RunState.{RunState}
use Rattle.ltl_run.specs.States.{is_letter, letters, value_in, value_if, run_of}
use Rattle.ltl_run.specs.Shown.{entry_names, IsSmall, HasChosen, HaveChosen}
use Rattle.ltl_run.specs.TraceOf.{Shows, AreShown}
use Rattle.ltl_run.proofs.Letters.{letters_placed}
use Rattle.ltl_run.proofs.Naming.{the_name, letter_names_are, letters_differ}

pub letter_of : (e : Norm) → IsTrue (is_letter e) → (p : Atom) × (e ≡ NLetter p)
letter_of (NLetter p) h = (p, refl)
letter_of other h = cc

module _ (f : Formula) (names : Names) (are : names ≡ map the_name (letters f))
    (differ : (p q : Atom) → Contains (closure f) (NLetter p) → Contains (closure f) (NLetter q) → name_of p ≡ name_of q → p ≡ q) where
  long : length names ≡ length (letters f)
  long = ap length are ∙ length-map (letters f) the_name

  -- the letter at a place, and its name
  letter_at : (j : ℕ) → j < length names
      → (p : Atom) × (get_or (letters f) j (NConst false) ≡ NLetter p) × Contains (closure f) (NLetter p) × (get_or names j [] ≡ name_of p)
  letter_at j lt =
      let n = long in
      let within : j < length (letters f) = omega arith in
      let w = Contains-from_filter is_letter (closure f) (get_or (letters f) j (NConst false)) (Contains-get_or (letters f) j (NConst false) within) in
      let p = letter_of (get_or (letters f) j (NConst false)) w.1 in (
        p.0,
        p.1,
        subst (Contains (closure f)) p.1 w.0,
        ap (λ ns. get_or ns j []) are ∙ (get_or-map the_name (letters f) j (NConst false) [] within ∙ ap the_name p.1),
      )

  module _ (s : RunState) (shown : Names) (chosen : HasChosen names s shown) where
    holds_to : (p : Atom) → Contains (closure f) (NLetter p) → IsTrue (value_in f s (NLetter p)) → Contains shown (name_of p)
    holds_to p c v =
        let n = long in
        let d = Contains-filter is_letter (closure f) (NLetter p) c refl in
        let le = place_within (letters f) (NLetter p) d in
        let lt = place_from_one (letters f) (NLetter p) in
        let within : place_in (letters f) (NLetter p) - 1 < length (letters f) = omega arith in
        (chosen (name_of p)).1 (
          place_in (letters f) (NLetter p) - 1,
          omega arith,
          v,
          ap (λ ns. get_or ns (place_in (letters f) (NLetter p) - 1) []) are ∙ (get_or-map the_name (letters f) (place_in (letters f) (NLetter p) - 1)
              (NConst false) [] within ∙ ap the_name (entry_place (letters f) (NLetter p) (NConst false) d)),
        )

    only : (name : List ℕ) → Contains shown name → (p : Atom) × Contains (closure f) (NLetter p) × IsTrue (value_in f s (NLetter p)) × (name ≡ name_of p)
    only name c =
        let w = (chosen name).0 c in
        let p = letter_at w.0 w.1 in
        let n = long in
        let place : place_in (letters f) (NLetter p.0) ≡ suc w.0 = ap (place_in (letters f)) (sym p.1) ∙ letters_placed f w.0 (NConst false) (omega arith) in
        let e : place_in (letters f) (NLetter p.0) - 1 ≡ w.0 = omega arith in
        (p.0, p.2, subst (λ k. IsTrue (get_or s.letters.items k false)) (sym e) w.2, sym w.3 ∙ p.3)

    pub state_shows : Shows f (value_in f s) shown
    state_shows = record {
      letters = λ p c. (
        holds_to p c,
        λ d.
            let w = only (name_of p) d in
            subst (λ q. IsTrue (value_in f s (NLetter q))) (sym (differ p w.0 c w.1 w.3)) w.2,
      );
      only = λ name c. let w = only name c in (w.0, w.1, w.3);
    }

  pub states_shown : (states : List RunState) (shown : List Names) → 0 < length states → HaveChosen names states (length states) shown
      → AreShown f (run_of f states) (length states - 1) shown
  states_shown states shown some have = record {
    states_length = let n = have.count in omega arith;
    first = λ i le. at i (omega arith) (slice_get_cases states i).1;
  } where
    at : (i : ℕ) → i < length states → ((s : RunState) × (i < length states) × (slice_get states i ≡ Some s) × (get_or states i s ≡ s))
        ⊎ ((length states ≤ i) × (slice_get states i ≡ None)) → Shows f (run_of f states i) (get_or shown i [])
    at i lt (inl (s, l, e, d)) = subst (λ o. Shows f (value_if f o) (get_or shown i [])) (sym e) (state_shows s (get_or shown i []) (have.each i s lt e))
    at i lt (inr w) = absurd (omega arith)

module _ (known : Names) (f : Formula) (entries : List Entry) (names : Names) (are : AreEntries known f entries)
    (named : names ≡ entry_names known entries) where
  pub names_long : length names ≡ length (letters f)
  names_long = ap length (named ∙ letter_names_are known f entries are) ∙ length-map (letters f) the_name

  -- what the code collects from the entries and the values shows the run
  pub collected_shown : ((i : ℕ) → i < length known → IsPlain (get_or known i [])) → All IsSmall entries → (states : List RunState) → 0 < length states
      → (shown : List Names) → HaveChosen names states (length states) shown → AreShown f (run_of f states) (length states - 1) shown
  collected_shown plain small states some shown have =
      states_shown f names (named ∙ letter_names_are known f entries are) (letters_differ known f entries are plain small) states shown some have
