-- What the letters of a step are worth.
use Rattle.std.proofs.Common.{◌≡◌, ℕ, ◌+◌, ◌-◌, ◌*◌, ◌<◌, ◌≤◌, Bool, false, ap, ◌∙◌, arith, le-leb, Contains, if◌then◌else◌}
use Rattle.std.specs.Prelude.{nat_le}
use Rattle.std.proofs.lemmas.Bool.{cond-true, cond-false, lt-leb}
use Rattle.ltl_syntax.specs.Formula.{Formula}
use Rattle.ltl_closure.specs.Norm.{Norm, NConst}
use Rattle.ltl_closure.specs.Closure.{closure}
use Rattle.ltl_closure.specs.Entries.{place_in}
use Rattle.ltl_closure.specs.Run.{RunState, val}
use Rattle.ltl_closure.proofs.Places.{place_from_one, place_within, entry_place}
use Rattle.enc_layout.specs.Letters.{Meaning}
use Rattle.enc_layout.specs.Clauses.{letter_of}
use Rattle.claims.specs.Between.{after, first, last, width, number_of}
use Rattle.claims.specs.Sequences.{value_at, step_values}

-- the value of an entry, by its number
pub place_value : (f : Formula) (s : RunState) (e : Norm) → Contains (closure f) e → value_at f s (place_in (closure f) e) ≡ val s e
place_value f s e m = ap (val s) (entry_place (closure f) e (NConst false) m)

module _ (f : Formula) (s u : RunState) (has_next is_first is_last : Bool) where
  -- by number
  pub value_here : (t : ℕ) → t ≤ width f → step_values f s u has_next is_first is_last t ≡ value_at f s t
  value_here t le = cond-true _ _ _ (le-leb t (width f) le)

  pub value_next : (t : ℕ) → 0 < t → t ≤ width f → step_values f s u has_next is_first is_last (width f + t) ≡ value_at f u t
  value_next t lt le =
      let back : width f + t - width f ≡ t = omega arith in
      cond-false _ _ _ (lt-leb (width f + t) (width f) (omega arith))
      ∙ (cond-true _ _ _ (le-leb (width f + t) (2 * width f) (omega arith)) ∙ ap (value_at f u) back)

  -- by what the letter stands for
  abbrev pub meaning_value : Meaning → Bool
  meaning_value p = step_values f s u has_next is_first is_last (number_of (width f) p)

  pub entry_here : (e : Norm) → Contains (closure f) e → meaning_value (letter_of f 0 e) ≡ val s e
  entry_here e m = value_here (place_in (closure f) e) (place_within (closure f) e m) ∙ place_value f s e m

  pub entry_next : (e : Norm) → Contains (closure f) e → meaning_value (letter_of f 1 e) ≡ val u e
  entry_next e m = value_next (place_in (closure f) e) (place_from_one (closure f) e) (place_within (closure f) e m) ∙ place_value f u e m

  -- behind the entries
  beyond : (n : ℕ) → 2 * width f < n
      → step_values f s u has_next is_first is_last n
      ≡ (if nat_le n (2 * width f + 1) then has_next else if nat_le n (2 * width f + 2) then is_first else is_last)
  beyond n lt = cond-false _ _ _ (lt-leb n (width f) (omega arith)) ∙ cond-false _ _ _ (lt-leb n (2 * width f) lt)

  pub after_value : meaning_value after ≡ has_next
  after_value =
      let n : ℕ = 2 * width f + 1 in
      beyond n (omega arith) ∙ cond-true _ _ _ (le-leb n (2 * width f + 1) (omega arith))

  pub first_value : meaning_value first ≡ is_first
  first_value =
      let n : ℕ = 2 * width f + 2 in
      beyond n (omega arith) ∙ (cond-false _ _ _ (lt-leb n (2 * width f + 1) (omega arith)) ∙ cond-true _ _ _ (le-leb n (2 * width f + 2) (omega arith)))

  pub last_value : meaning_value last ≡ is_last
  last_value =
      let n : ℕ = 2 * width f + 3 in
      beyond n (omega arith) ∙ (cond-false _ _ _ (lt-leb n (2 * width f + 1) (omega arith)) ∙ cond-false _ _ _ (lt-leb n (2 * width f + 2) (omega arith)))
