-- Where what a machine has read is the text up to where it is. Some bytes may be left that must come.
use Rattle.std.proofs.Common.{◌≡◌, ℕ, List, [], ◌∷◌, ◌++◌, Option, Some, refl, ap, ◌∙◌, append_assoc}
use Rattle.cert_text.specs.Machine.{run_by}
use Rattle.cert_text.proofs.Machine.{run_step, run_keeps}

-- the bytes that are read, those that must come, and the rest are the text up to the place and the rest
pub record HasRead {S : Type 0} (left : S → List ℕ) (before : S → List ℕ → List ℕ) (IsPlace : S → Type 0) (bytes : List ℕ) (s : S) : Type 0 where
  pub text : (rest : List ℕ) → bytes ++ (left s ++ rest) ≡ before s rest
  pub place : IsPlace s

-- a byte leads from s to t: it begins what must come at s, or goes on behind that, and the text does not change
pub record LeadsOn {S : Type 0} (left : S → List ℕ) (before : S → List ℕ → List ℕ) (IsPlace : S → Type 0) (s : S) (b : ℕ) (t : S) : Type 0 where
  pub text : (rest : List ℕ) → (more : List ℕ) × (b ∷ (left t ++ rest) ≡ left s ++ more) × (before s more ≡ before t rest)
  pub place : IsPlace t

pub reads_on : {S : Type 0} (step : S → ℕ → Option S) (left : S → List ℕ) (before : S → List ℕ → List ℕ) (IsPlace : S → Type 0)
    → ((s : S) (b : ℕ) (t : S) → IsPlace s → step s b ≡ Some t → LeadsOn left before IsPlace s b t)
    → (more bytes : List ℕ) (s t : S) → HasRead left before IsPlace bytes s → run_by step s more ≡ Some t → HasRead left before IsPlace (bytes ++ more) t
reads_on {S} step left before IsPlace leads = run_keeps step (HasRead left before IsPlace) one
  where
    one : (bytes : List ℕ) (s t : S) (b : ℕ) → HasRead left before IsPlace bytes s → step s b ≡ Some t → HasRead left before IsPlace (bytes ++ b ∷ []) t
    one bytes s t b has e =
        let on = leads s b t has.place e in
        record {
          text = λ rest. let k = on.text rest in append_assoc bytes (b ∷ []) (left t ++ rest) ∙ ap (λ w. bytes ++ w) k.1 ∙ has.text k.0 ∙ k.2;
          place = on.place;
        }

-- the bytes that must come are read
pub run_left : {S : Type 0} (step : S → ℕ → Option S) (at : List ℕ → S) → ((x : ℕ) (xs : List ℕ) → step (at (x ∷ xs)) x ≡ Some (at xs))
    → (left rest : List ℕ) → run_by step (at left) (left ++ rest) ≡ run_by step (at []) rest
run_left step at must [] rest = refl
run_left step at must (x ∷ left) rest = run_step step (at (x ∷ left)) (at left) x (left ++ rest) (must x left) ∙ run_left step at must left rest
