-- An answer to an input of two parts is one, is there, and comes of both parts where it is no refusal.
use Rattle.std.proofs.Common.{◌≡◌, ℕ, false, List, refl}
use Rattle.ltl_syntax.specs.Formula.{Formula}
use Rattle.ltl_parser.specs.Text.{IsAccepted}
use Rattle.report.specs.declared.status.Status.{Status}
use Rattle.report.proofs.Statuses.{is_refusal}
use Rattle.program_input.specs.Parts.{IsCut}
use Rattle.program_input.proofs.OneText.{TextLaws}
use Rattle.program_input.proofs.SomeParts.{EachHasOutcome, HasSome as HasSomeOf, some_parted as some_of}
use Rattle.program_input.proofs.TwoParts.{HasOne as HasOneOf, one_parted as one_of, parted as parts_of}
use Rattle.black_top.specs.Answer.{Answer, refused, status_of}
use Rattle.black_top.specs.Reading.{IsParted}

-- what is claimed of a formula and a second part has one answer
abbrev pub HasOne : (Formula → List ℕ → Answer → Type 0) → Type 0
HasOne Claim = HasOneOf Answer Claim

pub one_parted : (Claim : Formula → List ℕ → Answer → Type 0) → HasOne Claim → (bytes : List ℕ) → TextLaws → (a b : Answer)
    → IsParted Claim bytes a → IsParted Claim bytes b → a ≡ b
one_parted Claim one bytes laws a b h k = one_of Answer refused Claim one bytes laws a b h k

-- an accepted formula and a second part have an answer
abbrev pub HasSome : (Formula → List ℕ → Answer → Type 0) → Type 0
HasSome Claim = HasSomeOf Answer Claim

pub some_parted : EachHasOutcome → (Claim : Formula → List ℕ → Answer → Type 0) → HasSome Claim → (bytes : List ℕ) → (a : Answer) × IsParted Claim bytes a
some_parted outcome Claim some bytes = some_of outcome Answer refused Claim some bytes

-- what is claimed of two parts comes of them, and of an accepted formula
pub parted : (Claim : Formula → List ℕ → Answer → Type 0) (bytes : List ℕ) (a : Answer) (s : Status)
    → IsParted Claim bytes a → is_refusal s ≡ false → s ≡ status_of a
    → (part second : List ℕ) × (f : Formula) × IsCut bytes part second × IsAccepted part f × Claim f second a
parted Claim bytes a s h not e = parts_of Answer refused status_of (λ fault. refl) Claim bytes a s h not e
