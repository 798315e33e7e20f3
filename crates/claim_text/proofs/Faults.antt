-- Where bytes stop to be the beginning of a text.
use Rattle.std.proofs.Common.{◌≡◌, ℕ, ◌==◌, ◌++◌, List, [], ◌∷◌, length, Option, Some, None, refl, ap, subst, ◌∙◌}
use Rattle.std.proofs.lemmas.Bool.{cond-true, eq-eqb}
use Rattle.claims.specs.Certificate.{Certificate}
use Rattle.cert_text.proofs.Machine.{Machine, says_one, one_fault, no_fault, fault_end, text_or_fault}
use Rattle.cert_text.proofs.Leading.{run_left}
use Rattle.claim_text.specs.Text.{IsTextOf, IsFault}
use Rattle.claim_text.specs.Scan.{Draft, Scan, start, certificate_of, moved, step, run, IsInRange}
use Rattle.claim_text.specs.Laws.{TextsSayOne, OthersHaveFaults, TextsHaveNone, FaultsAreOne, WrittenIsText}
use Rattle.claim_text.specs.declared.place.Place.{Place}
use Rattle.claim_text.specs.declared.place.Place.TheVariants as places
use Rattle.claim_text.proofs.Places.{IsPlace}
use Rattle.claim_text.proofs.Sound.{reads, read_whole}
use Rattle.claim_text.proofs.Complete.{whole_read, ended}
use Rattle.claim_text.proofs.Viable.{viable}

-- the certificate at whose end a pass is
abbrev pub said : Scan → Option Certificate
said ([], places.End, d) = Some (certificate_of d)
said (left, p, d) = None

at_end : (s : Scan) (c : Certificate) → said s ≡ Some c → (d : Draft) × (s ≡ ([], places.End, d)) × (certificate_of d ≡ c)
at_end ([], places.End, d) c e = (d, refl, (let same : certificate_of d ≡ c = cc in same))
at_end ([], places.Kind, d) c e = cc
at_end ([], places.Item, d) c e = cc
at_end ([], places.Literal claim, d) c e = cc
at_end ([], places.Hint, d) c e = cc
at_end ([], places.First role, d) c e = cc
at_end ([], places.More role n, d) c e = cc
at_end (x ∷ xs, p, d) c e = cc

left_read : (left rest : List ℕ) (p : Place) (d : Draft) → run (left, p, d) (left ++ rest) ≡ run ([], p, d) rest
left_read left rest p d = run_left step (λ l. (l, p, d)) (λ x xs. ap (moved d) (cond-true (x == x) _ _ (eq-eqb x x refl))) left rest

pub machine : Machine IsTextOf step start said
machine = record {
  reads = λ bytes c is. (([], places.End, ended c), ap (run start) is.spelled ∙ whole_read c is.lawful, refl);
  whole = λ bytes s c e end. let at = at_end s c end in subst (IsTextOf bytes) at.2 (read_whole bytes at.0 (e ∙ ap (λ t. Some t) at.1));
  viable = λ bytes s e.
      let way = viable s.1 s.2 (reads bytes s e).place in
      (s.0 ++ way.0, ([], places.End, way.1), certificate_of way.1, left_read s.0 way.0 s.1 s.2 ∙ way.2, refl);
}

pub texts_say_one : TextsSayOne
texts_say_one = says_one machine

pub others_have_faults : OthersHaveFaults
others_have_faults = text_or_fault machine

pub texts_have_none : TextsHaveNone
texts_have_none = no_fault IsTextOf

pub faults_are_one : FaultsAreOne
faults_are_one = one_fault IsTextOf

pub written_is_text : WrittenIsText
written_is_text c is = record { lawful = is; spelled = refl }

-- the fault at the end of bytes that are no whole text
pub not_ended : (bytes : List ℕ) (s : Scan) → run start bytes ≡ Some s → ((d : Draft) → s ≡ ([], places.End, d) → ⊥) → IsFault bytes (length bytes)
not_ended bytes s e other = fault_end machine bytes s e (λ c end. let at = at_end s c end in other at.0 at.1)

-- a number that is being read fits
in_range : (p : Place) (d : Draft) → IsPlace p d → IsInRange p
in_range (places.More role n) d is = (is.1, is.2)
in_range other d is = tt

pub run_range : (bytes : List ℕ) (s : Scan) → run start bytes ≡ Some s → IsInRange s.1
run_range bytes s e = in_range s.1 s.2 (reads bytes s e).place
