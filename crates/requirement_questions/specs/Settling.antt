-- What is found of some of the given formulas and what is asked.
use Rattle.std.specs.Prelude.{◌≡◌, ℕ, ◌<◌, List, length, ⊤}
use Rattle.ltl_syntax.specs.Size.{formula_size}
use Rattle.ltl_syntax.specs.Table.{Table, tree_at}
use Rattle.claims.specs.Lawful.{IsLawful}
use Rattle.claim_check.specs.declared.certificate.Certificate.{Certificate}
use Rattle.claim_check.specs.Data.{certificate_in}
use Rattle.requirement_questions.specs.declared.questions.Question.{Question}
use Rattle.requirement_questions.specs.declared.members.Member.{Member}
use Rattle.requirement_questions.specs.declared.leaving.Because.{Because}
use Rattle.requirement_questions.specs.declared.settling.Refuted.{Refuted}
use Rattle.requirement_questions.specs.declared.settling.Settled.{Settled}
use Rattle.requirement_questions.specs.declared.settling.Settled.TheVariants as settled
use Rattle.requirement_questions.specs.Formulas.{all_of, SatisfiesEach, some_formulas}
use Rattle.requirement_questions.specs.Members.{noted}

-- the certificate is lawful for the formula that says that these given formulas hold, and what is asked
pub record IsRefuted (q : Question) (numbers : List ℕ) (c : Certificate) (t : Table) (root : ℕ) : Type 0 where
  pub there : root < length t.nodes
  pub formula : tree_at t root ≡ all_of (some_formulas q numbers)
  pub lawful : IsLawful (tree_at t root) q.kind (certificate_in c)

-- the members stand with this certificate, and its formula
pub record IsMade (ms : List Member) (r : Refuted) (b : Because) : Type 0 where
  pub members : b.members.items ≡ ms
  pub certificate : b.certificate ≡ r.certificate
  pub table : b.table ≡ r.table
  pub root : b.root ≡ r.root

-- the same but for members that are noted as needed
pub record IsNoted (before : Because) (k count : ℕ) (after : Because) : Type 0 where
  pub members : after.members.items ≡ noted k count before.members.items
  pub certificate : after.certificate ≡ before.certificate
  pub table : after.table ≡ before.table
  pub root : after.root ≡ before.root

-- a trace that satisfies each; a certificate that none does; neither; or the formula that says all of it is too large
abbrev pub IsSettled : Question → List ℕ → Settled → Type 0
IsSettled q numbers (settled.Possible t) = SatisfiesEach q.kind (some_formulas q numbers) t
IsSettled q numbers (settled.Impossible r) = IsRefuted q numbers r.value.certificate r.value.table r.value.root
IsSettled q numbers settled.Undecided = ⊤
IsSettled q numbers settled.TooLarge = 16384 < formula_size (all_of (some_formulas q numbers))
