-- What is claimed of what a source had left: of an answer to it, of the formula that it is, or of its formula and its second part.
use Rattle.std.specs.Prelude.{ℕ, List, Option}
use Rattle.ltl_syntax.specs.Formula.{Formula}
use Rattle.ltl_parser.specs.Text.{IsAccepted}
use Rattle.program_input.specs.Parts.{IsCut}
use Rattle.program_input.specs.Taking.{AreLeft}

-- the answer comes of what the source had left
pub record IsLeft (Answer : Type 0) (Comes : List ℕ → Answer → Type 0) (rest : Option (List ℕ)) (answer : Answer) : Type 0 where
  pub bytes : List ℕ
  pub left : AreLeft rest bytes
  pub lawful : Comes bytes answer

-- what is claimed of the text that the source had left and of the accepted formula that it reads as
abbrev pub OfFormula : Option (List ℕ) → (List ℕ → Formula → Type 0) → Type 0
OfFormula rest Claim = (bytes : List ℕ) × AreLeft rest bytes × (f : Formula) × IsAccepted bytes f × Claim bytes f

-- what is claimed of the accepted formula and of the second part of what the source had left
pub record OfParts (rest : Option (List ℕ)) (Claim : Formula → List ℕ → Type 0) : Type 0 where
  pub bytes : List ℕ
  pub left : AreLeft rest bytes
  pub part : List ℕ
  pub second : List ℕ
  pub cut : IsCut bytes part second
  pub formula : Formula
  pub accepted : IsAccepted part formula
  pub claim : Claim formula second
