-- The texts that `black-refute --check` answers VERIFIED.
use Rattle.std.specs.Prelude.{ℕ, List}
use Rattle.ltl_syntax.specs.declared.node.Kind.{Kind}
use Rattle.ltl_syntax.specs.Formula.{Formula}
use Rattle.ltl_parser.specs.Text.{IsAccepted}
use Rattle.claims.specs.Certificate.{Certificate}
use Rattle.claims.specs.Lawful.{IsLawful}
use Rattle.claim_text.specs.Text.{IsTextOf}
use Rattle.program_input.specs.Parts.{IsCut}

-- the text is that of a certificate that is lawful for the formula
pub record IsLawfulText (kind : Kind) (f : Formula) (text : List ℕ) : Type 0 where
  pub certificate : Certificate
  pub is : IsTextOf text certificate
  pub lawful : IsLawful f kind certificate

-- the text is cut at its first separator line into that of an accepted formula, and that of a certificate that is lawful for it
pub record IsVerified (kind : Kind) (text : List ℕ) : Type 0 where
  pub part : List ℕ
  pub second : List ℕ
  pub cut : IsCut text part second
  pub formula : Formula
  pub accepted : IsAccepted part formula
  pub shown : IsLawfulText kind formula second
