-- What the private calls give. No public contract cites this file.
use Rattle.std.specs.Prelude.{◌≡◌, ◌⊎◌, ℕ, List, Option}
use Rattle.ltl_syntax.specs.declared.node.Kind.{Kind}
use Rattle.report.specs.declared.status.Status.{Status}
use Rattle.report.specs.declared.status.Status.TheVariants as statuses
use Rattle.program_input.specs.Taking.{AreLeft}
use Rattle.requirement_certificate.specs.Verified.{IsVerified}
use Rattle.requirements_top.specs.Words.{Query}
use Rattle.requirements_top.specs.Texts.{beyond_text}
use Rattle.requirements_top.specs.Answer.{IsOutput}
use Rattle.requirements_top.specs.declared.output.Output.{Output}

-- the output has the status and the text
pub record Shows (output : Output) (status : Status) (text : List ℕ) : Type 0 where
  pub same_status : output.status ≡ status
  pub same_text : output.text.items ≡ text

-- the text of a certificate where it is verified, and else that it is beyond a limit of texts
abbrev pub ShowsTried : Kind → List ℕ → Output → Type 0
ShowsTried kind text output =
    (IsVerified kind text × Shows output statuses.Good text) ⊎ ((¬ (IsVerified kind text)) × Shows output statuses.Limit beyond_text)

-- what is printed of what the source had left, where this is asked of it
pub record IsGivenTo (query : Query) (rest : Option (List ℕ)) (status : Status) (text : List ℕ) : Type 0 where
  pub bytes : List ℕ
  pub left : AreLeft rest bytes
  pub lawful : IsOutput query bytes status text
