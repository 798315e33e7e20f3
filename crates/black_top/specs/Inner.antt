-- What the private calls give. No public contract cites this file.
use Rattle.std.specs.Prelude.{◌≡◌, ◌<◌, ◌≤◌, ◌++◌, ℕ, Bool, List, Option, Some}
use Rattle.ltl_syntax.specs.declared.node.Kind.{Kind}
use Rattle.ltl_syntax.specs.Formula.{Formula}
use Rattle.enc_layout.specs.Limit.{IsInForce}
use Rattle.cert_check.specs.Lawful.{IsLawfulAt}
use Rattle.black_top.specs.declared.output.Output.{Output}
use Rattle.command_words.specs.declared.asked.Asked.{Asked}
use Rattle.command_words.specs.declared.asked.Asked.TheVariants as asked
use Rattle.command_words.specs.Asked.{IsDepth, AreWorkers}
use Rattle.program_input.specs.Claims.{IsLeft as IsLeftOf}
use Rattle.report.specs.Texts.{certificate_text}
use Rattle.black_top.specs.Answer.{Answer, status_of, text_of}
use Rattle.black_top.specs.Reading.{IsParted}
use Rattle.black_top.specs.Solve.{number_of, IsReached, Certifies, IsWritten, IsSolved}
use Rattle.black_top.specs.Trace.{IsJudged}
use Rattle.black_top.specs.Check.{IsChecked}
use Rattle.black_top.specs.Monitor.{IsMonitored}
use Rattle.black_top.specs.Demo.{IsShown}
use Rattle.black_top.specs.Batch.{IsBatched}
use Rattle.black_top.specs.System.{IsSystemAnswer}
use Rattle.black_top.specs.Depast.{IsDepasted}

-- the numbers that the words ask for, where they do, are in their ranges
abbrev pub IsInBounds : Asked → Type 0
IsInBounds (asked.Solve options) = IsDepth options.depth × AreWorkers options.workers
IsInBounds (asked.Check options) = AreWorkers options.workers
IsInBounds asked.Trace = Unit {0}
IsInBounds (asked.Demo n) = (2 ≤ n) × (n ≤ 64)
IsInBounds (asked.Batch options) = IsDepth options.depth × AreWorkers options.workers
IsInBounds (asked.System options) = IsDepth options.depth
IsInBounds asked.Monitor = Unit {0}
IsInBounds asked.Depast = Unit {0}

-- the limit in force for the depth that is wanted, which it reaches where one is
abbrev pub IsLimit : Formula → Kind → Option ℕ → ℕ → Type 0
IsLimit f kind wanted limit = IsInForce f kind (number_of wanted) limit × IsReached wanted limit

-- the depth that is wanted has too many letters, and this is the limit in force for it
abbrev pub IsTooDeep : Formula → Kind → Option ℕ → ℕ → Type 0
IsTooDeep f kind wanted limit = (n : ℕ) × (wanted ≡ Some n) × IsInForce f kind n limit × (limit < n)

-- the command's answer to the bytes
abbrev pub Gives : Asked → List ℕ → Answer → Type 0
Gives (asked.Solve options) bytes answer = IsSolved options.kind options.depth options.core options.cert bytes answer
Gives (asked.Check options) bytes answer = IsParted (IsChecked options.kind) bytes answer
Gives asked.Trace bytes answer = IsParted IsJudged bytes answer
Gives (asked.Demo n) bytes answer = IsShown n answer
Gives (asked.Batch options) bytes answer = IsBatched options.kind options.depth bytes answer
Gives (asked.System options) bytes answer = IsSystemAnswer options.depth options.cert bytes answer
Gives asked.Monitor bytes answer = IsParted IsMonitored bytes answer
Gives asked.Depast bytes answer = IsDepasted bytes answer

-- the answer comes of what the source had left
abbrev pub IsLeft : (List ℕ → Answer → Type 0) → Option (List ℕ) → Answer → Type 0
IsLeft Comes rest answer = IsLeftOf Answer Comes rest answer

-- a certificate of this depth is added, which is lawful and written of a log
pub record AddsCertificate (f : Formula) (kind : Kind) (k : ℕ) (before after : List ℕ) : Type 0 where
  pub text : List ℕ
  pub lawful : IsLawfulAt f kind k text
  pub written : IsWritten f kind k text
  pub added : after ≡ before ++ text

-- one is added where it is asked for
pub record AddsShown (cert : Bool) (f : Formula) (kind : Kind) (k : ℕ) (before after : List ℕ) : Type 0 where
  pub shown : Option (List ℕ)
  pub certifies : Certifies cert f kind k shown
  pub added : after ≡ before ++ certificate_text shown

-- the output has the answer's status and its text
pub record Shows (output : Output) (answer : Answer) : Type 0 where
  pub status : output.status ≡ status_of answer
  pub text : output.text.items ≡ text_of answer
