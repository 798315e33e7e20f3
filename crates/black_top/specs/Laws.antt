-- What the law says by which there is an answer.
use Rattle.std.specs.Prelude.{◌≡◌, ◌<◌, ◌⊎◌, ℕ, true, List, length, Option}
use Rattle.ltl_syntax.specs.declared.node.Kind.{Kind}
use Rattle.ltl_syntax.specs.declared.node.Kind.TheVariants as kinds
use Rattle.ltl_syntax.specs.Formula.{Formula}
use Rattle.ltl_parser.specs.Text.{IsAccepted}
use Rattle.ltl_closure.specs.Run.{IsVerdict, Unsat}
use Rattle.derivation.specs.Steps.{DerivationValue}
use Rattle.enc_layout.specs.Limit.{IsInForce}
use Rattle.unravel.specs.Decision.{IsRefutation}
use Rattle.cert_text.specs.Text.{greatest_u64}
use Rattle.system_check.specs.System.{whole_of}
use Rattle.command_words.specs.Words.{Command, Solve, Check, Trace, Demo, Batch, System, Monitor, Depast, Asks, kind_of, depth_of, cert_of}
use Rattle.black_top.specs.Answer.{Answer}
use Rattle.black_top.specs.Solve.{number_of}
use Rattle.black_top.specs.System.{AreSystem}
use Rattle.black_top.specs.Run.{IsAnswer}

-- whatever lines refute the formula at depth k are more than a certificate can number
abbrev pub IsLong : Formula → Kind → ℕ → Type 0
IsLong f kind k = (log : DerivationValue) (targets : List ℕ) → IsRefutation f kind k log targets → greatest_u64 < length log.lines

-- the verdict at the limit in force is UNSAT, and they are so at its depth
abbrev pub NeedsLong : Formula → Kind → Option ℕ → Type 0
NeedsLong f kind wanted = (limit : ℕ) × (k : ℕ) × IsInForce f kind (number_of wanted) limit × IsVerdict f kind limit (Unsat k) × IsLong f kind k

-- the command asks for a certificate of such a formula
abbrev pub AsksLong : List ℕ → Command → Type 0
AsksLong bytes (Solve settings) =
    (cert_of settings ≡ true) × (f : Formula) × IsAccepted bytes f × NeedsLong f (kind_of settings) (depth_of settings)
AsksLong bytes (Check settings) = ⊥
AsksLong bytes Trace = ⊥
AsksLong bytes (Demo n) = ⊥
AsksLong bytes (Batch settings) = ⊥
AsksLong bytes (System settings) =
    (cert_of settings ≡ true) × (f : Formula) × (g : Formula) × (h : Formula) × AreSystem bytes f g h
    × NeedsLong (whole_of f g h) kinds.Infinite (depth_of settings)
AsksLong bytes Monitor = ⊥
AsksLong bytes Depast = ⊥

-- words have an answer to the bytes, or ask for a certificate that no text can number
abbrev pub AnswerIsThere : Type 0
AnswerIsThere = (words : List (List ℕ)) (bytes : List ℕ)
    → ((answer : Answer) × IsAnswer words bytes answer) ⊎ ((command : Command) × Asks words command × AsksLong bytes command)
