-- What the lines that targets stand on are good for.
use Rattle.std.specs.Prelude.{ℕ, ◌≤◌, List, length}
use Rattle.ltl_syntax.specs.declared.node.Kind.{Kind}
use Rattle.ltl_syntax.specs.Formula.{Formula}
use Rattle.cnf_base.specs.Known.{AreKnown}
use Rattle.derivation.specs.Steps.{DerivationValue, AreSteps}
use Rattle.enc_layout.specs.Letters.{letters_through}
use Rattle.enc_layout.specs.Clauses.{counts, clause_list}
use Rattle.enc_layout.specs.Targets.{CloseTableau}
use Rattle.log_trim.specs.Kept.{Marks, trimmed, new_numbers}
use Rattle.log_trim.specs.Marking.{AreLines, AreTheNeeded}
use Rattle.log_trim.specs.Trimmed.{IsTrimmed}
use Rattle.cert_text.specs.Text.{greatest_u64, text_of}
use Rattle.cert_text.specs.Writing.{written}
use Rattle.cert_check.specs.Lawful.{IsLawfulAt}

-- targets that close the tableau are lines
abbrev pub TargetsAreLines : Type 0
TargetsAreLines =
    (f : Formula) (kind : Kind) (k : ℕ) (log : DerivationValue) (targets : List ℕ) → CloseTableau f kind k log.lines targets → AreLines log targets

-- and they close it among the trimmed lines
abbrev pub TrimmedCloses : Type 0
TrimmedCloses = (f : Formula) (kind : Kind) (k : ℕ) (log : DerivationValue) (targets : List ℕ) (M : Marks) → AreTheNeeded log targets M
    → CloseTableau f kind k log.lines targets
    → CloseTableau f kind k (trimmed M log).lines (new_numbers M log.lines targets)

-- what is written of trimmed lines is a lawful certificate of the depth, where the lines are steps over the clause list through k and have
-- the letters from 1 through k, and the targets close the tableau
abbrev pub TrimmedVerifies : Type 0
TrimmedVerifies = (f : Formula) (kind : Kind) (k : ℕ) (log new : DerivationValue) (targets numbers : List ℕ) (M : Marks) → AreSteps (clause_list f kind k) log
    → IsTrimmed log targets new numbers M
    → letters_through kind (counts f) k ≤ 16777216 → AreKnown (letters_through kind (counts f) k) log.lines → CloseTableau f kind k log.lines targets
    → k ≤ 1000 → length (clause_list f kind k) ≤ greatest_u64 → length new.lines ≤ greatest_u64
    → IsLawfulAt f kind k (text_of (written kind k new.lines new.hints numbers))
