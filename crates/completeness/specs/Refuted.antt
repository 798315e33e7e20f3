-- Each formula that the tableau refutes has lines that refute it, over clauses that a certificate can number.
use Rattle.std.specs.Prelude.{ℕ, ◌≤◌, ◌⊎◌, List, length}
use Rattle.ltl_syntax.specs.declared.node.Kind.{Kind}
use Rattle.ltl_syntax.specs.Formula.{Formula}
use Rattle.ltl_closure.specs.Run.{IsVerdict, Unsat}
use Rattle.cnf_base.specs.Known.{AreKnown}
use Rattle.clause_log.specs.LogValue.{greatest_u32}
use Rattle.derivation.specs.Steps.{DerivationValue, AreSteps}
use Rattle.enc_layout.specs.Letters.{letters_through}
use Rattle.enc_layout.specs.Clauses.{counts, clause_list}
use Rattle.enc_layout.specs.Targets.{CloseTableau}

-- where the verdict is UNSAT at depth k, some lines are steps over the clause list through k and have its letters alone, and targets among them close
-- the tableau
abbrev pub RefutationIsThere : Type 0
RefutationIsThere = (f : Formula) (kind : Kind) (limit k : ℕ) → letters_through kind (counts f) k ≤ greatest_u32 → IsVerdict f kind limit (Unsat k)
    → (log : DerivationValue) × (targets : List ℕ) × AreSteps (clause_list f kind k) log
    × AreKnown (letters_through kind (counts f) k) log.lines × CloseTableau f kind k log.lines targets

-- the clauses of a depth whose letters are within the limit are few enough for 64 bits
abbrev pub ClausesAreFew : Type 0
ClausesAreFew =
    (f : Formula) (kind : Kind) (k : ℕ) → k ≤ 1000 → letters_through kind (counts f) k ≤ 16777216 → length (clause_list f kind k) ≤ 18446744073709551615

-- some lines that refute the formula at depth k are no more than this
abbrev pub HasRefutation : Formula → Kind → ℕ → ℕ → Type 0
HasRefutation f kind k most = (log : DerivationValue) × (targets : List ℕ) × AreSteps (clause_list f kind k) log
    × AreKnown (letters_through kind (counts f) k) log.lines × CloseTableau f kind k log.lines targets × (length log.lines ≤ most)

-- it is decided whether there are such
abbrev pub RefutationsAreDecided : Type 0
RefutationsAreDecided = (f : Formula) (kind : Kind) (k most : ℕ) → letters_through kind (counts f) k ≤ greatest_u32
    → HasRefutation f kind k most ⊎ ¬ HasRefutation f kind k most
