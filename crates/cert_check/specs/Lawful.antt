-- When a certificate is lawful for a formula, and what follows.
use Rattle.std.specs.Prelude.{◌≡◌, ℕ, ◌+◌, ◌<◌, ◌≤◌, nat_lt, List, [], ◌∷◌, length, slice_index_or, All, Contains, Some, if◌then◌else◌}
use Rattle.ltl_syntax.specs.declared.node.Kind.{Kind}
use Rattle.ltl_syntax.specs.Formula.{Formula}
use Rattle.ltl_word.specs.declared.trace.Trace.{Trace}
use Rattle.ltl_word.specs.Trace.{IsTrace, IsOfKind}
use Rattle.ltl_word.specs.Holds.{Satisfies}
use Rattle.cnf_base.specs.declared.literal.Literal.{Literal as Signed}
use Rattle.cnf_base.specs.Known.{AreKnown}
use Rattle.derivation.specs.Steps.{DerivationValue, AreSteps}
use Rattle.enc_layout.specs.Letters.{Unpruned, Here, Accepted, letters_through}
use Rattle.enc_layout.specs.Clauses.{counts, clause_list}
use Rattle.enc_layout.specs.Targets.{negative_of, CloseTableau}
use Rattle.cert_text.specs.Text.{Certificate, greatest_u64, text_of, IsTextOf}
use Rattle.cert_text.specs.Live.{lines_of, live_line, IsGoodLine}
use Rattle.cert_text.specs.Writing.{written}

-- the literals that the line of target i + 1 may have, at depth k: that no run is accepted at state i, or, of the last target, that each
-- run of k + 1 states is pruned
abbrev pub target_literals : Formula → Kind → ℕ → ℕ → List Signed
target_literals f kind k i =
    if nat_lt k i then negative_of f kind (Here k) ∷ negative_of f kind Unpruned ∷ []
    else negative_of f kind (Here i) ∷ negative_of f kind (Accepted i) ∷ []

-- target i + 1 names a line that is live at the close and has only its literals
abbrev pub IsGoodTarget : Formula → Certificate → ℕ → Type 0
IsGoodTarget f c i =
    (line : List Signed) × (live_line c.parts (slice_index_or c.targets i 0) ≡ Some line) × All (Contains (target_literals f c.kind c.depth i)) line

-- line k + 1 is a hinted step over the clause list through the depth, the lines that are live at it and the letters through the depth
abbrev pub IsGoodLineOf : Formula → Certificate → ℕ → Type 0
IsGoodLineOf f c k = IsGoodLine (clause_list f c.kind c.depth) (letters_through c.kind (counts f) c.depth) c.parts k

-- the certificate is lawful for the formula and the kind
pub record IsLawful (f : Formula) (kind : Kind) (c : Certificate) : Type 0 where
  pub same_kind : c.kind ≡ kind
  pub letters : letters_through c.kind (counts f) c.depth ≤ 16777216
  pub lines : (k : ℕ) → k < length (lines_of c.parts) → IsGoodLineOf f c k
  pub targets : (i : ℕ) → i < c.depth + 2 → IsGoodTarget f c i

-- the bytes are a lawful certificate
abbrev pub CertOk : Formula → Kind → List ℕ → Type 0
CertOk f kind bytes = (c : Certificate) × IsTextOf bytes c × IsLawful f kind c

-- the bytes are a lawful certificate of this depth
abbrev pub IsLawfulAt : Formula → Kind → ℕ → List ℕ → Type 0
IsLawfulAt f kind k bytes = (c : Certificate) × IsTextOf bytes c × IsLawful f kind c × (c.depth ≡ k)

-- a lawful certificate means that no trace of the kind satisfies the formula
abbrev pub LawfulHasNoTrace : Type 0
LawfulHasNoTrace = (f : Formula) (kind : Kind) (bytes : List ℕ) (t : Trace) → CertOk f kind bytes → IsTrace t → IsOfKind t kind → ¬ Satisfies t f

-- lines that are steps over the clause list through k, with letters through k alone, whose targets close the tableau, give a lawful certificate
abbrev pub StepsAreLawful : Type 0
StepsAreLawful = (f : Formula) (kind : Kind) (k : ℕ) (log : DerivationValue) (targets : List ℕ) → AreSteps (clause_list f kind k) log
    → letters_through kind (counts f) k ≤ 16777216 → AreKnown (letters_through kind (counts f) k) log.lines → CloseTableau f kind k log.lines targets
    → IsLawful f kind (written kind k log.lines log.hints targets)

-- what is written of them is a lawful certificate of the depth, where this and the counts are within their limits
abbrev pub StepsVerify : Type 0
StepsVerify = (f : Formula) (kind : Kind) (k : ℕ) (log : DerivationValue) (targets : List ℕ) → AreSteps (clause_list f kind k) log
    → letters_through kind (counts f) k ≤ 16777216 → AreKnown (letters_through kind (counts f) k) log.lines → CloseTableau f kind k log.lines targets
    → k ≤ 1000 → length (clause_list f kind k) ≤ greatest_u64 → length log.lines ≤ greatest_u64
    → IsLawfulAt f kind k (text_of (written kind k log.lines log.hints targets))
