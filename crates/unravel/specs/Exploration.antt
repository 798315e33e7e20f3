-- What a contract sees of a search for a trace, and what holds of its fields.
use Rattle.std.specs.Prelude.{ℕ, ◌≤◌, List, refl}
use Rattle.std.specs.Coded.{Coded, code_by, coded×, coded_ℕ}
use Rattle.ltl_closure.specs.Entries.{ClosureValue, coded_closure}
use Rattle.cnf_base.specs.declared.literal.Literal.{Literal as Signed}
use Rattle.unravel.specs.declared.inputs.Inputs.{Inputs}
use Rattle.enc_layout.specs.Letters.{Fits}
use Rattle.enc_layout.specs.Clauses.{layout_of}
use Rattle.unravel.specs.Depths.{IsBefore, AreStatesBelow}

-- the closure whose formula is looked at, and the depth that comes next
pub record ExplorationValue : Type 0 where
  pub closure : ClosureValue
  pub depth : ℕ

abbrev pub coded_exploration : Coded ExplorationValue
coded_exploration =
    code_by (ClosureValue × ℕ) (coded× coded_closure coded_ℕ)
    (λ e. (e.closure, e.depth)) (λ p. record { closure = p.0; depth = p.1 }) (λ _. refl)

-- the depth is one of those that are looked at, and its letters are within the limit
abbrev pub CanGoOn : ExplorationValue → Type 0
CanGoOn e = (e.depth ≤ 1000) × Fits (layout_of e.closure) e.depth

-- what stands before depth k was put in, and each of the literals says that some state before it is there
pub record IsPrepared (c : ClosureValue) (k : ℕ) (i : Inputs) (literals : List Signed) : Type 0 where
  pub before : IsBefore c.formula c.kind k i
  pub states : AreStatesBelow c.formula c.kind k literals
