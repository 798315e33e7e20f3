-- What a contract sees of clauses that are found by their numbers.
use Rattle.std.specs.Prelude.{◌≡◌, ℕ, ◌≤◌, length, refl}
use Rattle.std.specs.Coded.{Coded, code_by, coded×, coded_ℕ}
use Rattle.ltl_syntax.specs.declared.node.Kind.{Kind}
use Rattle.ltl_syntax.specs.contracts.node.Kind as kind_row
use Rattle.ltl_syntax.specs.FormulaCode.{coded_formula}
use Rattle.ltl_syntax.specs.Formula.{Formula}
use Rattle.ltl_closure.specs.Closure.{nexts, eventualities}
use Rattle.ltl_closure.specs.Entries.{ClosureValue}
use Rattle.enc_layout.specs.Letters.{LayoutValue, Fits}
use Rattle.enc_layout.specs.Clauses.{layout_of}
use Rattle.clause_index.specs.declared.sizes.Sizes.{Sizes}
use Rattle.clause_index.specs.declared.samples.Samples.{Samples}
use Rattle.clause_index.specs.Counts.{sizes_of}
use Rattle.clause_index.specs.Samples.{AreSamples}

-- whose clauses they are, and through which depth
pub record IndexedValue : Type 0 where
  pub formula : Formula
  pub kind : Kind
  pub depth : ℕ

abbrev pub coded_indexed : Coded IndexedValue
coded_indexed =
    code_by (Formula × (Kind × ℕ)) (coded× coded_formula (coded× kind_row.the_row.coded coded_ℕ))
    (λ v. (v.formula, (v.kind, v.depth)))
    (λ p. record { formula = p.0; kind = p.1.0; depth = p.1.1 }) (λ _. refl)

-- what holds of the fields
pub record IsIndexed (c : ClosureValue) (layout : LayoutValue) (sizes : Sizes) (samples : Samples) (depth : ℕ) : Type 0 where
  pub few : depth ≤ 1000
  pub fits : Fits layout depth
  pub own : layout ≡ layout_of c
  pub sizes_are : sizes ≡ sizes_of c.formula c.kind
  pub samples_are : AreSamples c.entries samples
  pub few_nexts : length (nexts c.formula) ≤ 98306
  pub few_eventualities : length (eventualities c.formula) ≤ 98306
