-- How many nodes the entries have as trees.
use Rattle.std.specs.Prelude.{◌≡◌, ℕ, ◌+◌, ◌-◌, ◌<◌, min, if◌then◌else◌, List, length, slice_index_or}
use Rattle.std.specs.List.{sum_by}
use Rattle.ltl_syntax.specs.Formula.{Formula, nodes_in}
use Rattle.cnf_base.specs.declared.literal.Literal.{Literal}
use Rattle.claim_reading.specs.Readable.{entry_formula}

-- the size of entry t, or 16385 where it is more
abbrev pub capped : Formula → ℕ → ℕ
capped f t = min (nodes_in (entry_formula f t)) 16385

-- those of the first n entries
pub record AreSizes (f : Formula) (n : ℕ) (sizes : List ℕ) : Type 0 where
  pub count : length sizes ≡ n
  pub each : (k : ℕ) → k < n → slice_index_or sizes k 0 ≡ capped f (k + 1)

-- what a literal adds to its claim's formula: its entry, an `&`, and where it is denied by it a `!`
abbrev pub literal_size : List ℕ → Literal → ℕ
literal_size sizes l = slice_index_or sizes (l.letter.0 - 1) 0 + (if l.negated then 1 else 2)

-- one more than the size of the claim's formula, as there is no `&` before the first literal
abbrev pub claim_size : List ℕ → List Literal → ℕ
claim_size sizes claim = sum_by (literal_size sizes) claim
