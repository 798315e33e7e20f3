-- The operators on top of the three copied parts.
use Rattle.std.proofs.Common.{◌≡◌, ℕ, ◌<◌, length, arith, sym, subst}
use Rattle.ltl_syntax.specs.declared.node.Node.TheVariants.{Unary, Binary}
use Rattle.ltl_syntax.specs.declared.node.UnaryOp.TheVariants.{Not}
use Rattle.ltl_syntax.specs.declared.node.BinaryOp.TheVariants.{And}
use Rattle.ltl_syntax.specs.Table.{Table, IsRoot, MayFollow, Pushes}
use Rattle.system_check.specs.declared.joining.Copies.{Copies}
use Rattle.system_check.specs.Formulas.{AreCopies}
use Rattle.formula_copy.specs.Copy.{IsCopyOf}
use Rattle.formula_copy.proofs.Pushed.{pushed_length, unequal}

-- the system and the negated goal are two roots
pub last_two : (t t' t'' : Table) (start always goal system failing : ℕ) → Pushes t (Binary And start always) t' → Pushes t' (Unary Not goal) t''
    → goal < length t.nodes → system ≡ length t.nodes → failing ≡ length t'.nodes → MayFollow t'' (Binary And system failing)
last_two t t' t'' start always goal system failing p q low s f = (
  q.roots system (subst (IsRoot t') (sym s) p.root) (unequal goal system (λ e. omega arith)),
  subst (IsRoot t'') (sym f) q.root,
  λ e. omega (arith, pushed_length p),
)

-- three copies, one behind the other, are three roots
pub three_copies : (s₁ s₂ s₃ t₀ t₁ t₂ t₃ : Table) (r₁ r₂ r₃ : ℕ) (copies : Copies) → IsCopyOf s₁ r₁ t₀ t₁ copies.start → IsCopyOf s₂ r₂ t₁ t₂ copies.step
    → IsCopyOf s₃ r₃ t₂ t₃ copies.goal → AreCopies t₃ copies
three_copies s₁ s₂ s₃ t₀ t₁ t₂ t₃ r₁ r₂ r₃ copies a b c = record {
  start = c.roots copies.start (b.roots copies.start a.is_root);
  step = c.roots copies.step b.is_root;
  goal = c.is_root;
  start_step = λ e. omega (arith, a.is_root.0, b.behind);
  start_goal = λ e. omega (arith, a.is_root.0, b.size, c.behind);
  step_goal = λ e. omega (arith, b.is_root.0, c.behind);
}
