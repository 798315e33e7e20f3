-- Operators that do not look back stay.
use Rattle.std.proofs.Common.{◌≡◌, ℕ, refl, []}
use Rattle.ltl_syntax.specs.declared.node.UnaryOp.{UnaryOp}
use Rattle.ltl_syntax.specs.declared.node.BinaryOp.{BinaryOp}
use Rattle.ltl_syntax.specs.declared.node.UnaryOp.TheVariants.{Historically, HistoricallyIn}
use Rattle.ltl_syntax.specs.declared.node.UnaryOp.TheVariants.{Once, OnceIn, WeakYesterday, Yesterday, YesterdayTimes}
use Rattle.ltl_syntax.specs.declared.node.BinaryOp.TheVariants.{Since, Trigger}
use Rattle.ltl_syntax.specs.Formula.{Formula, Unary, Binary}
use Rattle.depast.specs.Depast.{taken₂, residue₁, residue₂, axioms₂}
use Rattle.depast.specs.Future.{IsFuture₁, IsFuture₂}

pub kept_by : (op : UnaryOp) → (op ≡ Yesterday → ⊥) → (op ≡ WeakYesterday → ⊥) → (op ≡ Once → ⊥) → (op ≡ Historically → ⊥)
    → ((n : ℕ) → op ≡ YesterdayTimes n → ⊥)
    → ((m n : ℕ) → op ≡ OnceIn m n → ⊥) → ((m n : ℕ) → op ≡ HistoricallyIn m n → ⊥) → IsFuture₁ op
kept_by Yesterday a b c d e f g = a refl
kept_by WeakYesterday a b c d e f g = b refl
kept_by Once a b c d e f g = c refl
kept_by Historically a b c d e f g = d refl
kept_by (YesterdayTimes n) a b c d e f g = e n refl
kept_by (OnceIn m n) a b c d e f g = f m n refl
kept_by (HistoricallyIn m n) a b c d e f g = g m n refl
kept_by op a b c d e f g = tt

pub residue_kept : (z : ℕ → Formula) (k : ℕ) (op : UnaryOp) (c : Formula) → IsFuture₁ op → residue₁ z k op c ≡ Unary op c
residue_kept z k Yesterday c h = absurd h
residue_kept z k WeakYesterday c h = absurd h
residue_kept z k Once c h = absurd h
residue_kept z k Historically c h = absurd h
residue_kept z k (YesterdayTimes n) c h = absurd h
residue_kept z k (OnceIn m n) c h = absurd h
residue_kept z k (HistoricallyIn m n) c h = absurd h
residue_kept z k op c h = refl

pub kept_by₂ : (op : BinaryOp) → (op ≡ Since → ⊥) → (op ≡ Trigger → ⊥) → IsFuture₂ op
kept_by₂ Since a b = a refl
kept_by₂ Trigger a b = b refl
kept_by₂ op a b = tt

-- such an operator over two formulas takes no name and has no axiom
pub record IsPlain₂ (op : BinaryOp) : Type 0 where
  pub taken_none : taken₂ op ≡ 0
  pub residue_is : (z : ℕ → Formula) (k : ℕ) (c d : Formula) → residue₂ z k op c d ≡ Binary op c d
  pub axioms_none : (z : ℕ → Formula) (k : ℕ) (c d : Formula) → axioms₂ z k op c d ≡ []

pub plain₂ : (op : BinaryOp) → IsFuture₂ op → IsPlain₂ op
plain₂ Since h = absurd h
plain₂ Trigger h = absurd h
plain₂ op h = record { taken_none = refl; residue_is = λ z k c d. refl; axioms_none = λ z k c d. refl }
