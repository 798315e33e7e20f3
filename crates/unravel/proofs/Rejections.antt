-- The targets, depth by depth.
use Rattle.std.proofs.Common.{◌≡◌, ℕ, suc, ◌+◌, arith, inl, inr, sym, ◌∙◌, subst, List, [], ◌∷◌, ◌++◌, length, length-append, get_or}
use Rattle.std.proofs.lemmas.Bool.{cases_lt}
use Rattle.std.proofs.lemmas.List.{get_or_append_left, get_or_at}
use Rattle.ltl_syntax.specs.declared.node.Kind.{Kind}
use Rattle.ltl_syntax.specs.Formula.{Formula}
use Rattle.cnf_base.specs.declared.literal.Literal.{Literal as Signed}
use Rattle.cdcl.specs.Solving.{IsLonger}
use Rattle.clause_log.specs.LogValue.{LogValue}
use Rattle.enc_layout.specs.Letters.{Here, Accepted}
use Rattle.enc_layout.specs.Targets.{negative_of, CloseTableau}
use Rattle.unravel.specs.Depths.{IsRejection, IsPruning, AreRejections}
use Rattle.unravel.proofs.Lines.{only_longer}

module _ (f : Formula) (kind : Kind) where
  pub rejection_longer : (k : ℕ) (old new : LogValue) (t : ℕ) → IsLonger old new → IsRejection f kind k old.lines t → IsRejection f kind k new.lines t
  rejection_longer k old new t longer h =
      subst (λ lines. IsRejection f kind k lines t) (sym longer.lines)
      (only_longer old.lines longer.more t (negative_of f kind (Here k) ∷ negative_of f kind (Accepted k) ∷ []) h)

  pub rejections_longer : (k : ℕ) (old new : LogValue) (targets : List ℕ) → IsLonger old new → AreRejections f kind k old.lines targets
      → AreRejections f kind k new.lines targets
  rejections_longer k old new targets longer h = record { count = h.count; each = λ i lt. rejection_longer i old new (get_or targets i 0) longer (h.each i lt) }

  module _ (k : ℕ) (lines : List (List Signed)) (targets : List ℕ) (h : AreRejections f kind k lines targets) (t : ℕ) where
    -- one target more
    pub rejections_more : IsRejection f kind k lines t → AreRejections f kind (k + 1) lines (targets ++ t ∷ [])
    rejections_more here =
        let n = h.count in
        record {
          count = length-append targets (t ∷ []) ∙ omega arith;
          each = λ i lt. elim (cases_lt i k) [
            | inl before ↦ subst (IsRejection f kind i lines) (sym (get_or_append_left targets (t ∷ []) 0 i (omega arith))) (h.each i before)
            | inr last ↦
                let e : i ≡ k = omega arith in
                subst (λ j. IsRejection f kind j lines (get_or (targets ++ t ∷ []) j 0)) (sym e)
                (subst (IsRejection f kind k lines) (sym (get_or_at targets t [] 0 k n)) here)
          ];
        }

-- the last target
pub tableau_closes : (f : Formula) (kind : Kind) (k : ℕ) (lines : List (List Signed)) (targets : List ℕ) (t : ℕ) → AreRejections f kind (k + 1) lines targets
    → IsPruning f kind k lines t → CloseTableau f kind k lines (targets ++ t ∷ [])
tableau_closes f kind k lines targets t h last =
    let n = h.count in
    let e : length targets ≡ suc k = n ∙ omega arith in
    record {
      count = length-append targets (t ∷ []) ∙ omega arith;
      accepted = λ i le. subst (IsRejection f kind i lines) (sym (get_or_append_left targets (t ∷ []) 0 i (omega arith))) (h.each i (omega arith));
      unpruned = subst (IsPruning f kind k lines) (sym (get_or_at targets t [] 0 (suc k) e)) last;
    }
