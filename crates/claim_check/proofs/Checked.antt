-- What is said of a certificate, by what was found of its layers and of its close.
use Rattle.std.proofs.Common.{◌≡◌, ◌↔◌, ℕ, ◌+◌, ◌<◌, IsTrue, Bool, true, false, List, [], ◌∷◌, ◌++◌, length, get_or, sym, ap, ◌∙◌, subst, arith, add-one}
use Rattle.std.proofs.Common.{below_more, Option, Some, None}
use Rattle.std.proofs.lemmas.List.{get_or-map, length-map}
use mathlib.Core.Bool.{false≢true}
use Rattle.ltl_syntax.specs.declared.node.Kind.{Kind}
use Rattle.ltl_syntax.specs.Formula.{Formula}
use Rattle.cnf_base.specs.declared.literal.Literal.{Literal as Signed}
use Rattle.cnf_base.specs.Known.{AreKnown}
use Rattle.enc_layout.specs.Targets.{IsTarget}
use Rattle.claims.specs.Between.{width, greatest}
use Rattle.claims.specs.Certificate.{Layer, Certificate, layer_at, clauses_of, next_claims}
use Rattle.claims.specs.Lawful.{IsLawfulLayer, IsLawful, clauses_before, lines_before, not_first}
use Rattle.claims.proofs.Knowing.{named_known}
use Rattle.claims.proofs.Growing.{layers_grow, layer_lines_grow}
use Rattle.claim_check.specs.Data.{IsGoodStep, layer_in, certificate_in}
use Rattle.claim_check.specs.Bases.{IsFound}
use Rattle.claim_check.specs.Reasons.{IsLayerAnswer, IsReadToClose, IsGoodClose, IsClosed, IsReason}
use Rattle.claim_check.specs.declared.certificate.Layer.{Layer as StoredLayer}
use Rattle.claim_check.specs.declared.certificate.Certificate.{Certificate as Stored}
use Rattle.claim_check.specs.declared.reason.LayerFault.{LayerFault}
use Rattle.claim_check.specs.declared.reason.CertificateFault.TheVariants as Reasons
use Rattle.claim_check.proofs.Finding.{found_some, found_none}
use Rattle.claim_check.proofs.Layered.{over}

pub layer_is : (s : Stored) (j : ℕ) (d layer : StoredLayer) → j < length s.layers.items → layer ≡ get_or s.layers.items j d
    → layer_in layer ≡ layer_at (certificate_in s) j
layer_is s j d layer lt e = ap layer_in e ∙ sym (get_or-map layer_in s.layers.items j d _ lt)

pub layers_long : (s : Stored) → length (certificate_in s).layers ≡ length s.layers.items
layers_long s = length-map s.layers.items layer_in

module _ (f : Formula) (kind : Kind) (c : Certificate) where
  abbrev pub Good : ℕ → Type 0
  Good i = IsLawfulLayer f kind (clauses_before f c i) (lines_before c i) (layer_at c i)

  pub clauses_known : (j : ℕ) (clauses : List (List Signed)) → clauses ≡ clauses_before f c j → ((i : ℕ) → i < j → Good i) → AreKnown (greatest f) clauses
  clauses_known j clauses e good = subst (AreKnown (greatest f)) (sym e) (named_known f c j (λ i lt. (good i lt).claims))

  module _ (j : ℕ) (clauses lines : List (List Signed)) (layer : Layer) (ce : clauses ≡ clauses_before f c j) (le : lines ≡ lines_before c j)
      (is : layer ≡ layer_at c j) where
    here : (answer : Option LayerFault) → IsLayerAnswer f kind clauses lines layer answer
        → IsLayerAnswer f kind (clauses_before f c j) (lines_before c j) (layer_at c j) answer
    here answer said =
        subst (λ l. IsLayerAnswer f kind (clauses_before f c j) (lines_before c j) l answer) is
        (subst (λ ls. IsLayerAnswer f kind (clauses_before f c j) ls layer answer) le (subst (λ cs. IsLayerAnswer f kind cs lines layer answer) ce said))

    pub clauses_more : (new : List (List Signed)) → new ≡ clauses ++ next_claims (width f) layer ++ layer.claims → new ≡ clauses_before f c (j + 1)
    clauses_more new e =
        e ∙ (ap (λ z. z ++ next_claims (width f) layer ++ layer.claims) ce ∙ (ap (λ (l : Layer). clauses_before f c j ++ next_claims (width f) l ++ l.claims) is
        ∙ (sym (layers_grow f c j) ∙ ap (clauses_before f c) (sym (add-one j)))))

    pub lines_more : (new : List (List Signed)) → new ≡ lines ++ clauses_of layer.base_lines ++ clauses_of layer.step_lines → new ≡ lines_before c (j + 1)
    lines_more new e =
        e ∙ (ap (λ z. z ++ clauses_of layer.base_lines ++ clauses_of layer.step_lines) le
        ∙ (ap (λ (l : Layer). lines_before c j ++ clauses_of l.base_lines ++ clauses_of l.step_lines) is
        ∙ (sym (layer_lines_grow c j) ∙ ap (lines_before c) (sym (add-one j)))))

    pub good_more : ((i : ℕ) → i < j → Good i) → (answer : Option LayerFault) → answer ≡ None → IsLayerAnswer f kind clauses lines layer answer → (i : ℕ)
        → i < j + 1 → Good i
    good_more good answer e said =
        below_more Good j good (subst (IsLayerAnswer f kind (clauses_before f c j) (lines_before c j) (layer_at c j)) e (here answer said))

    pub layer_refused : c.kind ≡ kind → j < length c.layers → ((i : ℕ) → i < j → Good i) → (answer : Option LayerFault) (fault : LayerFault)
        → answer ≡ Some fault
        → IsLayerAnswer f kind clauses lines layer answer
        → IsReason f kind c (Reasons.Layer (j + 1) fault)
    layer_refused same lt good answer fault e said = (
      j,
      omega arith,
      record {
        same_kind = same;
        within = lt;
        before = good;
        here = subst (IsLayerAnswer f kind (clauses_before f c j) (lines_before c j) (layer_at c j)) e (here answer said);
      },
    )

  -- behind all layers
  module _ (j g : ℕ) (clauses lines : List (List Signed)) (same : c.kind ≡ kind) (all : j ≡ length c.layers) (each : (i : ℕ) → i < j → Good i)
      (ce : clauses ≡ clauses_before f c j)
      (le : lines ≡ lines_before c j) (ge : g ≡ greatest f) (r : Option ℕ) (found : IsFound (IsGoodStep clauses lines g c.lines) (length c.lines) r) where
    read : IsReadToClose f kind c
    read = record { same_kind = same; layers = λ i lt. each i (omega (arith, lt, all)) }

    close : IsFound (IsGoodClose f kind c) (length c.lines) r
    close = over clauses (clauses_before f c (length c.layers)) lines (lines_before c (length c.layers)) g (greatest f) c.lines r
        (ce ∙ ap (clauses_before f c) all) (le ∙ ap (lines_before c) all) ge found

    pub line_refused : (n : ℕ) → r ≡ Some n → IsReason f kind c (Reasons.Line n)
    line_refused n e = (read, found_some (IsGoodClose f kind c) (length c.lines) r n e close)

    module _ (final : List (List Signed)) (last : Signed) (b : Bool) (none : r ≡ None) (fe : final ≡ lines ++ clauses_of c.lines) (e : last ≡ not_first f)
        (is : IsTrue b ↔ IsTarget final (c.target ∷ []) 0 (last ∷ [])) where
      closes : IsTrue b ↔ IsClosed f kind c
      closes =
          let whole : final ≡ lines_before c (length c.layers) ++ clauses_of c.lines = fe ∙ ap (λ z. z ++ clauses_of c.lines) (le ∙ ap (lines_before c) all) in
          subst (λ x. IsTrue b ↔ IsTarget x (c.target ∷ []) 0 (not_first f ∷ [])) whole (subst (λ l. IsTrue b ↔ IsTarget final (c.target ∷ []) 0 (l ∷ [])) e is)

      pub target_refused : b ≡ false → IsReason f kind c Reasons.Target
      target_refused bad = (read, found_none (IsGoodClose f kind c) (length c.lines) r none close, λ closed. false≢true (sym bad ∙ closes.1 closed))

      pub verified : b ≡ true → IsLawful f kind c
      verified good = record {
        same_kind = same;
        layers = read.layers;
        lines = found_none (IsGoodClose f kind c) (length c.lines) r none close;
        close = closes.0 good;
      }
