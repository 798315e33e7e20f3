-- The claims of a stored layer have the letters of entries.
use Rattle.std.proofs.Common.{◌≡◌, ℕ, ◌<◌, List, length, get_or, sym, ap, ◌∙◌, subst, arith}
use Rattle.std.proofs.lemmas.List.{get_or-map, length-map}
use Rattle.ltl_syntax.specs.Formula.{Formula}
use Rattle.cnf_base.specs.Known.{AreKnown}
use Rattle.claims.specs.Between.{width}
use Rattle.claims.specs.Certificate.{Layer, layer_at}
use Rattle.claim_check.specs.Data.{layer_in, certificate_in}
use Rattle.claim_check.specs.declared.certificate.Layer.{Layer as StoredLayer}
use Rattle.claim_check.specs.declared.certificate.Certificate.{Certificate as Stored}
use Rattle.claim_reading.specs.Never.{AreOfEntries}

pub layer_known : (f : Formula) (c : Stored) (layers : List StoredLayer) (j : ℕ) (layer : StoredLayer) → AreOfEntries f (certificate_in c)
    → layers ≡ c.layers.items → j < length layers → layer ≡ get_or layers j layer → AreKnown (width f) layer.claims
layer_known f c layers j layer known same lt at =
    let low : j < length c.layers.items = subst (λ xs. j < length xs) same lt in
    let long = length-map c.layers.items layer_in in
    let is : layer_at (certificate_in c) j ≡ layer_in layer =
    get_or-map layer_in c.layers.items j layer _ low ∙ ap layer_in (ap (λ xs. get_or xs j layer) (sym same) ∙ sym at) in
    subst (λ (l : Layer). AreKnown (width f) l.claims) is (known j (omega (arith, low, long)))
