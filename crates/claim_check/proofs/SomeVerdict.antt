-- There is a verdict on each certificate.
use Rattle.std.proofs.Common.{◌≡◌, ℕ, zero, suc, ◌+◌, ◌*◌, ◌⊎◌, inl, inr, Bool, true, false, List, [], ◌∷◌, ◌++◌, length, Option, Some, None, refl, sym, subst}
use Rattle.std.proofs.Common.{arith}
use mathlib.Core.Bool.{false≢true}
use Rattle.std.specs.Bool.{Decides}
use Rattle.std.specs.List.{list_all}
use Rattle.std.proofs.lemmas.Bool.{cases_eq, cases_lt}
use Rattle.ltl_syntax.specs.declared.node.Kind.{Kind}
use Rattle.ltl_syntax.specs.declared.node.Kind.TheVariants as Kinds
use Rattle.ltl_syntax.specs.Formula.{Formula}
use Rattle.cnf_base.specs.declared.literal.Literal.{Literal as Signed}
use Rattle.cnf_base.specs.Known.{IsKnown}
use Rattle.cnf_base.proofs.Deciding.{is_hinted_step, Decides-hinted_step}
use Rattle.ltl_closure.specs.Closure.{eventualities}
use Rattle.enc_layout.specs.Targets.{IsTarget}
use Rattle.claims.specs.Between.{width, greatest}
use Rattle.claims.specs.Certificate.{HintedLine, Layer, Certificate, line_at, layer_at, claim_at, first_clauses, clauses_of, next_claims}
use Rattle.claims.specs.Lawful.{IsLawfulLayer, clauses_before, lines_before, not_after, not_first, not_last, pending, not_fulfilled}
use Rattle.claims.proofs.Judging.{is_known, Decides-known, Decides-all, is_target, Decides-target}
use Rattle.claim_check.specs.Data.{IsGoodStep}
use Rattle.claim_check.specs.Bases.{IsFound, HasBase, IsBased}
use Rattle.claim_check.specs.Laws.{VerdictIsThere}
use Rattle.claim_check.specs.Reasons.{IsOfEntries, IsKept, IsBegun, IsBasedWhole, IsLayerAnswer, IsReadToClose, IsGoodClose, IsVerdict}
use Rattle.claim_check.specs.declared.reason.LayerFault.{LayerFault}
use Rattle.claim_check.specs.declared.reason.LayerFault.TheVariants.{Eventuality, Claim, BaseLine, BaseTarget, StepLine, StepTarget}
use Rattle.claim_check.specs.declared.reason.CertificateFault.TheVariants as Reasons
use Rattle.claim_check.specs.declared.reason.ClaimVerdict.{ClaimVerdict}
use Rattle.claim_check.specs.declared.reason.ClaimVerdict.TheVariants.{Verified, Refused}
use Rattle.claim_check.proofs.Finding.{bad_here}
use Rattle.claim_check.proofs.Layered.{all_known, base_whole}
use Rattle.claim_check.proofs.Faults.{fault_refuses}

abbrev OrNot : Type 0 → Type 0
OrNot P = P ⊎ (¬ P)

or_not : (b : Bool) (P : Type 0) → Decides b P → OrNot P
or_not true P d = inl (d.0 refl)
or_not false P d = inr (λ p. false≢true (d.1 p))

-- the first of a number of places that is not good
first_found : (Good : ℕ → Type 0) → ((k : ℕ) → OrNot (Good k)) → (n : ℕ) → (r : Option ℕ) × IsFound Good n r
first_found Good each zero = (None, λ k lt. absurd (omega (arith, lt)))
first_found Good each (suc n) = go (first_found Good each n) (each n)
  where
    go : (r : Option ℕ) × IsFound Good n r → OrNot (Good n) → (r : Option ℕ) × IsFound Good (suc n) r
    go (Some m, (k, e, is)) said = (Some m, (k, e, (is.0, omega (arith, is.1), is.2, is.3)))
    go (None, all) (inl good) = (None, λ k lt. elim (cases_eq k n) [ inl at ↦ subst Good (sym at) good | inr other ↦ all k (omega (arith, other, lt)) ])
    go (None, all) (inr bad) = (Some (n + 1), bad_here Good (suc n) n (omega arith) bad all)

step_or_not : (clauses earlier : List (List Signed)) (g : ℕ) (lines : List HintedLine) (k : ℕ) → OrNot (IsGoodStep clauses earlier g lines k)
step_or_not clauses earlier g lines k =
    let before = earlier ++ first_clauses lines k in
    let line = line_at lines k in
    or_not (is_hinted_step clauses before g line.literals line.hints) _ (Decides-hinted_step clauses before g line.literals line.hints)

target_or_not : (lines : List (List Signed)) (targets : List ℕ) (i : ℕ) (literals : List Signed) → OrNot (IsTarget lines targets i literals)
target_or_not lines targets i literals = or_not (is_target lines targets i literals) _ (Decides-target lines targets i literals)

entries_or_not : (f : Formula) (layer : Layer) (q : ℕ) → OrNot (IsOfEntries f layer q)
entries_or_not f layer q = or_not (list_all (is_known (width f)) (claim_at layer q)) _
    (Decides-all (is_known (width f)) (IsKnown (width f)) (Decides-known (width f)) (claim_at layer q))

base_or_not : (f : Formula) (kind : Kind) (e : Option ℕ) → OrNot (HasBase f kind e)
base_or_not f Kinds.Finite None = inl tt
base_or_not f Kinds.Finite (Some m) = inr (λ h. h)
base_or_not f Kinds.Infinite None = inl tt
base_or_not f Kinds.Infinite (Some m) =
    elim (cases_lt m (length (eventualities f))) [ inl less ↦ inl less | inr most ↦ inr (λ less. omega (arith, less, most)) ]

both_or_not : (P Q : Type 0) → OrNot P → OrNot Q → OrNot (P × Q)
both_or_not P Q (inl p) (inl q) = inl (p, q)
both_or_not P Q (inl p) (inr never) = inr (λ w. never w.1)
both_or_not P Q (inr never) said = inr (λ w. never w.0)

based_or_not : (f : Formula) (kind : Kind) (lines : List (List Signed)) (layer : Layer) (e : Option ℕ) (q : ℕ) → OrNot (IsBased f kind lines layer e q)
based_or_not f Kinds.Finite lines layer None q = target_or_not lines layer.base_targets q (claim_at layer q ++ not_last f ∷ [])
based_or_not f Kinds.Finite lines layer (Some m) q = inr (λ h. h)
based_or_not f Kinds.Infinite lines layer None q = target_or_not lines layer.base_targets q (claim_at layer q ++ not_after f ∷ [])
based_or_not f Kinds.Infinite lines layer (Some m) q = both_or_not _ _
    (target_or_not lines layer.base_targets (2 * q) (claim_at layer q ++ not_after f ∷ pending f m ∷ []))
    (target_or_not lines layer.base_targets (2 * q + 1) (claim_at layer q ++ not_after f ∷ not_fulfilled f m ∷ []))

module _ (f : Formula) (kind : Kind) (clauses lines : List (List Signed)) (layer : Layer) where
  abbrev Answer : Type 0
  Answer = (a : Option LayerFault) × IsLayerAnswer f kind clauses lines layer a

  abbrev based : List (List Signed)
  based = lines ++ clauses_of layer.base_lines

  abbrev opened : List (List Signed)
  opened = clauses ++ next_claims (width f) layer

  abbrev final : List (List Signed)
  final = lines ++ clauses_of layer.base_lines ++ clauses_of layer.step_lines

  on_step : IsBasedWhole f kind clauses lines layer → Answer
  on_step is = go
      (first_found (IsGoodStep opened based (greatest f) layer.step_lines) (step_or_not opened based (greatest f) layer.step_lines) (length layer.step_lines))
    where
      go : (r : Option ℕ) × IsFound (IsGoodStep opened based (greatest f) layer.step_lines) (length layer.step_lines) r → Answer
      go (Some n, bad) = (Some (StepLine n), (is, bad))
      go (None, steps) = on_targets (first_found (IsKept f final layer)
          (λ q. target_or_not final layer.step_targets q (claim_at layer q ++ not_after f ∷ [])) (length layer.claims))
        where
          on_targets : (r : Option ℕ) × IsFound (IsKept f final layer) (length layer.claims) r → Answer
          on_targets (Some n, bad) = (Some (StepTarget n), (record { based = is; steps = steps }, bad))
          on_targets (None, kept) =
              (None, record { claims = is.read.begun.claims; base_lines = is.read.steps; base = is.base; step_lines = steps; step = kept })

  on_base : IsBegun f kind clauses lines layer → Answer
  on_base is = go
      (first_found (IsGoodStep clauses lines (greatest f) layer.base_lines) (step_or_not clauses lines (greatest f) layer.base_lines) (length layer.base_lines))
    where
      go : (r : Option ℕ) × IsFound (IsGoodStep clauses lines (greatest f) layer.base_lines) (length layer.base_lines) r → Answer
      go (Some n, bad) = (Some (BaseLine n), (is, bad))
      go (None, steps) =
          on_targets (first_found (IsBased f kind based layer layer.eventuality) (based_or_not f kind based layer layer.eventuality) (length layer.claims))
        where
          on_targets : (r : Option ℕ) × IsFound (IsBased f kind based layer layer.eventuality) (length layer.claims) r → Answer
          on_targets (Some n, bad) = (Some (BaseTarget n), (record { begun = is; steps = steps }, bad))
          on_targets (None, each) =
              on_step (record { read = record { begun = is; steps = steps }; base = base_whole f kind layer.eventuality based layer is.base each })

  layer_answer : Answer
  layer_answer = elim (base_or_not f kind layer.eventuality) [
    | inl has ↦ on_claims has (first_found (IsOfEntries f layer) (entries_or_not f layer) (length layer.claims))
    | inr none ↦ (Some Eventuality, none)
  ]
    where
      on_claims : HasBase f kind layer.eventuality → (r : Option ℕ) × IsFound (IsOfEntries f layer) (length layer.claims) r → Answer
      on_claims has (Some n, bad) = (Some (Claim n), (has, bad))
      on_claims has (None, each) = on_base (record { base = has; claims = all_known (width f) layer.claims each })

  layer_or_not : OrNot (IsLawfulLayer f kind clauses lines layer)
  layer_or_not = go layer_answer
    where
      go : Answer → OrNot (IsLawfulLayer f kind clauses lines layer)
      go (None, lawful) = inl lawful
      go (Some fault, is) = inr (fault_refuses f kind clauses lines layer fault is)

kind_or_not : (a b : Kind) → OrNot (a ≡ b)
kind_or_not Kinds.Infinite Kinds.Infinite = inl refl
kind_or_not Kinds.Infinite Kinds.Finite = inr (λ e. cc)
kind_or_not Kinds.Finite Kinds.Infinite = inr (λ e. cc)
kind_or_not Kinds.Finite Kinds.Finite = inl refl

module _ (f : Formula) (kind : Kind) (c : Certificate) where
  abbrev Said : Type 0
  Said = (v : ClaimVerdict) × IsVerdict f kind c v

  abbrev Good : ℕ → Type 0
  Good j = IsLawfulLayer f kind (clauses_before f c j) (lines_before c j) (layer_at c j)

  on_close : IsReadToClose f kind c → Said
  on_close read =
      let n = length c.layers in
      go (first_found (IsGoodClose f kind c) (step_or_not (clauses_before f c n) (lines_before c n) (greatest f) c.lines) (length c.lines))
    where
      go : (r : Option ℕ) × IsFound (IsGoodClose f kind c) (length c.lines) r → Said
      go (Some n, bad) = (Refused (Reasons.Line n), (read, bad))
      go (None, steps) = elim (target_or_not (lines_before c (length c.layers) ++ clauses_of c.lines) (c.target ∷ []) 0 (not_first f ∷ [])) [
        | inl closed ↦ (Verified, record { same_kind = read.same_kind; layers = read.layers; lines = steps; close = closed })
        | inr open' ↦ (Refused Reasons.Target, (read, steps, open'))
      ]

  on_layers : c.kind ≡ kind → Said
  on_layers same = go (first_found Good (λ j. layer_or_not f kind (clauses_before f c j) (lines_before c j) (layer_at c j)) (length c.layers))
    where
      go : (r : Option ℕ) × IsFound Good (length c.layers) r → Said
      go (None, all) = on_close (record { same_kind = same; layers = all })
      go (Some n, (j, e, is)) = at_fault (layer_answer f kind (clauses_before f c j) (lines_before c j) (layer_at c j))
        where
          at_fault : (a : Option LayerFault) × IsLayerAnswer f kind (clauses_before f c j) (lines_before c j) (layer_at c j) a → Said
          at_fault (None, lawful) = absurd (is.2 lawful)
          at_fault (Some fault, here) =
              (Refused (Reasons.Layer n fault), (j, e, record { same_kind = same; within = is.1; before = λ i less. is.3 i (omega arith) less; here = here }))

pub verdict_there : VerdictIsThere
verdict_there f kind c = elim (kind_or_not c.kind kind) [ inl same ↦ on_layers f kind c same | inr other ↦ (Refused Reasons.Kind, other) ]
