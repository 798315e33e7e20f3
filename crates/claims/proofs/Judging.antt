-- Whether a certificate is lawful, computed.
use Rattle.std.proofs.Common.{◌≡◌, ◌==◌, ℕ, zero, suc, ◌+◌, ◌*◌, ◌<◌, Bool, true, false, List, [], ◌∷◌, ◌++◌, length, get_or, All, Contains, Option, Some, None}
use Rattle.std.proofs.Common.{refl, ap, ap₂, ◌∙◌, arith}
use mathlib.Core.Bool.{false≢true, ◌&&◌, beq}
use Rattle.std.specs.Bool.{Decides}
use Rattle.std.specs.List.{list_all}
use Rattle.std.specs.Set.{is_member}
use Rattle.std.specs.Cmp.{booleans_Decides}
use Rattle.std.proofs.Math.Dec.{ltb}
use Rattle.std.proofs.lemmas.Bool.Decides.{Decides-eqb, Decides-ltb, Decides-and, Decides-like, Decides-by_and, Decides-below_and}
use Rattle.std.proofs.lemmas.Map.Made.{is_member-Decides}
use Rattle.ltl_syntax.specs.declared.node.Kind.{Kind}
use Rattle.ltl_syntax.specs.declared.node.Kind.TheVariants as Kinds
use Rattle.ltl_syntax.specs.Formula.{Formula}
use Rattle.cnf_base.specs.declared.literal.Literal.{Literal}
use Rattle.cnf_base.specs.Known.{IsKnown, AreKnown}
use Rattle.cnf_base.specs.Step.{numbered}
use Rattle.cnf_base.proofs.Deciding.{is_hinted_step, Decides-hinted_step}
use Rattle.ltl_closure.specs.Closure.{eventualities}
use Rattle.enc_layout.specs.Targets.{IsTarget}
use Rattle.claims.specs.Between.{width, greatest}
use Rattle.claims.specs.Certificate.{HintedLine, Layer, Certificate, line_at, layer_at, claim_at, first_clauses, clauses_of, next_claims}
use Rattle.claims.specs.Lawful.{AreHintedSteps, AreTargets, ArePairedTargets, IsBase, IsLawfulLayer, IsLawful, clauses_before, lines_before, not_after}
use Rattle.claims.specs.Lawful.{not_first, not_last, pending, not_fulfilled}

-- whether the test passes at each number below n
abbrev each_below : (ℕ → Bool) → ℕ → Bool
each_below test zero = true
each_below test (suc n) = test n && each_below test n

Decides-each : (test : ℕ → Bool) (P : ℕ → Type 0) → ((k : ℕ) → Decides (test k) (P k)) → (n : ℕ) → Decides (each_below test n) ((k : ℕ) → k < n → P k)
Decides-each test P each n = Decides-below_and test P (each_below test) each refl (λ _. refl) n

pub Decides-all : {X : Type 0} (test : X → Bool) (P : X → Type 0) → ((x : X) → Decides (test x) (P x)) → (xs : List X) → Decides (list_all test xs) (All P xs)
Decides-all test P each xs = Decides-by_and test P (list_all test) each refl (λ _ _. refl) xs

abbrev pub same : Literal → Literal → Bool
same a b = (a.letter.0 == b.letter.0) && beq a.negated b.negated

Decides-same : (a b : Literal) → Decides (same a b) (a ≡ b)
Decides-same a b =
    let make : ℕ → Bool → Literal = λ x n. record { letter = record { 0 = x }; negated = n } in
    let parts = Decides-and (a.letter.0 == b.letter.0) (beq a.negated b.negated) (Decides-eqb a.letter.0 b.letter.0) (booleans_Decides a.negated b.negated) in
    (λ e. ap₂ make (parts.0 e).0 (parts.0 e).1, λ e. parts.1 (ap (λ (l : Literal). l.letter.0) e, ap (λ (l : Literal). l.negated) e))

abbrev pub is_known : ℕ → Literal → Bool
is_known w l = ltb 0 l.letter.0 && ltb l.letter.0 (suc w)

pub Decides-known : (w : ℕ) (l : Literal) → Decides (is_known w l) (IsKnown w l)
Decides-known w l =
    let both = Decides-and (ltb 0 l.letter.0) (ltb l.letter.0 (suc w)) (Decides-ltb 0 l.letter.0) (Decides-ltb l.letter.0 (suc w)) in (
      λ e. let p = both.0 e in record { from_one = omega (arith, p.0); within = omega (arith, p.1) },
      λ known. both.1 (omega (arith, known.from_one), omega (arith, known.within)),
    )

abbrev are_known : ℕ → List (List Literal) → Bool
are_known w claims = list_all (list_all (is_known w)) claims

Decides-are_known : (w : ℕ) (claims : List (List Literal)) → Decides (are_known w claims) (AreKnown w claims)
Decides-are_known w claims = Decides-all (list_all (is_known w)) (All (IsKnown w)) (Decides-all (is_known w) (IsKnown w) (Decides-known w)) claims

abbrev pub are_among : List Literal → Option (List Literal) → Bool
are_among literals None = false
are_among literals (Some line) = list_all (λ l. is_member same literals l) line

abbrev pub is_target : List (List Literal) → List ℕ → ℕ → List Literal → Bool
is_target lines targets i literals = are_among literals (numbered lines (get_or targets i 0))

pub Decides-target : (lines : List (List Literal)) (targets : List ℕ) (i : ℕ) (literals : List Literal)
    → Decides (is_target lines targets i literals) (IsTarget lines targets i literals)
Decides-target lines targets i literals = go (numbered lines (get_or targets i 0))
  where
    go : (o : Option (List Literal)) → Decides (are_among literals o) ((line : List Literal) × (o ≡ Some line) × All (Contains literals) line)
    go None = (λ e. absurd (false≢true e), λ w. absurd (cc))
    go (Some line) =
        let d = Decides-all (λ l. is_member same literals l) (Contains literals) (λ l. is_member-Decides Decides-same literals l) line in
        (λ e. (line, refl, d.0 e), λ w. back w.0 w.1 w.2)
      where
        back : (other : List Literal) → Some line ≡ Some other → All (Contains literals) other → list_all (λ l. is_member same literals l) line ≡ true
        back other e all =
            let d = Decides-all (λ l. is_member same literals l) (Contains literals) (λ l. is_member-Decides Decides-same literals l) other in
            let is : line ≡ other = cc in
            ap (list_all (λ l. is_member same literals l)) is ∙ d.1 all

abbrev are_steps : List (List Literal) → List (List Literal) → ℕ → List HintedLine → Bool
are_steps clauses earlier greatest lines =
    each_below (λ k. is_hinted_step clauses (earlier ++ first_clauses lines k) greatest (line_at lines k).literals (line_at lines k).hints) (length lines)

Decides-steps : (clauses earlier : List (List Literal)) (greatest : ℕ) (lines : List HintedLine)
    → Decides (are_steps clauses earlier greatest lines) (AreHintedSteps clauses earlier greatest lines)
Decides-steps clauses earlier greatest lines =
    Decides-each (λ k. is_hinted_step clauses (earlier ++ first_clauses lines k) greatest (line_at lines k).literals (line_at lines k).hints) _
    (λ k. Decides-hinted_step clauses (earlier ++ first_clauses lines k) greatest (line_at lines k).literals (line_at lines k).hints) (length lines)

abbrev are_targets : List (List Literal) → Layer → List ℕ → List Literal → Bool
are_targets lines layer targets others = each_below (λ q. is_target lines targets q (claim_at layer q ++ others)) (length layer.claims)

Decides-targets : (lines : List (List Literal)) (layer : Layer) (targets : List ℕ) (others : List Literal)
    → Decides (are_targets lines layer targets others) (AreTargets lines layer targets others)
Decides-targets lines layer targets others =
    Decides-each (λ q. is_target lines targets q (claim_at layer q ++ others)) _
    (λ q. Decides-target lines targets q (claim_at layer q ++ others)) (length layer.claims)

abbrev are_paired : List (List Literal) → Layer → List ℕ → List Literal → List Literal → Bool
are_paired lines layer targets one two =
    each_below (λ q. is_target lines targets (2 * q) (claim_at layer q ++ one)) (length layer.claims)
    && each_below (λ q. is_target lines targets (2 * q + 1) (claim_at layer q ++ two)) (length layer.claims)

Decides-paired : (lines : List (List Literal)) (layer : Layer) (targets : List ℕ) (one two : List Literal)
    → Decides (are_paired lines layer targets one two) (ArePairedTargets lines layer targets one two)
Decides-paired lines layer targets one two =
    Decides-like (are_paired lines layer targets one two) (λ w. record { one = w.0; other = w.1 }) (λ w. (w.one, w.other))
    (Decides-and _ _
    (Decides-each (λ q. is_target lines targets (2 * q) (claim_at layer q ++ one)) _
    (λ q. Decides-target lines targets (2 * q) (claim_at layer q ++ one)) (length layer.claims))
    (Decides-each (λ q. is_target lines targets (2 * q + 1) (claim_at layer q ++ two)) _
    (λ q. Decides-target lines targets (2 * q + 1) (claim_at layer q ++ two)) (length layer.claims)))

module _ (f : Formula) where
  abbrev is_base : Kind → List (List Literal) → Layer → Option ℕ → Bool
  is_base Kinds.Finite lines layer None = are_targets lines layer layer.base_targets (not_last f ∷ [])
  is_base Kinds.Finite lines layer (Some m) = false
  is_base Kinds.Infinite lines layer None = are_targets lines layer layer.base_targets (not_after f ∷ [])
  is_base Kinds.Infinite lines layer (Some m) =
      ltb m (length (eventualities f)) && are_paired lines layer layer.base_targets (not_after f ∷ pending f m ∷ []) (not_after f ∷ not_fulfilled f m ∷ [])

  Decides-base : (kind : Kind) (lines : List (List Literal)) (layer : Layer) (which : Option ℕ)
      → Decides (is_base kind lines layer which) (IsBase f kind lines layer which)
  Decides-base Kinds.Finite lines layer None = Decides-targets lines layer layer.base_targets (not_last f ∷ [])
  Decides-base Kinds.Finite lines layer (Some m) = (λ e. absurd (false≢true e), λ w. absurd w)
  Decides-base Kinds.Infinite lines layer None = Decides-targets lines layer layer.base_targets (not_after f ∷ [])
  Decides-base Kinds.Infinite lines layer (Some m) = Decides-and _ _ (Decides-ltb m (length (eventualities f)))
      (Decides-paired lines layer layer.base_targets (not_after f ∷ pending f m ∷ []) (not_after f ∷ not_fulfilled f m ∷ []))

  abbrev is_lawful_layer : Kind → List (List Literal) → List (List Literal) → Layer → Bool
  is_lawful_layer kind clauses lines layer =
      are_known (width f) layer.claims
      && (are_steps clauses lines (greatest f) layer.base_lines
      && (is_base kind (lines ++ clauses_of layer.base_lines) layer layer.eventuality
      && (are_steps (clauses ++ next_claims (width f) layer) (lines ++ clauses_of layer.base_lines) (greatest f) layer.step_lines
      && are_targets (lines ++ clauses_of layer.base_lines ++ clauses_of layer.step_lines) layer layer.step_targets (not_after f ∷ []))))

  Decides-layer : (kind : Kind) (clauses lines : List (List Literal)) (layer : Layer)
      → Decides (is_lawful_layer kind clauses lines layer) (IsLawfulLayer f kind clauses lines layer)
  Decides-layer kind clauses lines layer =
      Decides-like (is_lawful_layer kind clauses lines layer)
      (λ w. record { claims = w.0; base_lines = w.1.0; base = w.1.1.0; step_lines = w.1.1.1.0; step = w.1.1.1.1 })
      (λ w. (w.claims, (w.base_lines, (w.base, (w.step_lines, w.step)))))
      (Decides-and _ _ (Decides-are_known (width f) layer.claims)
      (Decides-and _ _ (Decides-steps clauses lines (greatest f) layer.base_lines)
      (Decides-and _ _ (Decides-base kind (lines ++ clauses_of layer.base_lines) layer layer.eventuality)
      (Decides-and _ _ (Decides-steps (clauses ++ next_claims (width f) layer) (lines ++ clauses_of layer.base_lines) (greatest f) layer.step_lines)
      (Decides-targets (lines ++ clauses_of layer.base_lines ++ clauses_of layer.step_lines) layer layer.step_targets (not_after f ∷ []))))))

abbrev same_kind : Kind → Kind → Bool
same_kind Kinds.Infinite Kinds.Infinite = true
same_kind Kinds.Infinite Kinds.Finite = false
same_kind Kinds.Finite Kinds.Infinite = false
same_kind Kinds.Finite Kinds.Finite = true

Decides-kind : (a b : Kind) → Decides (same_kind a b) (a ≡ b)
Decides-kind Kinds.Infinite Kinds.Infinite = (λ e. refl, λ e. refl)
Decides-kind Kinds.Infinite Kinds.Finite = (λ e. absurd (false≢true e), λ e. absurd (cc))
Decides-kind Kinds.Finite Kinds.Infinite = (λ e. absurd (false≢true e), λ e. absurd (cc))
Decides-kind Kinds.Finite Kinds.Finite = (λ e. refl, λ e. refl)

-- whether the certificate is lawful
abbrev pub is_lawful : Formula → Kind → Certificate → Bool
is_lawful f kind c =
    same_kind c.kind kind
    && (each_below (λ j. is_lawful_layer f kind (clauses_before f c j) (lines_before c j) (layer_at c j)) (length c.layers)
    && (are_steps (clauses_before f c (length c.layers)) (lines_before c (length c.layers)) (greatest f) c.lines
    && is_target (lines_before c (length c.layers) ++ clauses_of c.lines) (c.target ∷ []) 0 (not_first f ∷ [])))

pub Decides-lawful : (f : Formula) (kind : Kind) (c : Certificate) → Decides (is_lawful f kind c) (IsLawful f kind c)
Decides-lawful f kind c =
    Decides-like (is_lawful f kind c)
    (λ w. record { same_kind = w.0; layers = w.1.0; lines = w.1.1.0; close = w.1.1.1 })
    (λ w. (w.same_kind, (w.layers, (w.lines, w.close))))
    (Decides-and _ _ (Decides-kind c.kind kind)
    (Decides-and _ _
    (Decides-each (λ j. is_lawful_layer f kind (clauses_before f c j) (lines_before c j) (layer_at c j)) _
    (λ j. Decides-layer f kind (clauses_before f c j) (lines_before c j) (layer_at c j)) (length c.layers))
    (Decides-and _ _ (Decides-steps (clauses_before f c (length c.layers)) (lines_before c (length c.layers)) (greatest f) c.lines)
    (Decides-target (lines_before c (length c.layers) ++ clauses_of c.lines) (c.target ∷ []) 0 (not_first f ∷ [])))))
