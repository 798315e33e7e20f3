-- From each place that the pass can reach some bytes lead to the end of a text.
use Rattle.std.proofs.Common.{◌≡◌, ℕ, zero, suc, ◌+◌, ◌-◌, ◌<◌, ◌≤◌, ◌==◌, ◌⊎◌, inl, inr, Bool, true, false, List, [], ◌∷◌, ◌++◌, length, Option, Some, None}
use Rattle.std.proofs.Common.{refl, sym, ap, ◌∙◌, subst, arith}
use Rattle.std.specs.Prelude.{codes}
use Rattle.std.proofs.lemmas.Bool.{cond-true, cond-false, eq-eqb, ne_eqb}
use Rattle.std.proofs.lemmas.List.{length_push}
use Rattle.ltl_syntax.specs.declared.node.Kind.{Kind}
use Rattle.ltl_syntax.specs.declared.node.Kind.TheVariants as Kinds
use Rattle.cnf_base.specs.declared.literal.Literal.{Literal}
use Rattle.cnf_base.specs.declared.literal.Hint.{Hint}
use Rattle.cert_text.specs.Scan.{literal, hint}
use Rattle.claims.specs.Certificate.{HintedLine, Layer}
use Rattle.claim_text.specs.Text.{base_targets_of, base_count}
use Rattle.claim_text.specs.Scan.{Draft, opened, wanted, with_claim, with_base, with_step, closed, acted, place_behind, moved, step, run}
use Rattle.claim_text.specs.declared.place.Section.{Section}
use Rattle.claim_text.specs.declared.place.Section.TheVariants as sections
use Rattle.claim_text.specs.declared.place.Role.{Role}
use Rattle.claim_text.specs.declared.place.Role.TheVariants as roles
use Rattle.claim_text.specs.declared.place.Place.{Place}
use Rattle.claim_text.specs.declared.place.Place.TheVariants as places
use Rattle.claim_text.specs.declared.place.Act.TheVariants as acts
use Rattle.claim_text.proofs.Places.{IsOpen, HasClaims, MayStand, IsRole, IsPlace}
use Rattle.claim_text.proofs.Sound.{same_may}
use Rattle.cert_text.proofs.Machine.{run_step}

-- some bytes lead from the place to the end
abbrev pub IsViable : Place → Draft → Type 0
IsViable p d = (rest : List ℕ) × (e : Draft) × (run ([], p, d) rest ≡ Some ([], places.End, e))

-- the last target, where one target is read after another
abbrev pub with_targets : Draft → List ℕ → Draft
with_targets d ts = record {
  kind = d.kind;
  layers = d.layers;
  section = d.section;
  layer = d.layer;
  lines = d.lines;
  literals = d.literals;
  hints = d.hints;
  targets = ts;
  target = d.target;
}

-- what leads on from behind the last target leads on from each target
in_targets : (more : ℕ) (d : Draft) (n : ℕ) → length d.targets + suc more ≡ wanted d
    → ((ts : List ℕ) (m : ℕ) → IsViable (place_behind d.section) (closed d.section (with_targets d ts) m)) → IsViable (places.More roles.Target n) d
in_targets zero d n count on =
    let again = on d.targets n in (
      10 ∷ again.0,
      again.1,
      run_step step ([], places.More roles.Target n, d) ([], place_behind d.section, closed d.section d n) 10 again.0
          (ap (moved d) (cond-true (length d.targets + 1 == wanted d) _ _ (eq-eqb (length d.targets + 1) (wanted d) (omega (arith, count)))))
          ∙ again.2,
    )
in_targets (suc more) d n count on =
    let again = in_targets more (with_targets d (d.targets ++ n ∷ [])) 1 (omega (arith, count, length_push d.targets n)) on in (
      32 ∷ 49 ∷ again.0,
      again.1,
      run_step step ([], places.More roles.Target n, d) ([], places.First roles.Target, with_targets d (d.targets ++ n ∷ [])) 32 (49 ∷ again.0)
          (ap (moved d) (cond-false (length d.targets + 1 == wanted d) _ _ (ne_eqb (length d.targets + 1) (wanted d) (λ h. omega (arith, h, count)))))
          ∙ again.2,
    )

in_target : (d : Draft) (n : ℕ) → length d.targets < wanted d
    → ((ts : List ℕ) (m : ℕ) → IsViable (place_behind d.section) (closed d.section (with_targets d ts) m)) → IsViable (places.More roles.Target n) d
in_target d n few on = in_targets (wanted d - suc (length d.targets)) d n (omega (arith, few)) on

abbrev at : Section → Kind → List Layer → Layer → List HintedLine → List Literal → List Hint → List ℕ → ℕ → Draft
at s kind layers l lines literals hints targets target =
    record { kind = kind; layers = layers; section = s; layer = l; lines = lines; literals = literals; hints = hints; targets = targets; target = target }

-- outside a layer, at its step, and at its base where there is a claim
at_outside : (kind : Kind) (layers : List Layer) (l : Layer) (lines : List HintedLine) (literals : List Literal) (hints : List Hint) (targets : List ℕ)
    (target : ℕ) → targets ≡ []
    → IsViable places.Item (at sections.Outside kind layers l lines literals hints targets target)
at_outside kind layers l lines literals hints targets target none =
    let d = at sections.Outside kind layers l lines literals hints targets target in
    let again = in_target d 1 (omega (arith, ap length none)) (λ ts m. ([], closed sections.Outside (with_targets d ts) m, refl)) in
    (codes "close 1" ++ again.0, again.1, again.2)

at_step : (kind : Kind) (layers : List Layer) (l : Layer) (lines : List HintedLine) (literals : List Literal) (hints : List Hint) (targets : List ℕ)
    (target : ℕ) → targets ≡ [] → 1 ≤ length l.claims
    → IsViable places.Item (at sections.Step kind layers l lines literals hints targets target)
at_step kind layers l lines literals hints targets target none some =
    let d = at sections.Step kind layers l lines literals hints targets target in
    let again = in_target d 1 (omega (arith, ap length none, some))
    (λ ts m. at_outside kind (layers ++ with_step l lines (ts ++ m ∷ []) ∷ []) (opened None) [] literals hints [] target refl) in
    (codes "step 1" ++ again.0, again.1, again.2)

base_some : (l : Layer) → 1 ≤ length l.claims → 1 ≤ base_count l
base_some l some = go l.eventuality
  where
    go : (e : Option ℕ) → 1 ≤ base_targets_of e (length l.claims)
    go None = some
    go (Some e) = omega (arith, some)

at_base : (kind : Kind) (layers : List Layer) (l : Layer) (lines : List HintedLine) (literals : List Literal) (hints : List Hint) (targets : List ℕ)
    (target : ℕ) → targets ≡ [] → 1 ≤ length l.claims
    → IsViable places.Item (at sections.Base kind layers l lines literals hints targets target)
at_base kind layers l lines literals hints targets target none some =
    let d = at sections.Base kind layers l lines literals hints targets target in
    let again = in_target d 1 (omega (arith, ap length none, base_some l some))
    (λ ts m. at_step kind layers (with_base l lines (ts ++ m ∷ [])) [] literals hints [] target refl some) in (
      codes "base 1" ++ again.0,
      again.1,
      run_step step ([], places.Item, d) (codes "ase ", places.First roles.Target, d) 98 (codes "ase 1" ++ again.0)
          (ap (moved d) (cond-false (length l.claims == 0) _ _ (ne_eqb (length l.claims) 0 (λ e. omega (arith, some, e)))))
          ∙ again.2,
    )

-- where there is none yet
at_head : (kind : Kind) (layers : List Layer) (l : Layer) (lines : List HintedLine) (literals : List Literal) (hints : List Hint) (targets : List ℕ)
    (target : ℕ) → targets ≡ [] → lines ≡ []
    → IsViable places.Item (at sections.Base kind layers l lines literals hints targets target)
at_head kind layers l lines literals hints targets target none empty =
    let d = at sections.Base kind layers l lines literals hints targets target in
    let again = at_base kind layers (with_claim l literals) lines [] hints targets target none (omega (arith, length_push l.claims literals)) in (
      codes "c 0\n" ++ again.0,
      again.1,
      run_step step ([], places.Item, d) (codes " ", places.Literal true, d) 99 (codes " 0\n" ++ again.0)
          (ap (moved d) (cond-true (length lines == 0) _ _ (eq-eqb (length lines) 0 (ap length empty))))
          ∙ again.2,
    )

at_item : (s : Section) (kind : Kind) (layers : List Layer) (l : Layer) (lines : List HintedLine) (literals : List Literal) (hints : List Hint)
    (targets : List ℕ) (target : ℕ) → targets ≡ [] → IsOpen s l
    → HasClaims s l ⊎ (lines ≡ []) → IsViable places.Item (at s kind layers l lines literals hints targets target)
at_item sections.Outside kind layers l lines literals hints targets target none open_is may = at_outside kind layers l lines literals hints targets target none
at_item sections.Base kind layers l lines literals hints targets target none open_is may = elim may [
  | inl some ↦ at_base kind layers l lines literals hints targets target none some
  | inr empty ↦ at_head kind layers l lines literals hints targets target none empty
]
at_item sections.Step kind layers l lines literals hints targets target none open_is may =
    at_step kind layers l lines literals hints targets target none open_is.some

-- an item at the draft
item : (d : Draft) → d.targets ≡ [] → IsOpen d.section d.layer → HasClaims d.section d.layer ⊎ (d.lines ≡ []) → IsViable places.Item d
item d none open_is may = at_item d.section d.kind d.layers d.layer d.lines d.literals d.hints d.targets d.target none open_is may

-- behind the last target
after : (s : Section) (d : Draft) (m : ℕ) → IsOpen s d.layer → HasClaims s d.layer → IsViable (place_behind s) (closed s d m)
after sections.Outside d m open_is may = ([], closed sections.Outside d m, refl)
after sections.Base d m open_is may = at_step d.kind d.layers (with_base d.layer d.lines (d.targets ++ m ∷ [])) [] d.literals d.hints [] d.target refl may
after sections.Step d m open_is may =
    at_outside d.kind (d.layers ++ with_step d.layer d.lines (d.targets ++ m ∷ []) ∷ []) (opened None) [] d.literals d.hints [] d.target refl

base_section : (d : Draft) → d.section ≡ sections.Base → d.targets ≡ [] → d.lines ≡ [] → IsViable places.Item (acted acts.Claim d)
base_section d s none empty =
    subst (λ x. IsViable places.Item (at x d.kind d.layers (with_claim d.layer d.literals) d.lines [] d.hints d.targets d.target)) (sym s)
    (at_head d.kind d.layers (with_claim d.layer d.literals) d.lines [] d.hints d.targets d.target none empty)

at_hints : (d : Draft) → IsOpen d.section d.layer → HasClaims d.section d.layer → d.targets ≡ [] → IsViable places.Hint d
at_hints d open_is may none =
    let again = item (acted acts.Line d) none open_is (inl may) in
    (codes "0\n" ++ again.0, again.1, again.2)

at_literals : (claim : Bool) (d : Draft) → IsOpen d.section d.layer → MayStand claim d → d.targets ≡ [] → IsViable (places.Literal claim) d
at_literals true d open_is may none =
    let again = base_section d may.0 none may.1 in
    (codes "0\n" ++ again.0, again.1, again.2)
at_literals false d open_is may none =
    let again = at_hints d open_is may none in
    (codes "0 " ++ again.0, again.1, again.2)

in_number : (role : Role) (n : ℕ) (d : Draft) → IsRole role d → IsViable (places.More role n) d
in_number roles.Eventuality n d is =
    let again = at_head d.kind d.layers (opened (Some (n - 1))) d.lines d.literals d.hints d.targets d.target is.clear.targets is.lines in
    (10 ∷ again.0, again.1, again.2)
in_number (roles.Literal claim negated) n d is =
    let again = at_literals claim (acted (acts.Literal (literal negated n)) d) is.draft.layer
    (same_may claim d (acted (acts.Literal (literal negated n)) d) refl refl refl is.may) is.targets in
    (32 ∷ again.0, again.1, again.2)
in_number (roles.Hint negated) n d is =
    let again = at_hints (acted (acts.Hint (hint negated n)) d) is.draft.layer is.may is.targets in
    (32 ∷ again.0, again.1, again.2)
in_number roles.Target n d is = in_target d n is.few (λ ts m. after d.section (with_targets d ts) m is.draft.layer is.may)

at_number : (role : Role) (d : Draft) → IsRole role d → IsViable (places.First role) d
at_number roles.Eventuality d is = let again = in_number roles.Eventuality 1 d is in (49 ∷ again.0, again.1, again.2)
at_number (roles.Literal claim negated) d is = let again = in_number (roles.Literal claim negated) 1 d is in (49 ∷ again.0, again.1, again.2)
at_number (roles.Hint negated) d is = let again = in_number (roles.Hint negated) 1 d is in (49 ∷ again.0, again.1, again.2)
at_number roles.Target d is = let again = in_number roles.Target 1 d is in (49 ∷ again.0, again.1, again.2)

pub viable : (p : Place) (d : Draft) → IsPlace p d → IsViable p d
viable places.Kind d is =
    let again = at_outside Kinds.Infinite [] (opened None) [] [] [] [] 0 refl in
    (codes "infinite\n" ++ again.0, again.1, again.2)
viable places.Item d is = item d is.clear.targets is.draft.layer is.may
viable (places.Literal claim) d is = at_literals claim d is.draft.layer is.may is.targets
viable places.Hint d is = at_hints d is.draft.layer is.may is.targets
viable (places.First role) d is = at_number role d is
viable (places.More role n) d is = in_number role n d is.0
viable places.End d is = ([], d, refl)
