-- What the parts of a layer are where letters, clauses and lines are said in other words.
use Rattle.std.proofs.Common.{◌≡◌, ℕ, ◌<◌, List, [], ◌∷◌, ◌++◌, length, get_or, map, All, Option, Some, None, refl, sym, ap, ◌∙◌, subst}
use Rattle.std.proofs.lemmas.List.Elements.{All-append, All-from_get_or}
use Rattle.ltl_syntax.specs.declared.node.Kind.{Kind}
use Rattle.ltl_syntax.specs.declared.node.Kind.TheVariants as Kinds
use Rattle.ltl_syntax.specs.Formula.{Formula}
use Rattle.cnf_base.specs.declared.literal.Literal.{Literal as Signed}
use Rattle.cnf_base.specs.Known.{IsKnown, AreKnown}
use Rattle.claims.specs.Between.{width, greatest}
use Rattle.claims.specs.Certificate.{HintedLine, Layer, next_claims, at_next}
use Rattle.claims.specs.Lawful.{IsBase, not_after, not_last, pending, not_fulfilled}
use Rattle.claims.proofs.Knowing.{opened_known}
use Rattle.claim_check.specs.Data.{IsGoodStep}
use Rattle.claim_check.specs.Bases.{IsFound, IsHeld, IsHeldTwice, HasBase, IsBaseOf, IsBased}
use Rattle.claim_check.specs.declared.base.Base.{Base}
use Rattle.claim_check.specs.declared.base.Base.TheVariants.{Last, Everywhere, Meeting}

pub opened_letters : (f : Formula) (layer : Layer) (clauses new : List (List Signed)) (w n : ℕ) → w ≡ width f → AreKnown (greatest f) clauses
    → AreKnown (width f) layer.claims
    → new ≡ clauses ++ map (map (at_next w)) layer.claims → n ≡ greatest f → AreKnown n new
opened_letters f layer clauses new w n we known claims e letters =
    let here : new ≡ clauses ++ next_claims (width f) layer = e ∙ ap (λ k. clauses ++ map (map (at_next k)) layer.claims) we in
    subst (λ k. AreKnown k new) (sym letters)
    (subst (AreKnown (greatest f)) (sym here)
    (All-append (λ c. All (IsKnown (greatest f)) c) clauses (next_claims (width f) layer) known (opened_known f layer claims)))

pub next_same : (f : Formula) (layer : Layer) (clauses new : List (List Signed)) (w : ℕ) → w ≡ width f → new ≡ clauses ++ map (map (at_next w)) layer.claims
    → new ≡ clauses ++ next_claims (width f) layer
next_same f layer clauses new w we e = e ∙ ap (λ k. clauses ++ map (map (at_next k)) layer.claims) we

-- what was found of lines, over the same clauses, lines and letters
pub over : (clauses other earlier before : List (List Signed)) (g h : ℕ) (hs : List HintedLine) (r : Option ℕ) → clauses ≡ other → earlier ≡ before → g ≡ h
    → IsFound (IsGoodStep clauses earlier g hs) (length hs) r → IsFound (IsGoodStep other before h hs) (length hs) r
over clauses other earlier before g h hs r ce ee ge is =
    subst (λ n. IsFound (IsGoodStep other before n hs) (length hs) r) ge
    (subst (λ ls. IsFound (IsGoodStep other ls g hs) (length hs) r) ee (subst (λ cs. IsFound (IsGoodStep cs earlier g hs) (length hs) r) ce is))

-- and of targets
pub held_over : (lines other claims : List (List Signed)) (targets more : List ℕ) (last one : Signed) (r : Option ℕ)
    → lines ≡ other → targets ≡ more → last ≡ one
    → IsFound (IsHeld lines claims targets (last ∷ [])) (length claims) r → IsFound (IsHeld other claims more (one ∷ [])) (length claims) r
held_over lines other claims targets more last one r fe te le is =
    subst (λ x. IsFound (IsHeld x claims more (one ∷ [])) (length claims) r) fe
    (subst (λ t. IsFound (IsHeld lines claims t (one ∷ [])) (length claims) r) te
    (subst (λ l. IsFound (IsHeld lines claims targets (l ∷ [])) (length claims) r) le is))

-- and of letters
pub of_entries : (f : Formula) (claims : List (List Signed)) (w : ℕ) (r : Option ℕ) → w ≡ width f
    → IsFound (λ q. All (IsKnown w) (get_or claims q [])) (length claims) r
    → IsFound (λ q. All (IsKnown (width f)) (get_or claims q [])) (length claims) r
of_entries f claims w r we = subst (λ n. IsFound (λ q. All (IsKnown n) (get_or claims q [])) (length claims) r) we

pub all_known : (g : ℕ) (claims : List (List Signed)) → ((q : ℕ) → q < length claims → All (IsKnown g) (get_or claims q [])) → AreKnown g claims
all_known g claims each = All-from_get_or (λ c. All (IsKnown g) c) claims [] each

pub has_base : (f : Formula) (kind : Kind) (e : Option ℕ) (b : Base) → IsBaseOf f kind e b → HasBase f kind e
has_base f Kinds.Finite None b is = tt
has_base f Kinds.Finite (Some m) b is = is
has_base f Kinds.Infinite None b is = tt
has_base f Kinds.Infinite (Some m) b is = is.0

-- the base by its form
pub based_last : (f : Formula) (kind : Kind) (e : Option ℕ) (b : Base) (lines : List (List Signed)) (layer : Layer) (targets : List ℕ) (last : Signed)
    (r : Option ℕ) → IsBaseOf f kind e b → b ≡ Last
    → targets ≡ layer.base_targets → last ≡ not_last f → IsFound (IsHeld lines layer.claims targets (last ∷ [])) (length layer.claims) r
    → IsFound (IsBased f kind lines layer e) (length layer.claims) r
based_last f Kinds.Finite None b lines layer targets last r is at te le h =
    held_over lines lines layer.claims targets layer.base_targets last (not_last f) r refl te le h
based_last f Kinds.Finite (Some m) b lines layer targets last r is at te le h = absurd is
based_last f Kinds.Infinite None b lines layer targets last r is at te le h = absurd (cc)
based_last f Kinds.Infinite (Some m) b lines layer targets last r is at te le h = let other = is.1 in absurd (cc)

pub based_everywhere : (f : Formula) (kind : Kind) (e : Option ℕ) (b : Base) (lines : List (List Signed)) (layer : Layer) (targets : List ℕ) (last : Signed)
    (r : Option ℕ) → IsBaseOf f kind e b
    → b ≡ Everywhere → targets ≡ layer.base_targets → last ≡ not_after f → IsFound (IsHeld lines layer.claims targets (last ∷ [])) (length layer.claims) r
    → IsFound (IsBased f kind lines layer e) (length layer.claims) r
based_everywhere f Kinds.Finite None b lines layer targets last r is at te le h = absurd (cc)
based_everywhere f Kinds.Finite (Some m) b lines layer targets last r is at te le h = absurd is
based_everywhere f Kinds.Infinite None b lines layer targets last r is at te le h =
    held_over lines lines layer.claims targets layer.base_targets last (not_after f) r refl te le h
based_everywhere f Kinds.Infinite (Some m) b lines layer targets last r is at te le h = let other = is.1 in absurd (cc)

pub based_meeting : (f : Formula) (kind : Kind) (e : Option ℕ) (b : Base) (lines : List (List Signed)) (layer : Layer) (targets : List ℕ)
    (last one two : Signed) (r : Option ℕ) → IsBaseOf f kind e b
    → b ≡ Meeting one two → targets ≡ layer.base_targets → last ≡ not_after f
    → IsFound (IsHeldTwice lines layer.claims targets (last ∷ one ∷ []) (last ∷ two ∷ [])) (length layer.claims) r
    → IsFound (IsBased f kind lines layer e) (length layer.claims) r
based_meeting f Kinds.Finite None b lines layer targets last one two r is at te le h = absurd (cc)
based_meeting f Kinds.Finite (Some m) b lines layer targets last one two r is at te le h = absurd is
based_meeting f Kinds.Infinite None b lines layer targets last one two r is at te le h = absurd (cc)
based_meeting f Kinds.Infinite (Some m) b lines layer targets last one two r is at te le h =
    let same = sym at ∙ is.1 in
    let first : one ≡ pending f m = cc in
    let second : two ≡ not_fulfilled f m = cc in
    subst (λ t. P t (not_after f) (pending f m) (not_fulfilled f m)) te
    (subst (λ l. P targets l (pending f m) (not_fulfilled f m)) le
    (subst (λ x. P targets last x (not_fulfilled f m)) first (subst (λ y. P targets last one y) second h)))
  where
    P : List ℕ → Signed → Signed → Signed → Type 0
    P t l x y = IsFound (IsHeldTwice lines layer.claims t (l ∷ x ∷ []) (l ∷ y ∷ [])) (length layer.claims) r

-- the base is there where each claim holds at it
pub base_whole : (f : Formula) (kind : Kind) (e : Option ℕ) (lines : List (List Signed)) (layer : Layer) → HasBase f kind e
    → ((q : ℕ) → q < length layer.claims → IsBased f kind lines layer e q)
    → IsBase f kind lines layer e
base_whole f Kinds.Finite None lines layer has each = each
base_whole f Kinds.Finite (Some m) lines layer has each = has
base_whole f Kinds.Infinite None lines layer has each = each
base_whole f Kinds.Infinite (Some m) lines layer has each = (has, record { one = λ q lt. (each q lt).0; other = λ q lt. (each q lt).1 })

pub base_each : (f : Formula) (kind : Kind) (e : Option ℕ) (lines : List (List Signed)) (layer : Layer) → IsBase f kind lines layer e → (q : ℕ)
    → q < length layer.claims → IsBased f kind lines layer e q
base_each f Kinds.Finite None lines layer is q lt = is q lt
base_each f Kinds.Finite (Some m) lines layer is q lt = is
base_each f Kinds.Infinite None lines layer is q lt = is q lt
base_each f Kinds.Infinite (Some m) lines layer is q lt = (is.1.one q lt, is.1.other q lt)

pub base_has : (f : Formula) (kind : Kind) (e : Option ℕ) (lines : List (List Signed)) (layer : Layer) → IsBase f kind lines layer e → HasBase f kind e
base_has f Kinds.Finite None lines layer is = tt
base_has f Kinds.Finite (Some m) lines layer is = is
base_has f Kinds.Infinite None lines layer is = tt
base_has f Kinds.Infinite (Some m) lines layer is = is.0
