-- Whether a formula has a refutation of so many lines: the lines can be parts of one list of literals, so they are among finitely many.
use Rattle.std.proofs.Common.{◌≡◌, ℕ, zero, suc, ◌<◌, ◌≤◌, ◌⊎◌, inl, inr, List, [], ◌∷◌, ◌++◌, length, length-append, map, take, get_or, slice_get, All}
use Rattle.std.proofs.Common.{Contains, Some, sym, ap, subst, ◌∙◌, arith}
use Rattle.std.proofs.lemmas.List.{length-map, get_or-map, take-map}
use Rattle.std.proofs.lemmas.List.Elements.{All-nil, All-cons, All-head, All-tail, All-take, All-map, All-get_or, Contains-get_or}
use Rattle.std.proofs.lemmas.Option.{slice_get_within, get_or_from_slice_get, slice_get-get_or}
use Rattle.ltl_syntax.specs.declared.node.Kind.{Kind}
use Rattle.ltl_syntax.specs.Formula.{Formula}
use Rattle.cnf_base.specs.declared.literal.Literal.{Literal}
use Rattle.cnf_base.specs.declared.literal.Hint.{Hint}
use Rattle.cnf_base.specs.Step.{numbered, IsHintedStep}
use Rattle.cnf_base.specs.Known.{IsKnown, AreKnown}
use Rattle.clause_log.specs.LogValue.{greatest_u32}
use Rattle.derivation.specs.Steps.{DerivationValue, AreSteps}
use Rattle.enc_layout.specs.Letters.{Meaning, Unpruned, Here, Accepted, letters_through}
use Rattle.enc_layout.specs.Clauses.{counts, clause_list}
use Rattle.enc_layout.specs.Targets.{negative_of, IsTarget}
use Rattle.completeness.specs.Refuted.{HasRefutation, RefutationsAreDecided}
use Rattle.completeness.proofs.Denying.{has_or_not}
use Rattle.completeness.proofs.Reaching.{line_known}
use Rattle.completeness.proofs.Refuted.{list_known, target_stays, target_last}
use Rattle.completeness.proofs.Searching.{some_list, some_number, each_number, both_or_not, listed}
use Rattle.completeness.proofs.Normal.{AreSameLines, all_same, step_same, literals_to, literal_known, parts, part_within, own_part, own_is_part, own_same}
use Rattle.completeness.proofs.Hinted.{hints_or_not}

all_or_not : (literals clause : List Literal) → All (Contains literals) clause ⊎ ¬ All (Contains literals) clause
all_or_not literals [] = inl (All-nil (Contains literals))
all_or_not literals (l ∷ clause) = elim (has_or_not literals l) [
  | inr none ↦ inr (λ all. none (All-head (Contains literals) l clause all))
  | inl there ↦ elim (all_or_not literals clause) [
    | inl all ↦ inl (All-cons (Contains literals) l clause there all)
    | inr not ↦ inr (λ all. not (All-tail (Contains literals) l clause all))
  ]
]

mapped_get : {X Y : Type 0} (f : X → Y) (xs : List X) (n : ℕ) (x : X) → slice_get xs n ≡ Some x → slice_get (map f xs) n ≡ Some (f x)
mapped_get f [] n x is = cc
mapped_get f (y ∷ xs) zero x is = let same : y ≡ x = cc in ap (λ z. Some (f z)) same
mapped_get f (y ∷ xs) (suc n) x is = mapped_get f xs n x is

-- some line has only these literals
abbrev HasTarget : List (List Literal) → List Literal → Type 0
HasTarget lines literals = (j : ℕ) × (j < length lines) × All (Contains literals) (get_or lines j [])

target_or_not : (lines : List (List Literal)) (literals : List Literal) → HasTarget lines literals ⊎ ¬ HasTarget lines literals
target_or_not lines literals =
    elim (some_number (λ j. All (Contains literals) (get_or lines j [])) (λ j. all_or_not literals (get_or lines j [])) (length lines)) [
      | inl w ↦ inl w
      | inr none ↦ inr (λ w. none w.0 w.1 w.2)
    ]

module _ (f : Formula) (kind : Kind) (k : ℕ) (few : letters_through kind (counts f) k ≤ greatest_u32) where
  abbrev list : List (List Literal)
  list = clause_list f kind k

  abbrev greatest : ℕ
  greatest = letters_through kind (counts f) k

  abbrev deny : Meaning → Meaning → List Literal
  deny p q = negative_of f kind p ∷ negative_of f kind q ∷ []

  abbrev all_parts : List (List Literal)
  all_parts = parts (literals_to greatest)

  abbrev HasHints : List (List Literal) → List Literal → Type 0
  HasHints lines clause = (hints : List Hint) × IsHintedStep list lines greatest_u32 clause hints

  abbrev AreHinted : List (List Literal) → Type 0
  AreHinted lines = (i : ℕ) → i < length lines → HasHints (take i lines) (get_or lines i [])

  abbrev HaveTargets : List (List Literal) → Type 0
  HaveTargets lines = ((i : ℕ) → i < suc k → HasTarget lines (deny (Here i) (Accepted i))) × HasTarget lines (deny (Here k) Unpruned)

  parts_known : (lines : List (List Literal)) → All (Contains all_parts) lines → AreKnown greatest lines
  parts_known lines own i d lt j e below =
      literal_known greatest (get_or (get_or lines i d) j e) (part_within (literals_to greatest) (get_or lines i d) (get_or (get_or lines i d) j e) (own i d lt)
      (Contains-get_or (get_or lines i d) j e below))

  good_or_not : (lines : List (List Literal)) → All (Contains all_parts) lines → (AreHinted lines × HaveTargets lines) ⊎ ¬ (AreHinted lines × HaveTargets lines)
  good_or_not lines own =
      both_or_not (each_number (λ i. HasHints (take i lines) (get_or lines i [])) (length lines)
      (λ i lt. hints_or_not list (take i lines) greatest greatest_u32 (list_known f kind k few)
      (All-take (All (IsKnown greatest)) i lines (parts_known lines own)) (get_or lines i [])))
      (both_or_not (each_number (λ i. HasTarget lines (deny (Here i) (Accepted i))) (suc k) (λ i lt. target_or_not lines (deny (Here i) (Accepted i))))
      (target_or_not lines (deny (Here k) Unpruned)))

  -- ---- from such lines to a refutation

  abbrev IsNumberOf : List (List Literal) → List Literal → ℕ → Type 0
  IsNumberOf lines literals m = (line : List Literal) × (numbered lines m ≡ Some line) × All (Contains literals) line

  refutation : (most : ℕ) (lines : List (List Literal)) → length lines ≤ most → All (Contains all_parts) lines → AreHinted lines → HaveTargets lines
      → HasRefutation f kind k most
  refutation most lines short own hinted (each, last) =
      let hints = listed [] (λ i hs. IsHintedStep list (take i lines) greatest_u32 (get_or lines i []) hs) (length lines) hinted in
      let targets = listed 0 (λ i m. IsNumberOf lines (deny (Here i) (Accepted i)) m) (suc k)
      (λ i lt. let t = each i lt in (suc t.0, (get_or lines t.0 [], slice_get-get_or lines t.0 [] t.1, t.2))) in
      let count = targets.1 in
      let number = suc last.0 in (
        record { lines = lines; hints = hints.0 },
        targets.0 ++ number ∷ [],
        record { paired = hints.1; steps = hints.2 },
        parts_known lines own,
        record {
          count = omega (arith, length-append targets.0 (number ∷ []), count);
          accepted = λ i le. target_stays lines lines targets.0 number i (deny (Here i) (Accepted i)) (omega arith) (λ m line is. is)
              (targets.2 i (omega arith));
          unpruned = target_last lines targets.0 number (suc k) (get_or lines last.0 []) (deny (Here k) Unpruned) count
              (slice_get-get_or lines last.0 [] last.1) last.2;
        },
        short,
      )

  -- ---- and from a refutation to such lines

  abbrev own : List Literal → List Literal
  own c = own_part c (literals_to greatest)

  same_lines : (lines : List (List Literal)) → AreKnown greatest lines → AreSameLines lines (map own lines)
  same_lines lines known zero c is = cc
  same_lines lines known (suc n) c is = (own c, mapped_get own lines n c is, own_same greatest c (line_known greatest lines (suc n) c known is))

  own_hinted : (log : DerivationValue) → AreSteps list log → AreKnown greatest log.lines → AreHinted (map own log.lines)
  own_hinted log are known i lt =
      let within : i < length log.lines = omega (arith, lt, length-map log.lines own) in
      let c = get_or log.lines i [] in
      let before = All-take (All (IsKnown greatest)) i log.lines known in
      let step = step_same list (take i log.lines) (map own (take i log.lines)) greatest_u32 (same_lines (take i log.lines) before) c (own c)
      (get_or log.hints i []) (own_same greatest c (All-get_or (All (IsKnown greatest)) log.lines i [] within known)) (are.steps i within) in (
        get_or log.hints i [],
        subst (λ l. IsHintedStep list l greatest_u32 (get_or (map own log.lines) i []) (get_or log.hints i [])) (sym (take-map own i log.lines))
            (subst (λ d. IsHintedStep list (map own (take i log.lines)) greatest_u32 d (get_or log.hints i []))
            (sym (get_or-map own log.lines i [] [] within)) step),
      )

  own_target : (lines : List (List Literal)) (targets : List ℕ) (i : ℕ) (literals : List Literal) → AreKnown greatest lines → IsTarget lines targets i literals
      → HasTarget (map own lines) literals
  own_target lines targets i literals known (line, is, all) = go (get_or targets i 0) is
    where
      go : (m : ℕ) → numbered lines m ≡ Some line → HasTarget (map own lines) literals
      go zero is = cc
      go (suc j) is =
          let within = slice_get_within lines j line is in
          let at : get_or lines j [] ≡ line = get_or_from_slice_get lines j line [] is in (
            j,
            omega (arith, within, length-map lines own),
            subst (All (Contains literals)) (ap own (sym at) ∙ sym (get_or-map own lines j [] [] within))
                (all_same (Contains literals) line (own line) (own_same greatest line (line_known greatest lines (suc j) line known is)) all),
          )

  decided : (most : ℕ) → HasRefutation f kind k most ⊎ ¬ HasRefutation f kind k most
  decided most = elim (some_list all_parts most (λ lines. AreHinted lines × HaveTargets lines) good_or_not) [
    | inl (lines, short, parted, (hinted, targets)) ↦ inl (refutation most lines short parted hinted targets)
    | inr none ↦ inr (λ (log, targets, steps, letters, closed, short). none (map own log.lines) (omega (arith, short, length-map log.lines own))
        (All-map (Contains all_parts) own log.lines (λ i d lt. own_is_part (get_or log.lines i d) (literals_to greatest))) (
          own_hinted log steps letters,
          (
            λ i lt. own_target log.lines targets i (deny (Here i) (Accepted i)) letters (closed.accepted i (omega arith)),
            own_target log.lines targets (suc k) (deny (Here k) Unpruned) letters closed.unpruned,
          ),
        ))
  ]

pub refutations_are_decided : RefutationsAreDecided
refutations_are_decided f kind k most few = decided f kind k few most
