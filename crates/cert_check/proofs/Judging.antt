-- From the lines and the targets of a certificate to the answer on its bytes.
use Rattle.std.proofs.Common.{◌≡◌, ℕ, suc, ◌+◌, ◌-◌, ◌<◌, ◌≤◌, ◌⊎◌, ◌↔◌, inl, inr, Bool, IsTrue, is_some, List, [], length, get_or, All, Contains}
use Rattle.std.proofs.Common.{Option, Some, None, refl, sym, ap, subst, ◌∙◌, arith}
use mathlib.Core.Bool.{false≢true}
use Rattle.std.proofs.lemmas.Bool.{cases_lt}
use Rattle.std.proofs.lemmas.Option.{get_or_from_slice_get}
use Rattle.ltl_syntax.specs.declared.node.Kind.{Kind}
use Rattle.ltl_syntax.specs.Formula.{Formula}
use Rattle.cnf_base.specs.declared.literal.Literal.{Literal as Signed}
use Rattle.cnf_base.specs.Step.{numbered}
use Rattle.cert_text.specs.Text.{Certificate, IsTextOf}
use Rattle.cert_text.specs.Live.{lines_of, live_line}
use Rattle.cert_text.proofs.LiveLines.{live_stands}
use Rattle.enc_layout.specs.Letters.{LayoutValue, Fits, letters_through}
use Rattle.enc_layout.specs.Clauses.{counts, clause_list}
use Rattle.log_checker.specs.Judging.{IsFirstBadLine}
use Rattle.enc_layout.specs.Limit.{layout, IsInForce}
use Rattle.cert_check.specs.Lawful.{target_literals, IsGoodTarget}
use Rattle.cert_check.specs.Answer.{Answer, FormFault, OtherKind, TooManyLetters, BadLine, BadTarget, Verified, HasFewLetters, IsAnswer, IsFirstTarget}
use Rattle.cert_check.specs.Answer.{IsJudged, targets_answer, AreGoodLines}
use Rattle.cert_check.proofs.Answers.{all_good}
use Rattle.cert_check.proofs.Closing.{number_of_line}

-- what is judged by lines and targets is the answer on the bytes, where the kind is right and letters are few
pub judged_answer : (f : Formula) (kind : Kind) (bytes : List ℕ) (c : Certificate) (a : Answer) → IsTextOf bytes c → c.kind ≡ kind → HasFewLetters f c
    → IsJudged f c a → IsAnswer f kind bytes a
judged_answer f kind bytes c (FormFault b) text same few is = absurd is
judged_answer f kind bytes c OtherKind text same few is = absurd is
judged_answer f kind bytes c (TooManyLetters d) text same few is = absurd is
judged_answer f kind bytes c (BadLine n) text same few is = (c, text, same, few, is.0, is.1, is.2)
judged_answer f kind bytes c (BadTarget n) text same few (lines, (i, number, first)) = (c, text, same, few, lines, i, number, first)
judged_answer f kind bytes c Verified text same few (lines, targets) = all_good f kind bytes c text same few lines targets

-- and so with good lines, by the first bad target
pub judged_targets : (f : Formula) (c : Certificate) (bad : Option ℕ) → AreGoodLines f c → IsFirstTarget (IsGoodTarget f c) (c.depth + 2) bad
    → IsJudged f c (targets_answer bad)
judged_targets f c None lines first = (lines, first)
judged_targets f c (Some n) lines first = (lines, first)

-- the first bad place is the same where the same places are good
pub first_same : (Good Other : ℕ → Type 0) (count : ℕ) (bad : Option ℕ) → ((i : ℕ) → i < count → Good i ↔ Other i) → IsFirstTarget Good count bad
    → IsFirstTarget Other count bad
first_same Good Other count None same first = λ i above below. (same i below).0 (first i above below)
first_same Good Other count (Some n) same (i, number, (above, below, bad, good)) =
    (i, number, (above, below, (λ h. bad ((same i below).1 h)), λ j over under. (same j (omega (arith, under, below))).0 (good j over under)))

-- a target that names line m is good by the line's literals, where it is live at the close
module _ (f : Formula) (c : Certificate) (i m : ℕ) (names : m ≡ get_or c.targets i 0) where
  only : (literals : List Signed) → 1 ≤ m → literals ≡ get_or (lines_of c.parts) (m - 1) [] → (there : Option (List Signed))
      → live_line c.parts m ≡ there → IsTrue (is_some there) → live_line c.parts m ≡ Some literals
  only literals low at None is there = absurd (cc)
  only literals low at (Some line) is there =
      let back : m ≡ suc (m - 1) = omega (arith, low) in
      let stands : numbered (lines_of c.parts) (suc (m - 1)) ≡ Some line =
      subst (λ n. numbered (lines_of c.parts) n ≡ Some line) back (live_stands c.parts m line is) in
      is ∙ ap (λ x. Some x) (sym (get_or_from_slice_get (lines_of c.parts) (m - 1) line [] stands) ∙ sym at)

  pub good_line : (literals : List Signed) → 1 ≤ m → IsTrue (is_some (live_line c.parts m)) → literals ≡ get_or (lines_of c.parts) (m - 1) []
      → All (Contains (target_literals f c.kind c.depth i)) literals ↔ IsGoodTarget f c i
  good_line literals low live at =
      let is = only literals low at (live_line c.parts m) refl live in (
        λ among. (literals, subst (λ n. live_line c.parts n ≡ Some literals) names is, among),
        λ (line, there, among).
            let same : Some line ≡ Some literals = sym there ∙ subst (λ n. live_line c.parts n ≡ Some literals) names is in
            let e : line ≡ literals = cc in
            subst (All (Contains (target_literals f c.kind c.depth i))) e among,
      )

  -- a number of no line is good for nothing
  pub no_line : (m < 1) ⊎ (length (lines_of c.parts) < m) → ¬ IsGoodTarget f c i
  no_line out (line, there, among) =
      let w = number_of_line (lines_of c.parts) m line (live_stands c.parts m line (subst (λ n. live_line c.parts n ≡ Some line) (sym names) there)) in
      elim out [ inl low ↦ omega (arith, low, w.0) | inr high ↦ omega (arith, high, w.1) ]

-- what a view says of a target
pub seen_target : (f : Formula) (kind : Kind) (depth : ℕ) (c : Certificate) (i m : ℕ) (literals allowed : List Signed) (r : Bool)
    → m ≡ get_or c.targets (i + 1 - 1) 0 → 1 ≤ m → IsTrue (is_some (live_line c.parts m))
    → literals ≡ get_or (lines_of c.parts) (m - 1) [] → c.kind ≡ kind → depth ≡ c.depth → allowed ≡ target_literals f kind depth i
    → (IsTrue r ↔ All (Contains allowed) literals) → IsTrue r ↔ IsGoodTarget f c i
seen_target f kind depth c i m literals allowed r names low live at same_kind same_depth is test =
    let back : i + 1 - 1 ≡ i = omega arith in
    let good = good_line f c i m (names ∙ ap (λ j. get_or c.targets j 0) back) literals low live at in
    let own : allowed ≡ target_literals f c.kind c.depth i =
    is ∙ (ap (λ k. target_literals f k depth i) (sym same_kind) ∙ ap (λ d. target_literals f c.kind d i) same_depth) in (
      λ yes. good.0 (subst (λ ls. All (Contains ls) literals) own (test.0 yes)),
      λ it. test.1 (subst (λ ls. All (Contains ls) literals) (sym own) (good.1 it)),
    )

-- the target tested last: no bad one so far, or it is the first
pub good_so_far : (Good : ℕ → Type 0) (i : ℕ) → ((k : ℕ) → k < i → Good k) → Good i → (k : ℕ) → k < i + 1 → Good k
good_so_far Good i before here k low =
    elim (cases_lt k i) [ inl old ↦ before k old | inr high ↦ let same : i ≡ k = omega (arith, high, low) in subst Good same here ]

pub bad_here : (Good : ℕ → Type 0) (i count : ℕ) → i < count → ((k : ℕ) → k < i → Good k) → (Good i → ⊥) → IsFirstTarget Good count (Some (i + 1))
bad_here Good i count low before bad = (i, omega arith, (omega arith, low, bad, λ k above below. before k below))

pub none_bad : (Good : ℕ → Type 0) (i count : ℕ) → count ≤ i → ((k : ℕ) → k < i → Good k) → IsFirstTarget Good count None
none_bad Good i count all before = λ k above below. before k (omega (arith, below, all))

-- the first bad line over the clause list of this kind and depth is that of the certificate
pub first_line : (f : Formula) (kind : Kind) (d : ℕ) (c : Certificate) (o : Option ℕ)
    → kind ≡ c.kind → d ≡ c.depth → IsFirstBadLine (clause_list f kind d) (letters_through kind (counts f) d) c.parts o
    → IsFirstBadLine (clause_list f c.kind c.depth) (letters_through c.kind (counts f) c.depth) c.parts o
first_line f kind d c o same_kind same_depth is =
    subst (λ n. IsFirstBadLine (clause_list f c.kind n) (letters_through c.kind (counts f) n) c.parts o) same_depth
    (subst (λ k. IsFirstBadLine (clause_list f k d) (letters_through k (counts f) d) c.parts o) same_kind is)

-- ---- what comes before the lines

pub in_force : (l : LayoutValue) (f : Formula) (kind : Kind) (n d : ℕ) → l ≡ layout f kind → d ≤ n → Fits l d → ((e : ℕ) → e ≤ n → Fits l e → e ≤ d)
    → IsInForce f kind n d
in_force l f kind n d is below fits greatest = record {
  below = below;
  fits = subst (λ (x : LayoutValue). Fits x d) is fits;
  greatest = λ e low h. greatest e low (subst (λ (x : LayoutValue). Fits x e) (sym is) h);
}

-- a text of the other kind
pub other_kind : (f : Formula) (kind : Kind) (bytes : List ℕ) (c : Certificate) (said : Kind) → IsTextOf bytes c → said ≡ c.kind → (said ≡ kind → ⊥)
    → IsAnswer f kind bytes OtherKind
other_kind f kind bytes c said text says other = (c, text, λ same. other (says ∙ same))

-- a text of the right kind, over the closure of the formula
module _ (f : Formula) (kind : Kind) (bytes : List ℕ) (c : Certificate) (formula : Formula) (own : Kind) (n : ℕ) (text : IsTextOf bytes c)
    (same_kind : c.kind ≡ kind) (same_depth : n ≡ c.depth) (is : formula ≡ f) (own_is : own ≡ kind) where
  few : Fits (layout formula own) n → HasFewLetters f c
  few h =
      subst (λ m. Fits (layout f c.kind) m) same_depth
      (subst (λ k. Fits (layout f k) n) (own_is ∙ sym same_kind) (subst (λ (g : Formula). Fits (layout g own) n) is h))

  many : (Fits (layout formula own) n → ⊥) → HasFewLetters f c → ⊥
  many none h =
      none
      (subst (λ (g : Formula). Fits (layout g own) n) (sym is)
      (subst (λ k. Fits (layout f k) n) (same_kind ∙ sym own_is) (subst (λ m. Fits (layout f c.kind) m) (sym same_depth) h)))

  pub too_many : (d : ℕ) → (Fits (layout formula own) n → ⊥) → IsInForce formula own n d → IsAnswer f kind bytes (TooManyLetters d)
  too_many d none force = (
    c,
    text,
    same_kind,
    many none,
    subst (λ m. IsInForce f kind m d) same_depth (subst (λ k. IsInForce f k n d) own_is (subst (λ (g : Formula). IsInForce g own n d) is force)),
  )

  pub judged_bytes : (a : Answer) → Fits (layout formula own) n → IsJudged formula c a → IsAnswer f kind bytes a
  judged_bytes a fits judged = judged_answer f kind bytes c a text same_kind (few fits) (subst (λ (g : Formula). IsJudged g c a) is judged)

-- the same list by the same formula, kind and depth
pub same_list : {f g : Formula} {k j : Kind} {d e : ℕ} → f ≡ g → k ≡ j → d ≡ e → clause_list f k d ≡ clause_list g j e
same_list {f = f} {g = g} {k = k} {j = j} {d = d} {e = e} formulas kinds depths =
    ap (λ (x : Formula). clause_list x k d) formulas ∙ (ap (λ x. clause_list g x d) kinds ∙ ap (clause_list g j) depths)
