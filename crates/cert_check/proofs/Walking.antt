-- The walk over the items of a text: which parts are taken, what the checker keeps of them, and that each line so far is good.
use Rattle.std.proofs.Common.{◌≡◌, ℕ, zero, suc, ◌<◌, ◌≤◌, ◌↔◌, inl, inr, Bool, true, false, IsTrue, List, [], ◌∷◌, ◌++◌, length, drop, get_or, All, Contains}
use Rattle.std.proofs.Common.{Some, None, refl, sym, ap, subst, ◌∙◌, arith, append_assoc}
use Rattle.std.proofs.lemmas.Bool.{cases_lt}
use Rattle.std.proofs.lemmas.List.{append-nil, length_push}
use mathlib.Core.Bool.{false≢true}
use Rattle.ltl_syntax.specs.declared.node.Kind.{Kind}
use Rattle.ltl_syntax.specs.Formula.{Formula}
use Rattle.cnf_base.specs.declared.literal.Literal.{Literal as Signed}
use Rattle.cnf_base.specs.declared.literal.Hint.{Hint}
use Rattle.cnf_base.specs.Among.{IsStepAmong}
use Rattle.cnf_base.proofs.Among.{step_kept}
use Rattle.cnf_base.specs.Known.{AreKnown}
use Rattle.enc_layout.specs.Letters.{letters_through}
use Rattle.enc_layout.specs.Clauses.{counts, clause_list}
use Rattle.enc_layout.proofs.Numbering.{list_range}
use Rattle.cert_text.specs.Text.{Part, Line, Delete, Certificate}
use Rattle.cert_text.specs.Live.{lines_of, hints_of, parts_before, live_line, live_at, IsGoodLine}
use Rattle.cert_text.specs.declared.item.CertItem.{CertItem}
use Rattle.cert_text.specs.declared.item.CertItem.TheVariants as items
use Rattle.cert_text.specs.Items.{items_from}
use Rattle.cert_text.proofs.LiveLines.{lines_on}
use Rattle.log_checker.specs.Judging.{Checker, fresh, LiveLine, found, with_item, IsGoodItem, IsFirstBadLine}
use Rattle.log_checker.proofs.Taken.{HasTaken, taken, taken_part}
use Rattle.cert_check.specs.Lawful.{target_literals, IsGoodTarget}
use Rattle.cert_check.specs.Walk.{IsGoodKept}

-- a line behind some parts: what stands before it, and what it says
before_it : (before : List Part) (ls : List Signed) (hs : List Hint) (coming : List Part)
    → parts_before (before ++ Line ls hs ∷ coming) (length (lines_of before)) ≡ before
before_it [] ls hs coming = refl
before_it (Line l h ∷ before) ls hs coming = ap (λ ps. Line l h ∷ ps) (before_it before ls hs coming)
before_it (Delete ns ∷ before) ls hs coming = ap (λ ps. Delete ns ∷ ps) (before_it before ls hs coming)

line_it : (before : List Part) (ls : List Signed) (hs : List Hint) (coming : List Part)
    → get_or (lines_of (before ++ Line ls hs ∷ coming)) (length (lines_of before)) [] ≡ ls
line_it [] ls hs coming = refl
line_it (Line l h ∷ before) ls hs coming = line_it before ls hs coming
line_it (Delete ns ∷ before) ls hs coming = line_it before ls hs coming

hints_it : (before : List Part) (ls : List Signed) (hs : List Hint) (coming : List Part)
    → get_or (hints_of (before ++ Line ls hs ∷ coming)) (length (lines_of before)) [] ≡ hs
hints_it [] ls hs coming = refl
hints_it (Line l h ∷ before) ls hs coming = hints_it before ls hs coming
hints_it (Delete ns ∷ before) ls hs coming = hints_it before ls hs coming

lines_long : (before : List Part) (ls : List Signed) (hs : List Hint) (coming : List Part)
    → length (lines_of before) < length (lines_of (before ++ Line ls hs ∷ coming))
lines_long [] ls hs coming = omega arith
lines_long (Line l h ∷ before) ls hs coming = let w = lines_long before ls hs coming in omega (arith, w)
lines_long (Delete ns ∷ before) ls hs coming = lines_long before ls hs coming

module _ (clauses : List (List Signed)) (letters : ℕ) (c : Certificate) where
  -- what the walk keeps: the parts taken and those to come
  pub record IsWalked (rest : List CertItem) (checker : Checker) : Type 0 where
    pub before : List Part
    pub coming : List Part
    pub parts : c.parts ≡ before ++ coming
    pub left : rest ≡ items_from coming c.targets
    pub has : HasTaken before checker
    pub letters_are : checker.letters ≡ letters
    pub good : (k : ℕ) → k < length (lines_of before) → IsGoodLine clauses letters c.parts k

  pub walk_starts : (rest : List CertItem) (checker : Checker) → rest ≡ items_from c.parts c.targets → checker ≡ fresh letters → IsWalked rest checker
  walk_starts rest checker is none = record {
    before = [];
    coming = c.parts;
    parts = refl;
    left = is;
    has = subst (HasTaken []) (sym none) (taken letters []);
    letters_are = ap (λ (x : Checker). x.letters) none;
    good = λ k low. absurd (omega (arith, low));
  }

  -- the line that comes is judged over what the checker keeps
  module _ (before coming : List Part) (checker : Checker) (ls : List Signed) (hs : List Hint) (parts : c.parts ≡ before ++ Line ls hs ∷ coming)
      (has : HasTaken before checker) (letters_are : checker.letters ≡ letters) where
    live_same : (m : ℕ) → found checker.live m ≡ live_at c.parts (length (lines_of before)) m
    live_same m = has.live m ∙ ap (λ ps. live_line ps m) (sym (ap (λ ps. parts_before ps (length (lines_of before))) parts ∙ before_it before ls hs coming))

    same_line : get_or (lines_of c.parts) (length (lines_of before)) [] ≡ ls
    same_line = ap (λ ps. get_or (lines_of ps) (length (lines_of before)) []) parts ∙ line_it before ls hs coming

    same_hints : get_or (hints_of c.parts) (length (lines_of before)) [] ≡ hs
    same_hints = ap (λ ps. get_or (hints_of ps) (length (lines_of before)) []) parts ∙ hints_it before ls hs coming

    good_here : IsStepAmong clauses (found checker.live) checker.letters ls hs ↔ IsGoodLine clauses letters c.parts (length (lines_of before))
    good_here = (
      λ step.
          subst (λ l. IsStepAmong clauses (live_at c.parts (length (lines_of before))) letters l (get_or (hints_of c.parts) (length (lines_of before)) []))
          (sym same_line)
          (subst (λ h. IsStepAmong clauses (live_at c.parts (length (lines_of before))) letters ls h) (sym same_hints)
          (step_kept clauses (found checker.live) (live_at c.parts (length (lines_of before))) letters (λ m x e. sym (live_same m) ∙ e) ls hs
          (subst (λ g. IsStepAmong clauses (found checker.live) g ls hs) letters_are step))),
      λ good.
          subst (λ g. IsStepAmong clauses (found checker.live) g ls hs) (sym letters_are)
          (step_kept clauses (live_at c.parts (length (lines_of before))) (found checker.live) letters (λ m x e. live_same m ∙ e) ls hs
          (subst (λ h. IsStepAmong clauses (live_at c.parts (length (lines_of before))) letters ls h) same_hints
          (subst (λ l. IsStepAmong clauses (live_at c.parts (length (lines_of before))) letters l (get_or (hints_of c.parts) (length (lines_of before)) []))
          same_line good))),
    )

  -- the parts to come, where the next item is a line, a delete or the close
  next_line : (coming : List Part) (ls : List Signed) (hs : List Hint) (more : List CertItem) → items.Line ls hs ∷ more ≡ items_from coming c.targets
      → (ps : List Part) × (coming ≡ Line ls hs ∷ ps) × (more ≡ items_from ps c.targets)
  next_line [] ls hs more is = absurd (cc)
  next_line (Delete ns ∷ ps) ls hs more is = absurd (cc)
  next_line (Line l h ∷ ps) ls hs more is = (ps, cc, cc)

  next_delete : (coming : List Part) (ns : List ℕ) (more : List CertItem) → items.Delete ns ∷ more ≡ items_from coming c.targets
      → (ps : List Part) × (coming ≡ Delete ns ∷ ps) × (more ≡ items_from ps c.targets)
  next_delete [] ns more is = absurd (cc)
  next_delete (Line l h ∷ ps) ns more is = absurd (cc)
  next_delete (Delete ms ∷ ps) ns more is = (ps, cc, cc)

  next_close : (coming : List Part) (ts : List ℕ) (more : List CertItem) → items.Close ts ∷ more ≡ items_from coming c.targets
      → (coming ≡ []) × (ts ≡ c.targets)
  next_close [] ts more is = (refl, cc)
  next_close (Line l h ∷ ps) ts more is = absurd (cc)
  next_close (Delete ms ∷ ps) ts more is = absurd (cc)

  -- there is always a next item before the close is taken
  pub walk_goes_on : (rest : List CertItem) (checker : Checker) → IsWalked rest checker → rest ≡ [] → ⊥
  walk_goes_on rest checker w none = never w.coming (sym none ∙ w.left)
    where
      never : (coming : List Part) → [] ≡ items_from coming c.targets → ⊥
      never [] e = cc
      never (p ∷ ps) e = cc

  module _ (rest more : List CertItem) (checker new : Checker) (w : IsWalked rest checker) where
    -- where a line comes there is room for its number
    pub line_counts : (ls : List Signed) (hs : List Hint) → rest ≡ items.Line ls hs ∷ more → checker.lines < length (lines_of c.parts)
    line_counts ls hs is =
        let n = next_line w.coming ls hs more (sym is ∙ w.left) in
        let whole : c.parts ≡ w.before ++ Line ls hs ∷ n.0 = w.parts ∙ ap (λ ps. w.before ++ ps) n.1 in
        omega (arith, w.has.lines, lines_long w.before ls hs n.0, ap (λ ps. length (lines_of ps)) whole)

    pub walk_line : (ls : List Signed) (hs : List Hint) → rest ≡ items.Line ls hs ∷ more → new ≡ with_item checker (items.Line ls hs) → (r : Bool)
        → IsGoodItem clauses checker (items.Line ls hs) r → r ≡ true → IsWalked more new
    walk_line ls hs is taken_is r judged good_one =
        let n = next_line w.coming ls hs more (sym is ∙ w.left) in
        let whole : c.parts ≡ w.before ++ Line ls hs ∷ n.0 = w.parts ∙ ap (λ ps. w.before ++ ps) n.1 in
        let here = (good_here w.before n.0 checker ls hs whole w.has w.letters_are).0 (judged.0 good_one) in
        record {
          before = w.before ++ Line ls hs ∷ [];
          coming = n.0;
          parts = whole ∙ sym (append_assoc w.before (Line ls hs ∷ []) n.0);
          left = n.2;
          has = subst (HasTaken (w.before ++ Line ls hs ∷ [])) (sym taken_is) (taken_part w.before checker (Line ls hs) w.has);
          letters_are = ap (λ (x : Checker). x.letters) taken_is ∙ w.letters_are;
          good = λ k low. elim (cases_lt k (length (lines_of w.before))) [
            | inl old ↦ w.good k old
            | inr high ↦
                let last : length (lines_of w.before) ≡ k =
                omega (arith, high, low, ap length (lines_on w.before (Line ls hs ∷ [])), length_push (lines_of w.before) ls) in
                subst (IsGoodLine clauses letters c.parts) last here
          ];
        }

    pub walk_delete : (ns : List ℕ) → rest ≡ items.Delete ns ∷ more → new ≡ with_item checker (items.Delete ns) → IsWalked more new
    walk_delete ns is taken_is =
        let n = next_delete w.coming ns more (sym is ∙ w.left) in
        let whole : c.parts ≡ w.before ++ Delete ns ∷ n.0 = w.parts ∙ ap (λ ps. w.before ++ ps) n.1 in
        record {
          before = w.before ++ Delete ns ∷ [];
          coming = n.0;
          parts = whole ∙ sym (append_assoc w.before (Delete ns ∷ []) n.0);
          left = n.2;
          has = subst (HasTaken (w.before ++ Delete ns ∷ [])) (sym taken_is) (taken_part w.before checker (Delete ns) w.has);
          letters_are = ap (λ (x : Checker). x.letters) taken_is ∙ w.letters_are;
          good = λ k low. w.good k (omega (arith, low, ap length (lines_on w.before (Delete ns ∷ []) ∙ append-nil (lines_of w.before))));
        }

    -- the first line that is not good is the first bad one
    pub walk_bad : (ls : List Signed) (hs : List Hint) → rest ≡ items.Line ls hs ∷ more → (r : Bool) → IsGoodItem clauses checker (items.Line ls hs) r
        → (r ≡ true → ⊥) → IsFirstBadLine clauses letters c.parts (Some checker.lines)
    walk_bad ls hs is r judged dead =
        let n = next_line w.coming ls hs more (sym is ∙ w.left) in
        let whole : c.parts ≡ w.before ++ Line ls hs ∷ n.0 = w.parts ∙ ap (λ ps. w.before ++ ps) n.1 in
        let no : IsGoodLine clauses letters c.parts checker.lines → ⊥ =
        λ good. let step = (good_here w.before n.0 checker ls hs whole w.has w.letters_are).1 (subst (IsGoodLine clauses letters c.parts) w.has.lines good) in
        dead (judged.1 step) in
        (omega arith, line_counts ls hs is, no, λ k above below. w.good k (omega (arith, below, w.has.lines)))

    -- at the close all lines are taken
    pub walk_closes : (ts : List ℕ)
        → rest ≡ items.Close ts ∷ more → (ts ≡ c.targets) × ((m : ℕ) → found checker.live m ≡ live_line c.parts m) × IsFirstBadLine clauses letters c.parts None
    walk_closes ts is =
        let n = next_close w.coming ts more (sym is ∙ w.left) in
        let whole : c.parts ≡ w.before = w.parts ∙ ap (λ ps. w.before ++ ps) n.0 ∙ append-nil w.before in (
          n.1,
          (λ m. w.has.live m ∙ ap (λ ps. live_line ps m) (sym whole)),
          λ k above below. w.good k (omega (arith, below, ap (λ ps. length (lines_of ps)) whole)),
        )

-- a target is good by what the checker keeps exactly where it is by the text
pub kept_target : (f : Formula) (kind : Kind) (depth : ℕ) (c : Certificate) (checker : Checker) (targets : List ℕ) (i : ℕ)
    → c.kind ≡ kind → c.depth ≡ depth → targets ≡ c.targets
    → ((m : ℕ) → found checker.live m ≡ live_line c.parts m) → IsGoodKept f kind depth checker.live i (get_or targets i 0) ↔ IsGoodTarget f c i
kept_target f kind depth c checker targets i same_kind same_depth same_targets live =
    let name : get_or targets i 0 ≡ get_or c.targets i 0 = ap (λ ts. get_or ts i 0) same_targets in
    let at : found checker.live (get_or targets i 0) ≡ live_line c.parts (get_or c.targets i 0) = live (get_or targets i 0) ∙ ap (live_line c.parts) name in
    let literals : target_literals f kind depth i ≡ target_literals f c.kind c.depth i =
    ap (λ k. target_literals f k depth i) (sym same_kind) ∙ ap (λ d. target_literals f c.kind d i) (sym same_depth) in (
      λ (line, there, among). (line, sym at ∙ there, subst (λ ls. All (Contains ls) line) literals among),
      λ (line, there, among). (line, at ∙ there, subst (λ ls. All (Contains ls) line) (sym literals) among),
    )

-- what is kept of the line that a target names says whether the target is good
pub kept_here : (f : Formula) (kind : Kind) (depth : ℕ) (kept : List LiveLine) (i target : ℕ) (literals allowed : List Signed) (r : Bool)
    → found kept target ≡ Some literals → allowed ≡ target_literals f kind depth i
    → (IsTrue r ↔ All (Contains allowed) literals) → IsTrue r ↔ IsGoodKept f kind depth kept i target
kept_here f kind depth kept i target literals allowed r there is test = (
  λ yes. (literals, there, subst (λ ls. All (Contains ls) literals) is (test.0 yes)),
  λ (line, other, among).
      let same : Some line ≡ Some literals = sym other ∙ there in
      let e : line ≡ literals = cc in
      test.1 (subst (λ ls. All (Contains ls) literals) (sym is) (subst (All (Contains (target_literals f kind depth i))) e among)),
)

pub kept_none : (f : Formula) (kind : Kind) (depth : ℕ) (kept : List LiveLine) (i target : ℕ)
    → found kept target ≡ None → IsTrue false ↔ IsGoodKept f kind depth kept i target
kept_none f kind depth kept i target none = (
  (λ yes. absurd (false≢true yes)),
  λ (line, there, among). let clash : None ≡ Some line = sym none ∙ there in absurd (cc),
)

-- what is left of a list behind its first i members
pub drop_front : (xs : List ℕ) (i x : ℕ) (more : List ℕ) → drop i xs ≡ x ∷ more → (i < length xs) × (get_or xs i 0 ≡ x) × (drop (suc i) xs ≡ more)
drop_front [] zero x more e = absurd (cc)
drop_front [] (suc i) x more e = absurd (cc)
drop_front (y ∷ ys) zero x more e = (omega arith, cc, cc)
drop_front (y ∷ ys) (suc i) x more e = let w = drop_front ys i x more e in (omega (arith, w.0), w.1, w.2)

pub drop_none : (xs : List ℕ) (i : ℕ) → drop i xs ≡ [] → length xs ≤ i
drop_none [] i e = omega arith
drop_none (y ∷ ys) zero e = absurd (cc)
drop_none (y ∷ ys) (suc i) e = let w = drop_none ys i e in omega (arith, w)

-- the letters of the clause list are known
pub list_known : (f : Formula) (kind : Kind) (d : ℕ) → AreKnown (letters_through kind (counts f) d) (clause_list f kind d)
list_known f kind d i a low j b below = let it = list_range f kind d i a low j b below in record { from_one = omega (arith, it.0); within = it.1 }
