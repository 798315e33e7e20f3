-- From what the workers say of their lines to answers, and from some lines after others to all answers of a text.
use Rattle.std.proofs.Common.{◌≡◌, ◌∙◌, ℕ, suc, ◌+◌, ◌*◌, ◌/◌, ◌%◌, ◌<◌, ◌≤◌, ◌==◌, ◌⊎◌, true, List, [], ◌∷◌, inl, inr, ◌++◌, length, get_or, take, refl, sym}
use Rattle.std.proofs.Common.{ap, subst, arith, append_assoc, length-append}
use Rattle.std.proofs.Math.Nat.{mod-add-div, mod-lt, mul_comm, eq-or-lt_of_le}
use Rattle.std.proofs.Math.Seq.{get_or-append_seam}
use Rattle.std.proofs.lemmas.Bool.{eqb-true}
use Rattle.std.proofs.lemmas.List.{append-nil, map-append, take_more, length-take-le, get_or_append_left, get_or_default}
use Rattle.ltl_syntax.specs.declared.node.Kind.{Kind}
use Rattle.batch_run.specs.declared.answer.LineOutcome.{LineOutcome}
use Rattle.batch_run.specs.declared.answer.LineAnswer.{LineAnswer}
use Rattle.batch_run.specs.declared.lines.Line.{Line}
use Rattle.batch_run.specs.declared.groups.Lane.{Lane}
use Rattle.batch_run.specs.Lines.{FormulaLine, AreFormulaLines}
use Rattle.batch_run.specs.Outcomes.{IsOutcome, AreAnswered, AreAnswers}
use Rattle.batch_run.specs.Grouping.{Continues, line_of, lines_of, AreOwn, AreOutcomes, HasOutcome, AreTaken, HasOutcomes, IsUnderWay}
use Rattle.batch_run.proofs.Cutting.{no_line, continues_then}

-- ---- the answers of some lines

taken_more : (lanes : List Lane) (at : ℕ) (lines : List Line) (answers : List LineAnswer) (l : Line) (x : LineAnswer) → AreTaken lanes at lines answers
    → x.line ≡ l.number → HasOutcome lanes (at + length lines) x.outcome
    → AreTaken lanes at (lines ++ l ∷ []) (answers ++ x ∷ [])
taken_more lanes at [] [] l x h number has = (number, subst (λ n. HasOutcome lanes n x.outcome) (omega arith) has, tt)
taken_more lanes at [] (y ∷ answers) l x h number has = absurd h
taken_more lanes at (m ∷ lines) [] l x h number has = absurd h
taken_more lanes at (m ∷ lines) (y ∷ answers) l x (n, o, h) number has =
    let there : at + suc (length lines) ≡ suc at + length lines = omega arith in
    (n, o, taken_more lanes (suc at) lines answers l x h number (subst (λ k. HasOutcome lanes k x.outcome) there has))

-- the outcome of one more line
pub one_collected : (lanes : List Lane) (lines : List Line) (index : ℕ) (l : Line) (before answers : List LineAnswer) (x : LineAnswer) → index < length lines
    → HasOutcomes lanes (take index lines) before answers → l ≡ get_or lines index l
    → x.line ≡ l.number → HasOutcome lanes index x.outcome → HasOutcomes lanes (take (index + 1) lines) before (answers ++ x ∷ [])
one_collected lanes lines index l before answers x low (more, e, taken) is number has =
    let long : 0 + length (take index lines) ≡ index = let h = length-take-le index lines (omega (arith, low)) in omega (arith, h) in (
      more ++ x ∷ [],
      ap (λ xs. xs ++ x ∷ []) e ∙ append_assoc before more (x ∷ []),
      subst (λ xs. AreTaken lanes 0 xs (more ++ x ∷ [])) (sym (take_more lines index l low ∙ ap (λ y. take index lines ++ y ∷ []) (sym is)))
          (taken_more lanes 0 (take index lines) more l x taken number (subst (λ n. HasOutcome lanes n x.outcome) (sym long) has)),
    )

-- ---- what the workers leave

-- one more line of a worker is decided
pub one_decided : (kind : Kind) (asked : ℕ) (lines : List Line) (worker workers index : ℕ) (old new : List LineOutcome) (line : Line) (o : LineOutcome)
    → index ≡ worker + length old * workers → AreOwn kind asked lines worker workers old
    → line ≡ get_or lines index line → index < length lines → IsOutcome kind asked line.text.now o
    → new ≡ old ++ o ∷ [] → AreOwn kind asked lines worker workers new
one_decided kind asked lines worker workers index old new line o at own is low here e =
    subst (AreOwn kind asked lines worker workers) (sym e) own_and
  where
    last : (l : Line) → IsOutcome kind asked (get_or lines index l).text.now o
    last l = subst (λ (x : Line). IsOutcome kind asked x.text.now o) (is ∙ get_or_default lines index line l low) here

    case : (j : ℕ) (l : Line) (d : LineOutcome) → (j ≡ length old) ⊎ (j < length old)
        → IsOutcome kind asked (get_or lines (worker + j * workers) l).text.now (get_or (old ++ o ∷ []) j d)
    case j l d (inl behind) =
        subst (λ n. IsOutcome kind asked (get_or lines (worker + n * workers) l).text.now (get_or (old ++ o ∷ []) n d)) (sym behind)
        (subst (λ n. IsOutcome kind asked (get_or lines n l).text.now (get_or (old ++ o ∷ []) (length old) d)) at
        (subst (IsOutcome kind asked (get_or lines index l).text.now) (sym (get_or-append_seam old o [] d)) (last l)))
    case j l d (inr before) =
        subst (IsOutcome kind asked (get_or lines (worker + j * workers) l).text.now) (sym (get_or_append_left old (o ∷ []) d j before)) (own j l d before)

    own_and : AreOwn kind asked lines worker workers (old ++ o ∷ [])
    own_and j l d less = let long = length-append old (o ∷ []) in case j l d (eq-or-lt_of_le (omega (arith, less, long)))

module _ (kind : Kind) (asked : ℕ) (lanes : List Lane) (all : List Line) (some : 1 ≤ length lanes)
    (done : (worker : ℕ) (d : Lane) → worker < length lanes → AreOutcomes kind asked all worker (length lanes) (get_or lanes worker d)) where
  -- the lane of a line has what is said of it
  outcome_here : (at : ℕ) (l : Line) (o : LineOutcome) → l ≡ get_or all at l → HasOutcome lanes at o → IsOutcome kind asked l.text.now o
  outcome_here at l o line (lane, is, low, e) =
      let workers = length lanes in
      let back : at % workers + at / workers * workers ≡ at = let h = mod-add-div at workers in let c = mul_comm workers (at / workers) in
      omega (arith, h, c) in
      let own = subst (AreOutcomes kind asked all (at % workers) workers) (sym is) (done (at % workers) lane (mod-lt at some)) in
      let told = subst (λ n. IsOutcome kind asked (get_or all n l).text.now (get_or lane.outcomes.items (at / workers) o)) back
      (own.own (at / workers) l o low) in
      subst (λ (y : Line). IsOutcome kind asked y.text.now o) (sym line) (subst (λ x. IsOutcome kind asked (get_or all at l).text.now x) (sym e) told)

  -- what is taken answers the lines from a place on
  pub answered_from : (at : ℕ) (lines : List Line) (more : List LineAnswer) → ((i : ℕ) (d : Line) → i < length lines → get_or all (at + i) d ≡ get_or lines i d)
      → AreTaken lanes at lines more → AreAnswered kind asked (lines_of lines) more
  answered_from at [] [] same h = tt
  answered_from at [] (x ∷ more) same h = absurd h
  answered_from at (l ∷ lines) [] same h = absurd h
  answered_from at (l ∷ lines) (x ∷ more) same (number, has, h) =
      let here : at + 0 ≡ at = omega arith in (
        number,
        outcome_here at l x.outcome (sym (subst (λ n. get_or all n l ≡ l) here (same 0 l (omega arith)))) has,
        answered_from (suc at) lines more (λ i d low. let next : at + suc i ≡ suc at + i = omega arith in
            subst (λ n. get_or all n d ≡ get_or lines i d) next (same (suc i) d (omega (arith, low)))) h,
      )

answered_both : (kind : Kind) (asked : ℕ) (xs ys : List FormulaLine) (before more : List LineAnswer) → AreAnswered kind asked xs before
    → AreAnswered kind asked ys more → AreAnswered kind asked (xs ++ ys) (before ++ more)
answered_both kind asked [] ys [] more h k = k
answered_both kind asked [] ys (b ∷ before) more h k = absurd h
answered_both kind asked (x ∷ xs) ys [] more h k = absurd h
answered_both kind asked (x ∷ xs) ys (b ∷ before) more (number, outcome, h) k = (number, outcome, answered_both kind asked xs ys before more h k)

-- ---- the lines of a text

-- the first lines are taken
pub first_lines : (kind : Kind) (asked : ℕ) (text : List ℕ) (lines : List Line) (number : ℕ) (rest : List ℕ)
    → length text ≤ 16777216 → Continues 1 text number rest (lines_of lines)
    → (lines ≡ [] → rest ≡ []) → number + length rest ≤ 1 + length text → length lines + 1 ≤ number → IsUnderWay kind asked text [] lines number rest
first_lines kind asked text lines number rest small are all room pieces =
    record { done = []; answered = tt; lines = are; all = all; room = omega (arith, room, small); pieces = omega (arith, pieces) }

-- they are answered, and the next ones are taken
pub next_lines : (kind : Kind) (asked : ℕ) (text : List ℕ) (answers : List LineAnswer) (lanes : List Lane) (lines : List Line) (number : ℕ) (rest : List ℕ)
    (after : List LineAnswer) (later : List Line) (next : ℕ) (left : List ℕ)
    → IsUnderWay kind asked text answers lines number rest → 1 ≤ length lanes
    → ((worker : ℕ) (d : Lane) → worker < length lanes → AreOutcomes kind asked lines worker (length lanes) (get_or lanes worker d))
    → HasOutcomes lanes lines answers after → Continues number rest next left (lines_of later) → (later ≡ [] → left ≡ [])
    → next + length left ≤ number + length rest → length later + number ≤ next
    → IsUnderWay kind asked text after later next left
next_lines kind asked text answers lanes lines number rest after later next left way some done (more, e, taken) are all room pieces =
    record {
      done = way.done ++ lines_of lines;
      answered =
          subst (AreAnswered kind asked (way.done ++ lines_of lines)) (sym e) (answered_both kind asked way.done (lines_of lines) answers more way.answered
          (answered_from kind asked lanes lines some done 0 lines more (λ i d low. ap (λ n. get_or lines n d) (omega arith)) taken));
      lines = continues_then 1 text number rest next left (way.done ++ lines_of lines) (lines_of later) way.lines are;
      all = all;
      room = omega (arith, room, way.room);
      pieces = let n = ap length e in let m = taken_long 0 lines more taken in omega (arith, way.pieces, pieces, n, m, length-append answers more);
    }
  where
    taken_long : (at : ℕ) (ls : List Line) (found : List LineAnswer) → AreTaken lanes at ls found → length found ≡ length ls
    taken_long at [] [] h = refl
    taken_long at [] (x ∷ found) h = absurd h
    taken_long at (l ∷ ls) [] h = absurd h
    taken_long at (l ∷ ls) (x ∷ found) (n, o, h) = ap suc (taken_long (suc at) ls found h)

-- no line is left
pub all_answered : (kind : Kind) (asked : ℕ) (text : List ℕ) (answers : List LineAnswer) (lines : List Line) (number : ℕ) (rest : List ℕ)
    → lines ≡ [] → IsUnderWay kind asked text answers lines number rest → AreAnswers kind asked text answers
all_answered kind asked text answers lines number rest none way =
    let cut = subst (λ t. Continues 1 text number t (way.done ++ lines_of lines)) (way.all none) way.lines in
    let ends = subst (λ g. Continues 1 text number [] (way.done ++ lines_of g)) none cut in
    let found = ends [] (no_line number) in
    let same : (way.done ++ []) ++ [] ≡ way.done = append-nil (way.done ++ []) ∙ append-nil way.done in
    record { lines = way.done; found = subst (AreFormulaLines 1 text) same found; answered = way.answered }

-- one more line is taken
pub one_taken : (a : ℕ) (s : List ℕ) (number : ℕ) (text : List ℕ) (next : ℕ) (rest : List ℕ) (lines after : List Line) (line : Line)
    → after ≡ lines ++ line ∷ [] → Continues a s number text (lines_of lines)
    → Continues number text next rest (line_of line ∷ []) → Continues a s next rest (lines_of after)
one_taken a s number text next rest lines after line e before one =
    subst (Continues a s next rest) (sym (ap lines_of e ∙ map-append line_of lines (line ∷ [])))
    (continues_then a s number text next rest (lines_of lines) (line_of line ∷ []) before one)

pub one_longer : {X : Type 0} (xs ys : List X) (x : X) → ys ≡ xs ++ x ∷ [] → length ys ≡ length xs + 1
one_longer xs ys x e = ap length e ∙ length-append xs (x ∷ [])

pub none_left : (lines : List Line) (n : ℕ) → n ≡ length lines → (n == 0) ≡ true → lines ≡ []
none_left [] n long e = refl
none_left (l ∷ lines) n long e = let none : n ≡ 0 = eqb-true n 0 e in absurd (omega (arith, none, long))
