-- Which line is the first bad one, and what a checker keeps that goes through the parts once.
use Rattle.std.specs.Prelude.{◌≡◌, ℕ, suc, ◌<◌, ◌≤◌, ◌↔◌, IsTrue, Bool, true, false, not, All, Contains, slice_index_or, ◌==◌, List, [], ◌∷◌, ◌++◌, length}
use Rattle.std.specs.Prelude.{filter, Option, Some, None, if◌then◌else◌, ⊤}
use Rattle.std.specs.List.{list_any}
use Rattle.cnf_base.specs.declared.literal.Literal.{Literal}
use Rattle.cnf_base.specs.declared.literal.Hint.{Hint}
use Rattle.cnf_base.specs.Literal.{opposite}
use Rattle.cnf_base.specs.Step.{HasNoPair, IsFalse, IsUnit}
use Rattle.cnf_base.specs.Among.{NamesAmong, RefutesAmong, IsStepAmong}
use Rattle.cnf_base.specs.Known.{IsKnown}
use Rattle.cert_text.specs.Text.{Part, Line, Delete}
use Rattle.cert_text.specs.Live.{lines_of, IsGoodLine}
use Rattle.cert_text.specs.declared.item.CertItem.{CertItem}
use Rattle.cert_text.specs.declared.item.CertItem.TheVariants as items
use Rattle.log_checker.specs.declared.lines.Lines.{Lines}
use Rattle.log_checker.specs.declared.lines.Lines.TheVariants.{AllGood, FirstBad}
use Rattle.log_checker.specs.declared.outcome.ClauseStatus.{ClauseStatus}
use Rattle.log_checker.specs.declared.outcome.ClauseStatus.TheVariants.{AllFalse, Forces, Neither}

-- the first of the places of a range that is not good; none where all are
abbrev pub IsFirstBad : (ℕ → Type 0) → ℕ → ℕ → Option ℕ → Type 0
IsFirstBad Good from to None = (k : ℕ) → from ≤ k → k < to → Good k
IsFirstBad Good from to (Some n) = (from ≤ n) × (n < to) × (¬ Good n) × ((k : ℕ) → from ≤ k → k < n → Good k)

-- a piece of a range: where it ends, and its first bad place
pub record Piece : Type 0 where
  pub to : ℕ
  pub answer : Option ℕ

-- the pieces are consecutive from here on, and each answers with its first bad place
abbrev pub AreAnswered : (ℕ → Type 0) → ℕ → List Piece → Type 0
AreAnswered Good from [] = ⊤
AreAnswered Good from (p ∷ ps) = (from ≤ p.to) × IsFirstBad Good from p.to p.answer × AreAnswered Good p.to ps

-- where the last piece ends
abbrev pub end_of : ℕ → List Piece → ℕ
end_of from [] = from
end_of from (p ∷ ps) = end_of p.to ps

-- the first answer, or else the second
abbrev pub prefer : Option ℕ → Option ℕ → Option ℕ
prefer (Some n) o = Some n
prefer None o = o

-- the answer of the first piece that has a bad place
abbrev pub first_answer : List Piece → Option ℕ
first_answer [] = None
first_answer (p ∷ ps) = prefer p.answer (first_answer ps)

-- the first line that is no hinted step, counted from 0
abbrev pub IsFirstBadLine : List (List Literal) → ℕ → List Part → Option ℕ → Type 0
IsFirstBadLine clauses greatest parts answer = IsFirstBad (IsGoodLine clauses greatest parts) 0 (length (lines_of parts)) answer

-- a live line: its number and its literals
pub record LiveLine : Type 0 where
  pub number : ℕ
  pub literals : List Literal

-- what the checker keeps: the greatest letter, how many lines it has taken, and those that are live, ascending
pub record Checker : Type 0 where
  pub letters : ℕ
  pub lines : ℕ
  pub live : List LiveLine

-- before the first part
abbrev pub fresh : ℕ → Checker
fresh letters = record { letters = letters; lines = 0; live = [] }

-- whether one of the numbers is that of the line
abbrev pub is_named : List ℕ → LiveLine → Bool
is_named ns l = list_any (λ n. n == l.number) ns

-- a part is taken
abbrev pub with_part : Checker → Part → Checker
with_part c (Line literals hints) =
    record { letters = c.letters; lines = suc c.lines; live = c.live ++ record { number = suc c.lines; literals = literals } ∷ [] }
with_part c (Delete ns) = record { letters = c.letters; lines = c.lines; live = filter (λ l. not (is_named ns l)) c.live }

-- the parts are taken one after another
abbrev pub after : Checker → List Part → Checker
after c [] = c
after c (p ∷ ps) = after (with_part c p) ps

-- the literals of the line of this number, among those that are kept
abbrev pub found : List LiveLine → ℕ → Option (List Literal)
found [] m = None
found (l ∷ ls) m = if l.number == m then Some l.literals else found ls m

-- an item is taken: the close leaves the checker as it is
abbrev pub with_item : Checker → CertItem → Checker
with_item c (items.Line literals hints) = with_part c (Line literals hints)
with_item c (items.Delete ns) = with_part c (Delete ns)
with_item c (items.Close ns) = c

-- the answer to an item: a line is good where it is a hinted step over the live lines, and the others are
abbrev pub IsGoodItem : List (List Literal) → Checker → CertItem → Bool → Type 0
IsGoodItem clauses c (items.Line literals hints) good = IsTrue good ↔ IsStepAmong clauses (found c.live) c.letters literals hints
IsGoodItem clauses c (items.Delete ns) good = good ≡ true
IsGoodItem clauses c (items.Close ns) good = good ≡ true

-- the number and the literals of the live line at a place
abbrev pub no_line : LiveLine
no_line = record { number = 0; literals = [] }

abbrev pub line_number : List LiveLine → ℕ → ℕ
line_number ls place = (slice_index_or ls place no_line).number

abbrev pub line_literals : List LiveLine → ℕ → List Literal
line_literals ls place = (slice_index_or ls place no_line).literals

-- the workers that there is room for, and the greatest letter
pub record ScratchValue : Type 0 where
  pub workers : ℕ
  pub letters : ℕ

-- the answer on all lines: the first bad one, by its number from 1
abbrev pub IsLinesAnswer : List (List Literal) → ℕ → List Part → Lines → Type 0
IsLinesAnswer clauses letters parts AllGood = IsFirstBadLine clauses letters parts None
IsLinesAnswer clauses letters parts (FirstBad n) = (k : ℕ) × (n ≡ suc k) × IsFirstBadLine clauses letters parts (Some k)

-- what a named clause is where some literals are false: each of its literals is, or all but one that has no value, or neither
abbrev pub IsOutcome : List Literal → List Literal → ClauseStatus → Type 0
IsOutcome falses clause AllFalse = IsFalse falses clause
IsOutcome falses clause (Forces u) = IsUnit falses clause u
IsOutcome falses clause Neither = (¬ IsFalse falses clause) × ((u : Literal) → ¬ IsUnit falses clause u)

-- what the other hints have to do behind a hint whose clause has this outcome
abbrev pub Goes : List (List Literal) → (ℕ → Option (List Literal)) → ℕ → List Literal → List Hint → ClauseStatus → Type 0
Goes clauses lines greatest falses hints AllFalse = hints ≡ []
Goes clauses lines greatest falses hints (Forces u) = RefutesAmong clauses lines greatest (opposite u ∷ falses) hints
Goes clauses lines greatest falses hints Neither = ⊥

-- what the clause that a hint names is; Neither also where it names none
abbrev pub IsHintOutcome : List (List Literal) → (ℕ → Option (List Literal)) → ℕ → List Literal → Hint → ClauseStatus → Type 0
IsHintOutcome clauses lines greatest falses hint AllFalse = (clause : List Literal) × NamesAmong clauses lines greatest hint clause × IsFalse falses clause
IsHintOutcome clauses lines greatest falses hint (Forces u) = (clause : List Literal) × NamesAmong clauses lines greatest hint clause × IsUnit falses clause u
IsHintOutcome clauses lines greatest falses hint Neither =
    (clause : List Literal) → NamesAmong clauses lines greatest hint clause → IsOutcome falses clause Neither

-- what a line is that may have letters that are not known; Neither also where it has some
abbrev pub IsLineOutcome : ℕ → List Literal → List Literal → ClauseStatus → Type 0
IsLineOutcome greatest falses line AllFalse = All (IsKnown greatest) line × IsFalse falses line
IsLineOutcome greatest falses line (Forces u) = All (IsKnown greatest) line × IsUnit falses line u
IsLineOutcome greatest falses line Neither = All (IsKnown greatest) line → IsOutcome falses line Neither

-- whether a line may be assumed false: its letters are known and it has no complementary literals; then these are the false literals
abbrev pub IsAssumed : ℕ → List Literal → List Literal → Bool → Type 0
IsAssumed greatest line falses true = All (IsKnown greatest) line × HasNoPair line × ((l : Literal) → Contains falses l ↔ Contains line l)
IsAssumed greatest line falses false = ¬ (All (IsKnown greatest) line × HasNoPair line)
