-- What the laws of checking say.
use Rattle.std.specs.Prelude.{◌≡◌, ℕ, ◌↔◌, List, [], ◌∷◌, length, Option}
use Rattle.cnf_base.specs.declared.literal.Literal.{Literal}
use Rattle.cnf_base.specs.declared.literal.Hint.{Hint}
use Rattle.cnf_base.specs.Among.{NamesAmong, RefutesAmong}
use Rattle.cert_text.specs.Text.{Part}
use Rattle.cert_text.specs.Live.{lines_of, live_line, IsGoodLine}
use Rattle.log_checker.specs.declared.outcome.ClauseStatus.{ClauseStatus}
use Rattle.log_checker.specs.Judging.{IsOutcome, Goes, Piece, AreAnswered, end_of, first_answer, IsFirstBadLine, fresh, after, found}

-- there is a first bad line, or none
abbrev pub FirstBadIsThere : Type 0
FirstBadIsThere = (clauses : List (List Literal)) (greatest : ℕ) (parts : List Part) → (answer : Option ℕ) × IsFirstBadLine clauses greatest parts answer

-- however the lines are cut into consecutive pieces, the first bad line of the first piece that has one is that of all lines
abbrev pub CutsAgree : Type 0
CutsAgree = (clauses : List (List Literal)) (greatest : ℕ) (parts : List Part) (pieces : List Piece) (answer : Option ℕ)
    → AreAnswered (IsGoodLine clauses greatest parts) 0 pieces → end_of 0 pieces ≡ length (lines_of parts) → IsFirstBadLine clauses greatest parts answer
    → first_answer pieces ≡ answer

-- the checker that takes parts one by one keeps the lines that are live behind them
abbrev pub CheckersKeepLive : Type 0
CheckersKeepLive = (letters : ℕ) (parts : List Part) (m : ℕ) → found (after (fresh letters) parts).live m ≡ live_line parts m

-- hints refute by one hint after another: the first one names a clause, and by what that clause is it is clear what the others have to do
abbrev pub HintsGoOn : Type 0
HintsGoOn = (clauses : List (List Literal)) (lines : ℕ → Option (List Literal)) (greatest : ℕ) (falses : List Literal) (hint : Hint) (hints : List Hint)
    (clause : List Literal) (outcome : ClauseStatus)
    → NamesAmong clauses lines greatest hint clause → IsOutcome falses clause outcome
    → RefutesAmong clauses lines greatest falses (hint ∷ hints) ↔ Goes clauses lines greatest falses hints outcome

-- no hints refute nothing, nor do hints of which the first names no clause
abbrev pub NoHintsRefute : Type 0
NoHintsRefute =
    (clauses : List (List Literal)) (lines : ℕ → Option (List Literal)) (greatest : ℕ) (falses : List Literal) → ¬ RefutesAmong clauses lines greatest falses []

abbrev pub UnnamedRefuteNothing : Type 0
UnnamedRefuteNothing =
    (clauses : List (List Literal)) (lines : ℕ → Option (List Literal)) (greatest : ℕ) (falses : List Literal) (hint : Hint) (hints : List Hint)
    → ((clause : List Literal) → ¬ NamesAmong clauses lines greatest hint clause) → ¬ RefutesAmong clauses lines greatest falses (hint ∷ hints)
