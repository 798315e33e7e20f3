-- What the laws of certificate texts say.
use Rattle.std.specs.Prelude.{◌≡◌, ℕ, suc, ◌+◌, ◌-◌, ◌<◌, ◌≤◌, ◌⊎◌, ◌↔◌, ◌==◌, ◌&&◌, Bool, nat_lt, is_some, IsTrue, List, [], length, take, get_or, slice_get}
use Rattle.std.specs.Prelude.{slice_index_or, slice_range, filter, not, All, Contains, Some, None, if◌then◌else◌}
use Rattle.std.specs.List.{list_any, flat_map}
use Rattle.ltl_syntax.specs.declared.node.Kind.{Kind}
use Rattle.cnf_base.specs.declared.literal.Literal.{Literal}
use Rattle.cnf_base.specs.declared.literal.Hint.{Hint}
use Rattle.cnf_base.specs.declared.literal.Hint.TheVariants as hints
use Rattle.cnf_base.specs.Step.{numbered, IsHintedStep}
use Rattle.cnf_base.specs.Meaning.{Satisfies}
use Rattle.cert_text.specs.Text.{Part, Certificate, greatest_u64, IsLiteral, IsNumber, IsHint, IsPart, literal_text, hint_text, target_text, text_of, IsTextOf}
use Rattle.cert_text.specs.Text.{BeginsText, IsFormFault}
use Rattle.cert_text.specs.Scan.{Scan, AtEnd, start, step, run}
use Rattle.cert_text.specs.Live.{lines_of, hints_of, live_line, live_at, IsGoodLine, last_user}
use Rattle.cert_text.specs.Reading.{certificate_in, line_start, literals_end, hints_end, targets_start}
use Rattle.cert_text.specs.Writing.{numbers_to, last_use, ended_at, Ascends, EndsAt, IsLastUse, parts_from, written}

-- a text is that of one certificate at most
abbrev pub TextsSayOne : Type 0
TextsSayOne = (bytes : List ℕ) (c d : Certificate) → IsTextOf bytes c → IsTextOf bytes d → c ≡ d

-- and what is found in the bytes of a text is that certificate
abbrev pub TextsAreFound : Type 0
TextsAreFound = (bytes : List ℕ) (c : Certificate) → IsTextOf bytes c → certificate_in bytes ≡ c

-- bytes have a form fault where they are no certificate text, and one alone
abbrev pub FaultsAreOne : Type 0
FaultsAreOne = (bytes : List ℕ) (b d : ℕ) → IsFormFault bytes b → IsFormFault bytes d → b ≡ d

abbrev pub TextsHaveNone : Type 0
TextsHaveNone = (bytes : List ℕ) (c : Certificate) (b : ℕ) → IsTextOf bytes c → ¬ IsFormFault bytes b

abbrev pub OthersHaveOne : Type 0
OthersHaveOne = (bytes : List ℕ) → ((c : Certificate) × IsTextOf bytes c) ⊎ ((b : ℕ) × IsFormFault bytes b)

-- the scan comes to the end of a certificate exactly where the bytes are its text
abbrev pub ScansRead : Type 0
ScansRead = (bytes : List ℕ) (c : Certificate) → IsTextOf bytes c ↔ (run start bytes ≡ Some ([], AtEnd c))

-- the scan goes on exactly where some certificate text does
abbrev pub ScansBegin : Type 0
ScansBegin = (bytes : List ℕ) → BeginsText bytes ↔ ((s : Scan) × (run start bytes ≡ Some s))

-- a byte at which the scan stops is the form fault
abbrev pub ScansStop : Type 0
ScansStop = (bytes : List ℕ) (b : ℕ) (s : Scan) → b < length bytes → run start (take b bytes) ≡ Some s → step s (get_or bytes b 0) ≡ None → IsFormFault bytes b

-- where it goes on to the end of the bytes and they are no text, it is their length
abbrev pub ScansEnd : Type 0
ScansEnd = (bytes : List ℕ) (s : Scan) → run start bytes ≡ Some s → ((c : Certificate) → s ≡ ([], AtEnd c) → ⊥) → IsFormFault bytes (length bytes)

-- in version 1 each line that stands is live
abbrev pub AllAreLive : Type 0
AllAreLive = (parts : List Part) (m : ℕ) → All (IsPart 1) parts → live_line parts m ≡ numbered (lines_of parts) m

-- a line is live at those behind it up to its last user
abbrev pub LiveToUser : Type 0
LiveToUser = (parts : List Part) (k j : ℕ) → j < length (lines_of parts)
    → live_at parts j (suc k) ≡ (if nat_lt k j && nat_lt j (last_user parts k) then slice_get (lines_of parts) k else None)

-- a last user is the line itself or one of the lines behind it
abbrev pub LastUsersStand : Type 0
LastUsersStand = (parts : List Part) (k : ℕ) → k < length (lines_of parts) → (suc k ≤ last_user parts k) × (last_user parts k ≤ length (lines_of parts))

-- where each line is a hinted step over what is live at it, the lines follow from the clauses
abbrev pub GoodLinesFollow : Type 0
GoodLinesFollow = (v : ℕ → Bool) (clauses : List (List Literal)) (greatest : ℕ) (parts : List Part)
    → Satisfies v clauses → ((k : ℕ) → k < length (lines_of parts) → IsGoodLine clauses greatest parts k) → Satisfies v (lines_of parts)

-- what is written says the lines, the hints and the targets
abbrev pub WrittenSays : Type 0
WrittenSays = (kind : Kind) (depth : ℕ) (lines : List (List Literal)) (hints : List (List Hint)) (targets : List ℕ) → length hints ≡ length lines
    → (lines_of (written kind depth lines hints targets).parts ≡ lines) × (hints_of (written kind depth lines hints targets).parts ≡ hints)

-- where the numbers fit, it is a certificate text
abbrev pub WrittenIsText : Type 0
WrittenIsText = (kind : Kind) (depth : ℕ) (lines : List (List Literal)) (hints : List (List Hint)) (targets : List ℕ)
    → depth ≤ 1000 → length targets ≡ depth + 2 → All IsNumber targets → All (All IsLiteral) lines → All (All IsHint) hints → length lines ≤ greatest_u64
    → IsTextOf (text_of (written kind depth lines hints targets)) (written kind depth lines hints targets)

-- a hinted step over the earlier lines is one over those that are live where it is written
abbrev pub WrittenIsGood : Type 0
WrittenIsGood =
    (clauses lines : List (List Literal)) (hints : List (List Hint)) (targets : List ℕ) (greatest k : ℕ) → length hints ≡ length lines → k < length lines
    → IsHintedStep clauses (take k lines) greatest (slice_index_or lines k []) (slice_index_or hints k [])
    → IsGoodLine clauses greatest (parts_from hints targets 0 lines hints) k

-- the targets are live at the close
abbrev pub TargetsAreLive : Type 0
TargetsAreLive = (lines : List (List Literal)) (hints : List (List Hint)) (targets : List ℕ) (t : ℕ) → length hints ≡ length lines → Contains targets t
    → live_line (parts_from hints targets 0 lines hints) t ≡ numbered lines t

-- the last use is the greatest line that has the line as a hint, or the line itself
abbrev pub LastUsesAreLast : Type 0
LastUsesAreLast = (hss : List (List Hint)) (m : ℕ) → IsLastUse hss m (last_use hss m)

-- what is deleted behind line n are, ascending, the lines that end there, and no other list of numbers is this
abbrev pub EndedAscend : Type 0
EndedAscend = (hss : List (List Hint)) (targets : List ℕ) (n : ℕ) → Ascends 0 (ended_at hss targets n)
    × ((m : ℕ) → Contains (ended_at hss targets n) m ↔ EndsAt hss targets n m)

abbrev pub EndedAreOne : Type 0
EndedAreOne = (hss : List (List Hint)) (targets : List ℕ) (n : ℕ) (ms : List ℕ) → Ascends 0 ms → ((m : ℕ) → Contains ms m ↔ EndsAt hss targets n m)
    → ms ≡ ended_at hss targets n

-- where each line is used by later lines alone, what ends at line n may be sought among the numbers of all lines
abbrev pub EndedAmongAll : Type 0
EndedAmongAll = (hss : List (List Hint)) (targets : List ℕ) (n count : ℕ)
    → ((j m : ℕ) → j < length hss → Contains (slice_index_or hss j []) (hints.Line m) → m ≤ suc j) → n ≤ count
    → filter (λ m. not (list_any (λ t. t == m) targets) && (last_use hss m == n)) (numbers_to count) ≡ ended_at hss targets n

-- where the parts of a text stand
abbrev pub LinesStand : Type 0
LinesStand = (bytes : List ℕ) (c : Certificate) (k : ℕ) → IsTextOf bytes c → k < length (lines_of c.parts)
    → (slice_range bytes (line_start c k) (literals_end c k) ≡ flat_map literal_text (slice_index_or (lines_of c.parts) k []))
    × (slice_range bytes (literals_end c k + 2) (hints_end c k) ≡ flat_map hint_text (slice_index_or (hints_of c.parts) k []))

abbrev pub TargetsStand : Type 0
TargetsStand = (bytes : List ℕ) (c : Certificate) → IsTextOf bytes c → slice_range bytes (targets_start c) (length bytes - 1) ≡ flat_map target_text c.targets

-- a line is a hinted step over what is live at it exactly where it is one over the earlier lines and each line that its hints name is live
abbrev pub GoodLinesAreLive : Type 0
GoodLinesAreLive = (clauses : List (List Literal)) (greatest : ℕ) (parts : List Part) (k : ℕ)
    → IsGoodLine clauses greatest parts k
    ↔ (IsHintedStep clauses (take k (lines_of parts)) greatest (slice_index_or (lines_of parts) k []) (slice_index_or (hints_of parts) k [])
    × ((m : ℕ) → Contains (slice_index_or (hints_of parts) k []) (hints.Line m) → IsTrue (is_some (live_at parts k m))))
