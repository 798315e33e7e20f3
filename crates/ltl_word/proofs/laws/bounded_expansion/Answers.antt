use Rattle.std.proofs.Common.{arith}
use Rattle.ltl_syntax.specs.Shape.{Future, Past, Exactly, Between}
use Rattle.ltl_word.specs.Trace.{IsPosition}
use Rattle.ltl_word.specs.Holds.{Holds}
use Rattle.ltl_word.proofs.Decided.{position_below}
use Rattle.ltl_word.proofs.Steps.{exactly_peels, between_peels, first_peels, some_later, every_later, some_first, every_first, some_here, every_here}
use Rattle.ltl_word.proofs.laws.bounded_expansion.Goals as goal

pub returns-clause-next_here : goal.returns-clause-next_here
returns-clause-next_here c a t i good at = some_here (IsPosition t) (Holds t a) Future (Exactly 0) (λ j k w. omega arith) i (omega arith, at)

pub returns-clause-next_later : goal.returns-clause-next_later
returns-clause-next_later c n a t i good = some_later (IsPosition t) (Holds t a) (position_below t) Future (exactly_peels n) i (λ j k w. omega arith)

pub returns-clause-yesterday_here : goal.returns-clause-yesterday_here
returns-clause-yesterday_here c a t i good = some_here (IsPosition t) (Holds t a) Past (Exactly 0) (λ j k w. omega arith) i (omega arith)

pub returns-clause-yesterday_earlier : goal.returns-clause-yesterday_earlier
returns-clause-yesterday_earlier c n a t i good = some_later (IsPosition t) (Holds t a) (position_below t) Past (exactly_peels n) i (λ j k w. omega arith)

pub returns-clause-eventually_here : goal.returns-clause-eventually_here
returns-clause-eventually_here c a t i good at =
    some_here (IsPosition t) (Holds t a) Future (Between 0 0) (λ j k w. omega arith) i ((omega arith, omega arith), at)

pub returns-clause-eventually_first : goal.returns-clause-eventually_first
returns-clause-eventually_first c n a t i good at =
    some_first (IsPosition t) (Holds t a) (position_below t) Future (first_peels n) i ((omega arith, omega arith), at)

pub returns-clause-eventually_later : goal.returns-clause-eventually_later
returns-clause-eventually_later c m n a t i good = some_later (IsPosition t) (Holds t a) (position_below t) Future (between_peels m n) i (λ j k w. omega arith)

pub returns-clause-always_here : goal.returns-clause-always_here
returns-clause-always_here c a t i good at =
    every_here (IsPosition t) (Holds t a) Future (Between 0 0) (λ j k w. omega arith) i ((omega arith, omega arith), at)

pub returns-clause-always_first : goal.returns-clause-always_first
returns-clause-always_first c n a t i good at =
    every_first (IsPosition t) (Holds t a) (position_below t) Future (first_peels n) i ((omega arith, omega arith), at)

pub returns-clause-always_later : goal.returns-clause-always_later
returns-clause-always_later c m n a t i good = every_later (IsPosition t) (Holds t a) (position_below t) Future (between_peels m n) i (λ j k w. omega arith)

pub returns-clause-once_here : goal.returns-clause-once_here
returns-clause-once_here c a t i good = some_here (IsPosition t) (Holds t a) Past (Between 0 0) (λ j k w. omega arith) i (omega arith, omega arith)

pub returns-clause-once_first : goal.returns-clause-once_first
returns-clause-once_first c n a t i good = some_first (IsPosition t) (Holds t a) (position_below t) Past (first_peels n) i (omega arith, omega arith)

pub returns-clause-once_earlier : goal.returns-clause-once_earlier
returns-clause-once_earlier c m n a t i good = some_later (IsPosition t) (Holds t a) (position_below t) Past (between_peels m n) i (λ j k w. omega arith)

pub returns-clause-historically_here : goal.returns-clause-historically_here
returns-clause-historically_here c a t i good = every_here (IsPosition t) (Holds t a) Past (Between 0 0) (λ j k w. omega arith) i (omega arith, omega arith)

pub returns-clause-historically_first : goal.returns-clause-historically_first
returns-clause-historically_first c n a t i good = every_first (IsPosition t) (Holds t a) (position_below t) Past (first_peels n) i (omega arith, omega arith)

pub returns-clause-historically_earlier : goal.returns-clause-historically_earlier
returns-clause-historically_earlier c m n a t i good =
    every_later (IsPosition t) (Holds t a) (position_below t) Past (between_peels m n) i (λ j k w. omega arith)
