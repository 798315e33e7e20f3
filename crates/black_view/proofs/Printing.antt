-- What is printed of an input, from what the code has.
use Rattle.std.proofs.Common.{◌≡◌, ◌≢◌, ℕ, ◌≤◌, ◌<◌, List, [], ◌++◌, length, take, drop, codes, Result, Ok, Err, None, Contains, ◌↔◌, IfOk, OnOk, sym, ap}
use Rattle.std.proofs.Common.{subst, ◌∙◌}
use Rattle.std.proofs.lemmas.List.{append-nil}
use Rattle.ltl_word.specs.declared.trace.Trace.{Trace}
use Rattle.ltl_word.specs.declared.json.TraceFault.{TraceFault}
use Rattle.ltl_word.specs.declared.json.TraceFault.TheVariants as faults
use Rattle.ltl_word.specs.Json.{IsReading}
use Rattle.ltl_word.specs.State.{IsAscending}
use Rattle.ltl_word.specs.Trace.{Names}
use Rattle.trace_view.specs.Grid.{GridValue, IsGridOf, Occurs, cells_for}
use Rattle.black_view.specs.declared.words.Request.{Request}
use Rattle.black_view.specs.declared.status.Status.{Status}
use Rattle.black_view.specs.declared.status.Status.TheVariants as statuses
use Rattle.black_view.specs.Input.{HasNoTrace, IsTraceAt}
use Rattle.black_view.specs.Output.{IsViewed, IsDrawn, IsAskedGrid, IsTooLarge, picture_of, fault_line, max_bytes, max_cells, AreChosen, AreLetters, drawn}
use Rattle.black_view.specs.Output.{too_large, too_long, without, refused, read}

-- a relation on a status and a text, at equal ones
moved : (R : Status → List ℕ → Type 0) (s s' : Status) (x x' : List ℕ) → s ≡ s' → x ≡ x' → R s' x' → R s x
moved R s s' x x' e f r = subst (λ k. R k x) (sym e) (subst (R s') (sym f) r)

pub drawn_as : (request : Request) (lines : List ℕ) (t : Trace) (g : GridValue) (status : Status) (printed : List ℕ) → IsAskedGrid request t g
    → (status ≡ statuses.Good) × (printed ≡ picture_of request lines g) → IsDrawn request lines t status printed
drawn_as request lines t g status printed asked is = moved (IsDrawn request lines t) status statuses.Good printed _ is.0 is.1 (drawn g asked)

pub large_as : (request : Request) (lines : List ℕ) (t : Trace) (status : Status) (printed : List ℕ) → IsTooLarge request t
    → (status ≡ statuses.Limit) × (printed ≡ lines ++ codes "limit cells 16777216\n") → IsDrawn request lines t status printed
large_as request lines t status printed large is = moved (IsDrawn request lines t) status statuses.Limit printed _ is.0 is.1 (too_large large)

pub long_as : (request : Request) (bytes : List ℕ) (status : Status) (printed : List ℕ) → max_bytes < length bytes
    → (status ≡ statuses.Limit) × (printed ≡ codes "limit text 16777216\n") → IsViewed request bytes status printed
long_as request bytes status printed long is = moved (IsViewed request bytes) status statuses.Limit printed _ is.0 is.1 (too_long long)

pub without_as : (request : Request) (bytes : List ℕ) (status : Status) (printed : List ℕ) → length bytes ≤ max_bytes → HasNoTrace bytes
    → (status ≡ statuses.NoTrace) × (printed ≡ bytes ++ []) → IsViewed request bytes status printed
without_as request bytes status printed few none is =
    moved (IsViewed request bytes) status statuses.NoTrace printed bytes is.0 (is.1 ∙ append-nil bytes) (without few none)

pub refused_as : (request : Request) (bytes lines json : List ℕ) (at : ℕ) (fault : TraceFault) (r : Result Trace TraceFault) (status : Status)
    (printed : List ℕ)
    → length bytes ≤ max_bytes → IsTraceAt bytes at → fault ≢ faults.NoMemory → lines ≡ take at bytes → json ≡ drop at bytes → IsReading json r → r ≡ Err fault
    → (status ≡ statuses.Text) × (printed ≡ lines ++ fault_line fault) → IsViewed request bytes status printed
refused_as request bytes lines json at fault r status printed few there known front back reading bad is =
    moved (IsViewed request bytes) status statuses.Text printed _ is.0 (is.1 ∙ ap (λ xs. xs ++ fault_line fault) front)
    (refused at fault few there known (subst (λ x. IsReading x (Err fault)) back (subst (IsReading json) bad reading)))

pub read_as : (request : Request) (bytes lines json : List ℕ) (at : ℕ) (t : Trace) (r : Result Trace TraceFault) (status : Status) (printed : List ℕ)
    → length bytes ≤ max_bytes → IsTraceAt bytes at → lines ≡ take at bytes → json ≡ drop at bytes → IsReading json r → r ≡ Ok t
    → IsDrawn request lines t status printed → IsViewed request bytes status printed
read_as request bytes lines json at t r status printed few there front back reading good is =
    read at t status printed few there (subst (λ x. IsReading x (Ok t)) back (subst (IsReading json) good reading))
    (subst (λ xs. IsDrawn request xs t status printed) front is)

-- all letters are asked for where none are named
pub all_letters : (request : Request) (t : Trace) (set names : Names) → request.only ≡ None → names ≡ set → IsAscending names
    → ((name : List ℕ) → Contains set name ↔ Occurs t name) → AreLetters request t names
all_letters request t set names none same ascending all =
    subst (λ o. AreChosen o t names) (sym none) (ascending, subst (λ (ns : Names). (name : List ℕ) → Contains ns name ↔ Occurs t name) (sym same) all)

-- a grid of the letters that are asked for, where it has few enough cells
pub asked_grid : {E : Type 0} (request : Request) (t : Trace) (letters : Names) (r : Result GridValue E) → AreLetters request t letters
    → IfOk r (IsGridOf t letters) → OnOk r (cells_for t letters ≤ max_cells) → IfOk r (IsAskedGrid request t)
asked_grid request t letters (Ok g) asked lawful few = record { letters = letters; asked = asked; lawful = lawful; few = few }
asked_grid request t letters (Err e) asked lawful few = tt
