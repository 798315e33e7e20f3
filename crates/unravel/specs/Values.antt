-- How the states of a run are read from the values of letters.
use Rattle.std.specs.Prelude.{◌≡◌, ℕ, ◌<◌, Bool, true, false, List, map, length, slice_get, Some}
use Rattle.ltl_syntax.specs.declared.node.Kind.{Kind}
use Rattle.ltl_syntax.specs.Formula.{Formula}
use Rattle.ltl_closure.specs.Closure.{nexts, yesterdays}
use Rattle.ltl_closure.specs.declared.entry.Entry.{Entry}
use Rattle.ltl_closure.specs.declared.entry.Entry.TheVariants as Is
use Rattle.ltl_run.specs.States.{letters}
use Rattle.ltl_run.specs.declared.run_state.RunState.{RunState}
use Rattle.cdcl.specs.SolverValue.{SolverValue}
use Rattle.enc_layout.specs.Letters.{EntryAt, LayoutValue, letters_through, number_of}
use Rattle.enc_layout.specs.Assigned.{states_of}

-- whether the entry is a letter
abbrev pub is_letter_entry : Entry → Bool
is_letter_entry (Is.Letter n) = true
is_letter_entry (Is.Fresh n) = true
is_letter_entry x = false

-- the values of the entries of these numbers at step i
abbrev pub values_at : LayoutValue → (ℕ → Bool) → ℕ → List ℕ → List Bool
values_at layout v i numbers = map (λ t. v (number_of layout.kind layout.counts (EntryAt i t))) numbers

-- the letters through step i have values
abbrev pub HasRoom : LayoutValue → ℕ → SolverValue → Type 0
HasRoom layout i s = letters_through layout.kind layout.counts i < length s.model

-- the state has the values of its letters and requests at step i
pub record IsRead (f : Formula) (kind : Kind) (v : ℕ → Bool) (i : ℕ) (s : RunState) : Type 0 where
  pub letters : s.letters.items ≡ map (states_of f kind v i) (letters f)
  pub nexts : s.nexts.items ≡ map (states_of f kind v i) (nexts f)
  pub yesterdays : s.yesterdays.items ≡ map (states_of f kind v i) (yesterdays f)

-- these are the states of steps 0 to n - 1
pub record AreRead (f : Formula) (kind : Kind) (v : ℕ → Bool) (n : ℕ) (states : List RunState) : Type 0 where
  pub count : length states ≡ n
  pub each : (i : ℕ) (s : RunState) → slice_get states i ≡ Some s → IsRead f kind v i s
