-- What the walk's state has reached, and what putting one entry changes in it.
use Rattle.std.specs.Prelude.{◌≡◌, ℕ, Bool, true, false, List, ◌∷◌, reverse}
use Rattle.ltl_syntax.specs.Table.{Table}
use Rattle.ltl_closure.specs.Keys.{Enters}
use Rattle.ltl_closure.specs.Plan.{IsWalking}
use Rattle.ltl_closure.specs.declared.key.Key.{Key}
use Rattle.ltl_closure.specs.declared.plan.Work.{Work}
use Rattle.ltl_closure.specs.declared.plan.Work.TheVariants as works
use Rattle.ltl_closure.specs.declared.walk.Walk.{Walk}

-- the walk has this work left
abbrev pub IsAt : Table → Walk → List Work → Type 0
IsAt t w todo = IsWalking t w.root w.shared.keys.keys w.shared.entries.items (reverse w.numbers.items) w.memo todo

-- the work that is left once a letter is there: its negation, where that is walked
abbrev pub letter_work : Bool → List Work → List Work
letter_work true todo = todo
letter_work false todo = works.Negate ∷ todo

-- the key's entry is there, its number waits, and this work is left
pub record Puts (old : Walk) (key : Key) (todo : List Work) (new : Walk) : Type 0 where
  pub number : ℕ
  pub entered : Enters old.shared.keys.keys old.shared.entries.items key new.shared.keys.keys new.shared.entries.items number
  pub numbers : reverse new.numbers.items ≡ number ∷ reverse old.numbers.items
  pub root : new.root ≡ old.root
  pub memo : new.memo ≡ old.memo
  pub work : reverse new.work.items ≡ todo
