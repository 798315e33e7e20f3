-- What is read of the matches, and what the settings say.
use Rattle.std.proofs.Common.{◌≡◌, ℕ, Bool, true, false, List, codes, Option, Some, None, if◌then◌else◌}
use Rattle.ltl_syntax.specs.declared.node.Kind.{Kind}
use Rattle.ltl_syntax.specs.declared.node.Kind.TheVariants as kinds
use Rattle.command_words.specs.Asked.{IsDepth, AreWorkers, IsSteps}
use Rattle.command_words.specs.Matching.{flag_text, IsNumberText}

-- a flag is read from its text
pub flag_read : (read said : Bool) (text : Option (List ℕ)) → (text ≡ Some (codes "true") → read ≡ true) → (text ≡ Some (codes "false") → read ≡ false)
    → text ≡ Some (flag_text said) → read ≡ said
flag_read read true text yes_read no_read is = yes_read is
flag_read read false text yes_read no_read is = no_read is

-- the kind is that of the flag
abbrev pub kind_if : Bool → Kind
kind_if said = if said then kinds.Finite else kinds.Infinite

pub finite_read : (kind : Kind) (said : Bool) → said ≡ true → kind ≡ kinds.Finite → kind ≡ kind_if said
finite_read kind said s is = rw s is

pub infinite_read : (kind : Kind) (said : Bool) → said ≡ false → kind ≡ kinds.Infinite → kind ≡ kind_if said
infinite_read kind said s is = rw s is

-- a depth that was said is small
pub small_depth : (text : Option (List ℕ)) (depth : Option ℕ) → IsNumberText (record { digits = 4; low = 0; high = 1000 }) text depth → IsDepth depth
small_depth None None is = tt
small_depth (Some digits) (Some n) is = is.to
small_depth text depth is = absurd is

-- the workers that were said are few
pub few_workers : (text : Option (List ℕ)) (workers : Option ℕ) → IsNumberText (record { digits = 2; low = 1; high = 16 }) text workers → AreWorkers workers
few_workers None None is = tt
few_workers (Some digits) (Some n) is = (is.from, is.to)
few_workers text workers is = absurd is

-- the steps that were said are counted
pub counted_steps : (text : Option (List ℕ)) (steps : Option ℕ) → IsNumberText (record { digits = 9; low = 1; high = 999999999 }) text steps → IsSteps steps
counted_steps None None is = tt
counted_steps (Some digits) (Some n) is = (is.from, is.to)
counted_steps text steps is = absurd is
