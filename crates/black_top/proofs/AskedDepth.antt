-- A depth that words ask for is at most 1,000.
use Rattle.std.proofs.Common.{◌≡◌, ℕ, ◌≤◌, Bool, true, false, List, [], ◌∷◌, Option, Some, None, if◌then◌else◌, refl, arith}
use Rattle.std.specs.Prelude.{option_and_then}
use mathlib.Core.Bool.{false≢true}
use Rattle.command_words.specs.declared.table.OptionName.{OptionName}
use Rattle.command_words.specs.declared.table.OptionName.TheVariants as names
use Rattle.command_words.specs.Table.{same_option, option_row, option_word}
use Rattle.command_words.specs.Words.{Setting, SaysOption, SayAll, Solve, System, Asks, setting_of, depth_of}
use Rattle.command_words.specs.Asked.{IsDepth}
use Rattle.black_top.specs.Solve.{number_of}

said_depth : (o : OptionName) (number : Option ℕ) (words : List (List ℕ)) → same_option o names.Depth ≡ true
    → SaysOption (option_word o) (option_row o).number number words → IsDepth number
said_depth names.Depth None words e says = tt
said_depth names.Depth (Some n) words e says = says.1.to
said_depth names.Finite number words e says = absurd (false≢true e)
said_depth names.Cert number words e says = absurd (false≢true e)
said_depth names.Core number words e says = absurd (false≢true e)
said_depth names.Workers number words e says = absurd (false≢true e)
said_depth names.Check number words e says = absurd (false≢true e)
said_depth names.Steps number words e says = absurd (false≢true e)
said_depth names.Progress number words e says = absurd (false≢true e)

abbrev number_at : Option Setting → Option ℕ
number_at found = option_and_then (λ setting. setting.number) found

all_small : (settings : List Setting) (words : List (List ℕ)) → SayAll settings words → IsDepth (depth_of settings)
all_small [] words says = tt
all_small (c ∷ settings) words (front, back, e, says, more) = go (same_option c.option names.Depth) refl (all_small settings back more)
  where
    go : (b : Bool) → same_option c.option names.Depth ≡ b → IsDepth (depth_of settings)
        → IsDepth (number_at (if b then Some c else setting_of names.Depth settings))
    go true is rest = said_depth c.option c.number front is says
    go false is rest = rest

few : (wanted : Option ℕ) → IsDepth wanted → number_of wanted ≤ 1000
few None small = omega arith
few (Some n) small = small

pub solve_shallow : (words : List (List ℕ)) (settings : List Setting) → Asks words (Solve settings) → number_of (depth_of settings) ≤ 1000
solve_shallow words settings (more, e, say) = few (depth_of settings) (all_small settings more say.0)

pub system_shallow : (words : List (List ℕ)) (settings : List Setting) → Asks words (System settings) → number_of (depth_of settings) ≤ 1000
system_shallow words settings (more, e, say) = few (depth_of settings) (all_small settings more say.0)
