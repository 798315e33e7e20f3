-- What the words behind the program's name say of a picture, read one after the other.
use Rattle.std.specs.Prelude.{ℕ, ◌+◌, ◌-◌, ◌*◌, Bool, true, false, ◌&&◌, ◌==◌, nat_lt, nat_le, List, [], ◌∷◌, ◌++◌, length, codes, bytes_eq, Option, Some, None}
use Rattle.std.specs.Prelude.{is_some, unwrap_or, option_map, option_and_then, if◌then◌else◌}
use Rattle.std.specs.List.{slice_split, before_first, after_first, position_or_len}
use Rattle.ltl_word.specs.Trace.{Names}
use Rattle.black_view.specs.declared.words.TextOption.{TextOption}
use Rattle.black_view.specs.declared.words.TextOption.TheVariants as options

-- how a trace is drawn: as a picture in SVG, or as text in lines of a number of columns; with these letters, or with all that are true
-- in some state
pub record Wanted : Type 0 where
  pub svg : Bool
  pub width : ℕ
  pub only : Option Names

-- what the words said so far: whether --svg, the number of --width, the letters of --only, and the option whose text is the next word
pub record Said : Type 0 where
  pub svg : Bool
  pub width : Option ℕ
  pub only : Option Names
  pub waiting : Option TextOption

abbrev pub nothing_said : Said
nothing_said = record { svg = false; width = None; only = None; waiting = None }

-- the number that the digits write behind those of n, where that has at most nine digits
abbrev pub number_behind : ℕ → List ℕ → Option ℕ
number_behind n [] = Some n
number_behind n (d ∷ ds) = if (nat_le 48 d && nat_le d 57 && nat_lt n 100000000) then number_behind (10 * n + (d - 48)) ds else None

-- one digit or more, and nothing else
abbrev pub number_of : List ℕ → Option ℕ
number_of [] = None
number_of (d ∷ ds) = number_behind 0 (d ∷ ds)

-- the letters of a text: what stands between its commas
abbrev pub letters_in : List ℕ → Names
letters_in text = slice_split (λ b. b == 44) text

-- said with the text of an option: a width is said once and is a number, and letters stand behind those that were said before
abbrev pub with_text : Said → TextOption → List ℕ → Option Said
with_text said options.Width text = if is_some said.width then None else option_map (λ n. record said { width = Some n; waiting = None }) (number_of text)
with_text said options.Only text = Some (record said { only = Some (unwrap_or said.only [] ++ letters_in text); waiting = None })

-- the option with a text whose word it is
abbrev pub option_named : List ℕ → Option TextOption
option_named word = if bytes_eq word (codes "--width") then Some options.Width else (if bytes_eq word (codes "--only") then Some options.Only else None)

-- the word has a =, and what stands before the first one and behind it
abbrev pub has_equals : List ℕ → Bool
has_equals word = nat_lt (position_or_len (λ b. b == 61) word) (length word)

abbrev pub before_equals : List ℕ → List ℕ
before_equals word = before_first (λ b. b == 61) word

abbrev pub behind_equals : List ℕ → List ℕ
behind_equals word = after_first (λ b. b == 61) word

-- said with an option: its text stands behind = in the same word, or is the next word. --svg has none, and is said once
abbrev pub with_option : Said → List ℕ → Option Said
with_option said word =
    if has_equals word then option_and_then (λ option. with_text said option (behind_equals word)) (option_named (before_equals word))
    else (if bytes_eq word (codes "--svg") then (if said.svg then None else Some (record said { svg = true }))
    else option_map (λ option. record said { waiting = Some option }) (option_named word))

-- the word begins with a hyphen
abbrev pub is_dashed : List ℕ → Bool
is_dashed [] = false
is_dashed (b ∷ bs) = b == 45

-- the word is the text of the option that waits for one, which begins with no hyphen, or an option
abbrev pub with_next : Option TextOption → Said → List ℕ → Option Said
with_next None said word = with_option said word
with_next (Some option) said word = if is_dashed word then None else with_text said option word

-- said with one word more
abbrev pub with_word : Said → List ℕ → Option Said
with_word said word = with_next said.waiting said word

-- said with these words more, one after the other
abbrev pub said_after : Said → List (List ℕ) → Option Said
said_after said [] = Some said
said_after said (word ∷ words) = option_and_then (λ next. said_after next words) (with_word said word)

-- what is wanted where no text is to come. A line has 80 columns where the words say nothing of them
abbrev pub finished : Said → Option Wanted
finished said = if is_some said.waiting then None else Some (record { svg = said.svg; width = unwrap_or said.width 80; only = said.only })

-- the picture that the words ask for, where they are taken
abbrev pub wanted : List (List ℕ) → Option Wanted
wanted words = option_and_then finished (said_after nothing_said words)
