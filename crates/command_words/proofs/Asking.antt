-- Which command words ask for, from the first of them and what stands behind it.
use Rattle.std.proofs.Common.{◌≡◌, ◌≢◌, ◌∙◌, ℕ, Bool, true, false, List, [], ◌∷◌, Option, Some, None, refl, sym, ap, subst, MatchOption}
use Rattle.std.specs.List.{find}
use Rattle.std.specs.Prelude.{bytes_eq, IsSomeAnd}
use Rattle.command_words.specs.declared.table.CommandName.{CommandName}
use Rattle.command_words.specs.declared.table.CommandName.TheVariants as commands
use Rattle.command_words.specs.declared.asked.Asked.{Asked}
use Rattle.command_words.specs.declared.asked.Asked.TheVariants as asked
use Rattle.command_words.specs.Table.{all_commands, command_row, demo_command}
use Rattle.command_words.specs.Words.{Command, Solve, Check, Trace, Demo, Batch, System, Monitor, Depast, name_of, row_of, command_word, Follow, Asks}
use Rattle.command_words.specs.Asked.{IsAsked, name_asked}
use Rattle.command_words.specs.Said.{SomeAreSaid, NoneAreSaid, Tell, Follows, FollowsNothing, SayNoNumber}
use Rattle.command_words.proofs.OneCommand.{false_not_true}

-- ---- commands by their words

-- the command of a word
abbrev pub command_at : List ℕ → Option CommandName
command_at word = find (λ c. bytes_eq (command_row c).word word) all_commands

pub command_at_word : (c : CommandName) → command_at (command_row c).word ≡ Some c
command_at_word commands.Solve = refl
command_at_word other = refl

-- commands of one word are one
command_word_one : (a b : CommandName) → (command_row a).word ≡ (command_row b).word → a ≡ b
command_word_one a b e = let s : Some a ≡ Some b = sym (command_at_word a) ∙ ap command_at e ∙ command_at_word b in cc

-- ---- what stands behind the command's word

-- the command takes options
abbrev pub takes_options : CommandName → Bool
takes_options commands.Solve = true
takes_options commands.Check = true
takes_options commands.Batch = true
takes_options commands.System = true
takes_options name = false

-- the command takes nothing behind its word
abbrev pub takes_nothing : CommandName → Bool
takes_nothing commands.Trace = true
takes_nothing commands.Monitor = true
takes_nothing commands.Depast = true
takes_nothing name = false

follow_settings : (c : Command) (words : List (List ℕ)) → takes_options (name_of c) ≡ true → Follow c words → SomeAreSaid (row_of c).options words
follow_settings (Solve settings) words takes say = (settings, say)
follow_settings (Check settings) words takes say = (settings, say)
follow_settings (Batch settings) words takes say = (settings, say)
follow_settings (System settings) words takes say = (settings, say)
follow_settings c words takes follow = absurd (false_not_true takes)

follow_nothing : (c : Command) (words : List (List ℕ)) → takes_nothing (name_of c) ≡ true → Follow c words → words ≡ []
follow_nothing Trace words takes follow = follow
follow_nothing Monitor words takes follow = follow
follow_nothing Depast words takes follow = follow
follow_nothing c words takes follow = absurd (false_not_true takes)

pub no_settings : (name : CommandName) (words : List (List ℕ)) → takes_options name ≡ true → NoneAreSaid (command_row name).options words
    → FollowsNothing name words
no_settings name words takes none c is follow =
    let said = subst (λ n. SomeAreSaid (command_row n).options words) is (follow_settings c words (ap takes_options is ∙ takes) follow) in none said.0 said.1

pub more_words : (name : CommandName) (words : List (List ℕ)) → takes_nothing name ≡ true → words ≢ [] → FollowsNothing name words
more_words name words takes some c is follow = some (follow_nothing c words (ap takes_nothing is ∙ takes) follow)

pub no_number : (words : List (List ℕ)) → SayNoNumber demo_command words → FollowsNothing commands.Demo words
no_number words none (Demo n) is follow = none n follow
no_number words none c is follow = absurd (cc)

-- ---- the whole words

-- words are taken as the command of their first word alone
first_asks : (words more : List (List ℕ)) (word : List ℕ) (c : Command) → words ≡ word ∷ more → Asks words c → (word ≡ command_word c) × Follow c more
first_asks words more word c whole (more', e, follow) =
    let same : command_word c ∷ more' ≡ word ∷ more = sym e ∙ whole in
    let named : word ≡ command_word c = cc in
    let behind : more' ≡ more = cc in
    (named, subst (Follow c) behind follow)

pub asks_unknown : (words more : List (List ℕ)) (word : List ℕ) → words ≡ word ∷ more → ((name : CommandName) → word ≢ (command_row name).word) → (c : Command)
    → Asks words c → ⊥
asks_unknown words more word whole unknown c asks = unknown (name_of c) (first_asks words more word c whole asks).0

pub asks_nothing : (words more : List (List ℕ)) (word : List ℕ) (name : CommandName) → words ≡ word ∷ more → word ≡ (command_row name).word
    → FollowsNothing name more → (c : Command) → Asks words c → ⊥
asks_nothing words more word name whole named none c asks =
    let first = first_asks words more word c whole asks in
    none c (command_word_one (name_of c) name (sym first.0 ∙ named)) first.1

-- a command's word, and what follows it, ask for the command
pub asks_what_follows : (words more : List (List ℕ)) (word : List ℕ) (name : CommandName) (a : Asked) → words ≡ word ∷ more → word ≡ (command_row name).word
    → Follows name more a → IsAsked words a
asks_what_follows words more word name a whole named (is, tell) =
    tells a (whole ∙ ap (λ w. w ∷ more) (named ∙ ap (λ n. (command_row n).word) (sym is))) tell where
      tells : (a : Asked) → words ≡ (command_row (name_asked a)).word ∷ more → Tell more a → IsAsked words a
      tells (asked.Solve options) e (settings, say, are) = (settings, (more, e, say), are)
      tells (asked.Check options) e (settings, say, are) = (settings, (more, e, say), are)
      tells asked.Trace e none = (more, e, none)
      tells (asked.Demo n) e number = (more, e, number)
      tells (asked.Batch options) e (settings, say, are) = (settings, (more, e, say), are)
      tells (asked.System options) e (settings, say, are) = (settings, (more, e, say), are)
      tells asked.Monitor e none = (more, e, none)
      tells asked.Depast e none = (more, e, none)

pub no_words_asked : (c : Command) → Asks [] c → ⊥
no_words_asked c (more, e, follow) = cc

-- ---- values that are handed on

-- what is known of a value is known of what it is put into
pub match_mapped : {X Y : Type 0} (from : Option X) (to : Option Y) (f : X → Y) (P P' : Type 0) (Q : X → Type 0) (Q' : Y → Type 0)
    → MatchOption from (to ≡ None) (λ x. IsSomeAnd to (λ y. y ≡ f x))
    → MatchOption from P Q → (P → P') → ((x : X) → Q x → Q' (f x)) → MatchOption to P' Q'
match_mapped None to f P P' Q Q' mapped h none some = rw mapped (none h)
match_mapped (Some x) None f P P' Q Q' mapped h none some = absurd mapped
match_mapped (Some x) (Some y) f P P' Q Q' mapped h none some = rw mapped (some x h)
