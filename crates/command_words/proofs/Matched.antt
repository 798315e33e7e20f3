-- The settings that words say, as uses of options that `clap` matches.
use Rattle.std.proofs.Common.{◌≡◌, ◌≢◌, ◌∙◌, ℕ, ◌||◌, Bool, true, false, inl, inr, List, [], ◌∷◌, ◌++◌, codes, Option, Some, None, is_some, option_and_then}
use Rattle.std.proofs.Common.{slice_get, All, refl, sym, ap, subst, append_assoc, arith}
use Rattle.std.proofs.lemmas.List.Elements.{All-head, All-tail}
use Rattle.std.proofs.lemmas.Bool.{ne_eqb}
use Rattle.std.proofs.lemmas.Slice.Eq.{bytes_eq-Decides}
use Rattle.std.proofs.lemmas.Str.Parse.{digit_from_value}
use Rattle.std.specs.Prelude.{bytes_eq}
use Rattle.clap.specs.Walk.{Text, Row, has_row, row_text, rows_of}
use Rattle.clap.specs.Simple.{matches_of}
use Rattle.clap.specs.Takes.{takes}
use Rattle.clap.specs.Matches.{found_of}
use Rattle.clap.proofs.WalkLemmas.{first_value-rows, one_text-rows}
use Rattle.clap.specs.declared.parser.matches.ArgMatches.{ArgMatches}
use Rattle.command_words.specs.declared.table.Range.{Range}
use Rattle.command_words.specs.declared.table.OptionName.{OptionName}
use Rattle.command_words.specs.declared.table.OptionName.TheVariants as names
use Rattle.command_words.specs.Table.{option_row, option_word, same_option}
use Rattle.command_words.specs.Words.{Setting, SaysOption, SayAll, Once, IsNumberIn, name, setting_of, number_of}
use Rattle.command_words.specs.Said.{SayOnce}
use Rattle.command_words.specs.Matching.{option_id, options_app, flag_text, IsNumberText, TellsOption, AreMatched}
use Rattle.command_words.proofs.OneCommand.{word_one}
use Rattle.command_words.proofs.Saying.{new_behind}
use Rattle.command_words.proofs.Walking.{Form, alone, two, one, Use, words_of_use, words_of, text_of, row_with, rows_for, built_with, IsPlain, IsFit, AreFit}
use Rattle.command_words.proofs.Walking.{AreNew, words_taken, row_at, row_or, absent_of, row_matched}

-- ---- names of options

word_is : (o : OptionName) → option_word o ≡ codes "--" ++ option_id o
word_is names.Finite = refl
word_is other = refl

same_id : (a b : OptionName) → bytes_eq (option_id a) (option_id b) ≡ same_option a b
same_id a b = ap (λ w. bytes_eq w (codes "--" ++ option_id b)) (sym (word_is a)) ∙ ap (bytes_eq (option_word a)) (sym (word_is b))

different : (a b : List ℕ) → a ≢ b → bytes_eq a b ≡ false
different a b n = by (bytes_eq a b) refl where
  by : (t : Bool) → bytes_eq a b ≡ t → bytes_eq a b ≡ false
  by true e = absurd (n ((bytes_eq-Decides a b).0 e))
  by false e = e

-- ---- the uses that say settings

abbrev IsForm : Option Range → Option ℕ → Form → Type 0
IsForm None None alone = Unit {0}
IsForm (Some range) (Some n) (two digits) = IsNumberIn range digits n
IsForm (Some range) (Some n) (one digits) = IsNumberIn range digits n
IsForm range number form = ⊥

-- the uses say the settings
abbrev AreUses : List Setting → List Use → Type 0
AreUses [] [] = Unit {0}
AreUses (c ∷ cs) (u ∷ us) = (u.0 ≡ c.option) × IsForm (option_row u.0).number c.number u.1 × AreUses cs us
AreUses cs us = ⊥

record Uses (settings : List Setting) (words : List Text) : Type 0 where
  uses : List Use
  whole : words ≡ words_of uses
  are : AreUses settings uses

-- how one setting is said
record Used (option : OptionName) (range : Option Range) (number : Option ℕ) (front back : List Text) : Type 0 where
  form : Form
  is : IsForm range number form
  whole : front ++ back ≡ words_of_use option form back

use_in : (option : OptionName) (range : Option Range) (number : Option ℕ) (front back : List Text) → SaysOption (option_word option) range number front
    → Used option range number front back
use_in option None None front back e = record { form = alone; is = tt; whole = ap (λ ws. ws ++ back) e }
use_in option (Some range) (Some n) front back (digits, is, inl e) = record { form = two digits; is = is; whole = ap (λ ws. ws ++ back) e }
use_in option (Some range) (Some n) front back (digits, is, inr e) = record { form = one digits; is = is; whole = ap (λ ws. ws ++ back) e }
use_in option None (Some n) front back says = absurd says
use_in option (Some range) None front back says = absurd says

uses_in : (cs : List Setting) (words : List Text) → SayAll cs words → Uses cs words
uses_in [] words e = record { uses = []; whole = e; are = tt }
uses_in (c ∷ cs) words (front, back, whole, says, more) =
    let u = uses_in cs back more in
    let f = use_in c.option (option_row c.option).number c.number front back says in
    record { uses = (c.option, f.form) ∷ u.uses; whole = whole ∙ f.whole ∙ ap (words_of_use c.option f.form) u.whole; are = (refl, f.is, u.are) }

-- digits are no option
plain_number : (range : Range) (digits : Text) (n : ℕ) → IsNumberIn range digits n → IsPlain digits
plain_number range [] n is = absurd (omega (arith, is.numeral.0))
plain_number range (x ∷ xs) n is =
    let digit = digit_from_value x is.numeral.1.0 in
    (x, xs, refl, ne_eqb x 45 (λ e. omega (arith, e, digit.0)))

fit : (range : Option Range) (number : Option ℕ) (form : Form) → IsForm range number form → IsFit range form
fit None None alone is = refl
fit (Some range) (Some n) (two digits) is = (refl, plain_number range digits n is)
fit (Some range) (Some n) (one digits) is = refl
fit range number form is = absurd is

fit_uses : (cs : List Setting) (us : List Use) → AreUses cs us → AreFit us
fit_uses [] [] are = tt
fit_uses (c ∷ cs) (u ∷ us) (e, is, are) = (fit (option_row u.0).number c.number u.1 is, fit_uses cs us are)
fit_uses cs us are = absurd are

-- uses behind uses
uses_more : (cs ds : List Setting) (us vs : List Use) → AreUses cs us → AreUses ds vs → AreUses (cs ++ ds) (us ++ vs)
uses_more [] ds [] vs are more = more
uses_more (c ∷ cs) ds (u ∷ us) vs (e, is, are) more = (e, is, uses_more cs ds us vs are more)
uses_more cs ds us vs are more = absurd are

-- an option that is not among the settings has no row
no_row : (o : OptionName) (cs : List Setting) (us : List Use) → AreUses cs us → All (λ c. name c ≢ option_word o) cs
    → has_row (option_id o) (rows_for us) ≡ false
no_row o [] [] are new = refl
no_row o (c ∷ cs) (u ∷ us) (e, is, are) new =
    let first = All-head (λ c. name c ≢ option_word o) c cs new in
    let not_it : bytes_eq (option_id u.0) (option_id o) ≡ false =
    same_id u.0 o ∙ different (option_word u.0) (option_word o) (λ s. first (ap option_word (sym e) ∙ s)) in
    ap (λ t. t || has_row (option_id o) (rows_for us)) not_it ∙ no_row o cs us are (All-tail (λ c. name c ≢ option_word o) c cs new)
no_row o cs us are new = absurd are

-- options that stand once are new one after another
new_uses : (ds cs : List Setting) (vs us : List Use) → AreUses cs us → AreUses ds vs → Once (cs ++ ds) → AreNew us vs
new_uses [] cs [] us are more once = tt
new_uses (d ∷ ds) cs (v ∷ vs) us are (e, is, more) once =
    let new = no_row d.option cs us are (new_behind cs ds d once) in (
      subst (λ o. has_row (option_id o) (rows_for us) ≡ false) (sym e) new,
      new_uses ds (cs ++ d ∷ []) vs (us ++ v ∷ []) (uses_more cs (d ∷ []) us (v ∷ []) are (e, is, tt)) more
          (subst Once (sym (append_assoc cs (d ∷ []) ds)) once),
    )
new_uses ds cs vs us are more once = absurd more

-- ---- what the rows tell

-- the row is that of the setting's use
abbrev Told : Option Range → Text → Option Row → Option Setting → Type 0
Told range id None None = Unit {0}
Told range id (Some row) (Some c) = (form : Form) × IsForm range c.number form × (row ≡ row_with id (built_with range id) (text_of form))
Told range id found setting = ⊥

told : (o : OptionName) (cs : List Setting) (us : List Use) → AreUses cs us
    → Told (option_row o).number (option_id o) (row_at (option_id o) (rows_for us)) (setting_of o cs)
told o [] [] are = tt
told o (c ∷ cs) (u ∷ us) (e, is, are) = by (same_option c.option o) refl (told o cs us are) where
  here : same_option c.option o ≡ bytes_eq (option_id u.0) (option_id o)
  here = ap (λ p. same_option p o) (sym e) ∙ sym (same_id u.0 o)

  by : (b : Bool) → same_option c.option o ≡ b → Told (option_row o).number (option_id o) (row_at (option_id o) (rows_for us)) (setting_of o cs)
      → Told (option_row o).number (option_id o) (row_at (option_id o) (rows_for (u ∷ us))) (setting_of o (c ∷ cs))
  by true b rest =
      let it : u.0 ≡ o = e ∙ word_one c.option o ((bytes_eq-Decides (option_word c.option) (option_word o)).0 b) in
      rw (b, sym here ∙ b) (
        u.1,
        subst (λ p. IsForm (option_row p).number c.number u.1) it is,
        ap (λ p. row_with (option_id p) (built_with (option_row p).number (option_id p)) (text_of u.1)) it,
      )
  by false b rest = rw (b, sym here ∙ b) rest
told o cs us are = absurd are

flag_told : (id : Text) (found : Option Row) (setting : Option Setting) → Told None id found setting
    → option_and_then row_text (row_or found (absent_of None id)) ≡ Some (flag_text (is_some setting))
flag_told id None None is = refl
flag_told id (Some row) (Some c) (form, is, e) = by c.number form is e where
  by : (number : Option ℕ) (form : Form) → IsForm None number form → row ≡ row_with id (built_with None id) (text_of form) → row_text row ≡ Some (codes "true")
  by None alone is e = ap row_text e
  by number form is e = absurd is
flag_told id found setting is = absurd is

number_told : (range : Range) (id : Text) (found : Option Row) (setting : Option Setting) → Told (Some range) id found setting
    → IsNumberText range (option_and_then (λ r. slice_get r.values 0) (row_or found (absent_of (Some range) id))) (option_and_then (λ c. c.number) setting)
number_told range id None None is = tt
number_told range id (Some row) (Some c) (form, is, e) = by c.number form is e where
  by : (number : Option ℕ) (form : Form) → IsForm (Some range) number form → row ≡ row_with id (built_with (Some range) id) (text_of form)
      → IsNumberText range (slice_get row.values 0) number
  by (Some n) (two digits) is e = subst (λ r. IsNumberText range (slice_get r.values 0) (Some n)) (sym e) is
  by (Some n) (one digits) is e = subst (λ r. IsNumberText range (slice_get r.values 0) (Some n)) (sym e) is
  by number form is e = absurd is
number_told range id found setting is = absurd is

tells : (o : OptionName) (range : Option Range) (settings : List Setting) (m : ArgMatches) (found : Option Row)
    → row_at (option_id o) (rows_of (found_of m)) ≡ row_or found (absent_of range (option_id o))
    → Told range (option_id o) found (setting_of o settings) → TellsOption o range settings m
tells o None settings m found same is =
    one_text-rows (found_of m) (option_id o) ∙ ap (option_and_then row_text) same ∙ flag_told (option_id o) found (setting_of o settings) is
tells o (Some range) settings m found same is =
    subst (λ t. IsNumberText range t (number_of o settings))
    (sym (first_value-rows (found_of m) (option_id o) ∙ ap (option_and_then (λ r. slice_get r.values 0)) same))
    (number_told range (option_id o) found (setting_of o settings) is)

-- ---- words that are taken

pub said_taken : (words : List Text) (settings : List Setting) → SayOnce settings words → takes options_app words ≡ true
said_taken words settings (say, once) =
    let u = uses_in settings words say in
    ap (takes options_app) u.whole ∙ words_taken u.uses (new_uses settings [] u.uses [] tt u.are once) (fit_uses settings u.uses u.are)

pub said_matched : (words : List Text) (m : ArgMatches) → rows_of (found_of m) ≡ matches_of options_app words → AreMatched words m
said_matched words m rows settings (say, once) o =
    let u = uses_in settings words say in
    let matched = row_matched u.uses o (new_uses settings [] u.uses [] tt u.are once) (fit_uses settings u.uses u.are) in
    tells o (option_row o).number settings m (row_at (option_id o) (rows_for u.uses))
    (ap (row_at (option_id o)) (rows ∙ ap (matches_of options_app) u.whole) ∙ matched) (told o settings u.uses u.are)
