-- A list of words is taken as one command at most.
use Rattle.std.proofs.Common.{◌≡◌, ◌∙◌, ℕ, ◌==◌, ◌||◌, Bool, true, false, inl, inr, List, [], ◌∷◌, ◌++◌, codes, Option, Some, None, refl, sym, ap, ap₂, subst}
use Rattle.std.proofs.Common.{if◌then◌else◌}
use Rattle.std.specs.List.{list_any, find}
use Rattle.std.specs.Str.Parse.{digits_value}
use Rattle.std.specs.Prelude.{bytes_eq}
use Rattle.std.proofs.lemmas.Slice.Eq.{bytes_eq-Decides}
use Rattle.command_words.specs.declared.table.Range.{Range}
use Rattle.command_words.specs.declared.table.OptionName.{OptionName}
use Rattle.command_words.specs.declared.table.OptionName.TheVariants as names
use Rattle.command_words.specs.Table.{all_options, option_row, option_word, solve_command, check_command, batch_command, system_command}
use Rattle.command_words.specs.Words.{Setting, Command, Solve, Check, Trace, Demo, Batch, System, Monitor, Depast, IsNumberIn, name, SaysOption, Says, SayAll}
use Rattle.command_words.specs.Words.{Asks, command_word}

pub false_not_true : false ≡ true → ⊥
false_not_true e = cc

-- two texts that a test tells apart
pub apart : (a b : List ℕ) → bytes_eq a b ≡ false → a ≡ b → ⊥
apart a b n e = false_not_true (sym n ∙ (bytes_eq-Decides a b).1 e)

-- ---- the words of the options

-- the option of a word
abbrev pub option_at : List ℕ → Option OptionName
option_at word = find (λ o. bytes_eq (option_word o) word) all_options

pub option_at_word : (o : OptionName) → option_at (option_word o) ≡ Some o
option_at_word names.Finite = refl
option_at_word other = refl

-- options of one word are one
pub word_one : (a b : OptionName) → option_word a ≡ option_word b → a ≡ b
word_one a b e = let s : Some a ≡ Some b = sym (option_at_word a) ∙ ap option_at e ∙ option_at_word b in cc

abbrev pub has_equals : List ℕ → Bool
has_equals word = list_any (λ x. x == 61) word

pub no_equals : (o : OptionName) → has_equals (option_word o) ≡ false
no_equals names.Finite = refl
no_equals other = refl

-- what stands in a word before the first =
abbrev pub before_equals : List ℕ → List ℕ
before_equals [] = []
before_equals (x ∷ xs) = if x == 61 then [] else x ∷ before_equals xs

pub before_all : (word : List ℕ) → has_equals word ≡ false → before_equals word ≡ word
before_all [] n = refl
before_all (x ∷ xs) n = by (x == 61) refl (before_all xs) where
  by : (b : Bool) → (x == 61) ≡ b → (has_equals xs ≡ false → before_equals xs ≡ xs) → before_equals (x ∷ xs) ≡ x ∷ xs
  by true e more = absurd (false_not_true (sym n ∙ ap (λ t. t || has_equals xs) e))
  by false e more = rw e (ap (λ t. x ∷ t) (more (sym (ap (λ t. t || has_equals xs) e) ∙ n)))

pub before_joined : (word rest : List ℕ) → has_equals word ≡ false → before_equals (word ++ codes "=" ++ rest) ≡ word
before_joined [] rest n = refl
before_joined (x ∷ xs) rest n = by (x == 61) refl (before_joined xs rest) where
  by : (b : Bool) → (x == 61) ≡ b → (has_equals xs ≡ false → before_equals (xs ++ codes "=" ++ rest) ≡ xs)
      → before_equals ((x ∷ xs) ++ codes "=" ++ rest) ≡ x ∷ xs
  by true e more = absurd (false_not_true (sym n ∙ ap (λ t. t || has_equals xs) e))
  by false e more = rw e (ap (λ t. x ∷ t) (more (sym (ap (λ t. t || has_equals xs) e) ∙ n)))

pub joined_equals : (word rest : List ℕ) → has_equals (word ++ codes "=" ++ rest) ≡ true
joined_equals [] rest = refl
joined_equals (x ∷ xs) rest = or_true (x == 61) (joined_equals xs rest) where
  or_true : (a : Bool) {b : Bool} → b ≡ true → (a || b) ≡ true
  or_true true e = refl
  or_true false e = e

pub same_behind : (word d e : List ℕ) → word ++ d ≡ word ++ e → d ≡ e
same_behind [] d e s = s
same_behind (x ∷ xs) d e s = same_behind xs d e (cc)

-- ---- one setting

-- how a first word and those behind it say an option
pub data Form (option first : List ℕ) (more behind : List (List ℕ)) : Option Range → Option ℕ → Type 0 where
  alone : first ≡ option → more ≡ behind → Form option first more behind None None
  two : (range : Range) (digits : List ℕ) (n : ℕ) → IsNumberIn range digits n
      → first ≡ option → more ≡ digits ∷ behind → Form option first more behind (Some range) (Some n)
  one : (range : Range) (digits : List ℕ) (n : ℕ) → IsNumberIn range digits n
      → first ≡ option ++ codes "=" ++ digits → more ≡ behind → Form option first more behind (Some range) (Some n)

pub form : (option first : List ℕ) (range : Option Range) (number : Option ℕ) (front behind more : List (List ℕ)) → SaysOption option range number front
    → front ++ behind ≡ first ∷ more → Form option first more behind range number
form option first None None front behind more says whole =
    let s : option ∷ behind ≡ first ∷ more = sym (ap (λ ws. ws ++ behind) says) ∙ whole in alone (cc) (cc)
form option first (Some range) (Some n) front behind more (digits, is, inl e) whole =
    let s : option ∷ digits ∷ behind ≡ first ∷ more = sym (ap (λ ws. ws ++ behind) e) ∙ whole in two range digits n is (cc) (cc)
form option first (Some range) (Some n) front behind more (digits, is, inr e) whole =
    let s : (option ++ codes "=" ++ digits) ∷ behind ≡ first ∷ more = sym (ap (λ ws. ws ++ behind) e) ∙ whole in one range digits n is (cc) (cc)
form option first None (Some n) front behind more says whole = absurd says
form option first (Some range) None front behind more says whole = absurd says

form_before : (option first : List ℕ) (more behind : List (List ℕ)) (range : Option Range) (number : Option ℕ)
    → has_equals option ≡ false → Form option first more behind range number → before_equals first ≡ option
form_before option first more behind range number n (alone is back) = ap before_equals is ∙ before_all option n
form_before option first more behind range number n (two r digits k num is back) = ap before_equals is ∙ before_all option n
form_before option first more behind range number n (one r digits k num is back) = ap before_equals is ∙ before_joined option digits n

-- a word says one option at most
pub form_option : (c : Setting) (first : List ℕ) (more behind : List (List ℕ)) → Form (name c) first more behind (option_row c.option).number c.number
    → before_equals first ≡ name c
form_option c first more behind f = form_before (name c) first more behind (option_row c.option).number c.number (no_equals c.option) f

pub not_joined : (option digits : List ℕ) → has_equals option ≡ false → option ≡ option ++ codes "=" ++ digits → ⊥
not_joined option digits n e = false_not_true (sym n ∙ ap has_equals e ∙ joined_equals option digits)

forms_one : (option first : List ℕ) (more behind behind' : List (List ℕ)) (range : Option Range) (m n : Option ℕ) → has_equals option ≡ false
    → Form option first more behind range m → Form option first more behind' range n → (m ≡ n) × (behind ≡ behind')
forms_one option first more behind behind' range m n none (alone is back) (alone is' back') = (refl, sym back ∙ back')
forms_one option first more behind behind' range m n none (two r d k num is back) (two r' d' k' num' is' back') =
    let s : d ∷ behind ≡ d' ∷ behind' = sym back ∙ back' in
    let e : d ≡ d' = cc in (ap Some (sym num.value ∙ ap (digits_value 10) e ∙ num'.value), cc)
forms_one option first more behind behind' range m n none (two r d k num is back) (one r' d' k' num' is' back') =
    absurd (not_joined option d' none (sym is ∙ is'))
forms_one option first more behind behind' range m n none (one r d k num is back) (two r' d' k' num' is' back') =
    absurd (not_joined option d none (sym is' ∙ is))
forms_one option first more behind behind' range m n none (one r d k num is back) (one r' d' k' num' is' back') =
    let e : d ≡ d' = same_behind (option ++ codes "=") d d' (sym is ∙ is') in (ap Some (sym num.value ∙ ap (digits_value 10) e ∙ num'.value), sym back ∙ back')

says_word : (option : List ℕ) (range : Option Range) (number : Option ℕ) (words : List (List ℕ)) → SaysOption option range number words
    → (w : List ℕ) × (ws : List (List ℕ)) × (words ≡ w ∷ ws)
says_word option None None words e = (option, [], e)
says_word option (Some range) (Some n) words (digits, is, inl e) = (option, digits ∷ [], e)
says_word option (Some range) (Some n) words (digits, is, inr e) = (option ++ codes "=" ++ digits, [], e)
says_word option None (Some n) words says = absurd says
says_word option (Some range) None words says = absurd says

-- a setting is said by some word
pub says_some : (c : Setting) → Says c [] → ⊥
says_some c says = let w = says_word (name c) (option_row c.option).number c.number [] says in let e : [] ≡ w.0 ∷ w.1 = w.2 in cc

-- two readings of the first words are one
pub first_one : (c d : Setting) (front back front' back' : List (List ℕ)) → Says c front → Says d front'
    → front ++ back ≡ front' ++ back' → (c ≡ d) × (back ≡ back')
first_one c d front back front' back' says says' same =
    let w = says_word (name c) (option_row c.option).number c.number front says in
    let whole : front ++ back ≡ w.0 ∷ (w.1 ++ back) = ap (λ ws. ws ++ back) w.2 in
    let f = form (name c) w.0 (option_row c.option).number c.number front back (w.1 ++ back) says whole in
    let f' = form (name d) w.0 (option_row d.option).number d.number front' back' (w.1 ++ back) says' (sym same ∙ whole) in
    let same_option = word_one c.option d.option (sym (form_option c w.0 (w.1 ++ back) back f) ∙ form_option d w.0 (w.1 ++ back) back' f') in
    let P : OptionName → Type 0 = λ o. Form (option_word o) w.0 (w.1 ++ back) back' (option_row o).number d.number in
    let r = forms_one (name c) w.0 (w.1 ++ back) back back' (option_row c.option).number c.number d.number (no_equals c.option) f
    (subst P (sym same_option) f') in
    (ap₂ (λ o n. record { option = o; number = n }) same_option r.0, r.1)

says_first : (c : Setting) (front back : List (List ℕ)) → front ++ back ≡ [] → Says c front → ⊥
says_first c [] back e says = says_some c says
says_first c (w ∷ ws) back e says = cc

pub settings_one : (cs ds : List Setting) (words : List (List ℕ)) → SayAll cs words → SayAll ds words → cs ≡ ds
settings_one [] [] words p q = refl
settings_one [] (d ∷ ds) words p (front, back, whole, says, more) = absurd (says_first d front back (sym whole ∙ p) says)
settings_one (c ∷ cs) [] words (front, back, whole, says, more) q = absurd (says_first c front back (sym whole ∙ q) says)
settings_one (c ∷ cs) (d ∷ ds) words (front, back, whole, says, more) (front', back', whole', says', more') =
    let same : front ++ back ≡ front' ++ back' = sym whole ∙ whole' in
    let r = first_one c d front back front' back' says says' same in
    let t = settings_one cs ds back more (let P : List (List ℕ) → Type 0 = λ ws. SayAll ds ws in subst P (sym r.1) more') in
    ap₂ (λ x xs. x ∷ xs) r.0 t

-- ---- one command

-- words are not taken as two commands whose first words differ
pub not_both : (words : List (List ℕ)) (c d : Command) → bytes_eq (command_word c) (command_word d) ≡ false → Asks words c → Asks words d → ⊥
not_both words c d n (more, e, follow) (more', e', follow') =
    let s : command_word c ∷ more ≡ command_word d ∷ more' = sym e ∙ e' in apart (command_word c) (command_word d) n (cc)

-- what stands behind one first word is one list
behind_one : (word : List ℕ) (words more more' : List (List ℕ)) → words ≡ word ∷ more → words ≡ word ∷ more' → more' ≡ more
behind_one word words more more' e e' = let m : word ∷ more ≡ word ∷ more' = sym e ∙ e' in cc

-- the settings behind one first word are one list
settings_behind : (word : List ℕ) (words more more' : List (List ℕ)) (cs ds : List Setting) → words ≡ word ∷ more → words ≡ word ∷ more' → SayAll cs more
    → SayAll ds more' → cs ≡ ds
settings_behind word words more more' cs ds e e' says says' =
    settings_one cs ds more says (let P : List (List ℕ) → Type 0 = λ ws. SayAll ds ws in subst P (behind_one word words more more' e e') says')

pub command_one : (words : List (List ℕ)) (c d : Command) → Asks words c → Asks words d → c ≡ d
command_one words (Solve cs) (Solve ds) (more, e, (says, once, among)) (more', e', (says', once', among')) =
    ap Solve (settings_behind solve_command.word words more more' cs ds e e' says says')
command_one words (Check cs) (Check ds) (more, e, (says, once, among)) (more', e', (says', once', among')) =
    ap Check (settings_behind check_command.word words more more' cs ds e e' says says')
command_one words (Batch cs) (Batch ds) (more, e, (says, once, among)) (more', e', (says', once', among')) =
    ap Batch (settings_behind batch_command.word words more more' cs ds e e' says says')
command_one words (System cs) (System ds) (more, e, (says, once, among)) (more', e', (says', once', among')) =
    ap System (settings_behind system_command.word words more more' cs ds e e' says says')
command_one words (Demo m) (Demo n) (more, e, (d, is, whole)) (more', e', (d', is', whole')) =
    let b = behind_one (codes "demo") words more more' e e' in
    let w : d' ∷ [] ≡ d ∷ [] = sym whole' ∙ b ∙ whole in
    let s : d ≡ d' = cc in ap Demo (sym is.value ∙ ap (digits_value 10) s ∙ is'.value)
command_one words Trace Trace p q = refl
command_one words Monitor Monitor p q = refl
command_one words Depast Depast p q = refl
command_one words c d p q = absurd (not_both words c d refl p q)
