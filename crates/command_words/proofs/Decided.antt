-- Each list of words asks for a command or for none. Which of both is found as the code finds it, over plain lists.
use Rattle.std.proofs.Common.{◌≡◌, ◌∙◌, ℕ, zero, suc, ◌<◌, ◌==◌, ◌||◌, ◌⊎◌, inl, inr, Bool, true, false, List, [], ◌∷◌, ◌++◌}
use Rattle.std.proofs.Common.{length, length-append, Option, Some, None, arith, refl, sym, ap, subst}
use Rattle.std.specs.List.{find}
use Rattle.std.specs.Char.{digit_value}
use Rattle.std.specs.Str.Parse.{AllDigits, digits_value}
use Rattle.std.specs.Prelude.{bytes_eq}
use Rattle.std.proofs.lemmas.Bool.{cases_lt}
use Rattle.std.proofs.lemmas.Slice.Eq.{bytes_eq-Decides}
use borrow.Author.Tests.{eqb-true}
use Rattle.command_words.specs.declared.table.Range.{Range}
use Rattle.command_words.specs.declared.table.OptionName.{OptionName}
use Rattle.command_words.specs.declared.table.CommandName.{CommandName}
use Rattle.command_words.specs.declared.table.CommandName.TheVariants as commands
use Rattle.command_words.specs.declared.options.Seen.{Seen}
use Rattle.command_words.specs.Table.{all_options, option_row, option_word, all_commands, command_row, has_option, demo_command}
use Rattle.command_words.specs.Words.{Setting, Command, Solve, Check, Trace, Demo, Batch, System, Monitor, Depast, IsNumberIn, IsNumberOf, Says}
use Rattle.command_words.specs.Words.{SayNumber, SaySettings, name_of, Follow, Asks}
use Rattle.command_words.specs.Said.{SomeAreSaid, NoneAreSaid, is_seen, with_seen, SaysFirst, SaysNothing, GoesOn}
use Rattle.command_words.specs.Said.{FollowsNothing}
use Rattle.command_words.proofs.OneCommand.{option_at_word, word_one, has_equals, says_some}
use Rattle.command_words.proofs.Saying.{IsSaidBefore, said_at_first, said_at_last, said_next, none_behind, other_behind, repeated_behind}
use Rattle.command_words.proofs.Saying.{empty_says_nothing, joined_first, joined_nothing, apart_first, apart_nothing}
use Rattle.command_words.proofs.Asking.{command_at_word, takes_options, takes_nothing, no_settings, more_words, no_number}
use Rattle.command_words.proofs.Asking.{asks_unknown, asks_nothing, no_words_asked}

-- something has the property, or nothing has it
abbrev IsDecided : {A : Type 0} → (A → Type 0) → Type 0
IsDecided {A} P = ((a : A) × P a) ⊎ ((a : A) → P a → ⊥)

-- ---- names by their words

-- what is found passes the test
find_passes : {A : Type 0} (p : A → Bool) (xs : List A) (x : A) → find p xs ≡ Some x → p x ≡ true
find_passes p [] x e = absurd (cc)
find_passes p (y ∷ ys) x e = by (p y) refl (find_passes p ys x) where
  by : (b : Bool) → p y ≡ b → (find p ys ≡ Some x → p x ≡ true) → p x ≡ true
  by true h rest = let here : find p (y ∷ ys) ≡ Some y = rw h refl in let same : y ≡ x = cc in subst (λ z. p z ≡ true) same h
  by false h rest = let later : find p (y ∷ ys) ≡ find p ys = rw h refl in rest (sym later ∙ e)

-- a word is that of a thing, or of none
named : {A : Type 0} (word_of : A → List ℕ) (all : List A) → ((a : A) → find (λ b. bytes_eq (word_of b) (word_of a)) all ≡ Some a)
    → (word : List ℕ) → IsDecided (λ a. word ≡ word_of a)
named {A} word_of all each word = go (find (λ b. bytes_eq (word_of b) word) all) refl where
  go : (found : Option A) → find (λ b. bytes_eq (word_of b) word) all ≡ found → IsDecided (λ a. word ≡ word_of a)
  go None e = inr (λ a same.
      let there : find (λ b. bytes_eq (word_of b) word) all ≡ Some a = ap (λ w. find (λ b. bytes_eq (word_of b) w) all) same ∙ each a in
      cc)
  go (Some a) e = inl (a, sym ((bytes_eq-Decides (word_of a) word).0 (find_passes (λ b. bytes_eq (word_of b) word) all a e)))

option_named : (word : List ℕ) → IsDecided (λ option. word ≡ option_word option)
option_named = named option_word all_options option_at_word

command_named : (word : List ℕ) → IsDecided (λ name. word ≡ (command_row name).word)
command_named = named (λ name. (command_row name).word) all_commands command_at_word

-- ---- numbers

all_digits : (ds : List ℕ) → AllDigits 10 ds ⊎ (AllDigits 10 ds → ⊥)
all_digits [] = inl tt
all_digits (d ∷ ds) = elim (cases_lt (digit_value d) 10) [
  | inl l ↦ elim (all_digits ds) [ inl a ↦ inl (l, a) | inr n ↦ inr (λ h. n h.1) ]
  | inr g ↦ inr (λ h. let l = h.0 in omega arith)
]

number_in : (range : Range) (digits : List ℕ) → IsDecided (IsNumberIn range digits)
number_in range digits = elim (all_digits digits) [
  | inr n ↦ inr (λ m h. n h.numeral.1)
  | inl all ↦ elim (cases_lt 0 (length digits)) [
    | inr g ↦ inr (λ m h. let l = h.numeral.0 in omega arith)
    | inl some ↦ elim (cases_lt range.digits (length digits)) [
      | inl l ↦ inr (λ m h. let s = h.short in omega arith)
      | inr short ↦ elim (cases_lt (digits_value 10 digits) range.low) [
        | inl l ↦ inr (λ m h. let v = h.value in let f = h.from in omega arith)
        | inr low ↦ elim (cases_lt range.high (digits_value 10 digits)) [
          | inl l ↦ inr (λ m h. let v = h.value in let t = h.to in omega arith)
          | inr high ↦ inl (digits_value 10 digits, record { numeral = (some, all); short = short; value = refl; from = low; to = high })
        ]
      ]
    ]
  ]
]

number_of : (range : Option Range) (digits : List ℕ) → IsDecided (IsNumberOf range digits)
number_of None digits = inr (λ n h. h)
number_of (Some range) digits = number_in range digits

said_number : (words : List (List ℕ)) → IsDecided (λ n. SayNumber demo_command n words)
said_number [] = inr (λ n h. let e = h.2 in cc)
said_number (digits ∷ w ∷ ws) = inr (λ n h. let e = h.2 in cc)
said_number (digits ∷ []) = elim (number_of demo_command.number digits) [
  | inl n ↦ inl (n.0, (digits, n.1, refl))
  | inr none ↦ inr (λ n h. let e = h.2 in let same : h.0 ≡ digits = cc in none n (subst (λ d. IsNumberOf demo_command.number d n) same h.1))
]

-- ---- the first option

-- what stands round the first = of a word
record IsCut (word : List ℕ) : Type 0 where
  front : List ℕ
  back : List ℕ
  whole : word ≡ front ++ 61 ∷ back
  lacks : has_equals front ≡ false

cut : (word : List ℕ) → IsCut word ⊎ (has_equals word ≡ false)
cut [] = inr refl
cut (x ∷ xs) = by (x == 61) refl (cut xs) where
  by : (b : Bool) → (x == 61) ≡ b → IsCut xs ⊎ (has_equals xs ≡ false) → IsCut (x ∷ xs) ⊎ (has_equals (x ∷ xs) ≡ false)
  by true e rest = inl (record { front = []; back = xs; whole = ap (λ z. z ∷ xs) (eqb-true x 61 e); lacks = refl })
  by false e (inl c) = inl (record {
    front = x ∷ c.front;
    back = c.back;
    whole = ap (λ z. x ∷ z) c.whole;
    lacks = ap (λ t. t || has_equals c.front) e ∙ c.lacks;
  })
  by false e (inr n) = inr (ap (λ t. t || has_equals xs) e ∙ n)

goes_on : (range : Option Range) (more : List (List ℕ)) → IsDecided (GoesOn range more)
goes_on None more = inl (more, refl)
goes_on (Some range) [] = inr (λ behind h. let e = h.3 in cc)
goes_on (Some range) (w ∷ ws) = elim (number_in range w) [
  | inl n ↦ inl (ws, (w, n.0, n.1, refl))
  | inr none ↦ inr (λ behind h. let e = h.3 in let same : h.0 ≡ w = cc in none h.1 (subst (λ d. IsNumberIn range d h.1) same h.2))
]

-- the words say an option first, or none
abbrev IsFirstDecided : List (List ℕ) → Type 0
IsFirstDecided words = ((option : OptionName) × (behind : List (List ℕ)) × SaysFirst words option behind) ⊎ SaysNothing words

joined_said : (w : List ℕ) (more : List (List ℕ)) → IsCut w → IsFirstDecided (w ∷ more)
joined_said w more c = elim (option_named c.front) [
  | inl o ↦ elim (number_of (option_row o.0).number c.back) [
    | inl n ↦ inl (o.0, more, joined_first (w ∷ more) more w c.front c.back o.0 refl c.whole (o.1, n))
    | inr none ↦ inr (joined_nothing (w ∷ more) more w c.front c.back refl c.whole c.lacks (λ p h.
        none h.1.0 (subst (λ q. IsNumberOf (option_row q).number c.back h.1.0) (word_one p o.0 (sym h.0 ∙ o.1)) h.1.1)))
  ]
  | inr none ↦ inr (joined_nothing (w ∷ more) more w c.front c.back refl c.whole c.lacks (λ p h. none p h.0))
]

apart_said : (w : List ℕ) (more : List (List ℕ)) → has_equals w ≡ false → IsFirstDecided (w ∷ more)
apart_said w more lacks = elim (option_named w) [
  | inl o ↦ elim (goes_on (option_row o.0).number more) [
    | inl g ↦ inl (o.0, g.0, apart_first (w ∷ more) more g.0 w o.0 refl (o.1, g.1))
    | inr none ↦ inr (apart_nothing (w ∷ more) more w refl lacks (λ p behind h.
        none behind (subst (λ q. GoesOn (option_row q).number more behind) (word_one p o.0 (sym h.0 ∙ o.1)) h.1)))
  ]
  | inr none ↦ inr (apart_nothing (w ∷ more) more w refl lacks (λ p behind h. none p h.0))
]

first_said : (words : List (List ℕ)) → IsFirstDecided words
first_said [] = inr empty_says_nothing
first_said (w ∷ more) = elim (cut w) [ inl c ↦ joined_said w more c | inr lacks ↦ apart_said w more lacks ]

-- ---- the settings

abbrev AreDecided : List OptionName → List (List ℕ) → Type 0
AreDecided offers words = SomeAreSaid offers words ⊎ NoneAreSaid offers words

-- what stands behind an option is shorter
shorter : (words behind : List (List ℕ)) (option : OptionName) → SaysFirst words option behind → length behind < length words
shorter words behind option first = by first.front first.whole first.says where
  by : (front : List (List ℕ)) → words ≡ front ++ behind → Says (record { option = option; number = first.number }) front → length behind < length words
  by [] e says = absurd (says_some (record { option = option; number = first.number }) says)
  by (w ∷ ws) e says = let l = ap length e in let m = length-append ws behind in omega arith

-- a first option that is offered and new is read, and what stands behind it decides
one_said : (offers : List OptionName) (words rest behind : List (List ℕ)) (seen : Seen) (option : OptionName) → IsSaidBefore offers words rest seen
    → SaysFirst rest option behind → (IsSaidBefore offers words behind (with_seen seen option) → AreDecided offers words) → AreDecided offers words
one_said offers words rest behind seen option h first further = by (has_option offers option) refl (is_seen seen option) refl where
  by : (b : Bool) → has_option offers option ≡ b → (s : Bool) → is_seen seen option ≡ s → AreDecided offers words
  by false b s e = inr (other_behind offers words rest behind seen option h first b)
  by true b true e = inr (repeated_behind offers words rest behind seen option h first e)
  by true b false e = further (said_next offers words rest behind seen option h first b e)

said_on : (left : ℕ) (offers : List OptionName) (words rest : List (List ℕ)) (seen : Seen) → length rest < left
    → IsSaidBefore offers words rest seen → AreDecided offers words
said_on zero offers words rest seen less h = absurd (omega arith)
said_on (suc left) offers words [] seen less h = inl (said_at_last offers words [] seen h refl)
said_on (suc left) offers words (w ∷ ws) seen less h = elim (first_said (w ∷ ws)) [
  | inr nothing ↦ inr (none_behind offers words (w ∷ ws) seen h (λ e. cc) nothing)
  | inl f ↦ one_said offers words (w ∷ ws) f.1 seen f.0 h f.2 (λ k.
      let fewer = shorter (w ∷ ws) f.1 f.0 f.2 in
      said_on left offers words f.1 (with_seen seen f.0) (omega arith) k)
]

settings_said : (offers : List OptionName) (words : List (List ℕ)) → AreDecided offers words
settings_said offers words = said_on (suc (length words)) offers words words _ (omega arith) (said_at_first offers words)

-- ---- the command

-- what stands behind the command's word asks for it, or for nothing
record IsFurther (name : CommandName) (words : List (List ℕ)) : Type 0 where
  command : Command
  is : name_of command ≡ name
  follow : Follow command words

with_options : (name : CommandName) (of : List Setting → Command) → takes_options name ≡ true
    → ((settings : List Setting) → name_of (of settings) ≡ name)
    → ((settings : List Setting) (words : List (List ℕ)) → SaySettings (command_row name).options settings words → Follow (of settings) words)
    → (words : List (List ℕ)) → IsFurther name words ⊎ FollowsNothing name words
with_options name of takes is good words = elim (settings_said (command_row name).options words) [
  | inl s ↦ inl (record { command = of s.0; is = is s.0; follow = good s.0 words s.1 })
  | inr none ↦ inr (no_settings name words takes none)
]

without_words : (name : CommandName) (c : Command) → takes_nothing name ≡ true → name_of c ≡ name → Follow c []
    → (words : List (List ℕ)) → IsFurther name words ⊎ FollowsNothing name words
without_words name c takes is follow [] = inl (record { command = c; is = is; follow = follow })
without_words name c takes is follow (w ∷ ws) = inr (more_words name (w ∷ ws) takes (λ e. cc))

further : (name : CommandName) (words : List (List ℕ)) → IsFurther name words ⊎ FollowsNothing name words
further commands.Solve = with_options commands.Solve Solve refl (λ cs. refl) (λ cs ws say. say)
further commands.Check = with_options commands.Check Check refl (λ cs. refl) (λ cs ws say. say)
further commands.Batch = with_options commands.Batch Batch refl (λ cs. refl) (λ cs ws say. say)
further commands.System = with_options commands.System System refl (λ cs. refl) (λ cs ws say. say)
further commands.Trace = without_words commands.Trace Trace refl refl refl
further commands.Monitor = without_words commands.Monitor Monitor refl refl refl
further commands.Depast = without_words commands.Depast Depast refl refl refl
further commands.Demo = λ words. elim (said_number words) [
  | inl n ↦ inl (record { command = Demo n.0; is = refl; follow = n.1 })
  | inr none ↦ inr (no_number words none)
]

-- each list of words asks for a command, or for none
pub asks_or_not : (words : List (List ℕ)) → ((c : Command) × Asks words c) ⊎ ((c : Command) → Asks words c → ⊥)
asks_or_not [] = inr no_words_asked
asks_or_not (w ∷ more) = elim (command_named w) [
  | inr unknown ↦ inr (asks_unknown (w ∷ more) more w refl unknown)
  | inl n ↦ elim (further n.0 more) [
    | inl f ↦ inl (f.command, (more, ap (λ z. z ∷ more) (n.1 ∙ ap (λ name. (command_row name).word) (sym f.is)), f.follow))
    | inr none ↦ inr (asks_nothing (w ∷ more) more w n.0 refl n.1 none)
  ]
]
