-- How `clap` walks over option words: each use of an option gives one row, and at the end the matches are those rows.
use Rattle.std.proofs.Common.{◌≡◌, ◌∙◌, ℕ, ◌==◌, ◌&&◌, ◌||◌, Bool, true, false, List, [], ◌∷◌, ◌++◌, codes, Option, Some, None, refl, sym, ap, subst, map, fold}
use Rattle.std.proofs.Common.{append-nil, append_assoc}
use Rattle.std.proofs.lemmas.List.{map-append}
use Rattle.std.specs.List.{find}
use Rattle.std.specs.Str.{bytes_eq}
use Rattle.std.proofs.lemmas.Slice.Eq.{bytes_eq-Decides}
use Rattle.clap.specs.Lexer.{long_of, short_of}
use Rattle.clap.specs.Simple.{Shape, built, is_simple, matches_of}
use Rattle.clap.specs.Walk.{Rule, Text, Row, Held, walk_from, walked, settled_rows, used, has_row, at_row, with_values, more_values, reading_by, with_default}
use Rattle.clap.specs.Walk.{finished}
use Rattle.clap.specs.Takes.{turn_passes, settle_passes, walk_passes, takes}
use Rattle.clap.proofs.OnLiterals.{clap_on_literals}
use Rattle.clap.specs.declared.parser.matches.ValueSource.TheVariants.{DefaultValue, CommandLine}
use Rattle.clap.specs.declared.builder.value_parser.ValueParser.TheVariants as parsers
use Rattle.command_words.specs.declared.table.Range.{Range}
use Rattle.command_words.specs.declared.table.OptionName.{OptionName}
use Rattle.command_words.specs.declared.table.OptionName.TheVariants as names
use Rattle.command_words.specs.Table.{all_options, option_row, option_word}
use Rattle.command_words.specs.Matching.{option_id, flag_rule, value_rule, options_shape, options_app}

-- ---- the command as `clap` builds it

abbrev top : Shape
top = (built (record { top = options_shape; subs = [] })).top

abbrev pub as_flag : Rule → Rule
as_flag rule = record rule
    { defaults = codes "false" ∷ []; missing = codes "true" ∷ []; parser = Some parsers.Bool; range = Some (record { start_inclusive = 0; end_inclusive = 0 }) }

abbrev pub as_value : Rule → Rule
as_value rule = record rule { parser = Some parsers.String; range = Some (record { start_inclusive = 1; end_inclusive = 1 }) }

abbrev pub built_with : Option Range → Text → Rule
built_with None id = as_flag (flag_rule id)
built_with (Some range) id = as_value (value_rule id)

-- the rule of an option, with what `clap` fills in
abbrev built_rule : OptionName → Rule
built_rule o = built_with (option_row o).number (option_id o)

abbrev rules : List Rule
rules = map built_rule all_options

pub options_simple : is_simple options_app ≡ true
unfolding options_app
options_simple = refl

-- ---- uses of options

-- an option without a text; an option and its text as two words; and as one
pub data Form : Type 0 where
  alone : Form
  two : Text → Form
  one : Text → Form

-- one use of an option
abbrev pub Use : Type 0
Use = OptionName × Form

abbrev pub words_of_use : OptionName → Form → List Text → List Text
words_of_use o alone more = option_word o ∷ more
words_of_use o (two digits) more = option_word o ∷ digits ∷ more
words_of_use o (one digits) more = (option_word o ++ codes "=" ++ digits) ∷ more

abbrev pub words_of : List Use → List Text
words_of [] = []
words_of (u ∷ us) = words_of_use u.0 u.1 (words_of us)

-- the text of a use
abbrev pub text_of : Form → Text
text_of alone = codes "true"
text_of (two digits) = digits
text_of (one digits) = digits

abbrev pub row_with : Text → Rule → Text → Row
row_with id rule text = record { id = id; values = text ∷ []; count = None; source = Some CommandLine; reading = reading_by rule }

abbrev pub row_for : Use → Row
row_for u = row_with (option_id u.0) (built_rule u.0) (text_of u.1)

abbrev pub rows_for : List Use → List Row
rows_for us = map row_for us

abbrev pub is_flag : Option Range → Bool
is_flag None = true
is_flag (Some range) = false

-- the text is no option
abbrev pub IsPlain : Text → Type 0
IsPlain text = (x : ℕ) × (xs : Text) × (text ≡ x ∷ xs) × ((x == 45) ≡ false)

-- the option is used as its number wants it
abbrev pub IsFit : Option Range → Form → Type 0
IsFit number alone = is_flag number ≡ true
IsFit number (two digits) = (is_flag number ≡ false) × IsPlain digits
IsFit number (one digits) = is_flag number ≡ false

abbrev pub AreFit : List Use → Type 0
AreFit [] = Unit {0}
AreFit (u ∷ us) = IsFit (option_row u.0).number u.1 × AreFit us

-- each further use is of an option that was not used before
abbrev pub AreNew : List Use → List Use → Type 0
AreNew us [] = Unit {0}
AreNew us (v ∷ vs) = (has_row (option_id v.0) (rows_for us) ≡ false) × AreNew (us ++ v ∷ []) vs

-- ---- rows

-- an id that has no row gets one at the end
new_at : (id : Text) (change : Row → List Row) (missing rows : List Row) → has_row id rows ≡ false → at_row id change missing rows ≡ rows ++ missing
new_at id change missing [] none = refl
new_at id change missing (r ∷ rs) none = by (bytes_eq r.id id) refl (new_at id change missing rs) where
  by : (b : Bool) → bytes_eq r.id id ≡ b → (has_row id rs ≡ false → at_row id change missing rs ≡ rs ++ missing)
      → at_row id change missing (r ∷ rs) ≡ (r ∷ rs) ++ missing
  by true e more = let f : true ≡ false = ap (λ t. t || has_row id rs) (sym e) ∙ none in absurd (cc)
  by false e more = rw e (ap (λ t. r ∷ t) (more (ap (λ t. t || has_row id rs) (sym e) ∙ none)))

-- a use of an option that has no row gives it one
used_once : (rule : Rule) (id text : Text) (rows : List Row) → has_row id rows ≡ false
    → with_values id (reading_by rule) CommandLine (text ∷ []) (at_row id (λ _. []) [] rows) ≡ rows ++ row_with id rule text ∷ []
used_once rule id text rows none =
    ap (with_values id (reading_by rule) CommandLine (text ∷ [])) (new_at id (λ _. []) [] rows none ∙ append-nil rows)
    ∙ new_at id (more_values CommandLine (text ∷ [])) (row_with id rule text ∷ []) rows none

flag_used : (number : Option Range) (id : Text) (rows : List Row)
    → is_flag number ≡ true → has_row id rows ≡ false → used (built_with number id) [] rows ≡ rows ++ row_with id (built_with number id) (codes "true") ∷ []
flag_used None id rows is none = used_once (built_with None id) id (codes "true") rows none
flag_used (Some range) id rows is none = absurd (cc)

value_used : (number : Option Range) (id digits : Text) (rows : List Row)
    → is_flag number ≡ false → has_row id rows ≡ false → used (built_with number id) (digits ∷ []) rows ≡ rows ++ row_with id (built_with number id) digits ∷ []
value_used None id digits rows is none = absurd (cc)
value_used (Some range) id digits rows is none = used_once (built_with (Some range) id) id digits rows none

-- ---- one step of the walk

abbrev held : List Row → Option (Text × List Text) → Held
held rows pending = record { rows = rows; pending = pending; skip = 0 }

-- a text that does not begin with a hyphen
plain_bytes : (x : ℕ) (xs : Text) → (x == 45) ≡ false → bytes_eq (x ∷ xs) (45 ∷ 45 ∷ []) ≡ false
plain_bytes x xs n = rw n refl

plain_long : (x : ℕ) (xs : Text) → (x == 45) ≡ false → long_of (x ∷ xs) ≡ None
plain_long x xs n = rw n refl

plain_short : (x : ℕ) (xs : Text) → (x == 45) ≡ false → short_of (x ∷ xs) ≡ None
plain_short x xs n = rw n refl

flag_walked : (o : OptionName) (rows : List Row) (pending : Option (Text × List Text)) → is_flag (option_row o).number ≡ true
    → walked rules [] (walk_from (held rows pending)) (option_word o) ≡ walk_from (held (used (built_rule o) [] (settled_rows rules pending rows)) None)
unfolding clap_on_literals
flag_walked names.Depth rows pending is = absurd (cc)
flag_walked names.Workers rows pending is = absurd (cc)
flag_walked names.Steps rows pending is = absurd (cc)
flag_walked other rows pending is = refl

one_walked : (o : OptionName) (digits : Text) (rows : List Row) (pending : Option (Text × List Text)) → is_flag (option_row o).number ≡ false
    → walked rules [] (walk_from (held rows pending))
    (option_word o ++ codes "=" ++ digits) ≡ walk_from (held (used (built_rule o) (digits ∷ []) (settled_rows rules pending rows)) None)
unfolding clap_on_literals
one_walked names.Depth digits rows pending is = refl
one_walked names.Workers digits rows pending is = refl
one_walked names.Steps digits rows pending is = refl
one_walked other digits rows pending is = absurd (cc)

two_walked : (o : OptionName) (x : ℕ) (xs : Text) (rows : List Row) (pending : Option (Text × List Text))
    → is_flag (option_row o).number ≡ false → (x == 45) ≡ false
    → walked rules [] (walked rules [] (walk_from (held rows pending)) (option_word o)) (x ∷ xs)
    ≡ walk_from (held (settled_rows rules pending rows) (Some (option_id o, (x ∷ xs) ∷ [])))
unfolding clap_on_literals
two_walked names.Depth x xs rows pending is n = rw (plain_bytes x xs n, plain_long x xs n, plain_short x xs n) refl
two_walked names.Workers x xs rows pending is n = rw (plain_bytes x xs n, plain_long x xs n, plain_short x xs n) refl
two_walked names.Steps x xs rows pending is n = rw (plain_bytes x xs n, plain_long x xs n, plain_short x xs n) refl
two_walked other x xs rows pending is n = absurd (cc)

flag_passes : (o : OptionName) (rows : List Row) (pending : Option (Text × List Text))
    → is_flag (option_row o).number ≡ true → settle_passes rules false (held rows pending) ≡ true
    → has_row (option_id o) (settled_rows rules pending rows) ≡ false → turn_passes top [] (walk_from (held rows pending)) (option_word o) ≡ true
unfolding clap_on_literals
flag_passes names.Depth rows pending is settles new = absurd (cc)
flag_passes names.Workers rows pending is settles new = absurd (cc)
flag_passes names.Steps rows pending is settles new = absurd (cc)
flag_passes other rows pending is settles new = rw (settles, new) refl

one_passes : (o : OptionName) (digits : Text) (rows : List Row) (pending : Option (Text × List Text))
    → is_flag (option_row o).number ≡ false → settle_passes rules false (held rows pending) ≡ true
    → has_row (option_id o) (settled_rows rules pending rows) ≡ false → turn_passes top [] (walk_from (held rows pending))
    (option_word o ++ codes "=" ++ digits) ≡ true
unfolding clap_on_literals
one_passes names.Depth digits rows pending is settles new = rw (settles, new) refl
one_passes names.Workers digits rows pending is settles new = rw (settles, new) refl
one_passes names.Steps digits rows pending is settles new = rw (settles, new) refl
one_passes other digits rows pending is settles new = absurd (cc)

value_passes : (o : OptionName) (rows : List Row) (pending : Option (Text × List Text))
    → is_flag (option_row o).number ≡ false → settle_passes rules false (held rows pending) ≡ true
    → turn_passes top [] (walk_from (held rows pending)) (option_word o) ≡ true
unfolding clap_on_literals
value_passes names.Depth rows pending is settles = rw settles refl
value_passes names.Workers rows pending is settles = rw settles refl
value_passes names.Steps rows pending is settles = rw settles refl
value_passes other rows pending is settles = absurd (cc)

digits_pass : (o : OptionName) (x : ℕ) (xs : Text) (rows : List Row) (pending : Option (Text × List Text))
    → is_flag (option_row o).number ≡ false → (x == 45) ≡ false
    → turn_passes top [] (walked rules [] (walk_from (held rows pending)) (option_word o)) (x ∷ xs) ≡ true
unfolding clap_on_literals
digits_pass names.Depth x xs rows pending is n = rw (plain_bytes x xs n, plain_long x xs n, plain_short x xs n) refl
digits_pass names.Workers x xs rows pending is n = rw (plain_bytes x xs n, plain_long x xs n, plain_short x xs n) refl
digits_pass names.Steps x xs rows pending is n = rw (plain_bytes x xs n, plain_long x xs n, plain_short x xs n) refl
digits_pass other x xs rows pending is n = absurd (cc)

pending_settles : (o : OptionName) (digits : Text) (rows : List Row) → is_flag (option_row o).number ≡ false → has_row (option_id o) rows ≡ false
    → settle_passes rules false (held rows (Some (option_id o, digits ∷ []))) ≡ true
pending_settles names.Depth digits rows is none = rw none refl
pending_settles names.Workers digits rows is none = rw none refl
pending_settles names.Steps digits rows is none = rw none refl
pending_settles other digits rows is none = absurd (cc)

pending_used : (o : OptionName) (digits : Text) (rows : List Row)
    → settled_rows rules (Some (option_id o, digits ∷ [])) rows ≡ used (built_rule o) (digits ∷ []) rows
pending_used names.Finite digits rows = refl
pending_used other digits rows = refl

-- ---- the walk over all the words

-- what is held behind the words of these uses
record Stands (us : List Use) (rows : List Row) (pending : Option (Text × List Text)) : Type 0 where
  settles : settle_passes rules false (held rows pending) ≡ true
  are : settled_rows rules pending rows ≡ rows_for us

-- where a walk over further uses ends
record Ends (us vs : List Use) (rows : List Row) (pending : Option (Text × List Text)) : Type 0 where
  last_rows : List Row
  last : Option (Text × List Text)
  walks : fold (walked rules []) (walk_from (held rows pending)) (words_of vs) ≡ walk_from (held last_rows last)
  passes : walk_passes top [] (walk_from (held rows pending)) (words_of vs) ≡ true
  stands : Stands (us ++ vs) last_rows last

new_row : (us : List Use) (rows : List Row) (id : Text) → rows ≡ rows_for us → has_row id (rows_for us) ≡ false → has_row id rows ≡ false
new_row us rows id e n = ap (has_row id) e ∙ n

rows_more : (us : List Use) (u : Use) (rows : List Row) → rows ≡ rows_for us → rows ++ row_for u ∷ [] ≡ rows_for (us ++ u ∷ [])
rows_more us u rows e = ap (λ r. r ++ row_for u ∷ []) e ∙ sym (map-append row_for us (u ∷ []))

-- one use, and then the others
after : (us vs : List Use) (u : Use) (words : List Text) (rows rows' : List Row) (pending pending' : Option (Text × List Text))
    → Ends (us ++ u ∷ []) vs rows' pending'
    → fold (walked rules []) (walk_from (held rows pending)) words ≡ fold (walked rules []) (walk_from (held rows' pending')) (words_of vs)
    → (walk_passes top [] (walk_from (held rows' pending')) (words_of vs) ≡ true → walk_passes top [] (walk_from (held rows pending)) words ≡ true)
    → words ≡ words_of (u ∷ vs) → Ends us (u ∷ vs) rows pending
after us vs u words rows rows' pending pending' h walks passes same = record {
  last_rows = h.last_rows;
  last = h.last;
  walks = ap (fold (walked rules []) (walk_from (held rows pending))) (sym same) ∙ walks ∙ h.walks;
  passes = ap (walk_passes top [] (walk_from (held rows pending))) (sym same) ∙ passes h.passes;
  stands = subst (λ l. Stands l h.last_rows h.last) (append_assoc us (u ∷ []) vs) h.stands;
}

both : (a b : Bool) → a ≡ true → b ≡ true → (a && b) ≡ true
both a b p q = rw (p, q) refl

walks_over : (vs us : List Use) (rows : List Row) (pending : Option (Text × List Text)) → Stands us rows pending → AreNew us vs → AreFit vs
    → Ends us vs rows pending
unfolding walk_passes
walks_over [] us rows pending h new fit =
    record { last_rows = rows; last = pending; walks = refl; passes = refl; stands = subst (λ l. Stands l rows pending) (sym (append-nil us)) h }
walks_over ((o, alone) ∷ vs) us rows pending h (new, news) (is, fit) =
    let settled = settled_rows rules pending rows in
    let none = new_row us settled (option_id o) h.are new in
    let rows' = used (built_rule o) [] settled in
    let there : Stands (us ++ (o, alone) ∷ []) rows' None =
    record { settles = refl; are = flag_used (option_row o).number (option_id o) settled is none ∙ rows_more us (o, alone) settled h.are } in
    let step = flag_walked o rows pending is in
    after us vs (o, alone) (words_of ((o, alone) ∷ vs)) rows rows' pending None (walks_over vs (us ++ (o, alone) ∷ []) rows' None there news fit)
    (ap (λ w. fold (walked rules []) w (words_of vs)) step)
    (λ rest. both _ _ (flag_passes o rows pending is h.settles none) (ap (λ w. walk_passes top [] w (words_of vs)) step ∙ rest)) refl
walks_over ((o, one digits) ∷ vs) us rows pending h (new, news) (is, fit) =
    let settled = settled_rows rules pending rows in
    let none = new_row us settled (option_id o) h.are new in
    let rows' = used (built_rule o) (digits ∷ []) settled in
    let there : Stands (us ++ (o, one digits) ∷ []) rows' None =
    record { settles = refl; are = value_used (option_row o).number (option_id o) digits settled is none ∙ rows_more us (o, one digits) settled h.are } in
    let step = one_walked o digits rows pending is in
    after us vs (o, one digits) (words_of ((o, one digits) ∷ vs)) rows rows' pending None (walks_over vs (us ++ (o, one digits) ∷ []) rows' None there news fit)
    (ap (λ w. fold (walked rules []) w (words_of vs)) step)
    (λ rest. both _ _ (one_passes o digits rows pending is h.settles none) (ap (λ w. walk_passes top [] w (words_of vs)) step ∙ rest)) refl
walks_over ((o, two digits) ∷ vs) us rows pending h (new, news) ((is, (x, xs, whole, n)), fit) =
    let settled = settled_rows rules pending rows in
    let none = new_row us settled (option_id o) h.are new in
    let pending' = Some (option_id o, (x ∷ xs) ∷ []) in
    let there : Stands (us ++ (o, two digits) ∷ []) settled pending' = record {
      settles = pending_settles o (x ∷ xs) settled is none;
      are = pending_used o (x ∷ xs) settled ∙ value_used (option_row o).number (option_id o) (x ∷ xs) settled is none
          ∙ rows_more us (o, two (x ∷ xs)) settled h.are
          ∙ ap (λ d. rows_for (us ++ (o, two d) ∷ [])) (sym whole);
    } in
    let step = two_walked o x xs rows pending is n in
    after us vs (o, two digits) (option_word o ∷ (x ∷ xs) ∷ words_of vs) rows settled pending pending'
    (walks_over vs (us ++ (o, two digits) ∷ []) settled pending' there news fit)
    (ap (λ w. fold (walked rules []) w (words_of vs)) step)
    (λ rest. both _ _ (value_passes o rows pending is h.settles)
    (both _ _ (digits_pass o x xs rows pending is n) (ap (λ w. walk_passes top [] w (words_of vs)) step ∙ rest)))
    (ap (λ d. option_word o ∷ d ∷ words_of vs) (sym whole))

-- ---- the whole parse

at_start : Stands [] [] None
at_start = record { settles = refl; are = refl }

parse_passes : (words : List Text) (rows : List Row) (pending : Option (Text × List Text))
    → fold (walked rules []) (walk_from (held [] None)) words ≡ walk_from (held rows pending)
    → walk_passes top [] (walk_from (held [] None)) words ≡ true → settle_passes rules false (held rows pending) ≡ true → takes options_app words ≡ true
unfolding options_app
parse_passes words rows pending walks passes settles = rw (walks, passes, settles) refl

-- the words of new options are taken
pub words_taken : (us : List Use) → AreNew [] us → AreFit us → takes options_app (words_of us) ≡ true
words_taken us new fit = let h = walks_over us [] [] None at_start new fit in parse_passes (words_of us) h.last_rows h.last h.walks h.passes h.stands.settles

matches_end : (us : List Use) (rows : List Row) (pending : Option (Text × List Text))
    → fold (walked rules []) (walk_from (held [] None)) (words_of us) ≡ walk_from (held rows pending)
    → settled_rows rules pending rows ≡ rows_for us → matches_of options_app (words_of us) ≡ fold with_default (rows_for us) rules
unfolding options_app
matches_end us rows pending walks are = ap (λ w. finished rules w.held) walks ∙ ap (λ r. fold with_default r rules) are

-- the matches are the rows of the uses, with the default of each flag that was not used
matches_are : (us : List Use) → AreNew [] us → AreFit us → matches_of options_app (words_of us) ≡ fold with_default (rows_for us) rules
matches_are us new fit = let h = walks_over us [] [] None at_start new fit in matches_end us h.last_rows h.last h.walks h.stands.are

-- ---- what the matches tell

-- the row of an id
abbrev pub row_at : Text → List Row → Option Row
row_at id rows = find (λ r. bytes_eq r.id id) rows

abbrev pub row_or : Option Row → Option Row → Option Row
row_or (Some r) other = Some r
row_or None other = other

row_or_none : (found : Option Row) → row_or found None ≡ found
row_or_none (Some r) = refl
row_or_none None = refl

row_append : (id : Text) (rows more : List Row) → row_at id (rows ++ more) ≡ row_or (row_at id rows) (row_at id more)
row_append id [] more = refl
row_append id (r ∷ rs) more = by (bytes_eq r.id id) refl (row_append id rs more) where
  by : (b : Bool) → bytes_eq r.id id ≡ b → row_at id (rs ++ more) ≡ row_or (row_at id rs) (row_at id more)
      → row_at id ((r ∷ rs) ++ more) ≡ row_or (row_at id (r ∷ rs)) (row_at id more)
  by true e rest = rw e refl
  by false e rest = rw e rest

-- the row of a flag that was not used
abbrev pub absent_row : Text → Row
absent_row id = record { id = id; values = codes "false" ∷ []; count = None; source = Some DefaultValue; reading = reading_by (as_flag (flag_rule id)) }

-- the row that stands at the end for an option that was not used
abbrev pub absent : Option Range → Text → Text → Option Row
absent None id wanted = row_at wanted (absent_row id ∷ [])
absent (Some range) id wanted = None

row_there : (id : Text) (rows : List Row) (other : Option Row) → has_row id rows ≡ true → row_at id rows ≡ row_or (row_at id rows) other
row_there id [] other there = absurd (cc)
row_there id (r ∷ rs) other there = by (bytes_eq r.id id) refl (row_there id rs other) where
  by : (b : Bool) → bytes_eq r.id id ≡ b → (has_row id rs ≡ true → row_at id rs ≡ row_or (row_at id rs) other)
      → row_at id (r ∷ rs) ≡ row_or (row_at id (r ∷ rs)) other
  by true e rest = rw e refl
  by false e rest = rw e (rest (sym (ap (λ t. t || has_row id rs) e) ∙ there))

flag_row_at : (id wanted : Text) (rows : List Row) (b : Bool)
    → has_row id rows ≡ b → row_at wanted (with_default rows (as_flag (flag_rule id))) ≡ row_or (row_at wanted rows) (absent None id wanted)
flag_row_at id wanted rows false e = rw e
    (ap (row_at wanted) (new_at id (more_values DefaultValue (codes "false" ∷ [])) (absent_row id ∷ []) rows e) ∙ row_append wanted rows (absent_row id ∷ []))
flag_row_at id wanted rows true e = rw e (by (bytes_eq id wanted) refl) where
  by : (b : Bool) → bytes_eq id wanted ≡ b → row_at wanted rows ≡ row_or (row_at wanted rows) (absent None id wanted)
  by true same = row_there wanted rows (absent None id wanted) (ap (λ i. has_row i rows) (sym ((bytes_eq-Decides id wanted).0 same)) ∙ e)
  by false same = rw same (sym (row_or_none (row_at wanted rows)))

value_row_at : (id : Text) (rows : List Row) (b : Bool) → has_row id rows ≡ b → with_default rows (as_value (value_rule id)) ≡ rows
value_row_at id rows true e = rw e refl
value_row_at id rows false e = rw e refl

default_row_at : (number : Option Range) (id wanted : Text) (rows : List Row)
    → row_at wanted (with_default rows (built_with number id)) ≡ row_or (row_at wanted rows) (absent number id wanted)
default_row_at None id wanted rows = flag_row_at id wanted rows (has_row id rows) refl
default_row_at (Some range) id wanted rows = ap (row_at wanted) (value_row_at id rows (has_row id rows) refl) ∙ sym (row_or_none (row_at wanted rows))

abbrev with_absent : Text → Option Row → OptionName → Option Row
with_absent wanted found o = row_or found (absent (option_row o).number (option_id o) wanted)

rows_end : (os : List OptionName) (wanted : Text) (rows : List Row)
    → row_at wanted (fold with_default rows (map built_rule os)) ≡ fold (with_absent wanted) (row_at wanted rows) os
rows_end [] wanted rows = refl
rows_end (o ∷ os) wanted rows =
    rows_end os wanted (with_default rows (built_rule o))
    ∙ ap (λ found. fold (with_absent wanted) found os) (default_row_at (option_row o).number (option_id o) wanted rows)

-- the row that stands at the end for the option, where it was not used
abbrev pub absent_of : Option Range → Text → Option Row
absent_of None id = Some (absent_row id)
absent_of (Some range) id = None

own_absent : (o : OptionName) (found : Option Row)
    → fold (with_absent (option_id o)) found all_options ≡ row_or found (absent_of (option_row o).number (option_id o))
own_absent o (Some r) = refl
own_absent names.Finite None = refl
own_absent names.Depth None = refl
own_absent names.Cert None = refl
own_absent names.Core None = refl
own_absent names.Workers None = refl
own_absent names.Check None = refl
own_absent names.Steps None = refl
own_absent names.Progress None = refl

-- the row of each option: that of its use, and else the flag's default
pub row_matched : (us : List Use) (o : OptionName) → AreNew [] us → AreFit us
    → row_at (option_id o) (matches_of options_app (words_of us)) ≡ row_or (row_at (option_id o) (rows_for us)) (absent_of (option_row o).number (option_id o))
row_matched us o new fit =
    ap (row_at (option_id o)) (matches_are us new fit) ∙ rows_end all_options (option_id o) (rows_for us) ∙ own_absent o (row_at (option_id o) (rows_for us))
