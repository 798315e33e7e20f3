-- Which settings words say, read from the front.
use Rattle.std.proofs.Common.{◌≡◌, ◌≢◌, ◌∙◌, ℕ, ◌≤◌, ◌-◌, ◌==◌, ◌||◌, Bool, true, false, inl, inr, List, [], ◌∷◌, ◌++◌, codes, Option, Some, None, All, refl}
use Rattle.std.proofs.Common.{sym, ap, ap₂, subst, append_assoc, append-nil, length, get_or, arith, length-append, map, take, drop, take_all, MatchOption}
use Rattle.std.proofs.lemmas.List.Elements.{All-nil, All-cons, All-head, All-tail, All-push}
use Rattle.std.proofs.lemmas.List.{get_or_append_left, get_or_at}
use Rattle.std.proofs.lemmas.List.Quantifiers.{all_pairs_push}
use Rattle.std.proofs.lemmas.Slice.Eq.{bytes_eq-Decides}
use Rattle.command_words.specs.declared.table.Range.{Range}
use Rattle.command_words.specs.declared.table.OptionName.{OptionName}
use Rattle.command_words.specs.declared.table.OptionName.TheVariants as names
use Rattle.command_words.specs.declared.options.Seen.{Seen}
use Rattle.command_words.specs.Table.{option_row, option_word, same_option, has_option}
use Rattle.command_words.specs.Words.{Setting, Says, SayAll, Once, IsAmong, IsNumberIn, IsNumberOf, name, stands}
use Rattle.command_words.specs.Said.{SayOnce, SomeAreSaid, NoneAreSaid, is_seen, with_seen, SaysFirst, SaysNothing, AreRoundEquals, GoesOn, IsApart}
use Rattle.command_words.proofs.OneCommand.{false_not_true, apart, no_equals, has_equals, before_equals, before_joined, joined_equals, Form, alone, two, one}
use Rattle.command_words.proofs.OneCommand.{form, form_option, first_one, says_some, not_joined, same_behind}

-- ---- a further setting

said_more : (cs : List Setting) (c : Setting) (front more : List (List ℕ)) → SayAll cs front → Says c more → SayAll (cs ++ c ∷ []) (front ++ more)
said_more [] c front more e says = (more, [], ap (λ ws. ws ++ more) e ∙ sym (append-nil more), says, refl)
said_more (d ∷ ds) c words more (front, back, whole, says, rest) last =
    (front, back ++ more, ap (λ ws. ws ++ more) whole ∙ append_assoc front back more, says, said_more ds c back more rest last)

-- what is said behind the words that say these settings
said_behind : (cs ds : List Setting) (front rest : List (List ℕ)) → SayAll cs front → SayAll ds (front ++ rest)
    → (es : List Setting) × (ds ≡ cs ++ es) × SayAll es rest
said_behind [] ds front rest e all = (ds, refl, let P : List (List ℕ) → Type 0 = λ ws. SayAll ds (ws ++ rest) in subst P e all)
said_behind (c ∷ cs) [] front rest (first, back, whole, says, more) e =
    absurd (nothing first (sym (ap (λ ws. ws ++ rest) whole ∙ append_assoc first back rest) ∙ e) says) where
      nothing : (ws : List (List ℕ)) → ws ++ (back ++ rest) ≡ [] → Says c ws → ⊥
      nothing [] empty is = says_some c is
      nothing (w ∷ ws) empty is = cc
said_behind (c ∷ cs) (d ∷ ds) front rest (first, back, whole, says, more) (first', back', whole', says', more') =
    let same : first ++ (back ++ rest) ≡ first' ++ back' = sym (ap (λ ws. ws ++ rest) whole ∙ append_assoc first back rest) ∙ whole' in
    let one = first_one c d first (back ++ rest) first' back' says says' same in
    let r = said_behind cs ds back rest more (let P : List (List ℕ) → Type 0 = λ ws. SayAll ds ws in subst P (sym one.1) more') in
    (r.0, cc, r.2)

-- ---- the options that stand there

none_once : Once []
none_once i j d before within = absurd (omega (arith, within))

once_more : (cs : List Setting) (c : Setting) → Once cs → All (λ d. name d ≢ name c) cs → Once (cs ++ c ∷ [])
once_more cs c once new = all_pairs_push (λ a b. name a ≢ name b) cs c once new

-- a setting that stands behind these is none of them
pub new_behind : (cs es : List Setting) (e : Setting) → Once (cs ++ e ∷ es) → All (λ c. name c ≢ name e) cs
new_behind cs es e once k d within =
    let place : get_or (cs ++ e ∷ es) k d ≡ get_or cs k d = get_or_append_left cs (e ∷ es) d k within in
    let last : get_or (cs ++ e ∷ es) (length cs) d ≡ e = get_or_at cs e es d (length cs) refl in
    let size = length-append cs (e ∷ es) in
    let apart_there = once k (length cs) d within (omega (arith, size)) in
    λ same. apart_there (ap name place ∙ same ∙ sym (ap name last))

not_standing : (o : OptionName) (cs : List Setting) → stands o cs ≡ false → All (λ c. name c ≢ option_word o) cs
not_standing o [] n = All-nil (λ c. name c ≢ option_word o)
not_standing o (c ∷ cs) n = by (same_option c.option o) refl (not_standing o cs) where
  by : (b : Bool) → same_option c.option o ≡ b → (stands o cs ≡ false → All (λ c. name c ≢ option_word o) cs) → All (λ c. name c ≢ option_word o) (c ∷ cs)
  by true e rest = let there : stands o (c ∷ cs) ≡ true = rw e refl in absurd (false_not_true (sym n ∙ there))
  by false e rest = let same : stands o (c ∷ cs) ≡ stands o cs = rw e refl in
      All-cons (λ c. name c ≢ option_word o) c cs (apart (name c) (option_word o) e) (rest (sym same ∙ n))

standing : (o : OptionName) (cs : List Setting) → stands o cs ≡ true → All (λ c. name c ≢ option_word o) cs → ⊥
standing o [] s new = false_not_true s
standing o (c ∷ cs) s new = by (same_option c.option o) refl (standing o cs) where
  by : (b : Bool) → same_option c.option o ≡ b → (stands o cs ≡ true → All (λ c. name c ≢ option_word o) cs → ⊥) → ⊥
  by true e rest = All-head (λ c. name c ≢ option_word o) c cs new ((bytes_eq-Decides (name c) (option_word o)).0 e)
  by false e rest = let same : stands o (c ∷ cs) ≡ stands o cs = rw e refl in rest (sym same ∙ s) (All-tail (λ c. name c ≢ option_word o) c cs new)

stands_more : (o : OptionName) (cs : List Setting) (c : Setting) → stands o (cs ++ c ∷ []) ≡ (same_option c.option o || stands o cs)
stands_more o [] c = by (same_option c.option o) refl where
  by : (b : Bool) → same_option c.option o ≡ b → stands o (c ∷ []) ≡ (same_option c.option o || false)
  by true e = rw e refl
  by false e = rw e refl
stands_more o (d ∷ ds) c = by (same_option d.option o) refl (same_option c.option o) (stands_more o ds c) where
  by : (b : Bool) → same_option d.option o ≡ b → (s : Bool) → stands o (ds ++ c ∷ []) ≡ (s || stands o ds)
      → stands o ((d ∷ ds) ++ c ∷ []) ≡ (s || stands o (d ∷ ds))
  by true e true rest = rw e refl
  by true e false rest = rw e refl
  by false e s rest = rw e rest

seen_more : (seen : Seen) (o p : OptionName) → is_seen (with_seen seen o) p ≡ (same_option o p || is_seen seen p)
seen_more seen o names.Finite = refl
seen_more seen o other = refl

-- ---- reading on

-- the words before these are settings of options that are offered, and these options were seen
pub record IsSaidBefore (offers : List OptionName) (words rest : List (List ℕ)) (seen : Seen) : Type 0 where
  pub front : List (List ℕ)
  pub whole : words ≡ front ++ rest
  pub settings : List Setting
  pub said : SayOnce settings front
  pub among : All (IsAmong offers) settings
  pub seen_are : (o : OptionName) → is_seen seen o ≡ stands o settings

none_seen : (o : OptionName)
    → is_seen (record { finite = false; depth = false; cert = false; core = false; workers = false; check = false; steps = false; progress = false }) o ≡ false
none_seen names.Finite = refl
none_seen other = refl

pub said_at_first : (offers : List OptionName) (words : List (List ℕ)) → IsSaidBefore offers words words
    (record { finite = false; depth = false; cert = false; core = false; workers = false; check = false; steps = false; progress = false })
said_at_first offers words =
    record { front = []; whole = refl; settings = []; said = (refl, none_once); among = All-nil (IsAmong offers); seen_are = none_seen }

pub said_at_last : (offers : List OptionName) (words rest : List (List ℕ)) (seen : Seen) → IsSaidBefore offers words rest seen
    → rest ≡ [] → SomeAreSaid offers words
said_at_last offers words rest seen h e =
    let same : words ≡ h.front = h.whole ∙ ap (λ ws. h.front ++ ws) e ∙ append-nil h.front in
    (h.settings, ((let P : List (List ℕ) → Type 0 = λ ws. SayAll h.settings ws in subst P (sym same) h.said.0), h.said.1, h.among))

pub said_next : (offers : List OptionName) (words rest behind : List (List ℕ)) (seen : Seen) (option : OptionName) → IsSaidBefore offers words rest seen
    → SaysFirst rest option behind
    → has_option offers option ≡ true → is_seen seen option ≡ false → IsSaidBefore offers words behind (with_seen seen option)
said_next offers words rest behind seen option h first offered new =
    let c : Setting = record { option = option; number = first.number } in
    record {
      front = h.front ++ first.front;
      whole = h.whole ∙ ap (λ ws. h.front ++ ws) first.whole ∙ sym (append_assoc h.front first.front behind);
      settings = h.settings ++ c ∷ [];
      said = (
        said_more h.settings c h.front first.front h.said.0 first.says,
        once_more h.settings c h.said.1 (not_standing option h.settings (sym (h.seen_are option) ∙ new)),
      );
      among = All-push (IsAmong offers) h.settings c h.among offered;
      seen_are = λ o. seen_more seen option o ∙ ap (λ t. same_option option o || t) (h.seen_are o) ∙ sym (stands_more o h.settings c);
    }

-- ---- words that are not taken

-- another reading of the words goes on behind those that were read
behind_read : (offers : List OptionName) (words rest : List (List ℕ)) (seen : Seen) (h : IsSaidBefore offers words rest seen) (settings : List Setting)
    → SayAll settings words → (es : List Setting) × (settings ≡ h.settings ++ es) × SayAll es rest
behind_read offers words rest seen h settings all =
    said_behind h.settings settings h.front rest h.said.0 (let P : List (List ℕ) → Type 0 = λ ws. SayAll settings ws in subst P h.whole all)

pub none_behind : (offers : List OptionName) (words rest : List (List ℕ)) (seen : Seen) → IsSaidBefore offers words rest seen → rest ≢ [] → SaysNothing rest
    → NoneAreSaid offers words
none_behind offers words rest seen h some nothing settings (all, once, among) =
    let r = behind_read offers words rest seen h settings all in stop r.0 r.2 where
      stop : (es : List Setting) → SayAll es rest → ⊥
      stop [] e = some e
      stop (c ∷ cs) (front, back, whole, says, more) = nothing c front back says whole

-- the first of the settings that are read on is of the option that the first words say
record IsNext (option : OptionName) (es : List Setting) : Type 0 where
  next : Setting
  more : List Setting
  whole : es ≡ next ∷ more
  is : next.option ≡ option

next_read : (rest behind : List (List ℕ)) (option : OptionName) (es : List Setting) → SaysFirst rest option behind → SayAll es rest → IsNext option es
next_read rest behind option [] first e = absurd (empty first.front (sym first.whole ∙ e) first.says) where
  empty : (ws : List (List ℕ)) → ws ++ behind ≡ [] → Says (record { option = option; number = first.number }) ws → ⊥
  empty [] x says = says_some (record { option = option; number = first.number }) says
  empty (w ∷ ws) x says = cc
next_read rest behind option (c ∷ cs) first (front, back, whole, says, more) =
    let it = first_one c (record { option = option; number = first.number }) front back first.front behind says first.says (sym whole ∙ first.whole) in
    record { next = c; more = cs; whole = refl; is = ap (λ s. s.option) it.0 }

all_behind : (P : Setting → Type 0) (cs es : List Setting) → All P (cs ++ es) → All P es
all_behind P [] es all = all
all_behind P (c ∷ cs) es all = all_behind P cs es (All-tail P c (cs ++ es) all)

pub other_behind : (offers : List OptionName) (words rest behind : List (List ℕ)) (seen : Seen) (option : OptionName) → IsSaidBefore offers words rest seen
    → SaysFirst rest option behind
    → has_option offers option ≡ false → NoneAreSaid offers words
other_behind offers words rest behind seen option h first other settings (all, once, among) =
    let r = behind_read offers words rest seen h settings all in
    let n = next_read rest behind option r.0 first r.2 in
    let there = all_behind (IsAmong offers) h.settings (n.next ∷ n.more) (subst (All (IsAmong offers)) (r.1 ∙ ap (λ es. h.settings ++ es) n.whole) among) in
    false_not_true (sym other ∙ ap (has_option offers) (sym n.is) ∙ All-head (IsAmong offers) n.next n.more there)

pub repeated_behind : (offers : List OptionName) (words rest behind : List (List ℕ)) (seen : Seen) (option : OptionName) → IsSaidBefore offers words rest seen
    → SaysFirst rest option behind
    → is_seen seen option ≡ true → NoneAreSaid offers words
repeated_behind offers words rest behind seen option h first there settings (all, once, among) =
    let r = behind_read offers words rest seen h settings all in
    let n = next_read rest behind option r.0 first r.2 in
    let new = new_behind h.settings n.more n.next (subst Once (r.1 ∙ ap (λ es. h.settings ++ es) n.whole) once) in
    standing option h.settings (sym (h.seen_are option) ∙ there) (subst (λ o. All (λ c. name c ≢ option_word o) h.settings) n.is new)

pub some_words : {X : Type 0} (bytes : X → List ℕ) (words : List X) (tested : Bool) → tested ≡ (length words == 0) → tested ≡ false → map bytes words ≢ []
some_words bytes [] tested is none = let f : true ≡ false = sym is ∙ none in absurd (cc)
some_words bytes (w ∷ ws) tested is none = λ e. cc

-- ---- the first words

pub empty_says_nothing : SaysNothing []
empty_says_nothing c [] behind says whole = says_some c says
empty_says_nothing c (w ∷ ws) behind says whole = cc

-- a first word, and the words behind it
pub first_word : {X : Type 0} (bytes : X → List ℕ) (words : List X) (w : X) → 1 ≤ length words → w ≡ get_or words 0 w
    → map bytes words ≡ bytes w ∷ map bytes (take (length words - 1) (drop 1 words))
first_word bytes [] w some is = absurd (omega (arith, some))
first_word bytes (x ∷ xs) w some is =
    let whole : take (length (x ∷ xs) - 1) xs ≡ xs = take_all (length (x ∷ xs) - 1) xs (omega arith) in
    ap₂ (λ v vs. bytes v ∷ map bytes vs) (sym is) (sym whole)

joined_text : (word digits : List ℕ) → word ++ codes "=" ++ digits ≡ word ++ 61 ∷ digits
joined_text word digits = append_assoc word (codes "=") digits

-- an option's word and number round = say the option
pub joined_first : (words more : List (List ℕ)) (first word digits : List ℕ) (option : OptionName)
    → words ≡ first ∷ more → first ≡ word ++ 61 ∷ digits → AreRoundEquals word digits option → SaysFirst words option more
joined_first words more first word digits option whole is (named, (n, number)) = by (option_row option).number refl number where
  by : (range : Option Range) → (option_row option).number ≡ range → IsNumberOf range digits n → SaysFirst words option more
  by None e number = absurd number
  by (Some range) e number = record {
    number = Some n;
    front = first ∷ [];
    whole = whole;
    says = rw e (digits, number, inr (ap (λ w. w ∷ []) (is ∙ ap (λ w. w ++ 61 ∷ digits) named ∙ sym (joined_text (option_word option) digits))));
  }

-- the number behind the first = is the option's
joined_form : (option first digits : List ℕ) (more behind : List (List ℕ)) (range : Option Range) (number : Option ℕ)
    → has_equals option ≡ false → first ≡ option ++ 61 ∷ digits
    → Form option first more behind range number → (n : ℕ) × IsNumberOf range digits n
joined_form option first digits more behind range number lacks is (alone named back) =
    absurd (not_joined option digits lacks (sym named ∙ is ∙ sym (joined_text option digits)))
joined_form option first digits more behind range number lacks is (two r d n num named back) =
    absurd (not_joined option digits lacks (sym named ∙ is ∙ sym (joined_text option digits)))
joined_form option first digits more behind range number lacks is (one r d n num named back) =
    let same : d ≡ digits = same_behind (option ++ codes "=") d digits (sym named ∙ is ∙ sym (joined_text option digits)) in
    (n, subst (λ t. IsNumberIn r t n) same num)

-- no option's word and number stand round the first =
pub joined_nothing : (words more : List (List ℕ)) (first word digits : List ℕ) → words ≡ first ∷ more → first ≡ word ++ 61 ∷ digits → has_equals word ≡ false
    → ((option : OptionName) → AreRoundEquals word digits option → ⊥) → SaysNothing words
joined_nothing words more first word digits whole is lacks none c front behind says same =
    let f = form (name c) first (option_row c.option).number c.number front behind more says (sym same ∙ whole) in
    let named : word ≡ name c =
    sym (ap before_equals (is ∙ sym (joined_text word digits)) ∙ before_joined word digits lacks) ∙ form_option c first more behind f in
    none c.option
    (named, joined_form (name c) first digits more behind (option_row c.option).number c.number (no_equals c.option) (is ∙ ap (λ w. w ++ 61 ∷ digits) named) f)

-- an option's word, and its number behind it, say the option
pub apart_first : (words more behind : List (List ℕ)) (word : List ℕ) (option : OptionName) → words ≡ word ∷ more → IsApart word more option behind
    → SaysFirst words option behind
apart_first words more behind word option whole (named, goes) = by (option_row option).number refl goes where
  by : (range : Option Range) → (option_row option).number ≡ range → GoesOn range more behind → SaysFirst words option behind
  by None e same = record { number = None; front = word ∷ []; whole = whole ∙ ap (λ m. word ∷ m) same; says = rw e (ap (λ w. w ∷ []) named) }
  by (Some range) e (digits, n, number, same) = record {
    number = Some n;
    front = word ∷ digits ∷ [];
    whole = whole ∙ ap (λ m. word ∷ m) same;
    says = rw e (digits, number, inl (ap (λ w. w ∷ digits ∷ []) named));
  }

apart_form : (option word : List ℕ) (more behind : List (List ℕ)) (range : Option Range) (number : Option ℕ)
    → has_equals word ≡ false → Form option word more behind range number → (word ≡ option) × GoesOn range more behind
apart_form option word more behind range number lacks (alone named back) = (named, back)
apart_form option word more behind range number lacks (two r digits n num named back) = (named, (digits, n, num, back))
apart_form option word more behind range number lacks (one r digits n num named back) =
    absurd (false_not_true (sym lacks ∙ ap has_equals named ∙ joined_equals option digits))

-- the word is no option's whose number follows
pub apart_nothing : (words more : List (List ℕ)) (word : List ℕ)
    → words ≡ word ∷ more → has_equals word ≡ false → ((option : OptionName) (behind : List (List ℕ)) → IsApart word more option behind → ⊥) → SaysNothing words
apart_nothing words more word whole lacks none c front behind says same =
    none c.option behind (apart_form (name c) word more behind (option_row c.option).number c.number lacks
    (form (name c) word (option_row c.option).number c.number front behind more says (sym same ∙ whole)))

pub match_weaker : {X : Type 0} (o : Option X) (P P' : Type 0) (Q Q' : X → Type 0) → (P → P') → ((x : X) → Q x → Q' x) → MatchOption o P Q → MatchOption o P' Q'
match_weaker None P P' Q Q' f g h = f h
match_weaker (Some x) P P' Q Q' f g h = g x h
