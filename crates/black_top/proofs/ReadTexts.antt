-- What is read as JSON has strings that are text, and so the names of a trace that is read are text.
use Rattle.std.proofs.Common.{◌≡◌, ℕ, zero, suc, ◌+◌, ◌-◌, ◌%◌, ◌<◌, nat_lt, nat_eq, ◌==◌, ◌&&◌, inl, inr, Bool, true, false, cond, if◌then◌else◌, List}
use Rattle.std.proofs.Common.{[], ◌∷◌, length, get_or, drop, map, Option, Some, None, IsUtf8, Contains, Ordering, Less, Equal, Greater, refl, ap, subst, arith}
use Rattle.std.specs.Prelude.{option_map, option_and_then, ⊤}
use Rattle.std.specs.Ordering.{nat_cmp, match_ordering}
use Rattle.std.specs.Cmp.Lexicographic.{slice_cmp}
use Rattle.std.proofs.lemmas.Bool.{eqb-true}
use Rattle.std.proofs.lemmas.Str.{IsUtf8-drop, IsCharBoundary-after_ascii}
use Rattle.json.specs.Token.{Token, begin_object, end_object, begin_array, end_array, key, string, number, boolean, null, bad}
use Rattle.json.specs.Text.{content, plain}
use Rattle.json.specs.Ascii as ascii
use Rattle.json.specs.Word.{head, ends_word, word, literal, number_before, after_number}
use Rattle.std.specs.List.{starts_with}
use Rattle.json.specs.Lex.{Lexeme, token, comma, colon, Class, quote, backslash, operator, space, other, class, operator_lexeme, string_token, Mode}
use Rattle.json.specs.Lex.{between, in_word, in_string, in_escape, lex_byte, lex, Place, fresh, after_value, after_comma, after_key, begins_colon}
use Rattle.json.specs.Lex.{may_begin, may_close, if_allowed, place_token, punctuate, tokens}
use Rattle.json.specs.Json as json
use Rattle.json.specs.Json.{Parse, parse_map, after_end_array, read_key, items_step, members_step, items, members, value_with, value, if_last}
use Rattle.serde_json.specs.Data as values
use Rattle.serde_json.specs.Data.{put}
use Rattle.serde_json.specs.View.{items_of}
use Rattle.serde_json.specs.Read.{of_json, of_items, of_members, number_of, read, max_depth}
use Rattle.ltl_word.specs.declared.trace.Trace.{Trace}
use Rattle.ltl_word.specs.declared.trace.Trace.TheVariants.{Infinite, Finite}
use Rattle.ltl_word.specs.Trace.{Names, state_at}
use Rattle.ltl_word.specs.Json.{state_data, trace_data, IsJson}
use Rattle.ltl_word.proofs.Sets.{first_or_later, no_member}
use Rattle.black_top.proofs.StringTexts.{content_text, then_some}

-- ---- lexemes

-- a string token is text
abbrev TokenText : Token → Type 0
TokenText (string s) = IsUtf8 s
TokenText (key s) = ⊤
TokenText begin_object = ⊤
TokenText end_object = ⊤
TokenText begin_array = ⊤
TokenText end_array = ⊤
TokenText (number s) = ⊤
TokenText (boolean b) = ⊤
TokenText null = ⊤
TokenText bad = ⊤

record IsTextToken (t : Token) : Type 0 where
  text : TokenText t

abbrev LexemeText : Lexeme → Type 0
LexemeText (token t) = TokenText t
LexemeText comma = ⊤
LexemeText colon = ⊤

record IsTextLexeme (l : Lexeme) : Type 0 where
  text : LexemeText l

abbrev LexemesText : List Lexeme → Type 0
LexemesText [] = ⊤
LexemesText (l ∷ ls) = LexemeText l × LexemesText ls

abbrev TokensText : List Token → Type 0
TokensText [] = ⊤
TokensText (t ∷ ts) = TokenText t × TokensText ts

either : {A : Type 0} (P : A → Type 0) (b : Bool) (x y : A) → P x → P y → P (cond b x y)
either P true x y p q = p
either P false x y p q = q

number_text : (xs : List ℕ) (rest : Option (List ℕ)) → IsTextToken (number_before xs rest)
number_text xs None = record { text = tt }
number_text xs (Some rest) = either IsTextToken _ (number _) bad (record { text = tt }) (record { text = tt })

literal_text : (name : List ℕ) (t : Token) (xs : List ℕ) → TokenText t → IsTextToken (literal name t xs)
literal_text name t xs own =
    either IsTextToken (starts_with nat_eq xs name && ends_word (drop (length name) xs)) t bad (record { text = own }) (record { text = tt })

word_text : (xs : List ℕ) → IsTextToken (word xs)
unfolding word
word_text xs =
    either IsTextToken (head xs == 116) _ _ (literal_text ascii.true_text (boolean true) xs tt)
    (either IsTextToken (head xs == 102) _ _ (literal_text ascii.false_text (boolean false) xs tt)
    (either IsTextToken (head xs == 110) _ _ (literal_text ascii.null_text null xs tt) (number_text xs (after_number xs))))

operator_text : (x : ℕ) → IsTextLexeme (operator_lexeme x)
operator_text x =
    let own : (t : Token) → TokenText t → IsTextLexeme (token t) = λ t h. record { text = h } in
    either IsTextLexeme _ _ _ (own begin_object tt) (either IsTextLexeme _ _ _ (own end_object tt) (either IsTextLexeme _ _ _ (own begin_array tt)
    (either IsTextLexeme _ _ _ (own end_array tt) (either IsTextLexeme _ comma colon (record { text = tt }) (record { text = tt })))))

string_text : (o : Option (List ℕ)) → ((s : List ℕ) → o ≡ Some s → IsUtf8 s) → TokenText (string_token o)
string_text None each = tt
string_text (Some s) each = each s refl

class_quote : (x : ℕ) → class x ≡ quote → x ≡ 34
class_quote x e = eqb-true x 34 (go _ _ _ _ e)
  where
    go : (a b c d : Bool) → cond a quote (cond b backslash (cond c operator (cond d space other))) ≡ quote → a ≡ true
    go true b c d e = refl
    go false true c d e = cc
    go false false true d e = cc
    go false false false true e = cc
    go false false false false e = cc

byte_text : (m : Mode) (c : Class) (x : ℕ) (xs : List ℕ) → (c ≡ quote → IsUtf8 xs) → ((next : Mode) → LexemesText (lex next xs))
    → LexemesText (lex_byte m c x xs (λ next. lex next xs))
byte_text between quote x xs text more = (string_text (content plain xs) (λ s e. content_text xs s (text refl) e), more in_string)
byte_text between backslash x xs text more = (tt, more in_word)
byte_text between operator x xs text more = let own = operator_text x in (own.text, more between)
byte_text between space x xs text more = more between
byte_text between other x xs text more = let own = word_text (x ∷ xs) in (own.text, more in_word)
byte_text in_word quote x xs text more = more in_word
byte_text in_word backslash x xs text more = more in_word
byte_text in_word operator x xs text more = let own = operator_text x in (own.text, more between)
byte_text in_word space x xs text more = more between
byte_text in_word other x xs text more = more in_word
byte_text in_string quote x xs text more = more between
byte_text in_string backslash x xs text more = more in_escape
byte_text in_string operator x xs text more = more in_string
byte_text in_string space x xs text more = more in_string
byte_text in_string other x xs text more = more in_string
byte_text in_escape c x xs text more = more in_string

-- ---- what is left of a text

record IsAt (whole : List ℕ) (i x : ℕ) (xs : List ℕ) : Type 0 where
  within : i < length whole
  byte : get_or whole i 0 ≡ x
  behind : drop (suc i) whole ≡ xs

is_at : (whole : List ℕ) (i x : ℕ) (xs : List ℕ) → drop i whole ≡ x ∷ xs → IsAt whole i x xs
is_at [] zero x xs e = cc
is_at [] (suc i) x xs e = cc
is_at (y ∷ whole) zero x xs e = record { within = omega arith; byte = cc; behind = cc }
is_at (y ∷ whole) (suc i) x xs e =
    let at = is_at whole i x xs e in
    let low = at.within in
    record { within = omega (arith, low); byte = at.byte; behind = at.behind }

after_ascii : (whole : List ℕ) (i : ℕ) → IsUtf8 whole → i < length whole → get_or whole i 0 < 128 → IsUtf8 (drop (suc i) whole)
after_ascii whole i text within low =
    let next : i + 1 ≡ suc i = omega arith in
    subst (λ n. IsUtf8 (drop n whole)) next (IsUtf8-drop whole (i + 1) text (IsCharBoundary-after_ascii whole i text within low))

module _ (whole : List ℕ) (text : IsUtf8 whole) where
  lexed : (xs : List ℕ) (i : ℕ) → drop i whole ≡ xs → (m : Mode) → LexemesText (lex m xs)
  unfolding lex
  lexed [] i is m = tt
  lexed (x ∷ xs) i is m =
      let at = is_at whole i x xs is in
      let byte = at.byte in
      byte_text m (class x) x xs (λ e. let quoted = class_quote x e in
      subst IsUtf8 at.behind (after_ascii whole i text at.within (omega (arith, byte, quoted))))
      (lexed xs (suc i) at.behind)

-- ---- tokens

allowed : (b : Bool) (t : Token) (k : Place → List Token) (next : Place) → TokenText t → TokensText (k next) → TokensText (if_allowed b t k next)
allowed true t k next own more = (own, more)
allowed false t k next own more = (tt, tt)

placed : (p : Place) (t : Token) (b : Bool) (k : Place → List Token) → TokenText t → ((next : Place) → TokensText (k next)) → TokensText (place_token p t b k)
placed p begin_object b k own more = allowed (may_begin p) begin_object k fresh tt (more fresh)
placed p end_object b k own more = allowed (may_close p) end_object k after_value tt (more after_value)
placed p begin_array b k own more = allowed (may_begin p) begin_array k fresh tt (more fresh)
placed p end_array b k own more = allowed (may_close p) end_array k after_value tt (more after_value)
placed p (key s) b k own more = (tt, tt)
placed p (string s) true k own more = allowed (may_begin p) (key s) k after_key tt (more after_key)
placed p (string s) false k own more = allowed (may_begin p) (string s) k after_value own (more after_value)
placed p (number s) b k own more = allowed (may_begin p) (number s) k after_value tt (more after_value)
placed p (boolean c) b k own more = allowed (may_begin p) (boolean c) k after_value tt (more after_value)
placed p null b k own more = allowed (may_begin p) null k after_value tt (more after_value)
placed p bad b k own more = (tt, tt)

punctuated : (ls : List Lexeme) → LexemesText ls → (p : Place) → TokensText (punctuate p ls)
unfolding punctuate
punctuated [] own fresh = tt
punctuated [] own after_value = tt
punctuated [] own after_comma = (tt, tt)
punctuated [] own after_key = (tt, tt)
punctuated (token t ∷ ls) own fresh = placed fresh t (begins_colon ls) (λ next. punctuate next ls) own.0 (punctuated ls own.1)
punctuated (token t ∷ ls) own after_value = placed after_value t (begins_colon ls) (λ next. punctuate next ls) own.0 (punctuated ls own.1)
punctuated (token t ∷ ls) own after_comma = placed after_comma t (begins_colon ls) (λ next. punctuate next ls) own.0 (punctuated ls own.1)
punctuated (token t ∷ ls) own after_key = placed after_key t (begins_colon ls) (λ next. punctuate next ls) own.0 (punctuated ls own.1)
punctuated (comma ∷ ls) own fresh = (tt, tt)
punctuated (comma ∷ ls) own after_value = punctuated ls own.1 after_comma
punctuated (comma ∷ ls) own after_comma = (tt, tt)
punctuated (comma ∷ ls) own after_key = (tt, tt)
punctuated (colon ∷ ls) own fresh = (tt, tt)
punctuated (colon ∷ ls) own after_value = (tt, tt)
punctuated (colon ∷ ls) own after_comma = (tt, tt)
punctuated (colon ∷ ls) own after_key = punctuated ls own.1 fresh

tokens_text : (whole : List ℕ) → IsUtf8 whole → TokensText (tokens whole)
tokens_text whole text = punctuated (lex between whole) (lexed whole text whole 0 refl between) fresh

-- ---- what is parsed

abbrev mutual
  JsonText : json.Json → Type 0
  JsonText json.null = ⊤
  JsonText (json.boolean b) = ⊤
  JsonText (json.number s) = ⊤
  JsonText (json.string s) = IsUtf8 s
  JsonText (json.array js) = ItemsText js
  JsonText (json.object ms) = MembersText ms

  ItemsText : json.Items → Type 0
  ItemsText json.no_items = ⊤
  ItemsText (json.item j js) = JsonText j × ItemsText js

  MembersText : json.Members → Type 0
  MembersText json.no_members = ⊤
  MembersText (json.member k j ms) = JsonText j × MembersText ms

-- it is of text, and so is what is left
abbrev Parses : {A : Type 0} → (A → Type 0) → Parse A → Type 0
Parses {A} P parse = (ts : List Token) (r : A × List Token) → TokensText ts → parse ts ≡ Some r → P r.0 × TokensText r.1

mapped : {A B : Type 0} (f : A → B) (o : Option A) (out : B) → option_map f o ≡ Some out → (a : A) × (o ≡ Some a) × (f a ≡ out)
mapped f None out e = cc
mapped f (Some a) out e = (a, refl, cc)

some_same : {A : Type 0} (x y : A) → ◌≡◌ {A = Option A} (Some x) (Some y) → x ≡ y
some_same x y e = cc

end_text : (ts rest : List Token) → TokensText ts → after_end_array ts ≡ Some rest → TokensText rest
end_text [] rest own e = cc
end_text (end_array ∷ ts) rest own e = subst TokensText (some_same ts rest e) own.1
end_text (t ∷ ts) rest own e = cc

key_text : (ts : List Token) (r : Option (List ℕ) × List Token) → TokensText ts → read_key ts ≡ Some r → TokensText r.1
key_text [] r own e = cc
key_text (end_object ∷ ts) r own e = subst TokensText (ap (λ p. p.1) (some_same (None, ts) r e)) own.1
key_text (key s ∷ ts) r own e = subst TokensText (ap (λ p. p.1) (some_same (Some s, ts) r e)) own.1
key_text (t ∷ ts) r own e = cc

module _ (one : Parse json.Json) (each : Parses JsonText one) where
  items_go : (more : Parse json.Items) → Parses ItemsText more → (ts : List Token) (r : json.Items × List Token) → TokensText ts → (o : Option (List Token))
      → after_end_array ts ≡ o → items_step one more ts o ≡ Some r → ItemsText r.0 × TokensText r.1
  items_go more rest ts r own (Some left) is e =
      let same = some_same (json.no_items, left) r e in
      (subst ItemsText (ap (λ p. p.0) same) tt, subst TokensText (ap (λ p. p.1) same) (end_text ts left own is))
  items_go more rest ts r own None is e =
      let w = then_some (λ (p : json.Json × List Token). parse_map (json.item p.0) (more p.1)) (one ts) r e in
      let first = each ts w.0 own w.1 in
      let v = mapped (λ (p : json.Items × List Token). (json.item w.0.0 p.0, p.1)) (more w.0.1) r w.2 in
      let second = rest w.0.1 v.0 first.1 v.1 in
      (subst ItemsText (ap (λ p. p.0) v.2) (first.0, second.0), subst TokensText (ap (λ p. p.1) v.2) second.1)

  items_parse : (n : ℕ) → Parses ItemsText (items one n)
  unfolding items
  items_parse zero ts r own e = cc
  items_parse (suc n) ts r own e = items_go (items one n) (items_parse n) ts r own (after_end_array ts) refl e

  members_go : (more : Parse json.Members) → Parses MembersText more → (k : Option (List ℕ)) (ts : List Token) (r : json.Members × List Token)
      → TokensText ts → members_step one more k ts ≡ Some r → MembersText r.0 × TokensText r.1
  members_go more rest None ts r own e =
      let same = some_same (json.no_members, ts) r e in
      (subst MembersText (ap (λ p. p.0) same) tt, subst TokensText (ap (λ p. p.1) same) own)
  members_go more rest (Some k) ts r own e =
      let w = then_some (λ (p : json.Json × List Token). parse_map (json.member k p.0) (more p.1)) (one ts) r e in
      let first = each ts w.0 own w.1 in
      let v = mapped (λ (p : json.Members × List Token). (json.member k w.0.0 p.0, p.1)) (more w.0.1) r w.2 in
      let second = rest w.0.1 v.0 first.1 v.1 in
      (subst MembersText (ap (λ p. p.0) v.2) (first.0, second.0), subst TokensText (ap (λ p. p.1) v.2) second.1)

  members_parse : (n : ℕ) → Parses MembersText (members one n)
  unfolding members
  members_parse zero ts r own e = cc
  members_parse (suc n) ts r own e =
      let w = then_some (λ (p : Option (List ℕ) × List Token). members_step one (members one n) p.0 p.1) (read_key ts) r e in
      members_go (members one n) (members_parse n) w.0.0 w.0.1 r (key_text ts w.0 own w.1) w.2

with_parse : (a : Parse json.Items) (o : Parse json.Members) → Parses ItemsText a → Parses MembersText o → Parses JsonText (value_with a o)
with_parse a o each all [] r own e = cc
with_parse a o each all (begin_object ∷ ts) r own e =
    let v = mapped (λ (p : json.Members × List Token). (json.object p.0, p.1)) (o ts) r e in
    let h = all ts v.0 own.1 v.1 in
    (subst JsonText (ap (λ p. p.0) v.2) h.0, subst TokensText (ap (λ p. p.1) v.2) h.1)
with_parse a o each all (begin_array ∷ ts) r own e =
    let v = mapped (λ (p : json.Items × List Token). (json.array p.0, p.1)) (a ts) r e in
    let h = each ts v.0 own.1 v.1 in
    (subst JsonText (ap (λ p. p.0) v.2) h.0, subst TokensText (ap (λ p. p.1) v.2) h.1)
with_parse a o each all (string s ∷ ts) r own e =
    let same = some_same (json.string s, ts) r e in
    (subst JsonText (ap (λ p. p.0) same) own.0, subst TokensText (ap (λ p. p.1) same) own.1)
with_parse a o each all (number s ∷ ts) r own e =
    let same = some_same (json.number s, ts) r e in
    (subst JsonText (ap (λ p. p.0) same) tt, subst TokensText (ap (λ p. p.1) same) own.1)
with_parse a o each all (boolean b ∷ ts) r own e =
    let same = some_same (json.boolean b, ts) r e in
    (subst JsonText (ap (λ p. p.0) same) tt, subst TokensText (ap (λ p. p.1) same) own.1)
with_parse a o each all (null ∷ ts) r own e =
    let same = some_same (json.null, ts) r e in
    (subst JsonText (ap (λ p. p.0) same) tt, subst TokensText (ap (λ p. p.1) same) own.1)
with_parse a o each all (t ∷ ts) r own e = cc

value_parse : (n : ℕ) → Parses JsonText (value n)
unfolding value
value_parse zero = with_parse (λ ts. None) (λ ts. None) (λ ts r own e. cc) (λ ts r own e. cc)
value_parse (suc n) =
    with_parse (λ ts. items (value n) (length ts) ts) (λ ts. members (value n) (length ts) ts)
    (λ ts r own e. items_parse (value n) (value_parse n) (length ts) ts r own e) (λ ts r own e. members_parse (value n) (value_parse n) (length ts) ts r own e)

-- ---- values

abbrev mutual
  DataText : values.Data → Type 0
  DataText values.null = ⊤
  DataText (values.boolean b) = ⊤
  DataText (values.number n) = ⊤
  DataText (values.string s) = IsUtf8 s
  DataText (values.array ds) = DataItems ds
  DataText (values.object ms) = DataMembers ms

  DataItems : values.Items → Type 0
  DataItems values.no_items = ⊤
  DataItems (values.item d ds) = DataText d × DataItems ds

  DataMembers : values.Members → Type 0
  DataMembers values.no_members = ⊤
  DataMembers (values.member k d ms) = DataText d × DataMembers ms

put_text : (k : List ℕ) (d : values.Data) (ms : values.Members) → DataText d → DataMembers ms → DataMembers (put k d ms)
put_text k d values.no_members own more = (own, tt)
put_text k d (values.member l e ms) own more = go (slice_cmp nat_cmp k l) (put_text k d ms own more.1)
  where
    go : (o : Ordering) → DataMembers (put k d ms)
        → DataMembers (match_ordering o (values.member k d (values.member l e ms)) (values.member l d ms) (values.member l e (put k d ms)))
    go Less rest = (own, (more.0, more.1))
    go Equal rest = (own, more.1)
    go Greater rest = (more.0, rest)

mutual
  json_text : (j : json.Json) → JsonText j → (d : values.Data) → of_json j ≡ Some d → DataText d
  json_text json.null own d e = subst DataText (some_same values.null d e) tt
  json_text (json.boolean b) own d e = subst DataText (some_same (values.boolean b) d e) tt
  json_text (json.number s) own d e = let w = mapped values.number (number_of s) d e in subst DataText w.2 tt
  json_text (json.string s) own d e = subst DataText (some_same (values.string s) d e) own
  json_text (json.array js) own d e = let w = mapped values.array (of_items js) d e in subst DataText w.2 (items_text js own w.0 w.1)
  json_text (json.object ms) own d e =
      let w = mapped values.object (of_members ms values.no_members) d e in subst DataText w.2 (members_text ms own values.no_members tt w.0 w.1)

  items_text : (js : json.Items) → ItemsText js → (ds : values.Items) → of_items js ≡ Some ds → DataItems ds
  items_text json.no_items own ds e = subst DataItems (some_same values.no_items ds e) tt
  items_text (json.item j js) own ds e =
      let w = then_some (λ d. option_map (values.item d) (of_items js)) (of_json j) ds e in
      let v = mapped (values.item w.0) (of_items js) ds w.2 in
      subst DataItems v.2 (json_text j own.0 w.0 w.1, items_text js own.1 v.0 v.1)

  members_text : (ms : json.Members) → MembersText ms → (found : values.Members) → DataMembers found → (ds : values.Members)
      → of_members ms found ≡ Some ds → DataMembers ds
  members_text json.no_members own found more ds e = subst DataMembers (some_same found ds e) more
  members_text (json.member k j ms) own found more ds e =
      let w = then_some (λ d. of_members ms (put k d found)) (of_json j) ds e in
      members_text ms own.1 (put k w.0 found) (put_text k w.0 found (json_text j own.0 w.0 w.1) more) ds w.2

last_same : (j k : json.Json) (ts : List Token) → if_last j ts ≡ Some k → j ≡ k
last_same j k [] e = some_same j k e
last_same j k (t ∷ ts) e = cc

read_text : (bytes : List ℕ) (d : values.Data) → IsUtf8 bytes → read bytes ≡ Some d → DataText d
read_text bytes d text e =
    let w = then_some of_json (option_and_then (λ p. if_last p.0 p.1) (value max_depth (tokens bytes))) d e in
    let v = then_some (λ (p : json.Json × List Token). if_last p.0 p.1) (value max_depth (tokens bytes)) w.0 w.1 in
    let h = value_parse max_depth (tokens bytes) v.0 (tokens_text bytes text) v.1 in
    json_text w.0 (subst JsonText (last_same v.0.0 w.0 v.0.1 v.2) h.0) d w.2

-- ---- traces

names_text : (names : Names) → DataItems (items_of (map values.string names)) → (n : List ℕ) → Contains names n → IsUtf8 n
names_text [] own n c = absurd (no_member n c)
names_text (m ∷ names) own n c = elim (first_or_later m names n c) [ inl e ↦ subst IsUtf8 e own.0 | inr more ↦ names_text names own.1 n more ]

states_text : (states : List Names) → DataItems (items_of (map state_data states)) → (k : ℕ) (n : List ℕ) → Contains (get_or states k []) n → IsUtf8 n
states_text [] own k n c = absurd (no_member n c)
states_text (s ∷ states) own zero n c = names_text s own.0 n c
states_text (s ∷ states) own (suc k) n c = states_text states own.1 k n c

trace_text : (written : Trace) → DataText (trace_data written) → (i : ℕ) (n : List ℕ) → Contains (state_at written i) n → IsUtf8 n
trace_text (Finite states) own i n c = states_text states own.1.0 i n c
trace_text (Infinite stem again) own i n c = go (nat_lt i (length stem)) c
  where
    go : (b : Bool) → Contains (if b then get_or stem i [] else get_or again ((i - length stem) % length again) []) n → IsUtf8 n
    go true c = states_text stem own.1.1.0 i n c
    go false c = states_text again own.1.0 ((i - length stem) % length again) n c

-- the names of what a JSON text was written for are text
pub written_texts : (bytes : List ℕ) (written : Trace) → IsJson bytes (trace_data written) → (i : ℕ) (n : List ℕ) → Contains (state_at written i) n → IsUtf8 n
written_texts bytes written is i n c = trace_text written (read_text bytes (trace_data written) is.0 is.1) i n c
