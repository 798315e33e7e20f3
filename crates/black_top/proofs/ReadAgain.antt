-- The text of a trace whose states are sets of names that are text reads back as it.
use Rattle.std.proofs.Common.{◌≡◌, ◌≤◌, ℕ, List, [], ◌∷◌, ◌++◌, map, codes, Bool, true, false, Some, option_map, option_and_then, IsUtf8, Contains, refl, sym}
use Rattle.std.proofs.Common.{ap, ◌∙◌, arith, append-nil}
use Rattle.std.proofs.lemmas.Str.{IsUtf8-append, IsUtf8-nil}
use Rattle.std.specs.Prelude.{⊤}
use Rattle.json.specs.Json as json
use Rattle.json.specs.Tree as tree
use Rattle.json.specs.Print.{quoted}
use Rattle.json.proofs.Printed.Tokens.{tokens-print}
use Rattle.json.proofs.Printed.Trees.{value-json_tokens, ArePrintable-json_tokens}
use Rattle.json.proofs.Printed.Utf8.{IsUtf8-are_ascii, IsUtf8-quoted}
use Rattle.serde_json.specs.Data.{Data, string, array, object, Items, Members, no_members, member, item}
use Rattle.serde_json.specs.View.{items_of}
use Rattle.serde_json.specs.Read.{read, of_json, of_items, max_depth}
use Rattle.serde_json.specs.Written.{outline, items_outline, compact_text, items_text, members_text, comma_if}
use Rattle.serde_json.proofs.Texts.{print-outline}
use Rattle.ltl_word.specs.declared.trace.Trace.{Trace}
use Rattle.ltl_word.specs.declared.trace.Trace.TheVariants.{Infinite, Finite}
use Rattle.ltl_word.specs.State.{IsAscending}
use Rattle.ltl_word.specs.Trace.{Names, IsTrace}
use Rattle.ltl_word.specs.Json.{state_data, states_data, trace_data, trace_text, AreSetsOf, IsTraceOf}
use Rattle.report.specs.Texts.{ReadsBack}
use Rattle.ltl_word.proofs.Sets.{here, later}

-- ---- it is read

-- the text of a value reads as it where its outline does
read_outline : (d : Data) → tree.HasNumbers (outline d) → tree.depth (outline d) ≤ 127 → of_json (outline d) ≡ Some d → read (compact_text d) ≡ Some d
read_outline d numbers shallow is =
    ap read (sym (print-outline d))
    ∙ ap (λ ts. option_and_then of_json (option_and_then (λ p. json.if_last p.0 p.1) (json.value max_depth ts)))
    (tokens-print (tree.json_tokens (outline d)) (ArePrintable-json_tokens (outline d) numbers) ∙ sym (append-nil (tree.json_tokens (outline d))))
    ∙ ap (λ o. option_and_then of_json (option_and_then (λ p. json.if_last p.0 p.1) o)) (value-json_tokens (outline d) max_depth [] shallow)
    ∙ is

names_numbers : (names : Names) → tree.ItemsHaveNumbers (items_outline (items_of (map string names)))
names_numbers [] = tt
names_numbers (n ∷ names) = (tt, names_numbers names)

states_numbers : (states : List Names) → tree.ItemsHaveNumbers (items_outline (items_of (map state_data states)))
states_numbers [] = tt
states_numbers (s ∷ states) = (names_numbers s, states_numbers states)

names_depth : (names : Names) → tree.items_depth (items_outline (items_of (map string names))) ≡ 0
names_depth [] = refl
names_depth (n ∷ names) = rw (names_depth names) refl

states_depth : (states : List Names) → tree.items_depth (items_outline (items_of (map state_data states))) ≤ 1
states_depth [] = omega arith
states_depth (s ∷ states) = let e = names_depth s in let h = states_depth states in rw e (omega arith)

names_read : (names : Names) → of_items (items_outline (items_of (map string names))) ≡ Some (items_of (map string names))
names_read [] = refl
names_read (n ∷ names) = ap (option_map (item (string n))) (names_read names)

state_read : (names : Names) → of_json (outline (state_data names)) ≡ Some (state_data names)
state_read names = ap (option_map array) (names_read names)

states_read : (states : List Names) → of_items (items_outline (items_of (map state_data states))) ≡ Some (items_of (map state_data states))
states_read [] = refl
states_read (s ∷ states) =
    ap (option_and_then (λ d. option_map (item d) (of_items (items_outline (items_of (map state_data states)))))) (state_read s)
    ∙ ap (option_map (item (state_data s))) (states_read states)

trace_read : (t : Trace) → read (trace_text t) ≡ Some (trace_data t)
trace_read (Infinite stem again) =
    let a = states_depth stem in
    let b = states_depth again in
    read_outline (trace_data (Infinite stem again)) (tt, (states_numbers again, (states_numbers stem, tt))) (omega arith)
    (rw (states_read again, states_read stem) refl)
trace_read (Finite states) =
    let a = states_depth states in
    read_outline (trace_data (Finite states)) (tt, (states_numbers states, tt)) (omega arith) (rw (states_read states) refl)

-- ---- it is text

abbrev pub AreTexts : Names → Type 0
AreTexts names = (n : List ℕ) → Contains names n → IsUtf8 n

-- the states are sets of names that are text
abbrev pub AreGood : List Names → Type 0
AreGood [] = ⊤
AreGood (s ∷ states) = IsAscending s × AreTexts s × AreGood states

comma_text : (b : Bool) → IsUtf8 (comma_if b)
comma_text true = IsUtf8-are_ascii (44 ∷ []) refl
comma_text false = IsUtf8-nil

item_text : (later : Bool) (d : Data) (ds : Items) → IsUtf8 (compact_text d) → IsUtf8 (items_text true ds) → IsUtf8 (items_text later (item d ds))
item_text later d ds one more =
    IsUtf8-append (comma_if later) (compact_text d ++ items_text true ds) (comma_text later) (IsUtf8-append (compact_text d) (items_text true ds) one more)

member_text : (later : Bool) (k : List ℕ) (d : Data) (ms : Members) → IsUtf8 k → IsUtf8 (compact_text d) → IsUtf8 (members_text true ms)
    → IsUtf8 (members_text later (member k d ms))
member_text later k d ms key one more =
    IsUtf8-append (comma_if later) (quoted k ++ 58 ∷ (compact_text d ++ members_text true ms)) (comma_text later)
    (IsUtf8-append (quoted k) (58 ∷ (compact_text d ++ members_text true ms)) (IsUtf8-quoted k key)
    (IsUtf8-append (58 ∷ []) (compact_text d ++ members_text true ms) (IsUtf8-are_ascii (58 ∷ []) refl)
    (IsUtf8-append (compact_text d) (members_text true ms) one more)))

names_text : (b : Bool) (names : Names) → AreTexts names → IsUtf8 (items_text b (items_of (map string names)))
names_text b [] h = IsUtf8-are_ascii (93 ∷ []) refl
names_text b (n ∷ names) h =
    item_text b (string n) (items_of (map string names)) (IsUtf8-quoted n (h n (here n names))) (names_text true names (λ m c. h m (later n names m c)))

array_text : (ds : Items) → IsUtf8 (items_text false ds) → IsUtf8 (compact_text (array ds))
array_text ds h = IsUtf8-append (91 ∷ []) (items_text false ds) (IsUtf8-are_ascii (91 ∷ []) refl) h

states_text : (b : Bool) (states : List Names) → AreGood states → IsUtf8 (items_text b (items_of (map state_data states)))
states_text b [] h = IsUtf8-are_ascii (93 ∷ []) refl
states_text b (s ∷ states) h =
    item_text b (state_data s) (items_of (map state_data states)) (array_text (items_of (map string s)) (names_text false s h.1)) (states_text true states h.2)

states_array : (states : List Names) → AreGood states → IsUtf8 (compact_text (states_data states))
states_array states h = array_text (items_of (map state_data states)) (states_text false states h)

object_text : (ms : Members) → IsUtf8 (members_text false ms) → IsUtf8 (compact_text (object ms))
object_text ms h = IsUtf8-append (123 ∷ []) (members_text false ms) (IsUtf8-are_ascii (123 ∷ []) refl) h

no_more : IsUtf8 (members_text true no_members)
no_more = IsUtf8-are_ascii (125 ∷ []) refl

-- the states of the trace are sets of names that are text
abbrev pub IsGood : Trace → Type 0
IsGood (Infinite stem again) = AreGood stem × AreGood again
IsGood (Finite states) = AreGood states

text_there : (t : Trace) → IsGood t → IsUtf8 (trace_text t)
text_there (Infinite stem again) h =
    let stems = member (codes "stem") (states_data stem) no_members in
    let loops = member (codes "loop") (states_data again) stems in
    object_text (member (codes "kind") (string (codes "infinite")) loops)
    (member_text false (codes "kind") (string (codes "infinite")) loops (IsUtf8-are_ascii (codes "kind") refl)
    (IsUtf8-quoted (codes "infinite") (IsUtf8-are_ascii (codes "infinite") refl))
    (member_text true (codes "loop") (states_data again) stems (IsUtf8-are_ascii (codes "loop") refl) (states_array again h.1)
    (member_text true (codes "stem") (states_data stem) no_members (IsUtf8-are_ascii (codes "stem") refl) (states_array stem h.0) no_more)))
text_there (Finite states) h =
    let own = member (codes "states") (states_data states) no_members in
    object_text (member (codes "kind") (string (codes "finite")) own)
    (member_text false (codes "kind") (string (codes "finite")) own (IsUtf8-are_ascii (codes "kind") refl)
    (IsUtf8-quoted (codes "finite") (IsUtf8-are_ascii (codes "finite") refl))
    (member_text true (codes "states") (states_data states) no_members (IsUtf8-are_ascii (codes "states") refl) (states_array states h) no_more))

-- ---- and so it reads back

sets_of_themselves : (states : List Names) → AreGood states → AreSetsOf states states
sets_of_themselves [] h = tt
sets_of_themselves (s ∷ states) h = ((h.0, λ n. (λ c. c, λ c. c)), sets_of_themselves states h.2)

trace_of_itself : (t : Trace) → IsGood t → IsTraceOf t t
trace_of_itself (Infinite stem again) h = (sets_of_themselves stem h.0, sets_of_themselves again h.1)
trace_of_itself (Finite states) h = sets_of_themselves states h

pub reads_back : (t : Trace) → IsTrace t → IsGood t → ReadsBack t
reads_back t is good = (t, (text_there t good, trace_read t), is, trace_of_itself t good)
