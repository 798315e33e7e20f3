-- From the parts of a value to the whole: members, states and faults.
use Rattle.std.proofs.Common.{◌≡◌, ℕ, ◌<◌, List, [], ◌∷◌, ◌++◌, length, String, Global, string_bytes, codes, Bool, true, false, not, refl, subst, ap, ◌∙◌, sym}
use Rattle.std.proofs.Common.{arith, Result, Ok, Err, IsErr}
use Rattle.std.specs.Result.{IsErrAnd}
use Rattle.std.specs.Str.{bytes_eq}
use Rattle.std.proofs.lemmas.Slice.Eq.{bytes_eq-Decides}
use Rattle.serde_json.specs.Data.{Data, string, object, member}
use Rattle.serde_json.specs.View.{view, members_view}
use Rattle.serde_json.specs.declared.value.Value.{Value}
use Rattle.ltl_word.specs.declared.json.TraceFault.{TraceFault}
use Rattle.ltl_word.specs.declared.json.TraceFault.TheVariants.{NotTrace, NoMemory}
use Rattle.ltl_word.specs.declared.trace.Trace.TheVariants.{Infinite, Finite}
use Rattle.ltl_word.specs.Trace.{Names}
use Rattle.ltl_word.specs.Json.{IsSetOf, AreSetsOf, IsStateReading, IsStatesReading, state_data, states_data, trace_data}

-- ---- keys

key_by : (b : Bool) → false ≡ not b → b ≡ true
key_by true e = refl
key_by false e = cc

pub key_is : (xs ys : List ℕ) → false ≡ not (bytes_eq xs ys) → xs ≡ ys
key_is xs ys e = (bytes_eq-Decides xs ys).0 (key_by (bytes_eq xs ys) e)

-- ---- members

abbrev pub Entry : Type 0
Entry = String Global × Value

one_member : (ms rest : List Entry) (k : String Global) (v : Value) (key : List ℕ) (d : Data)
    → ms ≡ (k, v) ∷ rest → string_bytes k ≡ key → view v ≡ d → members_view ms ≡ member key d (members_view rest)
one_member ms rest k v key d is same value =
    ap members_view is ∙ (ap (λ n. member n (view v) (members_view rest)) same ∙ ap (λ x. member key x (members_view rest)) value)

pub finite_value : (ms rest : List Entry) (k : String Global) (v : Value) (all : List Names) → ms ≡ (k, v) ∷ rest → rest ≡ [] → string_bytes k ≡ codes "states"
    → view v ≡ states_data all
    → object (member (codes "kind") (string (codes "finite")) (members_view ms)) ≡ trace_data (Finite all)
finite_value ms rest k v all is none same value =
    ap (λ us. object (member (codes "kind") (string (codes "finite")) us))
    (one_member ms rest k v (codes "states") (states_data all) is same value ∙ ap (λ us. member (codes "states") (states_data all) (members_view us)) none)

pub infinite_value : (ms rest rest' : List Entry) (k l : String Global) (v w : Value) (loop_part stem : List Names)
    → ms ≡ (k, v) ∷ rest → rest ≡ (l, w) ∷ rest' → rest' ≡ []
    → string_bytes k ≡ codes "loop" → string_bytes l ≡ codes "stem" → view v ≡ states_data loop_part → view w ≡ states_data stem
    → object (member (codes "kind") (string (codes "infinite")) (members_view ms)) ≡ trace_data (Infinite stem loop_part)
infinite_value ms rest rest' k l v w loop_part stem is is' none same same' value value' =
    ap (λ us. object (member (codes "kind") (string (codes "infinite")) us))
    (one_member ms rest k v (codes "loop") (states_data loop_part) is same value
    ∙ ap (member (codes "loop") (states_data loop_part))
    (one_member rest rest' l w (codes "stem") (states_data stem) is' same' value' ∙ ap (λ us. member (codes "stem") (states_data stem) (members_view us)) none))

-- ---- sets of names

sets_push : (all states : List Names) (names state : Names) → AreSetsOf all states → IsSetOf names state → AreSetsOf (all ++ names ∷ []) (states ++ state ∷ [])
sets_push [] [] names state h s = (s, tt)
sets_push [] (x ∷ states) names state h s = absurd h
sets_push (n ∷ all) [] names state h s = absurd h
sets_push (n ∷ all) (x ∷ states) names state h s = (h.0, sets_push all states names state h.1 s)

pub sets_more : (all states more : List Names) (names state : Names) → AreSetsOf all states → IsSetOf names state
    → more ≡ states ++ state ∷ [] → AreSetsOf (all ++ names ∷ []) more
sets_more all states more names state h s is = subst (AreSetsOf (all ++ names ∷ [])) (sym is) (sets_push all states names state h s)

pub sets_of_none : (all states : List Names) → AreSetsOf all states → states ≡ [] → all ≡ []
sets_of_none [] states h e = refl
sets_of_none (n ∷ all) [] h e = absurd h
sets_of_none (n ∷ all) (x ∷ states) h e = cc

pub sets_of_some : (all states : List Names) → AreSetsOf all states → (states ≡ [] → ⊥) → 0 < length all
sets_of_some [] [] h some = absurd (some refl)
sets_of_some [] (x ∷ states) h some = absurd h
sets_of_some (n ∷ all) states h some = omega arith

-- ---- faults

-- a fault of a state is one of the states
pub states_fault : (d part : Data) (e : TraceFault) (r : Result (List Names) TraceFault)
    → ((all : List Names) → ((names : Names) → part ≡ state_data names → ⊥) → d ≡ states_data all → ⊥)
    → IsStateReading part (Err e) → IsErr r × IsErrAnd r (λ x. x ≡ e) → IsStatesReading d r
states_fault d part e (Ok x) up h w = let ok = w.0 in cc
states_fault d part e (Err x) up h w = subst (λ y. IsStatesReading d (Err y)) (sym w.1) (by_fault e h) where
  by_fault : (e : TraceFault) → IsStateReading part (Err e) → IsStatesReading d (Err e)
  by_fault NotTrace h = λ all. up all h
  by_fault NoMemory h = tt
  by_fault other h = h
