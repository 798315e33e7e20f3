-- The JSON form of a trace has no float and nests three deep, and ascending lists are the sets of themselves.
use Rattle.std.proofs.Common.{◌≡◌, ◌≤◌, List, [], ◌∷◌, map, refl, false, arith, All, Result, Ok, Err, IfOk}
use Rattle.std.proofs.lemmas.List.Elements.{All-head, All-tail}
use Rattle.serde_json.specs.Data.{string, items_depth, depth}
use Rattle.serde_json.specs.View.{items_of}
use Rattle.serde_json.specs.Written.{has_float, items_have_float}
use Rattle.ltl_word.specs.declared.trace.Trace.{Trace}
use Rattle.ltl_word.specs.declared.trace.Trace.TheVariants.{Infinite, Finite}
use Rattle.ltl_word.specs.State.{IsAscending}
use Rattle.ltl_word.specs.Trace.{Names}
use Rattle.ltl_word.specs.Json.{state_data, trace_data, AreSetsOf}

names_plain : (names : Names) → items_have_float (items_of (map string names)) ≡ false
names_plain [] = refl
names_plain (n ∷ names) = names_plain names

states_plain : (states : List Names) → items_have_float (items_of (map state_data states)) ≡ false
states_plain [] = refl
states_plain (s ∷ states) = rw (names_plain s) (states_plain states)

pub trace_plain : (t : Trace) → has_float (trace_data t) ≡ false
trace_plain (Infinite stem loop_part) = rw (states_plain stem, states_plain loop_part) refl
trace_plain (Finite states) = rw (states_plain states) refl

names_depth : (names : Names) → items_depth (items_of (map string names)) ≡ 0
names_depth [] = refl
names_depth (n ∷ names) = rw (names_depth names) refl

states_depth : (states : List Names) → items_depth (items_of (map state_data states)) ≤ 1
states_depth [] = omega arith
states_depth (s ∷ states) = let e = names_depth s in let h = states_depth states in rw e (omega arith)

pub trace_depth : (t : Trace) → depth (trace_data t) ≤ 127
trace_depth (Infinite stem loop_part) = let a = states_depth stem in let b = states_depth loop_part in omega arith
trace_depth (Finite states) = let a = states_depth states in omega arith

pub sets_of_themselves : (states : List Names) → All IsAscending states → AreSetsOf states states
sets_of_themselves [] h = tt
sets_of_themselves (s ∷ states) h = ((All-head IsAscending s states h, λ name. (λ c. c, λ c. c)), sets_of_themselves states (All-tail IsAscending s states h))

pub if_ok_more : {A E : Type 0} {P Q : A → Type 0} → ((x : A) → P x → Q x) → (r : Result A E) → IfOk r P → IfOk r Q
if_ok_more f (Ok x) h = f x h
if_ok_more f (Err e) h = tt

pub if_ok_both : {A E : Type 0} {P Q R : A → Type 0} → ((x : A) → P x → Q x → R x) → (r : Result A E) → IfOk r P → IfOk r Q → IfOk r R
if_ok_both f (Ok x) h k = f x h k
if_ok_both f (Err e) h k = tt
