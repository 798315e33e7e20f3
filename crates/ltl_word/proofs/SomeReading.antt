-- Bytes have a reading that is not want of memory: the form of a value is decided, part by part, and each state has its set.
use Rattle.std.proofs.Common.{◌≡◌, ◌≢◌, ℕ, zero, suc, ◌+◌, ◌<◌, ◌⊎◌, inl, inr, Bool, true, false, List, [], ◌∷◌, length, get_or, map, Contains, Option, Some}
use Rattle.std.proofs.Common.{None}
use Rattle.std.proofs.Common.{Ordering, Less, Equal, Greater, Result, Ok, Err, refl, sym, ap, ap₂, ◌∙◌, subst, codes, arith}
use Rattle.std.specs.Str.{bytes_eq, is_utf8}
use Rattle.std.specs.Ordering.{nat_cmp, ordering_reverse, is_eq}
use Rattle.std.specs.Cmp.Lexicographic.{slice_cmp}
use Rattle.std.proofs.lemmas.Cmp.{nat_list_cmp_total}
use Rattle.std.proofs.lemmas.Str.{IsUtf8-from_is_utf8, is_utf8-from_IsUtf8}
use Rattle.std.proofs.lemmas.Map.Keys.{sorted_tail, sorted_from_all_adjacent, Less-from_sorted}
use Rattle.std.proofs.lemmas.Map.Text.{is_eq-slice_cmp}
use Rattle.std.proofs.lemmas.Slice.Eq.{bytes_eq-Decides}
use Rattle.serde_json.specs.Data.{Data, null, boolean, number, string, array, object, no_items, item, Members, no_members, member}
use Rattle.serde_json.specs.View.{items_of}
use Rattle.serde_json.specs.Read.{read}
use Rattle.ltl_word.specs.declared.trace.Trace.{Trace}
use Rattle.ltl_word.specs.declared.trace.Trace.TheVariants.{Infinite, Finite}
use Rattle.ltl_word.specs.declared.json.TraceFault.{TraceFault}
use Rattle.ltl_word.specs.declared.json.TraceFault.TheVariants.{NotJson, NotTrace, EmptyLoop, EmptyStates, NoMemory}
use Rattle.ltl_word.specs.State.{IsAscending}
use Rattle.ltl_word.specs.Trace.{Names}
use Rattle.ltl_word.specs.Json.{state_data, states_data, trace_data, IsJson, IsSetOf, AreSetsOf, IsTraceOf, IsReading}
use Rattle.ltl_word.proofs.Sets.{sets_of}

trace_of : (written : Trace) → (t : Trace) × IsTraceOf written t
trace_of (Infinite stem again) = let s = sets_of stem in let l = sets_of again in (Infinite s.0 l.0, (s.1, l.1))
trace_of (Finite states) = let s = sets_of states in (Finite s.0, s.1)

-- ---- the form of a value

-- something has the property, or nothing has it
abbrev IsDecided : {A : Type 0} → (A → Type 0) → Type 0
IsDecided {A} P = ((a : A) × P a) ⊎ ((a : A) → P a → ⊥)

-- each value is the form of something, or of nothing
abbrev IsForm : {D A : Type 0} → (A → D) → Type 0
IsForm {D} {A} f = (d : D) → IsDecided (λ (a : A). d ≡ f a)

same_text : (x y : List ℕ) → (x ≡ y) ⊎ (x ≡ y → ⊥)
same_text x y = by (bytes_eq x y) refl
  where
    by : (t : Bool) → bytes_eq x y ≡ t → (x ≡ y) ⊎ (x ≡ y → ⊥)
    by true e = inl ((bytes_eq-Decides x y).0 e)
    by false e = inr (λ s. let there : bytes_eq x y ≡ true = (bytes_eq-Decides x y).1 s in cc)

text_form : IsForm string
text_form (string s) = inl (s, refl)
text_form null = inr (λ a e. cc)
text_form (boolean b) = inr (λ a e. cc)
text_form (number n) = inr (λ a e. cc)
text_form (array ds) = inr (λ a e. cc)
text_form (object ms) = inr (λ a e. cc)

-- one text alone
this_form : (s : List ℕ) → IsForm (λ (u : Unit {0}). string s)
this_form s d = elim (text_form d) [
  | inl t ↦ elim (same_text t.0 s) [ inl e ↦ inl (tt, t.1 ∙ ap string e) | inr n ↦ inr (λ u e. let both = sym t.1 ∙ e in n (cc)) ]
  | inr n ↦ inr (λ u e. n s e)
]

items_form : {A : Type 0} (f : A → Data) → IsForm f → IsForm (λ (xs : List A). items_of (map f xs))
items_form f dec no_items = inl ([], refl)
items_form {A} f dec (item d ds) = by (dec d) (items_form f dec ds)
  where
    none : ((a : A) (xs : List A) → d ≡ f a → ds ≡ items_of (map f xs) → ⊥) → (xs : List A) → item d ds ≡ items_of (map f xs) → ⊥
    none h [] e = cc
    none h (a ∷ xs) e = let first : d ≡ f a = cc in let more : ds ≡ items_of (map f xs) = cc in h a xs first more

    by : IsDecided (λ a. d ≡ f a) → IsDecided (λ xs. ds ≡ items_of (map f xs)) → IsDecided (λ xs. item d ds ≡ items_of (map f xs))
    by (inl a) (inl xs) = inl (a.0 ∷ xs.0, ap₂ item a.1 xs.1)
    by (inr n) r = inr (none (λ a xs x y. n a x))
    by (inl a) (inr n) = inr (none (λ a xs x y. n xs y))

array_form : {A : Type 0} (f : A → Data) → IsForm f → IsForm (λ (xs : List A). array (items_of (map f xs)))
array_form f dec (array ds) = elim (items_form f dec ds) [ inl xs ↦ inl (xs.0, ap array xs.1) | inr n ↦ inr (λ xs e. n xs (cc)) ]
array_form f dec null = inr (λ a e. cc)
array_form f dec (boolean b) = inr (λ a e. cc)
array_form f dec (number n) = inr (λ a e. cc)
array_form f dec (string s) = inr (λ a e. cc)
array_form f dec (object ms) = inr (λ a e. cc)

state_form : IsForm state_data
state_form = array_form string text_form

states_form : IsForm states_data
states_form = array_form state_data state_form

no_more : IsForm (λ (u : Unit {0}). no_members)
no_more no_members = inl (tt, refl)
no_more (member k d ms) = inr (λ u e. cc)

-- a member of this key, and what follows it
member_form : {A B : Type 0} (k : List ℕ) (f : A → Data) (g : B → Members) → IsForm f → IsForm g → IsForm (λ (p : A × B). member k (f p.0) (g p.1))
member_form k f g df dg no_members = inr (λ p e. cc)
member_form {A} {B} k f g df dg (member l d ms) = by (same_text l k) (df d) (dg ms)
  where
    none : ((p : A × B) → l ≡ k → d ≡ f p.0 → ms ≡ g p.1 → ⊥) → (p : A × B) → member l d ms ≡ member k (f p.0) (g p.1) → ⊥
    none h p e = h p (cc) (cc) (cc)

    by : (l ≡ k) ⊎ (l ≡ k → ⊥) → IsDecided (λ a. d ≡ f a) → IsDecided (λ b. ms ≡ g b) → IsDecided (λ (p : A × B). member l d ms ≡ member k (f p.0) (g p.1))
    by (inl s) (inl a) (inl b) = inl ((a.0, b.0), ap (λ z. member z d ms) s ∙ ap₂ (member k) a.1 b.1)
    by (inr n) a b = inr (none (λ p x y z. n x))
    by (inl s) (inr n) b = inr (none (λ p x y z. n p.0 y))
    by (inl s) (inl a) (inr n) = inr (none (λ p x y z. n p.1 z))

-- the kind, and behind it the states
kind_form : {B : Type 0} (s : List ℕ) (g : B → Members) → IsForm g → IsForm (λ (p : Unit {0} × B). member (codes "kind") (string s) (g p.1))
kind_form s g dg = member_form (codes "kind") (λ u. string s) g (this_form s) dg

abbrev stem_members : List Names × Unit {0} → Members
stem_members p = member (codes "stem") (states_data p.0) no_members

abbrev loop_members : List Names × (List Names × Unit {0}) → Members
loop_members p = member (codes "loop") (states_data p.0) (stem_members p.1)

abbrev states_members : List Names × Unit {0} → Members
states_members p = member (codes "states") (states_data p.0) no_members

infinite_form : IsForm (λ (p : Unit {0} × (List Names × (List Names × Unit {0}))). member (codes "kind") (string (codes "infinite")) (loop_members p.1))
infinite_form = kind_form (codes "infinite") loop_members (member_form (codes "loop") states_data stem_members states_form
    (member_form (codes "stem") states_data (λ u. no_members) states_form no_more))

finite_form : IsForm (λ (p : Unit {0} × (List Names × Unit {0})). member (codes "kind") (string (codes "finite")) (states_members p.1))
finite_form = kind_form (codes "finite") states_members (member_form (codes "states") states_data (λ u. no_members) states_form no_more)

no_object : (d : Data) → ((ms : Members) → d ≡ object ms → ⊥) → (written : Trace) → d ≡ trace_data written → ⊥
no_object d n (Infinite stem again) e = n _ e
no_object d n (Finite states) e = n _ e

trace_form : IsForm trace_data
trace_form (object ms) = by (infinite_form ms) (finite_form ms)
  where
    none : ((stem again : List Names) → object ms ≡ trace_data (Infinite stem again) → ⊥) → ((states : List Names) → object ms ≡ trace_data (Finite states) → ⊥)
        → (written : Trace) → object ms ≡ trace_data written → ⊥
    none f g (Infinite stem again) e = f stem again e
    none f g (Finite states) e = g states e

    by : IsDecided (λ (p : Unit {0} × (List Names × (List Names × Unit {0}))). ms ≡ member (codes "kind") (string (codes "infinite")) (loop_members p.1))
        → IsDecided (λ (p : Unit {0} × (List Names × Unit {0})). ms ≡ member (codes "kind") (string (codes "finite")) (states_members p.1))
        → IsDecided (λ written. object ms ≡ trace_data written)
    by (inl p) q = inl (Infinite p.0.1.1.0 p.0.1.0, ap object p.1)
    by (inr n) (inl p) = inl (Finite p.0.1.0, ap object p.1)
    by (inr n) (inr m) = inr (none (λ stem again e. n (tt, (again, (stem, tt))) (cc)) (λ states e. m (tt, (states, tt)) (cc)))
trace_form null = inr (no_object null (λ ms e. cc))
trace_form (boolean b) = inr (no_object (boolean b) (λ ms e. cc))
trace_form (number n) = inr (no_object (number n) (λ ms e. cc))
trace_form (string s) = inr (no_object (string s) (λ ms e. cc))
trace_form (array ds) = inr (no_object (array ds) (λ ms e. cc))

-- ---- the reading of bytes

abbrev IsRead : List ℕ → Type 0
IsRead bytes = (r : Result Trace TraceFault) × (r ≢ Err NoMemory) × IsReading bytes r

-- a value of the form of a trace is read as it, or has no state where it needs one
read_as : (bytes : List ℕ) (d : Data) → IsJson bytes d → (written : Trace) → d ≡ trace_data written → IsRead bytes
read_as bytes d j (Infinite stem []) e = (Err EmptyLoop, (λ m. cc), (stem, subst (IsJson bytes) e j))
read_as bytes d j (Infinite stem (s ∷ ss)) e =
    let t = trace_of (Infinite stem (s ∷ ss)) in (Ok t.0, (λ m. cc), (Infinite stem (s ∷ ss), subst (IsJson bytes) e j, omega arith, t.1))
read_as bytes d j (Finite []) e = (Err EmptyStates, (λ m. cc), subst (IsJson bytes) e j)
read_as bytes d j (Finite (s ∷ ss)) e =
    let t = trace_of (Finite (s ∷ ss)) in (Ok t.0, (λ m. cc), (Finite (s ∷ ss), subst (IsJson bytes) e j, omega arith, t.1))

-- bytes have a reading
pub some_reading : (bytes : List ℕ) → (r : Result Trace TraceFault) × (r ≢ Err NoMemory) × IsReading bytes r
some_reading bytes = by (is_utf8 bytes) refl (read bytes) refl
  where
    by : (t : Bool) → is_utf8 bytes ≡ t → (found : Option Data) → read bytes ≡ found → IsRead bytes
    by false u found e = (Err NotJson, (λ m. cc), λ d j. let there : is_utf8 bytes ≡ true = is_utf8-from_IsUtf8 bytes j.0 in cc)
    by true u None e = (Err NotJson, (λ m. cc), λ d j. let there : read bytes ≡ Some d = j.1 in cc)
    by true u (Some d) e =
        let j : IsJson bytes d = (IsUtf8-from_is_utf8 bytes u, e) in
        elim (trace_form d) [ inl w ↦ read_as bytes d j w.0 w.1 | inr n ↦ (Err NotTrace, (λ m. cc), (d, j, n)) ]
