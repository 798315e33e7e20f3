-- One entry more, behind those that are read.
use Rattle.std.proofs.Common.{◌≡◌, ℕ, ◌+◌, ◌<◌, ◌≤◌, List, ◌∷◌, ◌++◌, map, take, length, get_or, Some, refl, sym, ap, subst, ◌∙◌, arith, append_assoc, []}
use Rattle.std.proofs.Common.{append-nil}
use Rattle.std.specs.List.{slice_get}
use Rattle.std.proofs.lemmas.List.{take_all, take_more, get_or-map, length-map, flat_map_more}
use Rattle.std.proofs.lemmas.Option.{slice_get_read}
use Rattle.toml.specs.Data.{Data}
use Rattle.toml.specs.View.{view}
use Rattle.toml.specs.declared.value.Value.{Value}
use Rattle.ltl_syntax.specs.Formula.{Formula}
use Rattle.requirement_document.specs.declared.document.Role.{Role}
use Rattle.requirement_document.specs.declared.fault.Key.TheVariants as keys
use Rattle.requirement_document.specs.Substitution.{Definitions}
use Rattle.requirement_document.specs.Values.{ItemValue, BehaviourValue}
use Rattle.requirement_document.specs.Entry.{HasText, IsDefinition, IsItem, IsBehaviour}
use Rattle.requirement_document.specs.Document.{AreDefined, AreItems, AreBehaviours, names_of, name_at, in_list}

-- the values of a slice up to a place, and the one there
pub values_more : (vs : List Value) (i : ℕ) (v : Value) → i < length vs → v ≡ get_or vs i v → take (i + 1) (map view vs) ≡ take i (map view vs) ++ view v ∷ []
values_more vs i v h e =
    take_more (map view vs) i (view v) (omega (arith, h, length-map vs view))
    ∙ ap (λ d. take i (map view vs) ++ d ∷ []) (get_or-map view vs i v (view v) h ∙ ap view (sym e))

pub value_there : (vs : List Value) (i : ℕ) (v : Value) → i < length vs → v ≡ get_or vs i v → slice_get (map view vs) i ≡ Some (view v)
value_there vs i v h e =
    slice_get_read (map view vs) (length (map view vs)) i (view v) refl (omega (arith, h, length-map vs view))
    (ap view e ∙ sym (get_or-map view vs i v (view v) h))

-- the names with those of one entry more
pub names_on : (taken : List (List ℕ)) (es : List Data) (d : Data) → (taken ++ names_of es) ++ in_list (name_at d) ≡ taken ++ names_of (es ++ d ∷ [])
names_on taken es d = flat_map_more (λ e. in_list (name_at e)) taken es d

-- the name of an entry that has a text for one
pub named : (d : Data) (name : List ℕ) → HasText d keys.Name name → in_list (name_at d) ≡ name ∷ []
named d name h = rw h

pub defined_more : (before : Definitions) (ds : List Data) (mid : Definitions) (d : Data) (new : List ℕ × Formula)
    → AreDefined before ds mid → IsDefinition mid d new → AreDefined before (ds ++ d ∷ []) (mid ++ new ∷ [])
defined_more before [] mid d new e h = (new, subst (λ b. IsDefinition b d new) e h, ap (λ b. b ++ new ∷ []) e)
defined_more before (x ∷ ds) mid d new a h = (a.0, a.1, defined_more (before ++ a.0 ∷ []) ds mid d new a.2 h)

pub items_more : (role : Role) (defs : Definitions) (taken : List (List ℕ)) (ds : List Data) (is : List ItemValue) (d : Data) (i : ItemValue)
    → AreItems role defs taken ds is → IsItem role defs (taken ++ names_of ds) d i → AreItems role defs taken (ds ++ d ∷ []) (is ++ i ∷ [])
items_more role defs taken [] [] d i a h = (subst (λ t. IsItem role defs t d i) (append-nil taken) h, tt)
items_more role defs taken [] (j ∷ is) d i a h = absurd a
items_more role defs taken (x ∷ ds) [] d i a h = absurd a
items_more role defs taken (x ∷ ds) (j ∷ is) d i a h = (
  a.0,
  items_more role defs (taken ++ in_list (name_at x)) ds is d i a.1
      (subst (λ t. IsItem role defs t d i) (sym (append_assoc taken (in_list (name_at x)) (names_of ds))) h),
)

pub behaviours_more : (taken : List (List ℕ)) (ds : List Data) (bs : List BehaviourValue) (d : Data) (b : BehaviourValue)
    → AreBehaviours taken ds bs → IsBehaviour (taken ++ names_of ds) d b → AreBehaviours taken (ds ++ d ∷ []) (bs ++ b ∷ [])
behaviours_more taken [] [] d b a h = (subst (λ t. IsBehaviour t d b) (append-nil taken) h, tt)
behaviours_more taken [] (c ∷ bs) d b a h = absurd a
behaviours_more taken (x ∷ ds) [] d b a h = absurd a
behaviours_more taken (x ∷ ds) (c ∷ bs) d b a h = (
  a.0,
  behaviours_more (taken ++ in_list (name_at x)) ds bs d b a.1
      (subst (λ t. IsBehaviour t d b) (sym (append_assoc taken (in_list (name_at x)) (names_of ds))) h),
)

-- ---- one turn of a loop over the entries of a section

pub whole : (vs : List Value) (i : ℕ) → length vs ≤ i → take i (map view vs) ≡ map view vs
whole vs i h = take_all i (map view vs) (omega (arith, h, length-map vs view))

pub define_on : (vs : List Value) (i : ℕ) (v : Value) (old new : Definitions) (n : List ℕ × Formula) → i < length vs → v ≡ get_or vs i v
    → AreDefined [] (take i (map view vs)) old → IsDefinition old (view v) n → new ≡ old ++ n ∷ [] → AreDefined [] (take (i + 1) (map view vs)) new
define_on vs i v old new n lt at all one e =
    subst (AreDefined [] (take (i + 1) (map view vs))) (sym e)
    (subst (λ ds. AreDefined [] ds (old ++ n ∷ [])) (sym (values_more vs i v lt at)) (defined_more [] (take i (map view vs)) old (view v) n all one))

pub names_step : (taken : List (List ℕ)) (vs : List Value) (i : ℕ) (v : Value) (old new : List (List ℕ)) → i < length vs → v ≡ get_or vs i v
    → old ≡ taken ++ names_of (take i (map view vs)) → new ≡ old ++ in_list (name_at (view v)) → new ≡ taken ++ names_of (take (i + 1) (map view vs))
names_step taken vs i v old new lt at so_far e =
    e ∙ ap (λ ns. ns ++ in_list (name_at (view v))) so_far ∙ names_on taken (take i (map view vs)) (view v)
    ∙ ap (λ ds. taken ++ names_of ds) (sym (values_more vs i v lt at))

-- the items that a loop has put behind those that were there
pub record AreAdded (role : Role) (defs : Definitions) (taken : List (List ℕ)) (ds : List Data) (old new : List ItemValue) : Type 0 where
  pub added : List ItemValue
  pub items : AreItems role defs taken ds added
  pub behind : new ≡ old ++ added

pub item_on : (role : Role) (defs : Definitions) (taken names : List (List ℕ)) (vs : List Value) (i : ℕ) (v : Value) (before old new : List ItemValue)
    (x : ItemValue) → i < length vs → v ≡ get_or vs i v
    → AreAdded role defs taken (take i (map view vs)) before old → names ≡ taken ++ names_of (take i (map view vs)) → IsItem role defs names (view v) x
    → new ≡ old ++ x ∷ []
    → AreAdded role defs taken (take (i + 1) (map view vs)) before new
item_on role defs taken names vs i v before old new x lt at a same one e =
    record {
      added = a.added ++ x ∷ [];
      items = subst (λ ds. AreItems role defs taken ds (a.added ++ x ∷ [])) (sym (values_more vs i v lt at))
          (items_more role defs taken (take i (map view vs)) a.added (view v) x a.items (subst (λ n. IsItem role defs n (view v) x) same one));
      behind = e ∙ ap (λ is. is ++ x ∷ []) a.behind ∙ append_assoc before a.added (x ∷ []);
    }

pub behaviour_on : (taken names : List (List ℕ)) (vs : List Value) (i : ℕ) (v : Value) (old new : List BehaviourValue) (x : BehaviourValue) → i < length vs
    → v ≡ get_or vs i v
    → AreBehaviours taken (take i (map view vs)) old → names ≡ taken ++ names_of (take i (map view vs)) → IsBehaviour names (view v) x → new ≡ old ++ x ∷ []
    → AreBehaviours taken (take (i + 1) (map view vs)) new
behaviour_on taken names vs i v old new x lt at all same one e =
    subst (AreBehaviours taken (take (i + 1) (map view vs))) (sym e)
    (subst (λ ds. AreBehaviours taken ds (old ++ x ∷ [])) (sym (values_more vs i v lt at))
    (behaviours_more taken (take i (map view vs)) old (view v) x all (subst (λ n. IsBehaviour n (view v) x) same one)))
