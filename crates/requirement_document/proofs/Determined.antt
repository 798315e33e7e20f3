-- A text is one document at most.
use Rattle.std.proofs.Common.{◌≡◌, ℕ, zero, suc, ◌⊎◌, inl, inr, List, [], ◌∷◌, ◌++◌, map, Contains, Option, Some, None, Less, Equal, Greater, codes, refl, sym}
use Rattle.std.proofs.Common.{subst, ap, ap₂, ◌∙◌, arith}
use Rattle.std.proofs.lemmas.Cmp.{nat_list_cmp_total, tied_itself}
use Rattle.std.proofs.lemmas.List.Elements.{All-contains}
use Rattle.std.proofs.lemmas.Map.Keys.{sorted_tail}
use Rattle.std.proofs.lemmas.Map.Views.{All-after_first}
use Rattle.std.specs.Cmp.Lexicographic.{slice_cmp}
use Rattle.std.specs.Ordering.{nat_cmp, ordering_reverse}
use Rattle.toml.specs.Data.{Data, string, table, get}
use Rattle.ltl_syntax.specs.declared.node.Kind.{Kind}
use Rattle.ltl_syntax.specs.Formula.{Formula}
use Rattle.ltl_word.specs.declared.trace.Trace.{Trace}
use Rattle.ltl_word.specs.declared.trace.Trace.TheVariants.{Infinite, Finite}
use Rattle.ltl_word.specs.State.{IsAscending}
use Rattle.ltl_word.specs.Trace.{Names}
use Rattle.ltl_word.specs.Json.{AreSetsOf, IsTraceOf}
use Rattle.ltl_word.proofs.Sets.{map_apart, one_trace}
use Rattle.requirement_document.specs.declared.document.Role.{Role}
use Rattle.requirement_document.specs.declared.document.Role.TheVariants as roles
use Rattle.requirement_document.specs.declared.fault.Section.TheVariants as sections
use Rattle.requirement_document.specs.Substitution.{Definitions, substituted}
use Rattle.requirement_document.specs.Values.{ItemValue, BehaviourValue, DocumentValue}
use Rattle.requirement_document.specs.Entry.{IsSentence, IsPutIn, IsItem, HasTrace, IsBehaviour, state_data, states_data}
use Rattle.requirement_document.specs.Document.{entries, section_of, name_at, in_list, taken_before, AreDefined, AreItems, AreBehaviours, HasDefinitions}
use Rattle.requirement_document.specs.Document.{HasItems, HasBehaviours, IsDocumentOf, IsDocument}
use Rattle.requirement_document.proofs.Stating.{same_items}
use Rattle.requirement_document.proofs.Good.{IsOneOutcome}
use Rattle.requirement_document.proofs.Excluding.{same_definitions, same_list}

-- ---- what is written in an entry

same_state : (a b : Names) → state_data a ≡ state_data b → a ≡ b
same_state a b e = map_apart string (λ x y h. cc) a b (same_items (map string a) (map string b) e)

same_states : (a b : List Names) → states_data a ≡ states_data b → a ≡ b
same_states a b e = map_apart state_data same_state a b (same_items (map state_data a) (map state_data b) e)

same_value : (o : Option Data) (v w : Data) → o ≡ Some v → o ≡ Some w → v ≡ w
same_value o v w a b = let both : Some v ≡ Some w = sym a ∙ b in cc

no_value : {X : Type 0} (o : Option Data) (v : Data) → o ≡ Some v → o ≡ None → X
no_value o v a b = absurd (let both : Some v ≡ None = sym a ∙ b in cc)

same_written : (d : Data) (v w : Trace) → HasTrace d v → HasTrace d w → v ≡ w
same_written d (Infinite a b) (Infinite a' b') h k =
    ap₂ Infinite (same_states a a' (same_value (get (codes "stem") d) (states_data a) (states_data a') h.1 k.1))
    (same_states b b' (same_value (get (codes "loop") d) (states_data b) (states_data b') h.2 k.2))
same_written d (Infinite a b) (Finite c) h k = no_value (get (codes "states") d) (states_data c) k.0 h.0
same_written d (Finite c) (Infinite a b) h k = no_value (get (codes "states") d) (states_data c) h.0 k.0
same_written d (Finite c) (Finite c') h k = ap Finite (same_states c c' (same_value (get (codes "states") d) (states_data c) (states_data c') h.0 k.0))

same_string : (o : Option Data) (s t : List ℕ) → o ≡ Some (string s) → o ≡ Some (string t) → s ≡ t
same_string o s t a b = let both : Some (string s) ≡ Some (string t) = sym a ∙ b in cc

same_sentence : (d : Data) (s t : Option (List ℕ)) → IsSentence d s → IsSentence d t → s ≡ t
same_sentence d None None h k = refl
same_sentence d None (Some t) h k = no_value (get (codes "text") d) (string t) k h
same_sentence d (Some s) None h k = no_value (get (codes "text") d) (string s) h k
same_sentence d (Some s) (Some t) h k = ap Some (same_string (get (codes "text") d) s t h k)

same_put : IsOneOutcome → (ds : Definitions) (text : List ℕ) (f g : Formula) → IsPutIn ds text f → IsPutIn ds text g → f ≡ g
same_put o ds text f g p q = p.put ∙ ap (substituted ds) (o.formula text p.written q.written p.accepted.reads q.accepted.reads) ∙ sym q.put

-- ---- entries, and the document

an_item : Role → List ℕ → Option (List ℕ) → List ℕ → Formula → ItemValue
an_item r n s t f = record { role = r; name = n; sentence = s; text = t; formula = f }

same_item : IsOneOutcome → (role : Role) (ds : Definitions) (taken : List (List ℕ)) (d : Data) (i j : ItemValue) → IsItem role ds taken d i
    → IsItem role ds taken d j → i ≡ j
unfolding an_item
same_item o role ds taken d i j h k =
    let text : i.text ≡ j.text = same_string (get (codes "formula") d) i.text j.text h.formula k.formula in
    let formula : i.formula ≡ j.formula = same_put o ds j.text i.formula j.formula (subst (λ t. IsPutIn ds t i.formula) text h.put) k.put in
    ap (λ r. an_item r i.name i.sentence i.text i.formula) (h.serves ∙ sym k.serves)
    ∙ ap (λ n. an_item j.role n i.sentence i.text i.formula) (same_string (get (codes "name") d) i.name j.name h.name.text k.name.text)
    ∙ ap (λ s. an_item j.role j.name s i.text i.formula) (same_sentence d i.sentence j.sentence h.sentence k.sentence)
    ∙ ap (λ t. an_item j.role j.name j.sentence t i.formula) text
    ∙ ap (λ f. an_item j.role j.name j.sentence j.text f) formula

are_same_items : IsOneOutcome → (role : Role) (ds : Definitions) (taken : List (List ℕ)) (es : List Data) (is js : List ItemValue)
    → AreItems role ds taken es is → AreItems role ds taken es js → is ≡ js
are_same_items o role ds taken [] [] [] h k = refl
are_same_items o role ds taken [] [] (j ∷ js) h k = absurd k
are_same_items o role ds taken [] (i ∷ is) js h k = absurd h
are_same_items o role ds taken (e ∷ es) [] js h k = absurd h
are_same_items o role ds taken (e ∷ es) (i ∷ is) [] h k = absurd k
are_same_items o role ds taken (e ∷ es) (i ∷ is) (j ∷ js) h k =
    ap₂ ◌∷◌ (same_item o role ds taken e i j h.0 k.0) (are_same_items o role ds (taken ++ in_list (name_at e)) es is js h.1 k.1)

a_behaviour : List ℕ → Option (List ℕ) → Trace → BehaviourValue
a_behaviour n s t = record { name = n; sentence = s; trace = t }

same_behaviour : (taken : List (List ℕ)) (d : Data) (a b : BehaviourValue) → IsBehaviour taken d a → IsBehaviour taken d b → a ≡ b
unfolding a_behaviour
same_behaviour taken d a b h k =
    let written : h.written ≡ k.written = same_written d h.written k.written h.states k.states in
    let trace : a.trace ≡ b.trace = one_trace k.written a.trace b.trace (subst (λ w. IsTraceOf w a.trace) written h.sets) k.sets in
    ap (λ n. a_behaviour n a.sentence a.trace) (same_string (get (codes "name") d) a.name b.name h.name.text k.name.text)
    ∙ ap (λ s. a_behaviour b.name s a.trace) (same_sentence d a.sentence b.sentence h.sentence k.sentence)
    ∙ ap (λ t. a_behaviour b.name b.sentence t) trace

are_same_behaviours : (taken : List (List ℕ)) (es : List Data) (cs bs : List BehaviourValue) → AreBehaviours taken es cs → AreBehaviours taken es bs → cs ≡ bs
are_same_behaviours taken [] [] [] h k = refl
are_same_behaviours taken [] [] (b ∷ bs) h k = absurd k
are_same_behaviours taken [] (a ∷ cs) bs h k = absurd h
are_same_behaviours taken (e ∷ es) [] bs h k = absurd h
are_same_behaviours taken (e ∷ es) (a ∷ cs) [] h k = absurd k
are_same_behaviours taken (e ∷ es) (a ∷ cs) (b ∷ bs) h k =
    ap₂ ◌∷◌ (same_behaviour taken e a b h.0 k.0) (are_same_behaviours (taken ++ in_list (name_at e)) es cs bs h.1 k.1)

has_same_definitions : IsOneOutcome → (root : Data) (a b : Definitions) → HasDefinitions root a → HasDefinitions root b → a ≡ b
has_same_definitions o root a b h k =
    let e : h.0 ≡ k.0 = same_list (entries sections.Define root) h.0 k.0 h.1 k.1 in
    same_definitions o [] k.0 a b (subst (λ es. AreDefined [] es a) e h.2) k.2

has_same_items : IsOneOutcome → (role : Role) (root : Data) (ds es : Definitions) (is js : List ItemValue) → ds ≡ es → HasItems role ds root is
    → HasItems role es root js → is ≡ js
has_same_items o role root ds es is js same h k =
    let taken = taken_before (section_of role) root in
    let e : h.0 ≡ k.0 = same_list (entries (section_of role) root) h.0 k.0 h.1 k.1 in
    are_same_items o role es taken k.0 is js (subst (λ x. AreItems role x taken k.0 is) same (subst (λ x. AreItems role ds taken x is) e h.2)) k.2

has_same_behaviours : (root : Data) (cs bs : List BehaviourValue) → HasBehaviours root cs → HasBehaviours root bs → cs ≡ bs
has_same_behaviours root cs bs h k =
    let taken = taken_before sections.Behaviour root in
    let e : h.0 ≡ k.0 = same_list (entries sections.Behaviour root) h.0 k.0 h.1 k.1 in
    are_same_behaviours taken k.0 cs bs (subst (λ x. AreBehaviours taken x cs) e h.2) k.2

a_document : Kind → List ItemValue → List BehaviourValue → DocumentValue
a_document k is bs = record { kind = k; items = is; behaviours = bs }

same_document : IsOneOutcome → (root : Data) (a b : DocumentValue) → IsDocumentOf root a → IsDocumentOf root b → a ≡ b
unfolding a_document
same_document o root a b h k =
    let ds = has_same_definitions o root h.definitions k.definitions h.defined k.defined in
    let assume = has_same_items o roles.Assume root h.definitions k.definitions h.assume k.assume ds h.assumed k.assumed in
    let require = has_same_items o roles.Require root h.definitions k.definitions h.require k.require ds h.required k.required in
    let allow = has_same_items o roles.Allow root h.definitions k.definitions h.allow k.allow ds h.allowed k.allowed in
    let ensure = has_same_items o roles.Ensure root h.definitions k.definitions h.ensure k.ensure ds h.ensured k.ensured in
    let items : a.items ≡ b.items = h.items ∙ ap₂ ◌++◌ (ap₂ ◌++◌ (ap₂ ◌++◌ assume require) allow) ensure ∙ sym k.items in
    let kinds : Some a.kind ≡ Some b.kind = sym h.kind ∙ k.kind in
    let kind : a.kind ≡ b.kind = cc in
    ap (λ x. a_document x a.items a.behaviours) kind
    ∙ ap (λ is. a_document b.kind is a.behaviours) items
    ∙ ap (λ bs. a_document b.kind b.items bs) (has_same_behaviours root a.behaviours b.behaviours h.behaviours k.behaviours)

pub one_document : IsOneOutcome → (text : List ℕ) (a b : DocumentValue) → IsDocument text a → IsDocument text b → a ≡ b
one_document o text a b h k =
    let both : Some h.members ≡ Some k.members = sym h.written.parsed ∙ k.written.parsed in
    let same : h.members ≡ k.members = cc in
    same_document o (table k.members) a b (subst (λ ms. IsDocumentOf (table ms) a) same h.document) k.document
