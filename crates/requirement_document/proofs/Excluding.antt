-- No text is a document and has a fault.
use Rattle.std.proofs.Common.{◌≡◌, ℕ, zero, suc, List, [], ◌∷◌, ◌++◌, take, string_bytes, Option, Some, None, sym, ap, ap₂, subst, ◌∙◌, arith, append_assoc}
use Rattle.std.proofs.Common.{append-nil}
use Rattle.std.specs.List.{slice_get}
use Rattle.toml.specs.Data.{Data, Members, string, table, get}
use Rattle.ltl_syntax.specs.Formula.{Formula}
use Rattle.requirement_document.specs.declared.document.Role.{Role}
use Rattle.requirement_document.specs.declared.document.Role.TheVariants as roles
use Rattle.requirement_document.specs.declared.fault.Section.{Section}
use Rattle.requirement_document.specs.declared.fault.Section.TheVariants as sections
use Rattle.requirement_document.specs.declared.fault.Key.TheVariants as keys
use Rattle.requirement_document.specs.declared.fault.Cause.{Cause}
use Rattle.requirement_document.specs.declared.fault.Cause.TheVariants as causes
use Rattle.requirement_document.specs.declared.fault.DocumentFault.{DocumentFault}
use Rattle.requirement_document.specs.Keys.{section_word, knows, knows_document, unknown_in, HasKeys}
use Rattle.requirement_document.specs.Substitution.{Definitions, substituted, names_defined}
use Rattle.requirement_document.specs.Values.{ItemValue, BehaviourValue, DocumentValue}
use Rattle.requirement_document.specs.Entry.{IsPutIn, IsDefinition, IsItem, IsBehaviour, HasCause}
use Rattle.requirement_document.specs.Document.{entries, section_of, name_at, in_list, names_of, taken_before, AreDefined, AreItems, AreBehaviours}
use Rattle.requirement_document.specs.Document.{HasDefinitions, HasItems, IsDocumentOf, IsWritten, IsDocument, defined_before, taken_at, HasDocumentCause}
use Rattle.requirement_document.specs.Document.{HasFaultOf, as_whole, in_entry, HasTextCause, HasFault, of_text, of_document}
use Rattle.requirement_document.proofs.Looking.{entries_refused, entries_many}
use Rattle.requirement_document.proofs.Good.{IsOneOutcome, IsGood, good_has_none}

-- ---- each kind of entry is good

good_definition : (ds : Definitions) (d : Data) (new : List ℕ × Formula) → IsDefinition ds d new
    → IsGood (record { section = sections.Define; definitions = ds; taken = names_defined ds }) d
good_definition ds d new h = record {
  known = h.known;
  sentence = h.sentence;
  said = h.said;
  name = new.0;
  named = h.name;
  letter = λ e. h.letter;
  formula = λ f. (h.text, new.1, h.formula, h.put);
  trace = λ e. absurd (cc);
}

good_item : (role : Role) (ds : Definitions) (taken : List (List ℕ)) (d : Data) (i : ItemValue) → IsItem role ds taken d i
    → IsGood (record { section = section_of role; definitions = ds; taken = taken }) d
good_item role ds taken d i h = record {
  known = keys_of role h.known;
  sentence = i.sentence;
  said = h.sentence;
  name = i.name;
  named = h.name;
  letter = λ e. absurd (no_define role e);
  formula = λ f. (i.text, i.formula, h.formula, h.put);
  trace = λ e. absurd (no_behaviour role e);
} where
  keys_of : (r : Role) → HasKeys (knows sections.Assume) d → HasKeys (knows (section_of r)) d
  keys_of roles.Assume k = k
  keys_of other k = k

  no_define : (r : Role) → section_of r ≡ sections.Define → ⊥
  no_define roles.Assume e = cc
  no_define other e = cc

  no_behaviour : (r : Role) → section_of r ≡ sections.Behaviour → ⊥
  no_behaviour roles.Assume e = cc
  no_behaviour other e = cc

good_behaviour : (ds : Definitions) (taken : List (List ℕ)) (d : Data) (b : BehaviourValue) → IsBehaviour taken d b
    → IsGood (record { section = sections.Behaviour; definitions = ds; taken = taken }) d
good_behaviour ds taken d b h = record {
  known = h.known;
  sentence = b.sentence;
  said = h.sentence;
  name = b.name;
  named = h.name;
  letter = λ e. absurd (cc);
  formula = λ f. absurd f;
  trace = λ e. (h.written, h.states, h.some);
}

-- ---- entries by their places

same_definition : IsOneOutcome → (ds : Definitions) (d : Data) (a b : List ℕ × Formula) → IsDefinition ds d a → IsDefinition ds d b → a ≡ b
same_definition o ds d a b h k =
    let names : Some (string a.0) ≡ Some (string b.0) = sym h.name.text ∙ k.name.text in
    let texts : Some (string h.text) ≡ Some (string k.text) = sym h.formula ∙ k.formula in
    let name : a.0 ≡ b.0 = cc in
    let text : h.text ≡ k.text = cc in
    let p : IsPutIn ds k.text a.1 = subst (λ t. IsPutIn ds t a.1) text h.put in
    let written : p.written ≡ k.put.written = o.formula k.text p.written k.put.written p.accepted.reads k.put.accepted.reads in
    let formula : a.1 ≡ b.1 = p.put ∙ ap (substituted ds) written ∙ sym k.put.put in
    ap₂ (λ (n : List ℕ) (f : Formula). (n, f)) name formula

pub same_definitions : IsOneOutcome → (before : Definitions) (es : List Data) (a b : Definitions) → AreDefined before es a → AreDefined before es b → a ≡ b
same_definitions o before [] a b h k = h ∙ sym k
same_definitions o before (e ∷ es) a b h k =
    same_definitions o (before ++ k.0 ∷ []) es a b (subst (λ n. AreDefined (before ++ n ∷ []) es a) (same_definition o before e h.0 k.0 h.1 k.1) h.2) k.2

defined_there : IsOneOutcome → (before : Definitions) (es : List Data) (i : ℕ) (d : Data) (all part : Definitions) → AreDefined before es all
    → AreDefined before (take i es) part → slice_get es i ≡ Some d
    → (new : List ℕ × Formula) × IsDefinition part d new
defined_there o before [] i d all part h k at = absurd (cc)
defined_there o before (e ∷ es) zero d all part h k at =
    let same : e ≡ d = cc in (h.0, subst (λ b. IsDefinition b d h.0) (sym k) (subst (λ x. IsDefinition before x h.0) same h.1))
defined_there o before (e ∷ es) (suc i) d all part h k at =
    defined_there o (before ++ k.0 ∷ []) es i d all part
    (subst (λ n. AreDefined (before ++ n ∷ []) es all) (same_definition o before e h.0 k.0 h.1 k.1) h.2) k.2 at

item_there : (role : Role) (ds : Definitions) (taken : List (List ℕ)) (es : List Data) (is : List ItemValue) (i : ℕ) (d : Data) → AreItems role ds taken es is
    → slice_get es i ≡ Some d
    → (x : ItemValue) × IsItem role ds (taken ++ names_of (take i es)) d x
item_there role ds taken [] is i d h at = absurd (cc)
item_there role ds taken (e ∷ es) [] i d h at = absurd h
item_there role ds taken (e ∷ es) (x ∷ is) zero d h at =
    let same : e ≡ d = cc in (x, subst (λ t. IsItem role ds t d x) (sym (append-nil taken)) (subst (λ y. IsItem role ds taken y x) same h.0))
item_there role ds taken (e ∷ es) (x ∷ is) (suc i) d h at =
    let r = item_there role ds (taken ++ in_list (name_at e)) es is i d h.1 at in
    (r.0, subst (λ t. IsItem role ds t d r.0) (append_assoc taken (in_list (name_at e)) (names_of (take i es))) r.1)

behaviour_there : (taken : List (List ℕ)) (es : List Data) (bs : List BehaviourValue) (i : ℕ) (d : Data) → AreBehaviours taken es bs → slice_get es i ≡ Some d
    → (x : BehaviourValue) × IsBehaviour (taken ++ names_of (take i es)) d x
behaviour_there taken [] bs i d h at = absurd (cc)
behaviour_there taken (e ∷ es) [] i d h at = absurd h
behaviour_there taken (e ∷ es) (x ∷ bs) zero d h at =
    let same : e ≡ d = cc in (x, subst (λ t. IsBehaviour t d x) (sym (append-nil taken)) (subst (λ y. IsBehaviour taken y x) same h.0))
behaviour_there taken (e ∷ es) (x ∷ bs) (suc i) d h at =
    let r = behaviour_there (taken ++ in_list (name_at e)) es bs i d h.1 at in
    (r.0, subst (λ t. IsBehaviour t d r.0) (append_assoc taken (in_list (name_at e)) (names_of (take i es))) r.1)

-- ---- the document

pub same_list : (o : Option (List Data)) (a b : List Data) → o ≡ Some a → o ≡ Some b → a ≡ b
same_list o a b p q = let both : Some a ≡ Some b = sym p ∙ q in cc

module _ (o : IsOneOutcome) (root : Data) (index : ℕ) (all : List Data) (d : Data) (define : List Data) (ds : Definitions) (c : Cause)
    (at : slice_get all index ≡ Some d) (defines : entries sections.Define root ≡ Some define) where
  item_excluded : (role : Role) (definitions : Definitions) (is : List ItemValue) → HasDefinitions root definitions → HasItems role definitions root is
      → entries (section_of role) root ≡ Some all → AreDefined [] define ds
      → HasCause (record { section = section_of role; definitions = ds; taken = taken_before (section_of role) root ++ names_of (take index all) }) d c → ⊥
  item_excluded role definitions is h k w a wrong =
      let e : h.0 ≡ define = same_list (entries sections.Define root) h.0 define h.1 defines in
      let f : k.0 ≡ all = same_list (entries (section_of role) root) k.0 all k.1 w in
      let g : definitions ≡ ds = same_definitions o [] define definitions ds (subst (λ es. AreDefined [] es definitions) e h.2) a in
      let items : AreItems role ds (taken_before (section_of role) root) all is =
      subst (λ x. AreItems role x (taken_before (section_of role) root) all is) g
      (subst (λ es. AreItems role definitions (taken_before (section_of role) root) es is) f k.2) in
      let i = item_there role ds (taken_before (section_of role) root) all is index d items at in
      good_has_none o (record { section = section_of role; definitions = ds; taken = taken_before (section_of role) root ++ names_of (take index all) }) d
      (good_item role ds _ d i.0 i.1) c wrong

  entry_excluded : (doc : DocumentValue) → IsDocumentOf root doc → (s : Section) → entries s root ≡ Some all → AreDefined [] (defined_before s index define) ds
      → HasCause (record { section = s; definitions = ds; taken = taken_at s ds root (take index all) }) d c → ⊥
  entry_excluded doc h sections.Define w a wrong =
      let e : h.defined.0 ≡ define = same_list (entries sections.Define root) h.defined.0 define h.defined.1 defines in
      let f : define ≡ all = same_list (entries sections.Define root) define all defines w in
      let n = defined_there o [] define index d h.definitions ds (subst (λ es. AreDefined [] es h.definitions) e h.defined.2) a
      (subst (λ es. slice_get es index ≡ Some d) (sym f) at) in
      good_has_none o (record { section = sections.Define; definitions = ds; taken = names_defined ds }) d (good_definition ds d n.0 n.1) c wrong
  entry_excluded doc h sections.Assume w a wrong = item_excluded roles.Assume h.definitions h.assume h.defined h.assumed w a wrong
  entry_excluded doc h sections.Require w a wrong = item_excluded roles.Require h.definitions h.require h.defined h.required w a wrong
  entry_excluded doc h sections.Allow w a wrong = item_excluded roles.Allow h.definitions h.allow h.defined h.allowed w a wrong
  entry_excluded doc h sections.Ensure w a wrong = item_excluded roles.Ensure h.definitions h.ensure h.defined h.ensured w a wrong
  entry_excluded doc h sections.Behaviour w a wrong =
      let f : h.behaviours.0 ≡ all = same_list (entries sections.Behaviour root) h.behaviours.0 all h.behaviours.1 w in
      let b = behaviour_there (taken_before sections.Behaviour root) all doc.behaviours index d
      (subst (λ es. AreBehaviours (taken_before sections.Behaviour root) es doc.behaviours) f h.behaviours.2) at in
      good_has_none o (record { section = sections.Behaviour; definitions = ds; taken = taken_before sections.Behaviour root ++ names_of (take index all) }) d
      (good_behaviour ds _ d b.0 b.1) c wrong

no_list : (o : Option (List Data)) (es : List Data) → o ≡ Some es → o ≡ None → ⊥
no_list o es p q = let both : Some es ≡ None = sym p ∙ q in cc

section_there : (root : Data) (doc : DocumentValue) → IsDocumentOf root doc → (s : Section) → entries s root ≡ None → ⊥
section_there root doc h sections.Define e = no_list (entries sections.Define root) h.defined.0 h.defined.1 e
section_there root doc h sections.Assume e = no_list (entries sections.Assume root) h.assumed.0 h.assumed.1 e
section_there root doc h sections.Require e = no_list (entries sections.Require root) h.required.0 h.required.1 e
section_there root doc h sections.Allow e = no_list (entries sections.Allow root) h.allowed.0 h.allowed.1 e
section_there root doc h sections.Ensure e = no_list (entries sections.Ensure root) h.ensured.0 h.ensured.1 e
section_there root doc h sections.Behaviour e = no_list (entries sections.Behaviour root) h.behaviours.0 h.behaviours.1 e

whole_excluded : (root : Data) (doc : DocumentValue) → IsDocumentOf root doc → (c : Cause) → HasDocumentCause root c → ⊥
whole_excluded root doc h (causes.UnknownKey key) u =
    let same : h.known.0 ≡ u.0 = cc in
    let both : None ≡ Some (string_bytes key) = sym h.known.2 ∙ ap (unknown_in knows_document) same ∙ u.2 in cc
whole_excluded root doc h (causes.Unfit keys.Traces) u = let both : Some doc.kind ≡ None = sym h.kind ∙ u in cc
whole_excluded root doc h (causes.Unfit (keys.Section s)) u = section_there root doc h s (entries_refused (get (section_word s) root) u.0 u.1 u.2)
whole_excluded root doc h (causes.TooMany s) u = section_there root doc h s (entries_many (get (section_word s) root) u.0 u.1 u.2)
whole_excluded root doc h c u = absurd u

fault_excluded : IsOneOutcome → (root : Data) (doc : DocumentValue) (f : DocumentFault) → IsDocumentOf root doc → HasFaultOf root f → ⊥
fault_excluded o root doc f h (as_whole p u) = whole_excluded root doc h f.cause u
fault_excluded o root doc f h (in_entry e) =
    entry_excluded o root e.index e.all e.entry e.define e.definitions f.cause e.there e.defines doc h e.section e.written e.defined e.wrong

text_excluded : (text : List ℕ) (ms : Members) → IsWritten text ms → (c : Cause) → HasTextCause text c → ⊥
text_excluded text ms w causes.TooLong h = absurd (omega (arith, w.short))
text_excluded text ms w (causes.NotText byte) h = h.1 w.utf8
text_excluded text ms w (causes.NotToml line column message) h = let both : Some ms ≡ None = sym w.parsed ∙ h.2 in cc
text_excluded text ms w c h = absurd h

pub document_has_none : IsOneOutcome → (text : List ℕ) (doc : DocumentValue) (f : DocumentFault) → IsDocument text doc → HasFault text f → ⊥
document_has_none o text doc f h (of_text p u) = text_excluded text h.members h.written f.cause u
document_has_none o text doc f h (of_document ms w u) =
    let both : Some ms ≡ Some h.members = sym w.parsed ∙ h.written.parsed in
    let same : ms ≡ h.members = cc in
    fault_excluded o (table h.members) doc f h.document (subst (λ m. HasFaultOf (table m) f) same u)
