-- A refusal, seen from the entry, from the document and from the text.
use Rattle.std.proofs.Common.{◌≡◌, ℕ, List, [], ◌++◌, take, Some, Result, Ok, Err, IfErr, IsErr, sym, subst}
use Rattle.std.specs.List.{slice_get}
use Rattle.std.specs.Result.{IsErrAnd}
use Rattle.toml.specs.Data.{Data, table, Members}
use Rattle.requirement_document.specs.declared.document.Role.{Role}
use Rattle.requirement_document.specs.declared.document.Role.TheVariants as roles
use Rattle.requirement_document.specs.declared.fault.Section.{Section}
use Rattle.requirement_document.specs.declared.fault.Section.TheVariants as sections
use Rattle.requirement_document.specs.declared.fault.Key.TheVariants as keys
use Rattle.requirement_document.specs.declared.fault.Cause.{Cause}
use Rattle.requirement_document.specs.declared.fault.Cause.TheVariants as causes
use Rattle.requirement_document.specs.declared.fault.Refused.{Refused}
use Rattle.requirement_document.specs.declared.fault.Refused.TheVariants as refused
use Rattle.requirement_document.specs.declared.fault.Refusal.{Refusal}
use Rattle.requirement_document.specs.declared.fault.Refusal.TheVariants as refusals
use Rattle.requirement_document.specs.Keys.{HasFormulas}
use Rattle.requirement_document.specs.Substitution.{Definitions}
use Rattle.requirement_document.specs.Entry.{HasText, HasCause, IsFormulaCause}
use Rattle.requirement_document.specs.Document.{entries, section_of, AreDefined, defined_before, names_of, taken_before, taken_at, in_entry, IsWritten}
use Rattle.requirement_document.specs.Document.{IsRefused, IsRefusedOf, of_document}
use Rattle.requirement_document.specs.Inner.{IsRefusedAt, IsRefusedText, IsPlaced}

-- what is wrong with the text of the formula of an entry is wrong with the entry
formula_cause : (s : Section) (ds : Definitions) (taken : List (List ℕ)) (d : Data) (text : List ℕ) (c : Cause)
    → HasFormulas s → HasText d keys.Formula text → IsFormulaCause ds text c → HasCause (record { section = s; definitions = ds; taken = taken }) d c
formula_cause s ds taken d text causes.TooLong f t h = (f, text, t, h)
formula_cause s ds taken d text (causes.Lexical byte) f t h = (f, text, t, h)
formula_cause s ds taken d text (causes.Grammar byte) f t h = (f, text, t, h)
formula_cause s ds taken d text (causes.Size count) f t h = (f, text, t, h)
formula_cause s ds taken d text c f t h = absurd h

pub formula_refused : (s : Section) (ds : Definitions) (taken : List (List ℕ)) (d : Data) (text : List ℕ) (r : Refusal)
    → HasFormulas s → HasText d keys.Formula text → IsRefusedText ds text r → IsRefusedAt s ds taken d r
formula_refused s ds taken d text (refusals.Cause c) f t h = formula_cause s ds taken d text c f t h
formula_refused s ds taken d text refusals.NoMemory f t h = tt

-- what `?` hands on
pub handed_on : {Y : Type 0} (P : Refusal → Type 0) (e : Refusal) (r : Result Y Refusal) → P e → IsErr r × IsErrAnd r (λ x. x ≡ e) → IfErr r P
handed_on P e (Ok y) p w = tt
handed_on P e (Err x) p w = subst P (sym w.1) p

-- the items of each role have formulas
pub role_has_formulas : (role : Role) → HasFormulas (section_of role)
role_has_formulas roles.Assume = tt
role_has_formulas other = tt

-- an entry that is refused is a fault of the document
pub refused_at : (root : Data) (s : Section) (index : ℕ) (all : List Data) (d : Data) (define : List Data) (ds : Definitions) (refusal : Refusal) (r : Refused)
    → entries s root ≡ Some all → slice_get all index ≡ Some d → entries sections.Define root ≡ Some define → AreDefined [] (defined_before s index define) ds
    → IsRefusedAt s ds (taken_at s ds root (take index all)) d refusal → IsPlaced s index d refusal r → IsRefusedOf root r
refused_at root s index all d define ds refusal refused.NoMemory w t e a h p = tt
refused_at root s index all d define ds refusal (refused.Fault f) w t e a h p =
    in_entry (record {
      section = s;
      index = index;
      all = all;
      entry = d;
      written = w;
      there = t;
      stands = p.1;
      define = define;
      definitions = ds;
      defines = e;
      defined = a;
      wrong = subst (IsRefusedAt s ds (taken_at s ds root (take index all)) d) p.0 h;
    })

-- a fault of the document is one of its text
pub refused_text : (text : List ℕ) (ms : Members) (r : Refused) → IsWritten text ms → IsRefusedOf (table ms) r → IsRefused text r
refused_text text ms refused.NoMemory w h = tt
refused_text text ms (refused.Fault f) w h = of_document ms w h

-- an item that is refused, and a behaviour, where the names of the entries before it are taken
pub item_refused : (root : Data) (role : Role) (index : ℕ) (all : List Data) (d : Data) (define : List Data) (ds : Definitions) (taken : List (List ℕ))
    (refusal : Refusal) (r : Refused)
    → entries (section_of role) root ≡ Some all → slice_get all index ≡ Some d → entries sections.Define root ≡ Some define → AreDefined [] define ds
    → taken ≡ taken_before (section_of role) root ++ names_of (take index all)
    → IsRefusedAt (section_of role) ds taken d refusal → IsPlaced (section_of role) index d refusal r → IsRefusedOf root r
item_refused root roles.Assume index all d define ds taken refusal r w t e a same h p =
    refused_at root sections.Assume index all d define ds refusal r w t e a (subst (λ n. IsRefusedAt sections.Assume ds n d refusal) same h) p
item_refused root roles.Require index all d define ds taken refusal r w t e a same h p =
    refused_at root sections.Require index all d define ds refusal r w t e a (subst (λ n. IsRefusedAt sections.Require ds n d refusal) same h) p
item_refused root roles.Allow index all d define ds taken refusal r w t e a same h p =
    refused_at root sections.Allow index all d define ds refusal r w t e a (subst (λ n. IsRefusedAt sections.Allow ds n d refusal) same h) p
item_refused root roles.Ensure index all d define ds taken refusal r w t e a same h p =
    refused_at root sections.Ensure index all d define ds refusal r w t e a (subst (λ n. IsRefusedAt sections.Ensure ds n d refusal) same h) p

pub behaviour_refused : (root : Data) (index : ℕ) (all : List Data) (d : Data) (define : List Data) (ds : Definitions) (taken : List (List ℕ))
    (refusal : Refusal) (r : Refused)
    → entries sections.Behaviour root ≡ Some all → slice_get all index ≡ Some d → entries sections.Define root ≡ Some define → AreDefined [] define ds
    → taken ≡ taken_before sections.Behaviour root ++ names_of (take index all)
    → IsRefusedAt sections.Behaviour ds taken d refusal → IsPlaced sections.Behaviour index d refusal r → IsRefusedOf root r
behaviour_refused root index all d define ds taken refusal r w t e a same h p =
    refused_at root sections.Behaviour index all d define ds refusal r w t e a (subst (λ n. IsRefusedAt sections.Behaviour ds n d refusal) same h) p
