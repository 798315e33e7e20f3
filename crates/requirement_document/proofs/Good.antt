-- An entry that is read has none of the causes for which one is refused.
use Rattle.std.proofs.Common.{◌≡◌, ℕ, ◌<◌, ◌⊎◌, inl, inr, Bool, false, List, [], ◌∷◌, length, Option, Some, None, codes, sym, ap, subst, ◌∙◌, arith, true≢false}
use Rattle.toml.specs.Data.{Data, string, get, as_str, as_table}
use Rattle.ltl_syntax.specs.Formula.{Formula}
use Rattle.ltl_syntax.specs.Size.{formula_size}
use Rattle.ltl_lexer.specs.Tokens.{IsLexicalFault}
use Rattle.ltl_parser.specs.Text.{ReadsText, IsGrammarFault}
use Rattle.ltl_word.specs.declared.trace.Trace.{Trace}
use Rattle.ltl_word.specs.declared.trace.Trace.TheVariants.{Infinite, Finite}
use Rattle.ltl_word.specs.Trace.{Names, IsTrace}
use Rattle.requirement_document.specs.declared.fault.Section.TheVariants as sections
use Rattle.requirement_document.specs.declared.fault.Key.{Key}
use Rattle.requirement_document.specs.declared.fault.Key.TheVariants as keys
use Rattle.requirement_document.specs.declared.fault.Cause.{Cause}
use Rattle.requirement_document.specs.declared.fault.Cause.TheVariants as causes
use Rattle.requirement_document.specs.Keys.{key_word, knows, unknown_in, HasKeys, HasUnknown, HasFormulas, IsWanted}
use Rattle.requirement_document.specs.Substitution.{Definitions, substituted}
use Rattle.requirement_document.specs.Entry.{Context, HasText, IsSentence, IsNewName, IsPutIn, IsLetter, HasTrace, states_data, has_form, is_among, DoesNotFit}
use Rattle.requirement_document.specs.Entry.{IsFormulaCause, HasFormulaCause, HasCause}

-- a text has one formula, or a fault
pub record IsOneOutcome : Type 0 where
  pub formula : (text : List ℕ) (f g : Formula) → ReadsText text f → ReadsText text g → f ≡ g
  pub lexical : (text : List ℕ) (a : ℕ) (f : Formula) → IsLexicalFault text a → ReadsText text f → ⊥
  pub grammar : (text : List ℕ) (a : ℕ) (f : Formula) → IsGrammarFault text a → ReadsText text f → ⊥

-- what a definition, an item and a behaviour have in common, and what each has of its own
pub record IsGood (x : Context) (d : Data) : Type 0 where
  pub known : HasKeys (knows x.section) d
  pub sentence : Option (List ℕ)
  pub said : IsSentence d sentence
  pub name : List ℕ
  pub named : IsNewName d x.taken name
  pub letter : x.section ≡ sections.Define → IsLetter name
  pub formula : HasFormulas x.section → (text : List ℕ) × (f : Formula) × HasText d keys.Formula text × IsPutIn x.definitions text f
  pub trace : x.section ≡ sections.Behaviour → (t : Trace) × HasTrace d t × IsTrace t

-- ---- formulas

formula_excluded : IsOneOutcome → (ds : Definitions) (text : List ℕ) (f : Formula) → IsPutIn ds text f → (c : Cause) → IsFormulaCause ds text c → ⊥
formula_excluded o ds text f p causes.TooLong h = absurd (omega (arith, p.accepted.short))
formula_excluded o ds text f p (causes.Lexical byte) h = o.lexical text byte p.written h.1 p.accepted.reads
formula_excluded o ds text f p (causes.Grammar byte) h = o.grammar text byte p.written h.1 p.accepted.reads
formula_excluded o ds text f p (causes.Size count) h =
    let same : h.0 ≡ p.written = o.formula text h.0 p.written h.2 p.accepted.reads in
    by h.3 (ap formula_size same) (ap (λ g. formula_size (substituted ds g)) same ∙ sym (ap formula_size p.put)) h.4 where
      by : (count ≡ formula_size h.0) ⊎ (count ≡ formula_size (substituted ds h.0)) → formula_size h.0 ≡ formula_size p.written
          → formula_size (substituted ds h.0) ≡ formula_size f → 16384 < count → ⊥
      by (inl e) a b many = omega (arith, e, p.accepted.few)
      by (inr e) a b many = omega (arith, e, p.few)
formula_excluded o ds text f p c h = absurd h

same_text : (d : Data) (k : Key) (s t : List ℕ) → HasText d k s → HasText d k t → s ≡ t
same_text d k s t a b = let both : Some (string s) ≡ Some (string t) = sym a ∙ b in cc

with_formula : IsOneOutcome → (x : Context) (d : Data) → IsGood x d → (c : Cause) → HasFormulaCause x d c → ⊥
with_formula o x d g c h =
    let p = g.formula h.0 in
    formula_excluded o x.definitions p.0 p.1 p.3 c (subst (λ t. IsFormulaCause x.definitions t c) (same_text d keys.Formula h.1 p.0 h.2 p.2) h.3)

-- ---- keys and values

unlike : (o : Option Data) (v w : Data) → o ≡ Some v → o ≡ Some w → v ≡ w
unlike o v w a b = let both : Some v ≡ Some w = sym a ∙ b in cc

not_there : (o : Option Data) (v : Data) → o ≡ Some v → o ≡ None → ⊥
not_there o v a b = let both : Some v ≡ None = sym a ∙ b in cc

fits_text : (o : Option Data) (v : Data) (s : List ℕ) → o ≡ Some v → o ≡ Some (string s) → as_str v ≡ None → ⊥
fits_text o v s a b n = let both : Some s ≡ None = sym (ap as_str (unlike o v (string s) a b)) ∙ n in cc

no_unknown : (known : List ℕ → Bool) (d : Data) (key : List ℕ) → HasKeys known d → HasUnknown known d key → ⊥
no_unknown known d key h u =
    let same : h.0 ≡ u.0 = cc in
    let both : None ≡ Some key = sym h.2 ∙ ap (unknown_in known) same ∙ u.2 in cc

no_table : (known : List ℕ → Bool) (d : Data) → HasKeys known d → as_table d ≡ None → ⊥
no_table known d h n = let both : Some h.0 ≡ None = sym h.1 ∙ n in cc

-- ---- states

fits_states : (o : Option Data) (v : Data) (all : List Names) → o ≡ Some v → o ≡ Some (states_data all) → ((all : List Names) → v ≡ states_data all → ⊥) → ⊥
fits_states o v all a b no' = no' all (unlike o v (states_data all) a b)

some_states : (all : List Names) → 0 < length all → states_data all ≡ states_data [] → ⊥
some_states [] lt e = absurd (omega arith)
some_states (s ∷ all) lt e = cc

same_form : (a b c a' b' c' : Option Data) → a ≡ a' → b ≡ b' → c ≡ c' → has_form a b c ≡ has_form a' b' c'
same_form a b c a' b' c' p q r = ap (λ x. has_form x b c) p ∙ ap (λ y. has_form a' y c) q ∙ ap (λ z. has_form a' b' z) r

states_fit : (d : Data) (t : Trace) (v : Data) → HasTrace d t → get (codes "states") d ≡ Some v → ((all : List Names) → v ≡ states_data all → ⊥) → ⊥
states_fit d (Finite states) v h e no' = fits_states (get (codes "states") d) v states e h.0 no'
states_fit d (Infinite stem loop_part) v h e no' = not_there (get (codes "states") d) v e h.0

stem_fits : (d : Data) (t : Trace) (v : Data) → HasTrace d t → get (codes "stem") d ≡ Some v → ((all : List Names) → v ≡ states_data all → ⊥) → ⊥
stem_fits d (Finite states) v h e no' = not_there (get (codes "stem") d) v e h.1
stem_fits d (Infinite stem loop_part) v h e no' = fits_states (get (codes "stem") d) v stem e h.1 no'

loop_fits : (d : Data) (t : Trace) (v : Data) → HasTrace d t → get (codes "loop") d ≡ Some v → ((all : List Names) → v ≡ states_data all → ⊥) → ⊥
loop_fits d (Finite states) v h e no' = not_there (get (codes "loop") d) v e h.2
loop_fits d (Infinite stem loop_part) v h e no' = fits_states (get (codes "loop") d) v loop_part e h.2 no'

formed : (d : Data) (t : Trace) → HasTrace d t → has_form (get (codes "states") d) (get (codes "stem") d) (get (codes "loop") d) ≡ false → ⊥
formed d (Finite states) h e =
    true≢false (sym (same_form (get (codes "states") d) (get (codes "stem") d) (get (codes "loop") d) (Some (states_data states)) None None h.0 h.1 h.2) ∙ e)
formed d (Infinite stem loop_part) h e =
    true≢false (sym (same_form (get (codes "states") d) (get (codes "stem") d) (get (codes "loop") d) None (Some (states_data stem))
    (Some (states_data loop_part)) h.0 h.1 h.2) ∙ e)

has_state : (d : Data) (t : Trace) → HasTrace d t → IsTrace t → get (codes "states") d ≡ Some (states_data []) → ⊥
has_state d (Finite states) h some e = some_states states some (unlike (get (codes "states") d) (states_data states) (states_data []) h.0 e)
has_state d (Infinite stem loop_part) h some e = not_there (get (codes "states") d) (states_data []) e h.0

has_loop : (d : Data) (t : Trace) → HasTrace d t → IsTrace t → get (codes "loop") d ≡ Some (states_data []) → ⊥
has_loop d (Finite states) h some e = not_there (get (codes "loop") d) (states_data []) e h.2
has_loop d (Infinite stem loop_part) h some e = some_states loop_part some (unlike (get (codes "loop") d) (states_data loop_part) (states_data []) h.2 e)

-- ---- all causes

sentence_fits : (d : Data) (s : Option (List ℕ)) (v : Data) → IsSentence d s → get (codes "text") d ≡ Some v → as_str v ≡ None → ⊥
sentence_fits d None v h e n = not_there (get (codes "text") d) v e h
sentence_fits d (Some text) v h e n = fits_text (get (codes "text") d) v text e h n

value_fits : (x : Context) (d : Data) → IsGood x d → (k : Key) (v : Data) → get (key_word k) d ≡ Some v → DoesNotFit x.section k v → ⊥
value_fits x d g keys.Name v e n = fits_text (get (codes "name") d) v g.name e g.named.text n
value_fits x d g keys.Text v e n = sentence_fits d g.sentence v g.said e n
value_fits x d g keys.Formula v e n = let p = g.formula n.0 in fits_text (get (codes "formula") d) v p.0 e p.2 n.1
value_fits x d g keys.States v e n = let t = g.trace n.0 in states_fit d t.0 v t.1 e n.1
value_fits x d g keys.Stem v e n = let t = g.trace n.0 in stem_fits d t.0 v t.1 e n.1
value_fits x d g keys.Loop v e n = let t = g.trace n.0 in loop_fits d t.0 v t.1 e n.1
value_fits x d g k v e n = absurd n

is_there : (x : Context) (d : Data) → IsGood x d → (k : Key) → IsWanted x.section k → get (key_word k) d ≡ None → ⊥
is_there x d g keys.Name w e = not_there (get (codes "name") d) (string g.name) g.named.text e
is_there x d g keys.Formula w e = let p = g.formula w in not_there (get (codes "formula") d) (string p.0) p.2 e
is_there x d g k w e = absurd w

pub good_has_none : IsOneOutcome → (x : Context) (d : Data) → IsGood x d → (c : Cause) → HasCause x d c → ⊥
good_has_none o x d g causes.TooLong h = with_formula o x d g causes.TooLong h
good_has_none o x d g (causes.UnknownKey key) h = no_unknown (knows x.section) d _ g.known h
good_has_none o x d g (causes.Unfit key) h = value_fits x d g key h.0 h.1 h.2
good_has_none o x d g causes.NotTable h = no_table (knows x.section) d g.known h
good_has_none o x d g (causes.Missing key) h = is_there x d g key h.0 h.1
good_has_none o x d g causes.EmptyName h = g.named.some (same_text d keys.Name g.name [] g.named.text h)
good_has_none o x d g causes.NameTwice h = true≢false (sym h.2 ∙ ap (λ n. is_among n x.taken) (same_text d keys.Name h.0 g.name h.1 g.named.text) ∙ g.named.new)
good_has_none o x d g causes.NoLetter h = h.3 (subst IsLetter (same_text d keys.Name g.name h.1 g.named.text h.2) (g.letter h.0))
good_has_none o x d g (causes.Lexical byte) h = with_formula o x d g (causes.Lexical byte) h
good_has_none o x d g (causes.Grammar byte) h = with_formula o x d g (causes.Grammar byte) h
good_has_none o x d g (causes.Size count) h = with_formula o x d g (causes.Size count) h
good_has_none o x d g causes.Form h = let t = g.trace h.0 in formed d t.0 t.1 h.1
good_has_none o x d g causes.NoState h = let t = g.trace h.0 in has_state d t.0 t.1 t.2 h.1
good_has_none o x d g causes.EmptyLoop h = let t = g.trace h.0 in has_loop d t.0 t.1 t.2 h.1
good_has_none o x d g c h = absurd h
