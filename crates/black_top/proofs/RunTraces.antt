-- An accepted run of a formula that a text reads as has a trace whose printed text reads back.
use Rattle.std.proofs.Common.{◌≡◌, ℕ, zero, suc, ◌+◌, ◌-◌, ◌<◌, ◌≤◌, inl, inr, List, [], ◌∷◌, length, get_or, take, drop, IsUtf8, sym, subst, arith}
use Rattle.std.proofs.lemmas.Bool.{cases_lt}
use Rattle.ltl_syntax.specs.declared.node.Kind.{Kind}
use Rattle.ltl_syntax.specs.Formula.{Atom, Name, Fresh, Formula, Const, Letter, Unary, Binary}
use Rattle.ltl_syntax.specs.Table.{IsPlain}
use Rattle.ltl_lexer.specs.Tokens.{IsWord}
use Rattle.ltl_parser.specs.Text.{IsPrintable}
use Rattle.ltl_word.specs.declared.trace.Trace.{Trace}
use Rattle.ltl_word.specs.Trace.{Names}
use Rattle.ltl_word.specs.Holds.{name_of}
use Rattle.ltl_word.specs.Propositional.{HasLetter}
use Rattle.ltl_word.specs.Json.{IsSetOf}
use Rattle.ltl_closure.specs.Run.{States, RunState, HasAccepted}
use Rattle.ltl_run.specs.declared.run_state.Close.{Close}
use Rattle.ltl_run.specs.declared.run_state.Close.TheVariants as closes
use Rattle.ltl_run.specs.Plain.{IsPlainLetter, HasPlainNames}
use Rattle.ltl_run.specs.TraceOf.{Shows, AreShown, GivesTrace, closed_by}
use Rattle.ltl_run.specs.Laws.{AcceptedRunsHaveTraces, RunsSatisfy, RulesAccept}
use Rattle.ltl_run.proofs.PlainNames.{closure_letter}
use Rattle.ltl_run.proofs.Closed.{shown_gives}
use Rattle.unravel.specs.Decision.{IsTraceOfRun}
use Rattle.report.specs.Texts.{ReadsBack}
use Rattle.black_top.proofs.Listed.{listed}
use Rattle.ltl_word.proofs.Sets.{none_ascends, set_of}
use Rattle.black_top.proofs.ReadAgain.{AreTexts, AreGood, IsGood, reads_back}

-- what is known of words and of runs
pub record RunLaws : Type 0 where
  pub text : (bytes : List ℕ) → IsWord bytes → IsUtf8 bytes
  pub no_brace : (rest : List ℕ) → IsWord (123 ∷ rest) → ⊥
  pub traces : AcceptedRunsHaveTraces
  pub satisfy : RunsSatisfy
  pub rules : RulesAccept

-- ---- letters that are words

plain_word : RunLaws → (name : List ℕ) → IsWord name → IsPlain name
plain_word laws [] word = tt
plain_word laws (b ∷ rest) word = λ e. laws.no_brace rest (subst (λ x. IsWord (x ∷ rest)) e word)

letter_word : (f : Formula) → IsPrintable f → (p : Atom) → HasLetter f p → (name : List ℕ) × (Name name ≡ p) × IsWord name
letter_word (Const b) is p has = absurd has
letter_word (Letter (Name name)) is p has = (name, has, is.0)
letter_word (Letter (Fresh n)) is p has = absurd is
letter_word (Unary op a) is p has = letter_word a is.1 p has
letter_word (Binary op a b) is p has = elim has [ inl h ↦ letter_word a is.0 p h | inr h ↦ letter_word b is.1 p h ]

plain_names : RunLaws → (f : Formula) → IsPrintable f → HasPlainNames f
plain_names laws f is p has = let w = letter_word f is p has in subst IsPlainLetter w.1 (plain_word laws w.0 w.2)

name_text : RunLaws → (f : Formula) → IsPrintable f → (p : Atom) → HasLetter f p → IsUtf8 (name_of p)
name_text laws f is p has = let w = letter_word f is p has in subst (λ q. IsUtf8 (name_of q)) w.1 (laws.text w.0 w.2)

-- ---- the states that a run shows, as sets

module _ (f : Formula) (r : States) (k : ℕ) where
  each_shown : (close : Close) (t : Trace) → GivesTrace f r k close t → (i : ℕ) → i ≤ k → (names : Names) × Shows f (r i) names
  each_shown closes.Empty t (stem, e, are) i low = (get_or stem i [], are.first i low)
  each_shown closes.End t (states, e, are) i low = (get_or states i [], are.first i low)
  each_shown (closes.Loop l) t (stem, again, e, is) i low = elim (cases_lt l i) [
    | inr h ↦ (get_or stem i [], is.first i h)
    | inl h ↦
        let n = is.loop_length in
        let j : suc l + (i - suc l) ≡ i = omega arith in
        (get_or again (i - suc l) [], subst (λ m. Shows f (r m) (get_or again (i - suc l) [])) j (is.second (i - suc l) (omega arith)))
  ]

  -- a state is shown by the set of the names that show it
  set_shows : (s : RunState) (names state : Names) → Shows f s names → IsSetOf names state → Shows f s state
  set_shows s names state shows is = record {
    letters = λ p c. (λ t. (is.1 (name_of p)).1 ((shows.letters p c).0 t), λ d. (shows.letters p c).1 ((is.1 (name_of p)).0 d));
    only = λ name c. shows.only name ((is.1 name).0 c);
  }

  abbrev IsShownWell : RunState → Names → Type 0
  IsShownWell s names = Shows f s names × AreGood (names ∷ [])

  module _ (text : (p : Atom) → HasLetter f p → IsUtf8 (name_of p)) where
    shown_texts : (s : RunState) (names : Names) → Shows f s names → AreTexts names
    shown_texts s names shows n c =
        let w = shows.only n c in
        subst IsUtf8 (sym w.2) (text w.0 (closure_letter f w.0 w.1))

    shown_well : (s : RunState) (names : Names) → Shows f s names → (state : Names) × IsShownWell s state
    shown_well s names shows =
        let w = set_of names in
        let is = set_shows s names w.0 shows w.1 in
        (w.0, (is, (w.1.0, shown_texts s w.0 is, tt)))

all_good : (states : List Names) → ((i : ℕ) → i < length states → AreGood (get_or states i [] ∷ [])) → AreGood states
all_good [] each = tt
all_good (s ∷ states) each = let one = each zero (omega arith) in (one.0, one.1, all_good states (λ i low. each (suc i) (omega arith)))

take_good : (n : ℕ) (states : List Names) → AreGood states → AreGood (take n states)
take_good zero states h = tt
take_good (suc n) [] h = tt
take_good (suc n) (s ∷ states) h = (h.0, h.1, take_good n states h.2)

drop_good : (n : ℕ) (states : List Names) → AreGood states → AreGood (drop n states)
drop_good zero states h = h
drop_good (suc n) [] h = tt
drop_good (suc n) (s ∷ states) h = drop_good n states h.2

no_names_good : AreGood ([] ∷ [])
no_names_good = (none_ascends, (λ n (k, lt, e). absurd (omega arith)), tt)

closed_good : (close : Close) (states : List Names) → AreGood states → IsGood (closed_by close states)
closed_good closes.Empty states h = (h, no_names_good)
closed_good (closes.Loop l) states h = (take_good (l + 1) states h, drop_good (l + 1) states h)
closed_good closes.End states h = h

-- ---- the trace

pub run_trace : RunLaws → (f : Formula) (kind : Kind) (k : ℕ) → IsPrintable f → HasAccepted f kind k → (t : Trace) × IsTraceOfRun f kind k t × ReadsBack t
run_trace laws f kind k printable (r, run, accepted) =
    let rule = (laws.rules f kind k r).0 accepted in
    let given = laws.traces f kind k r rule.0 (plain_names laws f printable) rule.1 in
    let text = name_text laws f printable in
    let w = listed [] (λ i. IsShownWell f r k (r i)) (suc k)
    (λ i low. let one = each_shown f r k rule.0 given.0 given.1 i (omega arith) in shown_well f r k text (r i) one.0 one.1) in
    let count = w.1.0 in
    let are : AreShown f r k w.0 = record { states_length = count; first = λ i low. (w.1.1 i (omega arith)).0 } in
    let gives = shown_gives f r k kind rule.0 w.0 rule.1 are in
    let good = all_good w.0 (λ i low. (w.1.1 i (omega arith)).1) in
    let t = closed_by rule.0 w.0 in
    let is = laws.satisfy f kind k r rule.0 t run rule.1 gives in
    (t, (r, run, rule.0, rule.1, gives), reads_back t is.0 (closed_good rule.0 w.0 good))
