-- What the solver's answers to the questions of a depth say of runs.
use Rattle.std.proofs.Common.{◌≡◌, ℕ, ◌+◌, true, false, arith, ap, sym, ◌∙◌, subst, List, [], ◌∷◌, ◌++◌, All}
use Rattle.std.proofs.lemmas.List.Elements.{All-head, All-tail}
use Rattle.ltl_syntax.specs.declared.node.Kind.{Kind}
use Rattle.ltl_syntax.specs.Formula.{Formula}
use Rattle.cnf_base.specs.declared.literal.Literal.{Literal as Signed}
use Rattle.cnf_base.specs.Meaning.{Satisfies, literal_value}
use Rattle.cnf_base.specs.Known.{IsKnown}
use Rattle.ltl_closure.specs.Entries.{ClosureValue}
use Rattle.cdcl.specs.Solving.{IsConsistent}
use Rattle.cdcl.specs.SolverValue.{SolverValue, IsAnswer, value_of}
use Rattle.cdcl.specs.declared.solve.Answer.{Answer}
use Rattle.cdcl.specs.declared.solve.Answer.TheVariants as answers
use Rattle.enc_layout.specs.Letters.{LayoutValue, Meaning, Unpruned, Here, Accepted, IsLetter, letters_through}
use Rattle.enc_layout.specs.Clauses.{Plus, counts, layout_of, literal_in, clause_list}
use Rattle.enc_layout.specs.Assigned.{positive_of, accepted_question, unpruned_question}
use Rattle.enc_layout.specs.Targets.{negative_of}
use Rattle.derivation.proofs.Names.{named_of}
use Rattle.demand.specs.Inputs.{states_list, AreOfList}
use Rattle.demand.proofs.StateRuns.{satisfied_part}
use Rattle.demand.proofs.Parts.{no_accepted, no_unpruned}
use Rattle.unravel.specs.declared.inputs.Inputs.{Inputs}
use Rattle.unravel.specs.declared.assuming.Question.{Question}
use Rattle.unravel.specs.declared.assuming.Question.TheVariants as questions
use Rattle.unravel.specs.Depths.{IsThrough, AreStatesBelow, AreStatesTo, Refuses, letter_of, IsFound, IsFoundOrNever, IsRejection, IsPruning}
use Rattle.unravel.proofs.Earlier.{met_alone, met_under}
use Rattle.unravel.proofs.Lines.{only_from}
use Rattle.unravel.proofs.Negated.{opposite_of_two, consistent_two, known_two, consistent_under, known_under}

-- a literal of the closure's layout is one of its formula
pub of_layout : (layout : LayoutValue) (c : ClosureValue) (p : Meaning) (l : Signed) → layout ≡ layout_of c → l ≡ literal_in layout.kind layout.counts (Plus p)
    → l ≡ positive_of c.formula c.kind p
of_layout layout c p l own is = is ∙ ap (λ (m : LayoutValue). literal_in m.kind m.counts (Plus p)) own

-- the letters of a question's two literals are known
pub two_known : (layout : LayoutValue) (c : ClosureValue) (k letters : ℕ) (p q : Meaning) (l m : Signed) → layout ≡ layout_of c
    → letters ≡ letters_through c.kind (counts c.formula) k
    → IsLetter c.kind (counts c.formula) k p → IsLetter c.kind (counts c.formula) k q → l ≡ literal_in layout.kind layout.counts (Plus p)
    → m ≡ literal_in layout.kind layout.counts (Plus q)
    → All (IsKnown letters) (l ∷ m ∷ [])
two_known layout c k letters p q l m own all h g is also =
    subst (λ (x : Signed). All (IsKnown letters) (x ∷ m ∷ [])) (sym (of_layout layout c p l own is))
    (subst (λ (y : Signed). All (IsKnown letters) (positive_of c.formula c.kind p ∷ y ∷ [])) (sym (of_layout layout c q m own also))
    (known_two c.formula c.kind k letters all p q h g))

pub two_consistent : (layout : LayoutValue) (c : ClosureValue) (p q : Meaning) (l m : Signed) → layout ≡ layout_of c
    → l ≡ literal_in layout.kind layout.counts (Plus p) → m ≡ literal_in layout.kind layout.counts (Plus q) → IsConsistent (l ∷ m ∷ [])
two_consistent layout c p q l m own is also =
    subst (λ (x : Signed). IsConsistent (x ∷ m ∷ [])) (sym (of_layout layout c p l own is))
    (subst (λ (y : Signed). IsConsistent (positive_of c.formula c.kind p ∷ y ∷ [])) (sym (of_layout layout c q m own also))
    (consistent_two c.formula c.kind p q))

-- the same of states and a question's own literal
module _ (f : Formula) (kind : Kind) (k : ℕ) (q : Question) (states : List Signed) (below : AreStatesBelow f kind (k + 1) states) (l : Signed)
    (is : l ≡ positive_of f kind (letter_of k q)) where
  own_letter : (p : Question) → IsLetter kind (counts f) k (letter_of k p)
  own_letter questions.Accepted = omega arith
  own_letter questions.Unpruned = tt

  pub under_known : (letters : ℕ) → letters ≡ letters_through kind (counts f) k → All (IsKnown letters) (states ++ l ∷ [])
  under_known letters all =
      subst (λ (x : Signed). All (IsKnown letters) (states ++ x ∷ [])) (sym is) (known_under f kind k letters all states (letter_of k q) below (own_letter q))

  pub under_consistent : IsConsistent (states ++ l ∷ [])
  under_consistent = subst (λ (x : Signed). IsConsistent (states ++ x ∷ [])) (sym is) (consistent_under f kind (k + 1) states (letter_of k q) below)

module _ (f : Formula) (kind : Kind) (k : ℕ) (i : Inputs) (through : IsThrough f kind k i) where
  -- what is in are clauses of the list
  of_list : AreOfList f kind k i.solver.log.inputs
  of_list = named_of (clause_list f kind k) i.solver.log.inputs i.names.items through.part.named

  -- a question under states
  module _ (states : List Signed) (to : AreStatesTo f kind k states) (p : Meaning) where
    question_found : IsAnswer i.solver (states ++ positive_of f kind p ∷ []) answers.Sat → IsFound f kind k p i.solver
    question_found (long, holds, yes') =
        let both = met_alone f kind k (value_of i.solver) states to (positive_of f kind p) yes' in
        record {
          room = let e = through.part.letters in omega (arith, long);
          holds = holds;
          here = All-head (λ l. literal_value (value_of i.solver) l ≡ true) (positive_of f kind (Here k)) (positive_of f kind p ∷ []) both;
          own = All-head (λ l. literal_value (value_of i.solver) l ≡ true) (positive_of f kind p) []
              (All-tail (λ l. literal_value (value_of i.solver) l ≡ true) (positive_of f kind (Here k)) (positive_of f kind p ∷ []) both);
        }

    question_refused : (line : ℕ) → IsAnswer i.solver (states ++ positive_of f kind p ∷ []) (answers.Unsat line)
        → Refuses i.solver (positive_of f kind (Here k) ∷ positive_of f kind p ∷ [])
    question_refused line (from, upto, negated, none) = λ w.
        none (
          w.0,
          w.1,
          met_under f kind k w.0 states to (positive_of f kind p) (satisfied_part w.0 i.solver.log.inputs (states_list f kind k) through.states w.1) w.2,
        )

  module _ (states : List Signed) (to : AreStatesTo f kind k states) (l : Signed) (answer : Answer) (a : IsAnswer i.solver (states ++ l ∷ []) answer) where
    own : (q : Question) → l ≡ positive_of f kind (letter_of k q) → (b : Answer)
        → answer ≡ b → IsAnswer i.solver (states ++ positive_of f kind (letter_of k q) ∷ []) b
    own q is b e = subst (λ (x : Signed). IsAnswer i.solver (states ++ x ∷ []) b) is (subst (IsAnswer i.solver (states ++ l ∷ [])) e a)

    pub question_yes : (q : Question) → l ≡ positive_of f kind (letter_of k q) → answer ≡ answers.Sat → IsFoundOrNever f kind k q i.solver true
    question_yes q is e = question_found states to (letter_of k q) (own q is answers.Sat e)

    pub question_no : (q : Question) → l ≡ positive_of f kind (letter_of k q) → (line : ℕ) → answer ≡ answers.Unsat line
        → IsFoundOrNever f kind k q i.solver false
    question_no questions.Accepted is line e =
        let refused = question_refused states to (Accepted k) line (own questions.Accepted is (answers.Unsat line) e) in
        (no_accepted f kind k k i.solver.log.inputs (omega arith) of_list refused, refused)
    question_no questions.Unpruned is line e =
        let refused = question_refused states to Unpruned line (own questions.Unpruned is (answers.Unsat line) e) in
        (no_unpruned f kind k i.solver.log.inputs of_list refused, refused)

-- a question that was refused, asked once more
module _ (f : Formula) (kind : Kind) (s : SolverValue) where
  pub refused_again : (question : List Signed) → Refuses s question → (answer : Answer) → answer ≡ answers.Sat → IsAnswer s question answer → ⊥
  refused_again question refused answer e a = let w = subst (IsAnswer s question) e a in refused (value_of s, w.1, w.2)

  pub accepted_line : (i : ℕ) (answer : Answer) (line : ℕ) → answer ≡ answers.Unsat line → IsAnswer s (accepted_question f kind i) answer
      → IsRejection f kind i s.log.lines line
  accepted_line i answer line e a =
      let w = subst (IsAnswer s (accepted_question f kind i)) e a in
      only_from s.log.lines line (accepted_question f kind i) (negative_of f kind (Here i) ∷ negative_of f kind (Accepted i) ∷ [])
      (opposite_of_two f kind (Here i) (Accepted i)) w.0 w.1 w.2

  pub unpruned_line : (k : ℕ) (answer : Answer) (line : ℕ) → answer ≡ answers.Unsat line → IsAnswer s (unpruned_question f kind k) answer
      → IsPruning f kind k s.log.lines line
  unpruned_line k answer line e a =
      let w = subst (IsAnswer s (unpruned_question f kind k)) e a in
      only_from s.log.lines line (unpruned_question f kind k) (negative_of f kind (Here k) ∷ negative_of f kind Unpruned ∷ [])
      (opposite_of_two f kind (Here k) Unpruned) w.0 w.1 w.2

-- the inputs stay while questions are asked
pub refuses_same : (old new : SolverValue) (question : List Signed) → new.log.inputs ≡ old.log.inputs → Refuses old question → Refuses new question
refuses_same old new question same refuses = λ w. refuses (w.0, subst (Satisfies w.0) same w.1, w.2)

-- the same of literals that the closure's layout gave
module _ (layout : LayoutValue) (c : ClosureValue) (own : layout ≡ layout_of c) (s : SolverValue) (answer : Answer) where
  pub of_two : (p q : Meaning) (l m : Signed) → l ≡ literal_in layout.kind layout.counts (Plus p) → m ≡ literal_in layout.kind layout.counts (Plus q)
      → IsAnswer s (l ∷ m ∷ []) answer → IsAnswer s (positive_of c.formula c.kind p ∷ positive_of c.formula c.kind q ∷ []) answer
  of_two p q l m is also a =
      subst (λ (x : Signed). IsAnswer s (positive_of c.formula c.kind p ∷ x ∷ []) answer) (of_layout layout c q m own also)
      (subst (λ (x : Signed). IsAnswer s (x ∷ m ∷ []) answer) (of_layout layout c p l own is) a)
