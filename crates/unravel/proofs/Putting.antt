-- Clauses of the list that are put in one after another, under their numbers in it.
use Rattle.std.proofs.Common.{◌≡◌, ℕ, zero, suc, ◌+◌, ◌-◌, ◌<◌, arith, ap, refl, sym, ◌∙◌, subst, List, [], ◌∷◌, ◌++◌, length, get_or, take, All, Contains}
use Rattle.std.proofs.Common.{Some}
use Rattle.std.proofs.lemmas.List.{get_or_default}
use Rattle.std.proofs.lemmas.Option.{slice_get-get_or, get_or_from_slice_get}
use Rattle.std.proofs.lemmas.List.Elements.{All-weaker, All-contains, All-contains_itself, All-more, Contains-append_left, Contains-push, Contains-get_or}
use Rattle.ltl_syntax.specs.declared.node.Kind.{Kind}
use Rattle.ltl_syntax.specs.Formula.{Formula}
use Rattle.cnf_base.specs.declared.literal.Literal.{Literal as Signed}
use Rattle.cnf_base.specs.Step.{numbered, clause_at}
use Rattle.cnf_base.specs.Known.{IsKnown, AreKnown}
use Rattle.derivation.specs.Naming.{AreNamed}
use Rattle.derivation.proofs.Names.{named_add}
use Rattle.cdcl.specs.SolverValue.{SolverValue}
use Rattle.enc_layout.specs.Letters.{letters_through}
use Rattle.enc_layout.specs.Clauses.{counts}
use Rattle.clause_index.specs.Indexed.{IndexedValue}
use Rattle.demand.specs.Inputs.{states_list}
use Rattle.demand.proofs.Parts.{inputs_known}
use Rattle.demand.proofs.StateNumbers.{whole_of}
use Rattle.demand.proofs.StateRuns.{satisfied_part}
use Rattle.unravel.specs.declared.inputs.Inputs.{Inputs}
use Rattle.unravel.specs.Putting.{up_to, list_of, IsNumberIn, IsPartOf, HasMore, IsAsked}
use Rattle.unravel.specs.Depths.{IsThrough, AreStatesTo, IsReady, IsStillThrough, Refuses}
use Rattle.unravel.proofs.Lines.{numbered_at}

-- ---- what stays

pub kept_trans : (a b c : List (List Signed)) → All (Contains b) a → All (Contains c) b → All (Contains c) a
kept_trans a b c ab bc = All-weaker (Contains b) (Contains c) (λ x m. All-contains (Contains c) b x bc m) a ab

pub more_none : (x : IndexedValue) (i : Inputs) → IsPartOf x i → HasMore x i i
more_none x i part = record { part = part; kept = All-contains_itself i.solver.log.inputs }

pub more_then : (x : IndexedValue) (a b c : Inputs) → HasMore x a b → HasMore x b c → HasMore x a c
more_then x a b c ab bc = record { part = bc.part; kept = kept_trans a.solver.log.inputs b.solver.log.inputs c.solver.log.inputs ab.kept bc.kept }

-- what is refused is so where more is put in
pub refuses_more : (old new : SolverValue) (question : List Signed) → All (Contains new.log.inputs) old.log.inputs → Refuses old question → Refuses new question
refuses_more old new question kept refuses = λ w. refuses (w.0, satisfied_part w.0 new.log.inputs old.log.inputs kept w.1, w.2)

pub through_more : (f : Formula) (kind : Kind) (k : ℕ) (old new : Inputs) → IsThrough f kind k old → HasMore (up_to f kind k) old new → IsThrough f kind k new
through_more f kind k old new through more = record {
  part = more.part;
  states = kept_trans (states_list f kind k) old.solver.log.inputs new.solver.log.inputs through.states more.kept;
}

-- a question puts nothing in
pub asked_more : (x : IndexedValue) (old new : Inputs) → IsPartOf x old → IsAsked old new → HasMore x old new
asked_more x old new part asked = record {
  part = record {
    named = subst (λ (is : List (List Signed)). AreNamed (list_of x) is new.names.items) (sym asked.inputs)
        (subst (AreNamed (list_of x) old.solver.log.inputs) (sym asked.names) part.named);
    letters = asked.letters ∙ part.letters;
  };
  kept = subst (λ (is : List (List Signed)). All (Contains is) old.solver.log.inputs) (sym asked.inputs) (All-contains_itself old.solver.log.inputs);
}

pub asked_through : (f : Formula) (kind : Kind) (k : ℕ) (old new : Inputs) → IsThrough f kind k old → IsAsked old new → IsThrough f kind k new
asked_through f kind k old new through asked = through_more f kind k old new through (asked_more (up_to f kind k) old new through.part asked)

-- ---- the steps of a question

module _ {f : Formula} {kind : Kind} {k : ℕ} {old new : Inputs} {before after : List Signed} where
  pub ready_still : IsReady f kind k old before → IsStillThrough f kind k old new before after → IsReady f kind k new after
  ready_still ready still = record { through = still.through; states = subst (AreStatesTo f kind k) (sym still.states) ready.states }

  pub still_asked : IsThrough f kind k old → IsAsked old new → after ≡ before → IsStillThrough f kind k old new before after
  still_asked through asked same = record {
    through = asked_through f kind k old new through asked;
    kept = (asked_more (up_to f kind k) old new through.part asked).kept;
    states = same;
  }

module _ {f : Formula} {kind : Kind} {k : ℕ} {old : Inputs} {states : List Signed} (through : IsThrough f kind k old) where
  pub still_more : {new : Inputs} → HasMore (up_to f kind k) old new → IsStillThrough f kind k old new states states
  still_more {new} more = record { through = through_more f kind k old new through more; kept = more.kept; states = refl }

  pub still_none : IsStillThrough f kind k old old states states
  still_none = record { through = through; kept = All-contains_itself old.solver.log.inputs; states = refl }

module _ {f : Formula} {kind : Kind} {k : ℕ} {a b c : Inputs} {l m n : List Signed} where
  pub still_then : IsStillThrough f kind k a b l m → IsStillThrough f kind k b c m n → IsStillThrough f kind k a c l n
  still_then one two = record {
    through = two.through;
    kept = kept_trans a.solver.log.inputs b.solver.log.inputs c.solver.log.inputs one.kept two.kept;
    states = two.states ∙ one.states;
  }

-- ---- one clause

module _ (x : IndexedValue) (number : ℕ) (in_list : IsNumberIn x number) where
  member : Contains (list_of x) (clause_at (list_of x) number)
  member = Contains-get_or (list_of x) (number - 1) [] (omega (arith, in_list.0, in_list.1))

  -- its letters are known
  pub known_at : (letters : ℕ) → letters ≡ letters_through x.kind (counts x.formula) x.depth → All (IsKnown letters) (clause_at (list_of x) number)
  known_at letters all =
      let n = letters_through x.kind (counts x.formula) x.depth in
      let known : AreKnown n (list_of x) = inputs_known x.formula x.kind x.depth (list_of x) (whole_of x.formula x.kind x.depth) in
      subst (λ m. All (IsKnown m) (clause_at (list_of x) number)) (sym all)
      (All-contains (λ c. All (IsKnown n) c) (list_of x) (clause_at (list_of x) number) known member)

  module _ (old new : Inputs) (part : IsPartOf x old) (inputs : new.solver.log.inputs ≡ old.solver.log.inputs ++ clause_at (list_of x) number ∷ [])
      (names : new.names.items ≡ old.names.items ++ number ∷ []) (letters : new.solver.letters ≡ old.solver.letters) where
    pub added_more : HasMore x old new
    added_more =
        let clause = clause_at (list_of x) number in
        let before = old.solver.log.inputs in
        let named = named_add (list_of x) before old.names.items number clause part.named (numbered_at (list_of x) number in_list.0 in_list.1) in
        record {
          part = record {
            named = subst (λ (is : List (List Signed)). AreNamed (list_of x) is new.names.items) (sym inputs)
                (subst (AreNamed (list_of x) (before ++ clause ∷ [])) (sym names) named);
            letters = letters ∙ part.letters;
          };
          kept = subst (λ (is : List (List Signed)). All (Contains is) before) (sym inputs)
              (All-weaker (Contains before) (Contains (before ++ clause ∷ [])) (Contains-append_left before (clause ∷ [])) before (All-contains_itself before));
        }

-- it is there
pub added_there : (before after : List (List Signed)) (clause : List Signed) → after ≡ before ++ clause ∷ [] → Contains after clause
added_there before after clause is = subst (λ (all : List (List Signed)). Contains all clause) (sym is) (Contains-push before clause)

-- ---- clauses in their order: where those before a place are in, and the one at it is as well

pub there_next : (all cur new : List (List Signed)) (place : ℕ) → place < length all → All (Contains cur) (take place all) → All (Contains new) cur
    → Contains new (get_or all place [])
    → All (Contains new) (take (place + 1) all)
there_next all cur new place low there kept here = All-more (Contains new) all place [] low (kept_trans (take place all) cur new there kept) here

-- ---- where a number is among the names, its clause is in

pub named_there : (x : IndexedValue) (i : Inputs) (number : ℕ) → IsPartOf x i → Contains i.names.items number
    → Contains i.solver.log.inputs (clause_at (list_of x) number)
named_there x i number part (place, low, at) =
    let inputs = i.solver.log.inputs in
    let within : place < length inputs = omega (arith, low, part.named.count) in
    let clause = get_or inputs place [] in
    let is : numbered (list_of x) (get_or i.names.items place 0) ≡ Some clause = part.named.each place clause (slice_get-get_or inputs place [] within) in
    let name : get_or i.names.items place 0 ≡ number = get_or_default i.names.items place 0 number low ∙ at in
    let own : numbered (list_of x) number ≡ Some clause = subst (λ n. numbered (list_of x) n ≡ Some clause) name is in
    subst (Contains inputs) (numbered_clause (list_of x) number clause own) (Contains-get_or inputs place [] within)
  where
    numbered_clause : (list : List (List Signed)) (n : ℕ) (clause : List Signed) → numbered list n ≡ Some clause → clause ≡ clause_at list n
    numbered_clause list zero clause e = cc
    numbered_clause list (suc n) clause e =
        let back : suc n - 1 ≡ n = omega arith in
        sym (ap (λ m. get_or list m []) back ∙ get_or_from_slice_get list n clause [] e)
