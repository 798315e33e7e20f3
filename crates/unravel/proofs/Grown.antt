-- A step's clauses behind those of the steps before: once the letters through the step are known, what is in is a part of the list through it,
-- and with the step's states in it has the states through it.
use Rattle.std.proofs.Common.{◌≡◌, ℕ, zero, suc, ◌≤◌, arith, refl, ap, sym, subst, List, [], All, Contains}
use Rattle.std.proofs.lemmas.List.Elements.{All-contains_itself}
use Rattle.ltl_syntax.specs.declared.node.Kind.{Kind}
use Rattle.ltl_syntax.specs.Formula.{Formula}
use Rattle.cnf_base.specs.declared.literal.Literal.{Literal as Signed}
use Rattle.clause_log.specs.LogValue.{LogValue}
use Rattle.derivation.specs.Naming.{AreNamed}
use Rattle.derivation.proofs.Names.{named_grow}
use Rattle.enc_layout.specs.Letters.{letters_through}
use Rattle.enc_layout.specs.Clauses.{counts, state_clauses, step_clauses, signed_clauses, clause_list}
use Rattle.enc_layout.proofs.ByKind.{letters_less}
use Rattle.enc_layout.proofs.Steps.{list_more}
use Rattle.demand.proofs.StateRuns.{states_grow}
use Rattle.unravel.specs.declared.inputs.Inputs.{Inputs}
use Rattle.unravel.specs.Putting.{up_to, HasMore}
use Rattle.unravel.specs.Depths.{IsBefore, IsThrough}

pub room_before : (f : Formula) (kind : Kind) (k : ℕ) (i : Inputs) → IsBefore f kind k i → i.solver.letters ≤ letters_through kind (counts f) k
room_before f kind zero i h = let e = h.letters in omega arith
room_before f kind (suc k) i h =
    subst (λ n. n ≤ letters_through kind (counts f) (suc k)) (sym h.part.letters) (letters_less kind (counts f) k (suc k) (omega arith))

none_named : (list : List (List Signed)) → AreNamed list [] []
none_named list = record { count = refl; each = λ i clause is. cc }

module _ (f : Formula) (kind : Kind) where
  -- what was put in are clauses of the longer list under the same names
  still_named : (k : ℕ) (i : Inputs) → IsBefore f kind k i → AreNamed (clause_list f kind k) i.solver.log.inputs i.names.items
  still_named zero i h =
      subst (λ (is : List (List Signed)). AreNamed (clause_list f kind 0) is i.names.items) (sym h.inputs)
      (subst (AreNamed (clause_list f kind 0) []) (sym h.names) (none_named (clause_list f kind 0)))
  still_named (suc k) i h =
      subst (λ (list : List (List Signed)). AreNamed list i.solver.log.inputs i.names.items) (sym (list_more f kind k))
      (named_grow (clause_list f kind k) (signed_clauses f kind (step_clauses f kind (suc k))) i.solver.log.inputs i.names.items h.part.named)

  -- once the letters are known
  pub sized : (k : ℕ) (old new : Inputs) → IsBefore f kind k old
      → new.solver.log ≡ old.solver.log → new.names.items ≡ old.names.items → new.solver.letters ≡ letters_through kind (counts f) k
      → HasMore (up_to f kind k) old new
  sized k old new before log names letters =
      let inputs : new.solver.log.inputs ≡ old.solver.log.inputs = ap (λ (l : LogValue). l.inputs) log in
      record {
        part = record {
          named = subst (λ (is : List (List Signed)). AreNamed (clause_list f kind k) is new.names.items) (sym inputs)
              (subst (AreNamed (clause_list f kind k) old.solver.log.inputs) (sym names) (still_named k old before));
          letters = letters;
        };
        kept = subst (λ (is : List (List Signed)). All (Contains is) old.solver.log.inputs) (sym inputs) (All-contains_itself old.solver.log.inputs);
      }

  -- and once the step's states are in
  pub grown : (k : ℕ) (old new : Inputs) → IsBefore f kind k old → HasMore (up_to f kind k) old new
      → All (Contains new.solver.log.inputs) (signed_clauses f kind (state_clauses f k)) → IsThrough f kind k new
  grown zero old new before more own = record { part = more.part; states = own }
  grown (suc k) old new before more own =
      record { part = more.part; states = states_grow f kind k old.solver.log.inputs new.solver.log.inputs before.states more.kept own }
