-- Runs and rows by an assignment that makes the clauses of the states true.
use Rattle.std.proofs.Common.{◌≡◌, ℕ, suc, ◌≤◌, Bool, true, ◌∙◌, sym, subst, ap, ap₂, List, ◌++◌, map, All, Contains}
use Rattle.std.specs.List.{AllByRecursion as Each}
use Rattle.std.proofs.lemmas.List.{map-append}
use Rattle.std.proofs.lemmas.List.Elements.{All-contains, All-append, All-weaker}
use Rattle.std.proofs.lemmas.Simd.{map-map}
use Rattle.ltl_syntax.specs.declared.node.Kind.{Kind}
use Rattle.ltl_syntax.specs.Formula.{Formula}
use Rattle.cnf_base.specs.declared.literal.Literal.{Literal as Signed}
use Rattle.cnf_base.specs.Meaning.{Satisfies, clause_value}
use Rattle.ltl_closure.specs.Norm.{Norm}
use Rattle.ltl_closure.specs.Closure.{closure, nexts, yesterdays, eventualities, argument}
use Rattle.ltl_closure.specs.Run.{IsRun, val, carry, is_fulfilled, request_of, right_of}
use Rattle.ltl_closure.proofs.Lists.{map_agree}
use Rattle.ltl_closure.proofs.Known.{yesterday_in, eventuality_in}
use Rattle.enc_layout.specs.Letters.{Here}
use Rattle.enc_layout.specs.Clauses.{number_in, carried, state_clauses, signed_clauses}
use Rattle.enc_layout.specs.Assigned.{states_of}
use Rattle.enc_layout.proofs.Gates.{IsTrueClause}
use Rattle.enc_layout.proofs.Carries.{argument_in, right_in}
use Rattle.enc_layout.proofs.Numbering.{by_number, clauses_true}
use Rattle.enc_layout.proofs.ByStates.{state_value, gives_run}
use Rattle.demand.specs.Inputs.{states_through, states_list, HasStates}
use Rattle.demand.specs.Rows.{Row, refused_requests, row_of}
use Rattle.demand.specs.Reading.{entry_value, read_row}

module _ (f : Formula) (kind : Kind) (v : ℕ → Bool) where
  states_true : (d : ℕ) → Satisfies v (states_list f kind d) → Each (IsTrueClause (by_number f kind v)) (states_through f d)
  states_true d h = clauses_true f kind v (states_through f d) h

  pub states_run : (d k : ℕ) → k ≤ d → Satisfies v (states_list f kind d) → v (number_in f kind (Here k)) ≡ true → IsRun f k (states_of f kind v)
  states_run d k le h here = gives_run f d (by_number f kind v) (states_true d h) k le here

-- where clauses are true, so is a part of them
pub satisfied_part : (v : ℕ → Bool) (clauses part : List (List Signed)) → All (Contains clauses) part → Satisfies v clauses → Satisfies v part
satisfied_part v clauses part all h =
    All-weaker (Contains clauses) (λ c. clause_value v c ≡ true) (λ c m. All-contains (λ c. clause_value v c ≡ true) clauses c h m) part all

pub inputs_run : (f : Formula) (kind : Kind) (d k : ℕ) (v : ℕ → Bool) (inputs : List (List Signed)) → k ≤ d → HasStates f kind d inputs
    → Satisfies v inputs → v (number_in f kind (Here k)) ≡ true → IsRun f k (states_of f kind v)
inputs_run f kind d k v inputs le has h here = states_run f kind v d k le (satisfied_part v inputs (states_list f kind d) has h) here

pub states_more : (f : Formula) (kind : Kind) (d : ℕ) → states_list f kind (suc d) ≡ states_list f kind d ++ signed_clauses f kind (state_clauses f (suc d))
states_more f kind d = map-append _ (states_through f d) (state_clauses f (suc d))

pub states_grow : (f : Formula) (kind : Kind) (d : ℕ) (inputs more : List (List Signed)) → HasStates f kind d inputs → All (Contains more) inputs
    → All (Contains more) (signed_clauses f kind (state_clauses f (suc d))) → HasStates f kind (suc d) more
states_grow f kind d inputs more has all new = subst (All (Contains more)) (sym (states_more f kind d))
    (All-append (Contains more) (states_list f kind d) (signed_clauses f kind (state_clauses f (suc d)))
    (All-weaker (Contains inputs) (Contains more) (λ c m. All-contains (Contains more) inputs c all m) (states_list f kind d) has) new)

-- the rows that are read are those of the run
module _ (f : Formula) (kind : Kind) (d i : ℕ) (v : ℕ → Bool) (le : i ≤ d) (h : Satisfies v (states_list f kind d)) where
  entry_read : (e : Norm) → Contains (closure f) e → entry_value f kind v i e ≡ val (states_of f kind v i) e
  entry_read e m = state_value f d (by_number f kind v) (states_true f kind v d h) i le e m

  carry_read : map (entry_value f kind v i) (carried f) ≡ carry f (states_of f kind v i)
  carry_read =
      let s = states_of f kind v i in
      map-append (entry_value f kind v i) (nexts f) (map argument (yesterdays f))
      ∙ ap (λ z. map (entry_value f kind v i) (nexts f) ++ z) (map-map (entry_value f kind v i) argument (yesterdays f)
      ∙ map_agree (λ e. entry_value f kind v i (argument e)) (λ e. val s (argument e)) (yesterdays f)
      (λ e m. entry_read (argument e) (argument_in f e (yesterday_in f e m))))

  fulfilled_read : map (λ e. entry_value f kind v i (right_of e)) (eventualities f) ≡ map (is_fulfilled (states_of f kind v i)) (eventualities f)
  fulfilled_read = map_agree (λ e. entry_value f kind v i (right_of e)) (is_fulfilled (states_of f kind v i)) (eventualities f)
      (λ e m. entry_read (right_of e) (right_in f e (eventuality_in f e m)))

  pub row_read : read_row f kind v i ≡ row_of f kind (states_of f kind v i)
  row_read = ap₂ (λ (c o : List Bool). let row : Row = record {
    carry = c;
    pending = map (λ e. entry_value f kind v i (request_of e)) (eventualities f);
    fulfilled = o;
    refused = map (entry_value f kind v i) (refused_requests f kind);
  } in row) carry_read fulfilled_read
