-- Runs and assignments to the numbered letters.
use Rattle.std.proofs.Common.{◌≡◌, ℕ, ◌<◌, ◌≤◌, Bool, true, false, IsTrue, IsFalse, refl, arith, ◌∙◌, List, [], ◌∷◌, All, Contains}
use Rattle.std.specs.Prelude.{◌↔◌}
use Rattle.std.proofs.lemmas.List.Elements.{All-nil, All-cons, All-head, All-tail}
use Rattle.ltl_syntax.specs.declared.node.Kind.{Kind}
use Rattle.ltl_syntax.specs.declared.node.Kind.TheVariants as Kinds
use Rattle.ltl_syntax.specs.Formula.{Formula}
use Rattle.cnf_base.specs.declared.literal.Literal.{Literal as Signed}
use Rattle.cnf_base.specs.Meaning.{Satisfies, literal_value}
use Rattle.ltl_closure.specs.Norm.{Norm, NNext}
use Rattle.ltl_closure.specs.Closure.{closure, nexts, eventualities}
use Rattle.ltl_closure.specs.Run.{States, IsRun, IsAccepted, IsPrunedAt, IsUnpruned, HasRun, HasAccepted, HasUnpruned, End, carry, is_pending, IsFulfilledIn}
use Rattle.enc_layout.specs.Letters.{Meaning, Unpruned, Here, Accepted, LoopTo}
use Rattle.enc_layout.specs.Clauses.{Plus, letter_of, number_in, signed, clause_list}
use Rattle.enc_layout.specs.Assigned.{states_of, Shows, AreSatisfiable, run_question, accepted_question, unpruned_question}
use Rattle.enc_layout.proofs.Reading.{reads_run, reads_loop, reads_empty, reads_accepted, reads_unpruned, reads_ended, reads_distinct}
use Rattle.enc_layout.proofs.Meanings.{written, written_means, means_written}
use Rattle.enc_layout.proofs.Writing.{writes, entry_value}
use Rattle.enc_layout.proofs.Within.{entry}
use Rattle.enc_layout.proofs.Numbering.{by_number, letters_true, to_number, same_at, numbered_true}

module _ (f : Formula) where
  pub run_from : (kind : Kind) (d k : ℕ) (v : ℕ → Bool) → k ≤ d → Satisfies v (clause_list f kind d)
      → v (number_in f kind (Here k)) ≡ true → IsRun f k (states_of f kind v)
  run_from kind d k v le h here = reads_run f kind d (by_number f kind v) (letters_true f kind v d h) k le here

  pub accepted_from : (kind : Kind) (d k : ℕ) (v : ℕ → Bool) → k ≤ d → Satisfies v (clause_list f kind d)
      → v (number_in f kind (Accepted k)) ≡ true → IsAccepted f (states_of f kind v) k kind
  accepted_from Kinds.Infinite d k v le h acc = reads_accepted f d (by_number f Kinds.Infinite v) (letters_true f Kinds.Infinite v d h) k le acc
  accepted_from Kinds.Finite d k v le h acc = End (reads_ended f d (by_number f Kinds.Finite v) (letters_true f Kinds.Finite v d h) k le acc)

  -- and what accepts it
  pub loop_from : (kind : Kind) (d k l : ℕ) (v : ℕ → Bool) → kind ≡ Kinds.Infinite → k ≤ d → l < k → Satisfies v (clause_list f kind d)
      → v (number_in f kind (LoopTo l k)) ≡ true
      → (carry f (states_of f kind v l) ≡ carry f (states_of f kind v k))
      × ((e : Norm) → Contains (eventualities f) e → IsTrue (is_pending (states_of f kind v k) e) → IsFulfilledIn (states_of f kind v) l k e)
  loop_from Kinds.Infinite d k l v e le lt h to = reads_loop f d (by_number f Kinds.Infinite v) (letters_true f Kinds.Infinite v d h) k l le lt to
  loop_from Kinds.Finite d k l v e le lt h to = cc

  pub empty_from : (kind : Kind) (d k : ℕ) (v : ℕ → Bool) → kind ≡ Kinds.Infinite → k ≤ d → Satisfies v (clause_list f kind d)
      → v (number_in f kind (Accepted k)) ≡ true
      → ((l : ℕ) → l < k → v (number_in f kind (LoopTo l k)) ≡ false) → (e : Norm) → Contains (nexts f) e → IsFalse (states_of f kind v k e)
  empty_from Kinds.Infinite d k v e le h acc none = reads_empty f d (by_number f Kinds.Infinite v) (letters_true f Kinds.Infinite v d h) k le acc none
  empty_from Kinds.Finite d k v e le h acc none = cc

  pub end_from : (kind : Kind) (d k : ℕ) (v : ℕ → Bool) → kind ≡ Kinds.Finite → k ≤ d → Satisfies v (clause_list f kind d)
      → v (number_in f kind (Accepted k)) ≡ true
      → (a : Norm) → Contains (closure f) (NNext a) → IsFalse (states_of f kind v k (NNext a))
  end_from Kinds.Finite d k v e le h acc = reads_ended f d (by_number f Kinds.Finite v) (letters_true f Kinds.Finite v d h) k le acc
  end_from Kinds.Infinite d k v e le h acc = cc

  pub unpruned_from : (kind : Kind) (k : ℕ) (v : ℕ → Bool) → Satisfies v (clause_list f kind k)
      → v (number_in f kind Unpruned) ≡ true → IsUnpruned f (states_of f kind v) k kind
  unpruned_from Kinds.Infinite k v h final i le = reads_unpruned f k (by_number f Kinds.Infinite v) (letters_true f Kinds.Infinite v k h) final i le
  unpruned_from Kinds.Finite k v h final i le = reads_distinct f k (by_number f Kinds.Finite v) (letters_true f Kinds.Finite v k h) final i le

  module _ (kind : Kind) (d k : ℕ) (r : States) (accepted final : Bool) (le : k ≤ d) (run : IsRun f k r)
      (acc : IsTrue accepted → IsAccepted f r k kind) (unpruned : (i : ℕ) → i ≤ d → IsTrue final → IsPrunedAt f r i kind → ⊥) where
    parts : Meaning → Bool
    parts = written f r k accepted final

    pub assignment : ℕ → Bool
    assignment = to_number f kind d parts

    assignment_true : Satisfies assignment (clause_list f kind d)
    unfolding assignment parts
    assignment_true = numbered_true f kind d (written f r k accepted final) (writes f r k accepted final (written f r k accepted final)
        (written_means f r k accepted final) (means_written f r k accepted final) kind d run acc unpruned)

    assignment_here : assignment (number_in f kind (Here k)) ≡ true
    unfolding assignment parts
    assignment_here = same_at f kind d (written f r k accepted final) (Here k) le ∙ means_written f r k accepted final (Here k) (omega arith)

    assignment_accepted : IsTrue accepted → assignment (number_in f kind (Accepted k)) ≡ true
    unfolding assignment parts
    assignment_accepted on = same_at f kind d (written f r k accepted final) (Accepted k) le ∙ means_written f r k accepted final (Accepted k) (on, refl)

    assignment_final : IsTrue final → assignment (number_in f kind Unpruned) ≡ true
    unfolding assignment parts
    assignment_final on = same_at f kind d (written f r k accepted final) Unpruned tt ∙ means_written f r k accepted final Unpruned on

    assignment_shows : Shows f kind assignment k r
    unfolding assignment parts
    assignment_shows i ik e m =
        same_at f kind d (written f r k accepted final) (letter_of f i e) (entry f kind d i (omega arith) e m)
        ∙ entry_value f r k accepted final (written f r k accepted final) (written_means f r k accepted final) (means_written f r k accepted final) i e m

  never : {A : Type 0} → IsTrue false → A
  never e = absurd (cc)

  pub run_to : (kind : Kind) (d k : ℕ) (r : States) → k ≤ d → IsRun f k r
      → (v : ℕ → Bool) × Satisfies v (clause_list f kind d) × (v (number_in f kind (Here k)) ≡ true) × Shows f kind v k r
  run_to kind d k r le run = (
    assignment kind d k r false false le run (λ e. never e) (λ i il e p. never e),
    assignment_true kind d k r false false le run (λ e. never e) (λ i il e p. never e),
    assignment_here kind d k r false false le run (λ e. never e) (λ i il e p. never e),
    assignment_shows kind d k r false false le run (λ e. never e) (λ i il e p. never e),
  )

  pub accepted_to : (kind : Kind) (d k : ℕ) (r : States) → k ≤ d → IsRun f k r → IsAccepted f r k kind
      → (v : ℕ → Bool) × Satisfies v
      (clause_list f kind d) × (v (number_in f kind (Here k)) ≡ true) × (v (number_in f kind (Accepted k)) ≡ true) × Shows f kind v k r
  accepted_to kind d k r le run acc = (
    assignment kind d k r true false le run (λ e. acc) (λ i il e p. never e),
    assignment_true kind d k r true false le run (λ e. acc) (λ i il e p. never e),
    assignment_here kind d k r true false le run (λ e. acc) (λ i il e p. never e),
    assignment_accepted kind d k r true false le run (λ e. acc) (λ i il e p. never e) refl,
    assignment_shows kind d k r true false le run (λ e. acc) (λ i il e p. never e),
  )

  pub unpruned_to : (kind : Kind) (k : ℕ) (r : States) → IsRun f k r → IsUnpruned f r k kind
      → (v : ℕ → Bool) × Satisfies v
      (clause_list f kind k) × (v (number_in f kind (Here k)) ≡ true) × (v (number_in f kind Unpruned) ≡ true) × Shows f kind v k r
  unpruned_to kind k r run none =
      let le : k ≤ k = omega arith in (
        assignment kind k k r false true le run (λ e. never e) (λ i il e p. none i il p),
        assignment_true kind k k r false true le run (λ e. never e) (λ i il e p. none i il p),
        assignment_here kind k k r false true le run (λ e. never e) (λ i il e p. none i il p),
        assignment_final kind k k r false true le run (λ e. never e) (λ i il e p. none i il p) refl,
        assignment_shows kind k k r false true le run (λ e. never e) (λ i il e p. none i il p),
      )

  one_true : (v : ℕ → Bool) (l : Signed) → literal_value v l ≡ true → All (λ l. literal_value v l ≡ true) (l ∷ [])
  one_true v l h = All-cons (λ l. literal_value v l ≡ true) l [] h (All-nil (λ l. literal_value v l ≡ true))

  two_true : (v : ℕ → Bool) (l m : Signed) → literal_value v l ≡ true → literal_value v m ≡ true → All (λ l. literal_value v l ≡ true) (l ∷ m ∷ [])
  two_true v l m h k = All-cons (λ l. literal_value v l ≡ true) l (m ∷ []) h (one_true v m k)

  first_true : (v : ℕ → Bool) (l : Signed) (ls : List Signed) → All (λ l. literal_value v l ≡ true) (l ∷ ls) → literal_value v l ≡ true
  first_true v l ls h = All-head (λ l. literal_value v l ≡ true) l ls h

  second_true : (v : ℕ → Bool) (l m : Signed) (ls : List Signed) → All (λ l. literal_value v l ≡ true) (l ∷ m ∷ ls) → literal_value v m ≡ true
  second_true v l m ls h = first_true v m ls (All-tail (λ l. literal_value v l ≡ true) l (m ∷ ls) h)

  pub run_asked : (kind : Kind) (d k : ℕ) → k ≤ d → HasRun f k ↔ AreSatisfiable (clause_list f kind d) (run_question f kind k)
  run_asked kind d k le = (
    λ w. let a = run_to kind d k w.0 le w.1 in (a.0, a.1, one_true a.0 (signed f kind (Plus (Here k))) a.2),
    λ w. (states_of f kind w.0, run_from kind d k w.0 le w.1 (first_true w.0 (signed f kind (Plus (Here k))) [] w.2)),
  )

  pub accepted_asked : (kind : Kind) (d k : ℕ) → k ≤ d → HasAccepted f kind k ↔ AreSatisfiable (clause_list f kind d) (accepted_question f kind k)
  accepted_asked kind d k le = (
    λ w. let a = accepted_to kind d k w.0 le w.1 w.2 in (a.0, a.1, two_true a.0 (signed f kind (Plus (Here k))) (signed f kind (Plus (Accepted k))) a.2 a.3),
    λ w. (
      states_of f kind w.0,
      run_from kind d k w.0 le w.1 (first_true w.0 (signed f kind (Plus (Here k))) (signed f kind (Plus (Accepted k)) ∷ []) w.2),
      accepted_from kind d k w.0 le w.1 (second_true w.0 (signed f kind (Plus (Here k))) (signed f kind (Plus (Accepted k))) [] w.2),
    ),
  )

  pub unpruned_asked : (kind : Kind) (k : ℕ) → HasUnpruned f kind k ↔ AreSatisfiable (clause_list f kind k) (unpruned_question f kind k)
  unpruned_asked kind k = (
    λ w. let a = unpruned_to kind k w.0 w.1 w.2 in (a.0, a.1, two_true a.0 (signed f kind (Plus (Here k))) (signed f kind (Plus Unpruned)) a.2 a.3),
    λ w. (
      states_of f kind w.0,
      run_from kind k k w.0 (omega arith) w.1 (first_true w.0 (signed f kind (Plus (Here k))) (signed f kind (Plus Unpruned) ∷ []) w.2),
      unpruned_from kind k w.0 w.1 (second_true w.0 (signed f kind (Plus (Here k))) (signed f kind (Plus Unpruned)) [] w.2),
    ),
  )
