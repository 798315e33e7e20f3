-- Each formula has a verdict at each limit, since each question of a depth is decided.
use Rattle.std.proofs.Common.{ℕ, zero, suc, ◌+◌, ◌≤◌, ◌⊎◌, inl, inr, arith}
use Rattle.ltl_syntax.specs.declared.node.Kind.{Kind}
use Rattle.ltl_syntax.specs.Formula.{Formula}
use Rattle.ltl_closure.specs.Run.{HasRun, HasAccepted, HasUnpruned, IsOpen, Verdict, IsVerdict, Sat, Unsat, Undecided, no_run, accepted, all_pruned}
use Rattle.ltl_word.proofs.Search.{mapped}
use Rattle.enc_layout.specs.Clauses.{clause_list}
use Rattle.enc_layout.specs.Assigned.{run_question, accepted_question, unpruned_question}
use Rattle.enc_layout.proofs.Questions.{run_asked, accepted_asked, unpruned_asked}
use Rattle.unravel.specs.Depths.{AreOpen}
use Rattle.unravel.proofs.Searching.{satisfiable_decided}
use Rattle.unravel.proofs.Verdicts.{open_more, undecided_at}

module _ (f : Formula) (kind : Kind) where
  run_decided : (k : ℕ) → Dec (HasRun f k)
  run_decided k =
      let asked = run_asked f kind k k (omega arith) in
      mapped asked.1 asked.0 (satisfiable_decided (clause_list f kind k) (run_question f kind k))

  accepted_decided : (k : ℕ) → Dec (HasAccepted f kind k)
  accepted_decided k =
      let asked = accepted_asked f kind k k (omega arith) in
      mapped asked.1 asked.0 (satisfiable_decided (clause_list f kind k) (accepted_question f kind k))

  unpruned_decided : (k : ℕ) → Dec (HasUnpruned f kind k)
  unpruned_decided k =
      let asked = unpruned_asked f kind k in
      mapped asked.1 asked.0 (satisfiable_decided (clause_list f kind k) (unpruned_question f kind k))

  module _ (limit : ℕ) where
    abbrev Has : Type 0
    Has = (v : Verdict) × IsVerdict f kind limit v

    -- a depth gives the verdict, or it is open
    at_depth : (k : ℕ) → k ≤ limit → AreOpen f kind k → Has ⊎ IsOpen f kind k
    at_depth k le before = elim (run_decided k) [
      | no none ↦ inl (Unsat k, no_run le before none)
      | yes run ↦ elim (accepted_decided k) [
        | yes there ↦ inl (Sat k, accepted le before there)
        | no rejected ↦ elim (unpruned_decided k) [
          | no pruned ↦ inl (Unsat k, all_pruned le before rejected pruned)
          | yes unpruned ↦ inr (record { run = run; rejected = rejected; unpruned = unpruned })
        ]
      ]
    ]

    before_depth : (k : ℕ) → k ≤ limit + 1 → Has ⊎ AreOpen f kind k
    before_depth zero le = inr (λ j lt. absurd (omega arith))
    before_depth (suc k) le = elim (before_depth k (omega arith)) [
      | inl found ↦ inl found
      | inr before ↦ elim (at_depth k (omega arith) before) [
        | inl found ↦ inl found
        | inr here ↦ inr (λ j lt. open_more f kind k before here j (omega arith))
      ]
    ]

    pub verdict_there : Has
    verdict_there = elim (before_depth (limit + 1) (omega arith)) [
      | inl found ↦ found
      | inr all ↦ (Undecided limit, undecided_at f kind limit all)
    ]
