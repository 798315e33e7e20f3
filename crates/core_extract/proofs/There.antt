-- There is a core: the test of a core decides, so each pass can be walked, and each pass that changes something leaves fewer kept.
use Rattle.std.proofs.Common.{ℕ, zero, suc, ◌≤◌, ◌⊎◌, inl, inr, ap, arith, refl}
use Rattle.ltl_syntax.specs.declared.node.Kind.{Kind}
use Rattle.ltl_syntax.specs.Formula.{Formula, nodes_in}
use Rattle.ltl_syntax.specs.Size.{formula_size}
use Rattle.ltl_syntax.specs.Replacement.{Places, nowhere, added, rep}
use Rattle.ltl_syntax.proofs.Places.{one_set}
use Rattle.ltl_closure.specs.Run.{Verdict, IsVerdict, Sat, Unsat, Undecided}
use Rattle.enc_layout.specs.Limit.{IsInForce}
use Rattle.unravel.proofs.There.{verdict_there}
use Rattle.core_extract.specs.Core.{Test, IsWalk, IsPass, AreChanging, IsCore, IsRefuted, IsUnrefuted, tableau}
use Rattle.core_extract.proofs.Kept.{kept_decided, kept_count}
use Rattle.core_extract.proofs.Walks.{walk_falls}
use Rattle.core_extract.proofs.Cores.{settled}
use Rattle.core_extract.proofs.Limits.{limit_there, rep_small}

-- ---- any test that decides what replacement makes of the formula

module _ (T : Test) (f : Formula) (decides : (P : Places) → T.Closed (rep f P) ⊎ T.Open (rep f P)) where
  walk_there : (count at : ℕ) (P : Places) → (Q : Places) × IsWalk T f count at P Q
  walk_there zero at P = (P, λ n. refl)
  walk_there (suc count) at P = elim (kept_decided f P at) [
    | no gone ↦ let w = walk_there count (suc at) P in (w.0, inr ((λ kept. absurd (gone kept)), w.1))
    | yes kept ↦ elim (decides (added f P at)) [
      | inl closed ↦ let w = walk_there count (suc at) (added f P at) in (w.0, inl ((kept, closed), w.1))
      | inr open' ↦ let w = walk_there count (suc at) P in (w.0, inr ((λ k. open'), w.1))
    ]
  ]

  abbrev Ends : Places → Type 0
  Ends P = (passes : ℕ) × (Q : Places) × AreChanging T f passes P Q × IsPass T f Q Q

  -- passes end, with no more than this many occurrences kept
  passes_there : (kept : ℕ) (P : Places) → kept_count f P ≤ kept → Ends P
  passes_there zero P few = let w = walk_there (nodes_in f) 0 P in elim (walk_falls T f (nodes_in f) 0 P w.0 w.1) [
    | inl idle ↦ (zero, P, (λ n. refl), settled T f P w.0 w.1 idle.0)
    | inr lt ↦ absurd (omega arith)
  ]
  passes_there (suc kept) P few = let w = walk_there (nodes_in f) 0 P in elim (walk_falls T f (nodes_in f) 0 P w.0 w.1) [
    | inl idle ↦ (zero, P, (λ n. refl), settled T f P w.0 w.1 idle.0)
    | inr lt ↦
        let rest = passes_there kept w.0 (omega arith) in
        (suc rest.0, rest.1, (w.0, w.1, (λ same. let e = ap (kept_count f) (one_set P w.0 same) in absurd (omega arith)), rest.2), rest.3)
  ]

  pub some_core : (g : Formula) × IsCore T f g
  some_core = let w = passes_there (kept_count f nowhere) nowhere (omega arith) in (rep f w.1, (w.1, (w.0, w.2, w.3), refl))

-- ---- the tableau

pub tableau_decides : (kind : Kind) (asked : ℕ) (g : Formula) → formula_size g ≤ 16384 → IsRefuted kind asked g ⊎ IsUnrefuted kind asked g
tableau_decides kind asked g small = let limit = limit_there g kind asked small in let v = verdict_there g kind limit.0 in by limit.0 limit.1 v.0 v.1 where
  by : (d : ℕ) → IsInForce g kind asked d → (v : Verdict) → IsVerdict g kind d v → IsRefuted kind asked g ⊎ IsUnrefuted kind asked g
  by d force (Sat k) v = inr (d, k, force, inl v)
  by d force (Unsat k) v = inl (d, k, force, v)
  by d force (Undecided k) v = inr (d, k, force, inr v)

pub core_there : (kind : Kind) (asked : ℕ) (f : Formula) → formula_size f ≤ 16384 → (g : Formula) × IsCore (tableau kind asked) f g
core_there kind asked f small = some_core (tableau kind asked) f (λ P. tableau_decides kind asked (rep f P) (rep_small f P 16384 small))
