-- The measure of a search that begins anew a bounded number of times.
use Rattle.std.proofs.Common.{ℕ, zero, suc, ◌<◌, ◌≤◌, ◌+◌, ◌*◌, ◌^◌, List, [], ◌∷◌, Option, Some, None, arith}
use Rattle.std.proofs.Math.Nat.{pow-suc}
use Rattle.cnf_base.specs.declared.literal.Hint.{Hint}
use Rattle.cdcl_trail.specs.declared.assigned.TrailEntry.{TrailEntry}
use Rattle.cdcl_trail.proofs.Weight.{weight, open_choice}

-- a turn costs less than a restart
abbrev pub measure : ℕ → ℕ → List TrailEntry → ℕ
measure restarts letters trail = restarts * (3 ^ letters + 1) + weight letters trail

choice_most : (o : Option Hint) (n : ℕ) → open_choice o n ≤ 3 ^ n
choice_most None n = omega arith
choice_most (Some h) n = omega arith

pub weight_most : (n : ℕ) (es : List TrailEntry) → weight n es ≤ 3 ^ n
weight_most n [] = omega arith
weight_most zero (e ∷ es) = omega arith
weight_most (suc n) (e ∷ es) = omega (arith, pow-suc 3 n, weight_most n es, choice_most e.reason n)

pub restart_falls : (restarts letters : ℕ) (old new : List TrailEntry) → measure restarts letters new < measure (restarts + 1) letters old
restart_falls restarts letters old new = omega (arith, weight_most letters new)
