-- The number of workers changes no answer.
use Rattle.std.proofs.Common.{subst}
use Rattle.command_words.specs.Words.{Solve, Check, Batch, kind_of, depth_of, core_of, cert_of}
use Rattle.black_top.specs.Reading.{IsParted}
use Rattle.black_top.specs.Solve.{IsSolved}
use Rattle.black_top.specs.Check.{IsChecked}
use Rattle.black_top.specs.Batch.{IsBatched}
use Rattle.black_top.specs.Run.{taken}
use Rattle.black_top.specs.Workers.{AnswerAlike, WorkersAreFree}
use Rattle.black_top.proofs.Asking.{command_given}

solve_alike : AnswerAlike Solve
solve_alike words also one other bytes answer asks asks_also same is =
    let h : IsSolved (kind_of one) (depth_of one) (core_of one) (cert_of one) bytes answer = command_given words bytes (Solve one) answer asks is in
    taken (Solve other) answer asks_also
    (subst (λ cert. IsSolved (kind_of other) (depth_of other) (core_of other) cert bytes answer) same.cert
    (subst (λ core. IsSolved (kind_of other) (depth_of other) core (cert_of one) bytes answer) same.core
    (subst (λ depth. IsSolved (kind_of other) depth (core_of one) (cert_of one) bytes answer) same.depth
    (subst (λ kind. IsSolved kind (depth_of one) (core_of one) (cert_of one) bytes answer) same.kind h))))

check_alike : AnswerAlike Check
check_alike words also one other bytes answer asks asks_also same is =
    let h : IsParted (IsChecked (kind_of one)) bytes answer = command_given words bytes (Check one) answer asks is in
    taken (Check other) answer asks_also (subst (λ kind. IsParted (IsChecked kind) bytes answer) same.kind h)

batch_alike : AnswerAlike Batch
batch_alike words also one other bytes answer asks asks_also same is =
    let h : IsBatched (kind_of one) (depth_of one) bytes answer = command_given words bytes (Batch one) answer asks is in
    taken (Batch other) answer asks_also
    (subst (λ depth. IsBatched (kind_of other) depth bytes answer) same.depth (subst (λ kind. IsBatched kind (depth_of one) bytes answer) same.kind h))

pub workers_free : WorkersAreFree
workers_free = record { solve = solve_alike; check = check_alike; batch = batch_alike }
