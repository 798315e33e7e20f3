use Rattle.std.proofs.Common.{◌≡◌, ◌-◌, ◌<◌, length, ap, ◌∙◌, arith}
use Rattle.log_checker.specs.Kept.{number_at}
use Rattle.log_checker.specs.declared.kept.Entry.{Entry}
use Rattle.log_checker.proofs.Entries.{read_at, behind_first, before_last, first_last}
use Rattle.log_checker.proofs.kept.bounds.Goals as goal

pub returns-then-number-first-clause-more : goal.returns-then-number-first-clause-more
returns-then-number-first-clause-more c i zero' low =
    let es = c.args.entries.now.items in
    let some : 0 < length es = omega (arith, low) in
    let first = ap (λ (x : Entry). x.number) (read_at es 0 c.index.result.now some c.index.ensures) in
    behind_first es c.args.number c.index.result.now.number i c.requires low first (omega (arith, c.if-number-first.true))

pub returns-then-number-last-clause-less : goal.returns-then-number-last-clause-less
returns-then-number-last-clause-less c i low =
    let es = c.args.entries.now.items in
    let count : c.len-count.result ≡ length es = omega (arith, c.len-count.ensures) in
    let end : c.len-count.result - 1 ≡ length es - 1 = omega (arith, count) in
    let inside : c.len-count.result - 1 < length es = omega (arith, count, low) in
    let last = ap (λ (x : Entry). x.number) (read_at es (c.len-count.result - 1) c.index-2.result.now inside c.index-2.ensures) ∙ ap (number_at es) end in
    before_last es c.args.number c.index-2.result.now.number i c.requires (omega (arith, low, count)) last (omega (arith, c.if-number-last.true))

pub returns-clause-order : goal.returns-clause-order
returns-clause-order c =
    let es = c.args.entries.now.items in
    let count : c.len-count.result ≡ length es = omega (arith, c.len-count.ensures) in
    let some : 0 < length es = omega (arith, count, c.if-count-eq0.false) in
    let end : c.len-count.result - 1 ≡ length es - 1 = omega (arith, count) in
    let inside : c.len-count.result - 1 < length es = omega (arith, count, some) in
    let first = ap (λ (x : Entry). x.number) (read_at es 0 c.index.result.now some c.index.ensures) in
    let last = ap (λ (x : Entry). x.number) (read_at es (c.len-count.result - 1) c.index-2.result.now inside c.index-2.ensures) ∙ ap (number_at es) end in
    let far = first_last es c.index.result.now.number c.index-2.result.now.number c.requires some first last in
    omega (arith, c.saturating_sub-low.ensures, c.min-high.ensures, far, count, c.if-number-first.false, c.if-number-last.false)

pub returns-clause-less : goal.returns-clause-less
returns-clause-less c i low =
    let es = c.args.entries.now.items in
    let count : c.len-count.result ≡ length es = omega (arith, c.len-count.ensures) in
    let some : 0 < length es = omega (arith, count, c.if-count-eq0.false) in
    let end : c.len-count.result - 1 ≡ length es - 1 = omega (arith, count) in
    let inside : c.len-count.result - 1 < length es = omega (arith, count, some) in
    let last = ap (λ (x : Entry). x.number) (read_at es (c.len-count.result - 1) c.index-2.result.now inside c.index-2.ensures) ∙ ap (number_at es) end in
    before_last es c.args.number c.index-2.result.now.number i c.requires (omega (arith, low, count, c.saturating_sub-low.ensures)) last
    (omega (arith, low, count, c.saturating_sub-low.ensures, c.if-number-last.false))

pub returns-clause-more : goal.returns-clause-more
returns-clause-more c i high low =
    let es = c.args.entries.now.items in
    let count : c.len-count.result ≡ length es = omega (arith, c.len-count.ensures) in
    let some : 0 < length es = omega (arith, low) in
    let first = ap (λ (x : Entry). x.number) (read_at es 0 c.index.result.now some c.index.ensures) in
    behind_first es c.args.number c.index.result.now.number i c.requires low first
    (omega (arith, high, low, count, c.min-high.ensures, c.if-number-first.false))
