use Rattle.std.proofs.Common.{◌≡◌, length, arith, subst}
use Rattle.std.proofs.lemmas.Option.{IfSome_then}
use Rattle.std.proofs.lemmas.Result.{IfOk-weaker}
use Rattle.ltl_syntax.specs.Table.{tree_at}
use Rattle.requirement_questions.specs.Replacing.{ArePartsOf}
use Rattle.requirement_questions.proofs.Parts.{is_core}
use Rattle.requirement_questions.proofs.parting.core_of.Goals as goal

pub core_in-requires : goal.core_in-requires
core_in-requires c =
    let replaced = rw c.in-Some.is at c.in_ok-replaced.ensures in
    record { there = replaced.there; some = omega arith }

pub returns : goal.returns
returns c =
    let kind = c.args.kind in
    let b = c.args.because.now in
    let f = tree_at b.table b.root in
    let r = c.in-Some.formula.value in
    let replaced = rw c.in-Some.is at c.in_ok-replaced.ensures in
    IfOk-weaker c.core_in.result _ _
    (λ core h. IfSome_then core h (λ made w formulas many same.
    let count : c.len-count.result ≡ length formulas = omega (arith, c.len-count.ensures, many) in
    is_core kind f formulas r made.value replaced w.0 (subst (λ n. ArePartsOf made.value.table r.root n made.value.parts.items) count w.1) same))
    c.core_in.ensures
