use Rattle.std.proofs.Common.{◌≡◌, ◌+◌, ◌-◌, ◌<◌, arith, ap, sym, subst, ◌∙◌, List, Bool, true, Vec, Global, length, length-set, set, add-one}
use Rattle.cnf_base.specs.declared.literal.Hint.TheVariants.{Clause, Line}
use Rattle.clause_log.specs.LogValue.{hints_at}
use Rattle.log_trim.specs.Marking.{marked, AddsHints}
use Rattle.log_trim.proofs.Marks.{there, clause_passed}
use Rattle.log_trim.proofs.Steps.{told_at, flag_on}
use Rattle.log_trim.proofs.trimming.mark_hints.Goals as goal
use Rattle.log_trim.proofs.trimming.mark_hints.Goals.{in-Clause, in-Line}

pub overflow_sub-index : goal.overflow_sub-index
overflow_sub-index c =
    let hints = hints_at c.args.log.now.hints c.args.line in
    let lt : c.hints.place < length hints = omega (arith, c.hints-test.true, c.hints-place-end.ensures) in
    let at = told_at hints c.hints.place c.hint.result (Line c.in-Line.earlier) (Clause 0) c.hint.ensures c.in-Line.is in
    omega (arith, (c.requires.lines c.in-Line.earlier (there hints c.hints.place (Clause 0) (Line c.in-Line.earlier) lt at)).0)

pub index_mut-requires : goal.index_mut-requires
index_mut-requires c =
    let hints = hints_at c.args.log.now.hints c.args.line in
    let lt : c.hints.place < length hints = omega (arith, c.hints-test.true, c.hints-place-end.ensures) in
    let at = told_at hints c.hints.place c.hint.result (Line c.in-Line.earlier) (Clause 0) c.hint.ensures c.in-Line.is in
    let w = c.requires.lines c.in-Line.earlier (there hints c.hints.place (Clause 0) (Line c.in-Line.earlier) lt at) in
    omega (arith, w.0, w.1, c.hints.invariant.long)

pub hints-preserved : goal.hints-preserved
hints-preserved c =
    let hints = hints_at c.args.log.now.hints c.args.line in
    let i = c.hints.place in
    let lt : i < length hints = omega (arith, c.hints-test.true, c.hints-place-end.ensures) in
    elim c.match-hint.branch [
      | in-Clause w ↦
          let items : c.match-hint.flags.items ≡ c.hints.flags.items = ap (λ (v : Vec Bool Global). v.items) w.flags-is in
          let at = told_at hints i c.hint.result (Clause w.in-Clause.field-0) (Clause w.in-Clause.field-0) c.hint.ensures w.in-Clause.is in
          record {
            adds = subst (λ (fs : List Bool). AddsHints (marked c.args.flags.now.items) (marked fs) hints (i + 1)) (sym items)
                (rw (add-one i)
                (clause_passed hints i w.in-Clause.field-0 (marked c.args.flags.now.items) (marked c.hints.flags.items) lt at c.hints.invariant.adds));
            long = ap length items ∙ c.hints.invariant.long;
          }
      | in-Line w ↦
          let line = w.in-Line.earlier in
          let items : c.match-hint.flags.items ≡ set c.hints.flags.items (line - 1) true = ap (λ (v : Vec Bool Global). v.items) w.flags-is in
          let at = told_at hints i c.hint.result (Line line) (Clause 0) c.hint.ensures w.in-Line.is in
          let b = c.requires.lines line (there hints i (Clause 0) (Line line) lt at) in
          record {
            adds = flag_on hints i line (Clause 0) (marked c.args.flags.now.items) c.hints.flags.items c.match-hint.flags.items lt at b.0
                (omega (arith, b.1, c.hints.invariant.long)) items c.hints.invariant.adds;
            long = ap length items ∙ (length-set c.hints.flags.items (line - 1) true ∙ c.hints.invariant.long);
          }
    ]
