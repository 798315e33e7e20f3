use Rattle.std.proofs.Common.{◌≡◌, ◌+◌, ◌-◌, ◌<◌, arith, ap, refl, ◌∙◌, [], length, map, get_or, Vec, Global}
use Rattle.std.proofs.lemmas.List.{take_all}
use Rattle.cnf_base.specs.declared.literal.Hint.{Hint}
use Rattle.cnf_base.specs.declared.literal.Hint.TheVariants.{Clause, Line}
use Rattle.clause_log.specs.LogValue.{hints_at}
use Rattle.log_trim.specs.Kept.{renumbered}
use Rattle.log_trim.specs.Marking.{marked}
use Rattle.log_trim.proofs.Steps.{told_at, hint_at, table_read, map_on}
use Rattle.log_trim.proofs.trimming.renumber.Goals as goal
use Rattle.log_trim.proofs.trimming.renumber.Goals.{in-Clause+in_ok-push-in-Clause, in-Line+in_ok-push-in-Line}

pub overflow_sub-place : goal.overflow_sub-place
overflow_sub-place c =
    let log = c.args.log.now in
    let hints = hints_at log.hints (c.args.index + 1) in
    let lt : c.hints.place < length hints = omega (arith, c.hints-test.true, c.hints-place-end.ensures) in
    let at = told_at hints c.hints.place c.hint.result (Line c.in-Line.earlier) (Clause 0) c.hint.ensures c.in-Line.is in
    omega (arith, (hint_at log c.args.index hints c.hints.place (Clause 0) c.in-Line.earlier c.invariant.ensures c.requires.line refl lt at).0)

pub index-requires : goal.index-requires
index-requires c =
    let log = c.args.log.now in
    let hints = hints_at log.hints (c.args.index + 1) in
    let lt : c.hints.place < length hints = omega (arith, c.hints-test.true, c.hints-place-end.ensures) in
    let at = told_at hints c.hints.place c.hint.result (Line c.in-Line.earlier) (Clause 0) c.hint.ensures c.in-Line.is in
    let w = hint_at log c.args.index hints c.hints.place (Clause 0) c.in-Line.earlier c.invariant.ensures c.requires.line refl lt at in
    omega (arith, w.0, w.1, c.requires.table.count)

pub hints-preserved : goal.hints-preserved
hints-preserved c =
    let log = c.args.log.now in
    let hints = hints_at log.hints (c.args.index + 1) in
    let i = c.hints.place in
    let M = marked c.args.flags.now.items in
    let lt : i < length hints = omega (arith, c.hints-test.true, c.hints-place-end.ensures) in
    elim c.match-hint.branch [
      | in-Clause+in_ok-push-in-Clause w ↦
          let hint = Clause w.in-Clause.number in
          map_on (renumbered M log.lines) hints i (Clause 0) hint hint c.hints.new.items c.match-hint.new.items lt
          (told_at hints i c.hint.result hint (Clause 0) c.hint.ensures w.in-Clause.is) refl c.hints.invariant
          (ap (λ (v : Vec Hint Global). v.items) w.new-is ∙ w.in_ok-push-in-Clause.ensures.items)
      | in-Line+in_ok-push-in-Line w ↦
          let line = w.in-Line.earlier in
          let at = told_at hints i c.hint.result (Line line) (Clause 0) c.hint.ensures w.in-Line.is in
          let b = hint_at log c.args.index hints i (Clause 0) line c.invariant.ensures c.requires.line refl lt at in
          map_on (renumbered M log.lines) hints i (Clause 0) (Line line) (Line w.index.result.now) c.hints.new.items c.match-hint.new.items lt at
          (ap Line (table_read M log.lines c.args.index line w.index.result.now c.args.table.now.items b.0 b.1 c.requires.table w.index.ensures))
          c.hints.invariant
          (ap (λ (v : Vec Hint Global). v.items) w.new-is ∙ w.in_ok-push-in-Line.ensures.items)
    ]

pub returns : goal.returns
returns c =
    let log = c.args.log.now in
    let hints = hints_at log.hints (c.args.index + 1) in
    let back : c.args.index + 1 - 1 ≡ c.args.index = omega arith in
    c.hints.invariant ∙ ap (map (renumbered (marked c.args.flags.now.items) log.lines))
    (take_all c.hints.place hints (omega (arith, c.hints-test.false, c.hints-place-end.ensures)) ∙ ap (λ n. get_or log.hints n []) back)
