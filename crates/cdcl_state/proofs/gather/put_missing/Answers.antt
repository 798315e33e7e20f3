use Rattle.std.proofs.Common.{◌≡◌, ◌<◌, ◌≤◌, ◌+◌, true, false, slice_index_or, Some, length, subst, sym, ap, ◌∙◌, arith}
use Rattle.cnf_base.specs.declared.literal.Hint.TheVariants.{Line}
use Rattle.cnf_base.specs.Step.{named}
use Rattle.cdcl_state.specs.Gathered.{IsMet, IsGathered}
use Rattle.cdcl_state.proofs.Gathering.{room_at, put_lists, numbered_at, gathered_put, gathered_fewer, gathered_begun, met_line, met_marked}
use Rattle.cdcl_state.proofs.gather.put_missing.Goals as goal
use Rattle.cdcl_state.proofs.gather.put_missing.Goals.{then-not-is_marked+in_ok-put, else-not-is_marked}

pub put-requires : goal.put-requires
put-requires c =
    let i = c.loop-index.index in
    let lines = c.args.log.now.lines in
    let low : i < length lines = omega (arith, c.loop-index-test.true, c.lines-index-end.ensures) in
    room_at (length c.args.marks.now.stamps) (length c.args.watches.now.lists) (length c.loop-index.marks.stamps) (length c.loop-index.watches.lists)
    i lines c.literals.result.now
    c.requires c.loop-index.invariant.size c.loop-index.invariant.lists low c.literals.ensures

pub loop-index-preserved : goal.loop-index-preserved
loop-index-preserved c =
    let i = c.loop-index.index in
    let log = c.args.log.now in
    let there = c.args.there.now.items in
    let within : i + 1 ≤ length log.lines = omega (arith, c.loop-index-test.true, c.lines-index-end.ensures) in
    elim c.if-not-is_marked.branch [
      | then-not-is_marked+in_ok-put w ↦
          let clause = w.literals.result.now in
          let new = w.put.new.watches in
          let here : named log.inputs log.lines (Line (i + 1)) ≡ Some clause =
          numbered_at log.lines (i + 1) (omega arith) within ∙ ap Some (sym w.literals.ensures) in
          record {
            size = ap (λ m. length m.stamps) w.marks-is ∙ w.in_ok-put.ensures.size ∙ c.loop-index.invariant.size;
            lists = ap (λ v. length v.lists) w.watches-is ∙ put_lists c.loop-index.watches new clause (Line (i + 1)) w.in_ok-put.ensures.added
                ∙ c.loop-index.invariant.lists;
            gathered = λ names begun. subst (IsGathered (IsMet names there (i + 1)) log) (sym w.watches-is)
                (gathered_put log c.loop-index.watches new (IsMet names there i) (IsMet names there (i + 1)) (Line (i + 1)) clause
                (c.loop-index.invariant.gathered names begun) w.in_ok-put.ensures.added here (met_line names there i));
          }
      | else-not-is_marked w ↦
          record {
            size = ap (λ m. length m.stamps) w.marks-is ∙ c.loop-index.invariant.size;
            lists = ap (λ v. length v.lists) w.watches-is ∙ c.loop-index.invariant.lists;
            gathered = λ names begun. subst (IsGathered (IsMet names there (i + 1)) log) (sym w.watches-is)
                (gathered_fewer log c.loop-index.watches
                (IsMet names there i) (IsMet names there (i + 1)) (c.loop-index.invariant.gathered names begun) (λ h x met is. met_marked names there i h
                (subst (λ l. slice_index_or l (i + 1) false ≡ true) c.deref.ensures.value (sym c.is_marked.ensures ∙ w.if-not-is_marked.false)) met));
          }
    ]

pub returns-in_err-put-clause-lists : goal.returns-in_err-put-clause-lists
returns-in_err-put-clause-lists c = ap (λ v. length v.lists) c.in_err-put.ensures.refused ∙ c.loop-index.invariant.lists

pub returns-in_err-put-clause-kept : goal.returns-in_err-put-clause-kept
returns-in_err-put-clause-kept c =
    let log = c.args.log.now in
    let there = c.args.there.now.items in
    λ names begun. subst (IsGathered (IsMet names there 0) log) (sym c.in_err-put.ensures.refused)
    (gathered_begun names there c.loop-index.index log c.loop-index.watches (c.loop-index.invariant.gathered names begun))

pub returns-clause-kept : goal.returns-clause-kept
returns-clause-kept c = λ names begun. gathered_begun names c.args.there.now.items c.loop-index.index c.args.log.now c.loop-index.watches
    (c.loop-index.invariant.gathered names begun)

pub returns-clause-gathered : goal.returns-clause-gathered
returns-clause-gathered c =
    let log = c.args.log.now in
    let all : c.loop-index.index ≡ length log.lines = omega (arith, c.loop-index-test.false, c.loop-index.auto.index-end, c.lines-index-end.ensures) in
    λ names begun. subst (λ n. IsGathered (IsMet names c.args.there.now.items n) log c.loop-index.watches) all (c.loop-index.invariant.gathered names begun)
