use Rattle.std.proofs.Common.{◌<◌, ◌++◌, [], ap, ap₂, sym, ◌∙◌, arith, length}
use Rattle.std.proofs.lemmas.List.{append-nil}
use Rattle.ltl_run.specs.Shown.{name_before}
use Rattle.ltl_run.proofs.Collecting.{names_more, small_more}
use Rattle.ltl_run.proofs.showing.letter_names.Goals.{in-Some+in_ok-push, in_default}
use Rattle.ltl_run.proofs.showing.letter_names.Goals as goal

pub loop-entry-preserved : goal.loop-entry-preserved
loop-entry-preserved c =
    let lt : c.loop-entry.entry-index < length c.args.entries.now = omega arith in
    let small = small_more c.args.entries.now c.loop-entry.entry-index _ lt c.loop-entry.invariant.small c.in_ok-name.ensures.small in
    elim c.match-branch-2.branch [
      | in-Some+in_ok-push w ↦ record {
        names = ap (λ v. v.items) w.names-is ∙ (w.in_ok-push.ensures.items ∙ (ap₂ (λ ns o. ns ++ name_before o []) c.loop-entry.invariant.names
            (sym w.in-Some.is ∙ c.in_ok-name.ensures.name) ∙ sym (names_more c.args.table.now.names c.args.entries.now c.loop-entry.entry-index _ lt)));
        small = small;
      }
      | in_default w ↦ record {
        names = ap (λ v. v.items) w.names-is ∙ (sym (append-nil c.loop-entry.names.items) ∙ (ap₂ (λ ns o. ns ++ name_before o []) c.loop-entry.invariant.names
            (sym w.in_default.is ∙ c.in_ok-name.ensures.name) ∙ sym (names_more c.args.table.now.names c.args.entries.now c.loop-entry.entry-index _ lt)));
        small = small;
      }
    ]
