use Rattle.std.proofs.Common.{true, length, List, subst}
use Rattle.std.proofs.lemmas.Result.{IfOk-weaker}
use Rattle.cnf_base.specs.declared.literal.Hint.{Hint}
use Rattle.cdcl_watches.specs.Watching.{WatchValue}
use Rattle.cdcl_propagate.specs.Visit.{names_of}
use Rattle.cdcl_state.specs.Gathered.{AreThere, IsMet, IsCarried, IsGathered}
use Rattle.cdcl_state.proofs.Gathering.{gathered_there, gathered_inputs, gathered_all, gathered_itself}
use Rattle.cdcl_state.proofs.gather.complete.Goals as goal

pub returns-in_err-there-clause-kept : goal.returns-in_err-there-clause-kept
returns-in_err-there-clause-kept c = gathered_itself c.args.log.now c.args.watches.now c.requires.stored c.requires.long

pub returns-clause-kept : goal.returns-clause-kept
returns-clause-kept c =
    let log = c.args.log.now in
    let old = c.args.watches.now in
    let there = c.mark_watched.new.there.items in
    let are = subst (λ (w : WatchValue). AreThere (names_of w) there) c.watches.view_is c.mark_watched.ensures in
    gathered_inputs (names_of old) there log c.put_missing.new.watches
    (c.put_missing.ensures.kept (names_of old) (gathered_there log old there c.requires.stored c.requires.long are))

pub returns-clause-all_lines : goal.returns-clause-all_lines
returns-clause-all_lines c =
    let log = c.args.log.now in
    let old = c.args.watches.now in
    let new = c.put_missing.new.watches in
    let there = c.mark_watched.new.there.items in
    let are = subst (λ (w : WatchValue). AreThere (names_of w) there) c.watches.view_is c.mark_watched.ensures in
    let begun = gathered_there log old there c.requires.stored c.requires.long are in
    IfOk-weaker c.put_missing.result
    (λ _. (names : List Hint) → IsGathered (IsMet names there 0) log old → IsGathered (IsMet names there (length log.lines)) log new)
    (λ _. IsGathered (IsCarried true (names_of old)) log new)
    (λ _ gathered. gathered_all (names_of old) there log new (gathered (names_of old) begun)) c.put_missing.ensures.gathered
