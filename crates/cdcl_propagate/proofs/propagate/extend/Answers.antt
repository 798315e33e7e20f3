use Rattle.std.proofs.Common.{◌≡◌, ◌<◌, ◌-◌, length, sym, ap, ◌∙◌, subst, arith}
use Rattle.std.proofs.lemmas.List.{get_or_default}
use Rattle.cdcl_trail.specs.Trail.{blank_entry}
use Rattle.cdcl_trail.specs.declared.assigned.TrailEntry.{TrailEntry}
use Rattle.cdcl_trail.proofs.Levels.{level_at, top_last}
use Rattle.cdcl_propagate.specs.Lasting.{IsLasting}
use Rattle.cdcl_propagate.proofs.Lasting.{lasting_more}
use Rattle.cdcl_propagate.proofs.propagate.extend.Goals as goal

pub returns-then-entry-level-clause-lasting : goal.returns-then-entry-level-clause-lasting
returns-then-entry-level-clause-lasting c =
    let trail = c.args.assigned.now.trail in
    let within : c.args.propagated < length trail = omega (arith, c.requires.ready.within) in
    let old = subst (IsLasting c.args.watches.now.clauses trail) (let e : c.args.lasting.now ≡ c.args.propagated = omega arith in e) c.requires.lasting in
    let same : level_at trail c.args.propagated ≡ level_at trail (length trail - 1) =
    ap (λ (e : TrailEntry). e.level) (sym (c.entry.ensures ∙ get_or_default trail c.args.propagated c.entry.result blank_entry within))
    ∙ c.if-entry-level.true ∙ c.level.ensures in
    lasting_more c.args.log.now.inputs c.args.log.now.lines c.args.watches.now.clauses trail c.args.propagated c.requires.ready.is_trail within
    (top_last c.args.log.now.inputs c.args.log.now.lines trail c.args.propagated c.requires.ready.is_trail within same) c.requires.ready.guarded old
