use Rattle.std.proofs.Common.{◌≡◌, ◌-◌, ◌<◌, ◌∷◌, length, false, sym, ap, ap₂, subst, ◌∙◌, arith}
use Rattle.std.proofs.lemmas.List.{get_or_default}
use Rattle.past_monitor.specs.Monitor.{MonitorValue}
use Rattle.past_monitor.specs.Part.{value_at}
use Rattle.past_monitor.proofs.Parts.{is_step, still_monitor, same_rooms}
use Rattle.past_monitor.proofs.monitor.Monitor.step.Goals as goal

pub invariant_of-self : goal.invariant_of-self
invariant_of-self c =
    still_monitor c.self.inside.table.now.names c.self.inside.parts.items c.step_parts.new.parts.items c.self.inside.values.items c.step_parts.new.values.items
    c.args.state.now c.self.invariant c.step_parts.ensures.stepped

pub returns-clause-step : goal.returns-clause-step
returns-clause-step c =
    let values = c.step_parts.new.values.items in
    let count : c.len.result ≡ length values = omega (arith, c.len.ensures, c.step_parts.new.values.ok.0) in
    let low : c.len.result - 1 < length values = omega (arith, count, c.self.invariant.some, c.step_parts.ensures.stepped.long_values) in
    let last = subst (λ n. c.index.result.now ≡ value_at values (n - 1)) count
    (c.index.ensures ∙ sym (get_or_default values (c.len.result - 1) false c.index.result.now low)) in
    is_step c.self.inside.table.now.names c.self.inside.parts.items c.step_parts.new.parts.items _ _ values c.args.state.now c.args.self.now c.index.result.now
    c.self.view_is c.self.invariant.some
    c.self.invariant.parts_are c.step_parts.ensures.stepped last

pub returns-clause-rooms : goal.returns-clause-rooms
returns-clause-rooms c =
    let windows =
    same_rooms c.self.inside.parts.items c.step_parts.new.parts.items c.step_parts.new.values.items c.args.state.now c.step_parts.ensures.stepped in
    ap₂ ◌∷◌ c.step_parts.ensures.parts (ap₂ ◌∷◌ c.step_parts.ensures.values windows) ∙ ap (λ (m : MonitorValue). m.rooms) c.self.view_is
