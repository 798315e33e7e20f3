use Rattle.std.proofs.Common.{◌≡◌, [], ◌∷◌, ◌++◌, Option, Some, All, Contains, length, get_or, sym, ap, ◌∙◌, subst, arith}
use Rattle.std.proofs.lemmas.List.Elements.{Contains-get_or}
use Rattle.cnf_base.specs.Literal.{opposite}
use Rattle.cnf_base.specs.Step.{named}
use Rattle.clause_log.specs.LogValue.{LogValue}
use Rattle.cdcl_trail.specs.Trail.{literals_of, IsTrail}
use Rattle.cdcl_watches.specs.Watching.{blank}
use Rattle.cdcl_propagate.specs.Visit.{HasTrue}
use Rattle.cdcl_propagate.specs.Units.{IsOne}
use Rattle.cdcl_trail.specs.Values.{IsBelow}
use Rattle.cdcl_trail.specs.declared.assigned.TrailEntry.{TrailEntry}
use Rattle.cdcl_trail.proofs.Assign.{trail_push}
use Rattle.cdcl_trail.proofs.Bridge.{named_has}
use Rattle.cdcl_propagate.proofs.Alone.{unit_stands, pushed_true}
use Rattle.cdcl_propagate.proofs.units.visit_unit.Goals as goal

some_same : {X : Type 0} {x y : X} {o : Option X} → o ≡ Some x → o ≡ Some y → x ≡ y
some_same a b = cc

pub returns-then-holds-2-clause-found : goal.returns-then-holds-2-clause-found
returns-then-holds-2-clause-found c =
    let log = c.args.log.now in
    let clause = c.clause_of-clause.result.now in
    let is : named log.inputs log.lines c.args.hint ≡ Some clause =
    subst (λ (l : LogValue). named l.inputs l.lines c.args.hint ≡ Some clause) c.view-view.ensures.same c.clause_of-clause.ensures in
    let one : IsOne clause = subst IsOne (some_same c.requires.short.1 is) c.requires.short.2 in
    let u = get_or clause 0 blank in
    let there : Contains clause u = Contains-get_or clause 0 blank (omega (arith, c.if-clause-eq0.false)) in
    let false_one = c.holds-2.ensures.0 c.if-holds-2.true in
    record {
      clause = clause;
      is = is;
      all_false = λ i d below.
          let same : get_or clause i d ≡ u = one (get_or clause i d) u (Contains-get_or clause i d below) there in
          subst (Contains (literals_of c.args.assigned.now.trail)) (c.opposite.ensures ∙ ap opposite (sym same)) false_one;
    }

pub assign-requires-clause-known : goal.assign-requires-clause-known
assign-requires-clause-known c =
    let log = c.args.log.now in
    let letters = length c.args.assigned.now.values in
    let clause = c.clause_of-clause.result.now in
    let is : named log.inputs log.lines c.args.hint ≡ Some clause =
    subst (λ (l : LogValue). named l.inputs l.lines c.args.hint ≡ Some clause) c.view-view.ensures.same c.clause_of-clause.ensures in
    (named_has (All (IsBelow letters)) log.inputs log.lines c.args.hint clause c.requires.known_inputs c.requires.known_lines is 0 blank (omega (
      arith,
      c.if-clause-eq0.false,
    ))).1

pub returns-clause-is_trail : goal.returns-clause-is_trail
returns-clause-is_trail c =
    let log = c.args.log.now in
    let trail = c.args.assigned.now.trail in
    let clause = c.clause_of-clause.result.now in
    let is : named log.inputs log.lines c.args.hint ≡ Some clause =
    subst (λ (l : LogValue). named l.inputs l.lines c.args.hint ≡ Some clause) c.view-view.ensures.same c.clause_of-clause.ensures in
    let one : IsOne clause = subst IsOne (some_same c.requires.short.1 is) c.requires.short.2 in
    let u = get_or clause 0 blank in
    let there : Contains clause u = Contains-get_or clause 0 blank (omega (arith, c.if-clause-eq0.false)) in
    let e : TrailEntry = record { literal = u; level = c.last_level-level.result; reason = Some c.args.hint } in
    subst (IsTrail log.inputs log.lines) (sym c.in_ok-assign.ensures.trail)
    (trail_push log.inputs log.lines trail e c.requires.is_trail
    (unit_stands log.inputs log.lines trail c.args.hint clause u c.last_level-level.result c.requires.is_trail is one there c.last_level-level.ensures))

pub returns-clause-found : goal.returns-clause-found
returns-clause-found c = λ other other_is.
    let log = c.args.log.now in
    let trail = c.args.assigned.now.trail in
    let clause = c.clause_of-clause.result.now in
    let is : named log.inputs log.lines c.args.hint ≡ Some clause =
    subst (λ (l : LogValue). named l.inputs l.lines c.args.hint ≡ Some clause) c.view-view.ensures.same c.clause_of-clause.ensures in
    let u = get_or clause 0 blank in
    let there : Contains clause u = Contains-get_or clause 0 blank (omega (arith, c.if-clause-eq0.false)) in
    let e : TrailEntry = record { literal = u; level = c.last_level-level.result; reason = Some c.args.hint } in
    let told : HasTrue (literals_of (trail ++ e ∷ [])) clause = (u, there, pushed_true trail e) in
    subst (λ t. HasTrue (literals_of t) other) (sym c.in_ok-assign.ensures.trail) (subst (HasTrue (literals_of (trail ++ e ∷ []))) (some_same is other_is) told)
