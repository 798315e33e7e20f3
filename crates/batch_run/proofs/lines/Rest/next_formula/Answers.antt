use Rattle.std.proofs.Common.{◌∙◌, refl, sym, arith}
use Rattle.batch_run.proofs.Cutting.{blanks_passed, found_behind}
use Rattle.batch_run.proofs.lines.Rest.next_formula.Goals as goal

pub returns-then-not-is_blank-clause-found : goal.returns-then-not-is_blank-clause-found
returns-then-not-is_blank-clause-found c =
    let before = c.lines.self in
    let left = c.next_line.new.self in
    found_behind c.args.self.now.number c.args.self.now.text.now before.number before.text.now left.number left.text.now c.in-Some.text.now c.lines.number
    c.lines.invariant.same c.lines.invariant.passed c.in-Some.ensures.number c.in-Some.ensures.front (sym c.is_blank.ensures ∙ c.if-not-is_blank.true)

pub lines-preserved : goal.lines-preserved
lines-preserved c =
    let before = c.lines.self in
    let left = c.next_line.new.self in
    record {
      same = refl;
      passed = blanks_passed _ _ before.number before.text.now left.number left.text.now c.in-Some.text.now c.lines.invariant.passed c.in-Some.ensures.number
          c.in-Some.ensures.front (sym c.is_blank.ensures ∙ c.if-not-is_blank.false);
      room = omega (arith, c.lines.invariant.room, c.in-Some.ensures.number, c.in-Some.ensures.shorter);
      order = omega (arith, c.lines.invariant.order, c.in-Some.ensures.number);
    }
