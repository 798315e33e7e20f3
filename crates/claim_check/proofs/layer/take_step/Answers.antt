use Rattle.std.proofs.Common.{◌++◌, length, refl}
use Rattle.log_checker.specs.Values.{letters_in}
use Rattle.claims.specs.Between.{width, greatest}
use Rattle.claims.specs.Certificate.{clauses_of, next_claims}
use Rattle.claims.specs.Lawful.{not_after}
use Rattle.claim_check.specs.Data.{IsGoodStep, layer_in}
use Rattle.claim_check.specs.Reasons.{IsKept}
use Rattle.claim_check.proofs.Finding.{found_some, found_none}
use Rattle.claim_check.proofs.Layered.{opened_letters, next_same, over, held_over}
use Rattle.claim_check.proofs.layer.take_step.Goals as goal

pub take_lines-requires-clause-clauses : goal.take_lines-requires-clause-clauses
take_lines-requires-clause-clauses c =
    opened_letters c.args.closure.now.formula (layer_in c.args.layer.now) c.args.clauses.now c.open_next.new.out _ (letters_in c.args.assignment.now)
    c.entries.ensures.closure.long
    c.requires.clauses c.requires.claims c.in_ok-open_next.ensures.ok c.requires.letters

pub returns-in-Some-clause-judged : goal.returns-in-Some-clause-judged
returns-in-Some-clause-judged c =
    let f = c.args.closure.now.formula in
    let layer = layer_in c.args.layer.now in
    let clauses = c.args.clauses.now ++ next_claims (width f) layer in
    found_some (IsGoodStep clauses c.args.lines.now (greatest f) layer.step_lines) (length layer.step_lines) c.in_ok-line.field-0 c.in-Some.line c.in-Some.is
    (over c.open_next.new.out clauses c.args.lines.now c.args.lines.now (letters_in c.args.assignment.now) (greatest f) layer.step_lines c.in_ok-line.field-0
    (next_same f layer c.args.clauses.now c.open_next.new.out _ c.entries.ensures.closure.long c.in_ok-open_next.ensures.ok)
    refl c.requires.letters c.in_ok-line.ensures.judged)

pub returns-in-Some-first_missed-clause-judged : goal.returns-in-Some-first_missed-clause-judged
returns-in-Some-first_missed-clause-judged c =
    let f = c.args.closure.now.formula in
    let layer = layer_in c.args.layer.now in
    let clauses = c.args.clauses.now ++ next_claims (width f) layer in
    let lines = c.args.lines.now ++ clauses_of layer.step_lines in (
      found_none (IsGoodStep clauses c.args.lines.now (greatest f) layer.step_lines) (length layer.step_lines) c.in_ok-line.field-0 c.in_default.is
          (over c.open_next.new.out clauses c.args.lines.now c.args.lines.now (letters_in c.args.assignment.now) (greatest f)
          layer.step_lines c.in_ok-line.field-0
          (next_same f layer c.args.clauses.now c.open_next.new.out _ c.entries.ensures.closure.long c.in_ok-open_next.ensures.ok)
          refl c.requires.letters c.in_ok-line.ensures.judged),
      found_some (IsKept f lines layer) (length layer.claims) c.first_missed.result c.in-Some-first_missed.claim c.in-Some-first_missed.is
          (held_over c.take_lines.new.lines lines layer.claims c.deref.result.now layer.step_targets c.negation-after.result (not_after f) c.first_missed.result
          (c.in_ok-line.ensures.taken c.in_default.is) c.deref.ensures.value c.negation-after.ensures c.first_missed.ensures),
    )

pub returns-clause-judged : goal.returns-clause-judged
returns-clause-judged c =
    let f = c.args.closure.now.formula in
    let layer = layer_in c.args.layer.now in
    let clauses = c.args.clauses.now ++ next_claims (width f) layer in
    let lines = c.args.lines.now ++ clauses_of layer.step_lines in (
      found_none (IsGoodStep clauses c.args.lines.now (greatest f) layer.step_lines) (length layer.step_lines) c.in_ok-line.field-0 c.in_default.is
          (over c.open_next.new.out clauses c.args.lines.now c.args.lines.now (letters_in c.args.assignment.now) (greatest f)
          layer.step_lines c.in_ok-line.field-0
          (next_same f layer c.args.clauses.now c.open_next.new.out _ c.entries.ensures.closure.long c.in_ok-open_next.ensures.ok)
          refl c.requires.letters c.in_ok-line.ensures.judged),
      found_none (IsKept f lines layer) (length layer.claims) c.first_missed.result c.in_default-first_missed.is
          (held_over c.take_lines.new.lines lines layer.claims c.deref.result.now layer.step_targets c.negation-after.result (not_after f) c.first_missed.result
          (c.in_ok-line.ensures.taken c.in_default.is) c.deref.ensures.value c.negation-after.ensures c.first_missed.ensures),
    )
