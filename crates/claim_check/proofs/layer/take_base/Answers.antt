use Rattle.std.proofs.Common.{◌++◌, length, refl, subst}
use Rattle.log_checker.specs.Values.{letters_in}
use Rattle.claims.specs.Between.{greatest}
use Rattle.claims.specs.Certificate.{clauses_of}
use Rattle.claim_check.specs.Data.{IsGoodStep, layer_in}
use Rattle.claim_check.specs.Bases.{IsFound, IsBased}
use Rattle.claim_check.proofs.Finding.{found_some, found_none}
use Rattle.claim_check.proofs.Layered.{has_base, over, base_whole}
use Rattle.claim_check.proofs.Faults.{begun}
use Rattle.claim_check.proofs.layer.take_base.Goals as goal

pub returns-in-Some-2-clause-judged : goal.returns-in-Some-2-clause-judged
returns-in-Some-2-clause-judged c =
    let f = c.args.closure.now.formula in
    let layer = layer_in c.args.layer.now in
    let clauses = c.args.clauses.now in
    let lines = c.args.lines.now in (
      begun f c.args.kind clauses lines layer c.in-Some.base _ c.first_foreign.result c.in-Some.ensures c.entries.ensures.closure.long
          c.in_default-first_foreign.is c.first_foreign.ensures,
      found_some (IsGoodStep clauses lines (greatest f) layer.base_lines) (length layer.base_lines) c.in_ok-line.field-0 c.in-Some-2.line c.in-Some-2.is
          (over clauses clauses lines lines (letters_in c.args.assignment.now) (greatest f)
          layer.base_lines c.in_ok-line.field-0 refl refl c.requires.letters c.in_ok-line.ensures.judged),
    )

pub returns-in-Some-first_unbased-clause-judged : goal.returns-in-Some-first_unbased-clause-judged
returns-in-Some-first_unbased-clause-judged c =
    let f = c.args.closure.now.formula in
    let layer = layer_in c.args.layer.now in
    let clauses = c.args.clauses.now in
    let lines = c.args.lines.now in
    let all = lines ++ clauses_of layer.base_lines in (
      record {
        begun =
            begun f c.args.kind clauses lines layer c.in-Some.base _ c.first_foreign.result c.in-Some.ensures c.entries.ensures.closure.long
            c.in_default-first_foreign.is c.first_foreign.ensures;
        steps =
            found_none (IsGoodStep clauses lines (greatest f) layer.base_lines) (length layer.base_lines) c.in_ok-line.field-0 c.in_default-2.is
            (over clauses clauses lines lines (letters_in c.args.assignment.now) (greatest f)
            layer.base_lines c.in_ok-line.field-0 refl refl c.requires.letters c.in_ok-line.ensures.judged);
      },
      found_some (IsBased f c.args.kind all layer layer.eventuality) (length layer.claims)
          c.first_unbased.result c.in-Some-first_unbased.claim c.in-Some-first_unbased.is
          (subst (λ ls. IsFound (IsBased f c.args.kind ls layer layer.eventuality) (length layer.claims) c.first_unbased.result)
          (c.in_ok-line.ensures.taken c.in_default-2.is) c.first_unbased.ensures),
    )

pub returns-clause-judged : goal.returns-clause-judged
returns-clause-judged c =
    let f = c.args.closure.now.formula in
    let layer = layer_in c.args.layer.now in
    let clauses = c.args.clauses.now in
    let lines = c.args.lines.now in
    let all = lines ++ clauses_of layer.base_lines in
    record {
      read = record {
        begun =
            begun f c.args.kind clauses lines layer c.in-Some.base _ c.first_foreign.result c.in-Some.ensures c.entries.ensures.closure.long
            c.in_default-first_foreign.is c.first_foreign.ensures;
        steps =
            found_none (IsGoodStep clauses lines (greatest f) layer.base_lines) (length layer.base_lines) c.in_ok-line.field-0 c.in_default-2.is
            (over clauses clauses lines lines (letters_in c.args.assignment.now) (greatest f)
            layer.base_lines c.in_ok-line.field-0 refl refl c.requires.letters c.in_ok-line.ensures.judged);
      };
      base =
          base_whole f c.args.kind layer.eventuality all layer (has_base f c.args.kind layer.eventuality c.in-Some.base c.in-Some.ensures)
          (found_none (IsBased f c.args.kind all layer layer.eventuality) (length layer.claims) c.first_unbased.result c.in_default-first_unbased.is
          (subst (λ ls. IsFound (IsBased f c.args.kind ls layer layer.eventuality) (length layer.claims) c.first_unbased.result)
          (c.in_ok-line.ensures.taken c.in_default-2.is) c.first_unbased.ensures));
    }
