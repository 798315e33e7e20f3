use Rattle.std.proofs.Common.{◌+◌, ◌∷◌, length, get_or, Some, None, sym, ap, subst, ◌∙◌, arith}
use mathlib.Core.Bool.{false≢true}
use Rattle.cnf_base.specs.Known.{AreKnown}
use Rattle.enc_layout.specs.Letters.{LayoutValue, letters_through}
use Rattle.enc_layout.specs.Clauses.{counts, clause_list}
use Rattle.cert_text.specs.declared.item.CertItem.{CertItem}
use Rattle.cert_text.specs.declared.item.CertItem.TheVariants as items
use Rattle.cert_text.specs.declared.glance.Form.{Form}
use Rattle.cert_text.specs.Reading.{certificate_in}
use Rattle.log_checker.specs.Judging.{Checker, fresh, IsGoodItem}
use Rattle.cert_check.specs.Lawful.{IsGoodTarget}
use Rattle.cert_check.specs.Answer.{IsFirstTarget, IsJudged}
use Rattle.cert_check.specs.Walk.{IsGoodKept}
use Rattle.cert_check.proofs.Judging.{first_same, first_line, judged_targets}
use Rattle.cert_check.proofs.Walking.{walk_starts, walk_goes_on, line_counts, walk_line, walk_delete, walk_bad, walk_closes, kept_target, list_known}
use Rattle.cert_check.proofs.alone.judge_over.Goals as goal

pub items-init : goal.items-init
items-init g c =
    let same = c.letters_through-letters.ensures ∙ ap (λ (l : LayoutValue). letters_through l.kind l.counts c.args.form.depth) c.of.ensures.layout in
    record {
      walked = walk_starts (clause_list c.args.closure.now.formula c.args.closure.now.kind c.args.form.depth)
          (letters_through c.args.closure.now.kind (counts c.args.closure.now.formula) c.args.form.depth) (certificate_in c.args.bytes.now)
          c.into_iter-item-iterator.result c.in_ok-checker.checker (c.into_iter-item-iterator.ensures.into_iter_gives ∙ c.new-item-items.ensures)
          (c.in_ok-checker.ensures ∙ ap fresh same);
      line = omega (arith, ap (λ (x : Checker). x.lines) c.in_ok-checker.ensures);
    }

pub take-requires : goal.take-requires
take-requires g c =
    subst (λ n. AreKnown n (g.C.NamedClauses.clauses c.args.clauses.now)) (sym c.items.invariant.walked.letters_are)
    (subst (AreKnown (letters_through c.args.closure.now.kind (counts c.args.closure.now.formula) c.args.form.depth)) (sym c.requires.clauses)
    (list_known c.args.closure.now.formula c.args.closure.now.kind c.args.form.depth))

pub take-requires-in-Delete : goal.take-requires-in-Delete
take-requires-in-Delete g c =
    subst (λ n. AreKnown n (g.C.NamedClauses.clauses c.args.clauses.now)) (sym c.items.invariant.walked.letters_are)
    (subst (AreKnown (letters_through c.args.closure.now.kind (counts c.args.closure.now.formula) c.args.form.depth)) (sym c.requires.clauses)
    (list_known c.args.closure.now.formula c.args.closure.now.kind c.args.form.depth))

pub items-preserved : goal.items-preserved
items-preserved g c =
    let rest = c.in-Some.ensures.steps ∙ ap (λ (x : CertItem). x ∷ c.next.new.self) c.in-Delete.is in
    record {
      walked = walk_delete (clause_list c.args.closure.now.formula c.args.closure.now.kind c.args.form.depth)
          (letters_through c.args.closure.now.kind (counts c.args.closure.now.formula) c.args.form.depth) (certificate_in c.args.bytes.now)
          c.items.item-iterator
          c.next.new.self c.items.checker c.take-in-Delete.new.self c.items.invariant.walked c.in-Delete.lines rest c.in_ok-take-in-Delete.ensures.taken;
      line = omega (arith, c.items.invariant.line, ap (λ (x : Checker). x.lines) c.in_ok-take-in-Delete.ensures.taken);
    }

pub items-preserved-else-not-branch : goal.items-preserved-else-not-branch
items-preserved-else-not-branch g c =
    let rest = c.in-Some.ensures.steps ∙ ap (λ (x : CertItem). x ∷ c.next.new.self) c.in-Line.is in
    record {
      walked = walk_line (clause_list c.args.closure.now.formula c.args.closure.now.kind c.args.form.depth)
          (letters_through c.args.closure.now.kind (counts c.args.closure.now.formula) c.args.form.depth) (certificate_in c.args.bytes.now)
          c.items.item-iterator c.next.new.self c.items.checker c.take.new.self c.items.invariant.walked c.in-Line.literals c.in-Line.hints rest
          c.in_ok-take-in-Line.ensures.taken c.in_ok-take-in-Line.field-0
          (subst (λ cl. IsGoodItem cl c.items.checker (items.Line c.in-Line.literals c.in-Line.hints) c.in_ok-take-in-Line.field-0)
          c.requires.clauses c.in_ok-take-in-Line.ensures.judged) c.if-not-branch.false;
      line =
          let low = line_counts (clause_list c.args.closure.now.formula c.args.closure.now.kind c.args.form.depth)
          (letters_through c.args.closure.now.kind (counts c.args.closure.now.formula) c.args.form.depth) (certificate_in c.args.bytes.now)
          c.items.item-iterator c.next.new.self c.items.checker c.items.checker c.items.invariant.walked c.in-Line.literals c.in-Line.hints
          (c.in-Some.ensures.steps ∙ ap (λ (x : CertItem). x ∷ c.next.new.self) c.in-Line.is) in
          omega
          (arith, c.items.invariant.line, ap (λ (x : Checker). x.lines) c.in_ok-take-in-Line.ensures.taken, low, ap (λ (x : Form). x.lines) c.requires.says);
    }

pub returns : goal.returns
returns g c = absurd (walk_goes_on (clause_list c.args.closure.now.formula c.args.closure.now.kind c.args.form.depth)
    (letters_through c.args.closure.now.kind (counts c.args.closure.now.formula) c.args.form.depth) (certificate_in c.args.bytes.now)
    c.items.item-iterator c.items.checker c.items.invariant.walked c.in-None.ensures.steps.0)

pub returns-then-not-branch : goal.returns-then-not-branch
returns-then-not-branch g c =
    let rest = c.in-Some.ensures.steps ∙ ap (λ (x : CertItem). x ∷ c.next.new.self) c.in-Line.is in
    let bad = walk_bad (clause_list c.args.closure.now.formula c.args.closure.now.kind c.args.form.depth)
    (letters_through c.args.closure.now.kind (counts c.args.closure.now.formula) c.args.form.depth) (certificate_in c.args.bytes.now) c.items.item-iterator
    c.next.new.self c.items.checker c.take.new.self c.items.invariant.walked c.in-Line.literals c.in-Line.hints rest c.in_ok-take-in-Line.field-0
    (subst (λ cl. IsGoodItem cl c.items.checker (items.Line c.in-Line.literals c.in-Line.hints) c.in_ok-take-in-Line.field-0)
    c.requires.clauses c.in_ok-take-in-Line.ensures.judged)
    (λ yes'. false≢true (sym c.if-not-branch.true ∙ yes')) in (
      c.items.checker.lines,
      omega (arith, c.items.invariant.line, bad.1, ap (λ (x : Form). x.lines) c.requires.says),
      first_line c.args.closure.now.formula c.args.closure.now.kind c.args.form.depth (certificate_in c.args.bytes.now) (Some c.items.checker.lines)
          (sym c.requires.kind ∙ (ap (λ (x : Form). x.kind) c.requires.says)) (ap (λ (x : Form). x.depth) c.requires.says) bad,
    )

pub returns-in-Close : goal.returns-in-Close
returns-in-Close g c =
    let rest = c.in-Some.ensures.steps ∙ ap (λ (x : CertItem). x ∷ c.next.new.self) c.in-Close.is in
    let end = walk_closes (clause_list c.args.closure.now.formula c.args.closure.now.kind c.args.form.depth)
    (letters_through c.args.closure.now.kind (counts c.args.closure.now.formula) c.args.form.depth) (certificate_in c.args.bytes.now)
    c.items.item-iterator c.next.new.self c.items.checker c.items.checker c.items.invariant.walked c.in-Close.targets rest in
    let same_kind = sym (sym c.requires.kind ∙ (ap (λ (x : Form). x.kind) c.requires.says)) in
    let lines = first_line c.args.closure.now.formula c.args.closure.now.kind c.args.form.depth (certificate_in c.args.bytes.now) None (sym same_kind)
    (ap (λ (x : Form). x.depth) c.requires.says) end.2 in
    let first : IsFirstTarget (IsGoodTarget c.args.closure.now.formula (certificate_in c.args.bytes.now)) (c.args.form.depth + 2)
    c.first_bad_target-bad.result =
    first_same (λ i. IsGoodKept c.args.closure.now.formula c.args.closure.now.kind c.args.form.depth c.items.checker.live i (get_or c.in-Close.targets i 0))
    (IsGoodTarget c.args.closure.now.formula (certificate_in c.args.bytes.now)) (c.args.form.depth + 2) c.first_bad_target-bad.result
    (λ i low. kept_target c.args.closure.now.formula c.args.closure.now.kind c.args.form.depth (certificate_in c.args.bytes.now)
    c.items.checker c.in-Close.targets i same_kind (sym (ap (λ (x : Form). x.depth) c.requires.says)) end.0 end.1) c.first_bad_target-bad.ensures in
    subst (IsJudged c.args.closure.now.formula (certificate_in c.args.bytes.now)) (sym c.by_targets.ensures)
    (judged_targets c.args.closure.now.formula (certificate_in c.args.bytes.now) c.first_bad_target-bad.result lines
    (subst (λ n. IsFirstTarget (IsGoodTarget c.args.closure.now.formula (certificate_in c.args.bytes.now)) (n + 2) c.first_bad_target-bad.result)
    (ap (λ (x : Form). x.depth) c.requires.says) first))

pub overflow_sub-left : goal.overflow_sub-left
overflow_sub-left g c =
    let low = line_counts (clause_list c.args.closure.now.formula c.args.closure.now.kind c.args.form.depth)
    (letters_through c.args.closure.now.kind (counts c.args.closure.now.formula) c.args.form.depth) (certificate_in c.args.bytes.now)
    c.items.item-iterator c.next.new.self c.items.checker c.items.checker c.items.invariant.walked c.in-Line.literals c.in-Line.hints
    (c.in-Some.ensures.steps ∙ ap (λ (x : CertItem). x ∷ c.next.new.self) c.in-Line.is) in
    omega (arith, c.items.invariant.line, low, ap (λ (x : Form). x.lines) c.requires.says)

pub first_bad_target-bad-requires-clause-count : goal.first_bad_target-bad-requires-clause-count
first_bad_target-bad-requires-clause-count g c =
    let rest = c.in-Some.ensures.steps ∙ ap (λ (x : CertItem). x ∷ c.next.new.self) c.in-Close.is in
    let end = walk_closes (clause_list c.args.closure.now.formula c.args.closure.now.kind c.args.form.depth)
    (letters_through c.args.closure.now.kind (counts c.args.closure.now.formula) c.args.form.depth) (certificate_in c.args.bytes.now)
    c.items.item-iterator c.next.new.self c.items.checker c.items.checker c.items.invariant.walked c.in-Close.targets rest in
    ap length end.0 ∙ (c.requires.text.lawful.count ∙ ap (λ n. n + 2) (sym (ap (λ (x : Form). x.depth) c.requires.says)))
