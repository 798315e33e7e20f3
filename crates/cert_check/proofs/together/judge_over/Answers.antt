use Rattle.std.proofs.Common.{List, Some, None, refl, sym, ap, subst, ◌∙◌}
use Rattle.cnf_base.specs.declared.literal.Literal.{Literal}
use Rattle.cnf_base.specs.Known.{AreKnown}
use Rattle.enc_layout.specs.Letters.{LayoutValue, letters_through}
use Rattle.enc_layout.specs.Clauses.{counts, clause_list}
use Rattle.log_checker.specs.Judging.{ScratchValue, IsFirstBadLine}
use Rattle.cert_check.specs.Answer.{IsJudged}
use Rattle.cert_check.proofs.Judging.{first_line, judged_targets}
use Rattle.cert_check.proofs.Walking.{list_known}
use Rattle.cert_check.proofs.together.judge_over.Goals as goal

pub check_lines-requires-after_bounds : goal.check_lines-requires-after_bounds
check_lines-requires-after_bounds g c κs within =
    let f = c.args.closure.now.formula in
    let kind = c.args.closure.now.kind in
    let letters = ap (λ (x : ScratchValue). x.letters) c.in_ok-scratch.ensures ∙ (c.letters_through-letters.ensures
    ∙ (ap (λ (l : LayoutValue). letters_through l.kind l.counts c.depth.result) c.of.ensures.layout ∙ ap (letters_through kind (counts f)) c.depth.ensures)) in
    subst (λ n. AreKnown n (g.C.NamedClauses.clauses c.args.clauses.now)) (sym letters)
    (subst (AreKnown (letters_through kind (counts f) c.args.view.now.depth)) (sym c.requires.clauses) (list_known f kind c.args.view.now.depth))

pub returns-in-FirstBad : goal.returns-in-FirstBad
returns-in-FirstBad g c =
    let f = c.args.closure.now.formula in
    let kind = c.args.closure.now.kind in
    let d = c.args.view.now.depth in
    let letters = ap (λ (x : ScratchValue). x.letters) c.in_ok-scratch.ensures ∙ (c.letters_through-letters.ensures
    ∙ (ap (λ (l : LayoutValue). letters_through l.kind l.counts c.depth.result) c.of.ensures.layout ∙ ap (letters_through kind (counts f)) c.depth.ensures)) in
    let found = c.in-FirstBad.ensures.answer in (
      found.0,
      found.1,
      first_line f kind d c.args.view.now (Some found.0) (sym c.requires.kind) refl
          (subst (λ n. IsFirstBadLine (clause_list f kind d) n c.args.view.now.parts (Some found.0)) letters (subst
          (λ (cl : List (List Literal)). IsFirstBadLine cl c.in_ok-scratch.scratch.letters c.args.view.now.parts (Some found.0)) c.requires.clauses found.2)),
    )

pub returns : goal.returns
returns g c =
    let f = c.args.closure.now.formula in
    let kind = c.args.closure.now.kind in
    let d = c.args.view.now.depth in
    let letters = ap (λ (x : ScratchValue). x.letters) c.in_ok-scratch.ensures ∙ (c.letters_through-letters.ensures
    ∙ (ap (λ (l : LayoutValue). letters_through l.kind l.counts c.depth.result) c.of.ensures.layout ∙ ap (letters_through kind (counts f)) c.depth.ensures)) in
    let lines =
    first_line f kind d c.args.view.now None (sym c.requires.kind) refl
    (subst (λ n. IsFirstBadLine (clause_list f kind d) n c.args.view.now.parts None) letters (subst (λ (cl : List (List Literal)). IsFirstBadLine cl
    c.in_ok-scratch.scratch.letters c.args.view.now.parts None) c.requires.clauses c.in-AllGood.ensures.answer)) in
    subst (IsJudged f c.args.view.now) (sym c.by_targets.ensures) (judged_targets f c.args.view.now c.first_bad_target.result lines c.first_bad_target.ensures)
