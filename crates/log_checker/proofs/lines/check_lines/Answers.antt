use Rattle.std.proofs.Common.{length, sym, ◌∙◌, subst}
use Rattle.cert_text.specs.Live.{lines_of, IsGoodLine}
use Rattle.log_checker.specs.Judging.{ScratchValue, IsFirstBad, IsLinesAnswer}
use Rattle.log_checker.proofs.Together.{first_of_all, number_fits, lines_answer}
use Rattle.log_checker.proofs.lines.check_lines.Goals as goal

pub numbered-requires : goal.numbered-requires
numbered-requires g c =
    let clauses = g.C.NamedClauses.clauses c.args.clauses.now in
    let parts = c.args.view.now.parts in
    let letters = c.scratch.inside.letters in
    let cuts = c.cut_lines.new.cuts.items in
    let Good = IsGoodLine clauses letters parts in
    let first =
    first_of_all clauses parts letters cuts c.scratch.inside.areas.items c.judge_pieces.new.areas.items c.cut_lines.ensures.cuts
    (c.cut_lines.ensures.size ∙ c.scratch.invariant.cut) c.scratch.invariant.sizes
    c.judge_pieces.ensures.sizes c.judge_pieces.ensures.judged in
    number_fits Good 0 (length (lines_of parts)) _ c.first_bad_of.result c.cut_lines.ensures.few
    (subst (IsFirstBad Good 0 (length (lines_of parts))) (sym (c.first_bad_of.ensures cuts)) first)

pub returns-clause-answer : goal.returns-clause-answer
returns-clause-answer g c =
    let clauses = g.C.NamedClauses.clauses c.args.clauses.now in
    let parts = c.args.view.now.parts in
    let letters = c.scratch.inside.letters in
    let cuts = c.cut_lines.new.cuts.items in
    let Good = IsGoodLine clauses letters parts in
    let first =
    first_of_all clauses parts letters cuts c.scratch.inside.areas.items c.judge_pieces.new.areas.items c.cut_lines.ensures.cuts
    (c.cut_lines.ensures.size ∙ c.scratch.invariant.cut) c.scratch.invariant.sizes
    c.judge_pieces.ensures.sizes c.judge_pieces.ensures.judged in
    subst (λ (s : ScratchValue). IsLinesAnswer clauses s.letters parts c.numbered.result) c.scratch.view_is
    (lines_answer clauses parts letters c.first_bad_of.result c.numbered.result c.numbered.ensures
    (subst (IsFirstBad Good 0 (length (lines_of parts))) (sym (c.first_bad_of.ensures cuts)) first))
