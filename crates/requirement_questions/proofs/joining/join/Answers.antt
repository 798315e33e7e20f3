use Rattle.std.proofs.Common.{◌≡◌, ◌∙◌, None, Some, get_or, take, false, sym, ap, subst, add-one}
use Rattle.std.proofs.lemmas.Option.{slice_get-get_or}
use Rattle.requirement_questions.specs.declared.members.Member.{Member}
use Rattle.requirement_questions.specs.Formulas.{formula_in, asked_formulas}
use Rattle.requirement_questions.specs.Joining.{part_formula, joined_at, some_of, IsAdded}
use Rattle.requirement_questions.proofs.Picking.{picked, given_same, one_joined, one_large}
use Rattle.requirement_questions.proofs.joining.join.Goals as goal

pub add-requires-clause-there : goal.add-requires-clause-there
add-requires-clause-there c =
    let nobody : Member = record { given = 0; needed = false } in
    c.requires.question.given (get_or c.args.members.now c.places.k nobody).given c.index-question-member.result
    (c.requires.members c.places.k nobody c.places-test.true)

pub returns-in_default : goal.returns-in_default
returns-in_default c =
    let q = c.args.question.now in
    let ms = c.args.members.now in
    let k = c.places.k in
    let nobody : Member = record { given = 0; needed = false } in
    let m = get_or ms k nobody in
    let g = get_or q.given.now m.given c.index-question-member.result in
    let same = ap formula_in (sym c.index-question-member.is)
    ∙ given_same q m.given c.index-question-member.result (c.requires.members k nobody c.places-test.true) c.index-question-member.is in
    let before = joined_at c.places.table c.places.root in
    let large : IsAdded before (part_formula g false) c.add.new.table None =
    subst (IsAdded before (part_formula g false) c.add.new.table) c.in_default.is c.in_ok-number.ensures in
    one_large q ms k m (slice_get-get_or ms k nobody c.places-test.true) before (part_formula g false) (asked_formulas q.asked)
    c.places.invariant.so_far same large

pub places-preserved : goal.places-preserved
places-preserved c =
    let q = c.args.question.now in
    let ms = c.args.members.now in
    let k = c.places.k in
    let nobody : Member = record { given = 0; needed = false } in
    let m = get_or ms k nobody in
    let g = get_or q.given.now m.given c.index-question-member.result in
    let same = ap formula_in (sym c.index-question-member.is)
    ∙ given_same q m.given c.index-question-member.result (c.requires.members k nobody c.places-test.true) c.index-question-member.is in
    let before = joined_at c.places.table c.places.root in
    let t = c.add.new.table in
    let added : IsAdded before (part_formula g false) t (Some c.in-Some.number) =
    subst (IsAdded before (part_formula g false) t) c.in-Some.is c.in_ok-number.ensures in
    let more = one_joined q ms k m (slice_get-get_or ms k nobody c.places-test.true) t c.in-Some.number before (part_formula g false)
    c.places.invariant.so_far same added in
    record {
      built = added.0;
      so_far = subst (λ n. joined_at t (Some c.in-Some.number) ≡ some_of (picked q (take n ms))) (sym (add-one k)) more;
    }
