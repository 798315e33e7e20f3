use Rattle.std.proofs.Common.{◌≡◌, ◌≤◌, ap, sym, ◌∙◌, subst, All, Contains}
use Rattle.enc_layout.specs.Letters.{LayoutValue, letters_through}
use Rattle.enc_layout.specs.Clauses.{counts, state_clauses, signed_clauses}
use Rattle.unravel.specs.Putting.{up_to, IsPartOf, HasMore}
use Rattle.unravel.proofs.Putting.{more_then}
use Rattle.unravel.proofs.Grown.{room_before, sized, grown}
use Rattle.unravel.proofs.growing.grow.Goals as goal

pub letters-requires : goal.letters-requires
letters-requires c =
    let f = c.args.closure.now.formula in
    let kind = c.args.closure.now.kind in
    let all : c.letters_through-letters.result ≡ letters_through kind (counts f) c.args.step =
    c.letters_through-letters.ensures ∙ ap (λ (m : LayoutValue). letters_through m.kind m.counts c.args.step) c.of.ensures.layout in
    subst (λ n. c.args.inputs.now.solver.letters ≤ n) (sym all) (room_before f kind c.args.step c.args.inputs.now c.requires.before)

pub add_step-requires-clause-part : goal.add_step-requires-clause-part
add_step-requires-clause-part c =
    let f = c.args.closure.now.formula in
    let kind = c.args.closure.now.kind in
    let all : c.letters_through-letters.result ≡ letters_through kind (counts f) c.args.step =
    c.letters_through-letters.ensures ∙ ap (λ (m : LayoutValue). letters_through m.kind m.counts c.args.step) c.of.ensures.layout in
    let mid = c.letters.new.self in
    let now = c.in_ok-letters.ensures in
    let first = sized f kind c.args.step c.args.inputs.now mid c.requires.before now.log now.names (now.letters ∙ all) in
    subst (λ x. IsPartOf x mid) (sym c.of-listed.ensures) first.part

pub returns-clause-through : goal.returns-clause-through
returns-clause-through c =
    let f = c.args.closure.now.formula in
    let kind = c.args.closure.now.kind in
    let k = c.args.step in
    let x = up_to f kind k in
    let start = c.args.inputs.now in
    let last = c.add_step.new.inputs in
    let all : c.letters_through-letters.result ≡ letters_through kind (counts f) k =
    c.letters_through-letters.ensures ∙ ap (λ (m : LayoutValue). letters_through m.kind m.counts k) c.of.ensures.layout in
    let mid = c.letters.new.self in
    let now = c.in_ok-letters.ensures in
    let first = sized f kind k start mid c.requires.before now.log now.names (now.letters ∙ all) in
    let more = more_then x start mid last first (subst (λ y. HasMore y mid last) c.of-listed.ensures c.in_ok-add_step.ensures.more) in
    grown f kind k start last c.requires.before more
    (subst (λ y. All (Contains last.solver.log.inputs) (signed_clauses y.formula y.kind (state_clauses y.formula k)))
    c.of-listed.ensures c.in_ok-add_step.ensures.states)

pub returns-clause-kept : goal.returns-clause-kept
returns-clause-kept c =
    let f = c.args.closure.now.formula in
    let kind = c.args.closure.now.kind in
    let k = c.args.step in
    let x = up_to f kind k in
    let start = c.args.inputs.now in
    let last = c.add_step.new.inputs in
    let all : c.letters_through-letters.result ≡ letters_through kind (counts f) k =
    c.letters_through-letters.ensures ∙ ap (λ (m : LayoutValue). letters_through m.kind m.counts k) c.of.ensures.layout in
    let mid = c.letters.new.self in
    let now = c.in_ok-letters.ensures in
    let first = sized f kind k start mid c.requires.before now.log now.names (now.letters ∙ all) in
    (more_then x start mid last first (subst (λ y. HasMore y mid last) c.of-listed.ensures c.in_ok-add_step.ensures.more)).kept
