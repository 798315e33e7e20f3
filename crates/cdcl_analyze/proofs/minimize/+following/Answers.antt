-- Why a letter follows, and that what is found of it grows.
use Rattle.std.proofs.Common.{rules, ◌≡◌, ℕ, ◌<◌, ◌⊎◌, inl, inr, All, List, length, ◌∙◌, sym, ap, subst, arith, false}
use Rattle.std.proofs.lemmas.List.{take_all}
use Rattle.cnf_base.specs.declared.literal.Literal.{Literal}
use Rattle.cdcl_trail.specs.Trail.{literal_at}
use Rattle.cdcl_analyze.specs.Marks.{MarksValue, IsMarked}
use Rattle.cdcl_analyze.specs.Consequences.{StandsBelow, IsGiven, Grows}
use Rattle.cdcl_analyze.specs.Reason.{read_literals}
use Rattle.cdcl_analyze.specs.declared.marks.Consequence.{Consequence}
use Rattle.cdcl_analyze.proofs.Steps.{waiting_marked}
use Rattle.cdcl_analyze.proofs.Outcomes.{none_not_some}
use Rattle.cdcl_analyze.proofs.Places.{stands_known, stands_before, reason_here}
use Rattle.cdcl_analyze.proofs.Growth.{marked_given, grows_itself, grows_on, grows_marked, grows_denied, given_more, derived, not_derived}
use Rattle.cdcl_analyze.proofs.Sameness.{clause_has, read_stands}
use Rattle.cdcl_analyze.proofs.minimize.+following.Goals.{are_given-in-Some, are_given-in-None+in_ok-is_given-in-None}
use Rattle.cdcl_analyze.proofs.minimize.+following.Goals.{derive-else-steps-gt0-via-then-steps-gt0+in_ok-are_given+else-branch}
use Rattle.cdcl_analyze.proofs.minimize.+following.Goals.{derive-else-steps-gt0-via-else-steps-gt0}
use Rattle.cdcl_analyze.proofs.minimize.+following.Goals as goal

abbrev blank : Literal
blank = record { letter = record { 0 = 0 }; negated = false }

pub ask-place_of-place-requires : goal.ask-place_of-place-requires
ask-place_of-place-requires t c = stands_known _ _ _ c.invariant.ensures.told c.requires.stands

pub ask-returns-in_ok-mark-clause-grows : goal.ask-returns-in_ok-mark-clause-grows
ask-returns-in_ok-mark-clause-grows t c = λ end stands.
    let trail = c.args.graph.now.trail in
    let letter = c.args.letter in
    let p = c.requires.stands in
    let same = c.place_of-place.ensures p.0 p.1 p.2 in
    grows_marked _ _ trail c.args.base c.args.marks.now c.mark.new.self c.requires.can_ask.consequences c.in_ok-mark.ensures.found c.in_ok-mark.ensures.kept end
    (λ x h. elim (c.in_ok-mark.ensures.only x h) [
      | inl is ↦ inr (subst (λ (y : ℕ). StandsBelow trail c.args.base y) (sym is) (p.0, omega (arith, same, c.if-place-base.true), p.2))
      | inr was ↦ inl was
    ])
    (λ e waits. waiting_marked trail letter c.place_of-place.result e c.args.marks.now c.mark.new.self c.place_of-place.ensures c.in_ok-mark.ensures.only
    c.in_ok-mark.ensures.waits waits)

pub ask-derive-requires : goal.ask-derive-requires
ask-derive-requires t c =
    let reason = reason_here c.args.graph.now.trail c.args.base c.args.letter c.place_of-place.result c.entry-entry.result c.in-Some.reason
    c.place_of-place.ensures c.requires.stands c.if-place-base.false c.entry-entry.ensures c.in-Some.is in
    (search rules, (c.requires.can_ask, (reason, c.requires.unknown)))

pub ask-returns-then-marked-clause-given : goal.ask-returns-then-marked-clause-given
ask-returns-then-marked-clause-given t c = λ is_given.
    let low = stands_known _ _ _ c.invariant.ensures.told c.requires.stands in
    let was : IsMarked c.args.marks.now c.args.letter = (c.has-marked.ensures (omega (arith, low, c.requires.can_ask.size))).0 c.if-marked.true in
    marked_given _ _ c.derive.new.marks c.args.letter _
    ((c.in_ok-follows-in-Some.ensures.grows (length c.args.graph.now.trail) c.requires.stands).marked c.args.letter was) c.in_ok-follows-in-Some.ensures.outcome

pub ask-returns-in-None-clause-grows : goal.ask-returns-in-None-clause-grows
ask-returns-in-None-clause-grows t c = λ end stands.
    let inputs = c.args.graph.now.log.inputs in
    let lines = c.args.graph.now.log.lines in
    subst (λ (m : MarksValue). Grows inputs lines c.args.graph.now.trail c.args.base end c.args.marks.now m) (sym c.deny.ensures)
    (grows_denied inputs lines c.args.graph.now.trail c.args.base c.args.marks.now c.args.letter end c.requires.can_ask.consequences stands
    (λ e. none_not_some (c.requires.unknown) e))

pub derive-returns-then-branch-clause-grows : goal.derive-returns-then-branch-clause-grows
derive-returns-then-branch-clause-grows t c =
    let why = c.requires.reason in
    let low = stands_known _ _ _ c.invariant.ensures.told (why.place, why.inside, why.is) in
    derived c.args.graph.now.log.inputs c.args.graph.now.log.lines c.args.graph.now.trail c.args.base c.args.graph.now.values c.args.letter c.args.reason
    c.invariant.ensures.told c.invariant.ensures.is_trail why
    c.args.marks.now c.are_given.new.marks c.conclude.new.self (c.in_ok-are_given.ensures.grows why.place why.inside why.is) c.requires.unknown
    (omega (arith, low, c.requires.can_ask.size, c.are_given.ensures.size)) (c.in_ok-are_given.ensures.given c.if-branch.true)
    c.in_ok-conclude.ensures.concluded

pub derive-returns-clause-grows : goal.derive-returns-clause-grows
derive-returns-clause-grows t c =
    let why = c.requires.reason in
    let inputs = c.args.graph.now.log.inputs in
    let lines = c.args.graph.now.log.lines in
    let trail = c.args.graph.now.trail in
    let old = c.args.marks.now in
    let grows : Grows inputs lines trail c.args.base why.place old c.else-steps-gt0.marks = elim c.else-steps-gt0.branch [
      | derive-else-steps-gt0-via-then-steps-gt0+in_ok-are_given+else-branch w ↦ rw w.marks-is (w.in_ok-are_given.ensures.grows why.place why.inside why.is)
      | derive-else-steps-gt0-via-else-steps-gt0 w ↦ rw w.marks-is (grows_itself inputs lines trail c.args.base why.place old c.requires.can_ask.consequences)
    ] in
    not_derived inputs lines trail c.args.base c.args.graph.now.values c.args.letter c.args.reason c.invariant.ensures.told c.invariant.ensures.is_trail why
    old c.else-steps-gt0.marks c.take_back.new.self c.deny.new.self _ c.requires.can_ask.consequences grows c.requires.unknown
    (ap (λ (cs : List Consequence). length cs) c.consequences-count.ensures)
    c.take_back.ensures.rest c.take_back.ensures.others c.take_back.ensures.unknown c.deny.ensures

pub are_given-given-requires : goal.are_given-given-requires
are_given-given-requires t c =
    let known = c.reason-clause.ensures.known c.others.place blank (omega arith) in
    let low : c.letter-other.result < length c.args.graph.now.values =
    subst (λ (x : ℕ). x < length c.args.graph.now.values) (sym c.letter-other.ensures) known.1 in
    omega (arith, low, c.requires.can_ask.size, c.others.invariant.size)

pub are_given-ask-requires : goal.are_given-ask-requires
are_given-ask-requires t c =
    let log = c.args.graph.now.log in
    let trail = c.args.graph.now.trail in
    let why = c.requires.reason in
    let stands = stands_before trail why.place (length trail) _ (omega (arith, why.inside))
    (read_stands log.inputs log.lines trail c.args.base c.args.graph.now.values c.args.letter c.args.reason c.invariant.ensures.told
    c.invariant.ensures.is_trail why (read_literals c.reason-clause.result) c.reason-clause.ensures.same c.others.place
    c.letter-other.result blank (omega arith) c.letter-other.ensures c.if-other-letter.false why.place why.inside why.is) in (
      search rules,
      (
        record {
          size = omega (arith, c.requires.can_ask.size, c.others.invariant.size);
          within = c.requires.can_ask.within;
          consequences = (c.others.invariant.grows why.place why.inside why.is).consequences;
        },
        (stands, c.in-None.ensures),
      ),
    )

pub are_given-returns-then-not-is_given-clause-grows : goal.are_given-returns-then-not-is_given-clause-grows
are_given-returns-then-not-is_given-clause-grows t c = λ place low is.
    let log = c.args.graph.now.log in
    let trail = c.args.graph.now.trail in
    elim c.match-given.branch [
      | are_given-in-Some w ↦ rw w.marks-is (c.others.invariant.grows place low is)
      | are_given-in-None+in_ok-is_given-in-None w ↦
          rw w.marks-is (grows_on _ _ _ _ place _ _ _ (c.others.invariant.grows place low is)
          (w.in_ok-is_given-in-None.ensures.grows place
          (read_stands log.inputs log.lines trail c.args.base c.args.graph.now.values c.args.letter c.args.reason c.invariant.ensures.told
          c.invariant.ensures.is_trail c.requires.reason (read_literals c.reason-clause.result) c.reason-clause.ensures.same c.others.place
          c.letter-other.result blank (omega arith) c.letter-other.ensures c.if-other-letter.false place low is)))
    ]

pub are_given-others-preserved-then-other-letter : goal.are_given-others-preserved-then-other-letter
are_given-others-preserved-then-other-letter t c =
    let inputs = c.args.graph.now.log.inputs in
    let lines = c.args.graph.now.log.lines in
    let trail = c.args.graph.now.trail in
    let base = c.args.base in
    let why = c.requires.reason in
    let now = c.others.marks in
    let before = c.others.invariant in
    record {
      size = before.size;
      given = given_more inputs lines trail base c.args.graph.now.values c.args.letter c.args.reason c.invariant.ensures.told c.invariant.ensures.is_trail why
          why.place now now (read_literals c.reason-clause.result) c.others.place blank
          (grows_itself inputs lines trail base why.place now (before.grows why.place why.inside why.is).consequences) (omega arith) before.given
          (inl (sym c.letter-other.ensures ∙ c.if-other-letter.true));
      grows = before.grows;
    }

pub are_given-others-preserved : goal.are_given-others-preserved
are_given-others-preserved t c =
    let inputs = c.args.graph.now.log.inputs in
    let lines = c.args.graph.now.log.lines in
    let trail = c.args.graph.now.trail in
    let values = c.args.graph.now.values in
    let base = c.args.base in
    let letter = c.args.letter in
    let why = c.requires.reason in
    let read = read_literals c.reason-clause.result in
    let i = c.others.place in
    let now = c.others.marks in
    let before = c.others.invariant in
    let low : i < length read = omega arith in
    let other_is = c.letter-other.ensures in
    elim c.match-given.branch [
      | are_given-in-Some w ↦
          let known : IsGiven trail base now c.letter-other.result =
          elim (w.in-Some.ensures.0 (sym w.is_given-is ∙ c.if-not-is_given.false)) [ inl kept ↦ inl kept | inr follows ↦ inr (inl follows) ] in
          rw w.marks-is (record {
            size = before.size;
            given = given_more inputs lines trail base values letter c.args.reason c.invariant.ensures.told c.invariant.ensures.is_trail why why.place
                now now read i blank
                (grows_itself inputs lines trail base why.place now (before.grows why.place why.inside why.is).consequences) low before.given
                (inr (subst (λ (x : ℕ). IsGiven trail base now x) other_is known));
            grows = before.grows;
          })
      | are_given-in-None+in_ok-is_given-in-None w ↦
          let new = w.ask.new.marks in
          let grows : (place : ℕ) → place < length trail → (literal_at trail place).letter.0 ≡ letter → Grows inputs lines trail base place now new =
          λ place inside is. w.in_ok-is_given-in-None.ensures.grows place
          (read_stands inputs lines trail base values letter c.args.reason c.invariant.ensures.told c.invariant.ensures.is_trail why read
          c.reason-clause.ensures.same i c.letter-other.result blank low other_is c.if-other-letter.false place inside is) in
          rw w.marks-is (record {
            size = w.ask.ensures.size ∙ before.size;
            given = given_more inputs lines trail base values letter c.args.reason c.invariant.ensures.told c.invariant.ensures.is_trail why why.place now new
                read i blank (grows why.place why.inside why.is) low before.given
                (inr (subst (λ (x : ℕ). IsGiven trail base new x) other_is (w.in_ok-is_given-in-None.ensures.given (sym w.is_given-is
                ∙ c.if-not-is_given.false))));
            grows = λ place inside is. grows_on inputs lines trail base place c.args.marks.now now new (before.grows place inside is) (grows place inside is);
          })
    ]

pub are_given-returns-clause-given : goal.are_given-returns-clause-given
are_given-returns-clause-given t c = λ _ clause is.
    let read = read_literals c.reason-clause.result in
    clause_has (λ l. (l.letter.0 ≡ c.args.letter) ⊎ IsGiven c.args.graph.now.trail c.args.base c.others.marks l.letter.0) clause read
    (c.reason-clause.ensures.same clause is)
    (subst (All (λ l. (l.letter.0 ≡ c.args.letter) ⊎ IsGiven c.args.graph.now.trail c.args.base c.others.marks l.letter.0))
    (take_all c.others.place read (omega arith)) c.others.invariant.given)
