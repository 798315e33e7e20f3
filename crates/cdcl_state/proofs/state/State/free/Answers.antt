use Rattle.std.proofs.Common.{◌≡◌, inl, inr, Contains, take, get_or, sym, ◌∙◌, subst, arith, All}
use mathlib.Core.Bool.{false≢true}
use Rattle.std.proofs.lemmas.List.{take_more, take_all}
use Rattle.std.proofs.lemmas.List.Elements.{Contains-push_cases}
use Rattle.cnf_base.specs.Known.{IsKnown, AreKnown}
use Rattle.cdcl_state.specs.Named.{AreOf}
use Rattle.cdcl_state.specs.StateValue.{StateValue}
use Rattle.cdcl_state.proofs.Naming.{set_letter}
use Rattle.cdcl_state.proofs.state.State.free.Goals as goal

pub loop-letter-preserved : goal.loop-letter-preserved
loop-letter-preserved c m known there =
    let named = c.letters-named.result.now in
    let place = c.loop-letter.letter-index in
    let letter = get_or named place 0 in
    let literal = c.literal-literal.result in
    elim (Contains-push_cases (take place named) letter m.letter.0
    (subst (λ ls. Contains ls m.letter.0) (take_more named place 0 c.loop-letter-test.true) there)) [
      | inl before ↦ c.loop-letter.invariant m known before
      | inr here ↦
          let same : m.letter.0 ≡ literal.letter.0 = sym here ∙ sym c.literal-literal.ensures in
          let is_known : IsKnown c.args.self.now.letters literal =
          record { from_one = omega (arith, known.from_one, same); within = omega (arith, known.within, same) } in
          set_letter c.args.self.now.trail literal m same (c.is_open.ensures.no (λ open_is. false≢true (sym c.if-is_open.false ∙ open_is)) is_known)
    ]

pub returns : goal.returns
returns c k d below i e low =
    let now = c.args.self.now in
    let named = c.letters-named.result.now in
    let m = get_or (get_or now.log.inputs k d) i e in
    let known : AreKnown now.letters now.log.inputs =
    subst (λ (s : StateValue). AreKnown s.letters s.log.inputs) c.self.view_is c.self.invariant.known_inputs in
    let are : All (AreOf c.named.result.now) now.log.inputs =
    subst (λ (s : StateValue). All (AreOf c.named.result.now) s.log.inputs) c.self.view_is c.named.ensures in
    let there : Contains named m.letter.0 = subst (λ ls. Contains ls m.letter.0) (sym c.letters-named.ensures) (are k d below i e low) in
    let whole : take c.loop-letter.letter-index named ≡ named = take_all c.loop-letter.letter-index named c.loop-letter-test.false in
    c.loop-letter.invariant m (known k d below i e low) (subst (λ ls. Contains ls m.letter.0) (sym whole) there)
