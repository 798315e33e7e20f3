use Rattle.std.proofs.Common.{◌≡◌, Err, suc, ◌+◌, ◌++◌, ◌∷◌, [], length, Vec, Global, sym, ◌∙◌, ap, subst, arith}
use Rattle.past_monitor.specs.declared.part.Part.{Part}
use Rattle.past_monitor.specs.declared.refused.MonitorRefused.TheVariants.{Future}
use Rattle.past_monitor.specs.Part.{IsPartOf}
use Rattle.past_monitor.proofs.Placing.{ArePlaced, passed, added, passed_on, refused, some_parts, root_last, all_under}
use Rattle.past_monitor.proofs.under.parts_of.Goals.{then-marks-number+in_ok-part_of+in_ok-push-2, else-marks-number}
use Rattle.past_monitor.proofs.under.parts_of.Goals as goal

pub loop-number-preserved : goal.loop-number-preserved
loop-number-preserved c =
    let t = c.args.table.now in
    let marks = c.args.marks.now in
    let number = c.loop-number.number in
    let places = c.loop-number.places.items in
    let places' = c.push.new.self.items in
    let parts = c.loop-number.parts.items in
    let is = c.loop-number.invariant in
    let one : suc number ≡ number + 1 = omega arith in
    let count : c.len.result ≡ length parts = omega (arith, c.len.ensures, c.loop-number.parts.ok.0) in
    let more : places' ≡ places ++ length parts ∷ [] = c.in_ok-push.ensures.items ∙ ap (λ n. places ++ n ∷ []) count in
    elim c.if-marks-number.branch [
      | then-marks-number+in_ok-part_of+in_ok-push-2 w ↦
          let p = w.in_ok-part_of.field-0 in
          let of = subst (λ ps. IsPartOf t ps number p) w.deref.ensures.value w.in_ok-part_of.ensures.part in
          subst (λ (ps : Vec Part Global). ArePlaced t marks (number + 1) places' ps.items) (sym w.parts-is)
          (subst (λ k. ArePlaced t marks k places' w.push-then-marks-number.new.self.items) one
          (added t marks number places places' parts is more c.args.root p w.push-then-marks-number.new.self.items c.invariant.ensures c.requires.marks
          w.if-marks-number.true of w.in_ok-push-2.ensures.items))
      | else-marks-number w ↦
          subst (λ (ps : Vec Part Global). ArePlaced t marks (number + 1) places' ps.items) (sym w.parts-is)
          (subst (λ k. ArePlaced t marks k places' parts) one (passed t marks number places places' parts is more w.if-marks-number.false))
    ]

pub returns-clause-nodes : goal.returns-clause-nodes
returns-clause-nodes c =
    let end : c.loop-number.number ≡ c.args.root + 1 = omega (arith, c.loop-number-test.false, c.loop-number.auto.number-end) in
    all_under c.args.table.now c.args.root c.args.marks.now c.loop-number.places.items c.loop-number.parts.items c.loop-number.number end c.requires.length
    c.requires.marks c.loop-number.invariant

pub returns-clause-some : goal.returns-clause-some
returns-clause-some c =
    let end : c.loop-number.number ≡ c.args.root + 1 = omega (arith, c.loop-number-test.false, c.loop-number.auto.number-end) in
    some_parts c.args.table.now c.args.root c.args.marks.now c.loop-number.places.items c.loop-number.parts.items c.loop-number.number end c.requires.length
    c.requires.marks c.loop-number.invariant

pub returns-clause-formula : goal.returns-clause-formula
returns-clause-formula c =
    let end : c.loop-number.number ≡ c.args.root + 1 = omega (arith, c.loop-number-test.false, c.loop-number.auto.number-end) in
    root_last c.args.table.now c.args.root c.args.marks.now c.loop-number.places.items c.loop-number.parts.items c.loop-number.number end c.requires.length
    c.requires.marks c.loop-number.invariant

pub returns-in_err-part_of-clause-future : goal.returns-in_err-part_of-clause-future
returns-in_err-part_of-clause-future c e =
    let out = c.from_residual-in_err-part_of in
    refused c.args.table.now c.invariant.ensures c.args.root c.loop-number.number ((c.requires.marks c.loop-number.number).0 c.if-marks-number.true)
    (c.in_err-part_of.ensures.future (ap Err (passed_on c.in_err-part_of.field-0.0 Future out.result out.ensures e)))
