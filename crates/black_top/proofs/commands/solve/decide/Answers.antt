use Rattle.std.proofs.Common.{refl, arith}
use Rattle.std.specs.Prelude.{option_map, option_copied, vec_items}
use Rattle.enc_layout.specs.Clauses.{layout_of}
use Rattle.ltl_word.specs.Trace.{IsTrace}
use Rattle.report.specs.Texts.{ReadsBack}
use Rattle.black_top.specs.Answer.{sat, undecided}
use Rattle.black_top.specs.Solve.{IsDecided, satisfiable, undecided_yet}
use Rattle.black_top.proofs.Showing.{shown, shown_where}
use Rattle.black_top.proofs.Certified.{unsat_shallow}
use Rattle.black_top.proofs.Conflicting.{unsat_shown}
use Rattle.black_top.proofs.commands.solve.decide.Goals as goal

pub returns-in-Sat : goal.returns-in-Sat
returns-in-Sat g c =
    let decision = rw c.in-Sat.is at c.in_ok-depth.ensures.decision in
    shown_where (IsDecided c.args.closure.now.formula c.args.closure.now.kind c.args.asked c.args.limit c.args.options.core c.args.options.cert)
    (IsTrace c.in-Sat.trace → ReadsBack c.in-Sat.trace) (sat c.in-Sat.depth c.in-Sat.trace) c.sat.result
    (λ reads. satisfiable c.in-Sat.depth c.in-Sat.trace decision.0 decision.1 (reads decision.2.0)) c.sat.ensures.reads c.sat.ensures.shows

pub shown_core-requires-clause-refuted : goal.shown_core-requires-clause-refuted
shown_core-requires-clause-refuted g c κs lives =
    let decision = rw c.in-Unsat.is at c.in_ok-depth.ensures.decision in
    (c.args.limit, c.in-Unsat.depth, c.requires.force, decision.0)

pub shown_certificate-requires-clause-few : goal.shown_certificate-requires-clause-few
shown_certificate-requires-clause-few g c =
    let decision = rw c.in-Unsat.is at c.in_ok-depth.ensures.decision in
    let low = unsat_shallow c.args.closure.now.formula c.args.closure.now.kind c.args.limit c.in-Unsat.depth decision.0 in
    omega (arith, low, c.requires.force.below, c.requires.asked)

pub shown_certificate-requires-clause-fits : goal.shown_certificate-requires-clause-fits
shown_certificate-requires-clause-fits g c =
    let decision = rw c.in-Unsat.is at c.in_ok-depth.ensures.decision in
    let low = unsat_shallow c.args.closure.now.formula c.args.closure.now.kind c.args.limit c.in-Unsat.depth decision.0 in
    c.numbering.ensures.lower (layout_of c.args.closure.now) c.in-Unsat.depth c.args.limit low c.requires.fits

pub returns-in-Undecided : goal.returns-in-Undecided
returns-in-Undecided g c =
    let decision = rw c.in-Undecided.is at c.in_ok-depth.ensures.decision in
    shown (IsDecided c.args.closure.now.formula c.args.closure.now.kind c.args.asked c.args.limit c.args.options.core c.args.options.cert)
    (undecided c.in-Undecided.depth) c.undecided.result
    (undecided_yet c.in-Undecided.depth decision) c.undecided.ensures

pub returns-in_ok-shown_certificate-in-Unsat : goal.returns-in_ok-shown_certificate-in-Unsat
returns-in_ok-shown_certificate-in-Unsat g c =
    let value = c.args.closure.now in
    let decision = rw c.in-Unsat.is at c.in_ok-depth.ensures.decision in
    let begun = c.in_ok-out-in-Unsat.out in
    unsat_shown value.formula value.kind c.args.asked c.args.limit c.in-Unsat.depth c.args.options.core c.args.options.cert begun (record {
      status = begun.status;
      text = c.shown_certificate.new.out;
    })
    (option_copied c.as_deref.result) (option_map vec_items c.in_ok-conflict-in-Unsat.conflict)
    decision.0 c.in_ok-conflict-in-Unsat.ensures c.as_deref.ensures.value c.in_ok-out-in-Unsat.ensures refl c.in_ok-shown_certificate-in-Unsat.ensures
