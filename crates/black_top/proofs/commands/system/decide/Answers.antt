use Rattle.std.proofs.Common.{true, None, arith, sym, subst}
use Rattle.ltl_syntax.specs.Table.{tree_at}
use Rattle.enc_layout.specs.Clauses.{layout_of}
use Rattle.unravel.specs.Decision.{IsRefutation}
use Rattle.system_check.specs.System.{whole_of}
use Rattle.system_check.specs.Joining.{IsJoined}
use Rattle.ltl_word.specs.Trace.{IsTrace}
use Rattle.system_check.proofs.AnswerLaws.{fails_on}
use Rattle.report.specs.Texts.{ReadsBack}
use Rattle.black_top.specs.Answer.{no_path, paths_hold, path_fails, undecided}
use Rattle.black_top.specs.System.{ProvesWhole, IsDecided, pathless, kept, broken, undecided_yet}
use Rattle.black_top.proofs.SystemSettling.{shown_for, shown_for_where, shown_by, unproved, proved_so}
use Rattle.black_top.proofs.SystemDeciding.{kept_shallow, kept_refuted}
use Rattle.black_top.proofs.commands.system.decide.Goals as goal

pub returns-in-NoPath : goal.returns-in-NoPath
returns-in-NoPath c =
    let answer = rw c.in-NoPath.is at c.in_ok-depth.ensures in
    shown_for (λ f g h. IsJoined f g h c.args.joined.now) (λ f g h. IsDecided f g h c.args.limit c.args.cert) (no_path c.in-NoPath.depth) c.no_path.result
    (λ f g h is. pathless c.in-NoPath.depth (answer f g h is)) c.no_path.ensures

pub returns-in-Fails : goal.returns-in-Fails
returns-in-Fails c =
    let answer = rw c.in-Fails.is at c.in_ok-depth.ensures in
    let depth = c.in-Fails.depth in
    let path = c.in-Fails.trace in
    shown_for_where (λ f g h. IsJoined f g h c.args.joined.now) (λ f g h. IsDecided f g h c.args.limit c.args.cert) (IsTrace path → ReadsBack path)
    (path_fails depth path) c.path_fails.result
    (λ reads f g h is.
    let a = answer f g h is in
    broken depth path a.0 a.1 a.2 (reads (fails_on f g h c.args.limit is.forms depth path a.2).0.trace)) c.path_fails.ensures.reads c.path_fails.ensures.shows

pub returns-in-Undecided : goal.returns-in-Undecided
returns-in-Undecided c =
    let answer = rw c.in-Undecided.is at c.in_ok-depth.ensures in
    shown_for (λ f g h. IsJoined f g h c.args.joined.now) (λ f g h. IsDecided f g h c.args.limit c.args.cert) (undecided c.in-Undecided.depth)
    c.undecided.result
    (λ f g h is. let a = answer f g h is in undecided_yet c.in-Undecided.depth a.0 a.1) c.undecided.ensures

pub returns-then-not-cert : goal.returns-then-not-cert
returns-then-not-cert c =
    let answer = rw c.in-Holds.is at c.in_ok-depth.ensures in
    let depth = c.in-Holds.depth in
    shown_for (λ f g h. IsJoined f g h c.args.joined.now) (λ f g h. IsDecided f g h c.args.limit c.args.cert) (paths_hold depth None) c.paths_hold.result
    (λ f g h is. let a = answer f g h is in kept depth None a.0 a.1 (unproved c.args.cert (whole_of f g h) depth c.if-not-cert.true)) c.paths_hold.ensures

pub returns-else-not-cert : goal.returns-else-not-cert
returns-else-not-cert c =
    let answer = rw c.in-Holds.is at c.in_ok-depth.ensures in
    let depth = c.in-Holds.depth in
    let joined = c.args.joined.now in
    shown_by (λ f g h. IsJoined f g h joined) (λ f g h. IsDecided f g h c.args.limit c.args.cert) (ProvesWhole true (tree_at joined.table joined.whole) depth)
    (paths_hold depth) c.proved.result
    (λ f g h proof is proves.
    let a = answer f g h is in
    let whole = subst (λ x. ProvesWhole true x depth proof) is.formulas.whole_is proves in
    kept depth proof a.0 a.1 (proved_so c.args.cert (whole_of f g h) depth proof c.if-not-cert.false whole)) c.proved.ensures

pub proved-requires-clause-few : goal.proved-requires-clause-few
proved-requires-clause-few c =
    let (f, g, h, is) = c.requires.joined in
    let answer = rw c.in-Holds.is at c.in_ok-depth.ensures in
    let low = kept_shallow c.args.joined.now c.args.limit c.in-Holds.depth c.in-Holds.log c.in-Holds.targets f g h is (answer f g h is) in
    omega (arith, low, c.requires.few)

pub proved-requires-clause-fits : goal.proved-requires-clause-fits
proved-requires-clause-fits c =
    let (f, g, h, is) = c.requires.joined in
    let answer = rw c.in-Holds.is at c.in_ok-depth.ensures in
    let low = kept_shallow c.args.joined.now c.args.limit c.in-Holds.depth c.in-Holds.log c.in-Holds.targets f g h is (answer f g h is) in
    c.numbering.ensures.lower (layout_of c.args.closure.now) c.in-Holds.depth c.args.limit low c.requires.fits

pub proved-requires-clause-refutes : goal.proved-requires-clause-refutes
proved-requires-clause-refutes c =
    let (f, g, h, is) = c.requires.joined in
    let answer = rw c.in-Holds.is at c.in_ok-depth.ensures in
    let value = c.args.closure.now in
    subst (IsRefutation value.formula value.kind c.in-Holds.depth c.in-Holds.log) (sym c.deref.ensures.value)
    (kept_refuted c.args.joined.now c.args.limit c.in-Holds.depth c.in-Holds.log c.in-Holds.targets f g h is (answer f g h is)
    value.formula value.kind c.requires.formula c.requires.kind)
