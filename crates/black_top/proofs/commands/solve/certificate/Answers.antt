use Rattle.std.proofs.Common.{ℕ, ◌≤◌, List, length, refl, sym, subst, arith}
use Rattle.ltl_syntax.specs.declared.node.Kind.{Kind}
use Rattle.enc_layout.specs.Clauses.{clause_list}
use Rattle.cert_text.specs.Text.{text_of}
use Rattle.cert_text.specs.Writing.{written}
use Rattle.cert_check.specs.Lawful.{IsLawfulAt}
use Rattle.black_top.specs.Solve.{IsWritten}
use Rattle.black_top.proofs.Certified.{added_so}
use Rattle.black_top.proofs.commands.solve.certificate.Goals as goal

pub trim-requires : goal.trim-requires
trim-requires c =
    let value = c.args.closure.now in
    c.trimmed.ensures.lines value.formula value.kind c.args.depth c.args.log c.args.targets.now c.requires.refutes.closed

pub returns : goal.returns
returns c =
    let value = c.args.closure.now in
    let f = value.formula in
    let kind = value.kind in
    let depth = c.args.depth in
    let new = c.in_ok-needed.needed in
    let numbers = c.in_ok-needed.numbers.items in
    let (M, kept) = c.in_ok-needed.ensures in
    let counted = rw (c.of-clauses.ensures.formula, c.of-clauses.ensures.kind, c.of-clauses.ensures.depth) at c.count.ensures in
    let clauses : length (clause_list f kind depth) ≤ 18446744073709551615 = omega (arith, counted, c.count.type_inv) in
    let lines : length new.lines ≤ 18446744073709551615 = omega (arith, c.lines.ensures, c.lines.type_inv) in
    let refutes = c.requires.refutes in
    let is = c.trimmed.ensures.verify f kind depth c.args.log new c.args.targets.now numbers M refutes.steps kept c.requires.fits refutes.letters refutes.closed
    c.requires.few clauses lines in
    let how : IsWritten f kind depth (text_of (written kind depth new.lines new.hints numbers)) = record {
      log = c.args.log;
      closing = c.args.targets.now;
      refutes = c.requires.refutes;
      needed = new;
      targets = numbers;
      marks = M;
      trimmed = kept;
      spelled = refl;
    } in
    let text : Kind → List ℕ → List ℕ = λ k ns. text_of (written k depth new.lines new.hints ns) in
    let lawful = subst (λ (k : Kind). IsLawfulAt f kind depth (text k c.deref.result.now)) (sym c.kind.ensures)
    (subst (λ (ns : List ℕ). IsLawfulAt f kind depth (text kind ns)) (sym c.deref.ensures.value) is) in
    let said = subst (λ (k : Kind). IsWritten f kind depth (text k c.deref.result.now)) (sym c.kind.ensures)
    (subst (λ (ns : List ℕ). IsWritten f kind depth (text kind ns)) (sym c.deref.ensures.value) how) in
    added_so f kind depth c.append.result c.args.out.now.items c.append.new.out.items (text c.kind.result c.deref.result.now) lawful said c.append.ensures
