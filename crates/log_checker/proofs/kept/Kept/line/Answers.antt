use Rattle.std.proofs.Common.{Some, sym, ap, ◌∙◌}
use Rattle.log_checker.specs.Judging.{found}
use Rattle.log_checker.specs.Kept.{KeptValue}
use Rattle.log_checker.specs.declared.kept.Entry.{Entry}
use Rattle.log_checker.proofs.Entries.{found_none, found_some, read_at}
use Rattle.log_checker.proofs.kept.Kept.line.Goals as goal

pub returns-in-None : goal.returns-in-None
returns-in-None c =
    ap (λ (k : KeptValue). found k.live c.args.number) (sym c.self.view_is) ∙ found_none c.self.inside.entries.items c.args.number c.in-None.ensures

pub returns-in-Some : goal.returns-in-Some
returns-in-Some c =
    let es = c.self.inside.entries.items in
    let at = c.in-Some.ensures in
    let e = read_at es c.in-Some.index c.index.result.now at.below c.index.ensures in
    ap (λ (k : KeptValue). found k.live c.args.number) (sym c.self.view_is) ∙ found_some es c.args.number c.in-Some.index at.below at.number at.live at.less
    ∙ ap (λ (x : Entry). Some x.literals) (sym e) ∙ ap (λ ls. Some ls) (sym c.again.ensures)
