use Rattle.std.proofs.Common.{codes}
use Rattle.std.proofs.lemmas.Result.{on_ok_weaker}
use Rattle.requirement_page.proofs.Pieces.{from, by, before, where_ok}
use Rattle.requirement_page.proofs.style.put_printing.Goals as goal

pub returns : goal.returns
returns c =
    on_ok_weaker c.extend_from_slice-2.result (λ e. (before (from c.args.out.now.items
    (codes "@media print{\nbody{max-width:none;padding:0}\narticle{break-inside:avoid;background:none}\n.picture{overflow:visible}\n")
    c.in_ok-extend_from_slice.ensures.items)
    (by (codes ".picture svg{max-width:100%;height:auto}\n}\n") e)).is) (where_ok c.extend_from_slice-2.result c.extend_from_slice.new.self.items
    (codes ".picture svg{max-width:100%;height:auto}\n}\n") _ c.extend_from_slice-2.ensures.items)
