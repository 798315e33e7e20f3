use Rattle.std.proofs.Common.{codes}
use Rattle.std.proofs.lemmas.Result.{on_ok_weaker}
use Rattle.requirement_page.proofs.Pieces.{from, by, before, where_ok}
use Rattle.requirement_page.proofs.style.put_elements.Goals as goal

pub returns : goal.returns
returns c =
    on_ok_weaker c.extend_from_slice-4.result (λ e. (before (from c.args.out.now.items
    (codes "body{max-width:60rem;margin:0 auto;padding:1rem;background:var(--sheet);color:var(--ink);") c.in_ok-extend_from_slice.ensures.items)
    (before (by (codes "font:1rem/1.5 system-ui,sans-serif;overflow-wrap:anywhere}\nh1{font-size:1.5rem}\nh2{font-size:1.25rem;margin-top:2rem}\n")
    c.in_ok-extend_from_slice-2.ensures.items)
    (before (by (codes "h3{font-size:1rem;margin:0}\np,ul{margin:.4rem 0}\na{color:var(--link)}\n") c.in_ok-extend_from_slice-3.ensures.items)
    (by (codes "code{font-family:'DejaVu Sans Mono',Consolas,monospace;font-size:.9rem}\n") e)))).is) (where_ok c.extend_from_slice-4.result
    c.extend_from_slice-3.new.self.items (codes "code{font-family:'DejaVu Sans Mono',Consolas,monospace;font-size:.9rem}\n") _
    c.extend_from_slice-4.ensures.items)
