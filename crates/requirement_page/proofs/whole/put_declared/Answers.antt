use Rattle.std.proofs.Common.{codes}
use Rattle.std.proofs.lemmas.Result.{on_ok_weaker}
use Rattle.requirement_page.proofs.Pieces.{from, by, before, where_ok}
use Rattle.requirement_page.proofs.whole.put_declared.Goals as goal

pub returns : goal.returns
returns c =
    on_ok_weaker c.extend_from_slice-3.result (λ e. (before (from c.args.out.now.items
    (codes "<!DOCTYPE html>\n<html lang=\"en\">\n<head>\n<meta charset=\"utf-8\">\n") c.in_ok-extend_from_slice.ensures.items)
    (before (by (codes "<meta name=\"viewport\" content=\"width=device-width, initial-scale=1\">\n") c.in_ok-extend_from_slice-2.ensures.items)
    (by (codes "<meta http-equiv=\"Content-Security-Policy\" content=\"default-src 'none'; style-src 'unsafe-inline'\">\n") e))).is) (where_ok
    c.extend_from_slice-3.result c.extend_from_slice-2.new.self.items
    (codes "<meta http-equiv=\"Content-Security-Policy\" content=\"default-src 'none'; style-src 'unsafe-inline'\">\n") _ c.extend_from_slice-3.ensures.items)
