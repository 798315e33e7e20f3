use Rattle.std.proofs.Common.{◌∷◌, length, ap, sym, ◌∙◌, arith, length-append}
use Rattle.std.specs.List.{flat_map}
use Rattle.std.proofs.lemmas.Bool.{eqb-true}
use Rattle.cert_text.specs.Text.{literal_text}
use Rattle.cert_text.proofs.Noughts.{nought_is, nought_first, none_more}
use Rattle.cert_text.proofs.finding.literals_end.Goals as goal

pub returns-then-is_empty : goal.returns-then-is_empty
returns-then-is_empty c literals more all is =
    let none = eqb-true (length c.args.line.now) 0 (sym c.is_empty.ensures ∙ c.if-is_empty.true) in
    absurd (omega (arith, none, ap length is, length-append (flat_map literal_text literals) (48 ∷ more)))

pub returns-then-line-eq48 : goal.returns-then-line-eq48
returns-then-line-eq48 c literals more all is = nought_first c.args.line.now literals more all is c.if-line-eq48.true

pub returns : goal.returns
returns c literals more all is =
    let line = c.args.line.now in
    nought_is line literals more c.nought_from.result all is c.if-line-eq48.false (omega (arith, c.blocks_end-end.ensures.from, c.nought_from.ensures.from))
    (none_more line 1 c.blocks_end-end.result c.nought_from.result c.blocks_end-end.ensures.none c.nought_from.ensures.none) c.nought_from.ensures.stops
