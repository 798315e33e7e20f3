use Rattle.std.proofs.Common.{◌+◌, ◌∷◌, [], ◌++◌, ◌∙◌, sym, ap, arith}
use Rattle.unravel.proofs.LetterEntries.{letters_without, letters_with}
use Rattle.unravel.proofs.showing.letter_entries.Goals as goal

pub loop-i-preserved-then-not-is_letter : goal.loop-i-preserved-then-not-is_letter
loop-i-preserved-then-not-is_letter c =
    c.loop-i.invariant ∙ letters_without c.args.closure.now.names c.args.closure.now.formula c.entries-entries.result.now c.entries-entries.ensures.closure
    c.loop-i.i _ (omega arith) (sym c.is_letter.ensures ∙ c.if-not-is_letter.true)

pub loop-i-preserved : goal.loop-i-preserved
loop-i-preserved c =
    c.in_ok-push.ensures.items ∙ (ap (λ ns. ns ++ (c.loop-i.i + 1) ∷ []) c.loop-i.invariant
    ∙ letters_with c.args.closure.now.names c.args.closure.now.formula c.entries-entries.result.now c.entries-entries.ensures.closure c.loop-i.i _ (omega arith)
    (sym c.is_letter.ensures ∙ c.if-not-is_letter.false))
