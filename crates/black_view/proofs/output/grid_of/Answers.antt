use Rattle.black_view.proofs.Printing.{all_letters, asked_grid}
use Rattle.black_view.proofs.output.grid_of.Goals as goal

pub returns-in_ok-letters-in-None-clause-grid : goal.returns-in_ok-letters-in-None-clause-grid
returns-in_ok-letters-in-None-clause-grid c =
    let asked = all_letters c.args.request.now c.args.trace.now _ c.names.result.now c.in-None.is c.names.ensures.names c.names.ensures.ascending
    c.in_ok-letters-in-None.ensures.letters in
    asked_grid c.args.request.now c.args.trace.now c.names.result.now c.of-in-None.result asked c.of-in-None.ensures.grid c.of-in-None.ensures.fits

pub returns-in_ok-letters-in-None-clause-too_large : goal.returns-in_ok-letters-in-None-clause-too_large
returns-in_ok-letters-in-None-clause-too_large c e =
    let asked = all_letters c.args.request.now c.args.trace.now _ c.names.result.now c.in-None.is c.names.ensures.names c.names.ensures.ascending
    c.in_ok-letters-in-None.ensures.letters in
    record { letters = c.names.result.now; asked = asked; large = c.of-in-None.ensures.too_large e }
