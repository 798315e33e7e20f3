-- A part is refused exactly by the faults of its text.
use Rattle.std.proofs.Common.{◌≡◌, ℕ, List, refl}
use Rattle.formula_reading.specs.declared.reading.FormulaFault.{FormulaFault}
use Rattle.formula_reading.specs.declared.reading.FormulaFault.TheVariants as wrong
use Rattle.formula_reading.specs.Reading.{HasFormulaFault}
use Rattle.report.specs.declared.fault.Fault.{Fault}
use Rattle.program_input.specs.Reading.{refusal_of, RefusesPart, too_long, lexical, grammar, many_nodes}

pub refuses_part : (part : List ℕ) (fault : FormulaFault) → HasFormulaFault part fault → RefusesPart part (refusal_of fault)
refuses_part part wrong.Long h = too_long h
refuses_part part (wrong.Lexical byte) h = lexical byte h.0 h.1
refuses_part part (wrong.Grammar byte) h = grammar byte h.0 h.1
refuses_part part (wrong.Nodes count) h = many_nodes count h.0 h.1

pub fault_of_part : (part : List ℕ) (fault : Fault) → RefusesPart part fault → (own : FormulaFault) × (fault ≡ refusal_of own) × HasFormulaFault part own
fault_of_part part fault (too_long h) = (wrong.Long, refl, h)
fault_of_part part fault (lexical byte short h) = (wrong.Lexical byte, refl, (short, h))
fault_of_part part fault (grammar byte short h) = (wrong.Grammar byte, refl, (short, h))
fault_of_part part fault (many_nodes count short h) = (wrong.Nodes count, refl, (short, h))
