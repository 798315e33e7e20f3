-- What is wrong with a text as a formula, and whether one is a letter.
use Rattle.std.proofs.Common.{◌≡◌, ℕ, ◌↔◌, inl, List, Bool, IsTrue, sym, ap, subst, ◌∙◌}
use Rattle.std.specs.Str.{bytes_eq}
use Rattle.std.proofs.lemmas.Slice.Eq.{bytes_eq-Decides}
use Rattle.ltl_parser.specs.Text.{IsAccepted}
use Rattle.ltl_syntax.specs.Formula.{Formula, Letter, Name}
use Rattle.formula_reading.specs.declared.reading.FormulaFault.{FormulaFault}
use Rattle.formula_reading.specs.declared.reading.FormulaFault.TheVariants as wrong
use Rattle.formula_reading.specs.Reading.{HasFormulaFault}
use Rattle.requirement_document.specs.Substitution.{Definitions}
use Rattle.requirement_document.specs.Entry.{IsFormulaCause, IsLetter}
use Rattle.requirement_document.specs.Inner.{cause_of}

-- the fault of a text is wrong with it, whatever is put in
pub fault_is_wrong : (ds : Definitions) (text : List ℕ) (fault : FormulaFault) → HasFormulaFault text fault → IsFormulaCause ds text (cause_of fault)
fault_is_wrong ds text (wrong.Nodes count) h = (h.1.0, h.0, h.1.1, inl h.1.2, h.1.3)
fault_is_wrong ds text other h = h

-- whether the formula of a text is the letter of the text
pub letter_if : (name : List ℕ) (f : Formula) (b : Bool) → ((text : List ℕ) (f g : Formula) → IsAccepted text f → IsAccepted text g → f ≡ g)
    → IsAccepted name f → IsTrue b ↔ (f ≡ Letter (Name name)) → IsTrue b ↔ IsLetter name
letter_if name f b one a h = (λ t. subst (IsAccepted name) (h.0 t) a, λ l. h.1 (one name f (Letter (Name name)) a l))

same_name : (own name : List ℕ) → Letter (Name own) ≡ Letter (Name name) → own ≡ name
same_name own name e = cc

-- the letter of a name is that of another where the names are the same
pub letter_is : (f : Formula) (own name : List ℕ) → f ≡ Letter (Name own) → IsTrue (bytes_eq own name) ↔ (f ≡ Letter (Name name))
letter_is f own name e =
    (λ h. e ∙ ap (λ n. Letter (Name n)) ((bytes_eq-Decides own name).0 h), λ g. (bytes_eq-Decides own name).1 (same_name own name (sym e ∙ g)))
