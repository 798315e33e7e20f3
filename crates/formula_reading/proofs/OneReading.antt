-- A text has an accepted formula or a fault, one of them, and not both.
use Rattle.std.proofs.Common.{◌≡◌, ◌∙◌, ℕ, ◌<◌, ◌≤◌, ◌⊎◌, inl, inr, List, length, refl, sym, ap, arith}
use Rattle.std.proofs.lemmas.Bool.{cases_lt}
use Rattle.ltl_syntax.specs.Formula.{Formula}
use Rattle.ltl_syntax.specs.Size.{formula_size}
use Rattle.ltl_lexer.specs.Tokens.{IsLexicalFault}
use Rattle.ltl_parser.specs.Text.{ReadsText, IsGrammarFault, IsAccepted}
use Rattle.formula_reading.specs.declared.reading.FormulaFault.{FormulaFault}
use Rattle.formula_reading.specs.declared.reading.FormulaFault.TheVariants as wrong
use Rattle.formula_reading.specs.Reading.{HasFormulaFault}

-- what the parser says of each text
pub record TextLaws : Type 0 where
  pub one_lexical : (text : List ℕ) (a b : ℕ) → IsLexicalFault text a → IsLexicalFault text b → a ≡ b
  pub one_grammar : (text : List ℕ) (a b : ℕ) → IsGrammarFault text a → IsGrammarFault text b → a ≡ b
  pub one_formula : (text : List ℕ) (f g : Formula) → ReadsText text f → ReadsText text g → f ≡ g
  pub lexical_not_grammar : (text : List ℕ) (a b : ℕ) → IsLexicalFault text a → IsGrammarFault text b → ⊥
  pub lexical_not_read : (text : List ℕ) (a : ℕ) (f : Formula) → IsLexicalFault text a → ReadsText text f → ⊥
  pub grammar_not_read : (text : List ℕ) (a : ℕ) (f : Formula) → IsGrammarFault text a → ReadsText text f → ⊥

-- each text has a fault or a formula
abbrev pub EachHasOutcome : Type 0
EachHasOutcome = (text : List ℕ) → ((byte : ℕ) × IsLexicalFault text byte) ⊎ (((byte : ℕ) × IsGrammarFault text byte) ⊎ ((f : Formula) × ReadsText text f))

pub one_fault : (text : List ℕ) → TextLaws → (a b : FormulaFault) → HasFormulaFault text a → HasFormulaFault text b → a ≡ b
one_fault text laws wrong.Long wrong.Long h k = refl
one_fault text laws wrong.Long (wrong.Lexical j) h k = absurd (omega (arith, h, k.0))
one_fault text laws wrong.Long (wrong.Grammar j) h k = absurd (omega (arith, h, k.0))
one_fault text laws wrong.Long (wrong.Nodes j) h k = absurd (omega (arith, h, k.0))
one_fault text laws (wrong.Lexical i) wrong.Long h k = absurd (omega (arith, k, h.0))
one_fault text laws (wrong.Lexical i) (wrong.Lexical j) h k = ap wrong.Lexical (laws.one_lexical text i j h.1 k.1)
one_fault text laws (wrong.Lexical i) (wrong.Grammar j) h k = absurd (laws.lexical_not_grammar text i j h.1 k.1)
one_fault text laws (wrong.Lexical i) (wrong.Nodes j) h k = absurd (laws.lexical_not_read text i k.1.0 h.1 k.1.1)
one_fault text laws (wrong.Grammar i) wrong.Long h k = absurd (omega (arith, k, h.0))
one_fault text laws (wrong.Grammar i) (wrong.Lexical j) h k = absurd (laws.lexical_not_grammar text j i k.1 h.1)
one_fault text laws (wrong.Grammar i) (wrong.Grammar j) h k = ap wrong.Grammar (laws.one_grammar text i j h.1 k.1)
one_fault text laws (wrong.Grammar i) (wrong.Nodes j) h k = absurd (laws.grammar_not_read text i k.1.0 h.1 k.1.1)
one_fault text laws (wrong.Nodes i) wrong.Long h k = absurd (omega (arith, k, h.0))
one_fault text laws (wrong.Nodes i) (wrong.Lexical j) h k = absurd (laws.lexical_not_read text j h.1.0 k.1 h.1.1)
one_fault text laws (wrong.Nodes i) (wrong.Grammar j) h k = absurd (laws.grammar_not_read text j h.1.0 k.1 h.1.1)
one_fault text laws (wrong.Nodes i) (wrong.Nodes j) h k = ap wrong.Nodes (h.1.2 ∙ ap formula_size (laws.one_formula text h.1.0 k.1.0 h.1.1 k.1.1) ∙ sym k.1.2)

too_many : (f g : Formula) (count : ℕ) → f ≡ g → count ≡ formula_size f → 16384 < count → formula_size g ≤ 16384 → ⊥
too_many f g count same e many few = let s = ap formula_size same in absurd (omega (arith, s, e, many, few))

pub fault_not_accepted : (text : List ℕ) → TextLaws → (fault : FormulaFault) (f : Formula) → HasFormulaFault text fault → IsAccepted text f → ⊥
fault_not_accepted text laws wrong.Long f h k = let s = k.short in absurd (omega (arith, h, s))
fault_not_accepted text laws (wrong.Lexical byte) f h k = laws.lexical_not_read text byte f h.1 k.reads
fault_not_accepted text laws (wrong.Grammar byte) f h k = laws.grammar_not_read text byte f h.1 k.reads
fault_not_accepted text laws (wrong.Nodes count) f h k = too_many h.1.0 f count (laws.one_formula text h.1.0 f h.1.1 k.reads) h.1.2 h.1.3 k.few

pub accepted_or_fault : EachHasOutcome → (text : List ℕ) → ((f : Formula) × IsAccepted text f) ⊎ ((fault : FormulaFault) × HasFormulaFault text fault)
accepted_or_fault outcome text = elim (cases_lt 1048576 (length text)) [
  | inl long ↦ inr (wrong.Long, long)
  | inr short ↦ elim (outcome text) [
    | inl w ↦ inr (wrong.Lexical w.0, (short, w.1))
    | inr more ↦ elim more [
      | inl w ↦ inr (wrong.Grammar w.0, (short, w.1))
      | inr w ↦ elim (cases_lt 16384 (formula_size w.0)) [
        | inl many ↦ inr (wrong.Nodes (formula_size w.0), (short, (w.0, w.1, refl, many)))
        | inr few ↦ inl (w.0, record { short = short; reads = w.1; few = few })
      ]
    ]
  ]
]
