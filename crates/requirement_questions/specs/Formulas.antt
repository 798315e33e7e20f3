-- Several formulas: the one that says that each of them holds, and the traces that satisfy each.
use Rattle.std.specs.Prelude.{ℕ, ◌<◌, List, [], ◌∷◌, ◌++◌, map, length, slice_index_or, true, All}
use Rattle.ltl_syntax.specs.declared.node.Kind.{Kind}
use Rattle.ltl_syntax.specs.declared.node.UnaryOp.TheVariants.{Not}
use Rattle.ltl_syntax.specs.declared.node.BinaryOp.TheVariants.{And}
use Rattle.ltl_syntax.specs.Formula.{Formula, Const, Unary, Binary}
use Rattle.ltl_syntax.specs.Table.{tree_at}
use Rattle.ltl_word.specs.declared.trace.Trace.{Trace}
use Rattle.ltl_word.specs.Trace.{IsTrace, IsOfKind}
use Rattle.ltl_word.specs.Holds.{Satisfies}
use Rattle.requirement_questions.specs.declared.questions.Given.{Given}
use Rattle.requirement_questions.specs.declared.questions.Wanted.{Wanted}
use Rattle.requirement_questions.specs.declared.questions.Wanted.TheVariants as asked
use Rattle.requirement_questions.specs.declared.questions.Question.{Question}

-- a formula, and each of the further ones behind it by `&`
abbrev pub joined_to : Formula → List Formula → Formula
joined_to f [] = f
joined_to f (g ∷ rest) = joined_to (Binary And f g) rest

-- all of them in their order; `true` where there is none
abbrev pub all_of : List Formula → Formula
all_of [] = Const true
all_of (f ∷ rest) = joined_to f rest

-- a trace of the kind that satisfies each of the formulas
pub record SatisfiesEach (kind : Kind) (formulas : List Formula) (t : Trace) : Type 0 where
  pub trace : IsTrace t
  pub of_kind : IsOfKind t kind
  pub each : All (Satisfies t) formulas

-- there is none
abbrev pub NoneSatisfies : Kind → List Formula → Type 0
NoneSatisfies kind formulas = (t : Trace) → ¬ SatisfiesEach kind formulas t

-- a given formula as a tree
abbrev pub formula_in : Given → Formula
formula_in g = tree_at g.table.now g.root

abbrev pub IsThere : Given → Type 0
IsThere g = g.root < length g.table.now.nodes

-- what is asked beside the given formulas: nothing, that a formula holds, or that it fails
abbrev pub asked_formulas : Wanted → List Formula
asked_formulas asked.Nothing = []
asked_formulas (asked.Holds g) = formula_in g ∷ []
asked_formulas (asked.Fails g) = Unary Not (formula_in g) ∷ []

abbrev pub AskedIsThere : Wanted → Type 0
AskedIsThere asked.Nothing = Unit {0}
AskedIsThere (asked.Holds g) = IsThere g
AskedIsThere (asked.Fails g) = IsThere g

-- each formula of a question is one of its table
pub record IsQuestion (q : Question) : Type 0 where
  pub given : All IsThere q.given.now
  pub asked : AskedIsThere q.asked

-- the given formulas
abbrev pub given_formulas : Question → List Formula
given_formulas q = map formula_in q.given.now

-- those with these numbers, from 0
abbrev pub chosen : List Formula → List ℕ → List Formula
chosen formulas numbers = map (λ n. slice_index_or formulas n (Const true)) numbers

-- the given formulas with these numbers, and what is asked
abbrev pub some_formulas : Question → List ℕ → List Formula
some_formulas q numbers = chosen (given_formulas q) numbers ++ asked_formulas q.asked

-- all of them, and what is asked
abbrev pub all_formulas : Question → List Formula
all_formulas q = given_formulas q ++ asked_formulas q.asked
