-- Behaviours: which items each of them breaks, and where.
use Rattle.std.specs.Prelude.{ℕ, List, [], ◌∷◌, ◌++◌, slice_get, codes, Option, Some, None}
use Rattle.std.specs.List.{flat_map}
use Rattle.ltl_syntax.specs.declared.node.UnaryOp.TheVariants.{Always}
use Rattle.ltl_syntax.specs.declared.node.BinaryOp.TheVariants.{Implies}
use Rattle.ltl_syntax.specs.Formula.{Formula, Unary, Binary}
use Rattle.requirement_document.specs.Values.{ItemValue, BehaviourValue, DocumentValue}
use Rattle.requirement_answers.specs.declared.findings.Break.{Break}
use Rattle.requirement_answers.specs.declared.findings.Check.{Check}
use Rattle.requirement_report.specs.Flat.{flat}
use Rattle.requirement_report.specs.Lines.{worded}
use Rattle.requirement_report.specs.Subjects.{behaviour_sentence}
use Rattle.requirement_report.specs.Text.{bare, keeps_word}
use Rattle.requirement_page.specs.Marks.{code, paragraph, paragraph_if, item_link, behaviour_link, begun, ended}
use Rattle.requirement_page.specs.Pictures.{picture}

abbrev pub keeps_sort : List Break → List ℕ
keeps_sort [] = codes "good"
keeps_sort (b ∷ bs) = codes "bad"

-- what asked, and what was not answered
abbrev pub asked : Formula → List ℕ
asked (Unary Always (Binary Implies a b)) = paragraph (codes "asked: " ++ code (bare a)) ++ paragraph (codes "not answered: " ++ code (bare b))
asked f = []

abbrev pub asked_in : Option ItemValue → List ℕ
asked_in None = []
asked_in (Some i) = asked i.formula

-- an item that is broken
abbrev pub broken_item : DocumentValue → Break → List ℕ
broken_item d b = paragraph (item_link d b.item ++ worded (codes " at ") b.position) ++ asked_in (slice_get d.items b.item)

abbrev pub behaviour_picture : Option BehaviourValue → List ℕ
behaviour_picture None = []
behaviour_picture (Some b) = picture b.trace

abbrev pub check_article : DocumentValue → ℕ → Check → List ℕ
check_article d number c =
    begun (keeps_sort c.breaks.items) number (keeps_word c.breaks.items) (behaviour_link d c.behaviour)
    ++ (paragraph_if (flat (behaviour_sentence d c.behaviour))
    ++ (flat_map (broken_item d) c.breaks.items
    ++ (behaviour_picture (slice_get d.behaviours c.behaviour)
    ++ ended)))
