-- The behaviours, and which items they break, as JSON.
use Rattle.std.specs.Prelude.{ℕ, List, map, slice_get, codes, Option, Some, None}
use Rattle.ltl_syntax.specs.declared.node.UnaryOp.TheVariants.{Always}
use Rattle.ltl_syntax.specs.declared.node.BinaryOp.TheVariants.{Implies}
use Rattle.ltl_syntax.specs.Formula.{Formula, Unary, Binary}
use Rattle.ltl_word.specs.Json.{trace_data}
use Rattle.requirement_document.specs.Values.{ItemValue, BehaviourValue, DocumentValue}
use Rattle.requirement_answers.specs.declared.findings.Break.{Break}
use Rattle.requirement_answers.specs.declared.findings.Check.{Check}
use Rattle.requirement_report.specs.Subjects.{name_of, behaviour_name}
use Rattle.requirement_report.specs.Text.{bare, keeps_word}
use Rattle.serde_json.specs.Data.{Data, null, number, unsigned, string, array, object, Members, member, no_members, put}
use Rattle.serde_json.specs.View.{items_of}

-- with what asked and what was not answered, where the formula is `G (a -> b)`
abbrev pub with_asked : Formula → Members → Members
with_asked (Unary Always (Binary Implies a b)) ms = put (codes "asked") (string (bare a)) (put (codes "unanswered") (string (bare b)) ms)
with_asked f ms = ms

abbrev pub with_asked_of : Option ItemValue → Members → Members
with_asked_of None ms = ms
with_asked_of (Some i) ms = with_asked i.formula ms

-- an item that is broken, and where it fails first
abbrev pub place_members : DocumentValue → Break → Members
place_members d b =
    member (codes "name") (string (name_of d b.item))
    (member (codes "position") (number (unsigned b.position)) no_members)

abbrev pub break_data : DocumentValue → Break → Data
break_data d b = object (with_asked_of (slice_get d.items b.item) (place_members d b))

abbrev pub breaks_data : DocumentValue → List Break → Data
breaks_data d breaks = array (items_of (map (break_data d) breaks))

-- the behaviour itself
abbrev pub behaviour_data : Option BehaviourValue → Data
behaviour_data None = null
behaviour_data (Some b) = trace_data b.trace

-- a behaviour, and the items that it breaks
abbrev pub checked_data : DocumentValue → ℕ → List Break → Data
checked_data d behaviour breaks =
    object (member (codes "answer") (string (keeps_word breaks))
    (member (codes "breaks") (breaks_data d breaks)
    (member (codes "name") (string (behaviour_name d behaviour))
    (member (codes "question") (string (codes "keeps"))
    (member (codes "trace") (behaviour_data (slice_get d.behaviours behaviour)) no_members)))))

abbrev pub check_data : DocumentValue → Check → Data
check_data d c = checked_data d c.behaviour c.breaks.items
