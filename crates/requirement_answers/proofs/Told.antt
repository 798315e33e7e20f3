-- Cores: the formula beside each conflict says that its members hold; and one core more.
use Rattle.std.proofs.Common.{◌≡◌, ◌∙◌, ℕ, ◌+◌, ◌<◌, List, [], ◌∷◌, ◌++◌, length, take, get_or, Option, Some, None, sym, ap, subst}
use Rattle.std.specs.Global.{Box}
use Rattle.std.specs.List.{All}
use Rattle.std.specs.Option.{IfSome}
use Rattle.std.proofs.lemmas.List.{append-nil, length-map, take_more}
use Rattle.std.proofs.lemmas.List.Elements.{All-nil, All-cons}
use Rattle.ltl_syntax.specs.Formula.{Formula}
use Rattle.ltl_syntax.specs.Table.{tree_at}
use Rattle.requirement_questions.specs.declared.leaving.Because.{Because}
use Rattle.requirement_questions.specs.declared.parting.Core.{Core}
use Rattle.requirement_questions.specs.Formulas.{all_of}
use Rattle.requirement_questions.specs.Core.{IsCoreOf}
use Rattle.requirement_questions.specs.Members.{places}
use Rattle.requirement_document.specs.Values.{DocumentValue}
use Rattle.requirement_answers.specs.Items.{formula_of, formulas_of, without}
use Rattle.requirement_answers.specs.Answers.{IsReason, AreConflicts, AreCores}
use Rattle.requirement_answers.specs.Inner.{SaysMembers}

-- ---- what the formulas say

says_members : (d : DocumentValue) (given : List ℕ) (b : Box Because) → IsReason d given [] b.value → SaysMembers d b
says_members d given b w = record { there = w.there; formula = w.formula ∙ ap all_of (append-nil (formulas_of d (places b.value.members.items))) }

pub each_says : (d : DocumentValue) (given left : List ℕ) (conflicts : List (Box Because)) → AreConflicts d given conflicts left → All (SaysMembers d) conflicts
each_says d given left [] w = All-nil (SaysMembers d)
each_says d given left (b ∷ rest) (reason, some, others) =
    All-cons (SaysMembers d) b rest (says_members d given b reason) (each_says d (without (places b.value.members.items) given) left rest others)

-- ---- one core more

-- what is told of a conflict
abbrev pub IsTold : DocumentValue → Box Because → Option (Box Core) → Type 0
IsTold d b c = IfSome c (λ c. IsCoreOf d.kind (formulas_of d (places b.value.members.items)) c.value)

as_many : (d : DocumentValue) (b : Because) → length (formulas_of d (places b.members.items)) ≡ length b.members.items
as_many d b = length-map (places b.members.items) (formula_of d) ∙ length-map b.members.items (λ m. m.given)

pub is_told : (d : DocumentValue) (b : Box Because) (c : Option (Box Core)) → SaysMembers d b
    → IfSome c (λ c. (formulas : List Formula) → length formulas ≡ length b.value.members.items → tree_at b.value.table b.value.root ≡ all_of formulas
    → IsCoreOf d.kind formulas c.value)
    → IsTold d b c
is_told d b None w h = h
is_told d b (Some c) w h = h (formulas_of d (places b.value.members.items)) (as_many d b.value) w.formula

core_more : (d : DocumentValue) (conflicts : List (Box Because)) (b : Box Because) (found : List (Option (Box Core))) (c : Option (Box Core))
    → AreCores d conflicts found → IsTold d b c
    → AreCores d (conflicts ++ b ∷ []) (found ++ c ∷ [])
core_more d [] b [] c w told = (told, tt)
core_more d [] b (x ∷ found) c w told = absurd w
core_more d (y ∷ conflicts) b [] c w told = absurd w
core_more d (y ∷ conflicts) b (x ∷ found) c w told = (w.0, core_more d conflicts b found c w.1 told)

pub cores_more : (d : DocumentValue) (conflicts : List (Box Because)) (k : ℕ) (b : Box Because) (found new : List (Option (Box Core))) (c : Option (Box Core))
    → k < length conflicts → b ≡ get_or conflicts k b
    → AreCores d (take k conflicts) found → IsTold d b c → new ≡ found ++ c ∷ [] → AreCores d (take (k + 1) conflicts) new
cores_more d conflicts k b found new c lt is w told grown =
    let whole = core_more d (take k conflicts) b found c w told in
    let same = ap (λ x. take k conflicts ++ x ∷ []) is ∙ sym (take_more conflicts k b lt) in
    subst (AreCores d (take (k + 1) conflicts)) (sym grown) (subst (λ xs. AreCores d xs (found ++ c ∷ [])) same whole)
