-- When an answer about a document is right.
use Rattle.std.specs.Prelude.{◌≡◌, ℕ, ◌<◌, ◌≤◌, true, List, [], ◌∷◌, ◌++◌, length, slice_get, Option, Some, IfSome, All, Contains, ⊤}
use Rattle.std.specs.Global.{Box}
use Rattle.std.specs.List.Sorted.{IsStrictlyIncreasing}
use Rattle.ltl_syntax.specs.Formula.{Formula}
use Rattle.ltl_syntax.specs.Size.{formula_size}
use Rattle.ltl_syntax.specs.Table.{tree_at}
use Rattle.ltl_word.specs.declared.trace.Trace.{Trace}
use Rattle.claims.specs.Lawful.{IsLawful}
use Rattle.claim_check.specs.Data.{certificate_in}
use Rattle.requirement_questions.specs.declared.members.Member.{Member}
use Rattle.requirement_questions.specs.declared.leaving.Because.{Because}
use Rattle.requirement_questions.specs.declared.parting.Core.{Core}
use Rattle.requirement_questions.specs.declared.answering.QuestionAnswer.{QuestionAnswer}
use Rattle.requirement_questions.specs.declared.answering.QuestionAnswer.TheVariants as answers
use Rattle.requirement_questions.specs.Formulas.{all_of, SatisfiesEach, NoneSatisfies}
use Rattle.requirement_questions.specs.Core.{IsCoreOf}
use Rattle.requirement_questions.specs.Members as members
use Rattle.requirement_questions.specs.Members.{places}
use Rattle.requirement_document.specs.Values.{DocumentValue}
use Rattle.requirement_answers.specs.declared.asking.Reply.{Reply}
use Rattle.requirement_answers.specs.Items.{formulas_of, without}
use Rattle.requirement_answers.specs.Asking.{asked_of, given_for}

-- a trace of the kind satisfies the items with these numbers, and what is asked
abbrev pub CanBe : DocumentValue → List ℕ → List Formula → Trace → Type 0
CanBe d numbers asked t = SatisfiesEach d.kind (formulas_of d numbers ++ asked) t

-- none does
abbrev pub CannotBe : DocumentValue → List ℕ → List Formula → Type 0
CannotBe d numbers asked = NoneSatisfies d.kind (formulas_of d numbers ++ asked)

-- the members are given items, ascending, and cannot be with what is asked, as the certificate shows. Where one is marked as needed, the others can
pub record IsReason (d : DocumentValue) (given : List ℕ) (asked : List Formula) (b : Because) : Type 0 where
  pub ascend : IsStrictlyIncreasing (places b.members.items)
  pub among : All (Contains given) (places b.members.items)
  pub there : b.root < length b.table.nodes
  pub formula : tree_at b.table b.root ≡ all_of (formulas_of d (places b.members.items) ++ asked)
  pub lawful : IsLawful (tree_at b.table b.root) d.kind (certificate_in b.certificate)
  pub none : CannotBe d (places b.members.items) asked
  pub needed : (k : ℕ) (m : Member) → slice_get b.members.items k ≡ Some m
      → m.needed ≡ true → (t : Trace) × CanBe d (places (members.without k b.members.items)) asked t

-- a trace that satisfies the given items and what is asked; some of them that cannot be with it; or the formula that says all of it has this size, which is
-- above the limit. It may be open for each question whose formula is within the limit
abbrev pub IsAnswerTo : DocumentValue → List ℕ → List Formula → QuestionAnswer → Type 0
IsAnswerTo d given asked (answers.Can t) = CanBe d given asked t
IsAnswerTo d given asked (answers.Cannot b) = IsReason d given asked b.value
IsAnswerTo d given asked answers.Undecided = formula_size (all_of (formulas_of d given ++ asked)) ≤ 16384
IsAnswerTo d given asked (answers.TooLarge size) = (size ≡ formula_size (all_of (formulas_of d given ++ asked))) × (16384 < size)

-- the answer to a question where these items are left
abbrev pub IsReply : DocumentValue → List ℕ → Reply → Type 0
IsReply d left r = IsAnswerTo d (given_for left r.asking) (asked_of d r.asking) r.answer

-- items that cannot be met together, each time among what is left without the members of those before; and what is left in the end
abbrev pub AreConflicts : DocumentValue → List ℕ → List (Box Because) → List ℕ → Type 0
AreConflicts d given [] left = left ≡ given
AreConflicts d given (b ∷ rest) left =
    IsReason d given [] b.value × (0 < length b.value.members.items) × AreConflicts d (without (places b.value.members.items) given) rest left

-- what of the members of each conflict matters for it, where that is told
abbrev pub AreCores : DocumentValue → List (Box Because) → List (Option (Box Core)) → Type 0
AreCores d [] [] = ⊤
AreCores d [] (c ∷ cores) = ⊥
AreCores d (b ∷ conflicts) [] = ⊥
AreCores d (b ∷ conflicts) (c ∷ cores) = IfSome c (λ c. IsCoreOf d.kind (formulas_of d (places b.value.members.items)) c.value) × AreCores d conflicts cores

-- it is not known that these items cannot be met together
abbrev pub IsOpen : QuestionAnswer → Type 0
IsOpen (answers.Can t) = ⊤
IsOpen (answers.Cannot b) = ⊥
IsOpen answers.Undecided = ⊤
IsOpen (answers.TooLarge size) = ⊤
