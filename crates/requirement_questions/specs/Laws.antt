-- What the laws of questions say.
use Rattle.std.specs.Prelude.{◌≡◌, ℕ, true, List, slice_get, Some, All, Contains}
use Rattle.ltl_word.specs.declared.trace.Trace.{Trace}
use Rattle.requirement_questions.specs.declared.questions.Question.{Question}
use Rattle.requirement_questions.specs.declared.members.Member.{Member}
use Rattle.requirement_questions.specs.declared.leaving.Because.{Because}
use Rattle.requirement_questions.specs.Formulas.{SatisfiesEach, some_formulas}
use Rattle.requirement_questions.specs.Members.{places}
use Rattle.requirement_questions.specs.Answer.{IsBecause}

-- where each member is marked as needed, some trace satisfies any of them that lack one, and what is asked: the set is a least one
abbrev pub MarkedAreLeast : Type 0
MarkedAreLeast = (q : Question) (b : Because) → IsBecause q b → ((k : ℕ) (m : Member) → slice_get b.members.items k ≡ Some m → m.needed ≡ true)
    → (fewer : List ℕ) → All (Contains (places b.members.items)) fewer → (lacks : ℕ) → Contains (places b.members.items) lacks → ¬ Contains fewer lacks
    → (t : Trace) × SatisfiesEach q.kind (some_formulas q fewer) t
