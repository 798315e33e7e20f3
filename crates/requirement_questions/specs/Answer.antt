-- When an answer to a question is right.
use Rattle.std.specs.Prelude.{◌≡◌, ◌≢◌, ℕ, ◌<◌, ◌≤◌, true, List, length, slice_get, slice_index_or, Some, All}
use Rattle.ltl_syntax.specs.Formula.{Formula, Const}
use Rattle.ltl_syntax.specs.Size.{formula_size}
use Rattle.ltl_syntax.specs.Table.{tree_at}
use Rattle.ltl_word.specs.declared.trace.Trace.{Trace}
use Rattle.ltl_word.specs.Trace.{IsTrace, IsOfKind}
use Rattle.ltl_word.specs.Holds.{Satisfies}
use Rattle.claims.specs.Lawful.{IsLawful}
use Rattle.claim_check.specs.Data.{certificate_in}
use Rattle.requirement_questions.specs.declared.questions.Question.{Question}
use Rattle.requirement_questions.specs.declared.members.Member.{Member}
use Rattle.requirement_questions.specs.declared.answering.QuestionAnswer.{QuestionAnswer}
use Rattle.requirement_questions.specs.declared.answering.QuestionAnswer.TheVariants as answers
use Rattle.requirement_questions.specs.declared.leaving.Because.{Because}
use Rattle.requirement_questions.specs.Members.{places}
use Rattle.requirement_questions.specs.Formulas.{all_of, SatisfiesEach, NoneSatisfies, given_formulas, asked_formulas, some_formulas, all_formulas}

-- the given formula with this number, from 0
abbrev pub given_at : Question → ℕ → Formula
given_at q n = slice_index_or (given_formulas q) n (Const true)

-- the members are given formulas, in their order and each once
pub record AreMembers (q : Question) (members : List Member) : Type 0 where
  pub there : (k : ℕ) (m : Member) → slice_get members k ≡ Some m → m.given < length q.given.now
  pub ascend : (j k : ℕ) (m n : Member) → j < k → slice_get members j ≡ Some m → slice_get members k ≡ Some n → m.given < n.given

-- some trace of the kind satisfies each other member, and what is asked
pub record IsNeeded (q : Question) (members : List Member) (k : ℕ) : Type 0 where
  pub t : Trace
  pub trace : IsTrace t
  pub of_kind : IsOfKind t q.kind
  pub others : (j : ℕ) (m : Member) → slice_get members j ≡ Some m → j ≢ k → Satisfies t (given_at q m.given)
  pub asked : All (Satisfies t) (asked_formulas q.asked)

-- no trace of the kind satisfies all members and what is asked, as the certificate shows. A member that is marked is needed: so a set whose members are all
-- marked is a least one
pub record IsBecause (q : Question) (b : Because) : Type 0 where
  pub members : AreMembers q b.members.items
  pub there : b.root < length b.table.nodes
  pub formula : tree_at b.table b.root ≡ all_of (some_formulas q (places b.members.items))
  pub lawful : IsLawful (tree_at b.table b.root) q.kind (certificate_in b.certificate)
  pub none : NoneSatisfies q.kind (some_formulas q (places b.members.items))
  pub needed : (k : ℕ) (m : Member) → slice_get b.members.items k ≡ Some m → m.needed ≡ true → IsNeeded q b.members.items k

-- a trace of the kind that satisfies each formula; some of the given formulas that cannot be with what is asked; or the formula that says all of it has this
-- size, which is above the limit. It may be open for each question whose formula is within the limit
abbrev pub IsAnswer : Question → QuestionAnswer → Type 0
IsAnswer q (answers.Can t) = SatisfiesEach q.kind (all_formulas q) t
IsAnswer q (answers.Cannot b) = IsBecause q b.value
IsAnswer q answers.Undecided = formula_size (all_of (all_formulas q)) ≤ 16384
IsAnswer q (answers.TooLarge size) = (size ≡ formula_size (all_of (all_formulas q))) × (16384 < size)
