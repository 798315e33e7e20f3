-- Which given items a behaviour does not keep.
use Rattle.std.specs.Prelude.{◌≡◌, ℕ, List, [], ◌∷◌, ◌++◌, map, length, slice_index_or}
use Rattle.std.specs.List.{filter, range_with_len}
use Rattle.ltl_word.specs.declared.trace.Trace.{Trace}
use Rattle.ltl_word.specs.declared.trace.Trace.TheVariants.{Finite}
use Rattle.ltl_word.specs.Holds.{Satisfies}
use Rattle.requirement_questions.specs.Failure.{FailsFirst}
use Rattle.requirement_document.specs.Values.{DocumentValue}
use Rattle.requirement_answers.specs.declared.findings.Scope.{Scope}
use Rattle.requirement_answers.specs.declared.findings.Break.{Break}
use Rattle.requirement_answers.specs.declared.findings.Check.{Check}
use Rattle.requirement_answers.specs.Items.{formula_of, given_numbers}
use Rattle.requirement_answers.specs.Asking.{covers_behaviour}

abbrev pub trace_of : DocumentValue → ℕ → Trace
trace_of d n = slice_index_or (map (λ b. b.trace) d.behaviours) n (Finite [])

-- the trace satisfies the item and there is no break, or there is one break, with the place where the item fails first
abbrev pub IsFinding : DocumentValue → Trace → ℕ → List Break → Type 0
IsFinding d t n [] = Satisfies t (formula_of d n)
IsFinding d t n (x ∷ []) = (x.item ≡ n) × FailsFirst t (formula_of d n) x.position
IsFinding d t n (x ∷ y ∷ rest) = ⊥

-- what is found of each of these items, in their order
abbrev pub AreFindings : DocumentValue → Trace → List ℕ → List Break → Type 0
AreFindings d t [] found = found ≡ []
AreFindings d t (n ∷ rest) found =
    (first : List Break) × (others : List Break) × (found ≡ first ++ others) × IsFinding d t n first × AreFindings d t rest others

-- what is found of these items on the behaviour
abbrev pub IsCheckAgainst : DocumentValue → List ℕ → Check → Type 0
IsCheckAgainst d numbers c = AreFindings d (trace_of d c.behaviour) numbers c.breaks.items

-- and of the given items, those set aside too
abbrev pub IsCheck : DocumentValue → Check → Type 0
IsCheck d c = IsCheckAgainst d (given_numbers d) c

abbrev pub behaviours_of : DocumentValue → Scope → List ℕ
behaviours_of d scope = filter (covers_behaviour scope) (range_with_len 0 (length d.behaviours))
