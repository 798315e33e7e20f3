-- Lists of members.
use Rattle.std.specs.Prelude.{ℕ, zero, suc, true, false, List, [], ◌∷◌, ◌++◌, map}
use Rattle.requirement_questions.specs.declared.members.Member.{Member}

-- the places of members among the given formulas
abbrev pub places : List Member → List ℕ
places members = map (λ m. m.given) members

-- this many, from the first on, and none is marked as needed
abbrev pub counted : ℕ → List Member
counted zero = []
counted (suc k) = counted k ++ record { given = k; needed = false } ∷ []

-- all but the one at this place
abbrev pub without : ℕ → List Member → List Member
without k [] = []
without zero (m ∷ rest) = rest
without (suc k) (m ∷ rest) = m ∷ without k rest

-- all but this many, from this place on
abbrev pub without_some : ℕ → ℕ → List Member → List Member
without_some k zero ms = ms
without_some k (suc count) ms = without_some k count (without k ms)

-- the one at this place is marked as needed
abbrev pub marked : ℕ → List Member → List Member
marked k [] = []
marked zero (m ∷ rest) = record { given = m.given; needed = true } ∷ rest
marked (suc k) (m ∷ rest) = m ∷ marked k rest

-- so where it is one, from this place on
abbrev pub noted : ℕ → ℕ → List Member → List Member
noted k zero ms = ms
noted k (suc zero) ms = marked k ms
noted k (suc (suc n)) ms = ms
