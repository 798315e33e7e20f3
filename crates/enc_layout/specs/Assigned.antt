-- Assignments to the numbered letters, and the runs that they give.
use Rattle.std.specs.Prelude.{◌≡◌, ℕ, ◌≤◌, Bool, true, List, [], ◌∷◌, All, Contains}
use Rattle.ltl_syntax.specs.declared.node.Kind.{Kind}
use Rattle.ltl_syntax.specs.Formula.{Formula}
use Rattle.cnf_base.specs.declared.literal.Literal.{Literal as Signed}
use Rattle.cnf_base.specs.Meaning.{Satisfies, literal_value}
use Rattle.ltl_closure.specs.Norm.{Norm}
use Rattle.ltl_closure.specs.Closure.{closure}
use Rattle.ltl_closure.specs.Run.{States, val}
use Rattle.enc_layout.specs.Letters.{Meaning, Unpruned, Here, Accepted}
use Rattle.enc_layout.specs.Clauses.{Plus, letter_of, number_in, signed}

-- the states that the letters of the entries give
abbrev pub states_of : Formula → Kind → (ℕ → Bool) → States
states_of f kind v i e = v (number_in f kind (letter_of f i e))

-- up to state k the letters of the entries are the values of the run
abbrev pub Shows : Formula → Kind → (ℕ → Bool) → ℕ → States → Type 0
Shows f kind v k r = (i : ℕ) → i ≤ k → (e : Norm) → Contains (closure f) e → v (number_in f kind (letter_of f i e)) ≡ val (r i) e

-- the literal of a letter
abbrev pub positive_of : Formula → Kind → Meaning → Signed
positive_of f kind p = signed f kind (Plus p)

-- some assignment makes the clauses and these literals true
abbrev pub AreSatisfiable : List (List Signed) → List Signed → Type 0
AreSatisfiable clauses literals = (v : ℕ → Bool) × Satisfies v clauses × All (λ l. literal_value v l ≡ true) literals

-- the questions of depth k
abbrev pub run_question : Formula → Kind → ℕ → List Signed
run_question f kind k = positive_of f kind (Here k) ∷ []

abbrev pub accepted_question : Formula → Kind → ℕ → List Signed
accepted_question f kind k = positive_of f kind (Here k) ∷ positive_of f kind (Accepted k) ∷ []

abbrev pub unpruned_question : Formula → Kind → ℕ → List Signed
unpruned_question f kind k = positive_of f kind (Here k) ∷ positive_of f kind Unpruned ∷ []
