-- Rows as they are read from the values of letters.
use Rattle.std.specs.Prelude.{◌≡◌, ℕ, ◌<◌, ◌≤◌, Bool, List, map}
use Rattle.ltl_syntax.specs.declared.node.Kind.{Kind}
use Rattle.ltl_syntax.specs.Formula.{Formula}
use Rattle.ltl_closure.specs.Norm.{Norm}
use Rattle.ltl_closure.specs.Closure.{eventualities}
use Rattle.ltl_closure.specs.Run.{request_of, right_of}
use Rattle.enc_layout.specs.Letters.{EntryAt, LayoutValue, letters_through, number_of}
use Rattle.enc_layout.specs.Clauses.{carried, letter_of, number_in}
use Rattle.demand.specs.Rows.{Rows, Row, refused_requests}

-- the value that an assignment gives to the letter of an entry at step i
abbrev pub entry_value : Formula → Kind → (ℕ → Bool) → ℕ → Norm → Bool
entry_value f kind v i e = v (number_in f kind (letter_of f i e))

-- the row that is read from an assignment, letter by letter
abbrev pub read_row : Formula → Kind → (ℕ → Bool) → ℕ → Row
read_row f kind v i = record {
  carry = map (entry_value f kind v i) (carried f);
  pending = map (λ e. entry_value f kind v i (request_of e)) (eventualities f);
  fulfilled = map (λ e. entry_value f kind v i (right_of e)) (eventualities f);
  refused = map (entry_value f kind v i) (refused_requests f kind);
}

-- the rows of the states 0 to k are those that are read
abbrev pub AreRead : Formula → Kind → (ℕ → Bool) → ℕ → Rows → Type 0
AreRead f kind v k rows = (i : ℕ) → i ≤ k → rows i ≡ read_row f kind v i

-- the values of the entries of these numbers at step i
abbrev pub values_at : LayoutValue → (ℕ → Bool) → ℕ → List ℕ → List Bool
values_at layout v i numbers = map (λ t. v (number_of layout.kind layout.counts (EntryAt i t))) numbers

-- the letters through step i are below a number
abbrev pub HasRoom : LayoutValue → ℕ → ℕ → Type 0
HasRoom layout i room = letters_through layout.kind layout.counts i < room
