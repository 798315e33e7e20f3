-- The letters that are read have values.
use Rattle.std.proofs.Common.{◌≡◌, ℕ, ◌<◌, ◌≤◌, arith, sym, subst, List, length, All}
use Rattle.cnf_base.specs.declared.literal.Literal.{Literal as Signed}
use Rattle.ltl_closure.specs.Entries.{numbers_of, ClosureValue, IsNumber}
use Rattle.cdcl.specs.SolverValue.{SolverValue}
use Rattle.ltl_closure.proofs.Known.{numbers_known}
use Rattle.enc_layout.specs.Letters.{LayoutValue, Meaning, EntryAt, IsLetter, letters_through, number_of}
use Rattle.enc_layout.specs.Clauses.{Plus, layout_of, literal_in}
use Rattle.enc_layout.proofs.Numbers.{number_within}
use Rattle.ltl_closure.specs.Closure.{closure}
use Rattle.ltl_closure.proofs.Lists.{Contains-from_filter}
use Rattle.ltl_run.specs.States.{is_letter, letters}
use Rattle.enc_layout.proofs.Standing.{entries_count}
use Rattle.unravel.specs.Values.{HasRoom}

has_value : (layout : LayoutValue) (i : ℕ) (s : SolverValue) (p : Meaning) → HasRoom layout i s → IsLetter layout.kind layout.counts i p
    → number_of layout.kind layout.counts p < length s.model
has_value layout i s p room h = by (number_of layout.kind layout.counts p) (letters_through layout.kind layout.counts i) (length s.model)
    (number_within layout.kind layout.counts i p h).1 room
  where
    by : (a b c : ℕ) → a ≤ b → b < c → a < c
    by a b c h k = omega arith

pub entry_has_value : (layout : LayoutValue) (i t : ℕ) (s : SolverValue) (l : Signed) → HasRoom layout i s → IsNumber layout.counts.entries t
    → l ≡ literal_in layout.kind layout.counts (Plus (EntryAt i t)) → l.letter.0 < length s.model
entry_has_value layout i t s l room known is =
    let le : i ≤ i = omega arith in
    subst (λ (m : Signed). m.letter.0 < length s.model) (sym is) (has_value layout i s (EntryAt i t) room (le, known.0, known.1))

-- the letters of a closure are among its entries
pub letters_all : (layout : LayoutValue) (c : ClosureValue) → layout ≡ layout_of c → (numbers : List ℕ) → numbers ≡ numbers_of c.formula (letters c.formula)
    → All (IsNumber layout.counts.entries) numbers
letters_all layout c own numbers is =
    subst (λ n. All (IsNumber n) numbers) (sym (entries_count layout c own))
    (subst (λ ns. All (IsNumber (length (closure c.formula))) ns) (sym is)
    (numbers_known c.formula (letters c.formula) (λ e m. (Contains-from_filter is_letter (closure c.formula) e m).0)))
