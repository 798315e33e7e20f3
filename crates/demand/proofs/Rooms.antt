-- The letters that are read have values.
use Rattle.std.proofs.Common.{◌≡◌, ℕ, ◌<◌, ◌≤◌, arith, sym, subst}
use Rattle.cnf_base.specs.declared.literal.Literal.{Literal as Signed}
use Rattle.ltl_closure.specs.Entries.{IsNumber}
use Rattle.enc_layout.specs.Letters.{LayoutValue, Meaning, EntryAt, IsLetter, letters_through, number_of}
use Rattle.enc_layout.specs.Clauses.{Plus, literal_in}
use Rattle.enc_layout.proofs.Numbers.{number_within}
use Rattle.demand.specs.Reading.{HasRoom}

has_value : (layout : LayoutValue) (i room : ℕ) (p : Meaning) → HasRoom layout i room → IsLetter layout.kind layout.counts i p
    → number_of layout.kind layout.counts p < room
has_value layout i room p h known =
    by (number_of layout.kind layout.counts p) (letters_through layout.kind layout.counts i) room (number_within layout.kind layout.counts i p known).1 h
  where
    by : (a b c : ℕ) → a ≤ b → b < c → a < c
    by a b c h k = omega arith

pub entry_has_value : (layout : LayoutValue) (i t room : ℕ) (l : Signed) → HasRoom layout i room → IsNumber layout.counts.entries t
    → l ≡ literal_in layout.kind layout.counts (Plus (EntryAt i t)) → l.letter.0 < room
entry_has_value layout i t room l h known is =
    let le : i ≤ i = omega arith in
    subst (λ (m : Signed). m.letter.0 < room) (sym is) (has_value layout i room (EntryAt i t) h (le, known.0, known.1))
