-- The row that is written whole reads as the formula without past operators.
use Rattle.std.proofs.Common.{◌≡◌, ℕ, ◌+◌, ◌<◌, ◌≤◌, refl, sym, ◌∙◌, ap, subst, arith, List, [], ◌∷◌, ◌++◌}
use Rattle.ltl_syntax.specs.Formula.{Formula}
use Rattle.ltl_syntax.specs.Size.{formula_size}
use Rattle.ltl_syntax.specs.Table.{Table}
use Rattle.depast.specs.declared.counts.Counts.{Counts}
use Rattle.depast.specs.declared.symbol.Symbol.{Symbol}
use Rattle.depast.specs.declared.writer.Writer.{Writer}
use Rattle.depast.specs.Building.{letters_by}
use Rattle.depast.specs.Counting.{IsCount}
use Rattle.depast.specs.Depast.{taken, residue, letter_for, depast}
use Rattle.depast.specs.Names.{most_leading}
use Rattle.depast.specs.Symbols.{Letters, Reads}
use Rattle.depast.specs.Writing.{IsDoneBy, MeansNames}
use Rattle.depast.proofs.Bounds.{residue_small, axioms_few}
use Rattle.depast.proofs.Counted.{size_counted}
use Rattle.depast.proofs.Numbering.{names_counted}
use Rattle.depast.proofs.Rows.{reads_more}

pub whole_reads : (t : Table) (most : ℕ) (f : Formula) (w : Writer) (row : List Symbol) → ((l : Letters) → MeansNames l t → IsDoneBy l (f ∷ []) w)
    → most ≡ most_leading f → row ≡ w.row.items ++ w.axioms.items
    → Reads (letters_by t most) row [] (depast f ∷ [])
whole_reads t most f w row done e is =
    let l = letters_by t (most_leading f) in
    let d = done (letters_by t (most_leading f)) (record { many_are = refl; each = λ n. refl }) in
    let v = d.laid in
    let back : w.row.items ≡ v.1 = v.3 ∙ ap (λ xs. xs ++ v.1) v.6.0 in
    let first : Reads (letters_by t (most_leading f)) w.row.items [] (residue (letter_for f) 0 f ∷ []) =
    subst (λ xs. Reads (letters_by t (most_leading f)) xs [] (residue (letter_for f) 0 f ∷ [])) (sym back) (v.5 []) in
    subst (λ m. Reads (letters_by t m) row [] (depast f ∷ [])) (sym e)
    (reads_more (letters_by t (most_leading f)) w.row.items w.axioms.items row [] (residue (letter_for f) 0 f ∷ []) (depast f ∷ []) is first
    (d.said_is (residue (letter_for f) 0 f)))

pub names_taken : (t : Table) (f : Formula) (w : Writer) → ((l : Letters) → MeansNames l t → IsDoneBy l (f ∷ []) w) → w.next ≡ taken f
names_taken t f w done = let d = done (letters_by t (most_leading f)) (record { many_are = refl; each = λ n. refl }) in omega (arith, d.next_is)

-- what is counted fits 32 bits, and is the size
pub count_fits : (f : Formula) (c : Counts) → IsCount f c → formula_size f ≤ 16384 → c.residue + c.axioms < 4294967296
count_fits f c is few = omega (arith, is.residue_is, is.axioms_is, residue_small f, axioms_few f few)

pub count_is : (f : Formula) (c : Counts) → IsCount f c → c.residue + c.axioms ≡ formula_size (depast f)
count_is f c is = omega (arith, is.residue_is, is.axioms_is, size_counted f)

-- where it is small enough, so are the names
pub names_few : (f : Formula) (c : Counts) → IsCount f c → c.residue + c.axioms ≤ 16384 → taken f ≤ 16384
names_few f c is few = omega (arith, count_is f c is, names_counted f)
