-- A row of symbols that is put behind another.
use Rattle.std.proofs.Common.{◌≡◌, ℕ, suc, ◌+◌, ◌<◌, ◌≤◌, subst, sym, refl, ap, ◌∙◌, arith, false, List, [], ◌∷◌, ◌++◌, length, drop, get_or}
use Rattle.std.proofs.Math.Seq.{drop-cons}
use Rattle.std.proofs.Math.ListN.{drop_of_length-le}
use Rattle.ltl_syntax.specs.Formula.{Formula, Const, Letter, Fresh, Unary, Binary}
use Rattle.depast.specs.declared.symbol.Symbol.{Symbol}
use Rattle.depast.specs.declared.symbol.Symbol.TheVariants as symbols
use Rattle.depast.specs.Symbols.{Letters, Reads, Writes}

pub reads_on : (l : Letters) (xs ys : List Symbol) (r s t : List Formula) → Reads l xs r s → Reads l ys s t → Reads l (xs ++ ys) r t
reads_on l [] ys r s t e h = subst (λ q. Reads l ys q t) (sym e) h
reads_on l (symbols.Const b ∷ xs) ys r s t e h = reads_on l xs ys (Const b ∷ r) s t e h
reads_on l (symbols.Old n ∷ xs) ys r s t e h = (e.0, reads_on l xs ys (l.old n ∷ r) s t e.1 h)
reads_on l (symbols.Fresh n ∷ xs) ys r s t e h = reads_on l xs ys (Letter (Fresh n) ∷ r) s t e h
reads_on l (symbols.New n ∷ xs) ys r s t e h = reads_on l xs ys (l.new n ∷ r) s t e h
reads_on l (symbols.Unary op ∷ xs) ys [] s t e h = absurd e
reads_on l (symbols.Unary op ∷ xs) ys (a ∷ r) s t e h = (e.0, reads_on l xs ys (Unary op a ∷ r) s t e.1 h)
reads_on l (symbols.Binary op ∷ xs) ys [] s t e h = absurd e
reads_on l (symbols.Binary op ∷ xs) ys (b ∷ []) s t e h = absurd e
reads_on l (symbols.Binary op ∷ xs) ys (b ∷ a ∷ r) s t e h = reads_on l xs ys (Binary op a b ∷ r) s t e h

-- the row of a formula behind a row
pub writes_on : (l : Letters) (xs ys new : List Symbol) (r s : List Formula) (f : Formula) → new ≡ xs ++ ys → Reads l xs r s → Writes l ys f
    → Reads l new r (f ∷ s)
writes_on l xs ys new r s f is h w = subst (λ zs. Reads l zs r (f ∷ s)) (sym is) (reads_on l xs ys r s (f ∷ s) h (w s))

pub reads_more : (l : Letters) (xs ys new : List Symbol) (r s t : List Formula) → new ≡ xs ++ ys → Reads l xs r s → Reads l ys s t → Reads l new r t
reads_more l xs ys new r s t is h w = subst (λ zs. Reads l zs r t) (sym is) (reads_on l xs ys r s t h w)

-- the first symbol of a row, and the rest
pub split_reads : (l : Letters) (x : Symbol) (xs : List Symbol) (s r : List Formula) → Reads l (x ∷ xs) s r
    → (m : List Formula) × Reads l (x ∷ []) s m × Reads l xs m r
split_reads l (symbols.Const b) xs s r h = (Const b ∷ s, refl, h)
split_reads l (symbols.Old n) xs s r h = (l.old n ∷ s, (h.0, refl), h.1)
split_reads l (symbols.Fresh n) xs s r h = (Letter (Fresh n) ∷ s, refl, h)
split_reads l (symbols.New n) xs s r h = (l.new n ∷ s, refl, h)
split_reads l (symbols.Unary op) xs [] r h = absurd h
split_reads l (symbols.Unary op) xs (a ∷ s) r h = (Unary op a ∷ s, (h.0, refl), h.1)
split_reads l (symbols.Binary op) xs [] r h = absurd h
split_reads l (symbols.Binary op) xs (b ∷ []) r h = absurd h
split_reads l (symbols.Binary op) xs (b ∷ a ∷ s) r h = (Binary op a b ∷ s, refl, h)

abbrev pub blank : Symbol
blank = symbols.Const false

-- at a place of a row
pub reads_at : (l : Letters) (row : List Symbol) (i : ℕ) (s r : List Formula) → i < length row → Reads l (drop i row) s r
    → Reads l (get_or row i blank ∷ drop (i + 1) row) s r
reads_at l row i s r lt h = let e : suc i ≡ i + 1 = omega arith in
    subst (λ xs. Reads l xs s r) (drop-cons row i blank lt ∙ ap (λ n. get_or row i blank ∷ drop n row) e) h

pub reads_none : (l : Letters) (row : List Symbol) (i : ℕ) (s r : List Formula) → length row ≤ i → Reads l (drop i row) s r → s ≡ r
reads_none l row i s r le h = subst (λ xs. Reads l xs s r) (drop_of_length-le row le) h
