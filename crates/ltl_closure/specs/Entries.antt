-- When entries are those of a formula's closure, and what a contract sees of a `Closure`.
use Rattle.std.specs.Prelude.{◌≡◌, ℕ, suc, ◌-◌, ◌<◌, ◌≤◌, true, false, List, [], ◌∷◌, length, map, slice_index_or, refl, if◌then◌else◌}
use Rattle.std.specs.Coded.{Coded, code_by, coded×, coded_list, coded_ℕ}
use Rattle.ltl_syntax.specs.declared.node.Kind.{Kind}
use Rattle.ltl_syntax.specs.contracts.node.Kind as kind_row
use Rattle.ltl_syntax.specs.contracts.table.FormulaTable as table_row
use Rattle.ltl_closure.specs.contracts.entry.Entry as entry_row
use Rattle.ltl_syntax.specs.FormulaCode.{coded_formula}
use Rattle.ltl_syntax.specs.Table.{Table, tree_at}
use Rattle.ltl_syntax.specs.Formula.{Name, Fresh, Formula}
use Rattle.ltl_closure.specs.Norm.{Norm, NConst, NLetter, NNotLetter, NAnd, NOr, NNext, NWeakNext, NYesterday, NWeakYesterday, NUntil, NRelease, NSince}
use Rattle.ltl_closure.specs.Norm.{NTrigger, pos_of}
use Rattle.ltl_closure.specs.Closure.{closure, same, nexts, yesterdays, eventualities}
use Rattle.ltl_closure.specs.declared.entry.Entry.{Entry}
use Rattle.ltl_closure.specs.declared.entry.Entry.TheVariants as Is

-- the number of a member of the list, from 1
abbrev pub place_in : List Norm → Norm → ℕ
place_in [] e = 1
place_in (x ∷ xs) e = if same x e then 1 else suc (place_in xs e)

-- the entry stands for e among these members: it has e's operator, and the numbers of its operands and of its request
abbrev pub StandsAmong : List (List ℕ) → List Norm → Norm → Entry → Type 0
StandsAmong names kept (NConst true) x = x ≡ Is.True
StandsAmong names kept (NConst false) x = x ≡ Is.False
StandsAmong names kept (NLetter (Name bytes)) x = (n : ℕ) × (x ≡ Is.Letter n) × (n < length names) × (slice_index_or names n [] ≡ bytes)
StandsAmong names kept (NLetter (Fresh n)) x = x ≡ Is.Fresh n
StandsAmong names kept (NNotLetter p) x = x ≡ Is.NotLetter (place_in kept (NLetter p))
StandsAmong names kept (NAnd a b) x = x ≡ Is.And (place_in kept a) (place_in kept b)
StandsAmong names kept (NOr a b) x = x ≡ Is.Or (place_in kept a) (place_in kept b)
StandsAmong names kept (NNext a) x = x ≡ Is.Next (place_in kept a) false
StandsAmong names kept (NWeakNext a) x = x ≡ Is.Next (place_in kept a) true
StandsAmong names kept (NYesterday a) x = x ≡ Is.Yesterday (place_in kept a) false
StandsAmong names kept (NWeakYesterday a) x = x ≡ Is.Yesterday (place_in kept a) true
StandsAmong names kept (NUntil a b) x = x ≡ Is.Until (place_in kept a) (place_in kept b) (place_in kept (NNext (NUntil a b)))
StandsAmong names kept (NRelease a b) x = x ≡ Is.Release (place_in kept a) (place_in kept b) (place_in kept (NWeakNext (NRelease a b)))
StandsAmong names kept (NSince a b) x = x ≡ Is.Since (place_in kept a) (place_in kept b) (place_in kept (NYesterday (NSince a b)))
StandsAmong names kept (NTrigger a b) x = x ≡ Is.Trigger (place_in kept a) (place_in kept b) (place_in kept (NWeakYesterday (NTrigger a b)))

-- the entry stands for e in the closure of f
abbrev pub StandsFor : List (List ℕ) → Formula → Norm → Entry → Type 0
StandsFor names f e x = StandsAmong names (closure f) e x

-- the entries are those of the closure of f, in its order
pub record AreEntries (names : List (List ℕ)) (f : Formula) (entries : List Entry) : Type 0 where
  pub long : length entries ≡ length (closure f)
  pub each : (k : ℕ) → k < length (closure f) → StandsFor names f (slice_index_or (closure f) k (NConst false)) (slice_index_or entries k Is.True)

-- a number of one of w entries
abbrev pub IsNumber : ℕ → ℕ → Type 0
IsNumber w t = (0 < t) × (t ≤ w)

-- the entry of a number
abbrev pub entry_at : List Entry → ℕ → Entry
entry_at entries t = slice_index_or entries (t - 1) Is.True

-- the numbers of these members of the closure of f
abbrev pub numbers_of : Formula → List Norm → List ℕ
numbers_of f es = map (place_in (closure f)) es

-- what a contract sees of a closure: its table and node, their formula and names, its kind, and its entries
pub record ClosureValue : Type 0 where
  pub table : Table
  pub node : ℕ
  pub formula : Formula
  pub kind : Kind
  pub names : List (List ℕ)
  pub entries : List Entry

abbrev pub coded_closure : Coded ClosureValue
coded_closure =
    code_by (Table × (ℕ × (Formula × (Kind × (List (List ℕ) × List Entry)))))
    (coded× table_row.the_row.coded
    (coded× coded_ℕ (coded× coded_formula (coded× kind_row.the_row.coded (coded× (coded_list (coded_list coded_ℕ)) (coded_list entry_row.the_row.coded))))))
    (λ c. (c.table, (c.node, (c.formula, (c.kind, (c.names, c.entries))))))
    (λ p. record { table = p.0; node = p.1.0; formula = p.1.1.0; kind = p.1.1.1.0; names = p.1.1.1.1.0; entries = p.1.1.1.1.1 }) (λ _. refl)

-- what holds of a closure's fields: the tree is there, the entries are those of its closure, and so are the numbers
pub record IsClosure (t : Table) (node : ℕ) (stored : List Entry) (number : ℕ) (next yesterday eventuality : List ℕ) : Type 0 where
  pub there : node < length t.nodes
  pub entries : AreEntries t.names (tree_at t node) stored
  pub few : length stored ≤ 98306
  pub root : number ≡ place_in (closure (tree_at t node)) (pos_of (tree_at t node))
  pub nexts : next ≡ numbers_of (tree_at t node) (nexts (tree_at t node))
  pub yesterdays : yesterday ≡ numbers_of (tree_at t node) (yesterdays (tree_at t node))
  pub eventualities : eventuality ≡ numbers_of (tree_at t node) (eventualities (tree_at t node))
