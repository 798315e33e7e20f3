-- The numbers of the entries whose values make a row.
use Rattle.std.specs.Prelude.{◌≡◌, ℕ, Bool, false, not, map}
use Rattle.ltl_syntax.specs.declared.node.Kind.{Kind}
use Rattle.ltl_syntax.specs.Formula.{Formula}
use Rattle.ltl_closure.specs.Norm.{Norm}
use Rattle.ltl_closure.specs.Closure.{argument, eventualities}
use Rattle.ltl_closure.specs.Entries.{numbers_of}
use Rattle.ltl_closure.specs.Run.{request_of, right_of}
use Rattle.ltl_closure.specs.declared.entry.Entry.{Entry}
use Rattle.ltl_closure.specs.declared.entry.Entry.TheVariants as Is
use Rattle.enc_layout.specs.Clauses.{carried}
use Rattle.demand.specs.declared.entries.Operand.{Operand}
use Rattle.demand.specs.declared.entries.Operand.TheVariants as operands
use Rattle.demand.specs.declared.entries.RowEntries.{RowEntries}
use Rattle.demand.specs.Rows.{refused_requests}

-- an operand of an entry: what a request asks for, the right one of an eventuality, and the request of an eventuality
abbrev pub operand_of : Operand → Norm → Norm
operand_of operands.Argument e = argument e
operand_of operands.Right e = right_of e
operand_of operands.Request e = request_of e

-- its number, by the entry's own number and the entry
abbrev pub operand_by : Operand → ℕ → Entry → ℕ
operand_by operands.Argument t (Is.Next a w) = a
operand_by operands.Argument t (Is.Yesterday a w) = a
operand_by operands.Right t (Is.Until a b r) = b
operand_by operands.Request t (Is.Until a b r) = r
operand_by o t x = t

-- whether the entry is a strong next request
abbrev pub is_strong_by : Entry → Bool
is_strong_by (Is.Next a w) = not w
is_strong_by x = false

-- these are the entries of the carry, the requests of the eventualities, what fulfils them, and the requests that the end refuses
pub record AreRowEntries (f : Formula) (kind : Kind) (entries : RowEntries) : Type 0 where
  pub carry : entries.carry.items ≡ numbers_of f (carried f)
  pub pending : entries.pending.items ≡ numbers_of f (map request_of (eventualities f))
  pub fulfilled : entries.fulfilled.items ≡ numbers_of f (map right_of (eventualities f))
  pub refused : entries.refused.items ≡ numbers_of f (refused_requests f kind)
