-- Which depths are within the limit of letters.
use Rattle.std.proofs.Common.{ℕ, ◌≤◌, arith}
use Rattle.ltl_syntax.specs.declared.node.Kind.{Kind}
use Rattle.ltl_syntax.specs.declared.node.Kind.TheVariants as Kinds
use Rattle.enc_layout.specs.Letters.{Counts, LayoutValue, AreFew, own_count, Fits}
use Rattle.enc_layout.proofs.ByKind.{letters_less}

own_few : (kind : Kind) (c : Counts) → AreFew c → own_count kind c ≤ 196616
own_few Kinds.Infinite c few = let w = few.few_entries in let e = few.few_eventualities in omega arith
own_few Kinds.Finite c few = let w = few.few_entries in omega arith

pub first_fits : (layout : LayoutValue) → AreFew layout.counts → Fits layout 0
first_fits layout few = let own = own_few layout.kind layout.counts few in omega arith

pub lower_fits : (layout : LayoutValue) (k d : ℕ) → k ≤ d → Fits layout d → Fits layout k
lower_fits layout k d le fits = let less = letters_less layout.kind layout.counts k d le in omega arith
