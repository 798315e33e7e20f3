use Rattle.std.proofs.Common.{inl, inr}
use Rattle.ltl_word.proofs.Decided.{Holds_decided}
use Rattle.ltl_word.proofs.laws.decided.Goals as goal

pub returns : goal.returns
returns c t f i good = elim (Holds_decided t good f i) [ yes h ↦ inl h | no n ↦ inr n ]
