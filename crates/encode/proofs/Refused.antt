-- A list that a refused call left as it was has nothing behind the old one's clauses.
use Rattle.std.proofs.Common.{◌≡◌, sym, ◌∙◌, List, [], Result, Ok, Err}
use Rattle.std.specs.Result.{OnErr}
use Rattle.std.proofs.lemmas.List.{append-nil}
use Rattle.cnf_base.specs.declared.literal.Literal.{Literal}
use Rattle.enc_layout.specs.Numbered.{Extends}

pub as_before : {T E : Type 0} (r : Result T E) (old new : List (List Literal)) → new ≡ old → OnErr r (Extends old new)
as_before (Ok x) old new same = tt
as_before (Err y) old new same = ([], same ∙ sym (append-nil old))
