-- A given formula more.
use Rattle.std.proofs.Common.{◌≡◌, ◌<◌, List, [], ◌∷◌, ◌++◌, length, sym, subst}
use Rattle.std.specs.List.{All}
use Rattle.std.proofs.lemmas.List.Elements.{All-push}
use Rattle.requirement_questions.specs.declared.questions.Given.{Given}
use Rattle.requirement_questions.specs.Formulas.{IsThere}

pub one_more : (xs ys : List Given) (x : Given) → ys ≡ xs ++ x ∷ [] → x.root < length x.table.now.nodes → All IsThere xs → All IsThere ys
one_more xs ys x is low all = subst (All IsThere) (sym is) (All-push IsThere xs x all low)
