-- An output that shows an answer which comes.
use Rattle.std.proofs.Common.{Result, Ok, Err, IfOk, OnOk}
use Rattle.black_top.specs.declared.output.Output.{Output}
use Rattle.black_top.specs.Answer.{Answer}
use Rattle.black_top.specs.Inner.{Shows}

pub shown : {E : Type 0} (Comes : Answer → Type 0) (answer : Answer) (r : Result Output E) → Comes answer → IfOk r (λ out. Shows out answer)
    → IfOk r (λ out. (a : Answer) × Comes a × Shows out a)
shown Comes answer (Ok out) given shows = (answer, given, shows)
shown Comes answer (Err e) given shows = tt

pub shown_as : {E : Type 0} (Comes Also : Answer → Type 0) (r : Result Output E) → ((a : Answer) → Comes a → Also a)
    → IfOk r (λ out. (a : Answer) × Comes a × Shows out a) → IfOk r (λ out. (a : Answer) × Also a × Shows out a)
shown_as Comes Also (Ok out) more (a, comes, shows) = (a, more a comes, shows)
shown_as Comes Also (Err e) more h = tt

-- the same where it comes by what an output says that is there
pub shown_where : {E : Type 0} (Comes : Answer → Type 0) (Fact : Type 0) (answer : Answer) (r : Result Output E) → (Fact → Comes answer) → OnOk r Fact
    → IfOk r (λ out. Shows out answer)
    → IfOk r (λ out. (a : Answer) × Comes a × Shows out a)
shown_where Comes Fact answer (Ok out) more fact shows = (answer, more fact, shows)
shown_where Comes Fact answer (Err e) more fact shows = tt
