-- What all promises share: an answer that was printed whole, and a call that gave none.
use Rattle.std.proofs.Common.{◌≡◌, ◌∙◌, ℕ, true, false, List, Option, sym, ap, subst}
use Rattle.ltl_io.specs.Outside.{Grows}
use Rattle.report.specs.declared.status.Status.{Status}
use Rattle.report.specs.declared.status.Status.TheVariants as statuses
use Rattle.black_top.specs.declared.output.Output.{Output}
use Rattle.report.specs.Status.{is_answer}
use Rattle.black_top.specs.Answer.{Answer}
use Rattle.black_top.specs.Inner.{Shows}
use Rattle.black_top.specs.Run.{IsGiven, IsAnswered}

-- an output that was written whole is an answer
pub answered : {words : List (List ℕ)} {rest before after : Option (List ℕ)} {s : Status} (out : Output) (text : List ℕ)
    → (a : Answer) × IsGiven words rest a × Shows out a → text ≡ out.text.items → Grows text before after → out.status ≡ s
    → IsAnswered words rest before after s
answered {words} {rest} {before} {after} {s} out text (a, given, shows) same grown is = record {
  answer = a;
  given = given;
  own = sym is ∙ shows.status;
  printed = subst (λ (bytes : List ℕ). Grows bytes before after) (same ∙ shows.text) grown;
}

-- a call that gave no answer was not quiet, or there was no memory
pub record IsBroken (IsQuiet : Type 0) (status : Status) : Type 0 where
  pub none : is_answer status ≡ false
  pub cause : IsQuiet → status ≡ statuses.NoMemory

pub broken_not : (status other : Status) → is_answer status ≡ false → is_answer other ≡ true → status ≡ other → ⊥
broken_not status other none is same = let e : false ≡ true = sym none ∙ ap is_answer same ∙ is in cc
