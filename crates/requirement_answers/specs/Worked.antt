-- A small document that was worked by hand.
use Rattle.std.specs.Prelude.{◌≡◌, [], ◌∷◌, codes, None}
use Rattle.ltl_syntax.specs.declared.node.Kind.TheVariants as Kinds
use Rattle.ltl_syntax.specs.declared.node.UnaryOp.TheVariants.{Always, Eventually, Not}
use Rattle.ltl_syntax.specs.declared.node.BinaryOp.TheVariants.{Implies}
use Rattle.ltl_syntax.specs.Formula.{Formula, Name, Letter, Unary, Binary}
use Rattle.ltl_word.specs.declared.trace.Trace.TheVariants.{Finite}
use Rattle.requirement_document.specs.declared.document.Role.{Role}
use Rattle.requirement_document.specs.declared.document.Role.TheVariants as roles
use Rattle.requirement_document.specs.Values.{ItemValue, DocumentValue}
use Rattle.requirement_answers.specs.declared.asking.Asking.TheVariants.{Together, Triggered, New, Possible, Follows}
use Rattle.requirement_answers.specs.declared.findings.Scope.TheVariants as scopes
use Rattle.requirement_answers.specs.Items.{given_numbers, without}
use Rattle.requirement_answers.specs.Asking.{asked_of, given_for, questions_of}
use Rattle.requirement_answers.specs.Checks.{behaviours_of}

abbrev pub p : Formula
p = Letter (Name (codes "p"))

abbrev pub q : Formula
q = Letter (Name (codes "q"))

abbrev pub item : Role → Formula → ItemValue
item role f = record { role = role; name = []; sentence = None; text = []; formula = f }

-- an assumption `p`, a requirement `G (p -> q)`, another one `q`, `q` is to stay possible, and `p` is to follow; and a behaviour
abbrev pub small : DocumentValue
small = record {
  kind = Kinds.Infinite;
  items = item roles.Assume p ∷ item roles.Require (Unary Always (Binary Implies p q)) ∷ item roles.Require q ∷ item roles.Allow q ∷ item roles.Ensure p ∷ [];
  behaviours = record { name = []; sentence = None; trace = Finite ([] ∷ []) } ∷ [];
}

pub record WorkedDocument : Type 0 where
  pub given : given_numbers small ≡ 0 ∷ 1 ∷ 2 ∷ []
  -- one is set aside
  pub aside : without (1 ∷ []) (0 ∷ 1 ∷ 2 ∷ []) ≡ 0 ∷ 2 ∷ []
  -- the first requirement has a trigger; of the assumption nothing is asked
  pub all : questions_of small scopes.All (0 ∷ 1 ∷ 2 ∷ []) ≡ Triggered 1 ∷ New 1 ∷ New 2 ∷ Possible 3 ∷ Follows 4 ∷ []
  -- nothing is asked of what is set aside
  pub fewer : questions_of small scopes.All (0 ∷ 2 ∷ []) ≡ New 2 ∷ Possible 3 ∷ Follows 4 ∷ []
  pub of_one : questions_of small (scopes.Item 1) (0 ∷ 1 ∷ 2 ∷ []) ≡ Triggered 1 ∷ New 1 ∷ []
  pub of_behaviour : questions_of small (scopes.Behaviour 0) (0 ∷ 1 ∷ 2 ∷ []) ≡ []
  pub behaviours : behaviours_of small scopes.All ≡ 0 ∷ []
  pub other : behaviours_of small (scopes.Behaviour 1) ≡ []
  -- whether an item says anything new is asked of the others, and by its negation
  pub others : given_for (0 ∷ 1 ∷ 2 ∷ []) (New 2) ≡ 0 ∷ 1 ∷ []
  pub new : asked_of small (New 2) ≡ Unary Not q ∷ []
  pub triggered : asked_of small (Triggered 1) ≡ Unary Eventually p ∷ []
  pub possible : asked_of small (Possible 3) ≡ q ∷ []
  pub follows : asked_of small (Follows 4) ≡ Unary Not p ∷ []
  pub together : asked_of small Together ≡ []
