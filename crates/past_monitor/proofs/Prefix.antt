-- Whether a formula that does not look ahead holds at a position depends on the states up to it alone.
use Rattle.std.proofs.Common.{◌<◌, ◌++◌, List, [], length, Contains, sym, subst, arith}
use Rattle.std.proofs.Math.ListN.{get_or-append}
use Rattle.ltl_syntax.specs.declared.node.BinaryOp.TheVariants.{And, Iff, Implies, Or, Since, Trigger}
use Rattle.ltl_syntax.specs.Shape.{Future, Past, Shape, Negation, Somewhere, Everywhere, shape}
use Rattle.ltl_syntax.specs.Formula.{Formula, Const, Letter, Unary, Binary}
use Rattle.ltl_word.specs.declared.trace.Trace.TheVariants.{Finite}
use Rattle.ltl_word.specs.Trace.{Names, IsPosition}
use Rattle.ltl_word.specs.Claims.{Claim, OfShape}
use Rattle.ltl_word.specs.Holds.{Holds, name_of}
use Rattle.ltl_word.proofs.Agreement.{IsRange, Same, Same-self, Same-not, Same-and, Same-or, Same-implies, Same-iff, Same-since, Same-triggered}
use Rattle.ltl_word.proofs.Reached.{Same-somewhere, Same-everywhere}
use Rattle.past_monitor.specs.Past.{LooksBack, IsPast}

module _ (t later : List Names) where
  abbrev pub Within : Claim
  Within i = i < length t

  range : IsRange Within Within
  range = record { closed = λ i j le at. omega arith; whole = λ i at. at }

  -- P and R are positions, which the past does not ask for
  over_same : (P R A C : Claim) (s : Shape) → LooksBack s → Same Within A C → Same Within (OfShape P s A) (OfShape R s C)
  over_same P R A C Negation w same = Same-not A C same
  over_same P R A C (Somewhere Future r) w same = absurd w
  over_same P R A C (Somewhere Past r) w same = Same-somewhere range Past r A C same
  over_same P R A C (Everywhere Future r) w same = absurd w
  over_same P R A C (Everywhere Past r) w same = Same-everywhere range Past r A C same

  pub prefix : (f : Formula) → IsPast f → Same Within (Holds (Finite (t ++ later)) f) (Holds (Finite t) f)
  prefix (Const b) w = Same-self _
  prefix (Letter p) w = record {
    to = λ i at c. subst (λ x. Contains x (name_of p)) (get_or-append t later [] i at) c;
    back = λ i at c. subst (λ x. Contains x (name_of p)) (sym (get_or-append t later [] i at)) c;
  }
  prefix (Unary op a) w =
      over_same (IsPosition (Finite (t ++ later))) (IsPosition (Finite t)) (Holds (Finite (t ++ later)) a) (Holds (Finite t) a) (shape op) w.0 (prefix a w.1)
  prefix (Binary And a b) w = Same-and _ _ _ _ (prefix a w.1) (prefix b w.2)
  prefix (Binary Or a b) w = Same-or _ _ _ _ (prefix a w.1) (prefix b w.2)
  prefix (Binary Implies a b) w = Same-implies _ _ _ _ (prefix a w.1) (prefix b w.2)
  prefix (Binary Iff a b) w = Same-iff _ _ _ _ (prefix a w.1) (prefix b w.2)
  prefix (Binary Since a b) w = Same-since range _ _ _ _ (prefix a w.1) (prefix b w.2)
  prefix (Binary Trigger a b) w = Same-triggered range _ _ _ _ (prefix a w.1) (prefix b w.2)
  prefix (Binary op a b) w = absurd w.0
