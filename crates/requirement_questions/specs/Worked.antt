-- Small cases that were worked by hand.
use Rattle.std.specs.Prelude.{◌≡◌, ◌==◌, ℕ, true, false, [], ◌∷◌, Some, None}
use Rattle.ltl_syntax.specs.declared.node.UnaryOp.TheVariants.{Not, Always, Eventually}
use Rattle.ltl_syntax.specs.declared.node.BinaryOp.TheVariants.{And, Implies}
use Rattle.ltl_syntax.specs.Formula.{Formula, Name, Fresh, Const, Letter, Unary, Binary}
use Rattle.ltl_syntax.specs.Replacement.{rep}
use Rattle.requirement_questions.specs.declared.members.Member.{Member}
use Rattle.requirement_questions.specs.Formulas.{all_of, chosen}
use Rattle.requirement_questions.specs.Members.{without, marked}
use Rattle.requirement_questions.specs.Trigger.{trigger_of}

abbrev pub p : Formula
p = Letter (Name (112 ∷ []))

abbrev pub q : Formula
q = Letter (Name (113 ∷ []))

abbrev pub r : Formula
r = Letter (Name (114 ∷ []))

abbrev pub member : ℕ → Member
member n = record { given = n; needed = false }

pub record WorkedQuestions : Type 0 where
  -- `&` stands to the left, and nothing at all is `true`
  pub nothing : all_of [] ≡ Const true
  pub one : all_of (p ∷ []) ≡ p
  pub three : all_of (p ∷ q ∷ r ∷ []) ≡ Binary And (Binary And p q) r
  -- formulas are counted from 0
  pub chosen_two : chosen (p ∷ q ∷ r ∷ []) (0 ∷ 2 ∷ []) ≡ p ∷ r ∷ []
  -- the one in the middle is left out, and marked
  pub left_out : without 1 (member 0 ∷ member 3 ∷ member 4 ∷ []) ≡ member 0 ∷ member 4 ∷ []
  pub is_marked : marked 1 (member 0 ∷ member 3 ∷ []) ≡ member 0 ∷ record { given = 3; needed = true } ∷ []
  -- `G (p -> q)` has a trigger, `G p` and `p -> q` have none
  pub triggered : trigger_of (Unary Always (Binary Implies p q)) ≡ Some (Unary Eventually p)
  pub always_alone : trigger_of (Unary Always p) ≡ None
  pub implies_alone : trigger_of (Binary Implies p q) ≡ None
  -- `p & q` and `!p`: the core does without `q`, which stands at place 3 behind the joint, `p & q` and `p`
  pub replaced : rep (all_of (Binary And p q ∷ Unary Not p ∷ [])) (λ n. n == 3) ≡ all_of (Binary And p (Letter (Fresh 0)) ∷ Unary Not p ∷ [])
