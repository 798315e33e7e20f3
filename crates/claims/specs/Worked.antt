-- Certificates that were worked by hand, and some that are spoiled.
use Rattle.std.specs.Prelude.{◌≡◌, ℕ, true, false, List, [], ◌∷◌, length, Some, None}
use Rattle.ltl_syntax.specs.declared.node.Kind.{Kind}
use Rattle.ltl_syntax.specs.declared.node.Kind.TheVariants as Kinds
use Rattle.ltl_syntax.specs.Formula.{Formula, Name, Letter, Unary, Binary}
use Rattle.ltl_syntax.specs.declared.node.UnaryOp.TheVariants.{Not, Next, Eventually, Always, Yesterday}
use Rattle.ltl_syntax.specs.declared.node.BinaryOp.TheVariants.{And}
use Rattle.cnf_base.specs.declared.literal.Literal.{Literal}
use Rattle.cnf_base.specs.declared.literal.Hint.{Hint}
use Rattle.cnf_base.specs.declared.literal.Hint.TheVariants.{Clause, Line}
use Rattle.claims.specs.Between.{greatest, step_list}
use Rattle.claims.specs.Certificate.{HintedLine, Layer, Certificate}
use Rattle.claims.specs.Lawful.{IsLawful}

-- the literal of a letter, and that of its negation
abbrev pub p : ℕ → Literal
p n = record { letter = record { 0 = n }; negated = false }

abbrev pub m : ℕ → Literal
m n = record { letter = record { 0 = n }; negated = true }

abbrev pub line : List Literal → List Hint → HintedLine
line literals hints = record { literals = literals; hints = hints }

abbrev pub letter_p : Formula
letter_p = Letter (Name (112 ∷ []))

-- `G F p & G !p`. Entries: 1 `false`, 2 `true`, 3 `p`, 4 `F p`, 5 `X F p`, 6 `G F p`, 7 `wX G F p`, 8 `!p`, 9 `G !p`, 10 `wX G !p`, 11 the whole.
-- Letters: 12 to 22 the same at the next state, 23 there is one, 24 a first state, 25 a last one. The list has 46 clauses
abbrev pub again_and_never : Formula
again_and_never = Binary And (Unary Always (Unary Eventually letter_p)) (Unary Always (Unary Not letter_p))

-- `X F p` and `wX G !p` are never both due: 47 says it of the next state, 48 of the state
abbrev pub never_both : Layer
never_both = record {
  eventuality = Some 0;
  claims = (m 5 ∷ m 10 ∷ []) ∷ [];
  base_lines =
      line (m 10 ∷ m 23 ∷ p 16 ∷ m 5 ∷ []) (Clause 39 ∷ Clause 25 ∷ Clause 31 ∷ Clause 32 ∷ Clause 43 ∷ [])
      ∷ line (m 10 ∷ m 23 ∷ m 14 ∷ []) (Clause 31 ∷ Clause 32 ∷ Clause 43 ∷ [])
      ∷ [];
  base_targets = 1 ∷ 2 ∷ [];
  step_lines =
      line (m 20 ∷ m 15 ∷ []) (Clause 20 ∷ Clause 32 ∷ Clause 33 ∷ Clause 31 ∷ Clause 47 ∷ Clause 25 ∷ [])
      ∷ line (m 10 ∷ m 23 ∷ m 5 ∷ []) (Clause 39 ∷ Line 3 ∷ Clause 43 ∷ [])
      ∷ [];
  step_targets = 4 ∷ [];
}

abbrev pub closing : List HintedLine
closing =
    line (m 11 ∷ []) (Clause 1 ∷ Clause 17 ∷ Clause 18 ∷ Clause 7 ∷ Clause 13 ∷ Clause 14 ∷ Clause 12 ∷ Clause 48 ∷ Clause 6 ∷ [])
    ∷ line (m 24 ∷ []) (Clause 45 ∷ Line 5 ∷ [])
    ∷ []

abbrev pub of_layer : Layer → Certificate
of_layer layer = record { kind = Kinds.Infinite; layers = layer ∷ []; lines = closing; target = 6 }

abbrev pub never_certificate : Certificate
never_certificate = of_layer never_both

-- the claim without one of its literals
abbrev pub too_strong : Certificate
too_strong = of_layer (record never_both { claims = (m 5 ∷ []) ∷ [] })

-- without an eventuality the base says that the claim holds everywhere
abbrev pub without_eventuality : Certificate
without_eventuality = of_layer (record never_both { eventuality = None })

-- `G F (p & Y q) & F G !q`, in two layers. Entries: 1 `false`, 2 `true`, 3 `p`, 4 `q`, 5 `Y q`, 6 `p & Y q`, 7 `F (p & Y q)`, 8 its request, 9 `G F (p & Y q)`,
-- 10 its request, 11 `!q`, 12 `G !q`, 13 its request, 14 `F G !q`, 15 its request, 16 the whole. Letters: 17 to 32 the same at the next state,
-- 33 there is one, 34 a first state, 35 a last one. The list has 66 clauses
abbrev pub letter_q : Formula
letter_q = Letter (Name (113 ∷ []))

abbrev pub after_q : Formula
after_q = Binary And (Unary Always (Unary Eventually (Binary And letter_p (Unary Yesterday letter_q)))) (Unary Eventually (Unary Always (Unary Not letter_q)))

-- where `G !q` is due and `q` is not there, `F (p & Y q)` is not due; 67 and 68 say it of the next state, 69 and 70 of the state
abbrev pub not_due : Layer
not_due = record {
  eventuality = Some 0;
  claims = (p 4 ∷ m 8 ∷ m 13 ∷ []) ∷ (p 4 ∷ m 10 ∷ m 13 ∷ []) ∷ [];
  base_lines =
      line (m 8 ∷ m 33 ∷ p 24 ∷ p 4 ∷ []) (Clause 61 ∷ Clause 30 ∷ Clause 35 ∷ Clause 53 ∷ [])
      ∷ line (p 4 ∷ m 33 ∷ m 22 ∷ []) (Clause 30 ∷ Clause 61 ∷ [])
      ∷ line (m 10 ∷ m 33 ∷ p 24 ∷ p 4 ∷ []) (Clause 61 ∷ Clause 30 ∷ Clause 35 ∷ Clause 36 ∷ Clause 55 ∷ [])
      ∷ line (p 4 ∷ m 33 ∷ m 22 ∷ []) (Clause 30 ∷ Clause 61 ∷ [])
      ∷ [];
  base_targets = 1 ∷ 2 ∷ 3 ∷ 4 ∷ [];
  step_lines =
      line (m 28 ∷ m 24 ∷ []) (Clause 27 ∷ Clause 42 ∷ Clause 43 ∷ Clause 41 ∷ Clause 67 ∷ [])
      ∷ line (m 13 ∷ m 33 ∷ p 4 ∷ m 8 ∷ []) (Clause 61 ∷ Clause 30 ∷ Clause 53 ∷ Clause 35 ∷ Line 5 ∷ Clause 57 ∷ [])
      ∷ line (m 13 ∷ m 33 ∷ p 4 ∷ m 10 ∷ []) (Clause 61 ∷ Clause 30 ∷ Clause 55 ∷ Clause 36 ∷ Clause 35 ∷ Line 5 ∷ Clause 57 ∷ [])
      ∷ [];
  step_targets = 6 ∷ 7 ∷ [];
}

-- `G F (p & Y q)` and `F G !q` are never both due; 71 says it of the next state, 72 of the state
abbrev pub not_both : Layer
not_both = record {
  eventuality = Some 1;
  claims = (m 10 ∷ m 15 ∷ []) ∷ [];
  base_lines =
      line (m 28 ∷ m 26 ∷ []) (Clause 27 ∷ Clause 42 ∷ Clause 43 ∷ Clause 41 ∷ Clause 68 ∷ [])
      ∷ line (m 15 ∷ m 33 ∷ p 31 ∷ m 10 ∷ []) (Clause 27 ∷ Clause 55 ∷ Clause 37 ∷ Line 8 ∷ Clause 49 ∷ Clause 59 ∷ [])
      ∷ line (m 10 ∷ m 33 ∷ m 28 ∷ []) (Clause 27 ∷ Line 8 ∷ Clause 37 ∷ Clause 55 ∷ [])
      ∷ [];
  base_targets = 9 ∷ 10 ∷ [];
  step_lines = line (m 15 ∷ m 33 ∷ m 10 ∷ []) (Clause 27 ∷ Clause 55 ∷ Clause 37 ∷ Line 8 ∷ Clause 71 ∷ Clause 49 ∷ Clause 59 ∷ []) ∷ [];
  step_targets = 11 ∷ [];
}

abbrev pub in_layers : List Layer → Certificate
in_layers layers = record {
  kind = Kinds.Infinite;
  layers = layers;
  lines =
      line (m 16 ∷ []) (Clause 1 ∷ Clause 24 ∷ Clause 25 ∷ Clause 11 ∷ Clause 72 ∷ Clause 23 ∷ Clause 16 ∷ Clause 17 ∷ Clause 15 ∷ Clause 70 ∷ [])
      ∷ line (m 34 ∷ []) (Clause 63 ∷ Line 12 ∷ [])
      ∷ [];
  target = 13;
}

abbrev pub layers_certificate : Certificate
layers_certificate = in_layers (not_due ∷ not_both ∷ [])

-- the layers in the other order
abbrev pub layers_exchanged : Certificate
layers_exchanged = in_layers (not_both ∷ not_due ∷ [])

-- `G X p`. Entries: 1 `false`, 2 `p`, 3 `X p`, 4 `G X p`, 5 `wX G X p`. Letters: 6 to 10 the same at the next state, 11 there is one, 12 a first
-- state, 13 a last one. The list has 16 clauses
abbrev pub next_for_ever : Formula
next_for_ever = Unary Always (Unary Next letter_p)

-- `G X p` never holds: not at a last state, and not before a state where it does not
abbrev pub ending_certificate : Certificate
ending_certificate = record {
  kind = Kinds.Finite;
  layers = record {
    eventuality = None;
    claims = (m 4 ∷ []) ∷ [];
    base_lines = line (m 4 ∷ m 13 ∷ []) (Clause 2 ∷ Clause 16 ∷ []) ∷ [];
    base_targets = 1 ∷ [];
    step_lines = line (m 4 ∷ m 11 ∷ []) (Clause 1 ∷ Clause 3 ∷ Clause 13 ∷ Clause 17 ∷ []) ∷ [];
    step_targets = 2 ∷ [];
  } ∷ [];
  lines = line (m 12 ∷ []) (Clause 15 ∷ Clause 18 ∷ []) ∷ [];
  target = 3;
}

-- `X p`, which some finite traces satisfy. Entries: 1 `p`, 2 `X p`. Letters: 3 and 4 the same at the next state, 5 there is one, 6 a first state, 7 a
-- last one. The list has 4 clauses
abbrev pub next_once : Formula
next_once = Unary Next letter_p

-- `X p` never holds: not at a last state, and then not where it doesn't hold. 5 says it of the next state, and 6 of the state, which the step may not name
abbrev pub in_a_circle : Certificate
in_a_circle = record {
  kind = Kinds.Finite;
  layers = record {
    eventuality = None;
    claims = (m 2 ∷ []) ∷ [];
    base_lines = line (m 2 ∷ m 7 ∷ []) (Clause 4 ∷ []) ∷ [];
    base_targets = 1 ∷ [];
    step_lines = line (m 2 ∷ []) (Clause 6 ∷ []) ∷ [];
    step_targets = 2 ∷ [];
  } ∷ [];
  lines = line (m 6 ∷ []) (Clause 3 ∷ Clause 6 ∷ []) ∷ [];
  target = 3;
}

-- `Y p`, which no first state has: no layer is needed
abbrev pub before_all : Formula
before_all = Unary Yesterday letter_p

abbrev pub first_certificate : Kind → Certificate
first_certificate kind = record { kind = kind; layers = []; lines = line (m 6 ∷ []) (Clause 3 ∷ Clause 4 ∷ []) ∷ []; target = 1 }

-- which are lawful, which are not, and of what length the lists of a step are
pub record WorkedCertificates : Type 0 where
  pub never_list : length (step_list again_and_never) ≡ 46
  pub never_letters : greatest again_and_never ≡ 25
  pub never : IsLawful again_and_never Kinds.Infinite never_certificate
  pub other_kind : ¬ IsLawful again_and_never Kinds.Finite never_certificate
  pub strong : ¬ IsLawful again_and_never Kinds.Infinite too_strong
  pub no_eventuality : ¬ IsLawful again_and_never Kinds.Infinite without_eventuality
  pub two_lists : length (step_list after_q) ≡ 66
  pub two_layers : IsLawful after_q Kinds.Infinite layers_certificate
  pub exchanged : ¬ IsLawful after_q Kinds.Infinite layers_exchanged
  pub ending_list : step_list next_for_ever ≡
      (m 1 ∷ []) ∷ (m 4 ∷ p 3 ∷ []) ∷ (m 4 ∷ p 1 ∷ p 5 ∷ []) ∷ (p 4 ∷ m 3 ∷ m 1 ∷ []) ∷ (p 4 ∷ m 3 ∷ m 5 ∷ [])
      ∷ (m 6 ∷ []) ∷ (m 9 ∷ p 8 ∷ []) ∷ (m 9 ∷ p 6 ∷ p 10 ∷ []) ∷ (p 9 ∷ m 8 ∷ m 6 ∷ []) ∷ (p 9 ∷ m 8 ∷ m 10 ∷ [])
      ∷ (m 11 ∷ m 3 ∷ p 7 ∷ []) ∷ (m 11 ∷ p 3 ∷ m 7 ∷ []) ∷ (m 11 ∷ m 5 ∷ p 9 ∷ []) ∷ (m 11 ∷ p 5 ∷ m 9 ∷ [])
      ∷ (m 12 ∷ p 4 ∷ []) ∷ (m 13 ∷ m 3 ∷ []) ∷ []
  pub ending : IsLawful next_for_ever Kinds.Finite ending_certificate
  pub once_list : length (step_list next_once) ≡ 4
  pub circle : ¬ IsLawful next_once Kinds.Finite in_a_circle
  pub past_list : step_list before_all ≡ (m 5 ∷ m 4 ∷ p 1 ∷ []) ∷ (m 5 ∷ p 4 ∷ m 1 ∷ []) ∷ (m 6 ∷ p 2 ∷ []) ∷ (m 6 ∷ m 2 ∷ []) ∷ []
  pub past : (kind : Kind) → IsLawful before_all kind (first_certificate kind)
