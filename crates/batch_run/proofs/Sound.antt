-- What a verdict on a line says of the traces that satisfy its formula.
use Rattle.std.proofs.Common.{◌≡◌, ◌⊎◌, inl, inr, ℕ, zero, suc, ◌<◌, ◌≤◌, List, [], ◌∷◌, refl, subst, arith}
use Rattle.ltl_syntax.specs.declared.node.Kind.{Kind}
use Rattle.ltl_syntax.specs.Formula.{Name, Fresh, Formula, Const, Letter, Unary, Binary}
use Rattle.ltl_syntax.specs.Table.{IsPlain}
use Rattle.ltl_lexer.specs.Tokens.{IsWord}
use Rattle.ltl_parser.specs.Text.{ReadsText, IsPrintable}
use Rattle.ltl_closure.specs.Run.{IsVerdict, Undecided, undecided, bound}
use Rattle.ltl_run.specs.Plain.{IsPlainLetter, HasPlainNames}
use Rattle.ltl_run.specs.Laws.{SatIsSound, UnsatIsSound, BoundSettles}
use Rattle.batch_run.specs.Laws.{SatHasTrace, UnsatHasNone, UndecidedIsBelow}

-- a word does not begin with a brace
abbrev NoBrace : Type 0
NoBrace = (rest : List ℕ) → IsWord (123 ∷ rest) → ⊥

plain_word : NoBrace → (name : List ℕ) → IsWord name → IsPlain name
plain_word none [] word = tt
plain_word none (b ∷ rest) word = λ e. none rest (subst (λ x. IsWord (x ∷ rest)) e word)

-- the letters of what texts read as are names
plain_names : NoBrace → (f : Formula) → IsPrintable f → HasPlainNames f
plain_names none (Const b) is p has = absurd has
plain_names none (Letter (Name name)) is p has = subst IsPlainLetter has (plain_word none name is.0)
plain_names none (Letter (Fresh n)) is p has = absurd is
plain_names none (Unary op a) is p has = plain_names none a is.1 p has
plain_names none (Binary op a b) is p has = elim has [
  | inl h ↦ plain_names none a is.0 p h
  | inr h ↦ plain_names none b is.1 p h
]

pub sat_has_trace : NoBrace → ((text : List ℕ) (f : Formula) → ReadsText text f → IsPrintable f) → SatIsSound → SatHasTrace
sat_has_trace none printable sound kind asked line k (f, read, h) =
    (f, read, sound f kind h.limit k (plain_names none f (printable line f read.reads)) h.decided)

pub unsat_has_none : UnsatIsSound → UnsatHasNone
unsat_has_none sound kind asked line k (f, read, h) = (f, read, λ (t, is, of, satisfies). sound f kind h.limit k t h.decided is of satisfies)

below_or_not : (m n : ℕ) → (m < n) ⊎ (n ≤ m)
below_or_not m zero = inr (omega arith)
below_or_not zero (suc n) = inl (omega arith)
below_or_not (suc m) (suc n) = elim (below_or_not m n) [
  | inl h ↦ inl (omega (arith, h))
  | inr h ↦ inr (omega (arith, h))
]

at_limit : (f : Formula) (kind : Kind) (limit d : ℕ) → IsVerdict f kind limit (Undecided d) → d ≡ limit
at_limit f kind limit d (undecided h) = refl

pub undecided_is_below : BoundSettles → UndecidedIsBelow
undecided_is_below settles kind asked line d (f, read, h) =
    let same = at_limit f kind h.limit d h.decided in (
      f,
      read,
      elim (below_or_not d (bound f kind)) [
        | inl low ↦ low
        | inr high ↦ absurd (settles f kind h.limit d (subst (λ n. bound f kind ≤ n) same high) h.decided)
      ],
    )
