-- The literals of a line are made false, one by one.
use Rattle.std.proofs.Common.{◌≡◌, ◌↔◌, ℕ, zero, suc, ◌<◌, inl, inr, true, false, List, ◌∷◌, ◌++◌, length, set, All, Contains, refl, sym, ap, ◌∙◌, subst, []}
use Rattle.std.proofs.Common.{arith, append_assoc}
use Rattle.std.proofs.lemmas.List.{append-nil}
use Rattle.std.proofs.lemmas.List.Elements.{All-push, Contains-append_left, Contains-append_right, Contains-push, Contains-push_cases}
use Rattle.cnf_base.specs.declared.literal.Literal.{Literal}
use Rattle.cnf_base.specs.Literal.{opposite}
use Rattle.cnf_base.specs.Known.{IsKnown}
use Rattle.log_checker.specs.Values.{value_of, false_of, falses_in}
use Rattle.log_checker.specs.Judging.{IsAssumed}
use Rattle.log_checker.specs.declared.assignment.Truth.{Truth}
use Rattle.log_checker.specs.declared.assignment.Truth.TheVariants.{Unset, True, False}
use Rattle.log_checker.proofs.Falses.{false_from, true_is, unset_letter, not_both, falses_more}
use Rattle.log_checker.proofs.Named.{first_there}

-- the literals up to here are false, and nothing else is
pub record IsAssuming (greatest : ℕ) (whole rest : List Literal) (values : List Truth) : Type 0 where
  pub done : List Literal
  pub cut : whole ≡ done ++ rest
  pub known : All (IsKnown greatest) done
  pub same : (l : Literal) → Contains (falses_in values) l ↔ Contains done l

moved : (whole done old : List Literal) (l : Literal) (new : List Literal) → whole ≡ done ++ old → old ≡ l ∷ new → whole ≡ (done ++ l ∷ []) ++ new
moved whole done old l new cut e = cut ∙ ap (λ xs. done ++ xs) e ∙ sym (append_assoc done (l ∷ []) new)

-- the literal is false already
pub assumes_again : (greatest : ℕ) (whole old : List Literal) (l : Literal) (new : List Literal) (values : List Truth) → IsAssuming greatest whole old values
    → old ≡ l ∷ new → IsKnown greatest l
    → value_of values l ≡ False → IsAssuming greatest whole new values
assumes_again greatest whole old l new values is e known false' = record {
  done = is.done ++ l ∷ [];
  cut = moved whole is.done old l new is.cut e;
  known = All-push (IsKnown greatest) is.done l is.known known;
  same = λ k. (
    λ c. Contains-append_left is.done (l ∷ []) k ((is.same k).0 c),
    λ c. elim (Contains-push_cases is.done l k c)
        [ inl before ↦ (is.same k).1 before | inr at ↦ subst (λ x. Contains (falses_in values) x) at (false_from values l false') ],
  );
}

-- the literal becomes false
pub assumes_more : (greatest : ℕ) (whole old : List Literal) (l : Literal) (new : List Literal) (values : List Truth) → IsAssuming greatest whole old values
    → old ≡ l ∷ new → IsKnown greatest l
    → l.letter.0 < length values → value_of values l ≡ Unset → IsAssuming greatest whole new (set values l.letter.0 (false_of l.negated))
assumes_more greatest whole old l new values is e known low unset = record {
  done = is.done ++ l ∷ [];
  cut = moved whole is.done old l new is.cut e;
  known = All-push (IsKnown greatest) is.done l is.known known;
  same = λ k. let law = falses_more values l k low (unset_letter values l unset) in (
    λ c. cases_cons k (law.0 c),
    λ c. law.1 (elim (Contains-push_cases is.done l k c) [
      | inl before ↦ Contains-append_right (l ∷ []) (falses_in values) k ((is.same k).1 before)
      | inr at ↦ subst (λ x. Contains (l ∷ falses_in values) x) at (0, omega arith, refl)
    ]),
  );
}
  where
    cases_cons : (k : Literal) → Contains (l ∷ falses_in values) k → Contains (is.done ++ l ∷ []) k
    cases_cons k (zero, low', at) = subst (λ x. Contains (is.done ++ l ∷ []) x) at (Contains-push is.done l)
    cases_cons k (suc i, low', at) = Contains-append_left is.done (l ∷ []) k ((is.same k).0 (i, omega (arith, low'), at))

pub assumes_pair : (greatest : ℕ) (whole old : List Literal) (l : Literal) (new : List Literal) (values next : List Truth)
    → IsAssuming greatest whole old values → old ≡ l ∷ new → value_of values l ≡ True
    → IsAssumed greatest whole (falses_in next) false
assumes_pair greatest whole old l new values next is e true' = λ both.
    both.1 l (first_there whole is.done old l new is.cut e)
    (subst (λ xs. Contains xs (opposite l)) (sym is.cut) (Contains-append_left is.done old (opposite l) ((is.same (opposite l)).0 (true_is values l true'))))

pub assumes_all : (greatest : ℕ) (whole rest : List Literal) (values : List Truth) → IsAssuming greatest whole rest values
    → rest ≡ [] → IsAssumed greatest whole (falses_in values) true
assumes_all greatest whole rest values is e =
    let same : whole ≡ is.done = is.cut ∙ ap (λ xs. is.done ++ xs) e ∙ append-nil is.done in
    subst (λ xs. IsAssumed greatest xs (falses_in values) true) (sym same)
    (is.known, (λ l one two. not_both values l ((is.same l).1 one) ((is.same (opposite l)).1 two)), is.same)
