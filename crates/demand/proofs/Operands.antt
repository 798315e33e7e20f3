-- The numbers of the entries whose values make a row.
use Rattle.std.proofs.Common.{◌≡◌, ℕ, ◌+◌, ◌<◌, true, false, IsTrue, refl, sym, ap, ◌∙◌, List, [], ◌∷◌, ◌++◌, length, map, take, get_or, cond, Contains}
use Rattle.std.specs.Prelude.{filter}
use Rattle.std.proofs.lemmas.List.{append-nil, map-append}
use Rattle.std.proofs.lemmas.Simd.{map-map}
use Rattle.std.proofs.lemmas.List.Elements.{filter_more, Contains-get_or}
use Rattle.ltl_syntax.specs.Formula.{Formula, Name, Fresh}
use Rattle.ltl_closure.specs.Norm.{Norm, NConst, NLetter, NNext, NWeakNext, NYesterday, NWeakYesterday, NUntil}
use Rattle.ltl_closure.specs.Closure.{closure, nexts, yesterdays, eventualities, is_yesterday, is_eventuality, argument}
use Rattle.ltl_closure.specs.Entries.{place_in, numbers_of, entry_at, StandsFor, AreEntries}
use Rattle.ltl_closure.specs.Run.{request_of, right_of}
use Rattle.ltl_closure.specs.declared.entry.Entry.{Entry}
use Rattle.ltl_closure.proofs.Lists.{Contains-from_filter, map_agree}
use Rattle.ltl_closure.proofs.Known.{next_in}
use Rattle.enc_layout.specs.Clauses.{carried, is_strong_next}
use Rattle.enc_layout.proofs.Standing.{stands}
use Rattle.demand.specs.declared.entries.Operand.{Operand}
use Rattle.demand.specs.declared.entries.Operand.TheVariants as operands
use Rattle.demand.specs.Entries.{operand_of, operand_by, is_strong_by}

-- the operands by an entry that stands for a member
argument_stands : (names : List (List ℕ)) (f : Formula) (e : Norm) (t : ℕ) (x : Entry) → IsTrue (is_yesterday e) → StandsFor names f e x
    → operand_by operands.Argument t x ≡ place_in (closure f) (argument e)
argument_stands names f (NYesterday a) t x h is = ap (operand_by operands.Argument t) is
argument_stands names f (NWeakYesterday a) t x h is = ap (operand_by operands.Argument t) is
argument_stands names f e t x h is = cc

right_stands : (names : List (List ℕ)) (f : Formula) (e : Norm) (t : ℕ) (x : Entry) → IsTrue (is_eventuality e) → StandsFor names f e x
    → operand_by operands.Right t x ≡ place_in (closure f) (right_of e)
right_stands names f (NUntil a b) t x h is = ap (operand_by operands.Right t) is
right_stands names f e t x h is = cc

request_stands : (names : List (List ℕ)) (f : Formula) (e : Norm) (t : ℕ) (x : Entry) → IsTrue (is_eventuality e) → StandsFor names f e x
    → operand_by operands.Request t x ≡ place_in (closure f) (request_of e)
request_stands names f (NUntil a b) t x h is = ap (operand_by operands.Request t) is
request_stands names f e t x h is = cc

strong_stands : (names : List (List ℕ)) (f : Formula) (e : Norm) (x : Entry) → StandsFor names f e x → is_strong_by x ≡ is_strong_next e
strong_stands names f (NConst true) x is = ap is_strong_by is
strong_stands names f (NConst false) x is = ap is_strong_by is
strong_stands names f (NLetter (Name bytes)) x is = ap is_strong_by is.1
strong_stands names f (NLetter (Fresh n)) x is = ap is_strong_by is
strong_stands names f (NNext a) x is = ap is_strong_by is
strong_stands names f (NWeakNext a) x is = ap is_strong_by is
strong_stands names f e x is = ap is_strong_by is

module _ (names : List (List ℕ)) (f : Formula) (entries : List Entry) (are : AreEntries names f entries) where
  -- those of all of some members
  operands_are : (o : Operand) (es : List Norm)
      → ((e : Norm) → Contains es e → operand_by o (place_in (closure f) e) (entry_at entries (place_in (closure f) e)) ≡ place_in (closure f) (operand_of o e))
      → map (λ t. operand_by o t (entry_at entries t)) (numbers_of f es) ≡ numbers_of f (map (operand_of o) es)
  operands_are o es each =
      map-map (λ t. operand_by o t (entry_at entries t)) (place_in (closure f)) es
      ∙ (map_agree (λ e. operand_by o (place_in (closure f) e) (entry_at entries (place_in (closure f) e))) (λ e. place_in (closure f) (operand_of o e)) es each
      ∙ sym (map-map (place_in (closure f)) (operand_of o) es))

  pub carry_numbers :
      numbers_of f (nexts f) ++ map (λ t. operand_by operands.Argument t (entry_at entries t)) (numbers_of f (yesterdays f)) ≡ numbers_of f (carried f)
  carry_numbers =
      ap (λ z. numbers_of f (nexts f) ++ z) (operands_are operands.Argument (yesterdays f) (λ e m.
      let w = Contains-from_filter is_yesterday (closure f) e m in
      argument_stands names f e (place_in (closure f) e) (entry_at entries (place_in (closure f) e)) w.1 (stands names f entries are e w.0)))
      ∙ sym (map-append (place_in (closure f)) (nexts f) (map argument (yesterdays f)))

  pub pending_numbers :
      map (λ t. operand_by operands.Request t (entry_at entries t)) (numbers_of f (eventualities f)) ≡ numbers_of f (map request_of (eventualities f))
  pending_numbers = operands_are operands.Request (eventualities f) (λ e m.
      let w = Contains-from_filter is_eventuality (closure f) e m in
      request_stands names f e (place_in (closure f) e) (entry_at entries (place_in (closure f) e)) w.1 (stands names f entries are e w.0))

  pub fulfilled_numbers :
      map (λ t. operand_by operands.Right t (entry_at entries t)) (numbers_of f (eventualities f)) ≡ numbers_of f (map right_of (eventualities f))
  fulfilled_numbers = operands_are operands.Right (eventualities f) (λ e m.
      let w = Contains-from_filter is_eventuality (closure f) e m in
      right_stands names f e (place_in (closure f) e) (entry_at entries (place_in (closure f) e)) w.1 (stands names f entries are e w.0))

  -- the strong ones among the first next requests
  abbrev pub first_strong : ℕ → List ℕ
  first_strong i = numbers_of f (filter is_strong_next (take i (nexts f)))

  module _ (i : ℕ) (lt : i < length (nexts f)) (t : ℕ) (is : t ≡ place_in (closure f) (get_or (nexts f) i (NConst false))) where
    abbrev member : Norm
    member = get_or (nexts f) i (NConst false)

    is_one : is_strong_by (entry_at entries t) ≡ is_strong_next member
    is_one = ap (λ n. is_strong_by (entry_at entries n)) is
        ∙ strong_stands names f member (entry_at entries (place_in (closure f) member))
        (stands names f entries are member (next_in f member (Contains-get_or (nexts f) i (NConst false) lt)))

    next : first_strong (i + 1) ≡ first_strong i ++ numbers_of f (cond (is_strong_next member) (member ∷ []) [])
    next =
        ap (numbers_of f) (filter_more is_strong_next (nexts f) i (NConst false) lt)
        ∙ map-append (place_in (closure f)) (filter is_strong_next (take i (nexts f))) (cond (is_strong_next member) (member ∷ []) [])

    pub strong_without : is_strong_by (entry_at entries t) ≡ false → first_strong i ≡ first_strong (i + 1)
    strong_without e = sym (next ∙ ap (λ b. first_strong i ++ numbers_of f (cond b (member ∷ []) [])) (sym is_one ∙ e) ∙ append-nil (first_strong i))

    pub strong_with : is_strong_by (entry_at entries t) ≡ true → first_strong i ++ t ∷ [] ≡ first_strong (i + 1)
    strong_with e =
        sym (next ∙ ap (λ b. first_strong i ++ numbers_of f (cond b (member ∷ []) [])) (sym is_one ∙ e) ∙ ap (λ n. first_strong i ++ n ∷ []) (sym is))
