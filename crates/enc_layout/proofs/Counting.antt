-- The counts of a closure, as lengths of the lists that it gives.
use Rattle.std.proofs.Common.{◌≡◌, ℕ, ◌+◌, ◌≤◌, not, Bool, refl, arith, List, length, map, length-append}
use Rattle.std.specs.Prelude.{filter}
use Rattle.std.proofs.lemmas.List.{length-map}
use Rattle.std.proofs.lemmas.List.Filters.{length-filter_both}
use Rattle.ltl_syntax.specs.declared.node.Kind.{Kind}
use Rattle.ltl_syntax.specs.Formula.{Formula}
use Rattle.ltl_closure.specs.Norm.{Norm}
use Rattle.ltl_closure.specs.Closure.{closure as closure_of, nexts, yesterdays, eventualities, argument, is_next, is_yesterday, is_eventuality}
use Rattle.ltl_closure.specs.Entries.{place_in, numbers_of, ClosureValue}
use Rattle.enc_layout.specs.Letters.{LayoutValue, AreFew}
use Rattle.enc_layout.specs.Clauses.{carried, counts, layout_of}

filter_less : (p : Norm → Bool) (xs : List Norm) → length (filter p xs) ≤ length xs
filter_less p xs = let e = length-filter_both p (λ x. not (p x)) (λ x. refl) xs in omega arith

pub length-numbers_of : (f : Formula) (es : List Norm) → length (numbers_of f es) ≡ length es
length-numbers_of f es = length-map es (place_in (closure_of f))

pub length-carried : (f : Formula) → length (carried f) ≡ length (nexts f) + length (yesterdays f)
length-carried f =
    let a = length-append (nexts f) (map argument (yesterdays f)) in
    let b = length-map (yesterdays f) argument in
    omega arith

pub nexts_few : (f : Formula) → length (nexts f) ≤ length (closure_of f)
nexts_few f = filter_less is_next (closure_of f)

pub yesterdays_few : (f : Formula) → length (yesterdays f) ≤ length (closure_of f)
yesterdays_few f = filter_less is_yesterday (closure_of f)

pub eventualities_few : (f : Formula) → length (eventualities f) ≤ length (closure_of f)
eventualities_few f = filter_less is_eventuality (closure_of f)

-- the counts of a closure are as few as its entries let them be
pub counts_few : (f : Formula) → length (closure_of f) ≤ 98306 → AreFew (counts f)
counts_few f few =
    let n = nexts_few f in
    let m = yesterdays_few f in
    let o = eventualities_few f in
    let all = length-carried f in
    record { few_entries = few; few_places = omega arith; few_eventualities = omega arith }

pub counted : (closure : ClosureValue) (kind : Kind) (w c e : ℕ) → kind ≡ closure.kind
    → w ≡ length (closure_of closure.formula) → c ≡ length (carried closure.formula) → e ≡ length (eventualities closure.formula)
    → ◌≡◌ {A = LayoutValue} (record { kind = kind; counts = record { entries = w; places = c; eventualities = e } }) (layout_of closure)
counted closure kind w c e g h k l = cc
