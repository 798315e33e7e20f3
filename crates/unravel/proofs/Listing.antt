-- Numbers of clauses, and the parts that pairs have.
use Rattle.std.proofs.Common.{◌≡◌, ℕ, ◌+◌, ◌-◌, ◌<◌, ◌≤◌, arith, ap, sym, subst, ◌∙◌, List, length, length-append, map}
use Rattle.std.specs.Prelude.{◌^◌}
use Rattle.std.proofs.lemmas.List.{length-map}
use Rattle.ltl_syntax.specs.declared.node.Kind.{Kind}
use Rattle.ltl_syntax.specs.Formula.{Formula}
use Rattle.ltl_closure.specs.Closure.{closure, nexts, yesterdays, argument}
use Rattle.ltl_closure.specs.Entries.{place_in, numbers_of, ClosureValue}
use Rattle.enc_layout.specs.Clauses.{Clause, literal_in, counts, carried}
use Rattle.clause_index.specs.declared.numbers.Numbers.{Numbers}
use Rattle.clause_index.specs.declared.numbers.PairPart.{PairPart}
use Rattle.clause_index.specs.PairParts.{IsPart}
use Rattle.clause_index.specs.Indexed.{IndexedValue}
use Rattle.clause_index.specs.Numbers.{AreNumbersOf}
use Rattle.unravel.specs.Putting.{up_to, listed_of, IsNumberIn, AreNumbersIn}

pub number_in : (x : IndexedValue) (numbers : Numbers) (index : ℕ) → AreNumbersIn x numbers → index < numbers.count → IsNumberIn x (numbers.first + index)
number_in x numbers index are lt = (omega (arith, are.from_one), omega (arith, are.within, lt))

pub numbers_in : (x : IndexedValue) (numbers : Numbers) (clauses : List Clause) → AreNumbersOf x numbers clauses → numbers.first + numbers.count < 2 ^ 60
    → AreNumbersIn x numbers
numbers_in x numbers clauses are small =
    let long = length-map clauses (map (literal_in x.kind (counts x.formula))) in
    record {
      from_one = are.stand.from_one;
      within = omega (arith, are.stand.within, are.count, long);
      small = small;
    }

-- some of them
pub some_in : (x : IndexedValue) (numbers some : Numbers) → AreNumbersIn x numbers
    → numbers.first ≤ some.first → some.first + some.count ≤ numbers.first + numbers.count → AreNumbersIn x some
some_in x numbers some are first last = record {
  from_one = omega (arith, are.from_one, first);
  within = omega (arith, are.within, last);
  small = omega (arith, are.small, last);
}

-- ---- the list of a closure

pub indexed_is : (x : IndexedValue) (c : ClosureValue) (depth : ℕ) → x.formula ≡ c.formula → x.kind ≡ c.kind → x.depth ≡ depth → x ≡ listed_of c depth
indexed_is x c depth formula kind last =
    ap (λ f. up_to f x.kind x.depth) formula ∙ (ap (λ k. up_to c.formula k x.depth) kind ∙ ap (λ n. up_to c.formula c.kind n) last)

-- a part that its kind has
pub part_of : (x : IndexedValue) (c : ClosureValue) (depth : ℕ) (kind : Kind) (part : PairPart) → x ≡ listed_of c depth
    → c.kind ≡ kind → IsPart c.formula kind part → IsPart x.formula x.kind part
part_of x c depth kind part is own h = subst (λ (y : IndexedValue). IsPart y.formula y.kind part) (sym is) (subst (λ k. IsPart c.formula k part) (sym own) h)

-- ---- a carry has the places of the next requests and those of the yesterday requests

module _ (f : Formula) (place : ℕ) (numbers : List ℕ) (are : numbers ≡ numbers_of f (nexts f)) where
  carry_long : length (carried f) ≡ length (nexts f) + length (yesterdays f)
  carry_long = length-append (nexts f) (map argument (yesterdays f)) ∙ omega (arith, length-map (yesterdays f) argument)

  nexts_long : length numbers ≡ length (nexts f)
  nexts_long = subst (λ (ns : List ℕ). length ns ≡ length (nexts f)) (sym are) (length-map (nexts f) (place_in (closure f)))

  pub near_place : place < length numbers → place < length (carried f)
  near_place lt = omega (arith, lt, carry_long, nexts_long)

  pub far_place : (others : List ℕ) → others ≡ numbers_of f (yesterdays f) → length numbers ≤ place → place - length numbers < length others
      → place < length (carried f)
  far_place others also le lt =
      let yesterdays_long : length others ≡ length (yesterdays f) =
      subst (λ (ns : List ℕ). length ns ≡ length (yesterdays f)) (sym also) (length-map (yesterdays f) (place_in (closure f))) in
      omega (arith, le, lt, carry_long, nexts_long, yesterdays_long)
