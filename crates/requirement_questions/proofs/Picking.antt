-- The formulas of members, and the formula that says all of them and what is asked.
use Rattle.std.proofs.Common.{◌≡◌, ◌∙◌, ℕ, zero, suc, ◌<◌, List, [], ◌∷◌, ◌++◌, length, take, drop, get_or, slice_get, true, Option, Some, None, refl, sym, ap}
use Rattle.std.proofs.Common.{ap₂, subst, arith, append_assoc, length-append}
use Rattle.std.specs.List.{All}
use Rattle.std.proofs.lemmas.List.{take-append-drop, append-nil, get_or-map}
use Rattle.std.proofs.lemmas.List.Elements.{All-cons, All-head, All-tail}
use Rattle.ltl_syntax.specs.declared.node.UnaryOp.TheVariants.{Not}
use Rattle.ltl_syntax.specs.Formula.{Formula, Const, Unary}
use Rattle.ltl_syntax.specs.Size.{formula_size}
use Rattle.ltl_syntax.specs.Table.{Table}
use Rattle.requirement_questions.specs.declared.questions.Given.{Given}
use Rattle.requirement_questions.specs.declared.questions.Question.{Question}
use Rattle.requirement_questions.specs.declared.questions.Wanted.{Wanted}
use Rattle.requirement_questions.specs.declared.questions.Wanted.TheVariants as asked
use Rattle.requirement_questions.specs.declared.members.Member.{Member}
use Rattle.requirement_questions.specs.declared.joining.Joined.{Joined}
use Rattle.requirement_questions.specs.Formulas.{all_of, formula_in, chosen, given_formulas, asked_formulas}
use Rattle.requirement_questions.specs.Members.{places}
use Rattle.requirement_questions.specs.Answer.{given_at}
use Rattle.requirement_questions.specs.Joining.{joined_at, with_one, some_of, or_true, IsAdded, IsWhole, IsJoining}
use Rattle.requirement_questions.proofs.Conjunctions.{all_more, some_more, all_grows, all_or_true}

-- the formulas of members
abbrev pub picked : Question → List Member → List Formula
picked q members = chosen (given_formulas q) (places members)

picked_more : (q : Question) (ms : List Member) (k : ℕ) (m : Member) → slice_get ms k ≡ Some m
    → picked q (take (suc k) ms) ≡ picked q (take k ms) ++ given_at q m.given ∷ []
picked_more q [] k m e = absurd (cc)
picked_more q (x ∷ ms) zero m e = let is : x ≡ m = cc in ap (λ y. given_at q y.given ∷ []) is
picked_more q (x ∷ ms) (suc k) m e = ap (λ fs. given_at q x.given ∷ fs) (picked_more q ms k m e)

pub picked_append : (q : Question) (xs ys : List Member) → picked q (xs ++ ys) ≡ picked q xs ++ picked q ys
picked_append q [] ys = refl
picked_append q (x ∷ xs) ys = ap (λ fs. given_at q x.given ∷ fs) (picked_append q xs ys)

picked_split : (q : Question) (ms : List Member) (n : ℕ) → picked q ms ≡ picked q (take n ms) ++ picked q (drop n ms)
picked_split q ms n = ap (picked q) (sym (take-append-drop n ms)) ∙ picked_append q (take n ms) (drop n ms)

pub picked_each : (P : Formula → Type 0) (q : Question) (ms : List Member) (k : ℕ) (m : Member) → All P (picked q ms) → slice_get ms k ≡ Some m
    → P (given_at q m.given)
picked_each P q [] k m all e = absurd (cc)
picked_each P q (x ∷ ms) zero m all e = let is : x ≡ m = cc in subst (λ y. P (given_at q y.given)) is (All-head P (given_at q x.given) (picked q ms) all)
picked_each P q (x ∷ ms) (suc k) m all e = picked_each P q ms k m (All-tail P (given_at q x.given) (picked q ms) all) e

pub left_all : (P : Formula → Type 0) (xs ys : List Formula) → All P (xs ++ ys) → All P xs
left_all P [] ys all = λ k d lt. absurd (omega arith)
left_all P (x ∷ xs) ys all = All-cons P x xs (All-head P x (xs ++ ys) all) (left_all P xs ys (All-tail P x (xs ++ ys) all))

pub right_all : (P : Formula → Type 0) (xs ys : List Formula) → All P (xs ++ ys) → All P ys
right_all P [] ys all = all
right_all P (x ∷ xs) ys all = right_all P xs ys (All-tail P x (xs ++ ys) all)

-- what stands at a place of the given ones
pub given_same : (q : Question) (n : ℕ) (g : Given) → n < length q.given.now → g ≡ get_or q.given.now n g → formula_in g ≡ given_at q n
given_same q n g lt e = ap formula_in e ∙ sym (get_or-map formula_in q.given.now n g (Const true) lt)

-- ---- the loop

module _ (q : Question) (ms : List Member) (k : ℕ) (m : Member) (is : slice_get ms k ≡ Some m) where
  pub one_joined : (t : Table) (number : ℕ) (before : Option Formula) (f : Formula) → before ≡ some_of (picked q (take k ms)) → f ≡ given_at q m.given
      → IsAdded before f t (Some number)
      → joined_at t (Some number) ≡ some_of (picked q (take (suc k) ms))
  one_joined t number before f was same added =
      ap Some (added.1 ∙ ap₂ with_one was same) ∙ (sym (some_more (picked q (take k ms)) (given_at q m.given)) ∙ ap some_of (sym (picked_more q ms k m is)))

  pub one_large : (before : Option Formula) (f : Formula) (asks : List Formula) → before ≡ some_of (picked q (take k ms)) → f ≡ given_at q m.given
      → 16384 < formula_size (with_one before f)
      → 16384 < formula_size (all_of (picked q ms ++ asks))
  one_large before f asks was same large =
      let front = picked q (take (suc k) ms) in
      let rest = picked q (drop (suc k) ms) in
      let here : formula_size (all_of front) ≡ formula_size (with_one before f) =
      ap formula_size (ap all_of (picked_more q ms k m is) ∙ (all_more (picked q (take k ms)) (given_at q m.given) ∙ ap₂ with_one (sym was) (sym same))) in
      let some : 0 < length front = omega (arith, ap length (picked_more q ms k m is), length-append (picked q (take k ms)) (given_at q m.given ∷ [])) in
      let whole : front ++ (rest ++ asks) ≡ picked q ms ++ asks =
      sym (append_assoc front rest asks) ∙ ap (λ fs. fs ++ asks) (sym (picked_split q ms (suc k))) in
      let grown = all_grows front (rest ++ asks) some in
      let e = ap (λ fs. formula_size (all_of fs)) whole in
      omega (arith, here, grown, e, large)

-- ---- what is asked

pub whole_joins : (a : Wanted) (fs : List Formula) (before : Option Formula) (j : Joined) → before ≡ some_of fs → IsWhole before a j.table (Some j.root)
    → IsJoining (fs ++ asked_formulas a) (Some j)
whole_joins asked.Nothing fs before j was h = (h.0, h.1 ∙ (ap or_true was ∙ (all_or_true fs ∙ ap all_of (sym (append-nil fs)))))
whole_joins (asked.Holds g) fs before j was h = (h.0.there.0, h.1 ∙ (ap (λ b. with_one b (formula_in g)) was ∙ sym (all_more fs (formula_in g))))
whole_joins (asked.Fails g) fs before j was h =
    (h.0.there.0, h.1 ∙ (ap (λ b. with_one b (Unary Not (formula_in g))) was ∙ sym (all_more fs (Unary Not (formula_in g)))))

pub whole_large : (a : Wanted) (fs : List Formula) (before : Option Formula) (t : Table) → before ≡ some_of fs → IsWhole before a t None
    → IsJoining (fs ++ asked_formulas a) None
whole_large asked.Nothing fs before t was h = absurd h
whole_large (asked.Holds g) fs before t was h =
    subst (λ f. 16384 < formula_size f) (ap (λ b. with_one b (formula_in g)) was ∙ sym (all_more fs (formula_in g))) h
whole_large (asked.Fails g) fs before t was h =
    subst (λ f. 16384 < formula_size f) (ap (λ b. with_one b (Unary Not (formula_in g))) was ∙ sym (all_more fs (Unary Not (formula_in g)))) h
