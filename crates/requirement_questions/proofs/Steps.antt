-- How large the formula of a question is, counted one by one.
use Rattle.std.proofs.Common.{◌≡◌, ◌∙◌, ℕ, ◌+◌, ◌*◌, ◌<◌, ◌≤◌, List, [], ◌∷◌, length, take, get_or, true, sym, ap, arith, length-append}
use Rattle.std.proofs.lemmas.List.{take_more, take_all, length-map}
use Rattle.ltl_syntax.specs.Formula.{Formula, Const, Letter, Unary, Binary}
use Rattle.ltl_syntax.specs.Size.{formula_size}
use Rattle.requirement_questions.specs.declared.questions.Given.{Given}
use Rattle.requirement_questions.specs.declared.questions.Question.{Question}
use Rattle.requirement_questions.specs.Formulas.{all_of, formula_in, given_formulas, all_formulas, asked_formulas}
use Rattle.requirement_questions.specs.Sizing.{steps_of}
use Rattle.requirement_questions.proofs.Conjunctions.{all_size, steps_append}
use Rattle.requirement_questions.proofs.Picking.{given_same}

some_size : (f : Formula) → 1 ≤ formula_size f
some_size (Const b) = omega arith
some_size (Letter p) = omega arith
some_size (Unary op a) = omega (arith, some_size a)
some_size (Binary op a b) = omega (arith, some_size a)

steps_long : (xs : List Formula) → 2 * length xs ≤ steps_of xs
steps_long [] = omega arith
steps_long (x ∷ xs) = omega (arith, steps_long xs, some_size x)

pub steps_more : (fs : List Formula) (k : ℕ) (d : Formula) → k < length fs
    → steps_of (take (k + 1) fs) ≡ steps_of (take k fs) + (formula_size (get_or fs k d) + 1)
steps_more fs k d lt =
    let e = ap steps_of (take_more fs k d lt) in
    let s = steps_append (take k fs) (get_or fs k d ∷ []) in omega arith

-- a given formula more
pub one_step : (q : Question) (k : ℕ) (g : Given) → k < length q.given.now → g ≡ get_or q.given.now k g
    → steps_of (take (k + 1) (given_formulas q)) ≡ steps_of (take k (given_formulas q)) + (formula_size (formula_in g) + 1)
one_step q k g lt e =
    let long = length-map q.given.now formula_in in
    steps_more (given_formulas q) k (Const true) (omega (arith, lt, long))
    ∙ ap (λ f. steps_of (take k (given_formulas q)) + (formula_size f + 1)) (sym (given_same q k g lt e))

pub all_steps : (q : Question) (n : ℕ)
    → length (given_formulas q) ≤ n → steps_of (take n (given_formulas q)) + steps_of (asked_formulas q.asked) ≡ steps_of (all_formulas q)
all_steps q n le = ap (λ fs. steps_of fs + steps_of (asked_formulas q.asked)) (take_all n (given_formulas q) le)
    ∙ sym (steps_append (given_formulas q) (asked_formulas q.asked))

something_size : (fs : List Formula) → 0 < steps_of fs → formula_size (all_of fs) + 1 ≡ steps_of fs
something_size [] lt = absurd (omega arith)
something_size (f ∷ fs) lt = all_size f fs

pub full_size : (q : Question) (steps size : ℕ) → steps ≡ steps_of (all_formulas q)
    → 0 < steps → size + 1 ≡ steps → (size ≡ formula_size (all_of (all_formulas q))) × (length q.given.now ≤ size)
full_size q steps size e some s =
    let long = steps_long (all_formulas q) in
    let parts = length-append (given_formulas q) (asked_formulas q.asked) in
    let same = length-map q.given.now formula_in in
    let is = something_size (all_formulas q) (omega arith) in
    (omega arith, omega arith)
