-- `demo`: the token ring of n places, and what is shown of it.
use Rattle.std.specs.Prelude.{◌≡◌, ◌⊎◌, ℕ, ◌+◌, ◌-◌, nat_lt, if◌then◌else◌, List, [], ◌∷◌, ◌++◌, length, codes, Option, IsTrue}
use Rattle.std.specs.Fmt.{decimal}
use Rattle.ltl_io.specs.Outside.{Grows}
use Rattle.ltl_syntax.specs.declared.node.Kind.TheVariants as kinds
use Rattle.ltl_syntax.specs.declared.node.UnaryOp.TheVariants as one
use Rattle.ltl_syntax.specs.declared.node.BinaryOp.TheVariants as two
use Rattle.ltl_syntax.specs.Formula.{Formula, Name, Letter, Unary, Binary, nodes_in}
use Rattle.ltl_closure.specs.Closure.{closure}
use Rattle.ltl_closure.specs.Run.{Verdict, IsVerdict, Sat, Unsat, Undecided}
use Rattle.enc_layout.specs.Letters.{below, letters_through}
use Rattle.enc_layout.specs.Clauses.{counts}
use Rattle.report.specs.declared.summary.Shown.{Shown}
use Rattle.report.specs.declared.summary.Shown.TheVariants as verdicts
use Rattle.report.specs.declared.summary.Summary.{Summary}
use Rattle.report.specs.declared.status.Status.{Status}
use Rattle.report.specs.declared.status.Status.TheVariants as statuses
use Rattle.report.specs.Status.{is_answer}
use Rattle.black_top.specs.Answer.{Answer, summary, status_of, text_of}
use Rattle.enc_layout.specs.Limit.{IsInForce}

-- the letter that says that the token is at place i: `p0`, `p1` and so on
abbrev pub place : ℕ → Formula
place i = Letter (Name (codes "p" ++ decimal i))

-- `G (pi -> X pj)`: whenever the token is at place i, it is at place j next
abbrev pub moves : ℕ → ℕ → Formula
moves i j = Unary one.Always (Binary two.Implies (place i) (Unary one.Next (place j)))

-- `G F pi`: the token is at place i again and again
abbrev pub returns : ℕ → Formula
returns i = Unary one.Always (Unary one.Eventually (place i))

-- `G !(pi & pj)`: it is never at both places
abbrev pub apart : ℕ → ℕ → Formula
apart i j = Unary one.Always (Unary one.Not (Binary two.And (place i) (place j)))

-- the place behind place i of n, and place 0 behind the last
abbrev pub place_behind : ℕ → ℕ → ℕ
place_behind n i = if nat_lt (i + 1) n then i + 1 else 0

-- place i is apart from each later one of n
abbrev pub apart_from_later : ℕ → ℕ → List Formula
apart_from_later n i = below (n - (i + 1)) (λ k. apart i (i + 1 + k) ∷ [])

-- the parts behind `p0`: for i from 0 the moves, then for i from 0 the returns, then for i from 0 and j from i + 1 the places that are apart,
-- the inner number running faster
abbrev pub ring_parts : ℕ → List Formula
ring_parts n =
    below n (λ i. moves i (place_behind n i) ∷ [])
    ++ below n (λ i. returns i ∷ [])
    ++ below n (apart_from_later n)

-- the conjunction of a formula and some parts, to the left
abbrev pub joined : Formula → List Formula → Formula
joined f [] = f
joined f (g ∷ gs) = joined (Binary two.And f g) gs

-- the token is at place 0 first, and the parts hold
abbrev pub ring : ℕ → Formula
ring n = joined (place 0) (ring_parts n)

-- a verdict as it is shown
abbrev pub shown_verdict : Verdict → Shown
shown_verdict (Sat k) = verdicts.Sat k
shown_verdict (Unsat k) = verdicts.Unsat k
shown_verdict (Undecided k) = verdicts.Undecided k

-- the number, the nodes of the ring and the entries of its closure, the letters through the depth that is the number, and the verdict
abbrev pub summary_of : ℕ → Verdict → Summary
summary_of n verdict = record {
  number = n;
  nodes = nodes_in (ring n);
  entries = length (closure (ring n));
  letters = letters_through kinds.Infinite (counts (ring n)) n;
  verdict = shown_verdict verdict;
}

-- the answer is the summary, with the tableau's verdict on the ring over infinite traces at the limit in force for 64
pub data IsShown (n : ℕ) : Answer → Type 0 where
  shown : (limit : ℕ) (verdict : Verdict) → IsInForce (ring n) kinds.Infinite 64 limit → IsVerdict (ring n) kinds.Infinite limit verdict
      → IsShown n (summary (summary_of n verdict))

-- the summary was printed, with its status
pub record PrintsSummary (n : ℕ) (before after : Option (List ℕ)) (status : Status) : Type 0 where
  pub answer : Answer
  pub shows : IsShown n answer
  pub own : status ≡ status_of answer
  pub printed : Grows (text_of answer) before after

-- what `demo` promises of a call: of the rest of the source and the content of the sink, before and after, and of its status.
-- A call is quiet where neither count of faults rose
pub record DemoPromise (n : ℕ) (IsQuiet : Type 0) (rest left before after : Option (List ℕ)) (status : Status) : Type 0 where
  -- an answer is the summary: the number, the counts of the ring, and the tableau's verdict on it at the limit in force
  pub when_answered : IsTrue (is_answer status) → PrintsSummary n before after status
  -- the summary is printed, or there was no memory
  pub summary : IsQuiet → (status ≡ statuses.NoMemory) ⊎ PrintsSummary n before after status
  -- the source is left as it was
  pub unread : left ≡ rest
