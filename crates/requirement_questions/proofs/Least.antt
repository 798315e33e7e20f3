-- A set whose members are all marked as needed is a least one.
use Rattle.std.proofs.Common.{◌≡◌, ◌≢◌, ◌∙◌, ℕ, zero, suc, List, [], ◌∷◌, true, slice_get, Some, refl, sym, ap, subst, arith, Contains}
use Rattle.std.specs.List.{All}
use Rattle.std.proofs.lemmas.List.Elements.{All-append, All-nil, All-cons}
use Rattle.ltl_syntax.specs.Formula.{Formula}
use Rattle.ltl_word.specs.declared.trace.Trace.{Trace}
use Rattle.ltl_word.specs.Holds.{Satisfies}
use Rattle.requirement_questions.specs.declared.questions.Question.{Question}
use Rattle.requirement_questions.specs.declared.members.Member.{Member}
use Rattle.requirement_questions.specs.declared.leaving.Because.{Because}
use Rattle.requirement_questions.specs.Formulas.{chosen, given_formulas, asked_formulas, some_formulas, SatisfiesEach}
use Rattle.requirement_questions.specs.Members.{places}
use Rattle.requirement_questions.specs.Answer.{given_at, IsNeeded, IsBecause}

-- the member whose place is in the list
record Stands (ms : List Member) (n : ℕ) : Type 0 where
  at : ℕ
  member : Member
  there : slice_get ms at ≡ Some member
  given : member.given ≡ n

stands : (ms : List Member) (n : ℕ) → Contains (places ms) n → Stands ms n
stands [] n (k, lt, e) = absurd (omega arith)
stands (m ∷ ms) n (zero, lt, e) = record { at = zero; member = m; there = refl; given = e }
stands (m ∷ ms) n (suc k, lt, e) =
    let w = stands ms n (k, omega arith, e) in
    record { at = suc w.at; member = w.member; there = w.there; given = w.given }

-- what satisfies the given formula of each number
each_chosen : (P : Formula → Type 0) (q : Question) (numbers : List ℕ) → ((n : ℕ) → Contains numbers n → P (given_at q n))
    → All P (chosen (given_formulas q) numbers)
each_chosen P q [] h = All-nil P
each_chosen P q (n ∷ ns) h =
    All-cons P (given_at q n) (chosen (given_formulas q) ns) (h n (zero, omega arith, refl))
    (each_chosen P q ns (λ m c. h m (suc c.0, omega (arith, c.1), c.2)))

pub marked_least : (q : Question) (b : Because) → IsBecause q b → ((k : ℕ) (m : Member) → slice_get b.members.items k ≡ Some m → m.needed ≡ true)
    → (fewer : List ℕ) → All (Contains (places b.members.items)) fewer → (lacks : ℕ) → Contains (places b.members.items) lacks → ¬ Contains fewer lacks
    → (t : Trace) × SatisfiesEach q.kind (some_formulas q fewer) t
marked_least q b because all fewer among lacks there none =
    let ms = b.members.items in
    let out = stands ms lacks there in
    let needed : IsNeeded q ms out.at = because.needed out.at out.member out.there (all out.at out.member out.there) in
    let here : (n : ℕ) → Contains fewer n → Satisfies needed.t (given_at q n) = λ n c.
    let w = stands ms n (subst (Contains (places ms)) c.2 (among c.0 n c.1)) in
    let apart : w.at ≢ out.at = λ e.
    let same : Some w.member ≡ Some out.member = sym w.there ∙ (ap (slice_get ms) e ∙ out.there) in
    let one : n ≡ lacks = sym w.given ∙ (let m : w.member ≡ out.member = cc in ap (λ x. x.given) m ∙ out.given) in
    none (subst (Contains fewer) one c) in
    subst (λ k. Satisfies needed.t (given_at q k)) w.given (needed.others w.at w.member w.there apart) in (
      needed.t,
      record {
        trace = needed.trace;
        of_kind = needed.of_kind;
        each =
            All-append (Satisfies needed.t) (chosen (given_formulas q) fewer) (asked_formulas q.asked)
            (each_chosen (Satisfies needed.t) q fewer here) needed.asked;
      },
    )
