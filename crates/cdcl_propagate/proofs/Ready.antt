-- From one place of the trail to the next.
use Rattle.std.proofs.Common.{◌≡◌, ◌≢◌, ℕ, ◌<◌, ◌≤◌, ◌+◌, ◌*◌, inl, inr, List, ◌++◌, Option, MatchOption, Bool, true, false, None, length, get_or, refl}
use Rattle.std.proofs.Common.{sym, ap, ◌∙◌, subst, arith}
use Rattle.std.proofs.lemmas.Bool.{cases_lt}
use Rattle.std.proofs.lemmas.List.{append_assoc, get_or_default, get_or_append_left}
use Rattle.std.proofs.lemmas.List.Elements.{All-append}
use Rattle.cnf_base.specs.declared.literal.Literal.{Literal}
use Rattle.cnf_base.specs.Literal.{opposite}
use Rattle.cnf_base.proofs.SameLiteral.{opposite_opposite}
use Rattle.cdcl_trail.specs.Trail.{literals_of, AreValues, blank_entry}
use Rattle.cdcl_trail.specs.declared.assigned.TrailEntry.{TrailEntry}
use Rattle.cdcl_watches.specs.Watching.{IsWatch, IsWatching, clause_of, list_of, code, WatchValue}
use Rattle.cdcl_trail.specs.Assigned.{AssignedValue}
use Rattle.cdcl_propagate.specs.Visit.{HasTrue, IsVisiting, IsReady, IsGrown, false_at}

pub grown_more : (s t u : List TrailEntry) → IsGrown s t → IsGrown t u → IsGrown s u
grown_more s t u one two = record {
  more = one.more ++ two.more;
  trail = two.trail ∙ ap (λ x. x ++ two.more) one.trail ∙ append_assoc s one.more two.more;
  forced = All-append (λ (e : TrailEntry). e.reason ≢ None) one.more two.more one.forced two.forced;
}

pub grown_at : (s t : List TrailEntry) (k : ℕ) → IsGrown s t → k < length s → false_at t k ≡ false_at s k
grown_at s t k grown low = ap (λ x. false_at x k) grown.trail ∙ ap (λ (e : TrailEntry). opposite e.literal) (get_or_append_left s grown.more blank_entry k low)

module _ (inputs lines : List (List Literal)) (k : ℕ) (a : AssignedValue) (w : WatchValue) where
  -- before the list is visited
  pub begin_visit : k < length a.trail → IsReady inputs lines k a w → IsVisiting inputs lines k 0 a w
  begin_visit there r = record {
    is_trail = r.is_trail;
    stored = r.stored;
    guarded = r.guarded;
    within = there;
    sized = r.sized;
    done = λ j from below. absurd (omega (arith, from));
  }

  -- the whole list was visited
  pub end_visit : (i : ℕ) → length (list_of w.lists (false_at a.trail k)) ≤ i → IsWatching w.clauses w.lists → IsVisiting inputs lines k i a w
      → IsReady inputs lines (k + 1) a w
  end_visit i all watching v = record {
    is_trail = v.is_trail;
    stored = v.stored;
    guarded = λ c p x known watch below is_false. elim (cases_lt p k) [
      | inl old ↦ v.guarded c p x known watch old is_false
      | inr high ↦
          let f = false_at a.trail k in
          let last : p ≡ k = omega arith in
          let x_is : x ≡ f = sym (opposite_opposite x) ∙ ap opposite (sym is_false) ∙ ap (λ n. false_at a.trail n) last in
          let there = watching.watched c f known (subst (IsWatch (clause_of w.clauses c)) x_is watch) in
          let is : get_or (list_of w.lists f) there.0 0 ≡ c = get_or_default (list_of w.lists f) there.0 0 c there.1 ∙ there.2 in
          subst (λ n. HasTrue (literals_of a.trail) (clause_of w.clauses n)) is (v.done there.0 (omega (arith, all, there.1)) there.1)
    ];
    within = omega (arith, v.within);
    sized = v.sized;
  }

-- a known letter has its lists
pub code_known : (l : Literal) (n : ℕ) → l.letter.0 < n → code l < 2 * n
code_known l n low = go l.negated refl
  where
    go : (b : Bool) → l.negated ≡ b → code l < 2 * n
    go true is = rw is (omega arith)
    go false is = rw is (omega arith)

-- the literal that is false from a place on has its list
pub list_known : (values : List (Option Bool)) (trail : List TrailEntry) (k : ℕ) (lists : List (List ℕ)) → AreValues values trail → k < length trail
    → length lists ≡ 2 * length values → code (false_at trail k) < length lists
list_known values trail k lists are low sized = omega (arith, code_known (false_at trail k) (length values) (are.known k blank_entry low), sized)

pub none_case : {X A : Type 0} (P : X → Type 0) (o : Option X) → o ≡ None → MatchOption o A P → A
none_case {X} {A} P o is h = let Q : Option X → Type 0 = λ q. MatchOption q A P in subst Q is h
