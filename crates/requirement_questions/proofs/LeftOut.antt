-- Members of which some are left out, or one is marked as needed.
use Rattle.std.proofs.Common.{◌≡◌, ◌≢◌, ◌∙◌, ◌⊎◌, inl, inr, ℕ, zero, suc, ◌+◌, ◌<◌, ◌≤◌, true, false, List, ◌∷◌, ◌++◌, length, take, drop, set, get_or, []}
use Rattle.std.proofs.Common.{slice_get, Some, refl, sym, ap, ap₂, subst, arith, length-append, add-one}
use Rattle.std.specs.List.{All}
use Rattle.std.proofs.lemmas.Bool.{cases_lt}
use Rattle.std.proofs.lemmas.Option.{slice_get-get_or}
use Rattle.std.proofs.lemmas.List.{take_more, take_all, take-append-drop, length-map}
use Rattle.ltl_syntax.specs.Formula.{Const}
use Rattle.ltl_syntax.specs.Table.{Table, tree_at}
use Rattle.ltl_word.specs.declared.trace.Trace.{Trace}
use Rattle.ltl_word.specs.Holds.{Satisfies}
use Rattle.claims.specs.Lawful.{IsLawful}
use Rattle.claims.specs.Laws.{LawfulHasNoTrace}
use Rattle.claim_check.specs.declared.certificate.Certificate.{Certificate}
use Rattle.claim_check.specs.Data.{certificate_in}
use Rattle.requirement_questions.specs.declared.questions.Question.{Question}
use Rattle.requirement_questions.specs.declared.members.Member.{Member}
use Rattle.requirement_questions.specs.declared.leaving.Because.{Because}
use Rattle.requirement_questions.specs.declared.settling.Refuted.{Refuted}
use Rattle.requirement_questions.specs.Formulas.{all_of, formula_in, given_formulas, asked_formulas, some_formulas, all_formulas, SatisfiesEach, NoneSatisfies}
use Rattle.requirement_questions.specs.Members.{places, counted, without, without_some, marked, noted}
use Rattle.requirement_questions.specs.Settling.{IsRefuted, IsMade, IsNoted}
use Rattle.requirement_questions.specs.Answer.{given_at, AreMembers, IsNeeded, IsBecause}
use Rattle.requirement_questions.proofs.Conjunctions.{each_says_all}
use Rattle.requirement_questions.proofs.Picking.{picked, picked_append, picked_each, left_all, right_all}

-- ---- all but one

-- where a member that is left stood before
abbrev shift : ℕ → ℕ → ℕ
shift zero j = suc j
shift (suc k) zero = zero
shift (suc k) (suc j) = suc (shift k j)

without_get : (k : ℕ) (ms : List Member) (j : ℕ) → slice_get (without k ms) j ≡ slice_get ms (shift k j)
without_get k [] j = refl
without_get zero (m ∷ ms) j = refl
without_get (suc k) (m ∷ ms) zero = refl
without_get (suc k) (m ∷ ms) (suc j) = without_get k ms j

shift_rises : (k i j : ℕ) → i < j → shift k i < shift k j
shift_rises zero i j lt = omega arith
shift_rises (suc k) i zero lt = absurd (omega arith)
shift_rises (suc k) zero (suc j) lt = omega arith
shift_rises (suc k) (suc i) (suc j) lt = omega (arith, shift_rises k i j (omega arith))

shift_apart : (k i j : ℕ) → i ≢ j → shift k i ≢ shift k j
shift_apart k i j ne e = elim (cases_lt i j) [
  | inl lt ↦ omega (arith, shift_rises k i j lt, e)
  | inr le ↦ let lt : j < i = elim (cases_lt j i) [ inl h ↦ h | inr h ↦ absurd (ne (omega arith)) ] in omega (arith, shift_rises k j i lt, e)
]

shift_back : (k j : ℕ) → j ≢ k → (i : ℕ) × (shift k i ≡ j)
shift_back zero zero ne = absurd (ne refl)
shift_back zero (suc j) ne = (j, refl)
shift_back (suc k) zero ne = (zero, refl)
shift_back (suc k) (suc j) ne = let w = shift_back k j (λ e. ne (ap suc e)) in (suc w.0, ap suc w.1)

pub without_length : (k : ℕ) (ms : List Member) → k < length ms → suc (length (without k ms)) ≡ length ms
without_length k [] lt = absurd (omega arith)
without_length zero (m ∷ ms) lt = refl
without_length (suc k) (m ∷ ms) lt = ap suc (without_length k ms (omega arith))

without_are : (q : Question) (k : ℕ) (ms : List Member) → AreMembers q ms → AreMembers q (without k ms)
without_are q k ms w = record {
  there = λ j m e. w.there (shift k j) m (sym (without_get k ms j) ∙ e);
  ascend = λ i j m n lt e f. w.ascend (shift k i) (shift k j) m n (shift_rises k i j lt) (sym (without_get k ms i) ∙ e) (sym (without_get k ms j) ∙ f);
}

without_needed : (q : Question) (k j : ℕ) (ms : List Member) → IsNeeded q ms (shift k j) → IsNeeded q (without k ms) j
without_needed q k j ms w = record {
  t = w.t;
  trace = w.trace;
  of_kind = w.of_kind;
  others = λ i m e ne. w.others (shift k i) m (sym (without_get k ms i) ∙ e) (shift_apart k i j ne);
  asked = w.asked;
}

-- ---- all but some

take_without : (k : ℕ) (ms : List Member) → take k (without k ms) ≡ take k ms
take_without k [] = refl
take_without zero (m ∷ ms) = refl
take_without (suc k) (m ∷ ms) = ap (λ xs. m ∷ xs) (take_without k ms)

none_dropped : (n : ℕ) → drop {A = Member} n [] ≡ []
none_dropped zero = refl
none_dropped (suc n) = refl

drop_without : (k n : ℕ) (ms : List Member) → drop (k + n) (without k ms) ≡ drop (suc (k + n)) ms
drop_without k n [] = none_dropped (k + n) ∙ sym (none_dropped (suc (k + n)))
drop_without zero n (m ∷ ms) = refl
drop_without (suc k) n (m ∷ ms) =
    let e : suc k + n ≡ suc (k + n) = omega arith in
    subst (λ s. drop s (without (suc k) (m ∷ ms)) ≡ drop (suc s) (m ∷ ms)) (sym e) (drop_without k n ms)

pub without_some_is : (k count : ℕ) (ms : List Member) → take k ms ++ drop (k + count) ms ≡ without_some k count ms
without_some_is k zero ms = ap (λ n. take k ms ++ drop n ms) (let e : k + 0 ≡ k = omega arith in e) ∙ take-append-drop k ms
without_some_is k (suc count) ms =
    let more : k + suc count ≡ suc (k + count) = omega arith in
    ap (λ n. take k ms ++ drop n ms) more
    ∙ (ap₂ (λ xs ys. xs ++ ys) (sym (take_without k ms)) (sym (drop_without k count ms)) ∙ without_some_is k count (without k ms))

without_some_length : (k count : ℕ) (ms : List Member) → k + count ≤ length ms → length (without_some k count ms) + count ≡ length ms
without_some_length k zero ms le = omega arith
without_some_length k (suc count) ms le =
    let one = without_length k ms (omega (arith, le)) in
    let rest = without_some_length k count (without k ms) (omega (arith, one, le)) in omega (arith, one, rest)

some_are : (q : Question) (k count : ℕ) (ms : List Member) → AreMembers q ms → AreMembers q (without_some k count ms)
some_are q k zero ms w = w
some_are q k (suc count) ms w = some_are q k count (without k ms) (without_are q k ms w)

-- what is marked is needed
abbrev AreNeeded : Question → List Member → Type 0
AreNeeded q ms = (k : ℕ) (m : Member) → slice_get ms k ≡ Some m → m.needed ≡ true → IsNeeded q ms k

some_needed : (q : Question) (k count : ℕ) (ms : List Member) → AreNeeded q ms → AreNeeded q (without_some k count ms)
some_needed q k zero ms w = w
some_needed q k (suc count) ms w =
    some_needed q k count (without k ms) (λ j m e y. without_needed q k j ms (w (shift k j) m (sym (without_get k ms j) ∙ e) y))

-- each is a given formula
pub members_all : (q : Question) (ms : List Member) → AreMembers q ms → All (λ m. m.given < length q.given.now) ms
members_all q ms w k d lt = w.there k (get_or ms k d) (slice_get-get_or ms k d lt)

pub rest_all : (q : Question) (k count : ℕ) (ms rest : List Member) → AreMembers q ms → rest ≡ without_some k count ms
    → All (λ m. m.given < length q.given.now) rest
rest_all q k count ms rest w e = subst (All (λ m. m.given < length q.given.now)) (sym e) (members_all q (without_some k count ms) (some_are q k count ms w))

pub left_many : (k count : ℕ) (ms rest : List Member) (r : Refuted) (b : Because) → k + count ≤ length ms → rest ≡ without_some k count ms → IsMade rest r b
    → length ms ≤ length b.members.items + count
left_many k count ms rest r b le e made =
    let long = without_some_length k count ms le in
    let same : length b.members.items ≡ length (without_some k count ms) = ap length (made.members ∙ e) in omega (arith, long, same)

-- what satisfies the others and what is asked shows that the one is needed
pub shows_needed : (q : Question) (k : ℕ) (ms : List Member) (t : Trace) → SatisfiesEach q.kind (some_formulas q (places (without k ms))) t → IsNeeded q ms k
shows_needed q k ms t w = record {
  t = t;
  trace = w.trace;
  of_kind = w.of_kind;
  others = λ j m e ne.
      let i = shift_back k j ne in
      let at : slice_get (without k ms) i.0 ≡ Some m = without_get k ms i.0 ∙ (ap (slice_get ms) i.1 ∙ e) in
      picked_each (Satisfies t) q (without k ms) i.0 m (left_all (Satisfies t) (picked q (without k ms)) (asked_formulas q.asked) w.each) at;
  asked = right_all (Satisfies t) (picked q (without k ms)) (asked_formulas q.asked) w.each;
}

-- ---- what refutes

none_of : (q : Question) (numbers : List ℕ) (c : Certificate) (t : Table) (root : ℕ) → LawfulHasNoTrace → IsRefuted q numbers c t root
    → NoneSatisfies q.kind (some_formulas q numbers)
none_of q numbers c t root law w trace s =
    law (tree_at t root) q.kind (certificate_in c) w.lawful trace s.trace s.of_kind
    (subst (Satisfies trace) (sym w.formula) (each_says_all trace (some_formulas q numbers) s.each))

module _ (q : Question) (ms : List Member) (r : Refuted) (b : Because) (law : LawfulHasNoTrace) (made : IsMade ms r b)
    (w : IsRefuted q (places ms) r.certificate r.table r.root) where
  refuted_here : IsRefuted q (places b.members.items) b.certificate b.table b.root
  refuted_here =
      let at_root = subst (λ n. IsRefuted q (places ms) r.certificate r.table n) (sym made.root) w in
      let at_table = subst (λ t. IsRefuted q (places ms) r.certificate t b.root) (sym made.table) at_root in
      let by = subst (λ c. IsRefuted q (places ms) c b.table b.root) (sym made.certificate) at_table in
      subst (λ xs. IsRefuted q (places xs) b.certificate b.table b.root) (sym made.members) by

  pub is_because : AreMembers q ms → ((k : ℕ) (m : Member) → slice_get ms k ≡ Some m → m.needed ≡ true → IsNeeded q ms k) → IsBecause q b
  is_because are needed = record {
    members = subst (AreMembers q) (sym made.members) are;
    there = refuted_here.there;
    formula = refuted_here.formula;
    lawful = refuted_here.lawful;
    none = none_of q (places b.members.items) b.certificate b.table b.root law refuted_here;
    needed = λ k m e y. subst (λ xs. IsNeeded q xs k) (sym made.members) (needed k m (subst (λ xs. slice_get xs k ≡ Some m) made.members e) y);
  }

-- some are left out
pub left_out : (q : Question) (k count : ℕ) (before after : Because) (r : Refuted) → LawfulHasNoTrace → IsBecause q before
    → IsMade (without_some k count before.members.items) r after
    → IsRefuted q (places (without_some k count before.members.items)) r.certificate r.table r.root → IsBecause q after
left_out q k count before after r law w made refuted =
    is_because q (without_some k count before.members.items) r after law made refuted (some_are q k count before.members.items w.members)
    (some_needed q k count before.members.items w.needed)

-- ---- one marked as needed

same_places : (k : ℕ) (ms : List Member) → places (marked k ms) ≡ places ms
same_places k [] = refl
same_places zero (m ∷ ms) = refl
same_places (suc k) (m ∷ ms) = ap (λ ns. m.given ∷ ns) (same_places k ms)

-- a member of the marked list, and the member that it was
record Was (k j : ℕ) (ms : List Member) (m : Member) : Type 0 where
  before : Member
  there : slice_get ms j ≡ Some before
  given : before.given ≡ m.given
  needed : m.needed ≡ true → (before.needed ≡ true) ⊎ (j ≡ k)

was : (k j : ℕ) (ms : List Member) (m : Member) → slice_get (marked k ms) j ≡ Some m → Was k j ms m
was k j [] m e = absurd (cc)
was zero zero (x ∷ ms) m e = record { before = x; there = refl; given = (cc); needed = λ y. inr refl }
was zero (suc j) (x ∷ ms) m e = record { before = m; there = e; given = refl; needed = λ y. inl y }
was (suc k) zero (x ∷ ms) m e = record { before = m; there = e; given = refl; needed = λ y. inl y }
was (suc k) (suc j) (x ∷ ms) m e =
    let w = was k j ms m e in
    record { before = w.before; there = w.there; given = w.given; needed = λ y. elim (w.needed y) [ inl h ↦ inl h | inr h ↦ inr (ap suc h) ] }

pub marked_is : (k : ℕ) (ms : List Member) (m : Member) → slice_get ms k ≡ Some m → set ms k (record { given = m.given; needed = true }) ≡ marked k ms
marked_is k [] m e = absurd (cc)
marked_is zero (x ∷ ms) m e = let is : x ≡ m = cc in ap (λ y. record { given = y.given; needed = true } ∷ ms) (sym is)
marked_is (suc k) (x ∷ ms) m e = ap (λ xs. x ∷ xs) (marked_is k ms m e)

pub marked_length : (k : ℕ) (ms : List Member) → length (marked k ms) ≡ length ms
marked_length k [] = refl
marked_length zero (m ∷ ms) = refl
marked_length (suc k) (m ∷ ms) = ap suc (marked_length k ms)

marked_are : (q : Question) (k : ℕ) (ms : List Member) → AreMembers q ms → AreMembers q (marked k ms)
marked_are q k ms w = record {
  there = λ j m e. let h = was k j ms m e in subst (λ n. n < length q.given.now) h.given (w.there j h.before h.there);
  ascend = λ i j m n lt e f.
      let g = was k i ms m e in
      let h = was k j ms n f in
      let less = w.ascend i j g.before h.before lt g.there h.there in omega (arith, less, g.given, h.given);
}

marked_needed : (q : Question) (k j : ℕ) (ms : List Member) → IsNeeded q ms j → IsNeeded q (marked k ms) j
marked_needed q k j ms w = record {
  t = w.t;
  trace = w.trace;
  of_kind = w.of_kind;
  others = λ i m e ne. let h = was k i ms m e in subst (λ n. Satisfies w.t (given_at q n)) h.given (w.others i h.before h.there ne);
  asked = w.asked;
}

is_marked : (q : Question) (k : ℕ) (before after : Because) → IsBecause q before → IsNeeded q before.members.items k
    → after.members.items ≡ marked k before.members.items → after.certificate ≡ before.certificate → after.table ≡ before.table → after.root ≡ before.root
    → IsBecause q after
is_marked q k before after w shown e certificate table root =
    let numbers : places after.members.items ≡ places before.members.items = ap places e ∙ same_places k before.members.items in
    record {
      members = subst (AreMembers q) (sym e) (marked_are q k before.members.items w.members);
      there = subst (λ t. after.root < length t.nodes) (sym table) (subst (λ n. n < length before.table.nodes) (sym root) w.there);
      formula = ap₂ tree_at table root ∙ (w.formula ∙ ap (λ ns. all_of (some_formulas q ns)) (sym numbers));
      lawful = let same : tree_at after.table after.root ≡ tree_at before.table before.root = ap₂ tree_at table root in
          subst (λ c. IsLawful (tree_at after.table after.root) q.kind (certificate_in c)) (sym certificate)
          (subst (λ f. IsLawful f q.kind (certificate_in before.certificate)) (sym same) w.lawful);
      none = subst (λ ns. NoneSatisfies q.kind (some_formulas q ns)) (sym numbers) w.none;
      needed = λ j m at y.
          let h = was k j before.members.items m (subst (λ xs. slice_get xs j ≡ Some m) e at) in
          subst (λ xs. IsNeeded q xs j) (sym e) (marked_needed q k j before.members.items (elim (h.needed y) [
            | inl was_so ↦ w.needed j h.before h.there was_so
            | inr here ↦ subst (IsNeeded q before.members.items) (sym here) shown
          ]));
    }

same_because : (q : Question) (before after : Because) → IsBecause q before → after.members.items ≡ before.members.items
    → after.certificate ≡ before.certificate → after.table ≡ before.table → after.root ≡ before.root → IsBecause q after
same_because q before after w e certificate table root = record {
  members = subst (AreMembers q) (sym e) w.members;
  there = subst (λ t. after.root < length t.nodes) (sym table) (subst (λ n. n < length before.table.nodes) (sym root) w.there);
  formula = ap₂ tree_at table root ∙ (w.formula ∙ ap (λ ms. all_of (some_formulas q (places ms))) (sym e));
  lawful = let same : tree_at after.table after.root ≡ tree_at before.table before.root = ap₂ tree_at table root in
      subst (λ c. IsLawful (tree_at after.table after.root) q.kind (certificate_in c)) (sym certificate)
      (subst (λ f. IsLawful f q.kind (certificate_in before.certificate)) (sym same) w.lawful);
  none = subst (λ ms. NoneSatisfies q.kind (some_formulas q (places ms))) (sym e) w.none;
  needed = subst (AreNeeded q) (sym e) w.needed;
}

-- one is noted as needed where what satisfies the others was found
pub is_noted : (q : Question) (k count : ℕ) (before after : Because) (t : Trace) → IsBecause q before
    → SatisfiesEach q.kind (some_formulas q (places (without_some k count before.members.items))) t → IsNoted before k count after → IsBecause q after
is_noted q k zero before after t w found noted = same_because q before after w noted.members noted.certificate noted.table noted.root
is_noted q k (suc zero) before after t w found noted =
    is_marked q k before after w (shows_needed q k before.members.items t found) noted.members noted.certificate noted.table noted.root
is_noted q k (suc (suc n)) before after t w found noted = same_because q before after w noted.members noted.certificate noted.table noted.root

pub noted_none : (k count : ℕ) (ms : List Member) → ¬ (count ≡ 1) → noted k count ms ≡ ms
noted_none k zero ms ne = refl
noted_none k (suc zero) ms ne = absurd (ne refl)
noted_none k (suc (suc n)) ms ne = refl

pub noted_many : (k count : ℕ) (before after : Because) → IsNoted before k count after → length after.members.items ≡ length before.members.items
noted_many k zero before after w = ap length w.members
noted_many k (suc zero) before after w = ap length w.members ∙ marked_length k before.members.items
noted_many k (suc (suc n)) before after w = ap length w.members

-- ---- all of them

counted_long : (n : ℕ) → length (counted n) ≡ n
counted_long zero = refl
counted_long (suc n) = omega (arith, counted_long n, length-append (counted n) (record { given = n; needed = false } ∷ []))

last_or_before : (xs : List Member) (x m : Member) (k : ℕ) → slice_get (xs ++ x ∷ []) k ≡ Some m → (slice_get xs k ≡ Some m) ⊎ ((k ≡ length xs) × (x ≡ m))
last_or_before [] x m zero e = let is : x ≡ m = cc in inr (refl, is)
last_or_before [] x m (suc k) e = absurd (cc)
last_or_before (y ∷ xs) x m zero e = inl e
last_or_before (y ∷ xs) x m (suc k) e = elim (last_or_before xs x m k e) [ inl h ↦ inl h | inr h ↦ inr (ap suc h.0, h.1) ]

counted_at : (n k : ℕ) (m : Member) → slice_get (counted n) k ≡ Some m → (k < n) × (m.given ≡ k) × (m.needed ≡ false)
counted_at zero k m e = absurd (cc)
counted_at (suc n) k m e = elim (last_or_before (counted n) (record { given = n; needed = false }) m k e) [
  | inl h ↦ let w = counted_at n k m h in (omega (arith, w.0), w.1, w.2)
  | inr h ↦
      let long = counted_long n in
      let given : n ≡ m.given = ap (λ x. x.given) h.1 in
      let needed : false ≡ m.needed = ap (λ x. x.needed) h.1 in (omega (arith, h.0, long), omega (arith, given, h.0, long), sym needed)
]

pub all_are : (q : Question) → AreMembers q (counted (length q.given.now))
all_are q = record {
  there = λ k m e. let w = counted_at (length q.given.now) k m e in omega (arith, w.0, w.1);
  ascend = λ j k m n lt e f. let v = counted_at (length q.given.now) j m e in let w = counted_at (length q.given.now) k n f in omega (arith, v.1, w.1, lt);
}

pub none_needed : (q : Question) (n k : ℕ) (m : Member) → slice_get (counted n) k ≡ Some m → m.needed ≡ true → IsNeeded q (counted n) k
none_needed q n k m e y = let w = counted_at n k m e in absurd (let f = w.2 in cc)

picked_counted : (q : Question) (n : ℕ) → n ≤ length (given_formulas q) → picked q (counted n) ≡ take n (given_formulas q)
picked_counted q zero le = refl
picked_counted q (suc n) le =
    picked_append q (counted n) (record { given = n; needed = false } ∷ [])
    ∙ (ap (λ fs. fs ++ given_at q n ∷ []) (picked_counted q n (omega arith))
    ∙ (sym (take_more (given_formulas q) n (Const true) (omega arith)) ∙ ap (λ k. take k (given_formulas q)) (add-one n)))

pub all_picked : (q : Question) → some_formulas q (places (counted (length q.given.now))) ≡ all_formulas q
all_picked q =
    let long : length (given_formulas q) ≡ length q.given.now = length-map q.given.now formula_in in
    ap (λ fs. fs ++ asked_formulas q.asked)
    (picked_counted q (length q.given.now) (omega arith) ∙ take_all (length q.given.now) (given_formulas q) (omega arith))

pub all_because_of : (q : Question) (members : List Member) (r : Refuted) (b : Because) → LawfulHasNoTrace → members ≡ counted (length q.given.now)
    → IsMade members r b → IsRefuted q (places members) r.certificate r.table r.root → IsBecause q b
all_because_of q members r b law e made w =
    is_because q members r b law made w (subst (AreMembers q) (sym e) (all_are q))
    (λ k m at y. subst (λ xs. IsNeeded q xs k) (sym e) (none_needed q (length q.given.now) k m (subst (λ xs. slice_get xs k ≡ Some m) e at) y))
