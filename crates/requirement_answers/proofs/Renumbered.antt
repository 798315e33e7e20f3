-- Members of a question, whose places count among its given formulas, by the numbers of the items at these places.
use Rattle.std.proofs.Common.{◌≡◌, ◌≢◌, ◌∙◌, ℕ, zero, suc, ◌+◌, ◌<◌, true, List, [], ◌∷◌, ◌++◌, map, length, get_or, slice_get, slice_index, Some, refl, sym}
use Rattle.std.proofs.Common.{ap, ap₂, subst, arith, Contains}
use Rattle.std.specs.List.{All}
use Rattle.std.specs.List.Sorted.{IsStrictlyIncreasing}
use Rattle.std.proofs.lemmas.List.{get_or-map, get_or_default, length-map}
use Rattle.std.proofs.lemmas.List.Elements.{All-append, All-nil, All-cons, All-head, All-tail}
use Rattle.std.proofs.lemmas.List.Kept.{AllPairs-from_increasing}
use Rattle.std.proofs.lemmas.Option.{slice_get-get_or}
use Rattle.ltl_syntax.specs.Formula.{Formula, Const}
use Rattle.ltl_syntax.specs.Table.{Table, tree_at}
use Rattle.ltl_word.specs.declared.trace.Trace.{Trace}
use Rattle.ltl_word.specs.Trace.{IsOfKind}
use Rattle.ltl_word.specs.Holds.{Satisfies}
use Rattle.claims.specs.Lawful.{IsLawful}
use Rattle.claim_check.specs.declared.certificate.Certificate.{Certificate}
use Rattle.claim_check.specs.Data.{certificate_in}
use Rattle.requirement_questions.specs.declared.questions.Question.{Question}
use Rattle.requirement_questions.specs.declared.members.Member.{Member}
use Rattle.requirement_questions.specs.declared.leaving.Because.{Because}
use Rattle.requirement_questions.specs.Formulas.{all_of, chosen, formula_in, given_formulas, asked_formulas, some_formulas, NoneSatisfies}
use Rattle.requirement_questions.specs.Members as members
use Rattle.requirement_questions.specs.Members.{places}
use Rattle.requirement_questions.specs.Answer.{given_at, AreMembers, IsNeeded, IsBecause}
use Rattle.requirement_document.specs.Values.{DocumentValue}
use Rattle.requirement_answers.specs.Items.{formula_of, formulas_of}
use Rattle.requirement_answers.specs.Answers.{CanBe, IsReason}
use Rattle.requirement_answers.specs.Inner.{AreItems, renumbered, IsRenumbered}

-- the member that one was
record Was (numbers : List ℕ) (ms : List Member) (k : ℕ) (m : Member) : Type 0 where
  before : Member
  there : slice_get ms k ≡ Some before
  now : renumbered numbers before ≡ m

was : (numbers : List ℕ) (ms : List Member) (k : ℕ) (m : Member) → slice_get (map (renumbered numbers) ms) k ≡ Some m → Was numbers ms k m
was numbers [] k m e = absurd (cc)
was numbers (x ∷ ms) zero m e = record { before = x; there = refl; now = let same : renumbered numbers x ≡ m = cc in same }
was numbers (x ∷ ms) (suc k) m e = let w = was numbers ms k m e in record { before = w.before; there = w.there; now = w.now }

-- what holds of each member but one holds of those that are left without it
each_left : (P : ℕ → Type 0) (k : ℕ) (ms : List Member) → ((j : ℕ) (m : Member) → slice_get ms j ≡ Some m → j ≢ k → P m.given)
    → All P (places (members.without k ms))
each_left P k [] h = All-nil P
each_left P zero (m ∷ ms) h = all ms (λ j x e. h (suc j) x e (omega arith)) where
  all : (xs : List Member) → ((j : ℕ) (x : Member) → slice_get xs j ≡ Some x → P x.given) → All P (places xs)
  all [] g = All-nil P
  all (x ∷ xs) g = All-cons P x.given (places xs) (g zero x refl) (all xs (λ j y e. g (suc j) y e))
each_left P (suc k) (m ∷ ms) h =
    All-cons P m.given (places (members.without k ms)) (h zero m refl (omega arith))
    (each_left P k ms (λ j x e ne. h (suc j) x e (λ same. ne (omega (arith, same)))))

pub each_formula : (P : Formula → Type 0) (d : DocumentValue) (numbers : List ℕ) → All (λ n. P (formula_of d n)) numbers → All P (formulas_of d numbers)
each_formula P d [] h = All-nil P
each_formula P d (n ∷ ns) h =
    All-cons P (formula_of d n) (formulas_of d ns) (All-head (λ m. P (formula_of d m)) n ns h) (each_formula P d ns (All-tail (λ m. P (formula_of d m)) n ns h))

index_at : (numbers : List ℕ) (ms : List Member) (k : ℕ) (m : Member) → slice_get ms k ≡ Some m
    → slice_index (places (map (renumbered numbers) ms)) k ≡ slice_index numbers m.given
index_at numbers [] k m e = absurd (cc)
index_at numbers (x ∷ ms) zero m e = let same : x ≡ m = cc in ap (λ y. slice_index numbers y.given) same
index_at numbers (x ∷ ms) (suc k) m e = index_at numbers ms k m e

many_places : (numbers : List ℕ) (ms : List Member) → length (places (map (renumbered numbers) ms)) ≡ length ms
many_places numbers ms = length-map (map (renumbered numbers) ms) (λ m. m.given) ∙ length-map ms (renumbered numbers)

module _ (d : DocumentValue) (numbers : List ℕ) (items : AreItems d numbers) (q : Question) (kind : q.kind ≡ d.kind)
    (given : given_formulas q ≡ formulas_of d numbers) where
  many : length q.given.now ≡ length numbers
  many = sym (length-map q.given.now formula_in) ∙ (ap length given ∙ length-map numbers (formula_of d))

  same_formula : (k : ℕ) → k < length numbers → given_at q k ≡ formula_of d (slice_index numbers k)
  same_formula k lt = ap (λ fs. get_or fs k (Const true)) given ∙ get_or-map (formula_of d) numbers k 0 (Const true) lt

  same_formulas : (ms : List Member) → All (λ m. m.given < length numbers) ms
      → chosen (given_formulas q) (places ms) ≡ formulas_of d (places (map (renumbered numbers) ms))
  same_formulas [] all = refl
  same_formulas (m ∷ ms) all =
      ap₂ (λ f fs. f ∷ fs) (same_formula m.given (All-head (λ x. x.given < length numbers) m ms all))
      (same_formulas ms (All-tail (λ x. x.given < length numbers) m ms all))

  among : (ms : List Member) → All (λ m. m.given < length numbers) ms → All (Contains numbers) (places (map (renumbered numbers) ms))
  among [] all = All-nil (Contains numbers)
  among (m ∷ ms) all =
      let lt : m.given < length numbers = All-head (λ x. x.given < length numbers) m ms all in
      let n = slice_index numbers m.given in
      All-cons (Contains numbers) n (places (map (renumbered numbers) ms)) (m.given, lt, get_or_default numbers m.given n 0 lt)
      (among ms (All-tail (λ x. x.given < length numbers) m ms all))

  module _ (ms : List Member) (are : AreMembers q ms) where
    pub inside : All (λ m. m.given < length numbers) ms
    inside k e lt = omega (arith, are.there k (get_or ms k e) (slice_get-get_or ms k e lt), many)

    ascending : IsStrictlyIncreasing (places (map (renumbered numbers) ms))
    ascending k lt =
        let long = many_places numbers ms in
        let none : Member = record { given = 0; needed = true } in
        let here : slice_get ms k ≡ Some (get_or ms k none) = slice_get-get_or ms k none (omega (arith, lt, long)) in
        let next : slice_get ms (k + 1) ≡ Some (get_or ms (k + 1) none) = slice_get-get_or ms (k + 1) none (omega (arith, lt, long)) in
        let i = (get_or ms k none).given in
        let j = (get_or ms (k + 1) none).given in
        let below : i < j = are.ascend k (k + 1) (get_or ms k none) (get_or ms (k + 1) none) (omega arith) here next in
        let within : j < length numbers = inside (k + 1) none (omega (arith, lt, long)) in
        omega (
          arith,
          index_at numbers ms k (get_or ms k none) here,
          index_at numbers ms (k + 1) (get_or ms (k + 1) none) next,
          AllPairs-from_increasing numbers items.ascend i j 0 below within,
        )

    still_needed : (k : ℕ) (m : Member) → slice_get (map (renumbered numbers) ms) k ≡ Some m
        → ((x : Member) → slice_get ms k ≡ Some x → x.needed ≡ m.needed → IsNeeded q ms k)
        → (t : Trace) × CanBe d (places (members.without k (map (renumbered numbers) ms))) (asked_formulas q.asked) t
    still_needed k m e needs =
        let w = was numbers ms k m e in
        let n : IsNeeded q ms k = needs w.before w.there (ap (λ x. x.needed) w.now) in
        let one : (j : ℕ) (x : Member) → slice_get (map (renumbered numbers) ms) j ≡ Some x → j ≢ k → Satisfies n.t (formula_of d x.given) = λ j x f ne.
        let v = was numbers ms j x f in
        let lt : v.before.given < length numbers = omega (arith, are.there j v.before v.there, many) in
        subst (Satisfies n.t) (same_formula v.before.given lt ∙ ap (λ y. formula_of d y.given) v.now) (n.others j v.before v.there ne) in
        let rest = places (members.without k (map (renumbered numbers) ms)) in (
          n.t,
          record {
            trace = n.trace;
            of_kind = subst (IsOfKind n.t) kind n.of_kind;
            each = All-append (Satisfies n.t) (formulas_of d rest) (asked_formulas q.asked)
                (each_formula (Satisfies n.t) d rest (each_left (λ x. Satisfies n.t (formula_of d x)) k (map (renumbered numbers) ms) one)) n.asked;
          },
        )

  -- the certificate stays
  record Shows (fs : List Formula) (c : Certificate) (t : Table) (root : ℕ) : Type 0 where
    there : root < length t.nodes
    formula : tree_at t root ≡ all_of fs
    lawful : IsLawful (tree_at t root) d.kind (certificate_in c)

  pub reason : (before after : Because) → IsBecause q before → IsRenumbered numbers before after → IsReason d numbers (asked_formulas q.asked) after
  reason before after w same =
      let ms = before.members.items in
      let now = map (renumbered numbers) ms in
      let all = inside ms w.members in
      let fs = formulas_of d (places now) ++ asked_formulas q.asked in
      let same_fs : some_formulas q (places ms) ≡ fs = ap (λ xs. xs ++ asked_formulas q.asked) (same_formulas ms all) in
      let shown : Shows fs before.certificate before.table before.root = record {
        there = w.there;
        formula = w.formula ∙ ap all_of same_fs;
        lawful = subst (λ k. IsLawful (tree_at before.table before.root) k (certificate_in before.certificate)) kind w.lawful;
      } in
      let at_root = subst (λ n. Shows fs before.certificate before.table n) (sym same.root) shown in
      let at_table = subst (λ t. Shows fs before.certificate t after.root) (sym same.table) at_root in
      let by = subst (λ c. Shows fs c after.table after.root) (sym same.certificate) at_table in
      let back = sym same.members in
      record {
        ascend = subst (λ xs. IsStrictlyIncreasing (places xs)) back (ascending ms w.members);
        among = subst (λ xs. All (Contains numbers) (places xs)) back (among ms all);
        there = by.there;
        formula = subst (λ xs. tree_at after.table after.root ≡ all_of (formulas_of d (places xs) ++ asked_formulas q.asked)) back by.formula;
        lawful = by.lawful;
        none = subst (λ xs. NoneSatisfies d.kind (formulas_of d (places xs) ++ asked_formulas q.asked)) back
            (subst (NoneSatisfies d.kind) same_fs (subst (λ k. NoneSatisfies k (some_formulas q (places ms))) kind w.none));
        needed = λ k m e y. subst (λ xs. (t : Trace) × CanBe d (places (members.without k xs)) (asked_formulas q.asked) t) back
            (still_needed ms w.members k m (subst (λ xs. slice_get xs k ≡ Some m) same.members e) (λ x there_x needs. w.needed k x there_x (needs ∙ y)));
      }
