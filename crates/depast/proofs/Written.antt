-- What a writer has written where one node more is done.
use Rattle.std.proofs.Common.{◌≡◌, ℕ, ◌+◌, ◌-◌, refl, sym, ◌∙◌, ap, subst, arith, List, [], ◌∷◌, ◌++◌, length, length-append, take, drop, append_assoc, Option}
use Rattle.std.proofs.Common.{Some, None, MatchOption}
use Rattle.std.proofs.Math.Seq.{drop-append_seam, take-append_seam, take-length}
use Rattle.ltl_syntax.specs.declared.node.UnaryOp.{UnaryOp}
use Rattle.ltl_syntax.specs.declared.node.BinaryOp.{BinaryOp}
use Rattle.ltl_syntax.specs.declared.node.BinaryOp.TheVariants.{And, Since, Trigger}
use Rattle.ltl_syntax.specs.Formula.{Formula, Unary, Binary}
use Rattle.depast.specs.declared.symbol.Symbol.{Symbol}
use Rattle.depast.specs.declared.symbol.Symbol.TheVariants as symbols
use Rattle.depast.specs.Depast.{taken, taken₁, taken₂, residue, residue₁, residue₂, axioms, axioms₁, axioms₂, conjoined, since_axiom, trigger_axiom}
use Rattle.depast.specs.Symbols.{Letters, Reads, Writes}
use Rattle.depast.specs.Writing.{IsDone, AreLaid, axioms_by, taken_by, HasOne, HasTwo}
use Rattle.depast.proofs.Operators.{IsPlain₂}
use Rattle.depast.proofs.Rows.{reads_on}

-- ---- pieces of a row

tail_is : (xs front back : List Symbol) (i : ℕ) → xs ≡ front ++ back → i ≡ length front → take (length xs - i) (drop i xs) ≡ back
tail_is xs front back i e at =
    let d : drop i xs ≡ back = ap (λ n. drop n xs) at ∙ (ap (drop (length front)) e ∙ drop-append_seam front back) in
    let n : length xs - i ≡ length back = omega (arith, ap length e, length-append front back) in
    ap (λ m. take m (drop i xs)) n ∙ (ap (take (length back)) d ∙ take-length back)

middle_is : (xs front mid back : List Symbol) (i j : ℕ) → xs ≡ front ++ (mid ++ back) → i ≡ length front → j ≡ length (front ++ mid)
    → take (j - i) (drop i xs) ≡ mid
middle_is xs front mid back i j e at to =
    let d : drop i xs ≡ mid ++ back = ap (λ n. drop n xs) at ∙ (ap (drop (length front)) e ∙ drop-append_seam front (mid ++ back)) in
    let n : j - i ≡ length mid = omega (arith, length-append front mid) in
    ap (λ m. take m (drop i xs)) n ∙ (ap (take (length mid)) d ∙ take-append_seam mid back)

rejoined : (xs front mid back whole : List Symbol) → xs ≡ whole ++ back → whole ≡ front ++ mid → xs ≡ front ++ (mid ++ back)
rejoined xs front mid back whole e f = e ∙ (ap (λ ys. ys ++ back) f ∙ append_assoc front mid back)

conjoined-append : (f : Formula) (xs ys : List Formula) → conjoined f (xs ++ ys) ≡ conjoined (conjoined f xs) ys
conjoined-append f [] ys = refl
conjoined-append f (x ∷ xs) ys = conjoined-append (Binary And f x) xs ys

-- ---- the starts

pub has_one : (l : Letters) (f : Formula) (fs : List Formula) (row : List Symbol) (starts : List ℕ) → AreLaid l (f ∷ fs) row starts → HasOne starts (length row)
has_one l f fs row starts v = subst (λ s. HasOne s (length row)) (sym v.4) (omega (arith, ap length v.3, length-append v.0 v.1))

pub has_two : (l : Letters) (f g : Formula) (fs : List Formula) (row : List Symbol) (starts : List ℕ) → AreLaid l (g ∷ f ∷ fs) row starts
    → HasTwo starts (length row)
has_two l f g fs row starts v =
    let u = v.6 in
    subst (λ s. HasTwo s (length row)) (sym v.4) (subst (λ s. HasTwo (length v.0 ∷ s) (length row)) (sym u.4)
    (omega (arith, ap length u.3, length-append u.0 u.1), omega (arith, ap length v.3, length-append v.0 v.1)))

-- ---- an operator over one formula

module _ (l : Letters) (op : UnaryOp) (f : Formula) (fs : List Formula) where
  abbrev c₁ : Formula
  c₁ = residue l.new (taken_by fs) f

  pub unary_done : (row row' slice : List Symbol) (starts rest : List ℕ) (start : ℕ) (said said' : List Symbol) (next next' : ℕ)
      → IsDone l (f ∷ fs) row starts said next → starts ≡ start ∷ rest → slice ≡ row
      → ((c g : Formula) (r s : List Formula) → Writes l (take (length slice - start) (drop start slice)) c → Reads l said r (g ∷ s)
      → Reads l said' r (conjoined g (axioms₁ l.new next op c) ∷ s))
      → ((c : Formula) (front back : List Symbol) → row ≡ front ++ back → start ≡ length front → Writes l back c → (new : List Symbol) × (row' ≡ front ++ new)
      × Writes l new (residue₁ l.new next op c))
      → next' ≡ next + taken₁ op → IsDone l (Unary op f ∷ fs) row' starts said' next'
  unary_done row row' slice starts rest start said said' next next' done top whole says puts more =
      let v = done.laid in
      let at : start ≡ length v.0 = cc in
      let n : next ≡ taken_by fs + taken f = done.next_is in
      let p = puts c₁ v.0 v.1 v.3 at v.5 in
      let w : Writes l (take (length slice - start) (drop start slice)) c₁ =
      subst (λ xs. Writes l xs c₁) (sym (tail_is slice v.0 v.1 start (whole ∙ v.3) at)) v.5 in
      let z = l.new in
      record {
        laid = (v.0, p.0, v.2, p.1, v.4, subst (λ m. Writes l p.0 (residue₁ l.new m op c₁)) n p.2, v.6);
        said_is = λ g. subst (λ h. Reads l said' (g ∷ []) (h ∷ []))
            (ap (λ m. conjoined (conjoined g (axioms_by l.new fs ++ axioms l.new (taken_by fs) f)) (axioms₁ l.new m op c₁)) n
            ∙ (sym (conjoined-append g (axioms_by l.new fs ++ axioms l.new (taken_by fs) f) (axioms₁ l.new (taken_by fs + taken f) op c₁))
            ∙ ap (conjoined g) (append_assoc (axioms_by l.new fs) (axioms l.new (taken_by fs) f) (axioms₁ l.new (taken_by fs + taken f) op c₁))))
            (says c₁ (conjoined g (axioms_by l.new (f ∷ fs))) (g ∷ []) [] w (done.said_is g));
        next_is = omega (arith, more, done.next_is);
      }

-- ---- an operator over two formulas

-- one that takes a name, for which it says x
pub record IsPast₂ (op : BinaryOp) (x : Formula → Formula → Formula → Formula) : Type 0 where
  pub taken_one : taken₂ op ≡ 1
  pub residue_is : (z : ℕ → Formula) (k : ℕ) (c d : Formula) → residue₂ z k op c d ≡ z k
  pub axioms_one : (z : ℕ → Formula) (k : ℕ) (c d : Formula) → axioms₂ z k op c d ≡ x c d (z k) ∷ []

pub since_past : IsPast₂ Since since_axiom
since_past = record { taken_one = refl; residue_is = λ z k c d. refl; axioms_one = λ z k c d. refl }

pub trigger_past : IsPast₂ Trigger trigger_axiom
trigger_past = record { taken_one = refl; residue_is = λ z k c d. refl; axioms_one = λ z k c d. refl }

module _ (l : Letters) (op : BinaryOp) (a b : Formula) (fs : List Formula) where
  abbrev c₂ : Formula
  c₂ = residue l.new (taken_by fs) a

  abbrev d₂ : Formula
  d₂ = residue l.new (taken_by fs + taken a) b

  abbrev k₂ : ℕ
  k₂ = taken_by fs + taken a + taken b

  -- the axioms of both, and what is said of the operator
  all_said : (g : Formula) (xs : List Formula) → conjoined (conjoined g (axioms_by l.new (b ∷ a ∷ fs))) xs
      ≡ conjoined g (axioms_by l.new fs ++ (axioms l.new (taken_by fs) a ++ (axioms l.new (taken_by fs + taken a) b ++ xs)))
  all_said g xs =
      let x = axioms_by l.new fs in
      sym (conjoined-append g (axioms_by l.new (b ∷ a ∷ fs)) xs)
      ∙ ap (conjoined g) (append_assoc (axioms_by l.new fs ++ axioms l.new (taken_by fs) a) (axioms l.new (taken_by fs + taken a) b) xs
      ∙ append_assoc (axioms_by l.new fs) (axioms l.new (taken_by fs) a) (axioms l.new (taken_by fs + taken a) b ++ xs))

  pub binary_done : (row row' : List Symbol) (starts starts' : List ℕ) (second : ℕ) (said : List Symbol) (next : ℕ)
      → IsDone l (b ∷ a ∷ fs) row starts said next → starts ≡ second ∷ starts' → row' ≡ row ++ symbols.Binary op ∷ [] → IsPlain₂ op
      → IsDone l (Binary op a b ∷ fs) row' starts' said next
  binary_done row row' starts starts' second said next done top pushed plain =
      let v = done.laid in
      let u = v.6 in
      let more = symbols.Binary op ∷ [] in
      let kept : starts' ≡ v.2 = cc in
      let whole : row ≡ u.0 ++ (u.1 ++ v.1) = rejoined row u.0 u.1 v.1 v.0 v.3 u.3 in
      record {
        laid = (
          u.0,
          (u.1 ++ v.1) ++ symbols.Binary op ∷ [],
          u.2,
          pushed ∙ (ap (λ xs. xs ++ symbols.Binary op ∷ []) whole ∙ append_assoc u.0 (u.1 ++ v.1) (symbols.Binary op ∷ [])),
          kept ∙ u.4,
          λ s. subst (λ h. Reads l ((u.1 ++ v.1) ++ symbols.Binary op ∷ []) s (h ∷ s)) (sym (plain.residue_is l.new k₂ c₂ d₂))
              (reads_on l (u.1 ++ v.1) (symbols.Binary op ∷ []) s (d₂ ∷ c₂ ∷ s) (Binary op c₂ d₂ ∷ s)
              (reads_on l u.1 v.1 s (c₂ ∷ s) (d₂ ∷ c₂ ∷ s) (u.5 s) (v.5 (c₂ ∷ s))) refl),
          u.6,
        );
        said_is = λ g. subst (λ h. Reads l said (g ∷ []) (h ∷ []))
            (all_said g [] ∙ ap (λ xs. conjoined g (axioms_by l.new fs ++ (axioms l.new (taken_by fs) a ++ (axioms l.new (taken_by fs + taken a) b ++ xs))))
            (sym (plain.axioms_none l.new k₂ c₂ d₂)))
            (done.said_is g);
        next_is = omega (arith, done.next_is, plain.taken_none);
      }

  pub past_done : (x : Formula → Formula → Formula → Formula) (row row' slice slice' : List Symbol) (starts starts' rest : List ℕ) (first second : ℕ)
      (said said' : List Symbol) (next : ℕ)
      → IsDone l (b ∷ a ∷ fs) row starts said next → starts ≡ second ∷ starts' → starts' ≡ first ∷ rest → slice ≡ row → slice' ≡ row
      → ((c d g : Formula) (r s : List Formula) → Writes l (take (second - first) (drop first slice)) c
      → Writes l (take (length slice' - second) (drop second slice')) d → Reads l said r (g ∷ s)
      → Reads l said' r (Binary And g (x c d (l.new next)) ∷ s))
      → ((front back : List Symbol) → row ≡ front ++ back → first ≡ length front → row' ≡ front ++ symbols.New next ∷ [])
      → IsPast₂ op x → IsDone l (Binary op a b ∷ fs) row' starts' said' (next + 1)
  past_done x row row' slice slice' starts starts' rest first second said said' next done top below whole whole' says puts past =
      let v = done.laid in
      let u = v.6 in
      let kept : starts' ≡ v.2 = cc in
      let at₁ : first ≡ length u.0 = cc in
      let at₂ : second ≡ length v.0 = cc in
      let at₃ : second ≡ length (u.0 ++ u.1) = at₂ ∙ ap length u.3 in
      let joined : row ≡ u.0 ++ (u.1 ++ v.1) = rejoined row u.0 u.1 v.1 v.0 v.3 u.3 in
      let n : next ≡ k₂ = done.next_is in
      let w₁ : Writes l (take (second - first) (drop first slice)) c₂ =
      subst (λ xs. Writes l xs c₂) (sym (middle_is slice u.0 u.1 v.1 first second (whole ∙ joined) at₁ at₃)) u.5 in
      let w₂ : Writes l (take (length slice' - second) (drop second slice')) d₂ =
      subst (λ xs. Writes l xs d₂) (sym (tail_is slice' v.0 v.1 second (whole' ∙ v.3) at₂)) v.5 in
      record {
        laid = (
          u.0,
          symbols.New next ∷ [],
          u.2,
          puts u.0 (u.1 ++ v.1) joined at₁,
          kept ∙ u.4,
          λ s. ap (λ h. h ∷ s) (ap l.new n ∙ sym (past.residue_is l.new k₂ c₂ d₂)),
          u.6,
        );
        said_is = λ g. subst (λ h. Reads l said' (g ∷ []) (h ∷ []))
            (ap (λ m. conjoined (conjoined g (axioms_by l.new (b ∷ a ∷ fs))) (x c₂ d₂ (l.new m) ∷ [])) n
            ∙ (all_said g (x c₂ d₂ (l.new k₂) ∷ [])
            ∙ ap (λ xs. conjoined g (axioms_by l.new fs ++ (axioms l.new (taken_by fs) a ++ (axioms l.new (taken_by fs + taken a) b ++ xs))))
            (sym (past.axioms_one l.new k₂ c₂ d₂))))
            (says c₂ d₂ (conjoined g (axioms_by l.new (b ∷ a ∷ fs))) (g ∷ []) [] w₁ w₂ (done.said_is g));
        next_is = omega (arith, done.next_is, past.taken_one);
      }

-- what is left where one start is taken off
pub start_off : (popped : Option ℕ) (starts starts' : List ℕ) (n : ℕ) → MatchOption popped ((starts ≡ []) × (starts' ≡ [])) (λ start. starts ≡ start ∷ starts')
    → HasTwo starts n → (start : ℕ) × (starts ≡ start ∷ starts')
start_off None starts starts' n off two = absurd (subst (λ s. HasTwo s n) off.0 two)
start_off (Some start) starts starts' n off two = (start, off)
