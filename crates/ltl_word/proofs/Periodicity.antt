-- On an infinite trace a formula repeats with the loop: by h loops after the stem, where its past operators are nested at most h deep.
use Rattle.std.proofs.Common.{◌≡◌, ℕ, zero, suc, ◌+◌, ◌-◌, ◌<◌, ◌≤◌, ◌*◌, ◌%◌, max, subst, ap, arith, sym, ◌∙◌, length, le-ltb, ltb, List, slice_index_or}
use Rattle.std.proofs.Common.{Contains, [], length, false}
use Rattle.std.proofs.Math.Nat.{add-mod_right}
use Rattle.std.proofs.lemmas.Bool.{cond-false}
use Rattle.ltl_syntax.specs.Shape.{shape}
use Rattle.ltl_syntax.specs.Formula.{Atom, Formula, Const, Letter, Unary, Binary}
use Rattle.ltl_syntax.specs.declared.node.BinaryOp.TheVariants.{And, Iff, Implies, Or, Release, Since, StrongRelease, Trigger, Until, WeakUntil}
use Rattle.ltl_word.specs.declared.trace.Trace.TheVariants.{Infinite}
use Rattle.ltl_word.specs.Trace.{IsPosition, Names, state_at}
use Rattle.ltl_word.specs.Claims.{Claim}
use Rattle.ltl_word.specs.Holds.{Holds, name_of}
use Rattle.ltl_word.specs.Depth.{steps_back, past_depth}
use Rattle.ltl_word.proofs.Reached.{OfShape-repeats}
use Rattle.ltl_word.proofs.Repeats.{Repeats, And-repeats, Or-repeats, Implies-repeats, Until-repeats, Released-repeats, Since-repeats, Triggered-repeats}

module _ (stem loop_part : List Names) (some : 0 < length loop_part) where
  pub state-repeats : (i : ℕ) → length stem ≤ i → state_at (Infinite stem loop_part) (i + length loop_part) ≡ state_at (Infinite stem loop_part) i
  state-repeats i h =
      let low : ltb i (length stem) ≡ false = le-ltb i (length stem) h in
      let high : ltb (i + length loop_part) (length stem) ≡ false = le-ltb (i + length loop_part) (length stem) (omega arith) in
      let e : i + length loop_part - length stem ≡ (i - length stem) + length loop_part = omega arith in
      cond-false _ _ _ high ∙ (ap (λ n. slice_index_or loop_part (n % length loop_part) []) e
      ∙ (ap (λ n. slice_index_or loop_part n []) (add-mod_right (i - length stem) (length loop_part)) ∙ sym (cond-false _ _ _ low)))

  Letter-repeats : (p : Atom) (n : ℕ) → length stem ≤ n → Repeats (Holds (Infinite stem loop_part) (Letter p)) (length loop_part) n
  Letter-repeats p n le = record {
    later = λ i h a. subst (λ s. Contains s (name_of p)) (sym (state-repeats i (omega arith))) a;
    earlier = λ i h a. subst (λ s. Contains s (name_of p)) (state-repeats i (omega arith)) a;
  }

  pub Position-repeats : (n : ℕ) → Repeats (IsPosition (Infinite stem loop_part)) (length loop_part) n
  Position-repeats n = record { later = λ i h a. a; earlier = λ i h a. a }

  -- where a past operator stands, the depth is no zero
  in_past : {A : Claim} (d : ℕ) → ((h : ℕ) → d ≤ h → Repeats A (length loop_part) (length stem + h * length loop_part + length loop_part)) → (h : ℕ)
      → suc d ≤ h → Repeats A (length loop_part) (length stem + h * length loop_part)
  in_past {A} d f zero le = absurd (omega arith)
  in_past {A} d f (suc h) le =
      let e : length stem + h * length loop_part + length loop_part ≡ length stem + suc h * length loop_part = omega arith in
      subst (Repeats A (length loop_part)) e (f h (omega arith))

  -- and so one that looks w back is w deep
  in_far_past : {A : Claim} (w d : ℕ) → ((h : ℕ) → d ≤ h → Repeats A (length loop_part) (length stem + h * length loop_part + w * length loop_part)) → (h : ℕ)
      → w + d ≤ h → Repeats A (length loop_part) (length stem + h * length loop_part)
  in_far_past {A} w d f h le =
      let s : (h - w) + w ≡ h = omega arith in
      let e : length stem + (h - w) * length loop_part + w * length loop_part ≡ length stem + ((h - w) + w) * length loop_part = omega arith in
      subst (λ k. Repeats A (length loop_part) (length stem + k * length loop_part)) s (subst (Repeats A (length loop_part)) e (f (h - w) (omega arith)))

  pub Holds-repeats : (f : Formula) (h : ℕ)
      → past_depth f ≤ h → Repeats (Holds (Infinite stem loop_part) f) (length loop_part) (length stem + h * length loop_part)
  Holds-repeats (Const b) h le = record { later = λ i h a. a; earlier = λ i h a. a }
  Holds-repeats (Letter p) h le = Letter-repeats p (length stem + h * length loop_part) (omega arith)
  Holds-repeats (Unary op a) h le = in_far_past (steps_back (shape op)) (past_depth a)
      (λ d k. OfShape-repeats _ _ _ _ some (Position-repeats _) (Holds-repeats a d k) (shape op)) h le
  Holds-repeats (Binary And a b) h le = And-repeats (Holds-repeats a h (omega arith)) (Holds-repeats b h (omega arith))
  Holds-repeats (Binary Or a b) h le = Or-repeats (Holds-repeats a h (omega arith)) (Holds-repeats b h (omega arith))
  Holds-repeats (Binary Implies a b) h le = Implies-repeats (Holds-repeats a h (omega arith)) (Holds-repeats b h (omega arith))
  Holds-repeats (Binary Iff a b) h le = And-repeats (Implies-repeats (Holds-repeats a h (omega arith)) (Holds-repeats b h (omega arith)))
      (Implies-repeats (Holds-repeats b h (omega arith)) (Holds-repeats a h (omega arith)))
  Holds-repeats (Binary Until a b) h le = Until-repeats _ _ _ _ _ (Position-repeats _) (Holds-repeats a h (omega arith)) (Holds-repeats b h (omega arith))
  Holds-repeats (Binary Release a b) h le = Released-repeats _ _ _ _ _ (Position-repeats _) (Holds-repeats a h (omega arith)) (Holds-repeats b h (omega arith))
  Holds-repeats (Binary WeakUntil a b) h le = Released-repeats _ _ _ _ _ (Position-repeats _) (Holds-repeats b h (omega arith))
      (Or-repeats (Holds-repeats a h (omega arith)) (Holds-repeats b h (omega arith)))
  Holds-repeats (Binary StrongRelease a b) h le = Until-repeats _ _ _ _ _ (Position-repeats _) (Holds-repeats b h (omega arith))
      (And-repeats (Holds-repeats a h (omega arith)) (Holds-repeats b h (omega arith)))
  Holds-repeats (Binary Since a b) h le =
      in_past (max (past_depth a) (past_depth b)) (λ d k. Since-repeats _ _ _ _ some (Holds-repeats a d (omega arith)) (Holds-repeats b d (omega arith))) h le
  Holds-repeats (Binary Trigger a b) h le = in_past (max (past_depth a) (past_depth b))
      (λ d k. Triggered-repeats _ _ _ _ some (Holds-repeats a d (omega arith)) (Holds-repeats b d (omega arith))) h le
