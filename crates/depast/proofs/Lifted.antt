-- What a lifted trace and a lowered one satisfy.
use Rattle.std.proofs.Common.{◌≡◌, ℕ, ◌+◌, ◌<◌, ◌↔◌, sym, subst, arith, slice_index_or, false, Contains}
use Rattle.ltl_syntax.specs.Formula.{Formula, Const}
use Rattle.ltl_word.specs.declared.trace.Trace.{Trace}
use Rattle.ltl_word.specs.Trace.{IsTrace, IsPosition}
use Rattle.ltl_word.specs.Claims.{Claim}
use Rattle.ltl_word.specs.Holds.{Holds, Satisfies, name_of}
use Rattle.ltl_word.specs.Depth.{past_depth}
use Rattle.ltl_word.proofs.Agreement.{Same}
use Rattle.depast.specs.Depast.{taken, residue, axioms, letter_for, depast}
use Rattle.depast.specs.Lifting.{meanings, IsLifted, IsLowered}
use Rattle.depast.specs.Laws.{IsPart}
use Rattle.depast.proofs.Shapes.{first_place, shaped_trace, same_places}
use Rattle.depast.proofs.Telling.{letter_old}
use Rattle.depast.proofs.Residues.{LettersAgree, AreMeant, are_meant, length-meanings, stands, part_stands, residue_from, conjoined_from, conjoined_to}
use Rattle.depast.proofs.Residues.{hold_each}

module _ (f : Formula) (t u : Trace) (good : IsTrace t) (l : IsLifted f t u) where
  fine : IsTrace u
  fine = shaped_trace (past_depth f) t u l.shape good

  at0 : IsPosition u 0
  at0 = first_place u fine

  places : IsPosition u ≡ IsPosition t
  places = same_places (past_depth f) t u l.shape

  -- positions of the one are those of the other
  pub there : (i : ℕ) → IsPosition u i → IsPosition t i
  there i at = subst (λ (R : Claim). R i) places at

  pub back : (i : ℕ) → IsPosition t i → IsPosition u i
  back i at = subst (λ (R : Claim). R i) (sym places) at

  letters : LettersAgree t u good fine at0 places (letter_for f) f
  letters p h = record {
    to = λ i q c. (l.old_names i (there i q) (name_of p) (letter_old f p h)).0 c;
    back = λ i q c. (l.old_names i (there i q) (name_of p) (letter_old f p h)).1 c;
  }

  meant : AreMeant t u good fine at0 places (letter_for f) 0 (meanings f)
  meant = are_meant t u good fine at0 places (letter_for f) 0 (meanings f) (λ j lt.
      let e : 0 + j ≡ j = omega arith in
      let few : j < taken f = omega (arith, length-meanings t u good fine at0 places (letter_for f) f) in
      subst (λ k. Same (IsPosition u) (Holds u (letter_for f k)) (Holds t (slice_index_or (meanings f) j (Const false)))) (sym e) (record {
        to = λ i q c. (l.new_names i (there i q) j few).0 c;
        back = λ i q c. (l.new_names i (there i q) j few).1 c;
      }))

  pub lifted_part : (g : Formula) (m : ℕ) → IsPart f 0 g m → (i : ℕ) → IsPosition t i → Holds u (residue (letter_for f) m g) i ↔ Holds t g i
  lifted_part g m part i at =
      let s = part_stands t u good fine at0 places (letter_for f) f 0 g m part letters meant in
      (s.to i (back i at), s.back i (back i at))

  pub lifted_axiom : (x : Formula) → Contains (axioms (letter_for f) 0 f) x → Satisfies u x
  lifted_axiom x c =
      hold_each t u good fine at0 places (letter_for f) (axioms (letter_for f) 0 f) x (stands t u good fine at0 places (letter_for f) f 0 letters meant).1 c

  pub lifted_satisfies : Satisfies t f → Satisfies u (depast f)
  lifted_satisfies h =
      let s = stands t u good fine at0 places (letter_for f) f 0 letters meant in
      conjoined_to t u good fine at0 places (letter_for f) (axioms (letter_for f) 0 f) (residue (letter_for f) 0 f) (s.0.back 0 at0 h) s.1

-- u is lowered to t
module _ (f : Formula) (u t : Trace) (fine : IsTrace u) (l : IsLowered f u t) where
  good : IsTrace t
  good = shaped_trace 0 u t l.shape fine

  first : IsPosition u 0
  first = first_place u fine

  same : IsPosition u ≡ IsPosition t
  same = sym (same_places 0 u t l.shape)

  lowered_letters : LettersAgree t u good fine first same (letter_for f) f
  lowered_letters p h = record {
    to = λ i q c. (l.old_names i q (name_of p) (letter_old f p h)).1 c;
    back = λ i q c. (l.old_names i q (name_of p) (letter_old f p h)).0 c;
  }

  pub lowered_satisfies : Satisfies u (depast f) → Satisfies t f
  lowered_satisfies h =
      let w = conjoined_from t u good fine first same (letter_for f) (axioms (letter_for f) 0 f) (residue (letter_for f) 0 f) h in
      (residue_from t u good fine first same (letter_for f) f 0 lowered_letters w.1).to 0 first w.0
