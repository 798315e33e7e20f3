-- What is still to be printed, with one piece more.
use Rattle.std.proofs.Common.{◌≡◌, ℕ, ◌+◌, List, [], ◌∷◌, ◌++◌, ◌∙◌, ap, arith, append_assoc, rules}
use Rattle.ltl_syntax.specs.Formula.{Formula}
use Rattle.claim_reading.specs.declared.printing.Work.{Work}
use Rattle.claim_reading.specs.Stack.{work_text, works_text, work_size, works_size, IsWork, AreWorks}

pub works_text_push : (f : Formula) (ws : List Work) (w : Work) → works_text f (ws ++ w ∷ []) ≡ work_text f w ++ works_text f ws
works_text_push f [] w = search rules
works_text_push f (x ∷ ws) w = ap (λ text. text ++ work_text f x) (works_text_push f ws w) ∙ append_assoc (work_text f w) (works_text f ws) (work_text f x)

pub works_size_push : (f : Formula) (ws : List Work) (w : Work) → works_size f (ws ++ w ∷ []) ≡ work_size f w + works_size f ws
works_size_push f [] w = omega arith
works_size_push f (x ∷ ws) w = omega (arith, works_size_push f ws w)

pub are_works_push : (n : ℕ) (ws : List Work) (w : Work) → AreWorks n ws → IsWork n w → AreWorks n (ws ++ w ∷ [])
are_works_push n [] w a i = (i, tt)
are_works_push n (x ∷ ws) w a i = (a.0, are_works_push n ws w a.1 i)

pub are_works_split : (n : ℕ) (ws : List Work) (w : Work) → AreWorks n (ws ++ w ∷ []) → AreWorks n ws × IsWork n w
are_works_split n [] w a = (tt, a.0)
are_works_split n (x ∷ ws) w a = let r = are_works_split n ws w a.1 in ((a.0, r.0), r.1)
