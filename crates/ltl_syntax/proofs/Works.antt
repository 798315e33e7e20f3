-- What is still to be printed, with one piece more.
use Rattle.std.proofs.Common.{◌≡◌, ◌+◌, List, [], ◌∷◌, ◌++◌, ◌∙◌, ap, arith, append_assoc, rules}
use Rattle.ltl_syntax.specs.declared.printing.Work.{Work}
use Rattle.ltl_syntax.specs.Table.{Table}
use Rattle.ltl_syntax.specs.Stack.{work_text, works_text, work_size, works_size, IsWork, AreWorks}

pub works_text_push : (t : Table) (ws : List Work) (w : Work) → works_text t (ws ++ w ∷ []) ≡ work_text t w ++ works_text t ws
works_text_push t [] w = search rules
works_text_push t (x ∷ ws) w = ap (λ text. text ++ work_text t x) (works_text_push t ws w) ∙ append_assoc (work_text t w) (works_text t ws) (work_text t x)

pub works_size_push : (t : Table) (ws : List Work) (w : Work) → works_size t (ws ++ w ∷ []) ≡ work_size t w + works_size t ws
works_size_push t [] w = omega arith
works_size_push t (x ∷ ws) w = omega (arith, works_size_push t ws w)

pub are_works_push : (t : Table) (ws : List Work) (w : Work) → AreWorks t ws → IsWork t w → AreWorks t (ws ++ w ∷ [])
are_works_push t [] w a i = (i, tt)
are_works_push t (x ∷ ws) w a i = (a.0, are_works_push t ws w a.1 i)

pub are_works_split : (t : Table) (ws : List Work) (w : Work) → AreWorks t (ws ++ w ∷ []) → AreWorks t ws × IsWork t w
are_works_split t [] w a = (tt, a.0)
are_works_split t (x ∷ ws) w a = let r = are_works_split t ws w a.1 in ((a.0, r.0), r.1)
