-- The core that `solve` prints is one, and it tells which parts of the formula conflict.
use Rattle.std.proofs.Common.{◌≡◌, ◌∙◌, ◌++◌, ℕ, Bool, true, false, List, Option, Some, None, refl, sym, ap, subst}
use Rattle.std.proofs.lemmas.List.{append-nil}
use Rattle.std.specs.Prelude.{not}
use Rattle.ltl_syntax.specs.declared.node.Kind.{Kind}
use Rattle.ltl_syntax.specs.Formula.{Formula}
use Rattle.ltl_syntax.specs.Print.{text_of}
use Rattle.unravel.specs.Decision.{HasNoTrace}
use Rattle.core_extract.specs.Core.{tableau, IsRefuted, IsCore}
use Rattle.core_extract.specs.Laws.{CoreIsOne, CoreIsRefuted, CoreHasNoTrace, CoreIsLeast, CoreIsApart}
use Rattle.ltl_closure.specs.Run.{IsVerdict, Unsat}
use Rattle.black_top.specs.declared.output.Output.{Output}
use Rattle.black_top.specs.Answer.{Answer, unsat}
use Rattle.black_top.specs.Conflict.{ShowsCore, ShowsConflict, TellsConflict}
use Rattle.report.specs.Texts.{unsat_lines, certificate_text}
use Rattle.black_top.specs.Solve.{IsDecided, unsatisfiable}
use Rattle.black_top.specs.Inner.{Shows, AddsShown}

-- what is known of cores
pub record CoreLaws : Type 0 where
  pub refuted : CoreIsRefuted
  pub no_trace : CoreHasNoTrace
  pub least : CoreIsLeast
  pub apart : CoreIsApart

-- what is shown of a core is one
pub one_core : (core : Bool) (f : Formula) (kind : Kind) (asked : ℕ) (a b : Option (List ℕ)) → CoreIsOne → ShowsCore core f kind asked a
    → ShowsCore core f kind asked b → a ≡ b
one_core false f kind asked a b one h k = h ∙ sym k
one_core true f kind asked a b one (g, is, said) (g', is', said') = said ∙ ap (λ x. Some (text_of x)) (one kind asked f g g' is is') ∙ sym said'

conflict_of : (f g : Formula) (kind : Kind) (asked : ℕ) → CoreLaws → IsRefuted kind asked f → IsCore (tableau kind asked) f g
    → ShowsConflict f kind asked (text_of g)
conflict_of f g kind asked laws refuted (places, reached, same) =
    let is : IsCore (tableau kind asked) f g = (places, reached, same) in
    record {
      places = places;
      reached = reached;
      apart = laws.apart kind asked f places reached;
      printed = ap text_of same;
      refuted = subst (IsRefuted kind asked) same (laws.refuted kind asked f g refuted is);
      none = subst (λ x. HasNoTrace x kind) same (laws.no_trace kind asked f g refuted is);
      least = λ n kept. laws.least kind asked f places n reached kept;
    }

-- the core that is shown of a refuted formula tells which of its parts conflict
pub tells_conflict : (core : Bool) (f : Formula) (kind : Kind) (asked : ℕ) (text : Option (List ℕ)) → CoreLaws → IsRefuted kind asked f
    → ShowsCore core f kind asked text → TellsConflict core f kind asked text
tells_conflict false f kind asked text laws refuted h = h
tells_conflict true f kind asked text laws refuted (g, is, same) = (text_of g, same, conflict_of f g kind asked laws refuted is)

-- where no core is asked for, none is shown
pub coreless : (core : Bool) (f : Formula) (kind : Kind) (asked : ℕ) → not core ≡ true → ShowsCore core f kind asked None
coreless false f kind asked e = refl
coreless true f kind asked e = let no : false ≡ true = e in absurd (cc)

-- where one is asked for, its text is shown
pub core_shown : (core : Bool) (f g : Formula) (kind : Kind) (asked : ℕ) (text : List ℕ) → not core ≡ false → IsCore (tableau kind asked) f g → text ≡ text_of g
    → ShowsCore core f kind asked (Some text)
core_shown true f g kind asked text e is same = (g, is, ap Some same)
core_shown false f g kind asked text e is same = let no : true ≡ false = e in absurd (cc)

-- an output that shows UNSAT with a core, and a certificate behind it where one is asked for
pub unsat_shown : (f : Formula) (kind : Kind) (asked limit k : ℕ) (core cert : Bool) (begun out : Output) (conflict found : Option (List ℕ))
    → IsVerdict f kind limit (Unsat k) → ShowsCore core f kind asked found → conflict ≡ found
    → Shows begun (unsat k conflict None) → out.status ≡ begun.status → AddsShown cert f kind k begun.text.items out.text.items
    → (a : Answer) × IsDecided f kind asked limit core cert a × Shows out a
unsat_shown f kind asked limit k core cert begun out conflict found verdict is same shows status adds =
    let lines : begun.text.items ≡ unsat_lines k conflict = shows.text ∙ append-nil (unsat_lines k conflict) in (
      unsat k conflict adds.shown,
      unsatisfiable k conflict adds.shown verdict (subst (ShowsCore core f kind asked) (sym same) is) adds.certifies,
      record { status = status ∙ shows.status; text = adds.added ∙ ap (λ x. x ++ certificate_text adds.shown) lines },
    )
