-- From what the parts are read as to the answer of `system`.
use Rattle.std.proofs.Common.{ℕ, ◌<◌, ◌≤◌, Bool, List, Option, Result, Ok, Err, IfOk, subst, arith}
use Rattle.ltl_syntax.specs.Formula.{Formula}
use Rattle.report.specs.declared.fault.Fault.{Fault}
use Rattle.report.specs.declared.fault.Fault.TheVariants as faults
use Rattle.black_top.specs.declared.output.Output.{Output}
use Rattle.black_top.specs.declared.parts.ThreeParts.{ThreeParts as Three}
use Rattle.black_top.specs.declared.commands.system.ReadPart.{ReadPart}
use Rattle.black_top.specs.Answer.{Answer, refused}
use Rattle.black_top.specs.Inner.{Shows}
use Rattle.black_top.specs.System.{AreParts, part_bytes, IsFaulty, HasFault, in_start, in_step, in_goal, IsSettled, IsSystemAnswer, faulty, settled, too_long}
use Rattle.black_top.specs.SystemInner.{AreCut, HasSmallPlaces, IsRead, IsOfFormula}
use Rattle.black_top.proofs.ThreeParts.{parts_length}

-- an answer that is shown for each input with these parts
abbrev pub IsShownFor : Option ℕ → Bool → Three → Output → Type 0
IsShownFor wanted cert parts out = (bytes : List ℕ) → AreCut bytes parts → (a : Answer) × IsSystemAnswer wanted cert bytes a × Shows out a

pub cut_parts : (bytes : List ℕ) (parts : Three) → AreCut bytes parts → AreParts bytes parts.start.now parts.step.now parts.goal.now
cut_parts bytes parts h = record { behind = h.behind; first = h.first; second = h.second }

-- the places are small where the parts are
pub small_places : (bytes : List ℕ) (parts : Three) → AreCut bytes parts
    → part_bytes parts.start.now parts.step.now parts.goal.now ≤ 1048576 → HasSmallPlaces parts
small_places bytes parts h short =
    let long = parts_length bytes parts h in
    record { step = omega (arith, h.step_place, long.1, short); goal = omega (arith, h.goal_place, long.1, short) }

module _ (wanted : Option ℕ) (cert : Bool) (parts : Three) where
  faulty_shown : {E : Type 0} (r : Result Output E) (fault : Fault) → part_bytes parts.start.now parts.step.now parts.goal.now ≤ 1048576
      → ((bytes : List ℕ) (h : AreCut bytes parts) → HasFault bytes h.behind parts.start.now parts.step.now parts.goal.now fault)
      → IfOk r (λ out. Shows out (refused fault)) → IfOk r (IsShownFor wanted cert parts)
  unfolding cut_parts
  faulty_shown (Ok out) fault short has shows =
      λ bytes h. (refused fault, faulty parts.start.now parts.step.now parts.goal.now fault (cut_parts bytes parts h) short (has bytes h), shows)
  faulty_shown (Err e) fault short has shows = tt

  module _ {E : Type 0} (r : Result Output E) (fault : Fault) (short : part_bytes parts.start.now parts.step.now parts.goal.now ≤ 1048576)
      (shows : IfOk r (λ out. Shows out (refused fault))) where
    pub start_faulty : IsFaulty parts.start.now 0 fault → IfOk r (IsShownFor wanted cert parts)
    start_faulty is = faulty_shown r fault short (λ bytes h. in_start is) shows

    pub step_faulty : (start : ReadPart) → IsRead parts.start.now start → IsFaulty parts.step.now parts.step_place fault → IfOk r (IsShownFor wanted cert parts)
    step_faulty start (f, reads, of) is =
        faulty_shown r fault short (λ bytes h. in_step f reads (subst (λ n. IsFaulty parts.step.now n fault) h.step_place is)) shows

    pub goal_faulty : (start step : ReadPart) → IsRead parts.start.now start → IsRead parts.step.now step → IsFaulty parts.goal.now parts.goal_place fault
        → IfOk r (IsShownFor wanted cert parts)
    goal_faulty start step (f, reads, of) (g, reads', of') is =
        faulty_shown r fault short (λ bytes h. in_goal f g reads reads' (subst (λ n. IsFaulty parts.goal.now n fault) h.goal_place is)) shows

  -- the answer to the formulas that the parts read as
  pub joined_shown : {E : Type 0} (r : Result Output E) (start step goal : ReadPart) → part_bytes parts.start.now parts.step.now parts.goal.now ≤ 1048576
      → IsRead parts.start.now start → IsRead parts.step.now step → IsRead parts.goal.now goal
      → IfOk r (λ out. (f g h : Formula) → IsOfFormula f start → IsOfFormula g step → IsOfFormula h goal → (a : Answer) × IsSettled wanted cert f g h a
      × Shows out a) → IfOk r (IsShownFor wanted cert parts)
  joined_shown (Ok out) start step goal short (f, reads, of) (g, reads', of') (h, reads'', of'') shows = λ bytes cut.
      let (a, there, shown) = shows f g h of of' of'' in
      (a, settled parts.start.now parts.step.now parts.goal.now f g h a (cut_parts bytes parts cut) short reads reads' reads'' there, shown)
  joined_shown (Err e) start step goal short s t u shows = tt

  -- a text that is too long, and an answer at the input
  pub text_shown : {E : Type 0} (r : Result Output E) (bytes : List ℕ) → AreCut bytes parts → 1048576 < part_bytes parts.start.now parts.step.now parts.goal.now
      → IfOk r (λ out. Shows out (refused faults.Text))
      → IfOk r (λ out. (a : Answer) × IsSystemAnswer wanted cert bytes a × Shows out a)
  text_shown (Ok out) bytes h long shows = (refused faults.Text, too_long parts.start.now parts.step.now parts.goal.now (cut_parts bytes parts h) long, shows)
  text_shown (Err e) bytes h long shows = tt
