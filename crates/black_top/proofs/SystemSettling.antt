-- From the limit, and from the answer on the formulas of a table, to the answer of `system`.
use Rattle.std.proofs.Common.{◌≡◌, ℕ, ◌+◌, ◌<◌, ◌≤◌, ◌⊎◌, inl, inr, Bool, true, false, Option, None, Result, Ok, Err, IfOk, OnOk, refl, sym, subst, arith}
use Rattle.ltl_syntax.specs.declared.node.Kind.TheVariants as kinds
use Rattle.ltl_syntax.specs.Formula.{Formula}
use Rattle.ltl_syntax.specs.Size.{formula_size}
use Rattle.system_check.specs.System.{IsSystem, whole_of}
use Rattle.system_check.specs.Joining.{whole_size}
use Rattle.report.specs.declared.fault.Fault.TheVariants as faults
use Rattle.report.specs.Texts.{Proof}
use Rattle.black_top.specs.declared.output.Output.{Output}
use Rattle.black_top.specs.Answer.{Answer, refused}
use Rattle.black_top.specs.Inner.{IsLimit, IsTooDeep, Shows}
use Rattle.black_top.specs.System.{ProvesWhole, IsDecided, IsSettled, too_large, too_deep, decided}
use Rattle.black_top.specs.declared.commands.system.ReadPart.{ReadPart}
use Rattle.black_top.specs.SystemInner.{IsHeld, IsOfFormula}

-- the depth that was asked for is refused
pub refused_letters : (wanted : Option ℕ) (cert : Bool) (f g h : Formula) (d : ℕ) → whole_size f g h ≤ 16384 → IsSystem f g
    → IsTooDeep (whole_of f g h) kinds.Infinite wanted d
    → IsSettled wanted cert f g h (refused (faults.Letters d))
refused_letters wanted cert f g h d few forms (n, is, force, less) = too_deep n d few forms is force less

-- the answer at the limit
pub settled_at : (wanted : Option ℕ) (cert : Bool) (f g h : Formula) (d : ℕ) → whole_size f g h ≤ 16384 → IsSystem f g
    → IsLimit (whole_of f g h) kinds.Infinite wanted d
    → (a : Answer) → IsDecided f g h d cert a → IsSettled wanted cert f g h a
settled_at wanted cert f g h d few forms (force, reached) a there = decided d a few forms force reached there

-- a part that is too large alone makes the whole formula too large
pub large : (wanted : Option ℕ) (cert : Bool) (f g h : Formula) (m n k size : ℕ) → m ≡ formula_size f → n ≡ formula_size g → k ≡ formula_size h
    → size ≡ m + n + k + 4 → 16384 < m + n + k
    → IsSettled wanted cert f g h (refused (faults.Nodes size))
large wanted cert f g h m n k size a b c e more =
    let same : whole_size f g h ≡ size = omega (arith, a, b, c, e) in
    subst (λ s. IsSettled wanted cert f g h (refused (faults.Nodes s))) same (too_large (omega (arith, a, b, c, more)))

-- what shows an answer for each start, step and goal that there may be
pub shown_for : {E : Type 0} (Are : Formula → Formula → Formula → Type 0) (Comes : Formula → Formula → Formula → Answer → Type 0) (answer : Answer)
    (r : Result Output E) → ((f g h : Formula) → Are f g h → Comes f g h answer)
    → IfOk r (λ out. Shows out answer) → IfOk r (λ out. (f g h : Formula) → Are f g h → (a : Answer) × Comes f g h a × Shows out a)
shown_for Are Comes answer (Ok out) comes shows = λ f g h are. (answer, comes f g h are, shows)
shown_for Are Comes answer (Err e) comes shows = tt

-- the same where it comes by what an output says that is there
pub shown_for_where : {E : Type 0} (Are : Formula → Formula → Formula → Type 0) (Comes : Formula → Formula → Formula → Answer → Type 0) (Fact : Type 0)
    (answer : Answer) (r : Result Output E)
    → (Fact → (f g h : Formula) → Are f g h → Comes f g h answer) → OnOk r Fact → IfOk r (λ out. Shows out answer)
    → IfOk r (λ out. (f g h : Formula) → Are f g h → (a : Answer) × Comes f g h a × Shows out a)
shown_for_where Are Comes Fact answer (Ok out) comes fact shows = λ f g h are. (answer, comes fact f g h are, shows)
shown_for_where Are Comes Fact answer (Err e) comes fact shows = tt

-- where no certificate is asked for, none is shown, and where one is, the lawful text is
pub unproved : (cert : Bool) (f : Formula) (k : ℕ) → cert ≡ false → ProvesWhole cert f k None
unproved cert f k e = subst (λ b. ProvesWhole b f k None) (sym e) refl

pub proved_so : (cert : Bool) (f : Formula) (k : ℕ) (proof : Option Proof) → cert ≡ true → ProvesWhole true f k proof → ProvesWhole cert f k proof
proved_so cert f k proof e h = subst (λ b. ProvesWhole b f k proof) (sym e) h

-- what shows HOLDS with a proof that is found for the formula of the table does so for each start, step and goal whose whole formula it is
pub shown_by : {E : Type 0} (Are : Formula → Formula → Formula → Type 0) (Comes : Formula → Formula → Formula → Answer → Type 0)
    (Proves : Option Proof → Type 0) (answer : Option Proof → Answer) (r : Result Output E)
    → ((f g h : Formula) (proof : Option Proof) → Are f g h → Proves proof → Comes f g h (answer proof))
    → IfOk r (λ out. (proof : Option Proof) × Proves proof × Shows out (answer proof))
    → IfOk r (λ out. (f g h : Formula) → Are f g h → (a : Answer) × Comes f g h a × Shows out a)
shown_by Are Comes Proves answer (Ok out) comes (proof, proves, shows) = λ f g h are. (answer proof, comes f g h proof are proves, shows)
shown_by Are Comes Proves answer (Err e) comes shows = tt

-- the same under two premises
pub shown_both : {E : Type 0} (Are Also : Formula → Formula → Formula → Type 0) (Comes : Formula → Formula → Formula → Answer → Type 0) (answer : Answer)
    (r : Result Output E)
    → ((f g h : Formula) → Are f g h → Also f g h → Comes f g h answer) → IfOk r (λ out. Shows out answer)
    → IfOk r (λ out. (f g h : Formula) → Are f g h → Also f g h → (a : Answer) × Comes f g h a × Shows out a)
shown_both Are Also Comes answer (Ok out) comes shows = λ f g h are also. (answer, comes f g h are also, shows)
shown_both Are Also Comes answer (Err e) comes shows = tt

-- one answer that comes for each, where another does
pub shown_under : {E : Type 0} (Are Also : Formula → Formula → Formula → Type 0) (First Then : Formula → Formula → Formula → Answer → Type 0)
    (r : Result Output E)
    → ((f g h : Formula) (a : Answer) → Are f g h → Also f g h → First f g h a → Then f g h a)
    → IfOk r (λ out. (f g h : Formula) → Are f g h → (a : Answer) × First f g h a × Shows out a)
    → IfOk r (λ out. (f g h : Formula) → Are f g h → Also f g h → (a : Answer) × Then f g h a × Shows out a)
shown_under Are Also First Then (Ok out) more each = λ f g h are also. let (a, comes, shows) = each f g h are in (a, more f g h a are also comes, shows)
shown_under Are Also First Then (Err e) more each = tt

-- the size that is named
pub large_at : (wanted : Option ℕ) (cert : Bool) (f g h : Formula) (size : ℕ) → size ≡ whole_size f g h
    → 16384 < size → IsSettled wanted cert f g h (refused (faults.Nodes size))
large_at wanted cert f g h size same more =
    subst (λ s. IsSettled wanted cert f g h (refused (faults.Nodes s))) (sym same) (too_large (subst (λ s. 16384 < s) same more))

-- one of the three parts is held in no table
pub large_shown : {E : Type 0} (wanted : Option ℕ) (cert : Bool) (start step goal : ReadPart) (size : ℕ) (r : Result Output E)
    → size ≡ start.size + step.size + goal.size + 4 → (start.held ≡ None) ⊎ (step.held ≡ None) ⊎ (goal.held ≡ None)
    → IfOk r (λ out. Shows out (refused (faults.Nodes size)))
    → IfOk r
    (λ out. (f g h : Formula) → IsOfFormula f start → IsOfFormula g step → IsOfFormula h goal → (a : Answer) × IsSettled wanted cert f g h a × Shows out a)
large_shown wanted cert start step goal size (Err e) is none shows = tt
large_shown wanted cert start step goal size (Ok out) is none shows = λ f g h of of' of''. (
  refused (faults.Nodes size),
  large wanted cert f g h start.size step.size goal.size size of.size of'.size of''.size is (above f g h of of' of'' none),
  shows,
)
  where
    above : (f g h : Formula) → IsOfFormula f start → IsOfFormula g step → IsOfFormula h goal → (start.held ≡ None) ⊎ (step.held ≡ None) ⊎ (goal.held ≡ None)
        → 16384 < start.size + step.size + goal.size
    above f g h of of' of'' (inl e) = let more = subst (IsHeld f) e of.held in omega (arith, more, of.size)
    above f g h of of' of'' (inr (inl e)) = let more = subst (IsHeld g) e of'.held in omega (arith, more, of'.size)
    above f g h of of' of'' (inr (inr e)) = let more = subst (IsHeld h) e of''.held in omega (arith, more, of''.size)
