-- From the ring's text and the verdict on it to its summary; and a ring has one summary.
use Rattle.std.proofs.Common.{◌≡◌, ◌∙◌, ℕ, List, length, sym, ap, ap₂, subst, arith}
use Rattle.ltl_syntax.specs.declared.node.Kind.TheVariants as kinds
use Rattle.ltl_syntax.specs.Formula.{Formula, nodes_in}
use Rattle.ltl_syntax.specs.Print.{text_of}
use Rattle.ltl_parser.specs.Text.{ReadsText, IsAccepted}
use Rattle.ltl_closure.specs.Closure.{closure}
use Rattle.ltl_closure.specs.Entries.{ClosureValue}
use Rattle.ltl_closure.specs.Run.{Verdict, IsVerdict}
use Rattle.ltl_run.specs.Laws.{VerdictIsOne}
use Rattle.enc_layout.specs.Letters.{LayoutValue, letters_through}
use Rattle.enc_layout.specs.Clauses.{counts, layout_of}
use Rattle.report.specs.declared.fault.Fault.{Fault}
use Rattle.report.specs.declared.summary.Shown.{Shown}
use Rattle.report.specs.declared.summary.Summary.{Summary}
use Rattle.black_top.specs.Answer.{Answer, summary}
use Rattle.program_input.specs.Reading.{RefusesPart}
use Rattle.enc_layout.specs.Limit.{layout, IsInForce}
use Rattle.black_top.specs.Demo.{ring, shown_verdict, summary_of, IsShown, shown}
use Rattle.program_input.proofs.OneText.{TextLaws, refused_not_accepted}

-- ---- the text

-- the ring's text is not refused
pub not_refused : (n : ℕ) (text : List ℕ) (fault : Fault) → TextLaws → IsAccepted (text_of (ring n)) (ring n) → text ≡ text_of (ring n)
    → RefusesPart text fault → ⊥
not_refused n text fault laws accepted is refuses =
    refused_not_accepted (text_of (ring n)) laws fault (ring n) (subst (λ t. RefusesPart t fault) is refuses) accepted

-- it reads as the ring
pub reads_ring : (n : ℕ) (text : List ℕ) (f : Formula) → ((t : List ℕ) (g h : Formula) → ReadsText t g → ReadsText t h → g ≡ h)
    → IsAccepted (text_of (ring n)) (ring n) → text ≡ text_of (ring n) → IsAccepted text f → f ≡ ring n
reads_ring n text f one accepted is read = one (text_of (ring n)) f (ring n) (subst (λ t. ReadsText t f) is read.reads) accepted.reads

-- ---- the summary

-- a summary of these counts
abbrev summary_with : ℕ → ℕ → ℕ → ℕ → Shown → Summary
summary_with number nodes entries letters verdict = record { number = number; nodes = nodes; entries = entries; letters = letters; verdict = verdict }

laid_same : (c : ClosureValue) (n : ℕ) → c.formula ≡ ring n → c.kind ≡ kinds.Infinite → layout_of c ≡ layout (ring n) kinds.Infinite
laid_same c n formula kind = ap₂ layout formula kind

pub summed : (n limit nodes entries letters : ℕ) (verdict : Shown) (v : Verdict) (c : ClosureValue) (l : LayoutValue) → c.formula ≡ ring n
    → c.kind ≡ kinds.Infinite → l ≡ layout_of c
    → IsInForce (ring n) kinds.Infinite 64 limit → IsVerdict c.formula c.kind limit v → nodes ≡ nodes_in (ring n) → entries ≡ length (closure c.formula)
    → letters ≡ letters_through l.kind l.counts n → verdict ≡ shown_verdict v
    → IsShown n (summary (record { number = n; nodes = nodes; entries = entries; letters = letters; verdict = verdict }))
summed n limit nodes entries letters verdict v c l formula kind laid force decided counted entered lettered is =
    let there = subst (λ k. IsVerdict (ring n) k limit v) kind (subst (λ g. IsVerdict g c.kind limit v) formula decided) in
    let all = entered ∙ ap (λ g. length (closure g)) formula in
    let through = lettered ∙ ap (λ m. letters_through m.kind m.counts n) (laid ∙ laid_same c n formula kind) in
    let same =
    ap (λ x. summary_with n x entries letters verdict) counted
    ∙ ap (λ x. summary_with n (nodes_in (ring n)) x letters verdict) all
    ∙ ap (λ x. summary_with n (nodes_in (ring n)) (length (closure (ring n))) x verdict) through
    ∙ ap (λ x. summary_with n (nodes_in (ring n)) (length (closure (ring n))) (letters_through kinds.Infinite (counts (ring n)) n) x) is in
    subst (λ s. IsShown n (summary s)) (sym same) (shown limit v force there)

-- a ring has one summary
pub one_shown : (n : ℕ) → VerdictIsOne → (a b : Answer) → IsShown n a → IsShown n b → a ≡ b
one_shown n one a b (shown limit v force h) (shown limit' v' force' h') =
    let same : limit ≡ limit' = let low = force'.greatest limit force.below force.fits in let high = force.greatest limit' force'.below force'.fits in
    omega (arith, low, high) in
    ap (λ w. summary (summary_of n w)) (one (ring n) kinds.Infinite limit v v' h (subst (λ d. IsVerdict (ring n) kinds.Infinite d v') (sym same) h'))
