-- `solve` has an answer, and `trace` has one.
use Rattle.std.proofs.Common.{◌≡◌, ◌≢◌, ℕ, ◌<◌, ◌≤◌, ◌⊎◌, inl, inr, Bool, true, false, List, Option, Some, None, Result, Ok, Err, refl, arith}
use Rattle.std.proofs.lemmas.Bool.{cases_lt}
use Rattle.ltl_syntax.specs.declared.node.Kind.{Kind}
use Rattle.ltl_syntax.specs.Formula.{Formula}
use Rattle.ltl_syntax.specs.Print.{text_of as formula_text}
use Rattle.ltl_parser.specs.Text.{ReadsText, IsAccepted, IsPrintable}
use Rattle.ltl_word.specs.declared.trace.Trace.{Trace}
use Rattle.ltl_word.specs.declared.trace.Trace.TheVariants.{Infinite, Finite}
use Rattle.ltl_word.specs.declared.json.TraceFault.{TraceFault}
use Rattle.ltl_word.specs.declared.json.TraceFault.TheVariants as trace_faults
use Rattle.ltl_word.specs.Trace.{IsTrace}
use Rattle.ltl_word.specs.Json.{IsReading, IsTraceOf}
use Rattle.ltl_word.specs.Laws.{EachIsDecided, EachIsRead}
use Rattle.ltl_closure.specs.Run.{Verdict, IsVerdict, accepted, Sat, Unsat, Undecided, HasAccepted}
use Rattle.lasso_eval.specs.Cells.{cells, max_cells}
use Rattle.enc_layout.specs.Limit.{layout, IsInForce}
use Rattle.enc_layout.proofs.Fitting.{lower_fits}
use Rattle.unravel.specs.Laws.{VerdictIsThere}
use Rattle.core_extract.specs.Laws.{LimitIsThere, CoreIsThere}
use Rattle.report.specs.declared.fault.Fault.TheVariants as faults
use Rattle.black_top.specs.Answer.{Answer, refused, sat, unsat, undecided, holds, fails}
use Rattle.black_top.specs.Conflict.{ShowsCore}
use Rattle.black_top.specs.Laws.{NeedsLong}
use Rattle.black_top.specs.Solve.{IsReached, number_of, Certifies, IsDecided, satisfiable, unsatisfiable, undecided_yet, IsSettled, too_deep, decided, IsSolved}
use Rattle.black_top.specs.Solve.{unreadable, settled}
use Rattle.black_top.specs.Trace.{IsJudged, not_json, not_trace, empty_loop, empty_states, many_cells, satisfied, violated}
use Rattle.ltl_word.proofs.Sets.{sets_length}
use Rattle.black_top.proofs.RunTraces.{RunLaws, run_trace}
use Rattle.program_input.proofs.SomeParts.{EachHasOutcome, accepted_or_refused}
use Rattle.black_top.proofs.Parted.{HasSome}
use Rattle.black_top.proofs.Certified.{unsat_shallow}
use Rattle.black_top.proofs.SomeWritten.{WritingLaws, written_or_long, carried}

-- ---- `solve`

-- that there are verdicts, limits and cores
pub record SearchLaws : Type 0 where
  pub verdict : VerdictIsThere
  pub limit : LimitIsThere
  pub core : CoreIsThere
  pub runs : RunLaws
  pub printable : (text : List ℕ) (f : Formula) → ReadsText text f → IsPrintable f

-- where the verdict is SAT, there is an accepted run
pub run_of : (f : Formula) (kind : Kind) (limit k : ℕ) → IsVerdict f kind limit (Sat k) → HasAccepted f kind k
run_of f kind limit k (accepted low each has) = has

-- the limit in force is below the depth that was asked for, or that depth is reached
pub reached_or_below : (f : Formula) (kind : Kind) (wanted : Option ℕ) (d : ℕ) → IsInForce f kind (number_of wanted) d
    → IsReached wanted d ⊎ ((n : ℕ) × (wanted ≡ Some n) × IsInForce f kind n d × (d < n))
reached_or_below f kind None d force = inl tt
reached_or_below f kind (Some n) d force = elim (cases_lt d n) [
  | inl less ↦ inr (n, refl, force, less)
  | inr more ↦ let low = force.below in inl (omega arith)
]

-- a certificate is asked for, and each refutation has too many lines
abbrev pub IsLongAsked : Bool → Formula → Kind → Option ℕ → Type 0
IsLongAsked cert f kind wanted = (cert ≡ true) × NeedsLong f kind wanted

module _ (laws : SearchLaws) (writing : WritingLaws) (part : List ℕ) (f : Formula) (read : IsAccepted part f) (kind : Kind) (wanted : Option ℕ)
    (core cert : Bool) (shallow : number_of wanted ≤ 1000) where
  shown_core : (b : Bool) → (shown : Option (List ℕ)) × ShowsCore b f kind (number_of wanted) shown
  shown_core false = (None, refl)
  shown_core true = let w = laws.core kind (number_of wanted) f read.few in (Some (formula_text w.0), (w.0, w.1, refl))

  module _ (limit : ℕ) (force : IsInForce f kind (number_of wanted) limit) where
    shown_certificate : (b : Bool) → cert ≡ b → (k : ℕ) → IsVerdict f kind limit (Unsat k)
        → ((shown : Option (List ℕ)) × Certifies b f kind k shown) ⊎ IsLongAsked cert f kind wanted
    shown_certificate false e k h = inl (None, refl)
    shown_certificate true e k h =
        let low = unsat_shallow f kind limit k h in
        let below = force.below in
        elim (written_or_long writing f kind k (omega (arith, low, below, shallow)) (lower_fits (layout f kind) k limit low force.fits)) [
          | inl w ↦ inl (Some w.0, (w.0, refl, w.1, w.2))
          | inr long ↦ inr (e, (limit, k, force, h, long))
        ]

    some_decided : (v : Verdict) → IsVerdict f kind limit v
        → ((a : Answer) × IsDecided f kind (number_of wanted) limit core cert a) ⊎ IsLongAsked cert f kind wanted
    some_decided (Sat k) h =
        let w = run_trace laws.runs f kind k (laws.printable part f read.reads) (run_of f kind limit k h) in
        inl (sat k w.0, satisfiable k w.0 h w.1 w.2)
    some_decided (Unsat k) h =
        let w = shown_core core in
        carried (shown_certificate cert refl k h) (λ c. (unsat k w.0 c.0, unsatisfiable k w.0 c.0 h w.1 c.1))
    some_decided (Undecided k) h = inl (undecided k, undecided_yet k h)

  some_settled : ((a : Answer) × IsSettled kind wanted core cert f a) ⊎ IsLongAsked cert f kind wanted
  some_settled =
      let limit = laws.limit f kind (number_of wanted) read.few in
      elim (reached_or_below f kind wanted limit.0 limit.1) [
        | inr (n, is, force, less) ↦ inl (refused (faults.Letters limit.0), too_deep n limit.0 is force less)
        | inl is ↦
            let v = laws.verdict f kind limit.0 in
            carried (some_decided limit.0 limit.1 v.0 v.1) (λ w. (w.0, decided limit.0 w.0 limit.1 is w.1))
      ]

pub some_solved : EachHasOutcome → SearchLaws → WritingLaws → (kind : Kind) (wanted : Option ℕ) (core cert : Bool) (part : List ℕ)
    → number_of wanted ≤ 1000
    → ((a : Answer) × IsSolved kind wanted core cert part a) ⊎ ((cert ≡ true) × (f : Formula) × IsAccepted part f × NeedsLong f kind wanted)
some_solved outcome laws writing kind wanted core cert part shallow = elim (accepted_or_refused outcome part) [
  | inl (f, read) ↦ elim (some_settled laws writing part f read kind wanted core cert shallow) [
    | inl w ↦ inl (w.0, settled f w.0 read w.1)
    | inr (e, long) ↦ inr (e, f, read, long)
  ]
  | inr (fault, h) ↦ inl (refused fault, unreadable fault h)
]

-- ---- `trace`

pub read_is_trace : (text : List ℕ) (t : Trace) → IsReading text (Ok t) → IsTrace t
read_is_trace text t (written, json, is, of) = by written t is of
  where
    by : (w u : Trace) → IsTrace w → IsTraceOf w u → IsTrace u
    by (Infinite stem again) (Infinite stem' again') is of = let n = sets_length again again' of.1 in omega arith
    by (Infinite stem again) (Finite states) is of = absurd of
    by (Finite states) (Infinite stem again) is of = absurd of
    by (Finite states) (Finite states') is of = let n = sets_length states states' of in omega arith

pub some_judged : EachIsRead → EachIsDecided → HasSome IsJudged
some_judged reads decides part second f accepted_part = let w = reads second in by w.0 w.1 w.2
  where
    told : (t : Trace) → IsReading second (Ok t) → (a : Answer) × IsJudged f second a
    told t h = elim (cases_lt max_cells (cells t f)) [
      | inl many ↦ (refused (faults.Cells (cells t f)), many_cells t (cells t f) h (refl, many))
      | inr few ↦ elim (decides t f 0 (read_is_trace second t h)) [
        | inl yes' ↦ (holds, satisfied t h few yes')
        | inr no' ↦ (fails, violated t h few no')
      ]
    ]

    by : (r : Result Trace TraceFault) → r ≢ Err trace_faults.NoMemory → IsReading second r → (a : Answer) × IsJudged f second a
    by (Ok t) some h = told t h
    by (Err trace_faults.NotJson) some h = (refused faults.NotJson, not_json h)
    by (Err trace_faults.NotTrace) some h = (refused faults.NotTrace, not_trace h)
    by (Err trace_faults.EmptyLoop) some h = (refused faults.EmptyLoop, empty_loop h)
    by (Err trace_faults.EmptyStates) some h = (refused faults.EmptyStates, empty_states h)
    by (Err trace_faults.NoMemory) some h = absurd (some refl)
