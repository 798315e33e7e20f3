-- Behaviours against items: what is found of one item more, and one behaviour more.
use Rattle.std.proofs.Common.{◌≡◌, ◌∙◌, ℕ, ◌+◌, ◌<◌, List, [], ◌∷◌, ◌++◌, map, length, take, get_or, refl, sym, ap, ap₂, subst, arith, append_assoc, Result, Ok}
use Rattle.std.proofs.Common.{Err, IsErr, IsErrAnd, IfErr}
use Rattle.std.proofs.lemmas.List.{take_more, map_push, append-nil, length-map, get_or-map, get_or_default}
use Rattle.std.proofs.lemmas.List.Elements.{All-append, All-cons, All-nil}
use Rattle.ltl_word.specs.declared.trace.Trace.{Trace}
use Rattle.ltl_word.specs.declared.trace.Trace.TheVariants.{Finite}
use Rattle.ltl_word.specs.Trace.{IsTrace}
use Rattle.requirement_document.specs.declared.document.Behaviour.{Behaviour}
use Rattle.requirement_document.specs.declared.document.Document.{Document}
use Rattle.requirement_document.specs.Values.{DocumentValue, behaviour_in, document_in}
use Rattle.lasso_eval.specs.Cells.{cells, max_cells}
use Rattle.requirement_answers.specs.declared.findings.Break.{Break}
use Rattle.requirement_answers.specs.declared.findings.ReportRefused.{ReportRefused}
use Rattle.requirement_answers.specs.declared.findings.ReportRefused.TheVariants as refusals
use Rattle.requirement_answers.specs.Items.{formula_of}
use Rattle.requirement_answers.specs.declared.findings.Check.{Check}
use Rattle.requirement_answers.specs.Checks.{trace_of, IsFinding, AreFindings, IsCheckAgainst}
use Rattle.requirement_answers.specs.Reports.{RecordsTraces, IsRefusedAmong}
use Rattle.requirement_answers.specs.Inner.{IsLooked, IsCheckOf, AreChecks, IsRefusedAt, IsRefusedFor}

-- ---- the trace of a behaviour

module _ (d : Document) (n : ℕ) (b : Behaviour) (lt : n < length d.behaviours.items) (is : b ≡ get_or d.behaviours.items n b) where
  there : n < length (map behaviour_in d.behaviours.items)
  there = omega (arith, lt, length-map d.behaviours.items behaviour_in)

  value_at : get_or (map behaviour_in d.behaviours.items) n (behaviour_in b) ≡ behaviour_in b
  value_at = get_or-map behaviour_in d.behaviours.items n b (behaviour_in b) lt ∙ ap behaviour_in (sym is)

  pub trace_at : trace_of (document_in d) n ≡ b.trace
  trace_at = get_or-map (λ v. v.trace) (map behaviour_in d.behaviours.items) n (behaviour_in b) (Finite []) there ∙ ap (λ v. v.trace) value_at

  pub is_trace : RecordsTraces (document_in d) → IsTrace b.trace
  is_trace all = subst (λ v. IsTrace v.trace) value_at (all n (behaviour_in b) there)

-- ---- what is found

found_more : (d : DocumentValue) (t : Trace) (ns : List ℕ) (n : ℕ) (found first : List Break) → AreFindings d t ns found → IsFinding d t n first
    → AreFindings d t (ns ++ n ∷ []) (found ++ first)
found_more d t [] n found first none here = (first, [], ap (λ xs. xs ++ first) none ∙ sym (append-nil first), here, refl)
found_more d t (m ∷ ns) n found first (one, others, same, is, rest) here =
    (one, others ++ first, ap (λ xs. xs ++ first) same ∙ append_assoc one others first, is, found_more d t ns n others first rest here)

pub findings_more : (d : DocumentValue) (t : Trace) (ns : List ℕ) (k e : ℕ) (found new : List Break) → k < length ns → AreFindings d t (take k ns) found
    → IsLooked d t (get_or ns k e) found new → AreFindings d t (take (k + 1) ns) new
findings_more d t ns k e found new lt w (first, grown, here) =
    let whole = found_more d t (take k ns) (get_or ns k e) found first w here in
    subst (AreFindings d t (take (k + 1) ns)) (sym grown) (subst (λ xs. AreFindings d t xs (found ++ first)) (sym (take_more ns k e lt)) whole)

-- ---- checks

pub checks_more : (d : DocumentValue) (numbers behaviours : List ℕ) (k e : ℕ) (found new : List Check) (c : Check) → k < length behaviours
    → AreChecks d numbers (take k behaviours) found → IsCheckOf d numbers (get_or behaviours k e) c
    → new ≡ found ++ c ∷ [] → AreChecks d numbers (take (k + 1) behaviours) new
checks_more d numbers behaviours k e found new c lt w is grown =
    let here : IsCheckAgainst d numbers c = subst (λ b. AreFindings d (trace_of d b) numbers c.breaks.items) (sym is.behaviour) is.found in
    let whole : AreChecks d numbers (take (k + 1) behaviours) (found ++ c ∷ []) = record {
      recorded = map_push (λ x. x.behaviour) found c ∙ (ap₂ (λ xs x. xs ++ x ∷ []) w.recorded is.behaviour ∙ sym (take_more behaviours k e lt));
      checked =
          All-append (IsCheckAgainst d numbers) found (c ∷ []) w.checked (All-cons (IsCheckAgainst d numbers) c [] here (All-nil (IsCheckAgainst d numbers)));
    } in
    subst (AreChecks d numbers (take (k + 1) behaviours)) (sym grown) whole

-- ---- refused

pub refused_for : (d : DocumentValue) (b k e : ℕ) (given : List ℕ) (r : ReportRefused) → k < length given → IsRefusedAt d b (get_or given k e) r
    → IsRefusedFor d b given r
refused_for d b k e given (refusals.Cells at item) lt (here, same, many) =
    (here, (k, lt, get_or_default given k item e lt ∙ sym same), subst (λ n. max_cells < cells (trace_of d b) (formula_of d n)) (sym same) many)
refused_for d b k e given refusals.NoMemory lt h = tt

pub refused_among : (d : DocumentValue) (k e : ℕ) (behaviours given : List ℕ) (r : ReportRefused) → k < length behaviours
    → IsRefusedFor d (get_or behaviours k e) given r → IsRefusedAmong d behaviours given r
refused_among d k e behaviours given (refusals.Cells at item) lt (here, there, many) =
    ((k, lt, get_or_default behaviours k at e lt ∙ sym here), there, subst (λ b. max_cells < cells (trace_of d b) (formula_of d item)) (sym here) many)
refused_among d k e behaviours given refusals.NoMemory lt h = tt

-- what a call refuses is passed on
pub passed_on : {A : Type 0} (P : ReportRefused → Type 0) (e : ReportRefused) (r : Result A ReportRefused) → P e → IsErr r × IsErrAnd r (λ x. x ≡ e) → IfErr r P
passed_on P e (Ok x) h w = let ok = w.0 in cc
passed_on P e (Err x) h w = subst P (sym w.1) h
