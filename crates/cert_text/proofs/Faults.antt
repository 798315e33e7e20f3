-- Where bytes stop to be the beginning of a certificate text.
use Rattle.std.proofs.Common.{◌≡◌, ℕ, ◌==◌, ◌++◌, List, [], ◌∷◌, Option, Some, None, refl, ap, ◌∙◌}
use Rattle.std.proofs.lemmas.Bool.{cond-true, eq-eqb}
use Rattle.cert_text.specs.Text.{Certificate, IsTextOf}
use Rattle.cert_text.specs.Scan.{Place, AtVersion, AtKind, AtNumber, InNumber, AtPart, AtLiteral, AtHint, AtEnd, Scan, start, step, run}
use Rattle.cert_text.specs.Laws.{TextsSayOne, FaultsAreOne, TextsHaveNone, OthersHaveOne, ScansRead, ScansBegin, ScansStop, ScansEnd}
use Rattle.cert_text.proofs.Machine.{Machine, begins_from, begins_to, says_one, one_fault, no_fault, fault_at, fault_end, text_or_fault}
use Rattle.cert_text.proofs.Leading.{run_left}
use Rattle.cert_text.proofs.Sound.{reads, read_whole}
use Rattle.cert_text.proofs.Complete.{whole_read}
use Rattle.cert_text.proofs.Viable.{viable}

pub scan_text : (bytes : List ℕ) (c : Certificate) → IsTextOf bytes c → run start bytes ≡ Some ([], AtEnd c)
scan_text bytes c is = ap (run start) is.spelled ∙ whole_read c is.lawful

-- the certificate at whose end a scan is
abbrev pub said : Scan → Option Certificate
said ([], AtEnd c) = Some c
said (left, p) = None

at_end : (s : Scan) (c : Certificate) → said s ≡ Some c → s ≡ ([], AtEnd c)
at_end ([], AtEnd d) c e = let same : d ≡ c = cc in ap (λ k. let s : Scan = ([], AtEnd k) in s) same
at_end ([], AtVersion) c e = cc
at_end ([], AtKind v) c e = cc
at_end ([], AtNumber r) c e = cc
at_end ([], InNumber r n) c e = cc
at_end ([], AtPart d) c e = cc
at_end ([], AtLiteral d ls) c e = cc
at_end ([], AtHint d ls hs) c e = cc
at_end (x ∷ xs, p) c e = cc

left_read : (left rest : List ℕ) (p : Place) → run (left, p) (left ++ rest) ≡ run ([], p) rest
left_read left rest p = run_left step (λ l. (l, p)) (λ x xs. cond-true (x == x) _ _ (eq-eqb x x refl)) left rest

pub machine : Machine IsTextOf step start said
machine = record {
  reads = λ bytes c is. (([], AtEnd c), scan_text bytes c is, refl);
  whole = λ bytes s c e end. read_whole bytes c (e ∙ ap (λ t. Some t) (at_end s c end));
  viable = λ bytes s e.
      let way = viable s.1 (reads bytes s e).place in
      (s.0 ++ way.0, ([], AtEnd way.1), way.1, left_read s.0 way.0 s.1 ∙ way.2, refl);
}

pub texts_say_one : TextsSayOne
texts_say_one = says_one machine

pub faults_are_one : FaultsAreOne
faults_are_one = one_fault IsTextOf

pub texts_have_none : TextsHaveNone
texts_have_none = no_fault IsTextOf

pub others_have_one : OthersHaveOne
others_have_one = text_or_fault machine

pub scans_read : ScansRead
scans_read bytes c = (scan_text bytes c, read_whole bytes c)

pub scans_begin : ScansBegin
scans_begin bytes = (begins_to machine bytes, λ s. begins_from machine bytes s.0 s.1)

pub scans_stop : ScansStop
scans_stop = fault_at machine

pub scans_end : ScansEnd
scans_end bytes s e other = fault_end machine bytes s e (λ c end. other c (at_end s c end))
