use Rattle.std.proofs.Common.{◌≡◌, ℕ, ◌≤◌, List, [], length, take, Option, Some, None, sym, ap, ap₂, ◌∙◌, subst, arith}
use Rattle.std.specs.Prelude.{MatchOption}
use Rattle.std.proofs.lemmas.List.{take_all}
use Rattle.claim_text.specs.Scan.{Scan, start, step, run}
use Rattle.claim_text.specs.Stored.{draft_in}
use Rattle.claim_text.specs.declared.place.Place.{Place}
use Rattle.claim_text.specs.declared.place.Place.TheVariants as places
use Rattle.claim_text.proofs.Sound.{read_whole}
use Rattle.cert_text.proofs.Machine.{run_more, fault_at, left_none, left_some}
use Rattle.claim_text.proofs.Faults.{machine, not_ended, run_range}
use Rattle.claim_text.proofs.reading.read.Goals as goal

none_of : {X : Type 0} (A : Type 0) (B : X → Type 0) (o : Option X) → o ≡ None → MatchOption o A B → A
none_of A B None e h = h
none_of A B (Some x) e h = cc

some_of : {X : Type 0} (A : Type 0) (B : X → Type 0) (o : Option X) (x : X) → o ≡ Some x → MatchOption o A B → B x
some_of A B o x e h = subst (λ p. MatchOption p A B) e h

-- all bytes are read
whole : (bytes : List ℕ) (i : ℕ) (s : Scan) → i ≤ length bytes → length bytes ≤ i → run start (take i bytes) ≡ Some s → run start bytes ≡ Some s
whole bytes i s within end e = ap (run start) (sym (take_all i bytes end)) ∙ e

pub read_byte-requires-clause-range : goal.read_byte-requires-clause-range
read_byte-requires-clause-range c =
    run_range (take c.bytes.index c.args.bytes.now) (c.bytes.left.now, c.bytes.place, draft_in c.bytes.draft) c.bytes.invariant.2

pub returns-in_default : goal.returns-in_default
returns-in_default c =
    fault_at machine c.args.bytes.now c.bytes.index (c.bytes.left.now, c.bytes.place, draft_in c.bytes.draft) c.bytes-test.true c.bytes.invariant.2
    (none_of _ _ c.in_ok-found.field-0 c.in_default.is c.in_ok-found.ensures)

pub bytes-preserved : goal.bytes-preserved
bytes-preserved c =
    let found = some_of _ _ c.in_ok-found.field-0 c.in-Some.found c.in-Some.is c.in_ok-found.ensures in (
      omega (arith, c.bytes-test.true),
      found.0,
      run_more step start (c.bytes.left.now, c.bytes.place, draft_in c.bytes.draft) (c.in-Some.found.0.now, c.in-Some.found.1, draft_in c.read_byte.new.draft)
          c.args.bytes.now c.bytes.index c.bytes-test.true c.bytes.invariant.2 found.1,
    )

pub returns-then-not-is_empty : goal.returns-then-not-is_empty
returns-then-not-is_empty c =
    let s : Scan = (c.bytes.left.now, c.bytes.place, draft_in c.bytes.draft) in
    not_ended c.args.bytes.now s (whole c.args.bytes.now c.bytes.index s c.bytes.invariant.0 c.bytes-test.false c.bytes.invariant.2)
    (λ d e. left_some c.bytes.left.now c.is_empty.result c.is_empty.ensures c.if-not-is_empty.true (ap (λ (t : Scan). t.0) e))

pub returns-in_default-place : goal.returns-in_default-place
returns-in_default-place c =
    let s : Scan = (c.bytes.left.now, c.bytes.place, draft_in c.bytes.draft) in
    not_ended c.args.bytes.now s (whole c.args.bytes.now c.bytes.index s c.bytes.invariant.0 c.bytes-test.false c.bytes.invariant.2)
    (λ d e. c.in_default-place.not-End (ap (λ (t : Scan). t.1) e))

pub returns : goal.returns
returns c =
    let s : Scan = (c.bytes.left.now, c.bytes.place, draft_in c.bytes.draft) in
    let end : Scan = ([], places.End, draft_in c.bytes.draft) in
    let none = left_none c.bytes.left.now c.is_empty.result c.is_empty.ensures c.if-not-is_empty.false in
    let same : s ≡ end = ap₂ (λ (l : List ℕ) (p : Place). let t : Scan = (l, p, draft_in c.bytes.draft) in t) none c.in-End.is in
    read_whole c.args.bytes.now (draft_in c.bytes.draft)
    (whole c.args.bytes.now c.bytes.index s c.bytes.invariant.0 c.bytes-test.false c.bytes.invariant.2 ∙ ap (λ (t : Scan). Some t) same)
