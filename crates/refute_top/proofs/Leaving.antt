-- What was taken from a source, and what it had left.
use Rattle.std.proofs.Common.{◌≡◌, ◌⊎◌, ℕ, zero, suc, ◌+◌, ◌<◌, ◌≤◌, List, length, inl, inr, Bool, true, false, Option, IsTrue, refl, sym, ap, subst}
use Rattle.std.proofs.Common.{arith}
use Rattle.ltl_io.specs.Outside.{TakesWhole, LosesAtMost}
use Rattle.ltl_syntax.specs.declared.node.Kind.{Kind}
use Rattle.command_words.specs.declared.refutation.Refutation.{Refutation}
use Rattle.command_words.specs.declared.refutation.Refutation.TheVariants as asked
use Rattle.command_words.specs.Words.{Setting, kind_of, cert_of}
use Rattle.command_words.specs.Refutation.{RefutationAsked, Refute, Verify, AsksRefutation, IsRefutationAsked}
use Rattle.program_input.specs.Claims.{IsLeft}
use Rattle.program_input.proofs.Leaving.{long_left, whole_left, long_refusal, taken_up_to, taken_whole}
use Rattle.refute_top.specs.Answer.{Answer}
use Rattle.refute_top.specs.Refuting.{IsSettled, unreadable, settled}
use Rattle.refute_top.specs.Checking.{IsPartedCheck}
use Rattle.refute_top.specs.Inner.{Gives, stop_after}
use Rattle.refute_top.specs.Taking.{Takes, TakesAtMost, TakesBeforeFault}
use Rattle.refute_top.specs.Run.{IsGiven, AsksNothing, taken}
use Rattle.refute_top.proofs.Asking.{AskForOne}

-- the answer to a text that is too long is that to each other such text
long_answer : (kind : Kind) (cert : Bool) (text bytes : List ℕ) (a : Answer) → 1048576 < length text → 1048576 < length bytes → IsSettled kind cert text a
    → IsSettled kind cert bytes a
long_answer kind cert text bytes a m n (unreadable fault h) = unreadable fault (long_refusal text bytes fault m n h)
long_answer kind cert text bytes a m n (settled f answer read h) = absurd (omega (arith, m, read.short))

le_or_lt : (m n : ℕ) → (m ≤ n) ⊎ (n < m)
le_or_lt zero n = inl (omega arith)
le_or_lt (suc m) zero = inr (omega arith)
le_or_lt (suc m) (suc n) = elim (le_or_lt m n) [
  | inl h ↦ inl (omega (arith, h))
  | inr h ↦ inr (omega (arith, h))
]

-- an answer to what was taken from a source is one to what it had left
settled_left : (kind : Kind) (cert : Bool) (text : List ℕ) (rest after : Option (List ℕ)) (a : Answer) → TakesWhole 1048576 text rest after
    → IsSettled kind cert text a → IsLeft Answer (IsSettled kind cert) rest a
settled_left kind cert text rest after a read h = elim (le_or_lt (length text) 1048576) [
  | inl short ↦ record { bytes = text; left = whole_left 1048576 text rest after read short; lawful = h }
  | inr long ↦ let left = long_left 1048576 text rest after read long in
      record { bytes = left.0; left = left.1; lawful = long_answer kind cert text left.0 a long left.2 h }
]

-- an answer to the options is one to the settings that the words say
settled_so : (settings : List Setting) (kind : Kind) (cert : Bool) (bytes : List ℕ) (a : Answer) → kind ≡ kind_of settings → cert ≡ cert_of settings
    → IsSettled kind cert bytes a
    → IsSettled (kind_of settings) (cert_of settings) bytes a
settled_so settings kind cert bytes a k c h = subst (λ d. IsSettled (kind_of settings) d bytes a) c (subst (λ j. IsSettled j cert bytes a) k h)

checked_so : (settings : List Setting) (kind : Kind) (bytes : List ℕ) (a : Answer) → kind ≡ kind_of settings → IsPartedCheck kind bytes a
    → IsPartedCheck (kind_of settings) bytes a
checked_so settings kind bytes a k h = subst (λ j. IsPartedCheck j bytes a) k h

-- an answer to what was read of a source is one to what it had left
pub given_left : (words : List (List ℕ)) (rest after : Option (List ℕ)) (what : Refutation) (text : List ℕ) (a : Answer) → IsRefutationAsked words what
    → TakesWhole (stop_after what) text rest after
    → length text ≤ 18446744073709551615 → Gives what text a → IsGiven words rest a
given_left words rest after (asked.Refute options) text a (settings, asks, are) read fits h =
    let left = settled_left options.kind options.cert text rest after a read h in
    record {
      bytes = left.bytes;
      left = left.left;
      lawful = taken (Refute settings) a asks (settled_so settings options.kind options.cert left.bytes a are.kind are.cert left.lawful);
    }
given_left words rest after (asked.Check options) text a (settings, asks, are) read fits h =
    record {
      bytes = text;
      left = whole_left 18446744073709551615 text rest after read fits;
      lawful = taken (Verify settings) a asks (checked_so settings options.kind text a are.kind h);
    }

-- ---- what is left behind what was read

-- where the source is read no further
abbrev pub stop_of : RefutationAsked → ℕ
stop_of (Refute settings) = 1048576
stop_of (Verify settings) = 18446744073709551615

pub stops : AskForOne → (words : List (List ℕ)) (what : Refutation) (c : RefutationAsked) → IsRefutationAsked words what → AsksRefutation words c
    → stop_of c ≡ stop_after what
stops one words (asked.Refute options) c (settings, asks, are) also = ap stop_of (one words c (Refute settings) also asks)
stops one words (asked.Check options) c (settings, asks, are) also = ap stop_of (one words c (Verify settings) also asks)

pub takes : (c : RefutationAsked) (most : ℕ) (text : List ℕ) (rest after : Option (List ℕ)) → stop_of c ≡ most → TakesWhole most text rest after
    → length text ≤ 18446744073709551615 → length text ≤ most + 65536 → Takes c rest after
takes (Refute settings) most text rest after stop read fits few =
    taken_up_to 1048576 text rest after (subst (λ n. TakesWhole n text rest after) (sym stop) read) (subst (λ n. length text ≤ n + 65536) (sym stop) few)
takes (Verify settings) most text rest after stop read fits few = taken_whole text rest after (subst (λ n. TakesWhole n text rest after) (sym stop) read) fits

pub most_lost : (c : RefutationAsked) (most : ℕ) (rest after : Option (List ℕ)) → stop_of c ≡ most → LosesAtMost (most + 65536) rest after
    → TakesAtMost c rest after
most_lost (Refute settings) most rest after stop lost = subst (λ n. LosesAtMost (n + 65536) rest after) (sym stop) lost
most_lost (Verify settings) most rest after stop lost = tt

pub lost_before_fault : (c : RefutationAsked) (most : ℕ) (rest after : Option (List ℕ)) → stop_of c ≡ most → LosesAtMost most rest after
    → TakesBeforeFault c rest after
lost_before_fault (Refute settings) most rest after stop lost = subst (λ n. LosesAtMost n rest after) (sym stop) lost
lost_before_fault (Verify settings) most rest after stop lost = tt

-- ---- lines on the progress

not_true : (b : Bool) → ¬ (IsTrue b) → b ≡ false
not_true true n = absurd (n refl)
not_true false n = refl

-- what words that are taken ask for is something
pub asks_some : (words : List (List ℕ)) (what : Refutation) → IsRefutationAsked words what → AsksNothing words → ⊥
asks_some words (asked.Refute options) (settings, asks, are) none = none (Refute settings) asks
asks_some words (asked.Check options) (settings, asks, are) none = none (Verify settings) asks
