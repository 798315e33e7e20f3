-- What was taken from a source, and what it had left.
use Rattle.std.proofs.Common.{◌≡◌, ◌∙◌, ◌+◌, ◌<◌, ◌≤◌, List, [], ◌++◌, length, inl, inr, Option, Some, None, refl, ap, arith, length-append, append-nil, ℕ}
use Rattle.ltl_io.specs.Outside.{TakesWhole}
use Rattle.report.specs.declared.fault.Fault.{Fault}
use Rattle.program_input.specs.Taking.{AreLeft, IsTakenUpTo, IsTakenWhole}
use Rattle.program_input.specs.Reading.{RefusesPart, too_long, lexical, grammar, many_nodes}

pub some_left : (rest : Option (List ℕ)) → (bytes : List ℕ) × AreLeft rest bytes
some_left (Some told) = (told, refl)
some_left None = ([], tt)

-- a text that is too long is so in whole
pub long_left : (most : ℕ) (text : List ℕ) (rest after : Option (List ℕ)) → TakesWhole most text rest after → most < length text
    → (bytes : List ℕ) × AreLeft rest bytes × (most < length bytes)
long_left most text (Some told) after (left, whole, is, end) h = (told, refl, omega (arith, ap length whole, length-append text left))
long_left most text None after t h = (text, tt, h)

-- a text that is not too long is the whole
pub whole_left : (most : ℕ) (text : List ℕ) (rest after : Option (List ℕ)) → TakesWhole most text rest after → length text ≤ most → AreLeft rest text
whole_left most text (Some told) after (left, whole, is, inl e) h = whole ∙ ap (λ l. text ++ l) e ∙ append-nil text
whole_left most text (Some told) after (left, whole, is, inr l) h = absurd (omega arith)
whole_left most text None after t h = tt

-- a text that is too long is refused as each other such text
pub long_refusal : (text bytes : List ℕ) (fault : Fault) → 1048576 < length text → 1048576 < length bytes → RefusesPart text fault → RefusesPart bytes fault
long_refusal text bytes fault m n (too_long h) = too_long n
long_refusal text bytes fault m n (lexical byte short h) = absurd (omega (arith, m, short))
long_refusal text bytes fault m n (grammar byte short h) = absurd (omega (arith, m, short))
long_refusal text bytes fault m n (many_nodes count short h) = absurd (omega (arith, m, short))

-- what the source is told to have left is what it had left
pub told_left : (rest : Option (List ℕ)) (bytes left : List ℕ) → rest ≡ Some bytes → AreLeft rest left → bytes ≡ left
told_left (Some told) bytes left e is = let same : bytes ≡ told = cc in same ∙ is
told_left None bytes left e is = absurd (cc)

-- ---- what is left behind what was read

pub taken_up_to : (limit : ℕ) (text : List ℕ) (rest after : Option (List ℕ)) → TakesWhole limit text rest after
    → length text ≤ limit + 65536 → IsTakenUpTo limit rest after
taken_up_to limit text None after read few = tt
taken_up_to limit text (Some told) after (left, whole, is, end) few = (text, left, whole, is, few, end)

pub taken_whole : (text : List ℕ) (rest after : Option (List ℕ)) → TakesWhole 18446744073709551615 text rest after
    → length text ≤ 18446744073709551615 → IsTakenWhole rest after
taken_whole text None after read few = tt
taken_whole text (Some told) after (left, whole, is, inl end) few = is ∙ ap Some end
taken_whole text (Some told) after (left, whole, is, inr more) few = absurd (omega (arith, more, few))
