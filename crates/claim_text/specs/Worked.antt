-- Texts that were judged by hand.
use Rattle.std.specs.Prelude.{ℕ, List, [], ◌∷◌, ◌++◌, codes, take, Some, None}
use Rattle.ltl_syntax.specs.declared.node.Kind.TheVariants as Kinds
use Rattle.cnf_base.specs.declared.literal.Hint.TheVariants as hints
use Rattle.cert_text.specs.Text.{greatest_u64}
use Rattle.cnf_base.specs.Worked.{plus, minus}
use Rattle.claims.specs.Certificate.{Certificate}
use Rattle.claim_text.specs.Text.{IsTextOf, IsFault}

-- one line and no layer
abbrev pub first_text : List ℕ
first_text = codes "ltlinv 1 infinite\n-1 0 2 1 0\nclose 1\n"

abbrev pub first_certificate : Certificate
first_certificate =
    record { kind = Kinds.Infinite; layers = []; lines = record { literals = minus 1 ∷ []; hints = hints.Clause 2 ∷ hints.Clause 1 ∷ [] } ∷ []; target = 1 }

-- a layer without an eventuality, and one with the eventuality number 2, whose first claim is empty
abbrev pub second_text : List ℕ
second_text =
    codes "ltlinv 1 finite\nlayer 0\nc -2 3 0\n-2 0 1 0\nbase 1\nstep 7\nlayer 3\nc 0\nc 5 0\nbase 1 2 3 4\n0 -1 0\nstep 1 1\n0 0\nclose 18446744073709551615\n"

abbrev pub second_certificate : Certificate
second_certificate = record {
  kind = Kinds.Finite;
  layers = record {
    eventuality = None;
    claims = (minus 2 ∷ plus 3 ∷ []) ∷ [];
    base_lines = record { literals = minus 2 ∷ []; hints = hints.Clause 1 ∷ [] } ∷ [];
    base_targets = 1 ∷ [];
    step_lines = [];
    step_targets = 7 ∷ [];
  } ∷ record {
    eventuality = Some 2;
    claims = [] ∷ (plus 5 ∷ []) ∷ [];
    base_lines = [];
    base_targets = 1 ∷ 2 ∷ 3 ∷ 4 ∷ [];
    step_lines = record { literals = []; hints = hints.Line 1 ∷ [] } ∷ [];
    step_targets = 1 ∷ 1 ∷ [];
  } ∷ [];
  lines = record { literals = []; hints = [] } ∷ [];
  target = greatest_u64;
}

-- behind the 18 bytes of a first line
abbrev pub behind : List ℕ → List ℕ
behind rest = codes "ltlinv 1 infinite\n" ++ rest

pub record WorkedTexts : Type 0 where
  pub first : IsTextOf first_text first_certificate
  pub second : IsTextOf second_text second_certificate
  -- there is nothing, the text is cut, its last newline is missing, a newline is too much
  pub nothing : IsFault [] 0
  pub cut : IsFault (take 20 first_text) 20
  pub newline : IsFault (take 36 first_text) 36
  pub more : IsFault (first_text ++ codes "\n") 37
  -- there is no version 2 and no other end of a line
  pub version : IsFault (codes "ltlinv 2 infinite\n") 7
  pub carriage : IsFault (codes "ltlinv 1 infinite\r\n") 17
  -- an eventuality has a leading zero, or is too great
  pub zero : IsFault (behind (codes "layer 01\n")) 25
  pub eventuality : IsFault (behind (codes "layer 4294967296\n")) 33
  -- there is no claim, or a claim behind a line
  pub claim : IsFault (behind (codes "layer 0\nbase 1\n")) 26
  pub late : IsFault (behind (codes "layer 0\nc 1 0\n1 0 0\nc 2 0\n")) 38
  -- a target is missing where there is an eventuality, and too much where there is none
  pub missing : IsFault (behind (codes "layer 1\nc 1 0\nbase 1\nstep 1\n")) 38
  pub spare : IsFault (behind (codes "layer 0\nc 1 0\nbase 1 1\n")) 38
  -- a layer stands behind a line of the close
  pub layer : IsFault (behind (codes "1 0 0\nlayer 0\n")) 24
  -- the letter is too great
  pub letter : IsFault (behind (codes "16777217 0 0\n")) 25
  -- the close has two targets, a target is 0, a target is too great
  pub two : IsFault (behind (codes "close 1 2\n")) 25
  pub none : IsFault (behind (codes "close 0\n")) 24
  pub great : IsFault (behind (codes "close 18446744073709551616\n")) 43
