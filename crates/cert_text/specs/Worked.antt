-- Texts that were judged by hand.
use Rattle.std.specs.Prelude.{◌≡◌, ℕ, List, [], ◌∷◌, ◌++◌, codes, take, Some, None}
use Rattle.ltl_syntax.specs.declared.node.Kind.TheVariants as Kinds
use Rattle.cnf_base.specs.declared.literal.Hint.TheVariants as hints
use Rattle.cnf_base.specs.Worked.{minus}
use Rattle.cert_text.specs.Text.{Line, Delete, Certificate, IsTextOf, IsFormFault}
use Rattle.cert_text.specs.Live.{live_line, live_at}
use Rattle.cert_text.specs.Writing.{written}

-- the formula `false` is refuted by one line, in both versions
abbrev pub first_text : List ℕ
first_text = codes "ltlcert 1 infinite 0\n-2 0 2 1 0\nclose 1 1\n"

abbrev pub first_certificate : Certificate
first_certificate =
    record { version = 1; kind = Kinds.Infinite; depth = 0; parts = Line (minus 2 ∷ []) (hints.Clause 2 ∷ hints.Clause 1 ∷ []) ∷ []; targets = 1 ∷ 1 ∷ [] }

-- the line again by itself, after which it is deleted
abbrev pub second_text : List ℕ
second_text = codes "ltlcert 2 infinite 0\n-2 0 2 1 0\n-2 0 -1 0\nd 1\nclose 2 2\n"

abbrev pub second_certificate : Certificate
second_certificate = record {
  version = 2;
  kind = Kinds.Infinite;
  depth = 0;
  parts = Line (minus 2 ∷ []) (hints.Clause 2 ∷ hints.Clause 1 ∷ []) ∷ Line (minus 2 ∷ []) (hints.Line 1 ∷ []) ∷ Delete (1 ∷ []) ∷ [];
  targets = 2 ∷ 2 ∷ [];
}

-- behind the first 21 bytes of a header of depth 1
abbrev pub deeper : List ℕ → List ℕ
deeper rest = codes "ltlcert 1 infinite 1\n" ++ rest

pub record WorkedTexts : Type 0 where
  pub first : IsTextOf first_text first_certificate
  pub second : IsTextOf second_text second_certificate
  -- what is written of the two lines is the second text
  pub again : written Kinds.Infinite 0 ((minus 2 ∷ []) ∷ (minus 2 ∷ []) ∷ []) ((hints.Clause 2 ∷ hints.Clause 1 ∷ []) ∷ (hints.Line 1 ∷ []) ∷ []) (2 ∷ 2 ∷ [])
      ≡ second_certificate
  -- line 1 is live at line 2 and not at the close
  pub live : live_at second_certificate.parts 1 1 ≡ Some (minus 2 ∷ [])
  pub deleted : live_line second_certificate.parts 1 ≡ None
  -- the text is cut
  pub cut : IsFormFault (take 32 first_text) 32
  -- there is no version 3, the depth is too great or has a leading zero
  pub version : IsFormFault (codes "ltlcert 3 infinite 0\n-2 0 2 1 0\nclose 1 1\n") 8
  pub deep : IsFormFault (codes "ltlcert 1 infinite 1001\n-2 0 2 1 0\nclose 1 1\n") 22
  pub zero : IsFormFault (codes "ltlcert 1 infinite 01\n-2 0 2 1 0\nclose 1 1\n") 20
  -- version 1 has no deletes
  pub delete : IsFormFault (codes "ltlcert 1 infinite 0\n-2 0 2 1 0\n-2 0 -1 0\nd 1\nclose 2 2\n") 42
  pub nothing : IsFormFault [] 0
  pub carriage : IsFormFault (codes "ltlcert 1 infinite 1\r\n") 20
  -- the letter is too great
  pub letter : IsFormFault (deeper (codes "-16777217 -3 0 2 3 4 0\n")) 29
  -- a target is missing, the last newline is missing, a newline is too much
  pub target : IsFormFault (deeper (codes "-2 -3 0 2 3 4 0\n-8 0 5 2 7 6 0\nclose 1 2\n")) 61
  pub newline : IsFormFault (deeper (codes "-2 -3 0 2 3 4 0\n-8 0 5 2 7 6 0\nclose 1 2 2")) 63
  pub more : IsFormFault (deeper (codes "-2 -3 0 2 3 4 0\n-8 0 5 2 7 6 0\nclose 1 2 2\n\n")) 64
