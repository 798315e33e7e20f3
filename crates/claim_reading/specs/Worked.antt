-- The lines of certificates that were worked by hand.
use Rattle.std.specs.Prelude.{◌≡◌, [], ◌∷◌, ◌++◌, codes, replicate}
use Rattle.claims.specs.Worked.{m, p, letter_p, again_and_never, never_certificate, after_q, layers_certificate, next_for_ever, ending_certificate}
use Rattle.claim_reading.specs.Never.{never_line, never_text}

pub record WorkedLines : Type 0 where
  -- of `G F p & G !p`
  pub never : never_text again_and_never never_certificate ≡ codes "never X F p & wX G !p\n"
  -- of `G F (p & Y q) & F G !q`, whose first layer has two claims
  pub layers : never_text after_q layers_certificate
      ≡ codes "never !q & X F (p & Y q) & wX G !q\n" ++ (codes "never !q & wX G F (p & Y q) & wX G !q\n" ++ codes "never wX G F (p & Y q) & X F G !q\n")
  -- of `G X p` on finite traces
  pub ending : never_text next_for_ever ending_certificate ≡ codes "never G X p\n"
  -- a claim of one entry with two operands keeps its parentheses, and one of none excludes every state
  pub one : never_line again_and_never (p 11 ∷ []) ≡ codes "never !(G F p & G !p)\n"
  pub none : never_line letter_p [] ≡ codes "never true\n"
  -- one of 8193 letters has 16385 nodes
  pub large : never_line letter_p (replicate 8193 (m 1)) ≡ codes "never (a formula of more than 16384 nodes)\n"
