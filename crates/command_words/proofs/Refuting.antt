-- What words ask of the second program: of the two calls one at most.
use Rattle.std.proofs.Common.{◌≡◌, ◌∙◌, ℕ, Bool, true, false, List, [], ◌∷◌, All, refl, sym, ap}
use Rattle.std.proofs.lemmas.List.Elements.{All-nil, All-cons, All-head, All-tail}
use Rattle.std.proofs.lemmas.Slice.Eq.{bytes_eq-Decides}
use Rattle.command_words.specs.declared.table.OptionName.{OptionName}
use Rattle.command_words.specs.declared.table.OptionName.TheVariants as names
use Rattle.command_words.specs.declared.options.Options.{Options}
use Rattle.command_words.specs.declared.refutation.Refutation.TheVariants as refutation
use Rattle.command_words.specs.Table.{option_word, same_option, has_option, refute_row, verify_row}
use Rattle.command_words.specs.Words.{Setting, IsAmong, stands, check_of}
use Rattle.command_words.specs.Refutation.{RefutationAsked, Refute, Verify, AsksRefutation, IsRefutationAsked}
use Rattle.command_words.specs.Said.{AreSaid, NoneAreSaid}
use Rattle.command_words.proofs.OneCommand.{false_not_true, word_one, settings_one}

-- ---- --check among the settings

-- an option that is not offered stands nowhere among the settings of what is
not_among : (offers : List OptionName) (o : OptionName) (cs : List Setting) → has_option offers o ≡ false → All (IsAmong offers) cs → stands o cs ≡ true → ⊥
not_among offers o [] n among s = false_not_true s
not_among offers o (c ∷ cs) n among s = by (same_option c.option o) refl (not_among offers o cs n) where
  by : (b : Bool) → same_option c.option o ≡ b → (All (IsAmong offers) cs → stands o cs ≡ true → ⊥) → ⊥
  by true e rest =
      let it = word_one c.option o ((bytes_eq-Decides (option_word c.option) (option_word o)).0 e) in
      false_not_true (sym n ∙ ap (has_option offers) (sym it) ∙ All-head (IsAmong offers) c cs among)
  by false e rest = let same : stands o (c ∷ cs) ≡ stands o cs = rw e refl in rest (All-tail (IsAmong offers) c cs among) (sym same ∙ s)

-- what may stand beside --check is offered without it too
beside : (o : OptionName) → has_option verify_row o ≡ true → same_option o names.Check ≡ false → has_option refute_row o ≡ true
beside names.Finite among n = refl
beside names.Check among n = absurd (false_not_true (sym n))
beside o among n = absurd (false_not_true among)

without_check : (cs : List Setting) → All (IsAmong verify_row) cs → check_of cs ≡ false → All (IsAmong refute_row) cs
without_check [] among n = All-nil (IsAmong refute_row)
without_check (c ∷ cs) among n = by (same_option c.option names.Check) refl (without_check cs) where
  by : (b : Bool) → same_option c.option names.Check ≡ b → (All (IsAmong verify_row) cs → check_of cs ≡ false → All (IsAmong refute_row) cs)
      → All (IsAmong refute_row) (c ∷ cs)
  by true e rest = let there : check_of (c ∷ cs) ≡ true = rw e refl in absurd (false_not_true (sym n ∙ there))
  by false e rest =
      let same : check_of (c ∷ cs) ≡ check_of cs = rw e refl in
      All-cons (IsAmong refute_row) c cs (beside c.option (All-head (IsAmong verify_row) c cs among) e)
      (rest (All-tail (IsAmong verify_row) c cs among) (sym same ∙ n))

-- settings that are taken, but not to refute, have --check among them
checked : (cs : List Setting) → All (IsAmong verify_row) cs → (All (IsAmong refute_row) cs → ⊥) → check_of cs ≡ true
checked cs among never = by (check_of cs) refl where
  by : (b : Bool) → check_of cs ≡ b → check_of cs ≡ true
  by true e = e
  by false e = absurd (never (without_check cs among e))

-- ---- what is asked for

pub asks_to_verify : (words : List (List ℕ)) → NoneAreSaid refute_row words → (options : Options) → AreSaid verify_row words options
    → IsRefutationAsked words (refutation.Check options)
asks_to_verify words none options (settings, (say, once, among), are) =
    (settings, ((say, once, among), checked settings among (λ other. none settings (say, once, other))), are)

pub asks_neither : (words : List (List ℕ)) → NoneAreSaid refute_row words → NoneAreSaid verify_row words → (c : RefutationAsked) → AsksRefutation words c → ⊥
asks_neither words none never (Refute settings) say = none settings say
asks_neither words none never (Verify settings) (say, check) = never settings say

-- ---- one of both

not_both : (words : List (List ℕ)) (cs ds : List Setting) → AsksRefutation words (Refute cs) → AsksRefutation words (Verify ds) → ⊥
not_both words cs ds (say, once, among) ((say', once', among'), check) =
    not_among refute_row names.Check cs refl among (ap check_of (settings_one cs ds words say say') ∙ check)

pub refutation_one : (words : List (List ℕ)) (c d : RefutationAsked) → AsksRefutation words c → AsksRefutation words d → c ≡ d
refutation_one words (Refute cs) (Refute ds) p q = ap Refute (settings_one cs ds words p.0 q.0)
refutation_one words (Verify cs) (Verify ds) p q = ap Verify (settings_one cs ds words p.0.0 q.0.0)
refutation_one words (Refute cs) (Verify ds) p q = absurd (not_both words cs ds p q)
refutation_one words (Verify cs) (Refute ds) p q = absurd (not_both words ds cs q p)
