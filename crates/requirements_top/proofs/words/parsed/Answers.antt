use Rattle.std.proofs.Common.{ap, ap₂, true, map, string_bytes, ◌≡◌, ◌∙◌, subst}
use Rattle.std.proofs.lemmas.Result.{IfOk-weaker}
use Rattle.clap.specs.Words.{FailsBy, app_of, fault_of, matches_of, with_rule}
use Rattle.clap.specs.Simple.{app_of_fields, on_top, is_simple}
use Rattle.clap.specs.Faults.{is_simple_and_free}
use Rattle.requirements_top.specs.Words.{words_app}
use Rattle.requirements_top.proofs.Wording.{words_simple, words_free}
use Rattle.requirements_top.proofs.words.parsed.Goals as goal

-- the command that was made is the defined one
made : (c : goal.After-try_get_matches_from) → app_of c.in_ok-options.options ≡ words_app
unfolding words_app
made c =
    let bare = ap app_of_fields c.disable_version_flag.ensures ∙ ap (on_top (λ s. record s { disable_version_flag = true }))
    (ap app_of_fields c.disable_help_flag.ensures ∙ ap (on_top (λ s. record s { disable_help_flag = true }))
    (ap app_of_fields c.no_binary_name.ensures ∙ ap (on_top (λ s. record s { no_binary_name = true })) c.new.ensures.app)) in
    let first = c.in_ok-arg.ensures.shape c.flag.ensures.own ∙ ap₂ with_rule bare c.flag.ensures.rule in
    let second = c.in_ok-arg-2.ensures.shape c.flag-2.ensures.own ∙ ap₂ with_rule first c.flag-2.ensures.rule in
    let third = c.in_ok-arg-3.ensures.shape c.flag-3.ensures.own ∙ ap₂ with_rule second c.flag-3.ensures.rule in
    let fourth = c.in_ok-arg-4.ensures.shape c.flag-4.ensures.own ∙ ap₂ with_rule third c.flag-4.ensures.rule in
    let fifth = c.in_ok-arg-5.ensures.shape c.flag-5.ensures.own ∙ ap₂ with_rule fourth c.flag-5.ensures.rule in
    let sixth = c.in_ok-arg-6.ensures.shape c.valued.ensures.own ∙ ap₂ with_rule fifth c.valued.ensures.rule in
    let seventh = c.in_ok-arg-7.ensures.shape c.valued-2.ensures.own ∙ ap₂ with_rule sixth c.valued-2.ensures.rule in
    let eighth = c.in_ok-arg-8.ensures.shape c.valued-3.ensures.own ∙ ap₂ with_rule seventh c.valued-3.ensures.rule in
    c.in_ok-options.ensures.shape c.valued-4.ensures.own ∙ ap₂ with_rule eighth c.valued-4.ensures.rule

pub returns-clause-matches : goal.returns-clause-matches
returns-clause-matches c =
    let is = made c in
    IfOk-weaker c.try_get_matches_from.result _ _
    (λ m h. (h (ap is_simple is ∙ words_simple)).0 ∙ ap (λ a. matches_of a (map string_bytes c.args.words.now)) is) c.try_get_matches_from.ensures.matches

pub returns-clause-fails : goal.returns-clause-fails
returns-clause-fails c =
    let is = made c in
    subst (λ a. FailsBy (fault_of a (map string_bytes c.args.words.now)) c.try_get_matches_from.result) is
    (c.try_get_matches_from.ensures.kinds (ap is_simple_and_free is ∙ words_free))
