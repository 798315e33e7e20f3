use Rattle.std.proofs.Common.{ap, ap₂, true, map, string_bytes, ◌≡◌, ◌∙◌}
use Rattle.std.proofs.lemmas.Result.{IfErr-weaker, IfOk-weaker}
use Rattle.clap.specs.Words.{app_of, matches_of, with_rule, takes}
use Rattle.clap.specs.Simple.{app_of_fields, on_top, is_simple}
use Rattle.command_words.specs.Matching.{options_app}
use Rattle.command_words.proofs.Walking.{options_simple}
use Rattle.command_words.proofs.matching.parsed.Goals as goal

-- the command that was made is the defined one
made : (c : goal.After-try_get_matches_from) → app_of c.in_ok-options.options ≡ options_app
unfolding options_app
made c =
    let bare = ap app_of_fields c.disable_version_flag.ensures ∙ ap (on_top (λ s. record s { disable_version_flag = true }))
    (ap app_of_fields c.disable_help_flag.ensures ∙ ap (on_top (λ s. record s { disable_help_flag = true }))
    (ap app_of_fields c.no_binary_name.ensures ∙ ap (on_top (λ s. record s { no_binary_name = true })) c.new.ensures.app)) in
    c.in_ok-options.ensures.shape c.flag-5.ensures.own
    ∙ ap₂ with_rule (c.in_ok-arg-7.ensures.shape c.valued-3.ensures.own
    ∙ ap₂ with_rule (c.in_ok-arg-6.ensures.shape c.flag-4.ensures.own
    ∙ ap₂ with_rule (c.in_ok-arg-5.ensures.shape c.valued-2.ensures.own
    ∙ ap₂ with_rule (c.in_ok-arg-4.ensures.shape c.flag-3.ensures.own
    ∙ ap₂ with_rule (c.in_ok-arg-3.ensures.shape c.flag-2.ensures.own
    ∙ ap₂ with_rule (c.in_ok-arg-2.ensures.shape c.valued.ensures.own
    ∙ ap₂ with_rule (c.in_ok-arg.ensures.shape c.flag.ensures.own ∙ ap₂ with_rule bare c.flag.ensures.rule) c.valued.ensures.rule) c.flag-2.ensures.rule)
    c.flag-3.ensures.rule) c.valued-2.ensures.rule) c.flag-4.ensures.rule) c.valued-3.ensures.rule)
    c.flag-5.ensures.rule

pub returns-clause-matches : goal.returns-clause-matches
returns-clause-matches c =
    let is = made c in
    IfOk-weaker c.try_get_matches_from.result _ _
    (λ m h. (h (ap is_simple is ∙ options_simple)).0 ∙ ap (λ a. matches_of a (map string_bytes c.args.words.now)) is) c.try_get_matches_from.ensures.matches

pub returns-clause-refused : goal.returns-clause-refused
returns-clause-refused c =
    let is = made c in
    IfErr-weaker c.try_get_matches_from.result _ _ (λ e h taken. h (ap (λ a. takes a (map string_bytes c.args.words.now)) is ∙ taken))
    c.try_get_matches_from.ensures.passes
