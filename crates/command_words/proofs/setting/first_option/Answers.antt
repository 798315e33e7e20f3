use Rattle.std.proofs.Common.{◌∙◌, ◌-◌, length, take, drop, map, string_bytes, sym, ap, ◌∷◌, Some, None, arith}
use Rattle.std.proofs.lemmas.Str.Pattern.{split_parts}
use Rattle.clap.proofs.CutLemmas.{list_any-Lacks}
use Rattle.command_words.proofs.Saying.{first_word, joined_first, joined_nothing, apart_first, apart_nothing, match_weaker}
use Rattle.command_words.proofs.setting.first_option.Goals as goal

pub returns-in_err-joined_option-in-Some : goal.returns-in_err-joined_option-in-Some
returns-in_err-joined_option-in-Some c =
    let words = c.args.words.now in
    let more = map string_bytes (take (length words - 1) (drop 1 words)) in
    let whole = first_word string_bytes words c.word-item.result c.in-len1-up.len_at_least c.word-item.is
    ∙ ap (λ w. w ∷ more) (sym c.as_str-word.ensures.value) in
    let parts = split_parts 61 c.as_str-word.result.now (Some (c.in-Some.word, c.in-Some.digits)) c.in-Some.ensures.cases (omega arith) in
    let none = c.in_err-joined_option-in-Some.ensures in
    rw c.from_residual.ensures (joined_nothing (map string_bytes words) more c.as_str-word.result.now c.in-Some.word.now c.in-Some.digits.now whole parts.0
    (list_any-Lacks 61 c.in-Some.word.now parts.1) none)

pub returns-in_ok-joined_option-in-Some : goal.returns-in_ok-joined_option-in-Some
returns-in_ok-joined_option-in-Some c =
    let words = c.args.words.now in
    let more = map string_bytes (take (length words - 1) (drop 1 words)) in
    let whole = first_word string_bytes words c.word-item.result c.in-len1-up.len_at_least c.word-item.is
    ∙ ap (λ w. w ∷ more) (sym c.as_str-word.ensures.value) in
    let parts = split_parts 61 c.as_str-word.result.now (Some (c.in-Some.word, c.in-Some.digits)) c.in-Some.ensures.cases (omega arith) in
    joined_first (map string_bytes words) more c.as_str-word.result.now c.in-Some.word.now c.in-Some.digits.now c.in_ok-joined_option-in-Some.field-0 whole
    parts.0 c.in_ok-joined_option-in-Some.ensures

pub returns-in-None : goal.returns-in-None
returns-in-None c =
    let words = c.args.words.now in
    let more = map string_bytes (take (length words - 1) (drop 1 words)) in
    let whole = first_word string_bytes words c.word-item.result c.in-len1-up.len_at_least c.word-item.is
    ∙ ap (λ w. w ∷ more) (sym c.as_str-word.ensures.value) in
    let lacks = list_any-Lacks 61 c.as_str-word.result.now (split_parts 61 c.as_str-word.result.now None c.in-None.ensures.cases (omega arith)) in
    match_weaker c.option_apart.result _ _ _ _ (λ none. apart_nothing (map string_bytes words) more c.as_str-word.result.now whole lacks none)
    (λ said is. apart_first (map string_bytes words) more (map string_bytes said.1.now) c.as_str-word.result.now said.0 whole is) c.option_apart.ensures
