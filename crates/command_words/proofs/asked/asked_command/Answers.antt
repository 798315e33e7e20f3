use Rattle.std.proofs.Common.{◌∙◌, ◌-◌, ◌∷◌, length, take, drop, map, string_bytes, sym, ap}
use Rattle.std.proofs.lemmas.Result.{IfOk-weaker}
use Rattle.command_words.proofs.Saying.{first_word, match_weaker}
use Rattle.command_words.proofs.Asking.{asks_nothing, asks_what_follows}
use Rattle.command_words.proofs.asked.asked_command.Goals as goal

pub returns-in-Some : goal.returns-in-Some
returns-in-Some c =
    let words = c.args.words.now in
    let more = map string_bytes (take (length words - 1) (drop 1 words)) in
    let whole = first_word string_bytes words c.word-item.result c.in-len1-up.len_at_least c.word-item.is ∙ ap (λ w. w ∷ more) (sym c.as_str.ensures.value) in
    IfOk-weaker c.asked_further.result _ _
    (λ asked. match_weaker asked _ _ _ _ (asks_nothing (map string_bytes words) more c.as_str.result.now c.in-Some.command whole c.in-Some.ensures)
    (λ a follows. asks_what_follows (map string_bytes words) more c.as_str.result.now c.in-Some.command a whole c.in-Some.ensures follows))
    c.asked_further.ensures
