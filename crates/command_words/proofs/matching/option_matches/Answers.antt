use Rattle.std.proofs.Common.{◌≡◌, ◌∙◌, map, string_bytes, true, false, sym}
use Rattle.command_words.proofs.Matched.{said_taken, said_matched}
use Rattle.command_words.proofs.matching.option_matches.Goals as goal

pub prove-unreachable-requires : goal.prove-unreachable-requires
prove-unreachable-requires c =
    let kind = c.kind.ensures ∙ c.in-Err.ensures.refused (said_taken (map string_bytes c.args.words.now) c.requires.0 c.requires.1) in
    let e = c.eq-no_memory.ensures in
    let f = c.if-prove.true in
    let t : c.eq-no_memory.result ≡ true = rw kind at e in
    let g : true ≡ false = sym t ∙ f in cc

pub returns-in-Ok : goal.returns-in-Ok
returns-in-Ok c = said_matched (map string_bytes c.args.words.now) c.in-Ok.matches c.in-Ok.ensures.matches
