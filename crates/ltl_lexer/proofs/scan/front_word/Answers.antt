use Rattle.std.proofs.Common.{◌≡◌, ◌+◌, ◌≤◌, length, take, drop, arith, false, subst}
use Rattle.std.proofs.lemmas.List.{length-drop}
use Rattle.ltl_lexer.specs.Tokens.{IsWord}
use Rattle.ltl_lexer.specs.Scanning.{FrontChar}
use Rattle.ltl_lexer.proofs.Fronts.{front_within, word_longer, word_ends, no_word, rest_taken}
use Rattle.ltl_lexer.proofs.scan.front_word.Goals as goal

pub loop-size-preserved : goal.loop-size-preserved
loop-size-preserved c =
    let text = c.args.text.now in
    let w = front_within false (drop c.loop-size.len text) c.loop-size.size c.loop-size.invariant.next in
    let l = length-drop c.loop-size.len text in
    let le : c.loop-size.len ≤ length text = c.loop-size.invariant.within in
    record {
      within = omega arith;
      word = word_longer text c.loop-size.len c.loop-size.size le c.loop-size.invariant.word c.loop-size.invariant.next (omega arith);
      next = rest_taken false text (c.loop-size.len + c.loop-size.size) c.front_char-size-in-loop-size.result c.front_char-size-in-loop-size.ensures;
    }

pub returns : goal.returns
returns c =
    let zero_size : c.loop-size.size ≡ 0 = omega arith in
    record {
      within = c.loop-size.invariant.within;
      word = λ pos. (
        c.loop-size.invariant.word,
        word_ends (take c.loop-size.len c.args.text.now) (drop c.loop-size.len c.args.text.now) c.loop-size.invariant.word
            (subst (FrontChar false (drop c.loop-size.len c.args.text.now)) zero_size c.loop-size.invariant.next),
      );
      none = λ e. absurd (no_word (subst (λ n. IsWord (take n c.args.text.now)) e c.loop-size.invariant.word));
    }
