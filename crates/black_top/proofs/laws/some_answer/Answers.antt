use Rattle.black_top.proofs.SomeAnswer.{answer_there}
use Rattle.black_top.proofs.laws.some_answer.Goals as goal

pub returns : goal.returns
returns c words bytes =
    answer_there (record {
      words = c.asks_or_not.ensures;
      outcome = c.one_outcome.ensures.some_outcome;
      reads = c.printed_text.ensures.reads;
      search = record {
        verdict = c.verdict_exists.ensures;
        limit = c.core_exists.ensures.limit;
        core = c.core_exists.ensures.core;
        runs = record {
          text = c.words.ensures.text;
          no_brace = c.words.ensures.no_brace;
          traces = c.traces_of_runs.ensures;
          satisfy = c.run_satisfies.ensures.satisfies;
          rules = c.run_satisfies.ensures.rules;
        };
        printable = c.printed_text.ensures.printable;
      };
      writing = record { trimmed = c.some_trimmed.ensures; verifies = c.trimmed.ensures.verify; few = c.some_refutation.ensures.few; decided = c.some_refutation.ensures.decided };
      one_verdict = c.one_verdict.ensures;
      trace = c.some_reading.ensures;
      decides = c.decided.ensures;
      check = record { texts = c.texts.ensures.other; first = c.judging.ensures.first; good = c.answers.ensures.good; limit = c.core_exists.ensures.limit };
      lifting = record { text = c.words.ensures.text; lifts = c.lifting.ensures.lifted; few = c.few_names.ensures.small; trace = c.some_reading.ensures };
    }) words bytes
