use Rattle.std.proofs.Common.{map, string_bytes}
use Rattle.clap.specs.Words.{fault_of}
use Rattle.requirements_top.specs.Words.{words_app}
use Rattle.requirements_top.proofs.Wording.{faulty}
use Rattle.requirements_top.proofs.words.matched.Goals as goal

pub returns-else-is_no_memory : goal.returns-else-is_no_memory
returns-else-is_no_memory c = faulty (fault_of words_app (map string_bytes c.args.words.now)) c.in-Err.error c.in-Err.ensures.fails
    (c.is_no_memory.ensures c.if-is_no_memory.false)
