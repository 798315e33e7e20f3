-- The names of some states, one behind the other.
use Rattle.std.specs.Prelude.{List, [], ◌∷◌, ◌++◌}
use Rattle.ltl_word.specs.Trace.{Names}

abbrev pub all_names : List Names → Names
all_names [] = []
all_names (state ∷ states) = state ++ all_names states
