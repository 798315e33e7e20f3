-- The closure of a formula: its entries in their order.
use Rattle.std.specs.Prelude.{Bool, true, false, ◌||◌, List, [], ◌∷◌, ◌++◌, filter, if◌then◌else◌}
use mathlib.Core.Bool.{Bool-discrete}
use Rattle.ltl_closure.specs.Decide.{number_decided, name_decided, is_yes}
use Rattle.ltl_syntax.specs.Formula.{Formula, Atom-discrete}
use Rattle.ltl_closure.specs.Norm.{Norm, NConst, NLetter, NNotLetter, NAnd, NOr, NNext, NWeakNext, NYesterday, NWeakYesterday, NUntil, NRelease, NSince}
use Rattle.ltl_closure.specs.Norm.{NTrigger, Norm-discrete, pos_of}

abbrev pub same : Norm → Norm → Bool
same a b = is_yes (Norm-discrete Bool-discrete (Atom-discrete name_decided number_decided) a b)

abbrev pub holds_entry : List Norm → Norm → Bool
holds_entry [] e = false
holds_entry (x ∷ xs) e = same x e || holds_entry xs e

-- the walk: the children from left to right, the node, and then its request
abbrev pub walk : Norm → List Norm
walk (NConst b) = NConst b ∷ []
walk (NLetter p) = NLetter p ∷ []
walk (NNotLetter p) = NLetter p ∷ NNotLetter p ∷ []
walk (NAnd a b) = walk a ++ (walk b ++ NAnd a b ∷ [])
walk (NOr a b) = walk a ++ (walk b ++ NOr a b ∷ [])
walk (NNext a) = walk a ++ NNext a ∷ []
walk (NWeakNext a) = walk a ++ NWeakNext a ∷ []
walk (NYesterday a) = walk a ++ NYesterday a ∷ []
walk (NWeakYesterday a) = walk a ++ NWeakYesterday a ∷ []
walk (NUntil a b) = walk a ++ (walk b ++ NUntil a b ∷ NNext (NUntil a b) ∷ [])
walk (NRelease a b) = walk a ++ (walk b ++ NRelease a b ∷ NWeakNext (NRelease a b) ∷ [])
walk (NSince a b) = walk a ++ (walk b ++ NSince a b ∷ NYesterday (NSince a b) ∷ [])
walk (NTrigger a b) = walk a ++ (walk b ++ NTrigger a b ∷ NWeakYesterday (NTrigger a b) ∷ [])

-- the entries, and behind them x where it is not there yet
abbrev pub added : List Norm → Norm → List Norm
added kept x = if holds_entry kept x then kept else kept ++ x ∷ []

-- the entries, and behind them those of the list that are not there yet
abbrev pub with_new : List Norm → List Norm → List Norm
with_new kept [] = kept
with_new kept (x ∷ xs) = with_new (added kept x) xs

abbrev pub closure : Formula → List Norm
closure f = with_new [] (walk (pos_of f))

abbrev pub is_next : Norm → Bool
is_next (NNext a) = true
is_next (NWeakNext a) = true
is_next _ = false

abbrev pub is_yesterday : Norm → Bool
is_yesterday (NYesterday a) = true
is_yesterday (NWeakYesterday a) = true
is_yesterday _ = false

abbrev pub is_eventuality : Norm → Bool
is_eventuality (NUntil a b) = true
is_eventuality _ = false

-- what a request asks for
abbrev pub argument : Norm → Norm
argument (NNext a) = a
argument (NWeakNext a) = a
argument (NYesterday a) = a
argument (NWeakYesterday a) = a
argument e = e

abbrev pub nexts : Formula → List Norm
nexts f = filter is_next (closure f)

abbrev pub yesterdays : Formula → List Norm
yesterdays f = filter is_yesterday (closure f)

abbrev pub eventualities : Formula → List Norm
eventualities f = filter is_eventuality (closure f)
