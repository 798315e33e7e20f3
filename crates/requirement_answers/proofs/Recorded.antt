-- The behaviours of a document are traces.
use Rattle.std.proofs.Common.{◌≡◌, ℕ, suc, ◌<◌, List, [], ◌∷◌, ◌++◌, length, refl, ap, subst}
use Rattle.std.specs.List.{All}
use Rattle.std.proofs.lemmas.List.Elements.{All-nil, All-cons}
use Rattle.toml.specs.Data.{Data}
use Rattle.ltl_word.specs.declared.trace.Trace.{Trace}
use Rattle.ltl_word.specs.declared.trace.Trace.TheVariants.{Infinite, Finite}
use Rattle.ltl_word.specs.Trace.{Names, IsTrace}
use Rattle.ltl_word.specs.Json.{AreSetsOf, IsTraceOf}
use Rattle.requirement_document.specs.Values.{BehaviourValue, DocumentValue}
use Rattle.requirement_document.specs.Document.{name_at, in_list, AreBehaviours, IsDocument}
use Rattle.requirement_answers.specs.Reports.{RecordsTraces}

as_many : (all states : List Names) → AreSetsOf all states → length all ≡ length states
as_many [] [] w = refl
as_many [] (s ∷ states) w = absurd w
as_many (n ∷ all) [] w = absurd w
as_many (n ∷ all) (s ∷ states) w = ap suc (as_many all states w.1)

is_trace : (written t : Trace) → IsTrace written → IsTraceOf written t → IsTrace t
is_trace (Infinite stem loop_part) (Infinite stem' loop_part') some sets = subst (λ n. 0 < n) (as_many loop_part loop_part' sets.1) some
is_trace (Infinite stem loop_part) (Finite states') some sets = absurd sets
is_trace (Finite states) (Infinite stem' loop_part') some sets = absurd sets
is_trace (Finite states) (Finite states') some sets = subst (λ n. 0 < n) (as_many states states' sets) some

each_trace : (taken : List (List ℕ)) (es : List Data) (bs : List BehaviourValue) → AreBehaviours taken es bs → All (λ b. IsTrace b.trace) bs
each_trace taken [] [] w = All-nil (λ b. IsTrace b.trace)
each_trace taken [] (b ∷ bs) w = absurd w
each_trace taken (e ∷ es) [] w = absurd w
each_trace taken (e ∷ es) (b ∷ bs) w =
    All-cons (λ x. IsTrace x.trace) b bs (is_trace w.0.written b.trace w.0.some w.0.sets) (each_trace (taken ++ in_list (name_at e)) es bs w.1)

pub records_traces : (text : List ℕ) (d : DocumentValue) → IsDocument text d → RecordsTraces d
records_traces text d w = each_trace _ w.document.behaviours.0 d.behaviours w.document.behaviours.2
