use Rattle.std.proofs.Common.{◌≡◌, ◌≤◌, ◌∙◌, ap, subst, map, length, slice_get, None, rules}
use Rattle.std.proofs.lemmas.Option.{slice_get-map, slice_get_past}
use Rattle.std.specs.Option.{option_map}
use Rattle.serde_json.specs.declared.value.Value.{the_lemmas}
use Rattle.requirement_document.specs.Values.{behaviour_in}
use Rattle.requirement_json.proofs.checks.behaviour_value.Goals as goal

pub returns-in-None : goal.returns-in-None
returns-in-None c =
    let behaviours = c.args.document.now.behaviours.items in
    let past : length behaviours ≤ c.args.number = subst (λ xs. length xs ≤ c.args.number) c.deref.ensures.value c.in-None.ensures.lookup.3 in
    let none : slice_get (map behaviour_in behaviours) c.args.number ≡ None =
    slice_get-map behaviour_in behaviours c.args.number ∙ ap (option_map behaviour_in) (slice_get_past behaviours c.args.number past) in
    rw none (search (rules, the_lemmas))
