-- What is asked of a document.
use Rattle.std.specs.Prelude.{ℕ, Bool, true, false, ◌==◌, List, [], ◌∷◌, ◌++◌, Option, Some, None, if◌then◌else◌}
use Rattle.std.specs.List.{filter, flat_map}
use Rattle.ltl_syntax.specs.declared.node.UnaryOp.TheVariants.{Not}
use Rattle.ltl_syntax.specs.Formula.{Formula, Unary}
use Rattle.requirement_questions.specs.Trigger.{trigger_of}
use Rattle.requirement_document.specs.declared.document.Role.{Role}
use Rattle.requirement_document.specs.declared.document.Role.TheVariants as roles
use Rattle.requirement_document.specs.Values.{DocumentValue}
use Rattle.requirement_answers.specs.declared.asking.Asking.{Asking}
use Rattle.requirement_answers.specs.declared.asking.Asking.TheVariants as askings
use Rattle.requirement_answers.specs.declared.findings.Scope.{Scope}
use Rattle.requirement_answers.specs.declared.findings.Scope.TheVariants as scopes
use Rattle.requirement_answers.specs.Items.{numbers_of, role_of, formula_of, is_among, without}

-- the trigger, where the formula has one
abbrev pub trigger_alone : Option Formula → List Formula
trigger_alone None = []
trigger_alone (Some f) = f ∷ []

-- what is asked beside the given items: nothing; that the trigger of the item holds; that the item fails, or that it holds
abbrev pub asked_of : DocumentValue → Asking → List Formula
asked_of d askings.Together = []
asked_of d (askings.Triggered n) = trigger_alone (trigger_of (formula_of d n))
asked_of d (askings.New n) = Unary Not (formula_of d n) ∷ []
asked_of d (askings.Possible n) = formula_of d n ∷ []
asked_of d (askings.Follows n) = Unary Not (formula_of d n) ∷ []

-- what is given is what is left; whether an item says anything new is asked of the others
abbrev pub given_for : List ℕ → Asking → List ℕ
given_for left askings.Together = left
given_for left (askings.Triggered n) = left
given_for left (askings.New n) = without (n ∷ []) left
given_for left (askings.Possible n) = left
given_for left (askings.Follows n) = left

-- whether a formula has a trigger is asked where it has one
abbrev pub asks_trigger : ℕ → Option Formula → List Asking
asks_trigger n None = []
asks_trigger n (Some f) = askings.Triggered n ∷ []

-- the questions about an item by its role: about one that is required where it is left, and about none that is assumed
abbrev pub asks_of : DocumentValue → List ℕ → ℕ → Role → List Asking
asks_of d left n roles.Assume = []
asks_of d left n roles.Require = if is_among left n then asks_trigger n (trigger_of (formula_of d n)) ++ askings.New n ∷ [] else []
asks_of d left n roles.Allow = askings.Possible n ∷ []
asks_of d left n roles.Ensure = askings.Follows n ∷ []

abbrev pub asks_about : DocumentValue → List ℕ → ℕ → List Asking
asks_about d left n = asks_of d left n (role_of d n)

-- whether a report of this scope is about an item, and about a behaviour
abbrev pub covers_item : Scope → ℕ → Bool
covers_item scopes.All n = true
covers_item (scopes.Item k) n = k == n
covers_item (scopes.Behaviour k) n = false

abbrev pub covers_behaviour : Scope → ℕ → Bool
covers_behaviour scopes.All n = true
covers_behaviour (scopes.Item k) n = false
covers_behaviour (scopes.Behaviour k) n = k == n

-- the further questions in the document's order
abbrev pub questions_of : DocumentValue → Scope → List ℕ → List Asking
questions_of d scope left = flat_map (asks_about d left) (filter (covers_item scope) (numbers_of d))
