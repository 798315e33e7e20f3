use Rattle.std.proofs.Common.{◌≡◌, ℕ, length, slice_get, Some}
use Rattle.ltl_syntax.specs.Table.{tree_at}
use Rattle.system_check.specs.TwoStates.{HasForms}
use Rattle.system_check.specs.declared.forms.Forms.{Forms}
use Rattle.system_check.proofs.forms.forms_of.Given as goal

abbrev pub invariant-nodes : goal.invariant-nodes
invariant-nodes l = record {
  count : length l.forms.items ≡ l.number;
  each : (i : ℕ) (w : Forms) → slice_get l.forms.items i ≡ Some w → HasForms (tree_at l.table i) w;
}
