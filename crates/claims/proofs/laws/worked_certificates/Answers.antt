use Rattle.std.proofs.Common.{◌≡◌, true, false, refl}
use Rattle.std.proofs.lemmas.Bool.Decides.{not_from_Decides}
use Rattle.ltl_syntax.specs.declared.node.Kind.{Kind}
use Rattle.ltl_syntax.specs.declared.node.Kind.TheVariants as Kinds
use Rattle.ltl_syntax.specs.Formula.{Formula}
use Rattle.claims.specs.Certificate.{Certificate}
use Rattle.claims.specs.Lawful.{IsLawful}
use Rattle.claims.specs.Worked.{again_and_never, never_certificate, too_strong, without_eventuality, after_q, layers_certificate, layers_exchanged}
use Rattle.claims.specs.Worked.{next_for_ever, ending_certificate, next_once, in_a_circle, before_all, first_certificate}
use Rattle.claims.proofs.Judging.{is_lawful, Decides-lawful}
use Rattle.claims.proofs.laws.worked_certificates.Goals as goal

yes_lawful : (f : Formula) (kind : Kind) (c : Certificate) → is_lawful f kind c ≡ true → IsLawful f kind c
yes_lawful f kind c = (Decides-lawful f kind c).0

not_lawful : (f : Formula) (kind : Kind) (c : Certificate) → is_lawful f kind c ≡ false → ¬ IsLawful f kind c
not_lawful f kind c = not_from_Decides (is_lawful f kind c) (Decides-lawful f kind c)

past_lawful : (kind : Kind) → IsLawful before_all kind (first_certificate kind)
past_lawful Kinds.Infinite = yes_lawful before_all Kinds.Infinite (first_certificate Kinds.Infinite) refl
past_lawful Kinds.Finite = yes_lawful before_all Kinds.Finite (first_certificate Kinds.Finite) refl

pub returns : goal.returns
returns c = record {
  never_list = refl;
  never_letters = refl;
  never = yes_lawful again_and_never Kinds.Infinite never_certificate refl;
  other_kind = not_lawful again_and_never Kinds.Finite never_certificate refl;
  strong = not_lawful again_and_never Kinds.Infinite too_strong refl;
  no_eventuality = not_lawful again_and_never Kinds.Infinite without_eventuality refl;
  two_lists = refl;
  two_layers = yes_lawful after_q Kinds.Infinite layers_certificate refl;
  exchanged = not_lawful after_q Kinds.Infinite layers_exchanged refl;
  ending_list = refl;
  ending = yes_lawful next_for_ever Kinds.Finite ending_certificate refl;
  once_list = refl;
  circle = not_lawful next_once Kinds.Finite in_a_circle refl;
  past_list = refl;
  past = past_lawful;
}
