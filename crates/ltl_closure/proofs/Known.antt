-- A member of the closure has the number of an entry, and so have all that the lists of requests and of eventualities hold.
use Rattle.std.proofs.Common.{◌≡◌, ℕ, sym, subst, List, length, get_or, Contains, All}
use Rattle.std.proofs.lemmas.List.Elements.{All-map, Contains-get_or}
use Rattle.ltl_syntax.specs.Formula.{Formula}
use Rattle.ltl_closure.specs.Norm.{Norm, pos_of}
use Rattle.ltl_closure.specs.Closure.{closure, nexts, yesterdays, eventualities, is_next, is_yesterday, is_eventuality}
use Rattle.ltl_closure.specs.Entries.{place_in, numbers_of, IsNumber}
use Rattle.ltl_closure.proofs.Entries.{closure_root}
use Rattle.ltl_closure.proofs.Lists.{Contains-from_filter}
use Rattle.ltl_closure.proofs.Places.{place_from_one, place_within}

pub known_number : (f : Formula) (e : Norm) → Contains (closure f) e → IsNumber (length (closure f)) (place_in (closure f) e)
known_number f e m = (place_from_one (closure f) e, place_within (closure f) e m)

pub root_number : (f : Formula) → IsNumber (length (closure f)) (place_in (closure f) (pos_of f))
root_number f = known_number f (pos_of f) (closure_root f)

pub numbers_known : (f : Formula) (es : List Norm) → ((e : Norm) → Contains es e → Contains (closure f) e)
    → All (IsNumber (length (closure f))) (numbers_of f es)
numbers_known f es h =
    All-map (IsNumber (length (closure f))) (place_in (closure f)) es (λ k d lt. known_number f (get_or es k d) (h (get_or es k d) (Contains-get_or es k d lt)))

module _ (f : Formula) where
  pub next_in : (e : Norm) → Contains (nexts f) e → Contains (closure f) e
  next_in e h = (Contains-from_filter is_next (closure f) e h).0

  pub yesterday_in : (e : Norm) → Contains (yesterdays f) e → Contains (closure f) e
  yesterday_in e h = (Contains-from_filter is_yesterday (closure f) e h).0

  pub eventuality_in : (e : Norm) → Contains (eventualities f) e → Contains (closure f) e
  eventuality_in e h = (Contains-from_filter is_eventuality (closure f) e h).0

  pub nexts_known : All (IsNumber (length (closure f))) (numbers_of f (nexts f))
  nexts_known = numbers_known f (nexts f) next_in

  pub yesterdays_known : All (IsNumber (length (closure f))) (numbers_of f (yesterdays f))
  yesterdays_known = numbers_known f (yesterdays f) yesterday_in

  pub eventualities_known : All (IsNumber (length (closure f))) (numbers_of f (eventualities f))
  eventualities_known = numbers_known f (eventualities f) eventuality_in

-- lists that are equal to those
pub all_known : (w : ℕ) (numbers others : List ℕ) → numbers ≡ others → All (IsNumber w) others → All (IsNumber w) numbers
all_known w numbers others is = subst (All (IsNumber w)) (sym is)
