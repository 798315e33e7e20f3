-- The numbers that are read from the entry of an eventuality are those of its right operand and of its request.
use Rattle.std.proofs.Common.{◌≡◌, ℕ, ◌<◌, false, IsTrue, ap, sym, ◌∙◌, subst, List, length, get_or, Contains}
use Rattle.std.proofs.lemmas.List.{get_or-map, length-map}
use Rattle.std.proofs.lemmas.List.Elements.{Contains-get_or}
use Rattle.ltl_syntax.specs.Formula.{Formula}
use Rattle.ltl_closure.specs.Norm.{Norm, NConst, NUntil}
use Rattle.ltl_closure.specs.Closure.{closure, eventualities, is_eventuality}
use Rattle.ltl_closure.specs.Entries.{place_in, numbers_of, StandsFor, AreEntries, IsNumber, entry_at}
use Rattle.ltl_closure.specs.Run.{request_of, right_of}
use Rattle.ltl_closure.specs.declared.entry.Entry.{Entry}
use Rattle.ltl_closure.proofs.Lists.{Contains-from_filter}
use Rattle.ltl_closure.proofs.Known.{known_number, eventuality_in}
use Rattle.enc_layout.specs.Clauses.{eventuality}
use Rattle.enc_layout.proofs.Carries.{right_in}
use Rattle.enc_layout.proofs.Standing.{stands}
use Rattle.enc_layout.proofs.Writing.{request_in}
use Rattle.claim_check.specs.Bases.{right_by, request_by, right_number, request_number}

pub as_many : (f : Formula) (numbers : List ℕ) → numbers ≡ numbers_of f (eventualities f) → length numbers ≡ length (eventualities f)
as_many f numbers is = ap length is ∙ length-map (eventualities f) (place_in (closure f))

module _ (f : Formula) (m : ℕ) (lt : m < length (eventualities f)) where
  member : Contains (eventualities f) (eventuality f m)
  member = Contains-get_or (eventualities f) m (NConst false) lt

  pub right_known : IsNumber (length (closure f)) (right_number f m)
  right_known = known_number f (right_of (eventuality f m)) (right_in f (eventuality f m) (eventuality_in f (eventuality f m) member))

  pub request_known : IsNumber (length (closure f)) (request_number f m)
  request_known = known_number f (request_of (eventuality f m)) (request_in f (eventuality f m) member)

  number : (numbers : List ℕ) → numbers ≡ numbers_of f (eventualities f) → get_or numbers m 0 ≡ place_in (closure f) (eventuality f m)
  number numbers is = ap (λ ns. get_or ns m 0) is ∙ get_or-map (place_in (closure f)) (eventualities f) m (NConst false) 0 lt

  pub known_at : (numbers : List ℕ) → numbers ≡ numbers_of f (eventualities f) → IsNumber (length (closure f)) (get_or numbers m 0)
  known_at numbers is =
      subst (IsNumber (length (closure f))) (sym (number numbers is)) (known_number f (eventuality f m) (eventuality_in f (eventuality f m) member))

right_same : (names : List (List ℕ)) (f : Formula) (n : ℕ) (e : Norm) (x : Entry) → IsTrue (is_eventuality e) → StandsFor names f e x
    → right_by n x ≡ place_in (closure f) (right_of e)
right_same names f n (NUntil a b) x y s = ap (right_by n) s
right_same names f n e x y s = cc

request_same : (names : List (List ℕ)) (f : Formula) (n : ℕ) (e : Norm) (x : Entry) → IsTrue (is_eventuality e) → StandsFor names f e x
    → request_by n x ≡ place_in (closure f) (request_of e)
request_same names f n (NUntil a b) x y s = ap (request_by n) s
request_same names f n e x y s = cc

module _ (names : List (List ℕ)) (f : Formula) (entries : List Entry) (are : AreEntries names f entries) (m : ℕ) (lt : m < length (eventualities f))
    (numbers : List ℕ)
    (is : numbers ≡ numbers_of f (eventualities f)) where
  it_is : IsTrue (is_eventuality (eventuality f m))
  it_is = (Contains-from_filter is_eventuality (closure f) (eventuality f m) (member f m lt)).1

  it_stands : StandsFor names f (eventuality f m) (entry_at entries (get_or numbers m 0))
  it_stands =
      subst (λ n. StandsFor names f (eventuality f m) (entry_at entries n)) (sym (number f m lt numbers is))
      (stands names f entries are (eventuality f m) (eventuality_in f (eventuality f m) (member f m lt)))

  pub right_at : right_by (get_or numbers m 0) (entry_at entries (get_or numbers m 0)) ≡ right_number f m
  right_at = right_same names f (get_or numbers m 0) (eventuality f m) (entry_at entries (get_or numbers m 0)) it_is it_stands

  pub request_at : request_by (get_or numbers m 0) (entry_at entries (get_or numbers m 0)) ≡ request_number f m
  request_at = request_same names f (get_or numbers m 0) (eventuality f m) (entry_at entries (get_or numbers m 0)) it_is it_stands
