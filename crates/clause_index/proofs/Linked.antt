-- The numbers that are read from the entries are those of what the formula has there.
use Rattle.std.proofs.Common.{◌≡◌, ℕ, ◌-◌, ◌<◌, false, true, IsTrue, ap, sym, ◌∙◌, subst, List, length, get_or, Contains}
use Rattle.std.proofs.lemmas.List.{get_or-map, length-map}
use Rattle.std.proofs.lemmas.List.Elements.{Contains-get_or}
use Rattle.ltl_syntax.specs.Formula.{Formula, Name, Fresh}
use Rattle.ltl_closure.specs.Norm.{Norm, NConst, NLetter, NNotLetter, NAnd, NOr, NNext, NWeakNext, NYesterday, NWeakYesterday, NUntil, NRelease, NSince}
use Rattle.ltl_closure.specs.Norm.{NTrigger}
use Rattle.ltl_closure.specs.Closure.{closure, eventualities, argument, is_eventuality}
use Rattle.ltl_closure.specs.Entries.{place_in, numbers_of, StandsFor, AreEntries, IsNumber, entry_at}
use Rattle.ltl_closure.specs.Run.{request_of, right_of}
use Rattle.ltl_closure.specs.declared.entry.Entry.{Entry}
use Rattle.ltl_closure.proofs.Lists.{Contains-from_filter}
use Rattle.ltl_closure.proofs.Known.{known_number, eventuality_in}
use Rattle.enc_layout.specs.Clauses.{eventuality}
use Rattle.enc_layout.proofs.Carries.{argument_in, right_in}
use Rattle.enc_layout.proofs.Standing.{stands}
use Rattle.enc_layout.proofs.Writing.{request_in}
use Rattle.clause_index.specs.ByNumber.{argument_by, weak_by, right_by, request_by, is_weak, number_at, argument_at, weak_at, right_number, request_number}

module _ (f : Formula) (es : List Norm) (numbers : List ℕ) (is : numbers ≡ numbers_of f es) where
  pub count_same : length numbers ≡ length es
  count_same = ap length is ∙ length-map es (place_in (closure f))

  pub number_same : (k : ℕ) → k < length es → get_or numbers k 0 ≡ number_at f es k
  number_same k lt = ap (λ ns. get_or ns k 0) is ∙ get_or-map (place_in (closure f)) es k (NConst false) 0 lt

  pub number_known : ((e : Norm) → Contains es e → Contains (closure f) e) → (k : ℕ) → k < length es → IsNumber (length (closure f)) (get_or numbers k 0)
  number_known in_closure k lt =
      let e = get_or es k (NConst false) in
      subst (IsNumber (length (closure f))) (sym (number_same k lt)) (known_number f e (in_closure e (Contains-get_or es k (NConst false) lt)))

pub argument_number_known : (f : Formula) (es : List Norm) → ((e : Norm) → Contains es e → Contains (closure f) e) → (k : ℕ) → k < length es
    → IsNumber (length (closure f)) (argument_at f es k)
argument_number_known f es in_closure k lt =
    let e = get_or es k (NConst false) in
    known_number f (argument e) (argument_in f e (in_closure e (Contains-get_or es k (NConst false) lt)))

-- the entry of a member is as the member
module _ (names : List (List ℕ)) (f : Formula) where
  abbrev p : Norm → ℕ
  p e = place_in (closure f) e

  argument_same : (e : Norm) (x : Entry) → StandsFor names f e x → argument_by (place_in (closure f) e) x ≡ place_in (closure f) (argument e)
  argument_same (NConst true) x s = ap (argument_by (p (NConst true))) s
  argument_same (NConst false) x s = ap (argument_by (p (NConst false))) s
  argument_same (NLetter (Name bytes)) x s = ap (argument_by (p (NLetter (Name bytes)))) s.1
  argument_same (NLetter (Fresh n)) x s = ap (argument_by (p (NLetter (Fresh n)))) s
  argument_same (NNotLetter q) x s = ap (argument_by (p (NNotLetter q))) s
  argument_same (NAnd a b) x s = ap (argument_by (p (NAnd a b))) s
  argument_same (NOr a b) x s = ap (argument_by (p (NOr a b))) s
  argument_same (NNext a) x s = ap (argument_by (p (NNext a))) s
  argument_same (NWeakNext a) x s = ap (argument_by (p (NWeakNext a))) s
  argument_same (NYesterday a) x s = ap (argument_by (p (NYesterday a))) s
  argument_same (NWeakYesterday a) x s = ap (argument_by (p (NWeakYesterday a))) s
  argument_same (NUntil a b) x s = ap (argument_by (p (NUntil a b))) s
  argument_same (NRelease a b) x s = ap (argument_by (p (NRelease a b))) s
  argument_same (NSince a b) x s = ap (argument_by (p (NSince a b))) s
  argument_same (NTrigger a b) x s = ap (argument_by (p (NTrigger a b))) s

  weak_same : (e : Norm) (x : Entry) → StandsFor names f e x → weak_by x ≡ is_weak e
  weak_same (NConst true) x s = ap weak_by s
  weak_same (NConst false) x s = ap weak_by s
  weak_same (NLetter (Name bytes)) x s = ap weak_by s.1
  weak_same (NLetter (Fresh n)) x s = ap weak_by s
  weak_same (NNotLetter q) x s = ap weak_by s
  weak_same (NAnd a b) x s = ap weak_by s
  weak_same (NOr a b) x s = ap weak_by s
  weak_same (NNext a) x s = ap weak_by s
  weak_same (NWeakNext a) x s = ap weak_by s
  weak_same (NYesterday a) x s = ap weak_by s
  weak_same (NWeakYesterday a) x s = ap weak_by s
  weak_same (NUntil a b) x s = ap weak_by s
  weak_same (NRelease a b) x s = ap weak_by s
  weak_same (NSince a b) x s = ap weak_by s
  weak_same (NTrigger a b) x s = ap weak_by s

  right_same : (t : ℕ) (e : Norm) (x : Entry) → IsTrue (is_eventuality e) → StandsFor names f e x → right_by t x ≡ place_in (closure f) (right_of e)
  right_same t (NUntil a b) x y s = ap (right_by t) s
  right_same t e x y s = cc

  request_same : (t : ℕ) (e : Norm) (x : Entry) → IsTrue (is_eventuality e) → StandsFor names f e x → request_by t x ≡ place_in (closure f) (request_of e)
  request_same t (NUntil a b) x y s = ap (request_by t) s
  request_same t e x y s = cc

  module _ (entries : List Entry) (are : AreEntries names f entries) (es : List Norm) (in_closure : (e : Norm) → Contains es e → Contains (closure f) e)
      (numbers : List ℕ) (is : numbers ≡ numbers_of f es) (k : ℕ) (lt : k < length es) where
    pub member_stands : StandsFor names f (get_or es k (NConst false)) (entry_at entries (get_or numbers k 0))
    member_stands =
        let e = get_or es k (NConst false) in
        subst (λ n. StandsFor names f (get_or es k (NConst false)) (entry_at entries n)) (sym (number_same f es numbers is k lt))
        (stands names f entries are e (in_closure e (Contains-get_or es k (NConst false) lt)))

    pub member_argument : argument_by (get_or numbers k 0) (entry_at entries (get_or numbers k 0)) ≡ argument_at f es k
    member_argument =
        ap (λ n. argument_by n (entry_at entries (get_or numbers k 0))) (number_same f es numbers is k lt)
        ∙ argument_same (get_or es k (NConst false)) (entry_at entries (get_or numbers k 0)) member_stands

    pub member_weak : weak_by (entry_at entries (get_or numbers k 0)) ≡ weak_at f es k
    member_weak = weak_same (get_or es k (NConst false)) (entry_at entries (get_or numbers k 0)) member_stands

module _ (names : List (List ℕ)) (f : Formula) (entries : List Entry) (are : AreEntries names f entries) (numbers : List ℕ)
    (is : numbers ≡ numbers_of f (eventualities f)) (m : ℕ) (lt : m < length (eventualities f)) where
  abbrev x : Entry
  x = entry_at entries (get_or numbers m 0)

  is_one : IsTrue (is_eventuality (eventuality f m))
  is_one = (Contains-from_filter is_eventuality (closure f) (eventuality f m) (Contains-get_or (eventualities f) m (NConst false) lt)).1

  stands_here : StandsFor names f (eventuality f m) (entry_at entries (get_or numbers m 0))
  stands_here = member_stands names f entries are (eventualities f) (eventuality_in f) numbers is m lt

  pub right_is : right_by (get_or numbers m 0) (entry_at entries (get_or numbers m 0)) ≡ right_number f m
  right_is = right_same names f (get_or numbers m 0) (eventuality f m) x is_one stands_here

  pub request_is : request_by (get_or numbers m 0) (entry_at entries (get_or numbers m 0)) ≡ request_number f m
  request_is = request_same names f (get_or numbers m 0) (eventuality f m) x is_one stands_here

module _ (f : Formula) (m : ℕ) (lt : m < length (eventualities f)) where
  pub right_known : IsNumber (length (closure f)) (right_number f m)
  right_known =
      known_number f (right_of (eventuality f m))
      (right_in f (eventuality f m) (eventuality_in f (eventuality f m) (Contains-get_or (eventualities f) m (NConst false) lt)))

  pub request_known : IsNumber (length (closure f)) (request_number f m)
  request_known = known_number f (request_of (eventuality f m)) (request_in f (eventuality f m) (Contains-get_or (eventualities f) m (NConst false) lt))
