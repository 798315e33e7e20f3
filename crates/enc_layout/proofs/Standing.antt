-- The numbers in the entries of a closure are those of entries, and the entry of a member's number stands for the member.
use Rattle.std.proofs.Common.{◌≡◌, ℕ, ◌-◌, ◌<◌, arith, refl, true, false, ap, sym, subst, List, [], ◌∷◌, length, get_or, Contains, All}
use Rattle.std.proofs.lemmas.List.{get_or_default}
use Rattle.std.proofs.lemmas.List.Elements.{Contains-get_or}
use Rattle.ltl_syntax.specs.Formula.{Formula, Name, Fresh}
use Rattle.ltl_closure.specs.Norm.{Norm, NConst, NLetter, NNotLetter, NAnd, NOr, NNext, NWeakNext, NYesterday, NWeakYesterday, NUntil, NRelease, NSince}
use Rattle.ltl_closure.specs.Norm.{NTrigger, pos_of}
use Rattle.ltl_closure.specs.Closure.{closure, nexts, yesterdays}
use Rattle.ltl_closure.specs.Entries.{place_in, numbers_of, StandsFor, AreEntries, ClosureValue, IsNumber, entry_at}
use Rattle.ltl_closure.specs.declared.entry.Entry.{Entry}
use Rattle.ltl_closure.specs.declared.entry.Entry.TheVariants as Is
use Rattle.ltl_closure.specs.Keys.{needs}
use Rattle.ltl_closure.proofs.Places.{place_from_one, place_within, entry_place}
use Rattle.ltl_closure.proofs.Known.{known_number, root_number, nexts_known, yesterdays_known}
use Rattle.enc_layout.specs.Letters.{LayoutValue}
use Rattle.enc_layout.specs.Clauses.{layout_of}
use Rattle.enc_layout.proofs.Gates.{first_child, second_child}
use Rattle.enc_layout.proofs.Writing.{third_child}
use Rattle.enc_layout.specs.Numbered.{IsInside}

module _ (names : List (List ℕ)) (f : Formula) where
  abbrev w : ℕ
  w = length (closure f)

  one : (a e : Norm) (rest : List Norm) → needs e ≡ a ∷ rest → Contains (closure f) e → IsNumber w (place_in (closure f) a)
  one a e rest n m = known_number f a (first_child f a e rest n m)

  two : (a b e : Norm) (rest : List Norm) → needs e ≡ a ∷ b ∷ rest → Contains (closure f) e → IsNumber w (place_in (closure f) b)
  two a b e rest n m = known_number f b (second_child f a b e rest n m)

  three : (a b q e : Norm) → needs e ≡ a ∷ b ∷ q ∷ [] → Contains (closure f) e → IsNumber w (place_in (closure f) q)
  three a b q e n m = known_number f q (third_child f a b q e n m)

  entry_inside : (e : Norm) (x : Entry) → Contains (closure f) e → StandsFor names f e x → IsInside w x
  entry_inside (NConst true) x m s = subst (IsInside w) (sym s) tt
  entry_inside (NConst false) x m s = subst (IsInside w) (sym s) tt
  entry_inside (NLetter (Name bytes)) x m s = subst (IsInside w) (sym s.1) tt
  entry_inside (NLetter (Fresh n)) x m s = subst (IsInside w) (sym s) tt
  entry_inside (NNotLetter p) x m s = subst (IsInside w) (sym s) (one (NLetter p) (NNotLetter p) [] refl m)
  entry_inside (NAnd a b) x m s = subst (IsInside w) (sym s) (one a (NAnd a b) _ refl m, two a b (NAnd a b) _ refl m)
  entry_inside (NOr a b) x m s = subst (IsInside w) (sym s) (one a (NOr a b) _ refl m, two a b (NOr a b) _ refl m)
  entry_inside (NNext a) x m s = subst (IsInside w) (sym s) (one a (NNext a) [] refl m)
  entry_inside (NWeakNext a) x m s = subst (IsInside w) (sym s) (one a (NWeakNext a) [] refl m)
  entry_inside (NYesterday a) x m s = subst (IsInside w) (sym s) (one a (NYesterday a) [] refl m)
  entry_inside (NWeakYesterday a) x m s = subst (IsInside w) (sym s) (one a (NWeakYesterday a) [] refl m)
  entry_inside (NUntil a b) x m s =
      subst (IsInside w) (sym s) (one a (NUntil a b) _ refl m, (two a b (NUntil a b) _ refl m, three a b (NNext (NUntil a b)) (NUntil a b) refl m))
  entry_inside (NRelease a b) x m s =
      subst (IsInside w) (sym s) (one a (NRelease a b) _ refl m, (two a b (NRelease a b) _ refl m, three a b (NWeakNext (NRelease a b)) (NRelease a b) refl m))
  entry_inside (NSince a b) x m s =
      subst (IsInside w) (sym s) (one a (NSince a b) _ refl m, (two a b (NSince a b) _ refl m, three a b (NYesterday (NSince a b)) (NSince a b) refl m))
  entry_inside (NTrigger a b) x m s = subst (IsInside w) (sym s)
      (one a (NTrigger a b) _ refl m, (two a b (NTrigger a b) _ refl m, three a b (NWeakYesterday (NTrigger a b)) (NTrigger a b) refl m))

  module _ (entries : List Entry) (are : AreEntries names f entries) where
    pub entries_inside : All (IsInside (length (closure f))) entries
    entries_inside k d lt =
        let long = are.long in
        let here : k < length (closure f) = omega arith in
        subst (IsInside w) (get_or_default entries k Is.True d lt)
        (entry_inside (get_or (closure f) k (NConst false)) (get_or entries k Is.True) (Contains-get_or (closure f) k (NConst false) here) (are.each k here))

    -- the entry of a member's number stands for it
    pub stands : (e : Norm) → Contains (closure f) e → StandsFor names f e (entry_at entries (place_in (closure f) e))
    stands e m =
        let from = place_from_one (closure f) e in
        let upto = place_within (closure f) e m in
        subst (λ z. StandsFor names f z (entry_at entries (place_in (closure f) e))) (entry_place (closure f) e (NConst false) m)
        (are.each (place_in (closure f) e - 1) (omega arith))

-- the same by the counts of a closure's own layout
module _ (layout : LayoutValue) (c : ClosureValue) (own : layout ≡ layout_of c) where
  pub entries_count : layout.counts.entries ≡ length (closure c.formula)
  entries_count = ap (λ l. l.counts.entries) own

  pub all_inside : (entries : List Entry) → AreEntries c.names c.formula entries → All (IsInside layout.counts.entries) entries
  all_inside entries are = subst (λ n. All (IsInside n) entries) (sym entries_count) (entries_inside c.names c.formula entries are)

  pub one_inside : (entries : List Entry) → AreEntries c.names c.formula entries → (t : ℕ) → IsNumber (length (closure c.formula)) t → (x : Entry)
      → x ≡ entry_at entries t
      → IsInside layout.counts.entries x
  one_inside entries are t known x is =
      let lt : t - 1 < length entries = omega (arith, known.0, known.1, are.long) in
      subst (IsInside layout.counts.entries) (sym is) (all_inside entries are (t - 1) Is.True lt)

  pub nexts_all : (numbers : List ℕ) → numbers ≡ numbers_of c.formula (nexts c.formula) → All (IsNumber layout.counts.entries) numbers
  nexts_all numbers is =
      subst (λ n. All (IsNumber n) numbers) (sym entries_count) (subst (λ z. All (IsNumber (length (closure c.formula))) z) (sym is) (nexts_known c.formula))

  pub yesterdays_all : (numbers : List ℕ) → numbers ≡ numbers_of c.formula (yesterdays c.formula) → All (IsNumber layout.counts.entries) numbers
  yesterdays_all numbers is =
      subst (λ n. All (IsNumber n) numbers) (sym entries_count)
      (subst (λ z. All (IsNumber (length (closure c.formula))) z) (sym is) (yesterdays_known c.formula))

  pub root_known : (number : ℕ) → number ≡ place_in (closure c.formula) (pos_of c.formula) → IsNumber layout.counts.entries number
  root_known number is = subst (λ n. IsNumber n number) (sym entries_count) (subst (IsNumber (length (closure c.formula))) (sym is) (root_number c.formula))
