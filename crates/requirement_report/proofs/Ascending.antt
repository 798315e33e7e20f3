-- Names in ascending order, each once: the function that puts them so, and that there is one such list.
use Rattle.std.proofs.Common.{◌≡◌, ◌↔◌, ℕ, zero, suc, ◌+◌, ◌<◌, ◌⊎◌, inl, inr, List, [], ◌∷◌, length, get_or, Contains, Ordering, Less, Equal, Greater, refl}
use Rattle.std.proofs.Common.{sym, ap, ◌∙◌, subst, arith}
use Rattle.std.specs.Ordering.{nat_cmp, ordering_reverse, is_eq}
use Rattle.std.specs.Cmp.Lexicographic.{slice_cmp}
use Rattle.std.proofs.lemmas.Cmp.{nat_list_cmp_total}
use Rattle.std.proofs.lemmas.List.Elements.{All-contains}
use Rattle.std.proofs.lemmas.Map.Keys.{sorted_tail, sorted_from_all_adjacent, Less-from_sorted}
use Rattle.std.proofs.lemmas.Map.Text.{is_eq-slice_cmp}
use Rattle.std.proofs.lemmas.Map.Views.{All-after_first}
use Rattle.std.proofs.lemmas.Slice.Eq.{bytes_eq-Decides}
use Rattle.ltl_word.specs.State.{IsAscending}
use Rattle.ltl_word.specs.Trace.{Names}
use Rattle.ltl_word.proofs.Sets.{here, later, first_or_later, no_member, first_below, IsWith, none_ascends, in_front, one_list}
use Rattle.requirement_report.specs.Pictures.{placed, with_name, ascending}

is_with : (x : List ℕ) (ys : Names) → IsAscending ys → IsWith x ys (with_name x ys)
is_with x [] h = record {
  ascending = in_front x [] none_ascends (λ n c. absurd (no_member n c));
  has = here x [];
  keeps = λ n c. absurd (no_member n c);
  only = first_or_later x [];
}
is_with x (y ∷ ys) h = by (slice_cmp nat_cmp x y) refl (is_with x ys (sorted_tail (slice_cmp nat_cmp) y ys h))
  where
    before : slice_cmp nat_cmp x y ≡ Less → (n : List ℕ) → Contains (y ∷ ys) n → slice_cmp nat_cmp x n ≡ Less
    before e n c = elim (first_or_later y ys n c) [
      | inl s ↦ subst (λ m. slice_cmp nat_cmp x m ≡ Less) s e
      | inr d ↦ nat_list_cmp_total.trans x y n e (first_below y ys n h d)
    ]

    behind : IsWith x ys (with_name x ys) → slice_cmp nat_cmp x y ≡ Greater → (n : List ℕ) → Contains (with_name x ys) n → slice_cmp nat_cmp y n ≡ Less
    behind w e n c = elim (w.only n c) [
      | inl s ↦ subst (λ m. slice_cmp nat_cmp y m ≡ Less) s (nat_list_cmp_total.antisymm y x ∙ ap ordering_reverse e)
      | inr d ↦ first_below y ys n h d
    ]

    by : (o : Ordering) → slice_cmp nat_cmp x y ≡ o → IsWith x ys (with_name x ys) → IsWith x (y ∷ ys) (placed o x y ys (with_name x ys))
    by Less e w = record {
      ascending = in_front x (y ∷ ys) h (before e);
      has = here x (y ∷ ys);
      keeps = later x (y ∷ ys);
      only = first_or_later x (y ∷ ys);
    }
    by Equal e w =
        let same : x ≡ y = (bytes_eq-Decides x y).0 (sym (is_eq-slice_cmp x y) ∙ ap is_eq e) in
        record { ascending = h; has = subst (Contains (y ∷ ys)) (sym same) (here y ys); keeps = λ n c. c; only = λ n c. inr c }
    by Greater e w = record {
      ascending = in_front y (with_name x ys) w.ascending (behind w e);
      has = later y (with_name x ys) x w.has;
      keeps = λ n c. elim (first_or_later y ys n c) [
        | inl s ↦ subst (Contains (y ∷ with_name x ys)) s (here y (with_name x ys))
        | inr d ↦ later y (with_name x ys) n (w.keeps n d)
      ];
      only = λ n c. elim (first_or_later y (with_name x ys) n c) [
        | inl s ↦ inr (subst (Contains (y ∷ ys)) s (here y ys))
        | inr d ↦ elim (w.only n d) [ inl s ↦ inl s | inr g ↦ inr (later y ys n g) ]
      ];
    }

-- the same names, in order
pub record IsOrdered (names set : Names) : Type 0 where
  pub ascends : IsAscending set
  pub same : (n : List ℕ) → Contains set n ↔ Contains names n

pub ordered : (names : Names) → IsOrdered names (ascending names)
ordered [] = record { ascends = none_ascends; same = λ n. (λ c. c, λ c. c) }
ordered (x ∷ xs) =
    let s = ordered xs in
    let w = is_with x (ascending xs) s.ascends in
    record {
      ascends = w.ascending;
      same = λ n. (
        λ c. elim (w.only n c) [ inl e ↦ subst (Contains (x ∷ xs)) e (here x xs) | inr d ↦ later x xs n ((s.same n).0 d) ],
        λ c. elim (first_or_later x xs n c) [ inl e ↦ subst (Contains (with_name x (ascending xs))) e w.has | inr d ↦ w.keeps n ((s.same n).1 d) ],
      );
    }

pub is_ascending : (names set : Names) → IsAscending set → ((n : List ℕ) → Contains set n ↔ Contains names n) → set ≡ ascending names
is_ascending names set a h =
    let o = ordered names in
    one_list set (ascending names) a o.ascends (λ n. (λ c. (o.same n).1 ((h n).0 c), λ c. (h n).1 ((o.same n).0 c)))
