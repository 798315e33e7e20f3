-- How a told content grows, and a told rest shrinks, over several calls.
use Rattle.std.proofs.Common.{◌≡◌, ℕ, ◌+◌, ◌≤◌, List, ◌++◌, take, drop, length, ◌-◌, Option, Some, None, append_assoc, append-nil, refl, subst, sym, ap, ◌∙◌}
use Rattle.std.proofs.Common.{arith, length-append}
use Rattle.std.proofs.Math.Seq.{take-add}
use Rattle.std.proofs.lemmas.List.{take_rest, take-append-drop, length-take, length-drop}
use Rattle.ltl_io.specs.Outside.{Grows, GrowsByFront, Gives, Loses, LosesAtMost}

-- after n bytes of a list, m more are n + m of it
pub grown_more : (n m : ℕ) (l : List ℕ) (x y z : Option (List ℕ)) → Grows (take n l) x y → Grows (take m (take (length l - n) (drop n l))) y z
    → Grows (take (n + m) l) x z
grown_more n m l None y z g h = tt
grown_more n m l (Some content) y z g h =
    let told : z ≡ Some ((content ++ take n l) ++ take m (take (length l - n) (drop n l))) =
    subst (λ o. Grows (take m (take (length l - n) (drop n l))) o z) g h in
    rw (take-add, ← append_assoc) (rw (take_rest l n) at told)

-- after n bytes of a list, some front of what is left is a longer front of it
pub grown_front : (n : ℕ) (l : List ℕ) (x y z : Option (List ℕ)) → n ≤ length l → Grows (take n l) x y → GrowsByFront (take (length l - n) (drop n l)) y z
    → GrowsByFront l x z
grown_front n l None y z within g h = tt
grown_front n l (Some content) y z within g h =
    let front : GrowsByFront (take (length l - n) (drop n l)) (Some (content ++ take n l)) z =
    subst (λ o. GrowsByFront (take (length l - n) (drop n l)) o z) g h in
    let few : front.0 ≤ length (drop n l) = subst (λ r. front.0 ≤ length r) (take_rest l n) front.1 in
    (n + front.0, omega (arith, few, length-drop n l, within), grown_more n front.0 l (Some content) (Some (content ++ take n l)) z refl front.2)

-- what stayed grew by a front of no byte
pub stayed_front : (piece content kept : List ℕ) → kept ≡ content → GrowsByFront piece (Some content) (Some kept)
stayed_front piece content kept e = (0, omega arith, ap Some (e ∙ sym (append-nil content)))

-- and after some more a longer one
pub lost_more : (lost into : List ℕ) (n most more : ℕ) (x y z : Option (List ℕ)) → Loses lost x y → Gives n into y z
    → length lost ≤ most → n ≤ more → LosesAtMost (most + more) x z
lost_more lost into n most more None y z l g few less = tt
lost_more lost into n most more (Some rest) y z (left, split, told) g few less =
    let given : Gives n into (Some left) z = subst (λ o. Gives n into o z) told g in
    let size : length (take n left) ≤ n = omega (arith, length-take n left) in (
      lost ++ take n left,
      drop n left,
      split ∙ ap (λ l. lost ++ l) (sym (take-append-drop n left)) ∙ sym (append_assoc lost (take n left) (drop n left)),
      omega (arith, few, less, size, length-append lost (take n left)),
      given.2,
    )
