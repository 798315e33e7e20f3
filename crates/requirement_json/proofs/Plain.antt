-- Arrays and objects whose parts have no float have none.
use Rattle.std.proofs.Common.{◌≡◌, ℕ, List, [], ◌∷◌, ◌++◌, map, refl, Bool, true, false, ◌||◌, true≢false, Ordering, Less, Equal, Greater, nat_cmp}
use Rattle.std.specs.Cmp.Lexicographic.{slice_cmp}
use Rattle.std.specs.Ordering.{match_ordering}
use Rattle.serde_json.specs.Data.{Data, Members, no_members, member, put}
use Rattle.serde_json.specs.View.{items_of}
use Rattle.serde_json.specs.Written.{has_float, items_have_float, members_have_float}

pub map_plain : {X : Type 0} (f : X → Data) → ((x : X) → has_float (f x) ≡ false) → (xs : List X) → items_have_float (items_of (map f xs)) ≡ false
map_plain f plain [] = refl
map_plain f plain (x ∷ xs) = rw (plain x) (map_plain f plain xs)

or_first : (a b : Bool) → a || b ≡ false → a ≡ false
or_first true b h = h
or_first false b h = refl

or_second : (a b : Bool) → a || b ≡ false → b ≡ false
or_second true b h = absurd (true≢false h)
or_second false b h = h

pub append_plain : (xs ys : List Data)
    → items_have_float (items_of xs) ≡ false → items_have_float (items_of ys) ≡ false → items_have_float (items_of (xs ++ ys)) ≡ false
append_plain [] ys h g = g
append_plain (x ∷ xs) ys h g =
    rw (or_first (has_float x) (items_have_float (items_of xs)) h) (append_plain xs ys (or_second (has_float x) (items_have_float (items_of xs)) h) g)

choice_plain : (o : Ordering) (a b c : Members) → members_have_float a ≡ false → members_have_float b ≡ false → members_have_float c ≡ false
    → members_have_float (match_ordering o a b c) ≡ false
choice_plain Less a b c x y z = x
choice_plain Equal a b c x y z = y
choice_plain Greater a b c x y z = z

-- with a member more
pub put_plain : (k : List ℕ) (d : Data) (ms : Members) → has_float d ≡ false → members_have_float ms ≡ false → members_have_float (put k d ms) ≡ false
put_plain k d no_members h g = rw h refl
put_plain k d (member l e ms) h g =
    let first = or_first (has_float e) (members_have_float ms) g in
    let others = or_second (has_float e) (members_have_float ms) g in
    choice_plain (slice_cmp nat_cmp k l) (member k d (member l e ms)) (member l d ms) (member l e (put k d ms)) (rw h g) (rw h others)
    (rw first (put_plain k d ms h others))
