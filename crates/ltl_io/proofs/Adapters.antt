-- What a reader and a writer do, as a source and a sink say it.
use Rattle.std.proofs.Common.{◌≡◌, ℕ, ◌+◌, ◌<◌, ◌≤◌, List, [], ◌++◌, take, drop, length, Option, Some, None, append-nil, refl, subst, sym, ap, ◌∙◌, arith}
use Rattle.std.proofs.Math.Seq.{take-append_seam, drop-append_seam}
use Rattle.std.proofs.lemmas.List.{length-append, length-take-le}
use Rattle.std.specs.Io.KnownBytes.{Consumes, Appends, Keeps, IsAtEnd}
use Rattle.ltl_io.specs.Outside.{Grows, GrowsByFront, Gives, Stays}

-- a read that failed left what is told
pub kept_stays : (old new : Option (List ℕ)) → Keeps old new → Stays old new
kept_stays None new k = tt
kept_stays (Some xs) None k = absurd k
kept_stays (Some xs) (Some ys) k = ap Some k

front_given : (n : ℕ) (front into xs ys : List ℕ) → take n into ≡ front → length front ≡ n → xs ≡ front ++ ys → (n ≡ 0 → ys ≡ [])
    → Gives n into (Some xs) (Some ys)
front_given n front into xs ys is size e end =
    let seam : take n xs ≡ front = subst (λ l. take n l ≡ front) (sym e) (subst (λ k. take k (front ++ ys) ≡ front) size (take-append_seam front ys)) in
    let left : drop n xs ≡ ys = subst (λ l. drop n l ≡ ys) (sym e) (subst (λ k. drop k (front ++ ys) ≡ ys) size (drop-append_seam front ys)) in
    let long : length xs ≡ length front + length ys = ap length e ∙ length-append front ys in
    (omega (arith, long, size), is ∙ sym seam, ap Some (sym left), λ z. subst (λ k. drop k xs ≡ ys) z left ∙ end z)

-- a read gave what the reader lost
pub consumed_gives : (n : ℕ) (into : List ℕ) (old new : Option (List ℕ)) → n ≤ length into → 0 < length into → Consumes old new (take n into)
    → (n ≡ 0 → 0 < length into → IsAtEnd new) → Gives n into old new
consumed_gives n into None new within some c end = tt
consumed_gives n into (Some xs) None within some c end = absurd c
consumed_gives n into (Some xs) (Some ys) within some c end = front_given n (take n into) into xs ys refl (length-take-le n into within) c (λ z. end z some)

-- ---- a write, and the flush after it

-- both were done
pub flushed_grows : (bs : List ℕ) (old mid new : Option (List ℕ)) → Appends old mid bs → Keeps mid new → Grows bs old new
flushed_grows bs None mid new a k = tt
flushed_grows bs (Some xs) None new a k = absurd a
flushed_grows bs (Some xs) (Some ys) None a k = absurd k
flushed_grows bs (Some xs) (Some ys) (Some zs) a k = ap Some (k ∙ a)

-- the write was done, and no flush came after it
pub written_front : (n : ℕ) (piece : List ℕ) (old new : Option (List ℕ)) → n ≤ length piece → Appends old new (take n piece) → GrowsByFront piece old new
written_front n piece None new within a = tt
written_front n piece (Some xs) None within a = absurd a
written_front n piece (Some xs) (Some ys) within a = (n, within, ap Some a)

-- the write was done, and the flush failed
pub unflushed_front : (n : ℕ) (piece : List ℕ) (old mid new : Option (List ℕ)) → n ≤ length piece → Appends old mid (take n piece) → Keeps mid new
    → GrowsByFront piece old new
unflushed_front n piece None mid new within a k = tt
unflushed_front n piece (Some xs) mid new within a k = (n, within, flushed_grows (take n piece) (Some xs) mid new a k)

-- the write failed
pub kept_front : (piece : List ℕ) (old new : Option (List ℕ)) → Keeps old new → GrowsByFront piece old new
kept_front piece None new k = tt
kept_front piece (Some xs) None k = absurd k
kept_front piece (Some xs) (Some ys) k = (0, omega arith, ap Some (k ∙ sym (append-nil xs)))
