-- The derived test of keys is equality.
use Rattle.std.proofs.Common.{◌≡◌, ℕ, Bool, true, false, ◌&&◌, eqb, refl, ap, ap₂}
use Rattle.std.proofs.lemmas.Bool.Decides.{Decides-eqb}
use Rattle.ltl_closure.specs.declared.key.Request.{Request}
use Rattle.ltl_closure.specs.declared.key.Request.TheVariants as asks
use Rattle.ltl_closure.specs.declared.key.Connective.{Connective}
use Rattle.ltl_closure.specs.declared.key.Connective.TheVariants as joins
use Rattle.ltl_closure.specs.declared.key.Key.{Key}
use Rattle.ltl_closure.specs.declared.key.Key.TheVariants as keys
use Rattle.ltl_closure.specs.contracts.key.RequestPartialEq.TheImpl as by_request
use Rattle.ltl_closure.specs.contracts.key.ConnectivePartialEq.TheImpl as by_connective
use Rattle.ltl_closure.specs.contracts.key.KeyPartialEq.TheImpl as by_key

abbrev pub key_eq : Key → Key → Bool
key_eq = by_key.eq-value.it

abbrev request_eq : Request → Request → Bool
request_eq = by_request.eq-value.it

abbrev connective_eq : Connective → Connective → Bool
connective_eq = by_connective.eq-value.it

same_request : (a b : Request) → request_eq a b ≡ true → a ≡ b
same_request asks.Next asks.Next e = refl
same_request asks.WeakNext asks.WeakNext e = refl
same_request asks.Yesterday asks.Yesterday e = refl
same_request asks.WeakYesterday asks.WeakYesterday e = refl
same_request a b e = absurd (cc)

same_connective : (a b : Connective) → connective_eq a b ≡ true → a ≡ b
same_connective joins.And joins.And e = refl
same_connective joins.Or joins.Or e = refl
same_connective joins.Until joins.Until e = refl
same_connective joins.Release joins.Release e = refl
same_connective joins.Since joins.Since e = refl
same_connective joins.Trigger joins.Trigger e = refl
same_connective a b e = absurd (cc)

same_const : (a b : Bool) → key_eq (keys.Const a) (keys.Const b) ≡ true → a ≡ b
same_const true true e = refl
same_const false false e = refl
same_const a b e = absurd (cc)

both : (a b : Bool) → (a && b) ≡ true → (a ≡ true) × (b ≡ true)
both true b e = (refl, e)
both false b e = absurd (cc)

same_asks : (r s : Request) (m n : ℕ) → (request_eq r s && eqb m n) ≡ true → keys.Asks r m ≡ keys.Asks s n
same_asks r s m n e = let w = both (request_eq r s) (eqb m n) e in ap₂ keys.Asks (same_request r s w.0) ((Decides-eqb m n).0 w.1)

same_joins : (r s : Connective) (m n x y : ℕ) → (connective_eq r s && (eqb m n && eqb x y)) ≡ true → keys.Joins r m x ≡ keys.Joins s n y
same_joins r s m n x y e =
    let w = both (connective_eq r s) (eqb m n && eqb x y) e in
    let v = both (eqb m n) (eqb x y) w.1 in
    let a = same_connective r s w.0 in
    let b = (Decides-eqb m n).0 v.0 in
    let c = (Decides-eqb x y).0 v.1 in
    cc

pub same_key : (a b : Key) → key_eq a b ≡ true → a ≡ b
same_key (keys.Const b) (keys.Const c) e = ap keys.Const (same_const b c e)
same_key (keys.Letter m) (keys.Letter n) e = ap keys.Letter ((Decides-eqb m n).0 e)
same_key (keys.Fresh m) (keys.Fresh n) e = ap keys.Fresh ((Decides-eqb m n).0 e)
same_key (keys.NotLetter m) (keys.NotLetter n) e = ap keys.NotLetter ((Decides-eqb m n).0 e)
same_key (keys.Asks r m) (keys.Asks s n) e = same_asks r s m n e
same_key (keys.Joins r m x) (keys.Joins s n y) e = same_joins r s m n x y e
same_key a b e = absurd (cc)

self_request : (a : Request) → request_eq a a ≡ true
self_request asks.Next = refl
self_request other = refl

self_connective : (a : Connective) → connective_eq a a ≡ true
self_connective joins.And = refl
self_connective other = refl

self_number : (n : ℕ) → eqb n n ≡ true
self_number n = (Decides-eqb n n).1 refl

pub self_key : (a : Key) → key_eq a a ≡ true
self_key (keys.Const true) = refl
self_key (keys.Const false) = refl
self_key (keys.Letter n) = self_number n
self_key (keys.Fresh n) = self_number n
self_key (keys.NotLetter n) = self_number n
self_key (keys.Asks r n) = ap₂ ◌&&◌ (self_request r) (self_number n)
self_key (keys.Joins r m n) = ap₂ ◌&&◌ (self_connective r) (ap₂ ◌&&◌ (self_number m) (self_number n))
