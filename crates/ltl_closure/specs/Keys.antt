-- The keys by which subformulas are shared, and the entries that they become.
use Rattle.std.specs.Prelude.{◌≡◌, ◌≢◌, ℕ, suc, ◌+◌, ◌<◌, true, false, List, [], ◌∷◌, ◌++◌, length, map, slice_index_or, Option, Some, None, Contains}
use Rattle.ltl_syntax.specs.Formula.{Name, Fresh}
use Rattle.ltl_closure.specs.Norm.{Norm, NConst, NLetter, NNotLetter, NAnd, NOr, NNext, NWeakNext, NYesterday, NWeakYesterday, NUntil, NRelease, NSince}
use Rattle.ltl_closure.specs.Norm.{NTrigger}
use Rattle.ltl_closure.specs.Closure.{with_new}
use Rattle.ltl_closure.specs.Entries.{place_in, StandsAmong}
use Rattle.ltl_closure.specs.declared.entry.Entry.{Entry}
use Rattle.ltl_closure.specs.declared.entry.Entry.TheVariants as Is
use Rattle.ltl_closure.specs.declared.key.Request.{Request}
use Rattle.ltl_closure.specs.declared.key.Request.TheVariants as asks
use Rattle.ltl_closure.specs.declared.key.Connective.{Connective}
use Rattle.ltl_closure.specs.declared.key.Connective.TheVariants as joins
use Rattle.ltl_closure.specs.declared.key.Key.{Key}
use Rattle.ltl_closure.specs.declared.key.Key.TheVariants as keys

-- the normal form with this operator and these operands
abbrev pub asking : Request → Norm → Norm
asking asks.Next a = NNext a
asking asks.WeakNext a = NWeakNext a
asking asks.Yesterday a = NYesterday a
asking asks.WeakYesterday a = NWeakYesterday a

abbrev pub joined : Connective → Norm → Norm → Norm
joined joins.And a b = NAnd a b
joined joins.Or a b = NOr a b
joined joins.Until a b = NUntil a b
joined joins.Release a b = NRelease a b
joined joins.Since a b = NSince a b
joined joins.Trigger a b = NTrigger a b

-- the operator of the request that comes right after the entry
abbrev pub request_of : Key → Option Request
request_of (keys.Const b) = None
request_of (keys.Letter n) = None
request_of (keys.Fresh n) = None
request_of (keys.NotLetter n) = None
request_of (keys.Asks r n) = None
request_of (keys.Joins joins.And a b) = None
request_of (keys.Joins joins.Or a b) = None
request_of (keys.Joins joins.Until a b) = Some asks.Next
request_of (keys.Joins joins.Release a b) = Some asks.WeakNext
request_of (keys.Joins joins.Since a b) = Some asks.Yesterday
request_of (keys.Joins joins.Trigger a b) = Some asks.WeakYesterday

-- the entry of a request, and that of a connective whose request has the last number
abbrev pub asking_entry : Request → ℕ → Entry
asking_entry asks.Next n = Is.Next n false
asking_entry asks.WeakNext n = Is.Next n true
asking_entry asks.Yesterday n = Is.Yesterday n false
asking_entry asks.WeakYesterday n = Is.Yesterday n true

abbrev pub joined_entry : Connective → ℕ → ℕ → ℕ → Entry
joined_entry joins.And a b r = Is.And a b
joined_entry joins.Or a b r = Is.Or a b
joined_entry joins.Until a b r = Is.Until a b r
joined_entry joins.Release a b r = Is.Release a b r
joined_entry joins.Since a b r = Is.Since a b r
joined_entry joins.Trigger a b r = Is.Trigger a b r

-- the entry that has the key and this number
abbrev pub entry_of : Key → ℕ → Entry
entry_of (keys.Const true) number = Is.True
entry_of (keys.Const false) number = Is.False
entry_of (keys.Letter n) number = Is.Letter n
entry_of (keys.Fresh n) number = Is.Fresh n
entry_of (keys.NotLetter n) number = Is.NotLetter n
entry_of (keys.Asks r n) number = asking_entry r n
entry_of (keys.Joins op a b) number = joined_entry op a b (number + 1)

-- the key of an entry
abbrev pub key_of : Entry → Key
key_of Is.True = keys.Const true
key_of Is.False = keys.Const false
key_of (Is.Letter n) = keys.Letter n
key_of (Is.Fresh n) = keys.Fresh n
key_of (Is.NotLetter n) = keys.NotLetter n
key_of (Is.And a b) = keys.Joins joins.And a b
key_of (Is.Or a b) = keys.Joins joins.Or a b
key_of (Is.Until a b r) = keys.Joins joins.Until a b
key_of (Is.Release a b r) = keys.Joins joins.Release a b
key_of (Is.Since a b r) = keys.Joins joins.Since a b
key_of (Is.Trigger a b r) = keys.Joins joins.Trigger a b
key_of (Is.Next a false) = keys.Asks asks.Next a
key_of (Is.Next a true) = keys.Asks asks.WeakNext a
key_of (Is.Yesterday a false) = keys.Asks asks.Yesterday a
key_of (Is.Yesterday a true) = keys.Asks asks.WeakYesterday a

-- the operands of a normal form
abbrev pub operands : Norm → List Norm
operands (NConst b) = []
operands (NLetter p) = []
operands (NNotLetter p) = NLetter p ∷ []
operands (NAnd a b) = a ∷ b ∷ []
operands (NOr a b) = a ∷ b ∷ []
operands (NNext a) = a ∷ []
operands (NWeakNext a) = a ∷ []
operands (NYesterday a) = a ∷ []
operands (NWeakYesterday a) = a ∷ []
operands (NUntil a b) = a ∷ b ∷ []
operands (NRelease a b) = a ∷ b ∷ []
operands (NSince a b) = a ∷ b ∷ []
operands (NTrigger a b) = a ∷ b ∷ []

-- its request
abbrev pub requests : Norm → List Norm
requests (NUntil a b) = NNext (NUntil a b) ∷ []
requests (NRelease a b) = NWeakNext (NRelease a b) ∷ []
requests (NSince a b) = NYesterday (NSince a b) ∷ []
requests (NTrigger a b) = NWeakYesterday (NTrigger a b) ∷ []
requests (NConst b) = []
requests (NLetter p) = []
requests (NNotLetter p) = []
requests (NAnd a b) = []
requests (NOr a b) = []
requests (NNext a) = []
requests (NWeakNext a) = []
requests (NYesterday a) = []
requests (NWeakYesterday a) = []

-- what must be among the entries with it
abbrev pub needs : Norm → List Norm
needs g = operands g ++ requests g

-- the entries that it brings beside those of its operands
abbrev pub own : Norm → List Norm
own g = g ∷ requests g

-- the key is that of e among these members
abbrev pub IsKey : List (List ℕ) → List Norm → Norm → Key → Type 0
IsKey names kept (NConst b) x = x ≡ keys.Const b
IsKey names kept (NLetter (Name bytes)) x = (n : ℕ) × (x ≡ keys.Letter n) × (n < length names) × (slice_index_or names n [] ≡ bytes)
IsKey names kept (NLetter (Fresh n)) x = x ≡ keys.Fresh n
IsKey names kept (NNotLetter p) x = x ≡ keys.NotLetter (place_in kept (NLetter p))
IsKey names kept (NAnd a b) x = x ≡ keys.Joins joins.And (place_in kept a) (place_in kept b)
IsKey names kept (NOr a b) x = x ≡ keys.Joins joins.Or (place_in kept a) (place_in kept b)
IsKey names kept (NNext a) x = x ≡ keys.Asks asks.Next (place_in kept a)
IsKey names kept (NWeakNext a) x = x ≡ keys.Asks asks.WeakNext (place_in kept a)
IsKey names kept (NYesterday a) x = x ≡ keys.Asks asks.Yesterday (place_in kept a)
IsKey names kept (NWeakYesterday a) x = x ≡ keys.Asks asks.WeakYesterday (place_in kept a)
IsKey names kept (NUntil a b) x = x ≡ keys.Joins joins.Until (place_in kept a) (place_in kept b)
IsKey names kept (NRelease a b) x = x ≡ keys.Joins joins.Release (place_in kept a) (place_in kept b)
IsKey names kept (NSince a b) x = x ≡ keys.Joins joins.Since (place_in kept a) (place_in kept b)
IsKey names kept (NTrigger a b) x = x ≡ keys.Joins joins.Trigger (place_in kept a) (place_in kept b)

-- the entries stand for the norms, one by one
abbrev pub AllStand : List (List ℕ) → List Norm → List Norm → List Entry → Type 0
AllStand names kept [] [] = Unit {0}
AllStand names kept [] (x ∷ xs) = ⊥
AllStand names kept (g ∷ gs) [] = ⊥
AllStand names kept (g ∷ gs) (x ∷ xs) = StandsAmong names kept g x × AllStand names kept gs xs

abbrev pub HasOperands : List Norm → Norm → Type 0
HasOperands kept g = (d : Norm) → Contains (operands g) d → Contains kept d

-- the keys and the entries are those of the kept part of a closure
pub record AreShared (names : List (List ℕ)) (kept : List Norm) (stored : List Key) (entries : List Entry) : Type 0 where
  pub keys : stored ≡ map key_of entries
  pub each : AllStand names kept kept entries
  pub closed : (e d : Norm) → Contains kept e → Contains (needs e) d → Contains kept d
  pub placed : (k : ℕ) (d : Norm) → k < length kept → place_in kept (slice_index_or kept k d) ≡ suc k

-- e is there with this number, and nothing is added but what it brings
pub record IsEntered (names : List (List ℕ)) (kept : List Norm) (g : Norm) (stored : List Key) (entries : List Entry) (number : ℕ) : Type 0 where
  pub shared : AreShared names (with_new kept (own g)) stored entries
  pub there : Contains (with_new kept (own g)) g
  pub place : number ≡ place_in (with_new kept (own g)) g

-- no two names are the same
abbrev pub AreDistinct : List (List ℕ) → Type 0
AreDistinct names = (i j : ℕ) → i < j → j < length names → slice_index_or names i [] ≢ slice_index_or names j []

-- from these keys and entries to those, entering what has the key, which then has the number
abbrev pub Enters : List Key → List Entry → Key → List Key → List Entry → ℕ → Type 0
Enters old_keys old_entries key new_keys new_entries number =
    (names : List (List ℕ)) (kept : List Norm) (g : Norm) → AreDistinct names → AreShared names kept old_keys old_entries → HasOperands kept g
    → IsKey names kept g key
    → IsEntered names kept g new_keys new_entries number
