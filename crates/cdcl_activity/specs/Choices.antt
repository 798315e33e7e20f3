-- What may be decided next.
use Rattle.std.specs.Prelude.{◌≡◌, ℕ, ◌<◌, length}
use Rattle.cdcl_activity.specs.Order.{OrderValue}

-- the letters that wait, and the one that is held ready; 0 for none
pub record ChoicesValue : Type 0 where
  pub order : OrderValue
  pub held : ℕ

-- x is the letter, and that is one of those that there are
pub record IsOffered (v : ChoicesValue) (x letter : ℕ) : Type 0 where
  pub is : x ≡ letter
  pub known : letter < length v.order.places
