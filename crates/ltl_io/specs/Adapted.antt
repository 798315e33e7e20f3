-- What a contract sees of the adapters over readers and writers: the reader or the writer, and the count of faults.
use Rattle.std.specs.Prelude.{ℕ}

pub record Adapted (X : Type 0) : Type 0 where
  pub inner : X
  pub faults : ℕ
