-- What a part of a step, as Rust names it, stands for.
use Rattle.std.specs.Prelude.{ℕ}
use Rattle.enc_layout.specs.declared.layout.Part.{Part}
use Rattle.enc_layout.specs.declared.layout.Part.TheVariants as parts
use Rattle.enc_layout.specs.Letters.{Meaning, Here, Accepted, EmptyAt, Repeated, EntryAt, Seen, Equal, LoopTo, Differs, Fulfilled, New}

-- what the letter of the part at step i stands for
abbrev pub meaning_of : ℕ → Part → Meaning
meaning_of i parts.Here = Here i
meaning_of i parts.Accepted = Accepted i
meaning_of i parts.Empty = EmptyAt i
meaning_of i parts.Repeated = Repeated i
meaning_of i (parts.Entry t) = EntryAt i t
meaning_of i (parts.Seen m) = Seen i m
meaning_of i (parts.Equal l) = Equal l i
meaning_of i (parts.Loop l) = LoopTo l i
meaning_of i (parts.Differs l q) = Differs l i q
meaning_of i (parts.Fulfilled l m) = Fulfilled l i m
meaning_of i (parts.New l m) = New l i m
