-- What the printer has on its stack, the text that this stands for, and how much work it is.
use Rattle.std.specs.Prelude.{ℕ, ◌+◌, List, [], ◌∷◌, ◌++◌, codes, ⊤}
use Rattle.ltl_syntax.specs.Formula.{Formula}
use Rattle.ltl_syntax.specs.Print.{text_of, binary_text}
use Rattle.ltl_syntax.specs.Stack.{size_of}
use Rattle.ltl_closure.specs.Entries.{IsNumber}
use Rattle.claim_reading.specs.declared.printing.Work.{Work}
use Rattle.claim_reading.specs.declared.printing.Work.TheVariants as works
use Rattle.claim_reading.specs.Readable.{entry_formula}

-- the text of a piece of work
abbrev pub work_text : Formula → Work → List ℕ
work_text f (works.Entry t) = text_of (entry_formula f t)
work_text f (works.Operator op) = binary_text op
work_text f works.Close = codes ")"

-- how many pieces it is taken apart into
abbrev pub work_size : Formula → Work → ℕ
work_size f (works.Entry t) = size_of (entry_formula f t)
work_size f (works.Operator op) = 1
work_size f works.Close = 1

-- a piece of work names one of w entries, if any
abbrev pub IsWork : ℕ → Work → Type 0
IsWork w (works.Entry t) = IsNumber w t
IsWork w (works.Operator op) = ⊤
IsWork w works.Close = ⊤

-- the text of a stack: its last piece is printed first
abbrev pub works_text : Formula → List Work → List ℕ
works_text f [] = []
works_text f (x ∷ xs) = works_text f xs ++ work_text f x

abbrev pub works_size : Formula → List Work → ℕ
works_size f [] = 0
works_size f (x ∷ xs) = works_size f xs + work_size f x

abbrev pub AreWorks : ℕ → List Work → Type 0
AreWorks w [] = ⊤
AreWorks w (x ∷ xs) = IsWork w x × AreWorks w xs
