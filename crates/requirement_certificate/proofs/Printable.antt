-- What is asked of a document that is read is printable: its text reads as it.
use Rattle.std.proofs.Common.{ℕ, zero, suc, Bool, true, false, List, [], ◌∷◌, ◌++◌, map, slice_index_or, Option, Some, All, sym, subst, bytes_eq, if◌then◌else◌}
use Rattle.std.proofs.lemmas.List.Elements.{All-nil, All-cons, All-head, All-tail, All-append}
use Rattle.toml.specs.Data.{Data}
use Rattle.ltl_syntax.specs.declared.node.UnaryOp.TheVariants as one
use Rattle.ltl_syntax.specs.declared.node.BinaryOp.TheVariants as two
use Rattle.ltl_syntax.specs.Formula.{Formula, Const, Letter, Name, Fresh, Unary, Binary}
use Rattle.ltl_parser.specs.Text.{ReadsText, IsPrintable}
use Rattle.requirement_questions.specs.Formulas.{joined_to, all_of}
use Rattle.requirement_questions.specs.Trigger.{trigger_of}
use Rattle.requirement_document.specs.declared.document.Role.{Role}
use Rattle.requirement_document.specs.Substitution.{Definitions, found, or_letter, substituted}
use Rattle.requirement_document.specs.Values.{ItemValue, DocumentValue}
use Rattle.requirement_document.specs.Entry.{IsPutIn}
use Rattle.requirement_document.specs.Document.{name_at, in_list, AreDefined, AreItems, IsDocument}
use Rattle.requirement_answers.specs.declared.asking.Asking.{Asking}
use Rattle.requirement_answers.specs.declared.asking.Asking.TheVariants as askings
use Rattle.requirement_answers.specs.Items.{formula_of, formulas_of}
use Rattle.requirement_answers.specs.Asking.{asked_of, trigger_alone}

-- the formulas of definitions are, and those of items
abbrev DefinedArePrintable : Definitions → Type 0
DefinedArePrintable ds = All (λ d. IsPrintable d.1) ds

abbrev ItemsArePrintable : List ItemValue → Type 0
ItemsArePrintable is = All (λ i. IsPrintable i.formula) is

-- each text that reads as a formula reads as a printable one
abbrev ReadArePrintable : Type 0
ReadArePrintable = (text : List ℕ) (f : Formula) → ReadsText text f → IsPrintable f

-- ---- what is put in

either_printable : (name : List ℕ) (f : Formula) (rest : Option Formula) (t : Bool) → IsPrintable f → IsPrintable (or_letter name rest)
    → IsPrintable (or_letter name (if t then Some f else rest))
either_printable name f rest true p q = p
either_printable name f rest false p q = q

found_printable : (ds : Definitions) (name : List ℕ) → DefinedArePrintable ds → IsPrintable (Letter (Name name)) → IsPrintable (or_letter name (found ds name))
found_printable [] name all p = p
found_printable (d ∷ ds) name all p =
    either_printable name d.1 (found ds name) (bytes_eq name d.0) (All-head (λ x. IsPrintable x.1) d ds all)
    (found_printable ds name (All-tail (λ x. IsPrintable x.1) d ds all) p)

put_printable : (ds : Definitions) (f : Formula) → DefinedArePrintable ds → IsPrintable f → IsPrintable (substituted ds f)
put_printable ds (Const b) all p = p
put_printable ds (Letter (Name name)) all p = found_printable ds name all p
put_printable ds (Letter (Fresh n)) all p = absurd p
put_printable ds (Unary op a) all p = (p.0, put_printable ds a all p.1)
put_printable ds (Binary op a b) all p = (put_printable ds a all p.0, put_printable ds b all p.1)

module _ (law : ReadArePrintable) where
  read_printable : (ds : Definitions) (text : List ℕ) (f : Formula) → DefinedArePrintable ds → IsPutIn ds text f → IsPrintable f
  read_printable ds text f all put = subst IsPrintable (sym put.put) (put_printable ds put.written all (law text put.written put.accepted.reads))

  -- ---- the items of a document

  defined_printable : (before : Definitions) (es : List Data) (all : Definitions) → AreDefined before es all → DefinedArePrintable before
      → DefinedArePrintable all
  defined_printable before [] all same known = subst DefinedArePrintable (sym same) known
  defined_printable before (e ∷ es) all (new, is, rest) known =
      defined_printable (before ++ new ∷ []) es all rest
      (All-append (λ d. IsPrintable d.1) before (new ∷ []) known
      (All-cons (λ d. IsPrintable d.1) new [] (read_printable before is.text new.1 known is.put) (All-nil (λ d. IsPrintable d.1))))

  items_printable : (role : Role) (ds : Definitions) (taken : List (List ℕ)) (es : List Data) (is : List ItemValue) → DefinedArePrintable ds
      → AreItems role ds taken es is → ItemsArePrintable is
  items_printable role ds taken [] [] all are = All-nil (λ i. IsPrintable i.formula)
  items_printable role ds taken [] (i ∷ is) all are = absurd are
  items_printable role ds taken (e ∷ es) [] all are = absurd are
  items_printable role ds taken (e ∷ es) (i ∷ is) all are =
      All-cons (λ x. IsPrintable x.formula) i is (read_printable ds i.text i.formula all are.0.put)
      (items_printable role ds (taken ++ in_list (name_at e)) es is all are.1)

  document_printable : (text : List ℕ) (d : DocumentValue) → IsDocument text d → ItemsArePrintable d.items
  document_printable text d is =
      let doc = is.document in
      let known = defined_printable [] doc.defined.0 doc.definitions doc.defined.2 (All-nil (λ x. IsPrintable x.1)) in
      let P : ItemValue → Type 0 = λ i. IsPrintable i.formula in
      let assume = items_printable _ doc.definitions _ doc.assumed.0 doc.assume known doc.assumed.2 in
      let require = items_printable _ doc.definitions _ doc.required.0 doc.require known doc.required.2 in
      let allow = items_printable _ doc.definitions _ doc.allowed.0 doc.allow known doc.allowed.2 in
      let ensure = items_printable _ doc.definitions _ doc.ensured.0 doc.ensure known doc.ensured.2 in
      subst ItemsArePrintable (sym doc.items)
      (All-append P ((doc.assume ++ doc.require) ++ doc.allow) doc.ensure
      (All-append P (doc.assume ++ doc.require) doc.allow (All-append P doc.assume doc.require assume require) allow) ensure)

-- ---- what is asked of it

item_printable : (is : List ItemValue) (n : ℕ) → ItemsArePrintable is → IsPrintable (slice_index_or (map (λ i. i.formula) is) n (Const true))
item_printable [] n all = tt
item_printable (i ∷ is) zero all = All-head (λ x. IsPrintable x.formula) i is all
item_printable (i ∷ is) (suc n) all = item_printable is n (All-tail (λ x. IsPrintable x.formula) i is all)

formulas_printable : (d : DocumentValue) (numbers : List ℕ) → ItemsArePrintable d.items → All IsPrintable (formulas_of d numbers)
formulas_printable d [] all = All-nil IsPrintable
formulas_printable d (n ∷ numbers) all =
    All-cons IsPrintable (formula_of d n) (formulas_of d numbers) (item_printable d.items n all) (formulas_printable d numbers all)

alone : (f : Formula) → IsPrintable f → All IsPrintable (f ∷ [])
alone f p = All-cons IsPrintable f [] p (All-nil IsPrintable)

condition_printable : (f : Formula) → IsPrintable f → All IsPrintable (trigger_alone (trigger_of (Unary one.Always f)))
condition_printable (Const b) p = All-nil IsPrintable
condition_printable (Letter name) p = All-nil IsPrintable
condition_printable (Unary op a) p = All-nil IsPrintable
condition_printable (Binary two.Implies a b) p = alone (Unary one.Eventually a) (tt, p.0)
condition_printable (Binary op a b) p = All-nil IsPrintable

trigger_printable : (f : Formula) → IsPrintable f → All IsPrintable (trigger_alone (trigger_of f))
trigger_printable (Const b) p = All-nil IsPrintable
trigger_printable (Letter name) p = All-nil IsPrintable
trigger_printable (Unary one.Always a) p = condition_printable a p.1
trigger_printable (Unary op a) p = All-nil IsPrintable
trigger_printable (Binary op a b) p = All-nil IsPrintable

asked_printable : (d : DocumentValue) (asking : Asking) → ItemsArePrintable d.items → All IsPrintable (asked_of d asking)
asked_printable d askings.Together all = All-nil IsPrintable
asked_printable d (askings.Triggered n) all = trigger_printable (formula_of d n) (item_printable d.items n all)
asked_printable d (askings.New n) all = alone (Unary one.Not (formula_of d n)) (tt, item_printable d.items n all)
asked_printable d (askings.Possible n) all = alone (formula_of d n) (item_printable d.items n all)
asked_printable d (askings.Follows n) all = alone (Unary one.Not (formula_of d n)) (tt, item_printable d.items n all)

joined_printable : (f : Formula) (fs : List Formula) → IsPrintable f → All IsPrintable fs → IsPrintable (joined_to f fs)
joined_printable f [] p all = p
joined_printable f (g ∷ fs) p all = joined_printable (Binary two.And f g) fs (p, All-head IsPrintable g fs all) (All-tail IsPrintable g fs all)

all_printable : (fs : List Formula) → All IsPrintable fs → IsPrintable (all_of fs)
all_printable [] all = tt
all_printable (f ∷ fs) all = joined_printable f fs (All-head IsPrintable f fs all) (All-tail IsPrintable f fs all)

-- the formula of a question about a document that is read
pub question_printable : ReadArePrintable → (text : List ℕ) (d : DocumentValue) (numbers : List ℕ) (asking : Asking) → IsDocument text d
    → IsPrintable (all_of (formulas_of d numbers ++ asked_of d asking))
question_printable law text d numbers asking is =
    let all = document_printable law text d is in
    all_printable (formulas_of d numbers ++ asked_of d asking)
    (All-append IsPrintable (formulas_of d numbers) (asked_of d asking) (formulas_printable d numbers all) (asked_printable d asking all))
