-- The scan reads every certificate text to its end.
use Rattle.std.proofs.Common.{◌≡◌, ℕ, suc, ◌+◌, ◌-◌, ◌<◌, ◌≤◌, ◌==◌, ◌⊎◌, inl, inr, Bool, true, false, List, [], ◌∷◌, ◌++◌, length, All, Some, refl, sym, ap}
use Rattle.std.proofs.Common.{◌∙◌, subst, arith, append_assoc}
use Rattle.std.specs.Prelude.{codes, decimal}
use Rattle.std.specs.List.{flat_map}
use Rattle.std.proofs.lemmas.Bool.{cond-true, cond-false, eq-eqb, ne_eqb, cases_eq}
use Rattle.std.proofs.lemmas.Fmt.{decimal_digit}
use Rattle.std.proofs.lemmas.List.{append-nil, length_push}
use Rattle.std.proofs.lemmas.List.Elements.{All-head, All-tail}
use Rattle.ltl_syntax.specs.declared.node.Kind.{Kind}
use Rattle.ltl_syntax.specs.declared.node.Kind.TheVariants as Kinds
use Rattle.cnf_base.specs.declared.literal.Literal.{Literal}
use Rattle.cnf_base.specs.declared.literal.Hint.{Hint}
use Rattle.cnf_base.specs.declared.literal.Hint.TheVariants as hints
use Rattle.cert_text.specs.Text.{Part, Line, Delete, Certificate, IsLiteral, IsNumber, IsHint, IsPart, IsCertificate, kind_text, literal_text, hint_text}
use Rattle.cert_text.specs.Text.{target_text, part_text, close_text, text_of}
use Rattle.cert_text.specs.Scan.{Role, OfDepth, OfLiteral, OfHint, OfTarget, OfDelete, Place, AtVersion, AtKind, AtNumber, InNumber, AtPart, AtLiteral, AtHint}
use Rattle.cert_text.specs.Scan.{AtEnd, Scan, start, greatest, literal, with_part, with_target, header, end_number, first_digit, literal_step, place_step, step}
use Rattle.cert_text.specs.Scan.{run}
use Rattle.cert_text.proofs.Machine.{run_step}
use Rattle.cert_text.proofs.Digits.{first_read, digit_read, digits_read}
use Rattle.cert_text.proofs.Places.{number_at, greatest_fits, header_is}
use Rattle.cert_text.proofs.Sound.{line_text, delete_text}

-- a number is read, where its first digit is
first_is : (role : Role) (b : ℕ) → 48 < b → b < 58 → first_digit role b ≡ Some ([], InNumber role (b - 48))
first_is role = first_read (number_at role)

number_read : (s : Scan) (role : Role) → ((b : ℕ) → 48 < b → b < 58 → step s b ≡ Some ([], InNumber role (b - 48)))
    → (n : ℕ) → 1 ≤ n → n ≤ greatest role → (rest : List ℕ) → run s (decimal n ++ rest) ≡ run ([], InNumber role n) rest
number_read s role first =
    digits_read step s (number_at role) (greatest role) (greatest_fits role) first
    (λ n b. digit_read (number_at role) (greatest role) n b (end_number role n b))

-- the place reads a literal or the 0 behind the literals
abbrev AsLiteral : Place → Certificate → List Literal → Type 0
AsLiteral p c literals = (b : ℕ) → b < 58 → place_step p b ≡ literal_step c literals b

pub literal_read : (p : Place) (c : Certificate) (literals : List Literal) (negated : Bool) (n : ℕ) (rest : List ℕ) → AsLiteral p c literals
    → 1 ≤ n → n ≤ 16777216
    → run ([], p) (literal_text (literal negated n) ++ rest) ≡ run ([], AtLiteral c (literals ++ literal negated n ∷ [])) rest
literal_read p c literals true n rest reads low high =
    ap (λ x. run ([], p) (45 ∷ x)) (append_assoc (decimal n) (codes " ") rest)
    ∙ run_step step ([], p) ([], AtNumber (OfLiteral c literals true)) 45 (decimal n ++ (32 ∷ rest)) (reads 45 (omega arith))
    ∙ number_read ([], AtNumber (OfLiteral c literals true)) (OfLiteral c literals true) (first_is (OfLiteral c literals true)) n low high (32 ∷ rest)
literal_read p c literals false n rest reads low high =
    ap (run ([], p)) (append_assoc (decimal n) (codes " ") rest)
    ∙ number_read ([], p) (OfLiteral c literals false)
    (λ b l h. reads b h
    ∙ cond-false (b == 48) _ _ (ne_eqb b 48 (λ e. omega arith))
    ∙ cond-false (b == 45) _ _ (ne_eqb b 45 (λ e. omega arith))
    ∙ first_is (OfLiteral c literals false) b l h)
    n low high (32 ∷ rest)

literals_read : (more : List Literal) (p : Place) (c : Certificate) (literals : List Literal) (rest : List ℕ) → AsLiteral p c literals → All IsLiteral more
    → run ([], p) (flat_map literal_text more ++ (48 ∷ 32 ∷ rest)) ≡ run ([], AtHint c (literals ++ more) []) rest
literals_read [] p c literals rest reads all =
    run_step step ([], p) (codes " ", AtHint c literals []) 48 (32 ∷ rest) (reads 48 (omega arith))
    ∙ ap (λ ls. run ([], AtHint c ls []) rest) (sym (append-nil literals))
literals_read (l ∷ more) p c literals rest reads all =
    let here = All-head IsLiteral l more all in
    ap (run ([], p)) (append_assoc (literal_text l) (flat_map literal_text more) (48 ∷ 32 ∷ rest))
    ∙ literal_read p c literals l.negated l.letter.0 (flat_map literal_text more ++ (48 ∷ 32 ∷ rest)) reads here.0 here.1
    ∙ literals_read more (AtLiteral c (literals ++ l ∷ [])) c (literals ++ l ∷ []) rest (λ b h. refl) (All-tail IsLiteral l more all)
    ∙ ap (λ ls. run ([], AtHint c ls []) rest) (append_assoc literals (l ∷ []) more)

pub hint_read : (c : Certificate) (literals : List Literal) (hs : List Hint) (h : Hint) (rest : List ℕ) → IsHint h
    → run ([], AtHint c literals hs) (hint_text h ++ rest) ≡ run ([], AtHint c literals (hs ++ h ∷ [])) rest
hint_read c literals hs (hints.Line n) rest is =
    ap (λ x. run ([], AtHint c literals hs) (45 ∷ x)) (append_assoc (decimal n) (codes " ") rest)
    ∙ number_read ([], AtNumber (OfHint c literals hs true)) (OfHint c literals hs true) (first_is (OfHint c literals hs true)) n is.0 is.1 (32 ∷ rest)
hint_read c literals hs (hints.Clause n) rest is =
    ap (run ([], AtHint c literals hs)) (append_assoc (decimal n) (codes " ") rest)
    ∙ number_read ([], AtHint c literals hs) (OfHint c literals hs false)
    (λ b l h. cond-false (b == 48) _ _ (ne_eqb b 48 (λ e. omega arith))
    ∙ cond-false (b == 45) _ _ (ne_eqb b 45 (λ e. omega arith))
    ∙ first_is (OfHint c literals hs false) b l h)
    n is.0 is.1 (32 ∷ rest)

hints_read : (more : List Hint) (c : Certificate) (literals : List Literal) (hs : List Hint) (rest : List ℕ) → All IsHint more
    → run ([], AtHint c literals hs) (flat_map hint_text more ++ (48 ∷ 10 ∷ rest)) ≡ run ([], AtPart (with_part c (Line literals (hs ++ more)))) rest
hints_read [] c literals hs rest all = ap (λ h. run ([], AtPart (with_part c (Line literals h))) rest) (sym (append-nil hs))
hints_read (h ∷ more) c literals hs rest all =
    ap (run ([], AtHint c literals hs)) (append_assoc (hint_text h) (flat_map hint_text more) (48 ∷ 10 ∷ rest))
    ∙ hint_read c literals hs h (flat_map hint_text more ++ (48 ∷ 10 ∷ rest)) (All-head IsHint h more all)
    ∙ hints_read more c literals (hs ++ h ∷ []) rest (All-tail IsHint h more all)
    ∙ ap (λ x. run ([], AtPart (with_part c (Line literals x))) rest) (append_assoc hs (h ∷ []) more)

-- the numbers of a delete, each behind a space
delete_read : (c : Certificate) (lines more : List ℕ) (n : ℕ) (rest : List ℕ) → IsNumber n
    → run (codes " ", AtNumber (OfDelete c lines)) (flat_map target_text (n ∷ more) ++ rest) ≡ run ([], InNumber (OfDelete c lines) n)
    (flat_map target_text more ++ rest)
delete_read c lines more n rest is =
    ap (λ x. run ([], AtNumber (OfDelete c lines)) x) (append_assoc (decimal n) (flat_map target_text more) rest)
    ∙ number_read ([], AtNumber (OfDelete c lines)) (OfDelete c lines) (first_is (OfDelete c lines)) n is.0 is.1 (flat_map target_text more ++ rest)

pub deletes_read : (more : List ℕ) (c : Certificate) (lines : List ℕ) (n : ℕ) (rest : List ℕ) → IsNumber n → All IsNumber more
    → run (codes " ", AtNumber (OfDelete c lines))
    (flat_map target_text (n ∷ more) ++ (10 ∷ rest)) ≡ run ([], AtPart (with_part c (Delete (lines ++ n ∷ more)))) rest
deletes_read [] c lines n rest is all = delete_read c lines [] n (10 ∷ rest) is
deletes_read (m ∷ more) c lines n rest is all =
    delete_read c lines (m ∷ more) n (10 ∷ rest) is
    ∙ deletes_read more c (lines ++ n ∷ []) m rest (All-head IsNumber m more all) (All-tail IsNumber m more all)
    ∙ ap (λ x. run ([], AtPart (with_part c (Delete x))) rest) (append_assoc lines (n ∷ []) (m ∷ more))

-- a line or a delete
part_read : (part : Part) (c : Certificate) (rest : List ℕ) → IsPart c.version part
    → run ([], AtPart c) (part_text part ++ rest) ≡ run ([], AtPart (with_part c part)) rest
part_read (Line literals hs) c rest is =
    ap (run ([], AtPart c)) (sym (line_text literals hs rest))
    ∙ literals_read literals (AtPart c) c [] (flat_map hint_text hs ++ (48 ∷ 10 ∷ rest))
    (λ b low. cond-false (b == 99) _ _ (ne_eqb b 99 (λ e. omega arith)) ∙ cond-false (b == 100) _ _ (ne_eqb b 100 (λ e. omega arith))) is.0
    ∙ hints_read hs c literals [] rest is.1
part_read (Delete []) c rest is = absurd (omega (arith, is.1))
part_read (Delete (n ∷ lines)) c rest is =
    ap (run ([], AtPart c)) (sym (delete_text (n ∷ lines) rest))
    ∙ run_step step ([], AtPart c) (codes " ", AtNumber (OfDelete c [])) 100 (flat_map target_text (n ∷ lines) ++ (10 ∷ rest))
    (cond-true (c.version == 2) _ _ (eq-eqb c.version 2 is.0))
    ∙ deletes_read lines c [] n rest (All-head IsNumber n lines is.2) (All-tail IsNumber n lines is.2)

abbrev with_parts : Certificate → List Part → Certificate
with_parts c more = record { version = c.version; kind = c.kind; depth = c.depth; parts = c.parts ++ more; targets = c.targets }

parts_read : (more : List Part) (c : Certificate) (rest : List ℕ) → All (IsPart c.version) more
    → run ([], AtPart c) (flat_map part_text more ++ rest) ≡ run ([], AtPart (with_parts c more)) rest
parts_read [] c rest all =
    let make : List Part → Certificate = λ ps. record { version = c.version; kind = c.kind; depth = c.depth; parts = ps; targets = c.targets } in
    ap (λ ps. run ([], AtPart (make ps)) rest) (sym (append-nil c.parts))
parts_read (part ∷ more) c rest all =
    let make : List Part → Certificate = λ ps. record { version = c.version; kind = c.kind; depth = c.depth; parts = ps; targets = c.targets } in
    ap (run ([], AtPart c)) (append_assoc (part_text part) (flat_map part_text more) rest)
    ∙ part_read part c (flat_map part_text more ++ rest) (All-head (IsPart c.version) part more all)
    ∙ parts_read more (with_part c part) rest (All-tail (IsPart c.version) part more all)
    ∙ ap (λ ps. run ([], AtPart (make ps)) rest) (append_assoc c.parts (part ∷ []) more)

abbrev with_targets : Certificate → List ℕ → Certificate
with_targets c more = record { version = c.version; kind = c.kind; depth = c.depth; parts = c.parts; targets = c.targets ++ more }

target_read : (c : Certificate) (more : List ℕ) (n : ℕ) (rest : List ℕ) → IsNumber n
    → run (codes " ", AtNumber (OfTarget c)) (flat_map target_text (n ∷ more) ++ rest) ≡ run ([], InNumber (OfTarget c) n) (flat_map target_text more ++ rest)
target_read c more n rest is =
    ap (λ x. run ([], AtNumber (OfTarget c)) x) (append_assoc (decimal n) (flat_map target_text more) rest)
    ∙ number_read ([], AtNumber (OfTarget c)) (OfTarget c) (first_is (OfTarget c)) n is.0 is.1 (flat_map target_text more ++ rest)

-- the last target has the close behind it, each other one has a target
targets_read : (more : List ℕ) (c : Certificate) (n : ℕ) → length c.targets + suc (length more) ≡ c.depth + 2 → IsNumber n → All IsNumber more
    → run (codes " ", AtNumber (OfTarget c)) (flat_map target_text (n ∷ more) ++ codes "\n") ≡ Some ([], AtEnd (with_targets c (n ∷ more)))
targets_read [] c n count is all =
    target_read c [] n (codes "\n") is
    ∙ run_step step ([], InNumber (OfTarget c) n) ([], AtEnd (with_target c n)) 10 []
    (cond-true (length c.targets == c.depth + 1) _ _ (eq-eqb (length c.targets) (c.depth + 1) (omega (arith, count))))
targets_read (m ∷ more) c n count is all =
    let make : List ℕ → Certificate = λ ts. record { version = c.version; kind = c.kind; depth = c.depth; parts = c.parts; targets = ts } in
    let e : length (c.targets ++ n ∷ []) + suc (length more) ≡ c.depth + 2 = omega (arith, count, length_push c.targets n) in
    target_read c (m ∷ more) n (codes "\n") is
    ∙ run_step step ([], InNumber (OfTarget c) n) ([], AtNumber (OfTarget (with_target c n))) 32 ((decimal m ++ flat_map target_text more) ++ codes "\n")
    (cond-false (length c.targets == c.depth + 1) _ _ (ne_eqb (length c.targets) (c.depth + 1) (λ h. omega (arith, h, count))))
    ∙ targets_read more (with_target c n) m e (All-head IsNumber m more all) (All-tail IsNumber m more all)
    ∙ ap (λ ts. let s : Scan = ([], AtEnd (make ts)) in Some s) (append_assoc c.targets (n ∷ []) (m ∷ more))

close_read : (targets : List ℕ) (c : Certificate) → c.targets ≡ [] → length targets ≡ c.depth + 2 → All IsNumber targets
    → run ([], AtPart c) (close_text targets) ≡ Some ([], AtEnd (with_targets c targets))
close_read [] c none count all = absurd (omega (arith, count))
close_read (n ∷ targets) c none count all =
    targets_read targets c n (omega (arith, count, ap length none)) (All-head IsNumber n targets all) (All-tail IsNumber n targets all)

depth_read : (version : ℕ) (kind : Kind) (depth : ℕ) (rest : List ℕ)
    → depth ≤ 1000 → run ([], AtNumber (OfDepth version kind)) (decimal depth ++ (10 ∷ rest)) ≡ run ([], AtPart (header version kind depth)) rest
depth_read version kind depth rest few = elim (cases_eq depth 0) [
  | inl none ↦ subst (λ d. run ([], AtNumber (OfDepth version kind)) (decimal d ++ (10 ∷ rest)) ≡ run ([], AtPart (header version kind d)) rest) (sym none)
      (ap (λ ds. run ([], AtNumber (OfDepth version kind)) (ds ++ (10 ∷ rest))) (decimal_digit 0 (omega arith)))
  | inr some ↦ number_read ([], AtNumber (OfDepth version kind)) (OfDepth version kind)
      (λ b l h. cond-false (b == 48) _ _ (ne_eqb b 48 (λ e. omega arith)) ∙ first_is (OfDepth version kind) b l h) depth (omega (arith, some)) few (10 ∷ rest)
]

kind_read : (version : ℕ) (kind : Kind) (rest : List ℕ)
    → run ([], AtKind version) (kind_text kind ++ (32 ∷ rest)) ≡ run ([], AtNumber (OfDepth version kind)) rest
kind_read version Kinds.Infinite rest = refl
kind_read version Kinds.Finite rest = refl

version_read : (version : ℕ) (rest : List ℕ) → (version ≡ 1) ⊎ (version ≡ 2)
    → run ([], AtVersion) (decimal version ++ (32 ∷ rest)) ≡ run ([], AtKind version) rest
version_read version rest (inl one) =
    subst (λ v. run ([], AtVersion) (decimal v ++ (32 ∷ rest)) ≡ run ([], AtKind v) rest) (sym one)
    (ap (λ ds. run ([], AtVersion) (ds ++ (32 ∷ rest))) (decimal_digit 1 (omega arith)))
version_read version rest (inr two) =
    subst (λ v. run ([], AtVersion) (decimal v ++ (32 ∷ rest)) ≡ run ([], AtKind v) rest) (sym two)
    (ap (λ ds. run ([], AtVersion) (ds ++ (32 ∷ rest))) (decimal_digit 2 (omega arith)))

-- each certificate's text is read to its end
pub whole_read : (c : Certificate) → IsCertificate c → run start (text_of c) ≡ Some ([], AtEnd c)
whole_read c is =
    let body : List ℕ = flat_map part_text c.parts ++ close_text c.targets in
    let depth_on : List ℕ = decimal c.depth ++ (10 ∷ body) in
    let kind_on : List ℕ = kind_text c.kind ++ (32 ∷ depth_on) in
    ap (run start) (sym (header_is c body))
    ∙ version_read c.version kind_on is.begun.version
    ∙ kind_read c.version c.kind depth_on
    ∙ depth_read c.version c.kind c.depth body is.begun.depth
    ∙ parts_read c.parts (header c.version c.kind c.depth) (close_text c.targets) is.begun.parts
    ∙ close_read c.targets (with_parts (header c.version c.kind c.depth) c.parts) refl is.count is.targets
