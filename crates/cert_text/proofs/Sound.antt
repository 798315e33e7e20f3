-- What the scan has read is what stands there.
use Rattle.std.proofs.Common.{◌≡◌, ℕ, ◌+◌, ◌<◌, ◌≤◌, ◌==◌, inl, inr, Bool, true, false, List, [], ◌∷◌, ◌++◌, length, All, Some, None, refl, sym, ap, ◌∙◌, subst}
use Rattle.std.proofs.Common.{arith, append_assoc}
use Rattle.std.specs.Prelude.{codes, decimal}
use Rattle.std.specs.List.{flat_map}
use Rattle.std.proofs.lemmas.Bool.{eqb-true, eqb-false}
use Rattle.std.proofs.lemmas.List.{append-nil, length_push}
use Rattle.std.proofs.lemmas.List.Elements.{All-nil, All-push}
use Rattle.std.proofs.lemmas.Fmt.{decimal_digit}
use Rattle.ltl_syntax.specs.declared.node.Kind.TheVariants as Kinds
use Rattle.cnf_base.specs.declared.literal.Literal.{Literal}
use Rattle.cnf_base.specs.declared.literal.Hint.{Hint}
use Rattle.cert_text.specs.Text.{Part, Line, Delete, Certificate, IsLiteral, IsNumber, IsHint, IsPart, IsBegun, sign_text, literal_text, hint_text, target_text}
use Rattle.cert_text.specs.Text.{part_text, close_text, IsTextOf}
use Rattle.cert_text.specs.Scan.{Role, OfDepth, OfLiteral, OfHint, OfTarget, OfDelete, Place, AtVersion, AtKind, AtNumber, InNumber, AtPart, AtLiteral, AtHint}
use Rattle.cert_text.specs.Scan.{AtEnd, Scan, start, greatest, literal, hint, with_part, with_target, header, end_number, first_digit, literal_step}
use Rattle.cert_text.specs.Scan.{number_step, place_step, step, run}
use Rattle.cert_text.proofs.Leading.{HasRead, LeadsOn, reads_on}
use Rattle.cert_text.proofs.Digits.{Gives, gives_none, gives_some, gives_if, gives_at, gives_first, gives_digit}
use Rattle.cert_text.proofs.Places.{number_at, header_before, parts_before, role_before, before, IsStarted, IsRole, IsPlace, flat_more, first_text, digit_text}
use Rattle.cert_text.proofs.Places.{greatest_fits, header_is}

-- the byte at the place leads to a place up to which the text is one byte longer, and what is true there
abbrev Leads : Place → ℕ → Scan → Type 0
Leads p b t = ((rest : List ℕ) → before p (b ∷ (t.0 ++ rest)) ≡ before t.1 rest) × IsPlace t.1

-- the first digit of a number, where a number of this role may stand
first_leads : (p : Place) (role : Role) (b : ℕ) → ((rest : List ℕ) → before p rest ≡ role_before role rest) → IsRole role → 9 ≤ greatest role
    → Gives (Leads p b) (first_digit role b)
first_leads p role b same is room =
    gives_first (Leads p b) (number_at role) b
    (λ low high. (λ rest. same (b ∷ rest) ∙ ap (role_before role) (first_text b rest low high), (is, omega arith, omega arith)))

started_part : (c : Certificate) (part : Part) → IsStarted c → IsPart c.version part → IsStarted (with_part c part)
started_part c part is fits = record {
  begun = record { version = is.begun.version; depth = is.begun.depth; parts = All-push (IsPart c.version) c.parts part is.begun.parts fits };
  none = is.none;
}

-- a literal or the 0 behind the literals
literal_leads : (p : Place) (c : Certificate) (literals : List Literal) (b : ℕ) → ((rest : List ℕ) → before p rest ≡ before (AtLiteral c literals) rest)
    → IsStarted c → All IsLiteral literals
    → Gives (Leads p b) (literal_step c literals b)
literal_leads p c literals b same is all =
    gives_at (Leads p) b 48 _ _ (gives_some (Leads p 48) (codes " ", AtHint c literals []) (λ rest. same (48 ∷ 32 ∷ rest), (is, all, All-nil IsHint)))
    (gives_at (Leads p) b 45 _ _ (gives_some (Leads p 45) ([], AtNumber (OfLiteral c literals true)) (λ rest. same (45 ∷ rest), (is, all)))
    (first_leads p (OfLiteral c literals false) b same (is, all) (omega arith)))

-- three texts one behind the other, and the rest
pub apart : (a b c rest : List ℕ) → (a ++ (b ++ c)) ++ rest ≡ a ++ (b ++ (c ++ rest))
apart a b c rest = append_assoc a (b ++ c) rest ∙ ap (λ x. a ++ x) (append_assoc b c rest)

pub literal_more : (literals : List Literal) (negated : Bool) (n : ℕ) (rest : List ℕ)
    → flat_map literal_text literals ++ (sign_text negated ++ (decimal n ++ (32 ∷ rest))) ≡ flat_map literal_text (literals ++ literal negated n ∷ []) ++ rest
literal_more literals negated n rest =
    sym (flat_more literal_text literals (literal negated n) rest
    ∙ ap (λ x. flat_map literal_text literals ++ x) (apart (sign_text negated) (decimal n) (codes " ") rest))

pub hint_more : (hints : List Hint) (negated : Bool) (n : ℕ) (rest : List ℕ)
    → flat_map hint_text hints ++ (sign_text negated ++ (decimal n ++ (32 ∷ rest))) ≡ flat_map hint_text (hints ++ hint negated n ∷ []) ++ rest
hint_more hints true n rest =
    sym (flat_more hint_text hints (hint true n) rest ∙ ap (λ x. flat_map hint_text hints ++ x) (apart (codes "-") (decimal n) (codes " ") rest))
hint_more hints false n rest =
    sym (flat_more hint_text hints (hint false n) rest ∙ ap (λ x. flat_map hint_text hints ++ x) (append_assoc (decimal n) (codes " ") rest))

pub target_more : (lines : List ℕ) (n : ℕ) (rest : List ℕ)
    → flat_map target_text lines ++ (32 ∷ (decimal n ++ rest)) ≡ flat_map target_text (lines ++ n ∷ []) ++ rest
target_more lines n rest = sym (flat_more target_text lines n rest)

-- a line or a delete is put behind the parts
part_more : (c : Certificate) (part : Part) (rest : List ℕ) → parts_before c (part_text part ++ rest) ≡ parts_before (with_part c part) rest
part_more c part rest = ap (header_before c) (sym (flat_more part_text c.parts part rest))

pub line_text : (literals : List Literal) (hints : List Hint) (rest : List ℕ)
    → flat_map literal_text literals ++ (codes "0 " ++ (flat_map hint_text hints ++ (48 ∷ 10 ∷ rest))) ≡ part_text (Line literals hints) ++ rest
line_text literals hints rest =
    sym (append_assoc (flat_map literal_text literals) (codes "0 " ++ (flat_map hint_text hints ++ codes "0\n")) rest
    ∙ ap (λ x. flat_map literal_text literals ++ (codes "0 " ++ x)) (append_assoc (flat_map hint_text hints) (codes "0\n") rest))

pub delete_text : (lines : List ℕ) (rest : List ℕ) → codes "d" ++ (flat_map target_text lines ++ (10 ∷ rest)) ≡ part_text (Delete lines) ++ rest
delete_text lines rest = ap (λ x. 100 ∷ x) (sym (append_assoc (flat_map target_text lines) (codes "\n") rest))

pub hint_number : (negated : Bool) (n : ℕ) → IsNumber n → IsHint (hint negated n)
hint_number true n is = is
hint_number false n is = is

-- the byte behind a number
end_leads : (role : Role) (n b : ℕ) → IsRole role → 1 ≤ n → n ≤ greatest role → Gives (Leads (InNumber role n) b) (end_number role n b)
end_leads (OfDepth version kind) n b is one few =
    let p = InNumber (OfDepth version kind) n in
    gives_at (Leads p) b 10 _ _ (gives_some (Leads p 10) ([], AtPart (header version kind n))
    (λ rest. refl, record { begun = record { version = is; depth = few; parts = All-nil (IsPart version) }; none = refl }))
    (gives_none (Leads p b))
end_leads (OfLiteral c literals negated) n b is one few =
    let p = InNumber (OfLiteral c literals negated) n in
    gives_at (Leads p) b 32 _ _ (gives_some (Leads p 32) ([], AtLiteral c (literals ++ literal negated n ∷ []))
    (λ rest. ap (parts_before c) (literal_more literals negated n rest), (is.0, All-push IsLiteral literals (literal negated n) is.1 (one, few))))
    (gives_none (Leads p b))
end_leads (OfHint c literals hints negated) n b is one few =
    let p = InNumber (OfHint c literals hints negated) n in
    gives_at (Leads p) b 32 _ _ (gives_some (Leads p 32) ([], AtHint c literals (hints ++ hint negated n ∷ [])) (
      λ rest. ap (λ x. parts_before c (flat_map literal_text literals ++ (codes "0 " ++ x))) (hint_more hints negated n rest),
      (is.0, is.1, All-push IsHint hints (hint negated n) is.2 (hint_number negated n (one, few))),
    ))
    (gives_none (Leads p b))
end_leads (OfTarget c) n b is one few =
    let p = InNumber (OfTarget c) n in
    let begun : IsBegun (with_target c n) = record { version = is.0.version; depth = is.0.depth; parts = is.0.parts } in
    let all = All-push IsNumber c.targets n is.2 (one, few) in
    let text : (rest : List ℕ) → parts_before c (codes "close" ++ (flat_map target_text c.targets ++ (32 ∷ (decimal n ++ rest)))) ≡ parts_before c
    (codes "close" ++ (flat_map target_text (c.targets ++ n ∷ []) ++ rest))
    = λ rest. ap (λ x. parts_before c (codes "close" ++ x)) (target_more c.targets n rest) in
    gives_if (Leads p b) (length c.targets == c.depth + 1) _ _
    (λ e. gives_at (Leads p) b 10 _ _ (gives_some (Leads p 10) ([], AtEnd (with_target c n)) (
      λ rest. text (10 ∷ rest),
      record { begun = begun; count = omega (arith, length_push c.targets n, eqb-true (length c.targets) (c.depth + 1) e); targets = all },
    ))
    (gives_none (Leads p b)))
    (λ e. gives_at (Leads p) b 32 _ _ (gives_some (Leads p 32) ([], AtNumber (OfTarget (with_target c n)))
    (λ rest. text (32 ∷ rest), (begun, omega (arith, length_push c.targets n, is.1, eqb-false (length c.targets) (c.depth + 1) e), all)))
    (gives_none (Leads p b)))
end_leads (OfDelete c lines) n b is one few =
    let p = InNumber (OfDelete c lines) n in
    let all = All-push IsNumber lines n is.2 (one, few) in
    let text : (rest : List ℕ) → parts_before c (codes "d" ++ (flat_map target_text lines ++ (32 ∷ (decimal n ++ rest)))) ≡ parts_before c
    (codes "d" ++ (flat_map target_text (lines ++ n ∷ []) ++ rest))
    = λ rest. ap (λ x. parts_before c (codes "d" ++ x)) (target_more lines n rest) in
    gives_at (Leads p) b 32 _ _ (gives_some (Leads p 32) ([], AtNumber (OfDelete c (lines ++ n ∷ []))) (λ rest. text (32 ∷ rest), (is.0, is.1, all)))
    (gives_at (Leads p) b 10 _ _ (gives_some (Leads p 10) ([], AtPart (with_part c (Delete (lines ++ n ∷ [])))) (
      λ rest. text (10 ∷ rest) ∙ ap (parts_before c) (delete_text (lines ++ n ∷ []) rest) ∙ part_more c (Delete (lines ++ n ∷ [])) rest,
      started_part c (Delete (lines ++ n ∷ [])) is.0 (is.1, omega (arith, length_push lines n), all),
    ))
    (gives_none (Leads p b)))

number_leads : (role : Role) (b : ℕ) → IsRole role → Gives (Leads (AtNumber role) b) (number_step role b)
number_leads (OfDepth version kind) b is =
    let p = AtNumber (OfDepth version kind) in
    gives_at (Leads p) b 48 _ _ (gives_some (Leads p 48) (codes "\n", AtPart (header version kind 0)) (
      λ rest. ap (λ ds. role_before (OfDepth version kind) (ds ++ (10 ∷ rest))) (sym (decimal_digit 0 (omega arith))),
      record {
        begun = record { version = is; depth = omega arith; parts = All-nil (IsPart version) };
        none = refl;
      },
    ))
    (first_leads p (OfDepth version kind) b (λ rest. refl) is (omega arith))
number_leads (OfLiteral c literals negated) b is =
    first_leads (AtNumber (OfLiteral c literals negated)) (OfLiteral c literals negated) b (λ rest. refl) is (omega arith)
number_leads (OfHint c literals hints negated) b is =
    first_leads (AtNumber (OfHint c literals hints negated)) (OfHint c literals hints negated) b (λ rest. refl) is (omega arith)
number_leads (OfTarget c) b is = first_leads (AtNumber (OfTarget c)) (OfTarget c) b (λ rest. refl) is (omega arith)
number_leads (OfDelete c lines) b is = first_leads (AtNumber (OfDelete c lines)) (OfDelete c lines) b (λ rest. refl) is (omega arith)

place_leads : (p : Place) (b : ℕ) → IsPlace p → Gives (Leads p b) (place_step p b)
place_leads AtVersion b is =
    gives_at (Leads AtVersion) b 49 _ _ (gives_some (Leads AtVersion 49) (
      codes " ",
      AtKind 1,
    ) (λ rest. ap (λ ds. codes "ltlcert " ++ (ds ++ (32 ∷ rest))) (sym (decimal_digit 1 (omega arith))), inl refl))
    (gives_at (Leads AtVersion) b 50 _ _ (gives_some (Leads AtVersion 50) (
      codes " ",
      AtKind 2,
    ) (λ rest. ap (λ ds. codes "ltlcert " ++ (ds ++ (32 ∷ rest))) (sym (decimal_digit 2 (omega arith))), inr refl))
    (gives_none (Leads AtVersion b)))
place_leads (AtKind version) b is =
    let p = AtKind version in
    gives_at (Leads p) b 105 _ _ (gives_some (Leads p 105) (codes "nfinite ", AtNumber (OfDepth version Kinds.Infinite)) (λ rest. refl, is))
    (gives_at (Leads p) b 102 _ _ (gives_some (Leads p 102) (codes "inite ", AtNumber (OfDepth version Kinds.Finite)) (λ rest. refl, is))
    (gives_none (Leads p b)))
place_leads (AtNumber role) b is = number_leads role b is
place_leads (InNumber role n) b is =
    gives_digit (Leads (InNumber role n) b) (number_at role) (greatest role) n b (end_number role n b)
    (λ low high few. (
      λ rest. ap (role_before role) (digit_text n b rest is.1 low high (omega (arith, few, greatest_fits role))),
      (is.0, omega (arith, is.1), few),
    ))
    (end_leads role n b is.0 is.1 is.2)
place_leads (AtPart c) b is =
    let p = AtPart c in
    gives_at (Leads p) b 99 _ _ (gives_some (Leads p 99) (codes "lose ", AtNumber (OfTarget c)) (
      λ rest. subst (λ ts. parts_before c (codes "close " ++ rest) ≡ parts_before c (codes "close" ++ (flat_map target_text ts ++ (32 ∷ rest))))
          (sym is.none) refl,
      (is.begun, subst (λ ts. length ts < c.depth + 2) (sym is.none) (omega arith), subst (All IsNumber) (sym is.none) (All-nil IsNumber)),
    ))
    (gives_at (Leads p) b 100 _ _
    (gives_if (Leads p 100) (c.version == 2) _ _
    (λ e. gives_some (Leads p 100) (codes " ", AtNumber (OfDelete c [])) (λ rest. refl, (is, eqb-true c.version 2 e, All-nil IsNumber)))
    (λ e. gives_none (Leads p 100)))
    (literal_leads p c [] b (λ rest. refl) is (All-nil IsLiteral)))
place_leads (AtLiteral c literals) b is = literal_leads (AtLiteral c literals) c literals b (λ rest. refl) is.0 is.1
place_leads (AtHint c literals hints) b is =
    let p = AtHint c literals hints in
    gives_at (Leads p) b 48 _ _ (gives_some (Leads p 48) (codes "\n", AtPart (with_part c (Line literals hints))) (
      λ rest. ap (parts_before c) (line_text literals hints rest) ∙ part_more c (Line literals hints) rest,
      started_part c (Line literals hints) is.0 (
        is.1,
        is.2,
      ),
    ))
    (gives_at (Leads p) b 45 _ _ (gives_some (Leads p 45) ([], AtNumber (OfHint c literals hints true)) (λ rest. refl, is))
    (first_leads p (OfHint c literals hints false) b (λ rest. refl) is (omega arith)))
place_leads (AtEnd c) b is = gives_none (Leads (AtEnd c) b)

-- each byte leads on
abbrev pub left_of : Scan → List ℕ
left_of s = s.0

abbrev pub text_before : Scan → List ℕ → List ℕ
text_before s rest = before s.1 rest

abbrev pub IsReached : Scan → Type 0
IsReached s = IsPlace s.1

leads_on : (s : Scan) (b : ℕ) (t : Scan) → IsReached s → step s b ≡ Some t → LeadsOn left_of text_before IsReached s b t
leads_on (x ∷ xs, p) b t is e =
    gives_at (LeadsOn left_of text_before IsReached (x ∷ xs, p)) b x (Some (xs, p)) None
    (gives_some (LeadsOn left_of text_before IsReached (x ∷ xs, p) x) (xs, p) (record { text = λ rest. (rest, refl, refl); place = is }))
    (gives_none (LeadsOn left_of text_before IsReached (x ∷ xs, p) b)) t e
leads_on ([], p) b t is e = let leads = place_leads p b is t e in record { text = λ rest. (b ∷ (t.0 ++ rest), refl, leads.0 rest); place = leads.1 }

-- what the scan has read from the first byte on
pub reads : (bytes : List ℕ) (t : Scan) → run start bytes ≡ Some t → HasRead left_of text_before IsReached bytes t
reads bytes t e = reads_on step left_of text_before IsReached leads_on bytes [] start t (record { text = λ rest. refl; place = tt }) e

-- a text that the scan reads to its end is that of the certificate
pub read_whole : (bytes : List ℕ) (c : Certificate) → run start bytes ≡ Some ([], AtEnd c) → IsTextOf bytes c
read_whole bytes c e =
    let has = reads bytes ([], AtEnd c) e in
    record { lawful = has.place; spelled = sym (append-nil bytes) ∙ has.text [] ∙ header_is c (flat_map part_text c.parts ++ close_text c.targets) }
