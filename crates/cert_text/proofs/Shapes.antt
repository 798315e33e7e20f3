-- The scan without what it has read goes as the scan does.
use Rattle.std.proofs.Common.{◌≡◌, ℕ, ◌+◌, ◌-◌, ◌*◌, ◌==◌, ◌&&◌, Bool, true, false, cond, ltb, List, [], ◌∷◌, ◌++◌, length, Option, Some, None, refl, ap, ◌∙◌}
use Rattle.std.specs.Prelude.{codes}
use Rattle.std.proofs.lemmas.List.{append-nil, length_push}
use Rattle.cnf_base.specs.declared.literal.Literal.{Literal}
use Rattle.cnf_base.specs.declared.literal.Hint.{Hint}
use Rattle.cert_text.specs.Text.{Line, Delete, Certificate}
use Rattle.cert_text.specs.Live.{lines_of}
use Rattle.cert_text.specs.Scan.{Role, OfDepth, OfLiteral, OfHint, OfTarget, OfDelete, Place, AtVersion, AtKind, AtNumber, InNumber, AtPart, AtLiteral, AtHint}
use Rattle.cert_text.specs.Scan.{AtEnd, Scan, greatest, with_part, end_number, first_digit, literal_step, number_step, place_step}
use Rattle.cert_text.specs.Scan as scan
use Rattle.cert_text.specs.declared.scanning.Head.{Head}
use Rattle.cert_text.specs.declared.scanning.Role.TheVariants as roles
use Rattle.cert_text.specs.declared.scanning.Place.TheVariants as places
use Rattle.cert_text.specs.Shape.{Next, head_of, role_of, place_of, greatest_in, with_line, with_target, end_in, first_in, literal_in, number_in, small_step}
use Rattle.cert_text.proofs.LiveLines.{lines_on}

-- what is kept of an answer
abbrev pub shaped : Option Scan → Next
shaped None = None
shaped (Some t) = Some (t.0, place_of t.1)

both : (b : Bool) (x y : Option Scan) (u v : Next) → shaped x ≡ u → shaped y ≡ v → shaped (cond b x y) ≡ cond b u v
both true x y u v e f = e
both false x y u v e f = f

pub same_greatest : (role : Role) → greatest role ≡ greatest_in (role_of role)
same_greatest (OfDepth version kind) = refl
same_greatest other = refl

-- the counts behind a part and behind a target
head_line : (c : Certificate) (ls : List Literal) (hs : List Hint) → head_of (with_part c (Line ls hs)) ≡ with_line (head_of c)
head_line c ls hs =
    let make : ℕ → Head = λ n. record { version = c.version; kind = c.kind; depth = c.depth; lines = n; targets = length c.targets } in
    ap make (ap length (lines_on c.parts (Line ls hs ∷ [])) ∙ length_push (lines_of c.parts) ls)

head_delete : (c : Certificate) (ns : List ℕ) → head_of (with_part c (Delete ns)) ≡ head_of c
head_delete c ns =
    let make : ℕ → Head = λ n. record { version = c.version; kind = c.kind; depth = c.depth; lines = n; targets = length c.targets } in
    ap make (ap length (lines_on c.parts (Delete ns ∷ []) ∙ append-nil (lines_of c.parts)))

head_target : (c : Certificate) (n : ℕ) → head_of (scan.with_target c n) ≡ with_target (head_of c)
head_target c n =
    let make : ℕ → Head = λ k. record { version = c.version; kind = c.kind; depth = c.depth; lines = length (lines_of c.parts); targets = k } in
    ap make (length_push c.targets n)

end_shape : (role : Role) (n b : ℕ) → shaped (end_number role n b) ≡ end_in (role_of role) n b
end_shape (OfDepth version kind) n b = both (b == 10) _ _ _ _ refl refl
end_shape (OfLiteral c literals negated) n b = both (b == 32) _ _ _ _ refl refl
end_shape (OfHint c literals hints negated) n b = both (b == 32) _ _ _ _ refl refl
end_shape (OfTarget c) n b =
    both (length c.targets == c.depth + 1) _ _ _ _
    (both (b == 10) _ _ _ _ (ap (λ h. let it : Next = Some ([], places.End h) in it) (head_target c n)) refl)
    (both (b == 32) _ _ _ _ (ap (λ h. let it : Next = Some ([], places.First (roles.Target h)) in it) (head_target c n)) refl)
end_shape (OfDelete c lines) n b =
    both (b == 32) _ _ _ _ refl (both (b == 10) _ _ _ _ (ap (λ h. let it : Next = Some ([], places.Part h) in it) (head_delete c (lines ++ n ∷ []))) refl)

first_shape : (role : Role) (b : ℕ) → shaped (first_digit role b) ≡ first_in (role_of role) b
first_shape role b = both (ltb 48 b && ltb b 58) _ _ _ _ refl refl

literal_shape : (c : Certificate) (literals : List Literal) (b : ℕ) → shaped (literal_step c literals b) ≡ literal_in (head_of c) b
literal_shape c literals b = both (b == 48) _ _ _ _ refl (both (b == 45) _ _ _ _ refl (first_shape (OfLiteral c literals false) b))

number_shape : (role : Role) (b : ℕ) → shaped (number_step role b) ≡ number_in (role_of role) b
number_shape (OfDepth version kind) b = both (b == 48) _ _ _ _ refl (first_shape (OfDepth version kind) b)
number_shape (OfLiteral c literals negated) b = first_shape (OfLiteral c literals negated) b
number_shape (OfHint c literals hints negated) b = first_shape (OfHint c literals hints negated) b
number_shape (OfTarget c) b = first_shape (OfTarget c) b
number_shape (OfDelete c lines) b = first_shape (OfDelete c lines) b

pub place_shape : (p : Place) (b : ℕ) → shaped (place_step p b) ≡ small_step (place_of p) b
place_shape AtVersion b = both (b == 49) _ _ _ _ refl (both (b == 50) _ _ _ _ refl refl)
place_shape (AtKind version) b = both (b == 105) _ _ _ _ refl (both (b == 102) _ _ _ _ refl refl)
place_shape (AtNumber role) b = number_shape role b
place_shape (InNumber role n) b =
    both (ltb 47 b && ltb b 58) _ _ _ _
    (both (ltb (greatest role) (10 * n + (b - 48))) _ _ _ _ refl refl
    ∙ ap (λ g. let it : Next = cond (ltb g (10 * n + (b - 48))) None (Some ([], places.More (role_of role) (10 * n + (b - 48)))) in it) (same_greatest role))
    (end_shape role n b)
place_shape (AtPart c) b = both (b == 99) _ _ _ _ refl (both (b == 100) _ _ _ _ (both (c.version == 2) _ _ _ _ refl refl) (literal_shape c [] b))
place_shape (AtLiteral c literals) b = literal_shape c literals b
place_shape (AtHint c literals hints) b =
    both (b == 48) _ _ _ _ (ap (λ h. let it : Next = Some (codes "\n", places.Part h) in it) (head_line c literals hints))
    (both (b == 45) _ _ _ _ refl (first_shape (OfHint c literals hints false) b))
place_shape (AtEnd c) b = refl
