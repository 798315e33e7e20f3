-- The text of a log, line by line.
use Rattle.std.proofs.Common.{◌≡◌, ◌+◌, ◌≤◌, List, ◌++◌, length, drop, sym, ap, ap₂, ◌∙◌, arith, append_assoc, ℕ}
use Rattle.std.specs.Prelude.{codes, decimal}
use Rattle.std.specs.List.{flat_map}
use Rattle.std.proofs.lemmas.Fmt.{decimal_digit}
use Rattle.std.proofs.lemmas.List.{append-nil, drop_all}
use Rattle.ltl_syntax.specs.declared.node.Kind.{Kind}
use Rattle.cnf_base.specs.declared.literal.Literal.{Literal}
use Rattle.cnf_base.specs.declared.literal.Hint.{Hint}
use Rattle.cert_text.specs.Text.{Line, part_text, kind_text, close_text, text_of}
use Rattle.cert_text.specs.Writing.{delete_of, parts_from, written}

-- a line, and the delete behind it
pub step_written : (old mid new : List ℕ) (ls l : List Literal) (hs h : List Hint) (ns e : List ℕ) → mid ≡ old ++ part_text (Line ls hs)
    → new ≡ mid ++ flat_map part_text (delete_of ns) → ls ≡ l → hs ≡ h → ns ≡ e
    → new ≡ old ++ (part_text (Line l h) ++ flat_map part_text (delete_of e))
step_written old mid new ls l hs h ns e one two same_ls same_hs same_ns =
    two ∙ ap₂ (λ x y. x ++ flat_map part_text (delete_of y)) (one ∙ ap₂ (λ x y. old ++ part_text (Line x y)) same_ls same_hs) same_ns
    ∙ append_assoc old (part_text (Line l h)) (flat_map part_text (delete_of e))

-- behind the last line
pub write_end : (hss : List (List Hint)) (ts : List ℕ) (ls : List (List Literal)) (i : ℕ) (out whole : List ℕ) → length ls ≤ i
    → out ++ flat_map part_text (parts_from hss ts i (drop i ls) (drop i hss)) ≡ whole → out ≡ whole
write_end hss ts ls i out whole end are =
    sym (append-nil out) ∙ sym (ap (λ x. out ++ flat_map part_text (parts_from hss ts i x (drop i hss))) (drop_all i ls end)) ∙ are

-- the whole text, behind what was there
pub text_written : (kind : Kind) (depth : ℕ) (ls : List (List Literal)) (hss : List (List Hint)) (ts old out whole : List ℕ)
    → out ≡ old ++ ((codes "ltlcert 2 " ++ (kind_text kind ++ (codes " " ++ (decimal depth ++ codes "\n")))) ++ flat_map part_text (parts_from hss ts 0 ls hss))
    → whole ≡ out ++ close_text ts
    → whole ≡ old ++ text_of (written kind depth ls hss ts)
text_written kind depth ls hss ts old out whole lines close =
    let rest : List ℕ = kind_text kind ++ (codes " " ++ (decimal depth ++ codes "\n")) in
    let head : List ℕ = codes "ltlcert 2 " ++ rest in
    let body : List ℕ = flat_map part_text (parts_from hss ts 0 ls hss) in
    close ∙ ap (λ x. x ++ close_text ts) lines
    ∙ append_assoc old (head ++ body) (close_text ts)
    ∙ ap (λ x. old ++ x) (append_assoc head body (close_text ts))
    ∙ ap (λ ds. old ++ (codes "ltlcert " ++ (ds ++ (codes " " ++ rest)) ++ (body ++ close_text ts))) (sym (decimal_digit 2 (omega arith)))
