-- Letters that may be slips, and their lines.
use Rattle.std.proofs.Common.{◌≡◌, ℕ, ◌≤◌, ◌==◌, false, List, [], ◌∷◌, ◌++◌, map, length, drop, flat_map, codes, if◌then◌else◌, Some, refl, sym, ap, ◌∙◌}
use Rattle.std.proofs.Common.{append_assoc}
use Rattle.std.proofs.lemmas.List.{append-nil, drop_all}
use Rattle.std.proofs.lemmas.List.Folds.{flat_map-map}
use Rattle.requirement_document.specs.Values.{DocumentValue}
use Rattle.requirement_report.specs.declared.letters.Use.{Use}
use Rattle.requirement_report.specs.declared.slips.Slip.{Slip}
use Rattle.requirement_report.specs.Letters.{UseValue, use_in, uses_of, use_line, letters_text}
use Rattle.requirement_report.specs.Slips.{SlipValue, slip_in, slip_of, nearest, is_meant_by, all_slips, KnownValue, known_of, nearest_known}
use Rattle.requirement_report.specs.Text.{slip_line, slips_block}

-- which letter is meant is decided by what is known of each
nearest_same : (uses : List UseValue) (u : UseValue) → nearest_known (map known_of uses) (known_of u) ≡ nearest uses u
nearest_same [] u = refl
nearest_same (o ∷ os) u = ap (λ n. if is_meant_by u o then Some o.letter else n) (nearest_same os u)

-- the slips of one letter among all, as they are found and as they are defined
found_at : List KnownValue → Use → List SlipValue
found_at known u = slip_of (use_in u) (nearest_known known (known_of (use_in u)))

slips_at : List UseValue → Use → List SlipValue
slips_at all u = slip_of (use_in u) (nearest all (use_in u))

same_slips : (all : List UseValue) (known : List KnownValue) → known ≡ map known_of all → (us : List Use)
    → flat_map (found_at known) us ≡ flat_map (slips_at all) us
unfolding found_at slips_at
same_slips all known e [] = refl
same_slips all known e (u ∷ us) =
    ap (λ n. slip_of (use_in u) n ++ flat_map (found_at known) us)
    (ap (λ ks. nearest_known ks (known_of (use_in u))) e ∙ nearest_same all (use_in u))
    ∙ ap (λ ss. slips_at all u ++ ss) (same_slips all known e us)

known_mapped : (uses : List Use) → map (λ u. known_of (use_in u)) uses ≡ map known_of (map use_in uses)
known_mapped [] = refl
known_mapped (u ∷ us) = ap (λ ks. known_of (use_in u) ∷ ks) (known_mapped us)

pub found_slips : (uses : List Use) (known : List KnownValue) (n : ℕ) (made : List SlipValue) → known ≡ map (λ u. known_of (use_in u)) uses → length uses ≤ n
    → made ++ flat_map (λ u. slip_of (use_in u) (nearest_known known (known_of (use_in u)))) (drop n uses)
    ≡ flat_map (λ u. slip_of (use_in u) (nearest_known known (known_of (use_in u)))) uses
    → made ≡ all_slips (map use_in uses)
unfolding found_at slips_at
found_slips uses known n made k le e =
    sym (append-nil made) ∙ ap (λ us. made ++ flat_map (found_at known) us) (sym (drop_all n uses le)) ∙ e
    ∙ same_slips (map use_in uses) known (k ∙ known_mapped uses) uses
    ∙ sym (flat_map-map (λ u. slip_of u (nearest (map use_in uses) u)) use_in uses)

pub block_put : (d : DocumentValue) (slips : List Slip) (old head new : List ℕ) → (length slips == 0) ≡ false → head ≡ old ++ codes "\nperhaps a slip\n"
    → new ≡ head ++ flat_map (λ s. slip_line d (slip_in s)) slips → new ≡ old ++ slips_block d (map slip_in slips)
block_put d [] old head new some h e = absurd (cc)
block_put d (s ∷ ss) old head new some h e =
    e ∙ ap (λ t. t ++ flat_map (λ s. slip_line d (slip_in s)) (s ∷ ss)) h
    ∙ append_assoc old (codes "\nperhaps a slip\n") (flat_map (λ s. slip_line d (slip_in s)) (s ∷ ss))
    ∙ ap (λ t. old ++ (codes "\nperhaps a slip\n" ++ t)) (sym (flat_map-map (slip_line d) slip_in (s ∷ ss)))

pub letters_shown : (d : DocumentValue) (uses : List Use) (start out : List ℕ) → start ≡ [] → out ≡ start ++ flat_map (λ u. use_line d (use_in u)) uses
    → map use_in uses ≡ uses_of d → out ≡ letters_text d
letters_shown d uses start out s e u =
    e ∙ ap (λ t. t ++ flat_map (λ v. use_line d (use_in v)) uses) s ∙ sym (flat_map-map (use_line d) use_in uses) ∙ ap (flat_map (use_line d)) u
