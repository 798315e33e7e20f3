-- Lists of watchers as lists of the numbers of their clauses, after a change.
use Rattle.std.proofs.Common.{◌≡◌, ℕ, suc, ◌-◌, List, [], ◌∷◌, ◌++◌, map, take, drop, set, length, get_or, sym, ap, ap₂, ◌∙◌, append_assoc}
use Rattle.std.proofs.Math.ListN.{get_or-map}
use Rattle.std.proofs.Math.Seq.{map-set_same}
use Rattle.std.specs.List.{remove}
use Rattle.std.proofs.lemmas.List.{map-set, map-append, length-map, take-map, drop-map}
use Rattle.cdcl_watches.specs.declared.watcher.Watcher.{Watcher}
use Rattle.cdcl_watches.specs.Watchers.{nobody, clause_number, numbers}

module _ (heads : List ℕ) (none : clause_number heads nobody ≡ 0) where
  -- one list, and one place of it
  pub numbers_at : (lists : List (List Watcher)) (k : ℕ) → get_or (numbers heads lists) k [] ≡ map (clause_number heads) (get_or lists k [])
  numbers_at lists k = get_or-map (λ ws. map (clause_number heads) ws) lists k []

  pub number_at : (lists : List (List Watcher)) (k i : ℕ)
      → get_or (get_or (numbers heads lists) k []) i 0 ≡ clause_number heads (get_or (get_or lists k []) i nobody)
  number_at lists k i = ap (λ ns. get_or ns i 0) (numbers_at lists k) ∙ ap (get_or (map (clause_number heads) (get_or lists k [])) i) (sym none)
      ∙ get_or-map (clause_number heads) (get_or lists k []) i nobody

  pub length_at : (lists : List (List Watcher)) (k : ℕ) → length (get_or (numbers heads lists) k []) ≡ length (get_or lists k [])
  length_at lists k = ap length (numbers_at lists k) ∙ length-map (get_or lists k []) (clause_number heads)

  pub length_numbers : (lists : List (List Watcher)) → length (numbers heads lists) ≡ length lists
  length_numbers lists = length-map lists (λ ws. map (clause_number heads) ws)

  -- one list is changed
  pub numbers_edit : (lists : List (List Watcher)) (k : ℕ) (ws : List Watcher) (g : List ℕ → List ℕ)
      → map (clause_number heads) ws ≡ g (map (clause_number heads) (get_or lists k []))
      → numbers heads (set lists k ws) ≡ set (numbers heads lists) k (g (get_or (numbers heads lists) k []))
  numbers_edit lists k ws g is =
      map-set (λ vs. map (clause_number heads) vs) lists k ws ∙ ap (set (numbers heads lists) k) (is ∙ ap g (sym (numbers_at lists k)))

  pub numbers_push : (lists : List (List Watcher)) (k : ℕ) (w : Watcher)
      → numbers heads (set lists k (get_or lists k [] ++ w ∷ [])) ≡ set (numbers heads lists) k
      (get_or (numbers heads lists) k [] ++ clause_number heads w ∷ [])
  numbers_push lists k w = numbers_edit lists k _ (λ ns. ns ++ clause_number heads w ∷ []) (map-append (clause_number heads) (get_or lists k []) (w ∷ []))

  pub numbers_remove : (lists : List (List Watcher)) (k i : ℕ)
      → numbers heads (set lists k (remove (get_or lists k []) i)) ≡ set (numbers heads lists) k (remove (get_or (numbers heads lists) k []) i)
  numbers_remove lists k i = numbers_edit lists k _ (λ ns. remove ns i) (removed (get_or lists k []))
    where
      removed : (ws : List Watcher) → map (clause_number heads) (remove ws i) ≡ remove (map (clause_number heads) ws) i
      removed ws = map-append (clause_number heads) (take i ws) (drop (suc i) ws)
          ∙ ap₂ ◌++◌ (sym (take-map (clause_number heads) i ws)) (sym (drop-map (clause_number heads) (suc i) ws))

  -- a watcher of the same clause is put at a place
  pub numbers_refreshed : (lists : List (List Watcher)) (k i : ℕ) (w : Watcher)
      → clause_number heads w ≡ clause_number heads (get_or (get_or lists k []) i nobody)
      → numbers heads (set lists k (set (get_or lists k []) i w)) ≡ numbers heads lists
  numbers_refreshed lists k i w is =
      map-set_same (λ ws. map (clause_number heads) ws) lists k (set (get_or lists k []) i w) []
      (map-set_same (clause_number heads) (get_or lists k []) i w nobody is)

  -- two empty lists are put behind the others
  pub numbers_two : (lists : List (List Watcher)) → numbers heads ((lists ++ [] ∷ []) ++ [] ∷ []) ≡ numbers heads lists ++ [] ∷ [] ∷ []
  numbers_two lists = ap (numbers heads) (append_assoc lists ([] ∷ []) ([] ∷ [])) ∙ map-append (λ ws. map (clause_number heads) ws) lists ([] ∷ [] ∷ [])

  -- the last list is taken off
  pub numbers_shrink : (lists new : List (List Watcher)) → new ≡ take (length lists - 1) lists
      → numbers heads new ≡ take (length (numbers heads lists) - 1) (numbers heads lists)
  numbers_shrink lists new is =
      ap (numbers heads) is ∙ sym (take-map (λ ws. map (clause_number heads) ws) (length lists - 1) lists)
      ∙ ap (λ n. take (n - 1) (numbers heads lists)) (sym (length_numbers lists))
