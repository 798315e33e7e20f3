-- The parts over the entries are those of the list of a step.
use Rattle.std.proofs.Common.{◌≡◌, ℕ, suc, refl, Bool, true, false, ap, ap₂, sym, ◌∙◌, List, [], ◌∷◌, ◌++◌, length, get_or, flat_map, map, filter, append_assoc}
use Rattle.std.proofs.Common.{All, subst, if◌then◌else◌}
use Rattle.std.proofs.lemmas.List.{map-append}
use Rattle.ltl_syntax.specs.Formula.{Formula, Name, Fresh}
use Rattle.ltl_syntax.specs.declared.node.Kind.TheVariants as Kinds
use Rattle.cnf_base.specs.declared.literal.Literal.{Literal as Signed}
use Rattle.ltl_closure.specs.Norm.{Norm, NConst, NLetter, NNotLetter, NAnd, NOr, NNext, NWeakNext, NYesterday, NWeakYesterday, NUntil, NRelease, NSince}
use Rattle.ltl_closure.specs.Norm.{NTrigger}
use Rattle.ltl_closure.specs.Closure.{closure, is_next, is_yesterday}
use Rattle.ltl_closure.specs.Entries.{place_in, StandsFor, AreEntries}
use Rattle.ltl_closure.specs.declared.entry.Entry.{Entry}
use Rattle.ltl_closure.specs.declared.entry.Entry.TheVariants as Is
use Rattle.ltl_closure.proofs.Places.{closure_placed}
use Rattle.enc_layout.specs.Letters.{Accepted, below}
use Rattle.enc_layout.specs.Clauses.{Literal, Plus, Minus, Clause, letter_of, gate, gates_part, links_part, acceptance_part, start, next_clauses}
use Rattle.enc_layout.specs.Clauses.{before_clauses, is_strong_next}
use Rattle.enc_layout.specs.Numbered.{IsInside}
use Rattle.enc_layout.proofs.Standing.{entries_inside}
use Rattle.enc_layout.proofs.ByIndex.{below_same, flat_map_below}
use Rattle.clause_index.specs.ByNumber.{entry_gate}
use Rattle.clause_index.proofs.Gates.{gate_same}
use Rattle.claims.specs.Between.{width, signed, step_clauses, step_list}
use Rattle.claim_check.specs.declared.step_list.Piece.TheVariants as Pieces
use Rattle.claim_check.specs.Pieces.{signed_by, rows, start_entry, next_entry, yesterday_entry, last_entry, part_of, root_clauses}

-- members that are left out say nothing
flat_filter : {X Y : Type 0} (p : X → Bool) (h : X → List Y) (es : List X) → flat_map (λ e. if p e then h e else []) es ≡ flat_map h (filter p es)
flat_filter p h [] = refl
flat_filter p h (e ∷ es) = ap (λ z. (if p e then h e else []) ++ z) (flat_filter p h es) ∙ kept (p e)
  where
    kept : (b : Bool) → (if b then h e else []) ++ flat_map h (filter p es) ≡ flat_map h (if b then e ∷ filter p es else filter p es)
    kept true = refl
    kept false = refl

flat_one : {X Y : Type 0} (h : X → Y) (es : List X) → flat_map (λ e. h e ∷ []) es ≡ map h es
flat_one h [] = refl
flat_one h (e ∷ es) = ap (λ z. h e ∷ z) (flat_one h es)

abbrev where_true : (Norm → Bool) → (Norm → List Clause) → Norm → List Clause
where_true p h e = if p e then h e else []

abbrev last_of : Formula → Norm → Clause
last_of f t = Minus (Accepted 0) ∷ Minus (letter_of f 0 t) ∷ []

module _ (names : List (List ℕ)) (f : Formula) (entries : List Entry) (are : AreEntries names f entries) where
  abbrev at : Norm → ℕ
  at e = place_in (closure f) e

  over : (G : ℕ → Entry → List Clause) (H : Norm → List Clause) → ((e : Norm) (x : Entry) → StandsFor names f e x → G (place_in (closure f) e) x ≡ H e)
      → below (length entries) (λ k. G (suc k) (get_or entries k Is.True)) ≡ flat_map H (closure f)
  over G H same =
      ap (λ n. below n (λ k. G (suc k) (get_or entries k Is.True))) are.long
      ∙ (below_same (length (closure f)) (λ k. G (suc k) (get_or entries k Is.True)) (λ k. H (get_or (closure f) k (NConst false))) (λ k lt.
      ap (λ n. G n (get_or entries k Is.True)) (sym (closure_placed f k (NConst false) lt))
      ∙ same (get_or (closure f) k (NConst false)) (get_or entries k Is.True) (are.each k lt))
      ∙ sym (flat_map_below H (closure f) (NConst false)))

  next_same : (e : Norm) (x : Entry) → StandsFor names f e x → next_entry (place_in (closure f) e) x ≡ where_true is_next (next_clauses f 0) e
  next_same (NConst true) x s = ap (next_entry (at (NConst true))) s
  next_same (NConst false) x s = ap (next_entry (at (NConst false))) s
  next_same (NLetter (Name bytes)) x s = ap (next_entry (at (NLetter (Name bytes)))) s.1
  next_same (NLetter (Fresh n)) x s = ap (next_entry (at (NLetter (Fresh n)))) s
  next_same (NNotLetter p) x s = ap (next_entry (at (NNotLetter p))) s
  next_same (NAnd a b) x s = ap (next_entry (at (NAnd a b))) s
  next_same (NOr a b) x s = ap (next_entry (at (NOr a b))) s
  next_same (NNext a) x s = ap (next_entry (at (NNext a))) s
  next_same (NWeakNext a) x s = ap (next_entry (at (NWeakNext a))) s
  next_same (NYesterday a) x s = ap (next_entry (at (NYesterday a))) s
  next_same (NWeakYesterday a) x s = ap (next_entry (at (NWeakYesterday a))) s
  next_same (NUntil a b) x s = ap (next_entry (at (NUntil a b))) s
  next_same (NRelease a b) x s = ap (next_entry (at (NRelease a b))) s
  next_same (NSince a b) x s = ap (next_entry (at (NSince a b))) s
  next_same (NTrigger a b) x s = ap (next_entry (at (NTrigger a b))) s

  yesterday_same : (e : Norm) (x : Entry) → StandsFor names f e x → yesterday_entry (place_in (closure f) e) x ≡ where_true is_yesterday (before_clauses f 0) e
  yesterday_same (NConst true) x s = ap (yesterday_entry (at (NConst true))) s
  yesterday_same (NConst false) x s = ap (yesterday_entry (at (NConst false))) s
  yesterday_same (NLetter (Name bytes)) x s = ap (yesterday_entry (at (NLetter (Name bytes)))) s.1
  yesterday_same (NLetter (Fresh n)) x s = ap (yesterday_entry (at (NLetter (Fresh n)))) s
  yesterday_same (NNotLetter p) x s = ap (yesterday_entry (at (NNotLetter p))) s
  yesterday_same (NAnd a b) x s = ap (yesterday_entry (at (NAnd a b))) s
  yesterday_same (NOr a b) x s = ap (yesterday_entry (at (NOr a b))) s
  yesterday_same (NNext a) x s = ap (yesterday_entry (at (NNext a))) s
  yesterday_same (NWeakNext a) x s = ap (yesterday_entry (at (NWeakNext a))) s
  yesterday_same (NYesterday a) x s = ap (yesterday_entry (at (NYesterday a))) s
  yesterday_same (NWeakYesterday a) x s = ap (yesterday_entry (at (NWeakYesterday a))) s
  yesterday_same (NUntil a b) x s = ap (yesterday_entry (at (NUntil a b))) s
  yesterday_same (NRelease a b) x s = ap (yesterday_entry (at (NRelease a b))) s
  yesterday_same (NSince a b) x s = ap (yesterday_entry (at (NSince a b))) s
  yesterday_same (NTrigger a b) x s = ap (yesterday_entry (at (NTrigger a b))) s

  start_same : (e : Norm) (x : Entry) → StandsFor names f e x → start_entry (place_in (closure f) e) x ≡ where_true is_yesterday (start f) e
  start_same (NConst true) x s = ap (start_entry (at (NConst true))) s
  start_same (NConst false) x s = ap (start_entry (at (NConst false))) s
  start_same (NLetter (Name bytes)) x s = ap (start_entry (at (NLetter (Name bytes)))) s.1
  start_same (NLetter (Fresh n)) x s = ap (start_entry (at (NLetter (Fresh n)))) s
  start_same (NNotLetter p) x s = ap (start_entry (at (NNotLetter p))) s
  start_same (NAnd a b) x s = ap (start_entry (at (NAnd a b))) s
  start_same (NOr a b) x s = ap (start_entry (at (NOr a b))) s
  start_same (NNext a) x s = ap (start_entry (at (NNext a))) s
  start_same (NWeakNext a) x s = ap (start_entry (at (NWeakNext a))) s
  start_same (NYesterday a) x s = ap (start_entry (at (NYesterday a))) s
  start_same (NWeakYesterday a) x s = ap (start_entry (at (NWeakYesterday a))) s
  start_same (NUntil a b) x s = ap (start_entry (at (NUntil a b))) s
  start_same (NRelease a b) x s = ap (start_entry (at (NRelease a b))) s
  start_same (NSince a b) x s = ap (start_entry (at (NSince a b))) s
  start_same (NTrigger a b) x s = ap (start_entry (at (NTrigger a b))) s

  last_same : (e : Norm) (x : Entry) → StandsFor names f e x → last_entry (place_in (closure f) e) x ≡ where_true is_strong_next (λ t. last_of f t ∷ []) e
  last_same (NConst true) x s = ap (last_entry (at (NConst true))) s
  last_same (NConst false) x s = ap (last_entry (at (NConst false))) s
  last_same (NLetter (Name bytes)) x s = ap (last_entry (at (NLetter (Name bytes)))) s.1
  last_same (NLetter (Fresh n)) x s = ap (last_entry (at (NLetter (Fresh n)))) s
  last_same (NNotLetter p) x s = ap (last_entry (at (NNotLetter p))) s
  last_same (NAnd a b) x s = ap (last_entry (at (NAnd a b))) s
  last_same (NOr a b) x s = ap (last_entry (at (NOr a b))) s
  last_same (NNext a) x s = ap (last_entry (at (NNext a))) s
  last_same (NWeakNext a) x s = ap (last_entry (at (NWeakNext a))) s
  last_same (NYesterday a) x s = ap (last_entry (at (NYesterday a))) s
  last_same (NWeakYesterday a) x s = ap (last_entry (at (NWeakYesterday a))) s
  last_same (NUntil a b) x s = ap (last_entry (at (NUntil a b))) s
  last_same (NRelease a b) x s = ap (last_entry (at (NRelease a b))) s
  last_same (NSince a b) x s = ap (last_entry (at (NSince a b))) s
  last_same (NTrigger a b) x s = ap (last_entry (at (NTrigger a b))) s

  pub gates_here : part_of Pieces.Gate entries ≡ gates_part f 0
  gates_here = over (entry_gate 0) (gate (letter_of f 0)) (gate_same names f entries are 0)

  pub gates_next : part_of Pieces.NextGate entries ≡ gates_part f 1
  gates_next = over (entry_gate 1) (gate (letter_of f 1)) (gate_same names f entries are 1)

  pub links : part_of Pieces.Next entries ++ part_of Pieces.Yesterday entries ≡ links_part f 1
  links =
      ap₂ ◌++◌ (over (next_entry) (where_true is_next (next_clauses f 0)) next_same ∙ flat_filter is_next (next_clauses f 0) (closure f))
      (over (yesterday_entry) (where_true is_yesterday (before_clauses f 0)) yesterday_same ∙ flat_filter is_yesterday (before_clauses f 0) (closure f))

  pub firsts : root_clauses f ++ part_of Pieces.Start entries ≡ links_part f 0
  firsts = ap (λ z. root_clauses f ++ z) (over start_entry (where_true is_yesterday (start f)) start_same ∙ flat_filter is_yesterday (start f) (closure f))

  pub lasts : part_of Pieces.Last entries ≡ acceptance_part f Kinds.Finite 0
  lasts =
      over last_entry (where_true is_strong_next (λ t. last_of f t ∷ [])) last_same
      ∙ (flat_filter is_strong_next (λ t. last_of f t ∷ []) (closure f) ∙ flat_one (last_of f) (filter is_strong_next (closure f)))

  pub all_parts : part_of Pieces.Gate entries ++ (part_of Pieces.NextGate entries ++ ((part_of Pieces.Next entries ++ part_of Pieces.Yesterday entries)
      ++ ((root_clauses f ++ part_of Pieces.Start entries) ++ part_of Pieces.Last entries))) ≡ step_clauses f
  all_parts = ap₂ ◌++◌ gates_here (ap₂ ◌++◌ gates_next (ap₂ ◌++◌ links (ap₂ ◌++◌ firsts lasts)))

signed_same : (f : Formula) (l : Literal) → signed_by (width f) l ≡ signed f l
signed_same f (Plus p) = refl
signed_same f (Minus p) = refl

clause_same : (f : Formula) (c : Clause) → map (signed_by (width f)) c ≡ map (signed f) c
clause_same f [] = refl
clause_same f (l ∷ ls) = ap₂ ◌∷◌ (signed_same f l) (clause_same f ls)

rows_same : (f : Formula) (cs : List Clause) → rows (width f) cs ≡ map (map (signed f)) cs
rows_same f [] = refl
rows_same f (c ∷ cs) = ap₂ ◌∷◌ (clause_same f c) (rows_same f cs)

-- one part behind others
pub more : (w : ℕ) (old mid new : List (List Signed)) (cs ds : List Clause) → mid ≡ old ++ rows w cs → new ≡ mid ++ rows w ds → new ≡ old ++ rows w (cs ++ ds)
more w old mid new cs ds a b =
    b ∙ (ap (λ z. z ++ rows w ds) a ∙ (append_assoc old (rows w cs) (rows w ds) ∙ ap (λ z. old ++ z) (sym (map-append (map (signed_by w)) cs ds))))

pub list_done : (f : Formula) (cs : List Clause) (old new : List (List Signed)) → cs ≡ step_clauses f → new ≡ old ++ rows (width f) cs
    → new ≡ old ++ step_list f
list_done f cs old new is e = e ∙ ap (λ z. old ++ z) (ap (rows (width f)) is ∙ rows_same f (step_clauses f))

pub inside : (names : List (List ℕ)) (f : Formula) (entries : List Entry) → AreEntries names f entries → All (IsInside (length entries)) entries
inside names f entries are = subst (λ n. All (IsInside n) entries) (sym are.long) (entries_inside names f entries are)

pub whole : (names : List (List ℕ)) (f : Formula) (entries : List Entry) → AreEntries names f entries → (old a b c d e g new : List (List Signed))
    → a ≡ old ++ rows (length entries) (part_of Pieces.Gate entries) → b ≡ a ++ rows (length entries) (part_of Pieces.NextGate entries)
    → c ≡ b ++ rows (length entries) (part_of Pieces.Next entries) → d ≡ c ++ rows (length entries) (part_of Pieces.Yesterday entries)
    → e ≡ d ++ rows (width f) (root_clauses f) → g ≡ e ++ rows (length entries) (part_of Pieces.Start entries)
    → new ≡ g ++ rows (length entries) (part_of Pieces.Last entries) → new ≡ old ++ step_list f
whole names f entries are old a b c d e g new ea eb ec ed ee eg en =
    let w : ℕ = width f in
    let p1 : List Clause = part_of Pieces.Gate entries in
    let p2 : List Clause = part_of Pieces.NextGate entries in
    let p3 : List Clause = part_of Pieces.Next entries in
    let p4 : List Clause = part_of Pieces.Yesterday entries in
    let p5 : List Clause = part_of Pieces.Start entries in
    let p6 : List Clause = part_of Pieces.Last entries in
    let r : List Clause = root_clauses f in
    let fa = subst (λ n. a ≡ old ++ rows n p1) are.long ea in
    let fb = subst (λ n. b ≡ a ++ rows n p2) are.long eb in
    let fc = subst (λ n. c ≡ b ++ rows n p3) are.long ec in
    let fd = subst (λ n. d ≡ c ++ rows n p4) are.long ed in
    let fg = subst (λ n. g ≡ e ++ rows n p5) are.long eg in
    let fn = subst (λ n. new ≡ g ++ rows n p6) are.long en in
    list_done f (p1 ++ (p2 ++ ((p3 ++ p4) ++ ((r ++ p5) ++ p6)))) old new (all_parts names f entries are)
    (more w old a new p1 (p2 ++ ((p3 ++ p4) ++ ((r ++ p5) ++ p6))) fa
    (more w a b new p2 ((p3 ++ p4) ++ ((r ++ p5) ++ p6)) fb
    (more w b d new (p3 ++ p4) ((r ++ p5) ++ p6) (more w b c d p3 p4 fc fd)
    (more w d g new (r ++ p5) p6 (more w d e g r p5 ee fg) fn))))
