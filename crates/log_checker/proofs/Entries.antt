-- Lines that are stored ascending, some of them marked.
use Rattle.std.proofs.Common.{◌≡◌, ℕ, zero, suc, ◌+◌, ◌-◌, ◌<◌, ◌≤◌, ◌==◌, Bool, true, false, not, cond, ◌||◌, inl, inr, List, ◌∷◌, ◌++◌, length, get_or, []}
use Rattle.std.proofs.Common.{drop, map, set, filter, All, Some, None, refl, sym, ap, ◌∙◌, subst, arith}
use Rattle.std.proofs.lemmas.Bool.{cond-false, cond-true, cases_order, cases_eq, eq-eqb, ne_eqb}
use Rattle.std.proofs.lemmas.List.{length-set, length_push, map-append, length-map}
use Rattle.std.proofs.lemmas.List.Elements.{All-push, All-filter, All-weaker, All-head, All-tail, All-set, All-get_or, filter-append}
use Rattle.cnf_base.specs.declared.literal.Literal.{Literal}
use Rattle.log_checker.specs.Judging.{LiveLine, found, is_named, no_line}
use Rattle.log_checker.specs.Kept.{KeptValue, without, line_of, live_of, blank, number_at, Ascends, AreOthers, IsKept}
use Rattle.log_checker.specs.declared.kept.Entry.{Entry}

-- those behind are greater
above : (low : ℕ) (es : List Entry) → Ascends low es → (i : ℕ) → i < length es → low < number_at es i
above low [] up i below = absurd (omega (arith, below))
above low (e ∷ es) up zero below = up.0
above low (e ∷ es) up (suc i) below = omega (arith, up.0, above e.number es up.1 i (omega (arith, below)))

pub ascends : (low : ℕ) (es : List Entry) → Ascends low es → (i j : ℕ) → i < j → j < length es → number_at es i < number_at es j
ascends low [] up i j less below = absurd (omega (arith, below))
ascends low (e ∷ es) up i zero less below = absurd (omega (arith, less))
ascends low (e ∷ es) up zero (suc j) less below = above e.number es up.1 j (omega (arith, below))
ascends low (e ∷ es) up (suc i) (suc j) less below = ascends e.number es up.1 i j (omega (arith, less)) (omega (arith, below))

lower : (low high : ℕ) (es : List Entry) → low ≤ high → Ascends high es → Ascends low es
lower low high [] less up = up
lower low high (e ∷ es) less up = (omega (arith, less, up.0), up.1)

ascends_push : (low : ℕ) (es : List Entry) (e : Entry) → low < e.number → All (λ x. x.number < e.number) es → Ascends low es → Ascends low (es ++ e ∷ [])
ascends_push low [] e less all up = (less, tt)
ascends_push low (x ∷ es) e less all up =
    (up.0, ascends_push x.number es e (All-head (λ (y : Entry). y.number < e.number) x es all) (All-tail (λ (y : Entry). y.number < e.number) x es all) up.1)

ascends_filter : (p : Entry → Bool) (low : ℕ) (es : List Entry) → Ascends low es → Ascends low (filter p es)
ascends_filter p low [] up = up
ascends_filter p low (e ∷ es) up = go (p e) (ascends_filter p e.number es up.1)
  where
    go : (b : Bool) → Ascends e.number (filter p es) → Ascends low (cond b (e ∷ filter p es) (filter p es))
    go true rest = (up.0, rest)
    go false rest = lower low e.number (filter p es) (omega (arith, up.0)) rest

-- an entry is marked
abbrev pub marked : Entry → Entry
marked e = record { number = e.number; literals = e.literals; live = false }

ascends_mark : (low : ℕ) (es : List Entry) (i : ℕ) → i < length es → Ascends low es → Ascends low (set es i (marked (get_or es i blank)))
ascends_mark low [] i below up = absurd (omega (arith, below))
ascends_mark low (e ∷ es) zero below up = up
ascends_mark low (e ∷ es) (suc i) below up = (up.0, ascends_mark e.number es i (omega (arith, below)) up.1)

true_false : true ≡ false → ⊥
true_false e = cc

behind : (e : Entry) (es : List Entry) (n : ℕ) → AreOthers (e ∷ es) n → AreOthers es n
behind e es n others i below at = others (suc i) (omega (arith, below)) at

pub found_none : (es : List Entry) (n : ℕ) → AreOthers es n → found (live_of es) n ≡ None
found_none [] n others = refl
found_none (e ∷ es) n others = go e.live refl (found_none es n (behind e es n others))
  where
    go : (b : Bool) → e.live ≡ b → found (live_of es) n ≡ None → found (map line_of (cond b (e ∷ filter (λ x. x.live) es) (filter (λ x. x.live) es))) n ≡ None
    go true is rest =
        cond-false (e.number == n) (Some e.literals) (found (live_of es) n) (ne_eqb e.number n (λ at. true_false (sym is ∙ others 0 (omega arith) at))) ∙ rest
    go false is rest = rest

pub found_some : (es : List Entry) (n i : ℕ) → i < length es → number_at es i ≡ n → (get_or es i blank).live ≡ true → ((j : ℕ) → j < i → number_at es j < n)
    → found (live_of es) n ≡ Some (get_or es i blank).literals
found_some [] n i below at is less = absurd (omega (arith, below))
found_some (e ∷ es) n zero below at is less =
    ap (λ b. found (map line_of (cond b (e ∷ filter (λ x. x.live) es) (filter (λ x. x.live) es))) n) is
    ∙ cond-true (e.number == n) (Some e.literals) (found (live_of es) n) (eq-eqb e.number n at)
found_some (e ∷ es) n (suc i) below at is less = go e.live (found_some es n i (omega (arith, below)) at is (λ j low. less (suc j) (omega (arith, low))))
  where
    go : (b : Bool) → found (live_of es) n ≡ Some (get_or es i blank).literals
        → found (map line_of (cond b (e ∷ filter (λ x. x.live) es) (filter (λ x. x.live) es))) n ≡ Some (get_or es i blank).literals
    go true rest =
        cond-false (e.number == n) (Some e.literals) (found (live_of es) n) (ne_eqb e.number n (λ same. omega (arith, same, less 0 (omega arith)))) ∙ rest
    go false rest = rest

pub others_there : (es : List Entry) (n place : ℕ) → Ascends 0 es → place < length es → ((i : ℕ) → i < place → number_at es i < n)
    → ((i : ℕ) → place ≤ i → i < length es → n ≤ number_at es i)
    → (number_at es place ≡ n → (get_or es place blank).live ≡ false) → AreOthers es n
others_there es n place up low less more here i below at = elim (cases_order i place) [
  | inl same ↦ subst (λ k. (get_or es k blank).live ≡ false) (sym same) (here (ap (number_at es) (sym same) ∙ at))
  | inr (inl before) ↦ absurd (omega (arith, at, less i before))
  | inr (inr behind') ↦ absurd (omega (arith, at, more place (omega arith) low, ascends 0 es up place i behind' below))
]

-- lines with other numbers stay
not_named : (n : ℕ) (l : LiveLine) → ¬ (l.number ≡ n) → is_named (n ∷ []) l ≡ false
not_named n l other = ap (λ b. b || false) (ne_eqb n l.number (λ e. other (sym e)))

is_named_itself : (n : ℕ) (l : LiveLine) → l.number ≡ n → is_named (n ∷ []) l ≡ true
is_named_itself n l same = ap (λ b. b || false) (eq-eqb n l.number (sym same))

pub kept_others : (es : List Entry) (n : ℕ) → AreOthers es n → filter (λ l. not (is_named (n ∷ []) l)) (live_of es) ≡ live_of es
kept_others [] n others = refl
kept_others (e ∷ es) n others = go e.live refl (kept_others es n (behind e es n others))
  where
    go : (b : Bool) → e.live ≡ b → filter (λ l. not (is_named (n ∷ []) l)) (live_of es) ≡ live_of es → filter (λ l. not (is_named (n ∷ []) l)) (map line_of
        (cond b (e ∷ filter (λ x. x.live) es) (filter (λ x. x.live) es))) ≡ map line_of (cond b (e ∷ filter (λ x. x.live) es) (filter (λ x. x.live) es))
    go true is rest = cond-true (not (is_named (n ∷ []) (line_of e))) (line_of e ∷ filter (λ l. not (is_named (n ∷ []) l)) (live_of es))
        (filter (λ l. not (is_named (n ∷ []) l)) (live_of es)) (ap not (not_named n (line_of e) (λ at. true_false (sym is ∙ others 0 (omega arith) at))))
        ∙ ap (λ ls. line_of e ∷ ls) rest
    go false is rest = rest

-- a line is marked
pub mark_is : (low : ℕ) (es : List Entry) (n i : ℕ) → Ascends low es → i < length es → number_at es i ≡ n → (get_or es i blank).live ≡ true
    → (live_of (set es i (marked (get_or es i blank))) ≡ filter (λ l. not (is_named (n ∷ []) l)) (live_of es))
    × (suc (length (live_of (set es i (marked (get_or es i blank))))) ≡ length (live_of es))
mark_is low [] n i up below at is = absurd (omega (arith, below))
mark_is low (e ∷ es) n zero up below at is = (
  sym (ap (λ b. filter keeps (map line_of (cond b (e ∷ filter (λ x. x.live) es) (filter (λ x. x.live) es)))) is
      ∙ cond-false (keeps (line_of e)) (line_of e ∷ filter keeps (live_of es)) (filter keeps (live_of es)) (ap not (is_named_itself n (line_of e) at))
      ∙ kept_others es n others),
  ap (λ b. length (map line_of (cond b (e ∷ filter (λ x. x.live) es) (filter (λ x. x.live) es)))) (sym is),
)
  where
    keeps : LiveLine → Bool
    keeps l = not (is_named (n ∷ []) l)

    others : AreOthers es n
    others = λ j low' same. absurd (omega (arith, at, same, above e.number es up.1 j low'))
mark_is low (e ∷ es) n (suc i) up below at is = go e.live (mark_is e.number es n i up.1 (omega (arith, below)) at is)
  where
    less : e.number < n
    less = omega (arith, at, above e.number es up.1 i (omega (arith, below)))

    go : (b : Bool) → (live_of (set es i (marked (get_or es i blank))) ≡ filter (λ l. not (is_named (n ∷ []) l)) (live_of es))
        × (suc (length (live_of (set es i (marked (get_or es i blank))))) ≡ length (live_of es)) → (map line_of
        (cond b (e ∷ filter (λ x. x.live) (set es i (marked (get_or es i blank)))) (filter (λ x. x.live) (set es i (marked (get_or es i blank)))))
        ≡ filter (λ l. not (is_named (n ∷ []) l)) (map line_of (cond b (e ∷ filter (λ x. x.live) es) (filter (λ x. x.live) es))))
        × (suc (length (map line_of
        (cond b (e ∷ filter (λ x. x.live) (set es i (marked (get_or es i blank)))) (filter (λ x. x.live) (set es i (marked (get_or es i blank)))))))
        ≡ length (map line_of (cond b (e ∷ filter (λ x. x.live) es) (filter (λ x. x.live) es))))
    go true rest = (
      ap (λ ls. line_of e ∷ ls) rest.0
          ∙ sym (cond-true (not (is_named (n ∷ []) (line_of e))) (line_of e ∷ filter (λ l. not (is_named (n ∷ []) l)) (live_of es))
          (filter (λ l. not (is_named (n ∷ []) l)) (live_of es)) (ap not (not_named n (line_of e) (λ same. omega (arith, same, less))))),
      ap suc rest.1,
    )
    go false rest = rest

-- those that are marked go
live_twice : (es : List Entry) → filter (λ e. e.live) (filter (λ e. e.live) es) ≡ filter (λ e. e.live) es
live_twice [] = refl
live_twice (e ∷ es) = go e.live refl (live_twice es)
  where
    go : (b : Bool) → e.live ≡ b → filter (λ x. x.live) (filter (λ x. x.live) es) ≡ filter (λ x. x.live) es
        → filter (λ x. x.live) (cond b (e ∷ filter (λ x. x.live) es) (filter (λ x. x.live) es)) ≡ cond b (e ∷ filter (λ x. x.live) es) (filter (λ x. x.live) es)
    go true is rest =
        cond-true e.live (e ∷ filter (λ x. x.live) (filter (λ x. x.live) es)) (filter (λ x. x.live) (filter (λ x. x.live) es)) is ∙ ap (λ xs. e ∷ xs) rest
    go false is rest = rest

pub compacted : (lines : ℕ) (es : List Entry) (dead : ℕ) → IsKept lines es dead
    → (live_of (filter (λ e. e.live) es) ≡ live_of es) × IsKept lines (filter (λ e. e.live) es) 0
compacted lines es dead is = (
  ap (map line_of) (live_twice es),
  record {
    ascends = ascends_filter (λ e. e.live) 0 es is.ascends;
    known = All-filter (λ e. e.live) (λ e. e.number ≤ lines) es is.known;
    count = omega (arith, ap (λ xs. length (map line_of xs)) (live_twice es), length-map (filter (λ e. e.live) es) line_of);
  },
)

-- a line is put behind
pub live_push : (es : List Entry) (n : ℕ) (literals : List Literal)
    → live_of (es ++ record { number = n; literals = literals; live = true } ∷ []) ≡ live_of es ++ record { number = n; literals = literals } ∷ []
live_push es n literals =
    let e : Entry = record { number = n; literals = literals; live = true } in
    ap (map line_of) (filter-append (λ (x : Entry). x.live) es (e ∷ [])) ∙ map-append line_of (filter (λ (x : Entry). x.live) es) (e ∷ [])

pub kept_push : (lines : ℕ) (es : List Entry) (dead : ℕ) (literals : List Literal) → IsKept lines es dead
    → IsKept (lines + 1) (es ++ record { number = lines + 1; literals = literals; live = true } ∷ []) dead
kept_push lines es dead literals is =
    let e : Entry = record { number = lines + 1; literals = literals; live = true } in record {
      ascends = ascends_push 0 es e (omega arith)
          (All-weaker (λ (x : Entry). x.number ≤ lines) (λ (x : Entry). x.number < lines + 1) (λ x h. omega (arith, h)) es is.known) is.ascends;
      known = All-push (λ (x : Entry). x.number ≤ lines + 1) es e
          (All-weaker (λ (x : Entry). x.number ≤ lines) (λ (x : Entry). x.number ≤ lines + 1) (λ x h. omega (arith, h)) es is.known) (omega arith);
      count = omega (arith, is.count, ap length (live_push es (lines + 1) literals), length_push (live_of es) (line_of e), length_push es e);
    }

pub kept_mark : (lines : ℕ) (es : List Entry) (dead n i : ℕ) → IsKept lines es dead → i < length es
    → number_at es i ≡ n → (get_or es i blank).live ≡ true → IsKept lines (set es i (marked (get_or es i blank))) (dead + 1)
kept_mark lines es dead n i is below at live = record {
  ascends = ascends_mark 0 es i below is.ascends;
  known = All-set' es i below is.known;
  count = omega (arith, is.count, (mark_is 0 es n i is.ascends below at live).1, length-set es i (marked (get_or es i blank)));
}
  where
    All-set' : (xs : List Entry) (k : ℕ) → k < length xs → All (λ e. e.number ≤ lines) xs → All (λ e. e.number ≤ lines) (set xs k (marked (get_or xs k blank)))
    All-set' xs k low all =
        All-set (λ (e : Entry). e.number ≤ lines) xs k (marked (get_or xs k blank)) (All-get_or (λ (e : Entry). e.number ≤ lines) xs k blank low all) all

-- numbers go one after another
pub without_more : (k : KeptValue) (n : ℕ) (ns : List ℕ) → without (without k (n ∷ [])) ns ≡ without k (n ∷ ns)
without_more k n ns = ap (λ ls. let v : KeptValue = record { lines = k.lines; live = ls } in v) (go k.live)
  where
    go : (ls : List LiveLine) → filter (λ l. not (is_named ns l)) (filter (λ l. not (is_named (n ∷ []) l)) ls) ≡ filter (λ l. not (is_named (n ∷ ns) l)) ls
    go [] = refl
    go (l ∷ ls) = step (n == l.number) (go ls)
      where
        step : (a : Bool) → filter (λ x. not (is_named ns x)) (filter (λ x. not (is_named (n ∷ []) x)) ls) ≡ filter (λ x. not (is_named (n ∷ ns) x)) ls
            → filter (λ x. not (is_named ns x))
            (cond (not (a || false)) (l ∷ filter (λ x. not (is_named (n ∷ []) x)) ls) (filter (λ x. not (is_named (n ∷ []) x)) ls)) ≡ cond
            (not (a || is_named ns l)) (l ∷ filter (λ x. not (is_named (n ∷ ns) x)) ls) (filter (λ x. not (is_named (n ∷ ns) x)) ls)
        step true rest = rest
        step false rest = ap (λ xs. cond (not (is_named ns l)) (l ∷ xs) xs) rest

pub without_none : (k : KeptValue) → without k [] ≡ k
without_none k = ap (λ ls. let v : KeptValue = record { lines = k.lines; live = ls } in v) (go k.live)
  where
    go : (ls : List LiveLine) → filter (λ l. not (is_named [] l)) ls ≡ ls
    go [] = refl
    go (l ∷ ls) = ap (λ xs. l ∷ xs) (go ls)

-- the live line at a place stands first among those that are left
pub record IsLeft (es : List Entry) (place index left : ℕ) : Type 0 where
  pub low : left < length (live_of (drop index es))
  pub same : get_or (live_of (drop index es)) left no_line ≡ get_or (live_of es) place no_line

drop_at : (es : List Entry) (i : ℕ) → i < length es → drop i es ≡ get_or es i blank ∷ drop (i + 1) es
drop_at [] i below = absurd (omega (arith, below))
drop_at (e ∷ es) zero below = refl
drop_at (e ∷ es) (suc i) below = drop_at es i (omega (arith, below)) ∙ ap (λ k. get_or es i blank ∷ drop k es) refl ∙ later
  where
    later : get_or es i blank ∷ drop (i + 1) es ≡ get_or es i blank ∷ drop (suc i + 1) (e ∷ es)
    later = let f : suc i + 1 ≡ suc (i + 1) = omega arith in ap (λ k. get_or es i blank ∷ drop k (e ∷ es)) (sym f)

split : (es : List Entry) (i : ℕ) (b : Bool) → i < length es → (get_or es i blank).live ≡ b
    → live_of (drop i es) ≡ map line_of (cond b (get_or es i blank ∷ filter (λ x. x.live) (drop (i + 1) es)) (filter (λ x. x.live) (drop (i + 1) es)))
split es i b below is = ap live_of (drop_at es i below)
    ∙ ap (λ c. map line_of (cond c (get_or es i blank ∷ filter (λ x. x.live) (drop (i + 1) es)) (filter (λ x. x.live) (drop (i + 1) es)))) is

-- an element is read with any default
pub any_default : (es : List Entry) (i : ℕ) (d e : Entry) → i < length es → get_or es i d ≡ get_or es i e
any_default [] i d e below = absurd (omega (arith, below))
any_default (x ∷ es) zero d e below = refl
any_default (x ∷ es) (suc i) d e below = any_default es i d e (omega (arith, below))

pub read_at : (es : List Entry) (i : ℕ) (e : Entry) → i < length es → e ≡ get_or es i e → e ≡ get_or es i blank
read_at es i e below is = is ∙ any_default es i e blank below

-- a range is halved
pub half_low : (es : List Entry) (n middle : ℕ) (e : Entry) → Ascends 0 es → middle < length es → e ≡ get_or es middle e → e.number < n → (i : ℕ)
    → i < middle + 1 → number_at es i < n
half_low es n middle e up below is less i low =
    let at : e.number ≡ number_at es middle = ap (λ (x : Entry). x.number) (read_at es middle e below is) in
    elim (cases_eq i middle) [
      | inl same ↦ subst (λ k. number_at es k < n) (sym same) (omega (arith, at, less))
      | inr other ↦ omega (arith, at, less, ascends 0 es up i middle (omega (arith, low, other)) below)
    ]

pub half_high : (es : List Entry) (n middle : ℕ) (e : Entry) → Ascends 0 es → middle < length es → e ≡ get_or es middle e → n ≤ e.number → (i : ℕ)
    → middle ≤ i → i < length es → n ≤ number_at es i
half_high es n middle e up below is more i low inside =
    let at : e.number ≡ number_at es middle = ap (λ (x : Entry). x.number) (read_at es middle e below is) in
    elim (cases_eq i middle) [
      | inl same ↦ subst (λ k. n ≤ number_at es k) (sym same) (omega (arith, at, more))
      | inr other ↦ omega (arith, at, more, ascends 0 es up middle i (omega (arith, low, other)) inside)
    ]

-- numbers are as far apart as their places, or farther
apart : (es : List Entry) → Ascends 0 es → (i k : ℕ) → i + k < length es → number_at es i + k ≤ number_at es (i + k)
apart es up i zero low = let e : i + 0 ≡ i = omega arith in omega (arith, ap (number_at es) e)
apart es up i (suc k) low =
    omega (arith, apart es up i k (omega (arith, low)), ascends 0 es up (i + k) (i + suc k) (omega arith) low)

-- the first and the last number, and what lies between
pub behind_first : (es : List Entry) (n first i : ℕ) → Ascends 0 es → i < length es → first ≡ number_at es 0 → n ≤ first + i → n ≤ number_at es i
behind_first es n first i up low is near =
    let there : 0 + i ≡ i = omega arith in
    omega (arith, apart es up 0 i (omega (arith, low)), ap (number_at es) there, is, near)

pub before_last : (es : List Entry) (n last i : ℕ) → Ascends 0 es → i < length es → last ≡ number_at es (length es - 1) → last < n + (length es - 1 - i)
    → number_at es i < n
before_last es n last i up low is far =
    let there : i + (length es - 1 - i) ≡ length es - 1 = omega (arith, low) in
    omega (arith, apart es up i (length es - 1 - i) (omega (arith, low)), ap (number_at es) there, is, far)

pub first_last : (es : List Entry) (first last : ℕ) → Ascends 0 es → 0 < length es → first ≡ number_at es 0 → last ≡ number_at es (length es - 1)
    → first + (length es - 1) ≤ last
first_last es first last up some a b =
    let there : 0 + (length es - 1) ≡ length es - 1 = omega arith in
    omega (arith, apart es up 0 (length es - 1) (omega (arith, some)), ap (number_at es) there, a, b)
