-- Each piece of work keeps what a walk is.
use Rattle.std.proofs.Common.{◌≡◌, ℕ, ◌<◌, ◌≤◌, ◌⊎◌, inl, inr, Bool, true, false, refl, sym, subst, ◌∙◌, ap, arith, List, [], ◌∷◌, ◌++◌, length, map, Contains}
use Rattle.std.proofs.Common.{if◌then◌else◌}
use Rattle.ltl_syntax.specs.Formula.{Atom, Letter, Unary, Binary}
use Rattle.ltl_syntax.specs.declared.node.UnaryOp.{UnaryOp}
use Rattle.ltl_syntax.specs.declared.node.BinaryOp.{BinaryOp}
use Rattle.ltl_syntax.specs.Table.{Table, tree_at}
use Rattle.ltl_syntax.specs.Size.{sizes}
use Rattle.ltl_closure.specs.Norm.{Norm, NConst, NLetter, NNotLetter, norm, pos_of}
use Rattle.ltl_closure.specs.Closure.{closure, walk, with_new, added, holds_entry}
use Rattle.ltl_closure.specs.Entries.{place_in, AreEntries}
use Rattle.ltl_closure.specs.Keys.{asking, joined, operands, own, IsKey, HasOperands, AreShared, AreDistinct, Enters}
use Rattle.ltl_closure.specs.Plan.{Progress, reached, run, AreReady, TopIs, unary_plan, binary_plan, memo_at, HasRoom, IsKnown, IsWalking}
use Rattle.ltl_closure.specs.declared.entry.Entry.{Entry}
use Rattle.ltl_closure.specs.declared.key.Request.{Request}
use Rattle.ltl_closure.specs.declared.key.Request.TheVariants as asks
use Rattle.ltl_closure.specs.declared.key.Connective.{Connective}
use Rattle.ltl_closure.specs.declared.key.Connective.TheVariants as joins
use Rattle.ltl_closure.specs.declared.key.Key.{Key}
use Rattle.ltl_closure.specs.declared.key.Key.TheVariants as keys
use Rattle.ltl_closure.specs.declared.plan.Work.{Work}
use Rattle.ltl_closure.specs.declared.plan.Work.TheVariants as works
use Rattle.ltl_closure.specs.declared.memo.Memo.{Memo}
use Rattle.ltl_closure.proofs.Lists.{Contains-nil, Contains-cons_cases, Contains-here, Contains-there}
use Rattle.ltl_closure.proofs.Entries.{with_new_keeps, one_of}
use Rattle.ltl_closure.proofs.Again.{walk_again}
use Rattle.ltl_closure.proofs.Places.{place_left}
use Rattle.ltl_closure.proofs.Plans.{Makes, run-append, ready-append, unary_makes, binary_makes}
use Rattle.ltl_closure.proofs.Sharing.{stand_length, stand_at}

-- what is there keeps its number
place_added : (kept : List Norm) (x e : Norm) → Contains kept e → place_in (added kept x) e ≡ place_in kept e
place_added kept x e h = by (holds_entry kept x)
  where
    by : (b : Bool) → place_in (if b then kept else kept ++ x ∷ []) e ≡ place_in kept e
    by true = refl
    by false = place_left kept (x ∷ []) e h

place_with_new : (kept xs : List Norm) (e : Norm) → Contains kept e → place_in (with_new kept xs) e ≡ place_in kept e
place_with_new kept [] e h = refl
place_with_new kept (x ∷ xs) e h = place_with_new (added kept x) xs e (with_new_keeps kept (x ∷ []) e h) ∙ place_added kept x e h

places_with_new : (kept xs vs : List Norm) → ((v : Norm) → Contains vs v → Contains kept v) → map (place_in (with_new kept xs)) vs ≡ map (place_in kept) vs
places_with_new kept xs [] h = refl
places_with_new kept xs (v ∷ vs) h =
    let e = place_with_new kept xs v (h v (Contains-here v vs)) in
    let r = places_with_new kept xs vs (λ w c. h w (Contains-there v vs w c)) in
    cc

known_with_new : (t : Table) (kept xs : List Norm) (memo : Memo) → IsKnown t kept memo → IsKnown t (with_new kept xs) memo
known_with_new t kept xs memo k n s lt = elim (k n s lt) [
  | inl zero ↦ inl zero
  | inr w ↦ inr (with_new_keeps kept xs _ w.0, w.1 ∙ sym (place_with_new kept xs _ w.0))
]

final : Table → ℕ → Progress
final t root = reached (pos_of (tree_at t root)) (record { kept = []; values = [] })

placed : Norm → List Norm → List Norm → Progress
placed g kept values = record { kept = with_new kept (own g); values = g ∷ values }

asking_key : (names : List (List ℕ)) (kept : List Norm) (r : Request) (a : Norm) → IsKey names kept (asking r a) (keys.Asks r (place_in kept a))
asking_key names kept asks.Next a = refl
asking_key names kept other a = refl

asking_operands : (r : Request) (a : Norm) → operands (asking r a) ≡ a ∷ []
asking_operands asks.Next a = refl
asking_operands other a = refl

joined_key : (names : List (List ℕ)) (kept : List Norm) (c : Connective) (a b : Norm)
    → IsKey names kept (joined c a b) (keys.Joins c (place_in kept a) (place_in kept b))
joined_key names kept joins.And a b = refl
joined_key names kept other a b = refl

joined_operands : (c : Connective) (a b : Norm) → operands (joined c a b) ≡ a ∷ b ∷ []
joined_operands joins.And a b = refl
joined_operands other a b = refl

module _ (t : Table) (root : ℕ) (ks : List Key) (xs : List Entry) (memo : Memo) (todo : List Work) where
  -- a normal form is put
  module _ (kept values : List Norm) (g : Norm) (key : Key) (distinct : AreDistinct t.names) (few : sizes t.nodes ≤ 16384)
      (shared : AreShared t.names kept ks xs) (there : (v : Norm) → Contains values v → Contains kept v)
      (room : HasRoom memo (length t.nodes)) (known : IsKnown t kept memo) (has : HasOperands kept g) (is : IsKey t.names kept g key) where
    put_at : (ks' : List Key) (xs' : List Entry) (n : ℕ) (ws : List Work) → Enters ks xs key ks' xs' n
        → AreReady t ws (record { kept = with_new kept (own g); values = g ∷ values })
        → run t ws (record { kept = with_new kept (own g); values = g ∷ values }) ≡ reached (pos_of (tree_at t root)) (record { kept = []; values = [] })
        → IsWalking t root ks' xs' (n ∷ map (place_in kept) values) memo ws
    put_at ks' xs' n ws enters ready ends =
        let e = enters t.names kept g distinct shared has is in record {
          progress = record { kept = with_new kept (own g); values = g ∷ values };
          distinct = distinct;
          shared = e.shared;
          few = few;
          there = λ v c. elim (Contains-cons_cases g values v c) [
            | inl i ↦ subst (Contains (with_new kept (own g))) i e.there
            | inr h ↦ with_new_keeps kept (own g) v (there v h)
          ];
          waiting = let p = e.place in let q = places_with_new kept (own g) values there in cc;
          room = room;
          known = known_with_new t kept (own g) memo known;
          ready = ready;
          ends = ends;
        }

  pub const_at : (b : Bool) (numbers : List ℕ) (ks' : List Key) (xs' : List Entry) (n : ℕ) → IsWalking t root ks xs numbers memo (works.Const b ∷ todo)
      → Enters ks xs (keys.Const b) ks' xs' n → IsWalking t root ks' xs' (n ∷ numbers) memo todo
  const_at b numbers ks' xs' n w enters =
      rw w.waiting (put_at w.progress.kept w.progress.values (NConst b) (keys.Const b) w.distinct w.few w.shared w.there w.room w.known
      (λ d c. absurd (Contains-nil d c)) refl ks' xs' n todo enters w.ready.1 w.ends)

  pub ask_at : (r : Request) (a : ℕ) (rest : List ℕ) (ks' : List Key) (xs' : List Entry) (n : ℕ) → IsWalking t root ks xs (a ∷ rest) memo (works.Ask r ∷ todo)
      → Enters ks xs (keys.Asks r a) ks' xs' n → IsWalking t root ks' xs' (n ∷ rest) memo todo
  ask_at r a rest ks' xs' n w enters = go w.progress.kept w.progress.values w.shared w.there w.waiting w.known w.ready w.ends
    where
      go : (kept values : List Norm) → AreShared t.names kept ks xs → ((v : Norm) → Contains values v → Contains kept v)
          → (a ∷ rest) ≡ map (place_in kept) values → IsKnown t kept memo
          → AreReady t (works.Ask r ∷ todo) (record { kept = kept; values = values })
          → run t (works.Ask r ∷ todo) (record { kept = kept; values = values }) ≡ reached (pos_of (tree_at t root)) (record { kept = []; values = [] })
          → IsWalking t root ks' xs' (n ∷ rest) memo todo
      go kept [] shared there waiting known ready ends = absurd ready.0
      go kept (v ∷ vs) shared there waiting known ready ends =
          let e : a ≡ place_in kept v = cc in
          let l : rest ≡ map (place_in kept) vs = cc in
          rw l (put_at kept vs (asking r v) (keys.Asks r a) w.distinct w.few shared (λ d c. there d (Contains-there v vs d c)) w.room known
          (λ d c. subst (Contains kept) (one_of v d (subst (λ z. Contains z d) (asking_operands r v) c)) (there v (Contains-here v vs)))
          (rw e (asking_key t.names kept r v)) ks' xs' n todo enters ready.1 ends)

  pub join_at : (c : Connective) (b a : ℕ) (rest : List ℕ) (ks' : List Key) (xs' : List Entry) (n : ℕ)
      → IsWalking t root ks xs (b ∷ a ∷ rest) memo (works.Join c ∷ todo) → Enters ks xs (keys.Joins c a b) ks' xs' n
      → IsWalking t root ks' xs' (n ∷ rest) memo todo
  join_at op b a rest ks' xs' n w enters = go w.progress.kept w.progress.values w.shared w.there w.waiting w.known w.ready w.ends
    where
      go : (kept values : List Norm) → AreShared t.names kept ks xs → ((v : Norm) → Contains values v → Contains kept v)
          → (b ∷ a ∷ rest) ≡ map (place_in kept) values → IsKnown t kept memo
          → AreReady t (works.Join op ∷ todo) (record { kept = kept; values = values })
          → run t (works.Join op ∷ todo) (record { kept = kept; values = values }) ≡ reached (pos_of (tree_at t root)) (record { kept = []; values = [] })
          → IsWalking t root ks' xs' (n ∷ rest) memo todo
      go kept [] shared there waiting known ready ends = absurd ready.0
      go kept (v ∷ []) shared there waiting known ready ends = absurd ready.0
      go kept (v ∷ u ∷ vs) shared there waiting known ready ends =
          let e : b ≡ place_in kept v = cc in
          let f : a ≡ place_in kept u = cc in
          let l : rest ≡ map (place_in kept) vs = cc in
          rw l (put_at kept vs (joined op u v) (keys.Joins op a b) w.distinct w.few shared
          (λ d c. there d (Contains-there v (u ∷ vs) d (Contains-there u vs d c))) w.room known
          (λ d c. elim (Contains-cons_cases u (v ∷ []) d (subst (λ z. Contains z d) (joined_operands op u v) c)) [
            | inl i ↦ subst (Contains kept) i (there u (Contains-there v (u ∷ vs) u (Contains-here u vs)))
            | inr i ↦ subst (Contains kept) (one_of v d i) (there v (Contains-here v (u ∷ vs)))
          ])
          (rw (e, f) (joined_key t.names kept op u v)) ks' xs' n todo enters ready.1 ends)

  pub negate_at : (a : ℕ) (rest : List ℕ) (ks' : List Key) (xs' : List Entry) (n : ℕ) → IsWalking t root ks xs (a ∷ rest) memo (works.Negate ∷ todo)
      → Enters ks xs (keys.NotLetter a) ks' xs' n → IsWalking t root ks' xs' (n ∷ rest) memo todo
  negate_at a rest ks' xs' n w enters = go w.progress.kept w.progress.values w.shared w.there w.waiting w.known w.ready w.ends
    where
      go : (kept values : List Norm) → AreShared t.names kept ks xs → ((v : Norm) → Contains values v → Contains kept v)
          → (a ∷ rest) ≡ map (place_in kept) values → IsKnown t kept memo
          → AreReady t (works.Negate ∷ todo) (record { kept = kept; values = values })
          → run t (works.Negate ∷ todo) (record { kept = kept; values = values }) ≡ reached (pos_of (tree_at t root)) (record { kept = []; values = [] })
          → IsWalking t root ks' xs' (n ∷ rest) memo todo
      go kept [] shared there waiting known ready ends = absurd ready.0
      go kept (NLetter p ∷ vs) shared there waiting known ready ends =
          let e : a ≡ place_in kept (NLetter p) = cc in
          let l : rest ≡ map (place_in kept) vs = cc in
          rw l (put_at kept vs (NNotLetter p) (keys.NotLetter a) w.distinct w.few shared (λ d c. there d (Contains-there (NLetter p) vs d c)) w.room known
          (λ d c. subst (Contains kept) (one_of (NLetter p) d c) (there (NLetter p) (Contains-here (NLetter p) vs)))
          (ap keys.NotLetter e) ks' xs' n todo enters ready.1 ends)
      go kept (v ∷ vs) shared there waiting known ready ends = absurd (let e = ready.0.1 in cc)

  pub keep_at : (i : ℕ) (s : Bool) (a : ℕ) (rest : List ℕ) (memo' : Memo) → IsWalking t root ks xs (a ∷ rest) memo (works.Keep i s ∷ todo)
      → HasRoom memo' (length t.nodes)
      → ((n : ℕ) (r : Bool) → (memo_at memo' n r ≡ memo_at memo n r) ⊎ ((n ≡ i) × (r ≡ s) × (memo_at memo' n r ≡ a)))
      → IsWalking t root ks xs (a ∷ rest) memo' todo
  keep_at i s a rest memo' w room changes = record {
    progress = w.progress;
    distinct = w.distinct;
    shared = w.shared;
    few = w.few;
    there = w.there;
    waiting = w.waiting;
    room = room;
    known = known;
    ready = w.ready.1;
    ends = w.ends;
  }
    where
      top : (kept values : List Norm) → TopIs (norm s (tree_at t i)) values → (a ∷ rest) ≡ map (place_in kept) values
          → ((v : Norm) → Contains values v → Contains kept v) → Contains kept (norm s (tree_at t i)) × (a ≡ place_in kept (norm s (tree_at t i)))
      top kept [] is waiting there = absurd is
      top kept (v ∷ vs) is waiting there =
          let e : a ≡ place_in kept v = cc in
          (subst (Contains kept) is (there v (Contains-here v vs)), e ∙ ap (place_in kept) is)

      known : IsKnown t w.progress.kept memo'
      known n r lt = elim (changes n r) [
        | inl same ↦ elim (w.known n r lt) [
          | inl zero ↦ inl (same ∙ zero)
          | inr k ↦ inr (k.0, same ∙ k.1)
        ]
        | inr new ↦
            let k = top w.progress.kept w.progress.values w.ready.0.1 w.waiting w.there in
            inr (rw (new.0, new.1) k.0, new.2 ∙ rw (new.0, new.1) k.1)
      ]

  -- a number that is known stands for the whole walk
  pub visit_known : (i : ℕ) (s : Bool) (numbers : List ℕ) → IsWalking t root ks xs numbers memo (works.Visit i s ∷ todo) → (memo_at memo i s ≡ 0 → ⊥)
      → IsWalking t root ks xs (memo_at memo i s ∷ numbers) memo todo
  visit_known i s numbers w nonzero = elim (w.known i s w.ready.0) [
    | inl zero ↦ absurd (nonzero zero)
    | inr k ↦
        let same : with_new w.progress.kept (walk (norm s (tree_at t i))) ≡ w.progress.kept =
        walk_again w.progress.kept w.shared.closed (norm s (tree_at t i)) k.0 in
        let here : reached (norm s (tree_at t i)) w.progress ≡ record { kept = w.progress.kept; values = norm s (tree_at t i) ∷ w.progress.values } =
        ap (λ kept. let p : Progress = record { kept = kept; values = norm s (tree_at t i) ∷ w.progress.values } in p) same in
        record {
          progress = record { kept = w.progress.kept; values = norm s (tree_at t i) ∷ w.progress.values };
          distinct = w.distinct;
          shared = w.shared;
          few = w.few;
          there = λ v c. elim (Contains-cons_cases (norm s (tree_at t i)) w.progress.values v c) [
            | inl e ↦ subst (Contains w.progress.kept) e k.0
            | inr h ↦ w.there v h
          ];
          waiting = let a = k.1 in let b = w.waiting in cc;
          room = w.room;
          known = w.known;
          ready = rw (← here) w.ready.1;
          ends = rw (← here) w.ends;
        }
  ]

  -- a plan that makes the node's normal form stands for the walk
  planned : (i : ℕ) (s : Bool) (numbers : List ℕ) (plan : List Work) → IsWalking t root ks xs numbers memo (works.Visit i s ∷ todo)
      → Makes t plan (norm s (tree_at t i)) → IsWalking t root ks xs numbers memo (plan ++ works.Keep i s ∷ todo)
  planned i s numbers plan w makes =
      let m = makes w.progress in record {
        progress = w.progress;
        distinct = w.distinct;
        shared = w.shared;
        few = w.few;
        there = w.there;
        waiting = w.waiting;
        room = w.room;
        known = w.known;
        ready = ready-append t plan (works.Keep i s ∷ todo) w.progress m.1 (rw m.0 ((w.ready.0, refl), w.ready.1));
        ends = run-append t plan (works.Keep i s ∷ todo) w.progress ∙ ap (run t (works.Keep i s ∷ todo)) m.0 ∙ w.ends;
      }

  pub visit_unary : (i : ℕ) (s : Bool) (op : UnaryOp) (a : ℕ) (numbers : List ℕ) → IsWalking t root ks xs numbers memo (works.Visit i s ∷ todo)
      → tree_at t i ≡ Unary op (tree_at t a) → a < i → IsWalking t root ks xs numbers memo (unary_plan s op a ++ works.Keep i s ∷ todo)
  visit_unary i s op a numbers w is lt = let n = w.ready.0 in planned i s numbers (unary_plan s op a) w (rw is (unary_makes t s op a (omega arith)))

  pub visit_binary : (i : ℕ) (s : Bool) (op : BinaryOp) (a b : ℕ) (numbers : List ℕ)
      → IsWalking t root ks xs numbers memo (works.Visit i s ∷ todo) → tree_at t i ≡ Binary op (tree_at t a) (tree_at t b)
      → a < i → b < i → IsWalking t root ks xs numbers memo (binary_plan s op a b ++ works.Keep i s ∷ todo)
  visit_binary i s op a b numbers w is la lb = let n = w.ready.0 in
      planned i s numbers (binary_plan s op a b) w (rw is (binary_makes t a b (omega arith) (omega arith) s op))

  -- a constant
  pub visit_const : (i : ℕ) (s b c : Bool) (numbers : List ℕ) (ks' : List Key) (xs' : List Entry) (n : ℕ)
      → IsWalking t root ks xs numbers memo (works.Visit i s ∷ todo) → norm s (tree_at t i) ≡ NConst b → Enters ks xs (keys.Const b) ks' xs' n
      → IsWalking t root ks' xs' (n ∷ numbers) memo todo
  visit_const i s b c numbers ks' xs' n w is enters =
      rw w.waiting (put_at w.progress.kept w.progress.values (NConst b) (keys.Const b) w.distinct w.few w.shared w.there w.room w.known
      (λ d c. absurd (Contains-nil d c)) refl ks' xs' n todo enters (rw is at w.ready.1) (rw is at w.ends))

  -- a letter
  pub visit_letter : (i : ℕ) (p : Atom) (key : Key) (numbers : List ℕ) (ks' : List Key) (xs' : List Entry) (n : ℕ)
      → IsWalking t root ks xs numbers memo (works.Visit i true ∷ todo) → tree_at t i ≡ Letter p → ((kept : List Norm) → IsKey t.names kept (NLetter p) key)
      → Enters ks xs key ks' xs' n → IsWalking t root ks' xs' (n ∷ numbers) memo todo
  visit_letter i p key numbers ks' xs' n w is fits enters =
      rw w.waiting (put_at w.progress.kept w.progress.values (NLetter p) key w.distinct w.few w.shared w.there w.room w.known (λ d c. absurd (Contains-nil d c))
      (fits w.progress.kept) ks' xs' n todo enters (rw is at w.ready.1) (rw is at w.ends))

  pub visit_negated : (i : ℕ) (p : Atom) (key : Key) (numbers : List ℕ) (ks' : List Key) (xs' : List Entry) (n : ℕ)
      → IsWalking t root ks xs numbers memo (works.Visit i false ∷ todo) → tree_at t i ≡ Letter p → ((kept : List Norm) → IsKey t.names kept (NLetter p) key)
      → Enters ks xs key ks' xs' n → IsWalking t root ks' xs' (n ∷ numbers) memo (works.Negate ∷ todo)
  visit_negated i p key numbers ks' xs' n w is fits enters =
      rw w.waiting (put_at w.progress.kept w.progress.values (NLetter p) key w.distinct w.few w.shared w.there w.room w.known (λ d c. absurd (Contains-nil d c))
      (fits w.progress.kept) ks' xs' n (works.Negate ∷ todo) enters ((p, refl), rw is at w.ready.1) (rw is at w.ends))

-- where a walk starts
pub starts : (t : Table) (root : ℕ) (memo : Memo) → AreDistinct t.names → sizes t.nodes ≤ 16384 → root < length t.nodes → HasRoom memo (length t.nodes)
    → ((n : ℕ) (s : Bool) → memo_at memo n s ≡ 0) → IsWalking t root [] [] [] memo (works.Visit root true ∷ [])
starts t root memo distinct few lt room zero = record {
  progress = record { kept = []; values = [] };
  distinct = distinct;
  shared = record { keys = refl; each = tt; closed = λ e d h k. absurd (Contains-nil e h); placed = λ k d lt. absurd (omega arith) };
  few = few;
  there = λ v c. absurd (Contains-nil v c);
  waiting = refl;
  room = room;
  known = λ n s lt. inl (zero n s);
  ready = (lt, tt);
  ends = refl;
}

-- where it ends
pub ended : (t : Table) (root : ℕ) (ks : List Key) (xs : List Entry) (numbers : List ℕ) (memo : Memo) → IsWalking t root ks xs numbers memo []
    → AreEntries t.names (tree_at t root) xs × (numbers ≡ place_in (closure (tree_at t root)) (pos_of (tree_at t root)) ∷ [])
ended t root ks xs numbers memo w =
    let kept : w.progress.kept ≡ closure (tree_at t root) = ap (λ p. let q : Progress = p in q.kept) w.ends in
    let values : w.progress.values ≡ pos_of (tree_at t root) ∷ [] = ap (λ p. let q : Progress = p in q.values) w.ends in
    let shared : AreShared t.names (closure (tree_at t root)) ks xs = subst (λ k. AreShared t.names k ks xs) kept w.shared in (
      record {
        long = stand_length t.names (closure (tree_at t root)) (closure (tree_at t root)) xs shared.each;
        each = λ k lt. stand_at t.names (closure (tree_at t root)) (closure (tree_at t root)) xs k _ _ shared.each lt;
      },
      rw w.waiting (rw (kept, values) refl),
    )
