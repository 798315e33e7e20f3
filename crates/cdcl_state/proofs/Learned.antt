-- The state after a learnt clause was attached and its first literal assigned.
use Rattle.std.proofs.Common.{◌≡◌, ℕ, ◌<◌, ◌≤◌, ◌-◌, ◌⊎◌, List, [], ◌∷◌, ◌++◌, Bool, Option, Some, take, map, All, AllPairs, length, get_or, sym, ap, ◌∙◌}
use Rattle.std.proofs.Common.{subst, arith, length-take-le}
use Rattle.std.proofs.lemmas.List.{length-map, get_or-map, length_push}
use Rattle.std.proofs.lemmas.List.Elements.{All-contains_itself}
use Rattle.cnf_base.specs.declared.literal.Literal.{Literal}
use Rattle.cnf_base.specs.declared.literal.Hint.TheVariants.{Line}
use Rattle.cnf_base.specs.Literal.{opposite}
use Rattle.cnf_base.specs.Known.{AreKnown}
use Rattle.clause_log.specs.LogValue.{LogValue}
use Rattle.cdcl_trail.specs.Trail.{AreValues, IsTrail, literal_at, IsInside, IsDecision}
use Rattle.cdcl_state.specs.StateValue.{StateValue, IsBack, MayStand}
use Rattle.cdcl_state.specs.Turns.{IsTarget, IsAsserting}
use Rattle.cdcl_watches.specs.Watching.{AreApart, WatchValue, blank}
use Rattle.cdcl_trail.specs.Assigned.{AssignedValue}
use Rattle.cdcl_propagate.specs.Lasting.{IsLasting}
use Rattle.cdcl_state.specs.State.{IsNamed, Parts, IsState}
use Rattle.cdcl_trail.specs.declared.assigned.TrailEntry.{TrailEntry}
use Rattle.cdcl_trail.proofs.Standing.{places_apart}
use Rattle.cdcl_state.proofs.Jump.{jump_stands}
use Rattle.cdcl_trail.proofs.Levels.{level_at}
use Rattle.cdcl_state.proofs.States.{seen, state_back, back_of, state_pushed}
use Rattle.cdcl_state.proofs.Attach.{IsMore, trail_more, state_long}
use Rattle.cdcl_state.proofs.Learning.{target_below, second_kept, learnt_lasting, state_raise}

-- the literals of a learnt clause stand there once
pub learnt_apart : (values : List (Option Bool)) (trail : List TrailEntry) (clause : List Literal) (places : List ℕ) → AreValues values trail
    → clause ≡ map (λ p. opposite (literal_at trail p)) places → All (IsInside trail) places → AllPairs (λ p q. q < p) places → AreApart clause
learnt_apart values trail clause places are is inside falling i j d earlier below same =
    let f : ℕ → Literal = λ p. opposite (literal_at trail p) in
    let len = ap length is ∙ length-map places f in
    let j_low : j < length places = omega (arith, below, len) in
    let i_low : i < length places = omega (arith, j_low) in
    let at : (k : ℕ) → k < length places → get_or clause k d ≡ f (get_or places k 0) = λ k low. ap (λ c. get_or c k d) is ∙ get_or-map f places k 0 d low in
    places_apart values trail are (get_or places i 0) (get_or places j 0) (inside i 0 i_low) (inside j 0 j_low)
    (λ e. omega (arith, e, falling i j 0 earlier j_low))
    (ap (λ (l : Literal). l.letter.0) (sym (at i i_low) ∙ same ∙ at j j_low))

-- the state went back to the trail b, for a clause that was learnt there and is the log's line
pub record IsCut (s : Parts) (b : AssignedValue) (next : LogValue) (m n level still solid line : ℕ) (clause : List Literal) (places : List ℕ)
    (u : Literal) : Type 0 where
  pub state : IsState s
  pub are : AreValues s.assigned.values s.assigned.trail
  pub more : IsMore s.log next (Line line) clause
  pub known_inputs : AreKnown s.letters next.inputs
  pub known_lines : AreKnown s.letters next.lines
  pub trail_is : b.trail ≡ take n s.assigned.trail
  pub values_is : length b.values ≡ length s.assigned.values
  pub fits : n ≤ length s.assigned.trail
  pub low : 0 < n → level_at s.assigned.trail (n - 1) ≤ level
  pub high : n < length s.assigned.trail → level < level_at s.assigned.trail n
  pub m_lasting : m ≤ s.lasting
  pub m_n : m ≤ n
  pub units_are : ((s.units_trail ≤ n) × (still ≡ s.units_done) × (solid ≡ s.units_trail)) ⊎ ((still ≡ 0) × (solid ≡ 0))
  pub clause_is : clause ≡ map (λ p. opposite (literal_at s.assigned.trail p)) places
  pub inside : All (IsInside s.assigned.trail) places
  pub falling : AllPairs (λ p q. q < p) places
  pub asserting : IsAsserting s.assigned.trail places
  pub target : IsTarget s.assigned.trail places level
  pub u_is : u ≡ get_or clause 0 u

module _ {s : Parts} {b : AssignedValue} {next : LogValue} {m n level still solid line : ℕ} {clause : List Literal} {places : List ℕ} {u : Literal}
    (cut : IsCut s b next m n level still solid line clause places u) where
  -- the trail before and behind, under the log that has the line
  abbrev old : StateValue
  old = seen (record s { log = next })

  abbrev new : StateValue
  new = seen (record s { assigned = b; log = next })

  is_trail : IsTrail next.inputs next.lines s.assigned.trail
  is_trail = trail_more s.log next (Line line) clause cut.more s.assigned.trail cut.state.ready.is_trail

  back : IsBack old new level
  back = back_of s.letters s.assigned b next s.all_lines n level is_trail cut.trail_is cut.fits cut.low cut.high

  pub learned_stands : MayStand (seen (record s { assigned = b; log = next })) (record { literal = u; level = level; reason = Some (Line line) })
      × IsDecision s.assigned.trail (length b.trail)
  learned_stands = jump_stands s.assigned.values old new level line clause places u cut.are is_trail back cut.target cut.clause_is cut.inside cut.falling
      cut.asserting.some (target_below s.assigned.trail places level cut.asserting cut.target) cut.more.here cut.u_is

  gone_back : IsState (record s { assigned = b; propagated = m; lasting = m; units_done = still; units_trail = solid })
  gone_back = state_back b m n level still solid cut.state cut.trail_is cut.values_is cut.fits
      (back_of s.letters s.assigned b s.log s.all_lines n level cut.state.ready.is_trail cut.trail_is cut.fits cut.low cut.high)
      cut.m_lasting cut.m_n cut.units_are

  module _ {v : WatchValue} (is_named : IsNamed s.watches v clause (Line line)) (long : 2 ≤ length clause) where
    -- before the first literal is assigned
    pub learned_cut : IsState (record s { assigned = b; watches = v; log = next; propagated = 0; lasting = 0; units_done = still; units_trail = solid })
    learned_cut =
        state_long gone_back cut.more cut.known_inputs cut.known_lines is_named
        (record { there = All-contains_itself clause; back = All-contains_itself clause }) long
        (learnt_apart s.assigned.values s.assigned.trail clause places cut.are cut.clause_is cut.inside cut.falling)
        (record { propagated_falls = omega (arith); lasting_falls = omega (arith); low = omega (arith); free = λ k below. absurd (omega (arith, below)) })

    -- and after
    pub learned : (d : AssignedValue) → AreValues d.values d.trail → length d.values ≡ length b.values
        → d.trail ≡ b.trail ++ record { literal = u; level = level; reason = Some (Line line) } ∷ [] → u ≡ get_or clause 0 blank
        → IsState (record s { assigned = d; watches = v; log = next; propagated = m; lasting = m; units_done = still; units_trail = solid })
    learned d told same is first =
        let e : TrailEntry = record { literal = u; level = level; reason = Some (Line line) } in
        let pushed = state_pushed d e learned_cut same learned_stands.0.stands (λ free. cc) is in
        let second = second_kept old new level clause places is_trail back cut.target cut.clause_is cut.inside long in
        let len : length b.trail ≡ n = ap length cut.trail_is ∙ length-take-le n s.assigned.trail cut.fits in
        let m_low : m ≤ length b.trail = omega (arith, len, cut.m_n) in
        state_raise m pushed (omega (arith, m_low, ap length is, length_push b.trail e))
        (subst (λ (x : WatchValue). IsLasting x.clauses d.trail m) (sym is_named.is)
        (subst (λ t. IsLasting (s.watches.clauses ++ clause ∷ []) t m) (sym is)
        (learnt_lasting d.values s.watches.clauses clause b.trail e m (subst (AreValues d.values) is told) m_low gone_back.is_lasting (omega (arith, long))
        first second)))
