use Rattle.std.proofs.Common.{◌≡◌, ℕ, ◌<◌, Some, List, map, All, Contains, length, get_or, refl, sym, ap, ◌∙◌, subst, arith}
use Rattle.std.proofs.lemmas.List.{get_or_default}
use Rattle.cnf_base.specs.declared.literal.Literal.{Literal}
use Rattle.cdcl_trail.specs.Trail.{literals_of}
use Rattle.cdcl_trail.specs.Entries.{hint_of}
use Rattle.cdcl_trail.specs.declared.assigned.TrailEntry.{TrailEntry}
use Rattle.cdcl_watches.specs.Watching.{clause_of, blank}
use Rattle.cdcl_watches.specs.Heads.{number_of, ArenaValue}
use Rattle.cdcl_watches.specs.Watchers.{ListWalk, IsWalked, walk_in, walked}
use Rattle.cdcl_watches.proofs.Walks.{number_in, next_standing, next_watched}
use Rattle.cdcl_propagate.specs.Visit.{IsVisiting, IsReplacement, AreFalseFrom, false_at, blank_hint}
use Rattle.cdcl_propagate.specs.Lasting.{IsLasting}
use Rattle.cdcl_propagate.proofs.LastingVisit.{lasting_moved, lasting_grown}
use Rattle.cdcl_propagate.proofs.Faced.{with_arena, faced_walked, faced_lasting, walk_at, kept_passed}
use Rattle.cdcl_propagate.proofs.At.{IsAt, at_true, at_conflict, at_moved, at_letters, at_forced, at_assigned, visit_all, visit_same, same_watch, named_at}
use Rattle.cdcl_propagate.proofs.visit.visit.Goals as goal
use Rattle.cdcl_propagate.proofs.visit.visit.Goals.{After-face, After-get-other, In-Some, After-decode_hint-hint}

pub face-requires-clause-known : goal.face-requires-clause-known
face-requires-clause-known c = next_standing c.requires.walked c.requires.there c.requires.head

pub face-requires-clause-low : goal.face-requires-clause-low
face-requires-clause-low c = (next_watched c.requires.walked c.requires.there c.requires.head).0

pub face-requires-clause-watch : goal.face-requires-clause-watch
face-requires-clause-watch c = (next_watched c.requires.walked c.requires.there c.requires.head).1

-- the walk before the visit, and among the clauses of which one was faced
abbrev before : After-face → ListWalk
before c = walk_in c.args.arena.now c.args.lists.now c.args.falsified c.args.walk.now

abbrev faced : After-face → ListWalk
faced c = with_arena (before c) c.face.new.arena

standing : (c : After-face) → IsWalked (faced c)
standing c = faced_walked c.face.new.arena c.requires.walked c.requires.there c.requires.head c.face.ensures.heads c.face.ensures.faced

head_known : (c : After-face) → Contains c.face.new.arena.heads c.args.head
head_known c = next_standing (standing c) c.requires.there c.requires.head

-- it stands at the clause, which has the false literal second
here : (c : After-face) → IsAt c.args.log.now.inputs c.args.log.now.lines c.args.place c.args.walk.now.kept c.args.assigned.now (walked (faced c))
    (number_in (faced c) c.args.head)
here c = walk_at c.face.new.arena c.requires.walked c.requires.there c.requires.head c.face.ensures.heads c.face.ensures.faced
    c.requires.falsified c.requires.visiting

still_lasting : (c : After-face) (n : ℕ) → IsLasting c.args.arena.now.clauses c.args.assigned.now.trail n
    → IsLasting c.face.new.arena.clauses c.args.assigned.now.trail n
still_lasting c n = faced_lasting c.face.new.arena c.requires.walked c.requires.there c.requires.head c.face.ensures.heads c.face.ensures.faced
    c.args.assigned.now.trail n

pub clause-requires : goal.clause-requires
clause-requires c = head_known (goal.at.clause-requires c).After-face

pub get-other-requires : goal.get-other-requires
get-other-requires c = omega (arith, (here (goal.at.get-other-requires c).After-face).long, ap length c.clause.ensures)

-- the literals of the clause, and the first of them
abbrev row : ArenaValue → ℕ → List Literal
row arena head = clause_of arena.clauses (number_of arena.heads head)

first : (c : After-get-other) → c.get-other.result ≡ get_or (row c.face.new.arena c.args.head) 0 blank
first c = c.get-other.ensures ∙ ap (λ r. get_or r 0 blank) c.clause.ensures

pub holds-requires : goal.holds-requires
holds-requires c =
    let at = here (goal.at.holds-requires c).After-face in
    subst (λ (l : Literal). l.letter.0 < length c.args.assigned.now.values) (sym (first (goal.at.holds-requires c).After-get-other))
    (at_letters at 0 blank (omega (arith, at.long)))

pub keep-requires-clause-walked : goal.keep-requires-clause-walked
keep-requires-clause-walked c = standing (goal.at.keep-requires-clause-walked c).After-face

pub keep-requires-clause-first : goal.keep-requires-clause-first
keep-requires-clause-first c =
    let p = goal.at.keep-requires-clause-first c in
    first p.After-get-other ∙ get_or_default (row c.face.new.arena c.args.head) 0 blank c.get-other.result (omega (arith, (here p.After-face).long))

pub returns-then-holds-clause-kept : goal.returns-then-holds-clause-kept
returns-then-holds-clause-kept c = visit_all c.keep.ensures.same (here (goal.at.returns-then-holds-clause-kept c).After-face).visiting

pub returns-then-holds-clause-found : goal.returns-then-holds-clause-found
returns-then-holds-clause-found c =
    let p = goal.at.returns-then-holds-clause-found c in
    kept_passed (before p.After-face) (walk_in c.face.new.arena c.keep.new.lists c.args.falsified c.keep.new.walk) (walked (faced p.After-face))
    c.keep.ensures.same c.keep.ensures.kept c.keep.ensures.next c.keep.ensures.length
    (at_true (here p.After-face) (first p.After-get-other) (c.holds.ensures.0 c.if-holds.true))

pub returns-then-holds-clause-lasting : goal.returns-then-holds-clause-lasting
returns-then-holds-clause-lasting c = λ n low lasting. still_lasting (goal.at.returns-then-holds-clause-lasting c).After-face n lasting

pub find-requires : goal.find-requires
find-requires c = subst (All (λ l. l.letter.0 < length c.args.assigned.now.values)) (sym c.clause-2.ensures)
    (at_letters (here (goal.at.find-requires c).After-face))

pub clause-requires-2 : goal.clause-requires-2
clause-requires-2 c = head_known (goal.at.clause-requires-2 c).After-face

pub clause-requires-in-Some : goal.clause-requires-in-Some
clause-requires-in-Some c = head_known (goal.at.clause-requires-in-Some c).After-face

pub name-requires : goal.name-requires
name-requires c = head_known (goal.at.name-requires c).After-face

pub note-requires : goal.note-requires
note-requires c = head_known (goal.at.note-requires c).After-face

pub rewatch-requires-clause-walked : goal.rewatch-requires-clause-walked
rewatch-requires-clause-walked c = standing (goal.at.rewatch-requires-clause-walked c).After-face

pub rewatch-requires-clause-second : goal.rewatch-requires-clause-second
rewatch-requires-clause-second c =
    let at = here (goal.at.rewatch-requires-clause-second c).After-face in
    c.requires.falsified ∙ at.second ∙ get_or_default (row c.face.new.arena c.args.head) 1 blank c.args.falsified (omega (arith, at.long))

-- the literal that is watched in place of the false one
found : (c : In-Some) → IsReplacement c.args.assigned.now.trail (row c.face.new.arena c.args.head) c.in-Some.j
found c = subst (λ r. IsReplacement c.args.assigned.now.trail r c.in-Some.j) c.clause-2.ensures c.in-Some.ensures

pub returns-in-Some-clause-found : goal.returns-in-Some-clause-found
returns-in-Some-clause-found c =
    let p = goal.at.returns-in-Some-clause-found c in
    let new = walked (walk_in c.rewatch.new.arena c.rewatch.new.lists c.args.falsified c.rewatch.new.walk) in
    let done = at_moved (here p.After-face) new c.in-Some.j (found p.In-Some) c.get-replacement.result
    (c.get-replacement.ensures ∙ ap (λ r. get_or r c.in-Some.j blank) c.clause-in-Some.ensures) c.args.falsified c.requires.falsified
    c.in_ok-rewatch-in-Some.ensures.clauses c.in_ok-rewatch-in-Some.ensures.lists c.in_ok-rewatch-in-Some.ensures.names in
    record {
      visiting = subst (λ m. IsVisiting c.args.log.now.inputs c.args.log.now.lines c.args.place m c.args.assigned.now new)
          (sym c.in_ok-rewatch-in-Some.ensures.kept) done.0;
      on = c.in_ok-rewatch-in-Some.ensures.next;
      same = c.in_ok-rewatch-in-Some.ensures.length;
    }

pub returns-in-Some-clause-kept : goal.returns-in-Some-clause-kept
returns-in-Some-clause-kept c =
    let p = goal.at.returns-in-Some-clause-kept c in
    let new = walked (walk_in c.rewatch.new.arena c.rewatch.new.lists c.args.falsified c.rewatch.new.walk) in
    let done = at_moved (here p.After-face) new c.in-Some.j (found p.In-Some) c.get-replacement.result
    (c.get-replacement.ensures ∙ ap (λ r. get_or r c.in-Some.j blank) c.clause-in-Some.ensures) c.args.falsified c.requires.falsified
    c.in_ok-rewatch-in-Some.ensures.clauses c.in_ok-rewatch-in-Some.ensures.lists c.in_ok-rewatch-in-Some.ensures.names in
    visit_all refl done.0

pub returns-in-Some-clause-lasting : goal.returns-in-Some-clause-lasting
returns-in-Some-clause-lasting c =
    let p = goal.at.returns-in-Some-clause-lasting c in
    let at = here p.After-face in
    let moved = found p.In-Some in
    λ n low lasting. subst (λ cs. IsLasting cs c.args.assigned.now.trail n) (sym c.in_ok-rewatch-in-Some.ensures.clauses)
    (lasting_moved c.face.new.arena.clauses c.args.assigned.now.trail n (number_in (faced p.After-face) c.args.head) at.known
    (still_lasting p.After-face n lasting) c.in-Some.j (false_at c.args.assigned.now.trail c.args.place)
    (get_or (row c.face.new.arena c.args.head) c.in-Some.j blank) moved.behind moved.within at.second refl moved.not_false
    (omega (arith, low, c.requires.visiting.within)))

pub returns-in_err-rewatch-in-Some-clause-kept : goal.returns-in_err-rewatch-in-Some-clause-kept
returns-in_err-rewatch-in-Some-clause-kept c =
    let f = (goal.at.returns-in_err-rewatch-in-Some-clause-kept c).After-face in
    visit_all (same_watch (walked (walk_in c.rewatch.new.arena c.rewatch.new.lists c.args.falsified c.rewatch.new.walk)) (walked (faced f))
    c.in_err-rewatch-in-Some.ensures.clauses c.in_err-rewatch-in-Some.ensures.lists c.in_err-rewatch-in-Some.ensures.names) (here f).visiting

pub returns-in_err-rewatch-in-Some-clause-lasting : goal.returns-in_err-rewatch-in-Some-clause-lasting
returns-in_err-rewatch-in-Some-clause-lasting c =
    λ n low lasting. subst (λ cs. IsLasting cs c.args.assigned.now.trail n) (sym c.in_err-rewatch-in-Some.ensures.clauses)
    (still_lasting (goal.at.returns-in_err-rewatch-in-Some-clause-lasting c).After-face n lasting)

pub keep-requires-2-clause-walked : goal.keep-requires-2-clause-walked
keep-requires-2-clause-walked c = standing (goal.at.keep-requires-2-clause-walked c).After-face

pub keep-requires-2-clause-first : goal.keep-requires-2-clause-first
keep-requires-2-clause-first c =
    let p = goal.at.keep-requires-2-clause-first c in
    first p.After-get-other ∙ get_or_default (row c.face.new.arena c.args.head) 0 blank c.get-other.result (omega (arith, (here p.After-face).long))

-- no other literal is left to be watched, and the clause has this hint
rest : (c : After-decode_hint-hint) → AreFalseFrom c.args.assigned.now.trail (row c.face.new.arena c.args.head) 2 (length (row c.face.new.arena c.args.head))
rest c = subst (λ r. AreFalseFrom c.args.assigned.now.trail r 2 (length r)) c.clause-2.ensures c.in-None.ensures

hint_is : (f : After-face) (c : After-decode_hint-hint) → c.face.new.arena ≡ f.face.new.arena → c.args.head ≡ f.args.head
    → c.decode_hint-hint.result ≡ get_or (map hint_of f.face.new.arena.names) (number_in (faced f) f.args.head) blank_hint
hint_is f c arena_is head_is =
    let at = here f in
    named_at f.face.new.arena.names f.face.new.arena.clauses (number_in (faced f) f.args.head) c.name.result c.decode_hint-hint.result
    at.visiting.stored.paired at.known c.decode_hint-hint.ensures (rw (← arena_is, ← head_is) c.name.ensures)

pub returns-then-holds-2-clause-kept : goal.returns-then-holds-2-clause-kept
returns-then-holds-2-clause-kept c = visit_all c.keep-2.ensures.same (here (goal.at.returns-then-holds-2-clause-kept c).After-face).visiting

pub returns-then-holds-2-clause-found : goal.returns-then-holds-2-clause-found
returns-then-holds-2-clause-found c =
    let p = goal.at.returns-then-holds-2-clause-found c in
    at_conflict (here p.After-face) (rest p.After-decode_hint-hint) (first p.After-get-other) (hint_is p.After-face p.After-decode_hint-hint refl refl)
    (subst (Contains (literals_of c.args.assigned.now.trail)) c.opposite.ensures (c.holds-2.ensures.0 c.if-holds-2.true))

pub returns-then-holds-2-clause-lasting : goal.returns-then-holds-2-clause-lasting
returns-then-holds-2-clause-lasting c = λ n low lasting. still_lasting (goal.at.returns-then-holds-2-clause-lasting c).After-face n lasting

pub returns-in_err-assign-clause-kept : goal.returns-in_err-assign-clause-kept
returns-in_err-assign-clause-kept c =
    visit_same c.assign.new.self c.in_err-assign.ensures.trail c.in_err-assign.ensures.letters
    (visit_all c.keep-2.ensures.same (here (goal.at.returns-in_err-assign-clause-kept c).After-face).visiting)

pub returns-in_err-assign-clause-lasting : goal.returns-in_err-assign-clause-lasting
returns-in_err-assign-clause-lasting c =
    λ n low lasting. subst (λ t. IsLasting c.face.new.arena.clauses t n) (sym c.in_err-assign.ensures.trail)
    (still_lasting (goal.at.returns-in_err-assign-clause-lasting c).After-face n lasting)

pub returns-clause-kept : goal.returns-clause-kept
returns-clause-kept c =
    let p = goal.at.returns-clause-kept c in
    let at = here p.After-face in
    let e : TrailEntry = record { literal = c.get-other.result; level = c.level-level.result; reason = Some c.decode_hint-hint.result } in
    let one = first p.After-get-other in
    let stands = at_forced at (rest p.After-decode_hint-hint) one c.level-level.ensures (hint_is p.After-face p.After-decode_hint-hint refl refl) in
    visit_all (ap (λ (a : ArenaValue). walked (walk_in a c.keep-2.new.lists c.args.falsified c.keep-2.new.walk)) c.note.ensures ∙ c.keep-2.ensures.same)
    (at_assigned at e c.assign.new.self stands one c.in_ok-assign.ensures.trail c.in_ok-assign.ensures.letters)

pub returns-clause-found : goal.returns-clause-found
returns-clause-found c =
    let p = goal.at.returns-clause-found c in
    let at = here p.After-face in
    let e : TrailEntry = record { literal = c.get-other.result; level = c.level-level.result; reason = Some c.decode_hint-hint.result } in
    let one = first p.After-get-other in
    let stands = at_forced at (rest p.After-decode_hint-hint) one c.level-level.ensures (hint_is p.After-face p.After-decode_hint-hint refl refl) in
    kept_passed (before p.After-face) (walk_in c.note.new.self c.keep-2.new.lists c.args.falsified c.keep-2.new.walk) (walked (faced p.After-face))
    (ap (λ (a : ArenaValue). walked (walk_in a c.keep-2.new.lists c.args.falsified c.keep-2.new.walk)) c.note.ensures ∙ c.keep-2.ensures.same)
    c.keep-2.ensures.kept c.keep-2.ensures.next c.keep-2.ensures.length
    (at_assigned at e c.assign.new.self stands one c.in_ok-assign.ensures.trail c.in_ok-assign.ensures.letters)

pub returns-clause-lasting : goal.returns-clause-lasting
returns-clause-lasting c =
    λ n low lasting. subst (λ (a : ArenaValue). IsLasting a.clauses c.assign.new.self.trail n) (sym c.note.ensures)
    (subst (λ t. IsLasting c.face.new.arena.clauses t n) (sym c.in_ok-assign.ensures.trail)
    (lasting_grown c.face.new.arena.clauses c.args.assigned.now.trail n
    (record { literal = c.get-other.result; level = c.level-level.result; reason = Some c.decode_hint-hint.result })
    (omega (arith, low, c.requires.visiting.within)) (still_lasting (goal.at.returns-clause-lasting c).After-face n lasting)))
