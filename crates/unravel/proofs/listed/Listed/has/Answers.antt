use Rattle.std.proofs.Common.{◌≡◌, ◌<◌, ◌≤◌, arith, ap, sym, ◌∙◌, subst}
use Rattle.ltl_syntax.specs.declared.node.Kind.TheVariants as Kinds
use Rattle.clause_index.specs.Indexed.{IndexedValue}
use Rattle.clause_index.specs.PairParts.{IsPart}
use Rattle.unravel.proofs.Listing.{part_of}
use Rattle.unravel.proofs.listed.Listed.has.Goals as goal

pub returns-in-Infinite : goal.returns-in-Infinite
returns-in-Infinite c = λ h.
    let known = part_of c.self.inside.indexed c.self.inside.closure.now c.self.inside.depth Kinds.Infinite c.args.part c.self.invariant
    (sym c.kind.ensures ∙ c.in-Infinite.is) (c.is_infinite_part.ensures h) in
    let depth : c.self.inside.indexed.depth ≡ c.self.inside.depth = ap (λ (x : IndexedValue). x.depth) c.self.invariant in
    subst (λ (x : IndexedValue). (c.args.pair.earlier < c.args.pair.later) × (c.args.pair.later ≤ x.depth) × IsPart x.formula x.kind c.args.part) c.self.view_is
    (omega (arith, c.if-pair.false), omega (arith, c.if-pair-self.false, depth), known)

pub returns-in-Finite : goal.returns-in-Finite
returns-in-Finite c = λ h.
    let known = part_of c.self.inside.indexed c.self.inside.closure.now c.self.inside.depth Kinds.Finite c.args.part c.self.invariant
    (sym c.kind.ensures ∙ c.in-Finite.is) (c.is_finite_part.ensures h) in
    let depth : c.self.inside.indexed.depth ≡ c.self.inside.depth = ap (λ (x : IndexedValue). x.depth) c.self.invariant in
    subst (λ (x : IndexedValue). (c.args.pair.earlier < c.args.pair.later) × (c.args.pair.later ≤ x.depth) × IsPart x.formula x.kind c.args.part) c.self.view_is
    (omega (arith, c.if-pair.false), omega (arith, c.if-pair-self.false, depth), known)
