use Rattle.std.proofs.Common.{◌∷◌, ◌∙◌, ap, ap₂, sym, subst, eqb, filter, Contains}
use Rattle.std.proofs.lemmas.List.Filters.{dedup_is}
use Rattle.cnf_base.specs.declared.literal.Hint.TheVariants as hints
use Rattle.cert_text.specs.Writing.{is_ended, named_lines, ended_at}
use Rattle.cert_text.proofs.Ending.{ended_list}
use Rattle.cert_text.proofs.writing.ended.Goals as goal

pub returns : goal.returns
returns c hss k are low at is later =
    let found = c.in_ok-ended_by.ensures ∙ ap₂ (λ n hs. filter (is_ended c.args.last.now c.args.targets.now n) (n ∷ named_lines hs)) at is in
    ended_list hss c.args.last.now c.args.targets.now c.ended_by.new.found.items c.sort.new.self.items c.dedup.new.self.items k are low
    (λ i there. later i (subst (λ hs. Contains hs (hints.Line i)) (sym is) there)) found c.in_ok-sort.ensures.permutation c.in_ok-sort.ensures.sorted
    (dedup_is eqb c.sort.new.self.items c.dedup.new.self.items c.dedup.ensures.filtered)
    ∙ ap (ended_at hss c.args.targets.now) (sym at)
