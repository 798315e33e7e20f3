use Rattle.std.proofs.Common.{◌≡◌, true, false, ◌∷◌, ◌++◌, [], List, ap, sym, subst}
use Rattle.std.proofs.lemmas.Result.{on_ok_weaker}
use Rattle.depast.specs.declared.symbol.Symbol.{Symbol}
use Rattle.depast.specs.declared.symbol.Symbol.TheVariants as symbols
use Rattle.depast.specs.Depast.{residue₁}
use Rattle.depast.specs.Symbols.{Writes}
use Rattle.depast.proofs.Operators.{residue_kept, kept_by}
use Rattle.depast.proofs.Rows.{reads_on}
use Rattle.depast.proofs.ResidueRows.{goes_on_behind}
use Rattle.depast.proofs.residue_row.put_residue.Goals as goal

pub returns-in-YesterdayTimes : goal.returns-in-YesterdayTimes
returns-in-YesterdayTimes c = on_ok_weaker c.put_step.result (λ puts l d front back e s w.
    subst (λ op. (new : List Symbol) × (c.put_step.new.row.items ≡ front ++ new) × Writes l new (residue₁ l.new c.args.name op d)) (sym c.in-YesterdayTimes.is)
    (puts l d front back e s w)) c.put_step.ensures

pub returns-in-OnceIn : goal.returns-in-OnceIn
returns-in-OnceIn c = on_ok_weaker c.put_range.result (λ puts l d front back e s w.
    subst (λ op. (new : List Symbol) × (c.put_range.new.row.items ≡ front ++ new) × Writes l new (residue₁ l.new c.args.name op d)) (sym c.in-OnceIn.is)
    (puts l d false front back e s w)) c.put_range.ensures

pub returns-in-HistoricallyIn : goal.returns-in-HistoricallyIn
returns-in-HistoricallyIn c = on_ok_weaker c.put_range-in-HistoricallyIn.result (λ puts l d front back e s w.
    subst (λ op. (new : List Symbol) × (c.put_range-in-HistoricallyIn.new.row.items ≡ front ++ new) × Writes l new (residue₁ l.new c.args.name op d))
    (sym c.in-HistoricallyIn.is) (puts l d true front back e s w)) c.put_range-in-HistoricallyIn.ensures

pub returns-in_ok-push-in_default : goal.returns-in_ok-push-in_default
returns-in_ok-push-in_default c l d front back e s w =
    let kept = residue_kept l.new c.args.name c.args.op d
    (kept_by c.args.op c.in_default.not-Yesterday c.in_default.not-WeakYesterday c.in_default.not-Once c.in_default.not-Historically
    c.in_default.not-YesterdayTimes c.in_default.not-OnceIn c.in_default.not-HistoricallyIn) in (
      back ++ symbols.Unary c.args.op ∷ [],
      goes_on_behind front back (symbols.Unary c.args.op ∷ []) c.args.row.now.items c.push.new.self.items e c.in_ok-push-in_default.ensures.items,
      λ r. reads_on l back (symbols.Unary c.args.op ∷ []) r (d ∷ r) (residue₁ l.new c.args.name c.args.op d ∷ r) (w r)
          (c.requires.order, ap (λ g. g ∷ r) (sym kept)),
    )
